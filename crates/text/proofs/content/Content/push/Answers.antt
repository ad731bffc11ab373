use Rattle.std.proofs.Common.{◌≡◌, ◌+◌, ◌<◌, length, ap, ◌∙◌, arith}
use Rattle.text.specs.declared.content.Content.TheInside.{Inside}
use Rattle.text.proofs.ContentLemmas.{one_more, one_over}
use Rattle.text.proofs.content.Content.push.Goals as goal
use Rattle.text.proofs.content.Content.push.Goals.{then-self-lt-MOST_PARTS, else-self-lt-MOST_PARTS}

pub returns-then-self-le-MOST_PARTS : goal.returns-then-self-le-MOST_PARTS
returns-then-self-le-MOST_PARTS c before is =
    let parts = c.self.inside.parts in
    let count = c.self.inside.count in
    let room : length parts ≡ 256 = omega arith in
    elim c.if-self-lt-MOST_PARTS.branch [
      | then-self-lt-MOST_PARTS w ↦ rw w.self-inside-is (one_more parts count c.args.part before room (omega arith) (c.self.view_is ∙ is))
      | else-self-lt-MOST_PARTS w ↦
          rw w.self-inside-is (one_over parts count (count + 1) c.args.part before room (omega arith) (omega arith) (c.self.view_is ∙ is))
    ]

pub returns-else-self-le-MOST_PARTS : goal.returns-else-self-le-MOST_PARTS
returns-else-self-le-MOST_PARTS c before is =
    let parts = c.self.inside.parts in
    let count = c.self.inside.count in
    let room : length parts ≡ 256 = omega arith in
    elim c.if-self-lt-MOST_PARTS.branch [
      | then-self-lt-MOST_PARTS w ↦ let same = ap (λ (x : Inside). x.count) w.self-inside-is in absurd (omega arith)
      | else-self-lt-MOST_PARTS w ↦
          let same = ap (λ (x : Inside). x.count) w.self-inside-is in
          let over : 256 < count = omega arith in
          rw w.self-inside-is (one_over parts count count c.args.part before room (omega arith) over (c.self.view_is ∙ is))
    ]
