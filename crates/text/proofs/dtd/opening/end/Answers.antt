use Rattle.std.proofs.Common.{◌==◌, [], subst, sym, arith, rules}
use Rattle.grammar.specs.Notations.Notation.{dtd}
use Rattle.text.specs.Declaring.{content_parts}
use Rattle.text.specs.Fronts.{Past}
use Rattle.text.specs.Progress.{Fails}
use Rattle.text.proofs.Opening.{past_nothing, past_other, end_misses, end_fails, end_reads, too_many, not_too_many}
use Rattle.text.proofs.dtd.opening.end.Goals.{in_default-via-then-rest-lt1, in_default-via-else-rest-lt1+in_default-1}
use Rattle.text.proofs.dtd.opening.end.Goals as goal

pub returns-in_default : goal.returns-in_default
returns-in_default c ks bytes ds n k σ e r x parts =
    let other : Past (λ b. b == 62) c.rest.result.now = elim c.in_default.branch [
      | in_default-via-then-rest-lt1 w ↦ past_nothing c.rest.result.now 62 (search rules)
      | in_default-via-else-rest-lt1+in_default-1 w ↦ past_other c.rest.result.now 62 (λ i. search rules)
    ] in
    subst (Fails dtd ks bytes ds) (sym c.misplaced.ensures)
    (end_misses ks bytes ds n k σ c.args.cursor.now c.skip_blanks.new.self c.skip_blanks.result r.cursor x c.skip_blanks.ensures
    (subst (Past (λ b. b == 62)) c.rest.ensures other))

pub returns-then-is_none : goal.returns-then-is_none
returns-then-is_none c ks bytes ds n k σ e r x parts =
    subst (Fails dtd ks bytes ds) (sym c.at.ensures)
    (end_fails ks bytes ds n k σ c.args.cursor.now c.skip_blanks.new.self c.skip_blanks.result c.rest.result.now e.names r.cursor x c.skip_blanks.ensures
    c.rest.ensures c.in-62.len_at_least (omega arith)
    (too_many (content_parts k e.names) c.parts.result (c.parts.ensures (content_parts k e.names) (parts [])) c.if-is_none.ensures))

pub returns : goal.returns
returns c ks bytes ds n k σ e r x parts =
    end_reads ks bytes ds n k σ c.args.cursor.now c.skip_blanks.new.self c.advance.new.self c.skip_blanks.result c.rest.result.now e e.names r x c.skip_blanks.ensures
    c.rest.ensures c.in-62.len_at_least (omega arith) c.advance.ensures
    (not_too_many (content_parts k e.names) c.parts.result (c.parts.ensures (content_parts k e.names) (parts [])) c.if-is_none.ensures)
