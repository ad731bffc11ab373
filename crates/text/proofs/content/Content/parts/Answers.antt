use Rattle.std.proofs.Common.{◌≡◌, length, ◌∙◌, arith}
use Rattle.text.proofs.ContentLemmas.{all_of}
use Rattle.text.proofs.content.Content.parts.Goals as goal

pub returns : goal.returns
returns c all is =
    let room : length c.self.inside.parts ≡ 256 = omega arith in
    all_of c.self.inside.parts c.self.inside.count all c.get.result room c.get.ensures.lookup.0 (c.self.view_is ∙ is)
