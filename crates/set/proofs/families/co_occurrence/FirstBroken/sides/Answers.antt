use Rattle.std.proofs.Common.{sym, ◌∙◌, rules}
use Rattle.set.proofs.Bringing.{side_broken, sides_asked}
use Rattle.set.proofs.families.co_occurrence.FirstBroken.sides.Goals as goal

pub returns-in-None : goal.returns-in-None
returns-in-None g c l r f h left right =
    sides_asked (g.S.Subject.breaks c.args.self.now.subject.now) l r f h c.args.left c.args.right (search rules) (search rules) left right (sym c.or.ensures ∙ c.in-None.is) _ c.across.ensures

pub returns-in_default : goal.returns-in_default
returns-in_default g c l r f h left right =
    rw c.or.ensures
    (side_broken (g.S.Subject.breaks c.args.self.now.subject.now) l r f h c.args.left c.args.right (search rules) (search rules) left right (λ e. c.in_default.not-None (c.or.ensures ∙ e)))
