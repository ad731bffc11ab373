use Rattle.std.proofs.Common.{◌≡◌, ◌*◌, subst, arith}
use Rattle.std.proofs.lemmas.Bool.Decides.{not_from_Decides}
use Rattle.occurrences.specs.Figures.{MostIs}
use Rattle.occurrences.proofs.Mosts.{endless_repeated, most_repeated_lem, none_repeated, some_repeated}
use Rattle.occurrences.proofs.occurs.most_repeated.Goals as goal

pub returns-in-NoEnd : goal.returns-in-NoEnd
returns-in-NoEnd c s low t formed h = endless_repeated s t low c.args.high formed.1 (subst (MostIs s t) c.in-NoEnd.is h)

pub returns-in-Ends : goal.returns-in-Ends
returns-in-Ends c s low t formed h =
    let (n, e, most) = subst (MostIs s t) c.in-Ends.is h in
    (c.args.high * n, c.times.ensures n c.if-high-gt0.true e, most_repeated_lem s t low c.args.high n formed.1 c.if-high-gt0.true most)

pub returns-in-Ends-2 : goal.returns-in-Ends-2
returns-in-Ends-2 c s low t formed h =
    let (n, e, most) = subst (MostIs s t) c.in-Ends-2.is h in
    (n, e, none_repeated s t low c.args.high n ((c.is_zero.ensures n e).0 c.if-is_zero.true) formed.1 most)

pub returns-in-Ends-3 : goal.returns-in-Ends-3
returns-in-Ends-3 c s low t formed h =
    let (n, e, most) = subst (MostIs s t) c.in-Ends-2.is h in
    let ne : n ≡ 0 → ⊥ = not_from_Decides _ (c.is_zero.ensures n e) c.if-is_zero.false in
    some_repeated s t low c.args.high n (omega arith) (omega arith) most
