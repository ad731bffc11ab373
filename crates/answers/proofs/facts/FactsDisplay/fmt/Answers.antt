use Rattle.std.proofs.Common.{◌≡◌, ℕ, List, ◌++◌, is_ok, codes, decimal, sym, ap, append_assoc}
use Rattle.std.proofs.Output.{has_written_append, has_written_of_eq}
use Rattle.parts.specs.Sets.{listed}
use Rattle.answers.specs.Texts.{yes_or_no_of, conflict_said, facts_said}
use Rattle.answers.specs.declared.facts.Facts.{Facts}
use Rattle.answers.proofs.facts.FactsDisplay.fmt.Goals as goal

regroup : (a b c d e f g : List ℕ) → (a ++ (b ++ (c ++ (d ++ (e ++ f))))) ++ g ≡ a ++ (b ++ (c ++ (d ++ (e ++ (f ++ g)))))
regroup a b c d e f g = simp append_assoc

-- what is written before the conflict, and then that
whole : (f : Facts) (empty conflict : List ℕ) → empty ≡ yes_or_no_of f.empty → conflict ≡ conflict_said f.conflict
    → (decimal f.parts ++ (codes " parts, symbols " ++ (listed f.symbols.bits ++ (codes ", empty " ++ (empty ++ codes ", "))))) ++ conflict ≡ facts_said f
whole f empty conflict e h = rw (e, h) (regroup (decimal f.parts) (codes " parts, symbols ") (listed f.symbols.bits) (codes ", empty ") (yes_or_no_of f.empty) (codes ", ") (conflict_said f.conflict))

pub returns-in-Some-clause-writes : goal.returns-in-Some-clause-writes
returns-in-Some-clause-writes g c plain ok =
    let took = g.W.Write.write_str_gives in
    let start = c.write.ensures.writes plain (ap is_ok c.in_ok-write.was) in
    let end = c.write-in-Some.ensures.writes start.plain ok in
    let same = whole c.args.self.now _ _ c.yes_or_no-empty.ensures (ap conflict_said (sym c.in-Some.is)) in
    has_written_of_eq took _ _ _ _ same (has_written_append took _ _ _ _ _ start end)

pub returns-in-None-clause-writes : goal.returns-in-None-clause-writes
returns-in-None-clause-writes g c plain ok =
    let took = g.W.Write.write_str_gives in
    let start = c.write.ensures.writes plain (ap is_ok c.in_ok-write.was) in
    let end = c.write-in-None.ensures.writes start.plain ok in
    let same = whole c.args.self.now _ _ c.yes_or_no-empty.ensures (ap conflict_said (sym c.in-None.is)) in
    has_written_of_eq took _ _ _ _ same (has_written_append took _ _ _ _ _ start end)
