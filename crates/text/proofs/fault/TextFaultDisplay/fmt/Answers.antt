use Rattle.std.proofs.Common.{◌≡◌, ℕ, List, ◌++◌, codes, decimal, append_assoc}
use Rattle.std.proofs.Output.{has_written_of_eq}
use Rattle.text.specs.Causes.{text_notice}
use Rattle.text.specs.Refused.{text_fault_said}
use Rattle.text.specs.declared.fault.TextFault.{TextFault}
use Rattle.text.proofs.fault.TextFaultDisplay.fmt.Goals as goal

regroup : (a b c d e f g : List ℕ) → a ++ (b ++ (c ++ (d ++ (e ++ (f ++ g))))) ≡ (a ++ (b ++ (c ++ (d ++ (e ++ f))))) ++ g
regroup a b c d e f g = simp append_assoc

-- the refusal, and then what came before
whole : (f : TextFault) (n : ℕ) → n ≡ (text_notice f).notice.number
    → codes "refused "
    ++ (decimal n
    ++ (codes ", "
    ++ (codes "text"
    ++ (codes ", place "
    ++ (decimal f.place
    ++ (codes ", after " ++ (decimal f.texts ++ (codes " texts and " ++ (decimal f.declarations ++ codes " declarations")))))))))
    ≡ text_fault_said (text_notice f)
whole f n h =
    rw h (regroup (codes "refused ") (decimal (text_notice f).notice.number) (codes ", ") (codes "text") (codes ", place ") (decimal f.place)
    (codes ", after " ++ (decimal f.texts ++ (codes " texts and " ++ (decimal f.declarations ++ codes " declarations")))))

pub returns-clause-writes : goal.returns-clause-writes
returns-clause-writes g c plain ok =
    has_written_of_eq g.W.Write.write_str_gives _ _ _ _ (whole c.args.self.now _ c.number-number.ensures) (c.write.ensures.writes plain ok)
