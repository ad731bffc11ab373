-- What the check keeps of the trees that wait, and how its steps answer. Assumes nothing.
use Rattle.std.specs.Prelude.{◌≡◌, ℕ, Bool, true, List, Some, None, Ok, Err, Option, Result}
use Rattle.parts.specs.declared.part.Form.{Form}
use Rattle.parts.specs.declared.part.Form.TheVariants.{Empty, Symbol, Choice, Sequence, Interleave, Count, Nonempty}
use Rattle.parts.specs.declared.refusal.PartFault.{PartFault}
use Rattle.parts.specs.Refusals.{Notice, part_notice, at_part}
use Rattle.models.specs.Told.{Told, AllFormed}
use Rattle.models.specs.Trees.{Tree, has_symbol}

-- the flag says whether the tree is or holds a symbol part
abbrev pub flags : Tree → Bool → Type 0
flags t v = v ≡ has_symbol t

-- the flag of what a nonempty part takes; the others ask for none
abbrev pub flag_taken : Form → Option Bool → Bool
flag_taken Empty v = true
flag_taken (Symbol s) v = true
flag_taken Choice v = true
flag_taken Sequence v = true
flag_taken Interleave v = true
flag_taken (Count repeats) v = true
flag_taken Nonempty None = true
flag_taken Nonempty (Some v) = v

-- where a step leaves trees waiting, the flags afterwards tell of them; else the fault is the step's
abbrev pub Admitted : ℕ → Result (List Tree) ℕ → Result (Unit {0}) PartFault → List Bool → Type 0
Admitted n (Ok us) (Ok u) vs = Told flags us vs × AllFormed us
Admitted n (Ok us) (Err fault) vs = ⊥
Admitted n (Err question) (Ok u) vs = ⊥
Admitted n (Err question) (Err fault) vs = part_notice fault ≡ at_part question n

-- the answer is Ok where the parts read to a tree; else its fault is the reading's
abbrev pub Answers : Result Tree Notice → Result (Unit {0}) PartFault → Type 0
Answers (Ok t) (Ok u) = Unit {0}
Answers (Ok t) (Err fault) = ⊥
Answers (Err n) (Ok u) = ⊥
Answers (Err n) (Err fault) = part_notice fault ≡ n
