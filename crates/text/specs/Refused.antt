-- What the refusal of a next declaration tells, and how it, a text's fault and its cause are printed. Assumes nothing.
use Rattle.std.specs.Prelude.{ℕ, List, ◌++◌, codes, decimal}
use Rattle.parts.specs.Refusals.{Notice, at_set, notice, refusal_said}
use Rattle.text.specs.Causes.{TextNotice, text_notice}
use Rattle.text.specs.declared.fault.TextCause.{TextCause}
use Rattle.text.specs.declared.fault.TextCause.TheVariants.{NotDeclarations, AnyContent, DeclaredAgain, LongName, TooManyNames, TooManyDeclarations, TooDeep, TooManyParts}
use Rattle.text.specs.declared.refusal.ReadRefusal.{ReadRefusal}
use Rattle.text.specs.declared.refusal.ReadRefusal.TheVariants.{SheetLength, Table, Text}

-- number, layer and place of a refusal
abbrev pub read_notice : ReadRefusal → Notice
read_notice (SheetLength l) = at_set 1 l
read_notice (Table refusal) = notice refusal
read_notice (Text f) = (text_notice f).notice

-- what is printed of a text's fault: the refusal, and what came before
abbrev pub text_fault_said : TextNotice → List ℕ
text_fault_said n =
    refusal_said n.notice
    ++ (codes ", after " ++ (decimal n.texts ++ (codes " texts and " ++ (decimal n.declarations ++ codes " declarations"))))

-- what is printed of a refusal
abbrev pub read_refusal_said : ReadRefusal → List ℕ
read_refusal_said (SheetLength l) = refusal_said (read_notice (SheetLength l))
read_refusal_said (Table refusal) = refusal_said (read_notice (Table refusal))
read_refusal_said (Text f) = text_fault_said (text_notice f)

-- a cause in words
abbrev pub cause_said : TextCause → List ℕ
cause_said NotDeclarations = codes "no declarations from here on"
cause_said AnyContent = codes "ANY is not taken"
cause_said DeclaredAgain = codes "declared already"
cause_said LongName = codes "a name of over 32 bytes"
cause_said TooManyNames = codes "over 64 names"
cause_said TooManyDeclarations = codes "over 32 declarations"
cause_said TooDeep = codes "over 16 groups open at once"
cause_said TooManyParts = codes "over 256 parts"
