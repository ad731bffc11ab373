-- What a fault of a text tells, and what each cause says of the place. Assumes nothing.
use Rattle.std.specs.Prelude.{◌≡◌, ℕ, ◌<◌, ◌≤◌, ◌⊎◌, true, false, List, length}
use Rattle.parts.specs.Refusals.{Notice}
use Rattle.parts.specs.declared.refusal.Layer.TheVariants as layer
use Rattle.names.specs.Numbering.{is_known, known_after}
use Rattle.grammar.specs.Notations.{Notation}
use Rattle.grammar.specs.Words.Sign.{names, opens}
use Rattle.grammar.specs.Declarations.{Sign}
use Rattle.grammar.specs.Declarations.Sign.{element, declared, any_word, inner, ends}
use Rattle.grammar.specs.Faults.{Cause, SignStands, names_among, is_declared}
use Rattle.grammar.specs.Faults.Cause.{kind, again, beyond}
use Rattle.text.specs.declared.fault.TextCause.{TextCause}
use Rattle.text.specs.declared.fault.TextCause.TheVariants.{NotDeclarations, AnyContent, DeclaredAgain, LongName, TooManyNames, TooManyDeclarations, TooDeep, TooManyParts}
use Rattle.text.specs.declared.fault.TextFault.{TextFault}
use Rattle.names.specs.declared.names.NameFault.{NameFault}
use Rattle.names.specs.declared.names.NameFault.TheVariants.{TooLong, TooMany}

-- which fault a cause is
abbrev pub cause_of : TextCause → Cause
cause_of NotDeclarations = kind
cause_of AnyContent = again
cause_of DeclaredAgain = again
cause_of LongName = beyond
cause_of TooManyNames = beyond
cause_of TooManyDeclarations = beyond
cause_of TooDeep = beyond
cause_of TooManyParts = beyond

-- why a name is not taken
abbrev pub name_cause : NameFault → TextCause
name_cause TooLong = LongName
name_cause TooMany = TooManyNames

-- the number of a cause: of texts of element declarations 14
abbrev pub cause_number : TextCause → ℕ
cause_number NotDeclarations = 14
cause_number AnyContent = 15
cause_number DeclaredAgain = 15
cause_number LongName = 16
cause_number TooManyNames = 16
cause_number TooManyDeclarations = 16
cause_number TooDeep = 16
cause_number TooManyParts = 16

-- number, layer and place of a fault, how many texts came before, and how many declarations of this text
pub record TextNotice : Type 0 where
  pub notice : Notice
  pub texts : ℕ
  pub declarations : ℕ

abbrev pub at_text : ℕ → ℕ → Notice
at_text number place = record { number = number; layer = layer.Text; place = place }

abbrev pub text_notice : TextFault → TextNotice
text_notice f = record { notice = at_text (cause_number f.cause) f.place; texts = f.texts; declarations = f.declarations }

-- the sign is this name
abbrev pub IsNameSign : Sign → List ℕ → Type 0
IsNameSign s n = (s ≡ declared n) ⊎ (s ≡ inner (names n))

-- what a cause says of the sign s behind the signs ss, where ks are the names known before the text
abbrev pub CauseIs : List (List ℕ) → List Sign → Sign → TextCause → Type 0
CauseIs ks ss s NotDeclarations = ⊥
CauseIs ks ss s AnyContent = s ≡ any_word
CauseIs ks ss s DeclaredAgain = (n : List ℕ) × (s ≡ declared n) × (is_declared n ss ≡ true)
CauseIs ks ss s LongName = (n : List ℕ) × IsNameSign s n × (32 < length n)
CauseIs ks ss s TooManyNames =
    (n : List ℕ) × IsNameSign s n × (length n ≤ 32) × (is_known (known_after ks (names_among ss)) n ≡ false)
    × (64 ≤ length (known_after ks (names_among ss)))
CauseIs ks ss s TooManyDeclarations = s ≡ element
CauseIs ks ss s TooDeep = s ≡ inner opens
CauseIs ks ss s TooManyParts = s ≡ ends

-- the cause of a fault at a place: the text is not of its kind from there on, or a sign stands there of which the cause says so
abbrev pub Explained : Notation → List (List ℕ) → List ℕ → ℕ → TextCause → Type 0
Explained ν ks bytes q cause =
    (cause ≡ NotDeclarations) ⊎ ((ss : List Sign) × (s : Sign) × SignStands ν bytes q ss s × CauseIs ks ss s cause)
