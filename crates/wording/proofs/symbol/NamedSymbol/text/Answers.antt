use Rattle.std.proofs.Common.{◌≡◌, ℕ, List, Bool, true, false, Result, Some, Ok, Err, MatchOption, MatchResult, decimal, cond, Bor, sym, ◌∙◌, ap, refl}
use Rattle.std.specs.Option.{option_copied}
use Rattle.std.specs.Result.{result_ok}
use Rattle.std.specs.Str.{IsUtf8, is_utf8, IsValidUpTo, valid_up_to}
use Rattle.std.specs.declared.str.Utf8Error.{Utf8Error}
use Rattle.std.proofs.lemmas.Str.{IsUtf8-from_is_utf8, is_utf8-from_IsUtf8}
use Rattle.wording.specs.Symbols.{name_or_number}
use Rattle.wording.proofs.symbol.NamedSymbol.text.Goals as goal

-- a name that is no text gives way to the number
number_is : (name : List ℕ) (s : ℕ) (b : Bool) → is_utf8 name ≡ b → ¬ (IsUtf8 name) → cond b name (decimal s) ≡ decimal s
number_is name s true e not_text = absurd (not_text (IsUtf8-from_is_utf8 name e))
number_is name s false e not_text = refl

-- what reading the name as text gives is what is said
said : (s : ℕ) (name : List ℕ) (r : Result (Bor (List ℕ)) Utf8Error)
    → MatchResult r (λ t. (t.now ≡ name) × IsUtf8 name) (λ e. ¬ (IsUtf8 name) × IsValidUpTo name (valid_up_to e))
    → MatchOption (result_ok r) (name_or_number (Some name) s ≡ decimal s) (λ t. name_or_number (Some name) s ≡ t.now)
said s name (Ok t) (same, text) = ap (λ b. cond b name (decimal s)) (is_utf8-from_IsUtf8 name text) ∙ sym same
said s name (Err e) (not_text, _) = number_is name s (is_utf8 name) refl not_text

pub returns-in-Some : goal.returns-in-Some
returns-in-Some c =
    let found = sym c.name.ensures.there ∙ ap option_copied c.in-Some.is in
    rw (found, c.ok.ensures.value) (said c.args.self.now.symbol c.in-Some.name.now c.from_utf8.result c.from_utf8.ensures.cases)
