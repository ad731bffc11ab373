-- What the walk for the first conflict asks of one part. Assumes nothing.
use Rattle.std.specs.Prelude.{◌≡◌, ℕ, ◌^◌, Bool, true, false, cond, not, Some, None, Decides, Option, nat_le}
use Rattle.parts.specs.declared.part.Form.{Form}
use Rattle.parts.specs.declared.part.Form.TheVariants.{Empty, Symbol, Choice, Sequence, Interleave, Count, Nonempty}
use Rattle.parts.specs.Sets.{In}

-- with the symbols seen before, and whether the part before is a symbol part
abbrev pub Clash : Option Form → ℕ → Bool → Bool → Type 0
Clash None seen after r = r ≡ false
Clash (Some Empty) seen after r = r ≡ false
Clash (Some (Symbol s)) seen after r = Decides r (In seen s)
Clash (Some Choice) seen after r = r ≡ false
Clash (Some Sequence) seen after r = r ≡ false
Clash (Some Interleave) seen after r = r ≡ false
Clash (Some (Count repeats)) seen after r = r ≡ not after
Clash (Some Nonempty) seen after r = r ≡ false

-- the set of the part's own symbol, if it has one
abbrev pub own_bits : Option Form → ℕ
own_bits None = 0
own_bits (Some Empty) = 0
own_bits (Some (Symbol s)) = cond (nat_le s 63) (2 ^ s) 0
own_bits (Some Choice) = 0
own_bits (Some Sequence) = 0
own_bits (Some Interleave) = 0
own_bits (Some (Count repeats)) = 0
own_bits (Some Nonempty) = 0

-- the form of a symbol part
abbrev pub is_symbol_form : Option Form → Bool
is_symbol_form None = false
is_symbol_form (Some Empty) = false
is_symbol_form (Some (Symbol s)) = true
is_symbol_form (Some Choice) = false
is_symbol_form (Some Sequence) = false
is_symbol_form (Some Interleave) = false
is_symbol_form (Some (Count repeats)) = false
is_symbol_form (Some Nonempty) = false
