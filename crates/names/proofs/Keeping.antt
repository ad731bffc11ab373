-- How a name is found among those kept, and what holds of them when one is added. Assumes nothing.
use Rattle.std.proofs.Common.{◌≡◌, ◌≢◌, ℕ, zero, suc, ◌+◌, ◌<◌, ◌≤◌, true, false, List, [], ◌∷◌, ◌++◌, length, get_or, take, drop, set, Ok, sym, refl, ap, ◌∙◌, subst, arith}
use Rattle.std.proofs.lemmas.Bool.{false_from_ne_true, or_parts}
use Rattle.std.proofs.lemmas.List.{take_more, take_more_set, take-append-drop, drop_more, length-take-le, length_push, get_or-take}
use Rattle.std.proofs.lemmas.List.Elements.{All-push}
use Rattle.std.proofs.lemmas.List.Quantifiers.{all_pairs_push}
use Rattle.std.proofs.lemmas.Option.{get_or_from_slice_get}
use Rattle.std.proofs.lemmas.Slice.Eq.{bytes_eq-Decides}
use Rattle.std.specs.Str.{bytes_eq}
use Rattle.names.specs.Numbering.{symbol_in, is_known}
use Rattle.names.specs.Kept.{AreKept, HasSymbol, Met}
use Rattle.names.proofs.Numbering.{known-append, symbol-behind, symbol_below, at_symbol, met_known, met_new, equals_itself, known_once_met}

-- a name that is none of the first i, but the next one
pub first_at : (ks : List (List ℕ)) (n x : List ℕ) (i : ℕ) → i < length ks → x ≡ get_or ks i x
    → is_known (take i ks) n ≡ false → bytes_eq x n ≡ true → HasSymbol ks n i
first_at ks n x i within at new same =
    let rest = drop (i + 1) ks in
    let split : take i ks ++ (x ∷ rest) ≡ ks =
    ap (λ y. take i ks ++ (y ∷ rest)) at ∙ ap (λ xs. take i ks ++ xs) (sym (drop_more ks i x within)) ∙ take-append-drop i ks in
    let long = length-take-le i ks (omega arith) in
    subst (λ xs. HasSymbol xs n i) split
    (record {
      known = rw (known-append (take i ks) (x ∷ rest) n, new, same) refl;
      symbol = symbol-behind (take i ks) (x ∷ rest) n new ∙ rw (long, same) (omega arith);
    })

-- a name that is none of the first i, nor the next one
pub not_yet : (ks : List (List ℕ)) (n x : List ℕ) (i : ℕ) → i < length ks → x ≡ get_or ks i x
    → is_known (take i ks) n ≡ false → bytes_eq x n ≡ false → is_known (take (i + 1) ks) n ≡ false
not_yet ks n x i within at new other =
    let more : take (i + 1) ks ≡ take i ks ++ (x ∷ []) = take_more ks i x within ∙ ap (λ y. take i ks ++ (y ∷ [])) (sym at) in
    rw (more, known-append (take i ks) (x ∷ []) n, new, other) refl

-- a name that is unlike each is not known, and the other way round
unlike_each : (ks : List (List ℕ)) (n : List ℕ) → ((k : ℕ) (d : List ℕ) → k < length ks → get_or ks k d ≢ n) → is_known ks n ≡ false
unlike_each [] n unlike = refl
unlike_each (k ∷ ks) n unlike =
    let here = false_from_ne_true (bytes_eq k n) (λ e. unlike zero n (omega arith) ((bytes_eq-Decides k n).0 e)) in
    rw (here, unlike_each ks n (λ i d less. unlike (suc i) d (omega arith))) refl

each_unlike : (ks : List (List ℕ)) (n : List ℕ) → is_known ks n ≡ false → (k : ℕ) (d : List ℕ) → k < length ks → get_or ks k d ≢ n
each_unlike [] n new k d less = absurd (omega arith)
each_unlike (x ∷ ks) n new zero d less = λ e. let same = (bytes_eq-Decides x n).1 e in let (other, rest) = or_parts (bytes_eq x n) (is_known ks n) new in cc
each_unlike (x ∷ ks) n new (suc k) d less = each_unlike ks n (or_parts (bytes_eq x n) (is_known ks n) new).1 k d (omega arith)

-- where all are different, the name at a place has that place as its symbol
pub symbol_at : (ks : List (List ℕ)) (n : List ℕ) (i : ℕ) → AreKept ks → i < length ks → ((d : List ℕ) → n ≡ get_or ks i d) → HasSymbol ks n i
symbol_at ks n i kept within at =
    let new =
    unlike_each (take i ks) n (λ k d less.
    let long = length-take-le i ks (omega arith) in
    let before : k < i = omega arith in
    λ e. kept.different k i d before within (sym (get_or-take i ks k d before) ∙ e ∙ at d)) in
    first_at ks n n i within (at n) new (equals_itself n)

-- one name more
pub kept_more : (ks : List (List ℕ)) (n : List ℕ) → AreKept ks → length ks < 64 → length n ≤ 32 → is_known ks n ≡ false → AreKept (ks ++ (n ∷ []))
kept_more ks n kept room short new = record {
  few = let long = length_push ks n in omega arith;
  short = All-push (λ m. length m ≤ 32) ks n kept.short short;
  different = all_pairs_push (λ a b. a ≢ b) ks n kept.different (each_unlike ks n new);
}

-- the same in a longer list whose first names are these
pub kept_behind : (names ks : List (List ℕ)) (n x : List ℕ) (i : ℕ) → i < length names → take i names ≡ ks → x ≡ n
    → AreKept ks → length ks < 64 → length n ≤ 32 → is_known ks n ≡ false → AreKept (take (i + 1) (set names i x))
kept_behind names ks n x i within front e kept room short new =
    rw (take_more_set names i x within, front, e) (kept_more ks n kept room short new)

-- a known name is met again
pub met_again : (ks : List (List ℕ)) (n : List ℕ) (s : ℕ) → AreKept ks → HasSymbol ks n s → Met ks n (Ok s) ks
met_again ks n s kept has =
    let there = at_symbol ks n has.known in
    let at = get_or_from_slice_get ks (symbol_in ks n) n n there in
    let short = kept.short (symbol_in ks n) n (symbol_below ks n has.known) in
    (rw at at short, kept.few, sym (met_known ks n has.known), has)

-- a new name is met first
pub met_first : (ks new : List (List ℕ)) (n : List ℕ) (s : ℕ) → is_known ks n ≡ false → new ≡ ks ++ (n ∷ []) → s ≡ length ks
    → length n ≤ 32 → AreKept new → Met ks n (Ok s) new
met_first ks new n s unknown e last short kept =
    let after = e ∙ sym (met_new ks n unknown) in (
      short,
      kept.few,
      after,
      record {
        known = rw after (known_once_met ks n);
        symbol = ap (λ xs. symbol_in xs n) e ∙ symbol-behind ks (n ∷ []) n unknown ∙ rw (equals_itself n, last) (omega arith);
      },
    )
