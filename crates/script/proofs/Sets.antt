-- The set that fields write, symbol by symbol. Assumes nothing.
use Rattle.std.proofs.Common.{◌≡◌, ℕ, ◌≤◌, false, ◌⊎◌, List, [], ◌∷◌, Some, None, codes, Option, sym, refl, ap, ◌∙◌, subst, inl, inr}
use lib.Bits.{bit_or}
use Rattle.std.specs.Str.{bytes_eq}
use Rattle.std.proofs.lemmas.Bool.{cond-false}
use Rattle.parts.specs.Sets.{In, only}
use Rattle.parts.specs.declared.symbols.SymbolSet.{SymbolSet}
use Rattle.parts.proofs.SymbolSets.{in_left, in_right, in_either, in_none, in_only, only_in}
use Rattle.script.specs.Reads.{number_read, fields, set_after, set_read, Names, SetHas}

-- the set has what was in it before, and the symbols that the fields write
abbrev Has : ℕ → List (List ℕ) → Option SymbolSet → Type 0
Has old fs None = Unit {0}
Has old fs (Some set) = (s : ℕ) → (In set.bits s → In old s ⊎ ((s ≤ 63) × Names fs s)) × (In old s ⊎ ((s ≤ 63) × Names fs s) → In set.bits s)

has_more : (old x : ℕ) (f : List ℕ) (fs : List (List ℕ)) (o : Option SymbolSet) → number_read f ≡ Some x → Has (bit_or old (only x)) fs o → Has old (f ∷ fs) o
has_more old x f fs None e h = tt
has_more old x f fs (Some set) e h = λ s. (
  (λ i. elim ((h s).0 i) [ inl j ↦ before s (in_either old (only x) s j) | inr n ↦ inr (n.0, inr n.1) ]),
  (λ i. (h s).1 (elim i [ inl j ↦ inl (in_left old (only x) s j) | inr n ↦ after s n.0 n.1 ])),
)
  where
    before : (s : ℕ) → In old s ⊎ In (only x) s → In old s ⊎ ((s ≤ 63) × Names (f ∷ fs) s)
    before s (inl j) = inl j
    before s (inr j) = inr (j.0, inl (e ∙ ap Some (in_only x s j)))

    after : (s : ℕ) → s ≤ 63 → Names (f ∷ fs) s → In (bit_or old (only x)) s ⊎ ((s ≤ 63) × Names fs s)
    after s low (inl r) = let same : s ≡ x = cc in inl (in_right old (only x) s (subst (λ n. In (only n) s) same (only_in s low)))
    after s low (inr n) = inr (low, n)

has_after : (old : ℕ) (fs : List (List ℕ)) → Has old fs (set_after old fs)
has_after old [] = λ s. ((λ i. inl i), (λ i. elim i [ inl j ↦ j | inr n ↦ absurd n.1 ]))
has_after old (f ∷ fs) = at (number_read f) refl (λ set. has_after set fs)
  where
    at : (o : Option ℕ) → number_read f ≡ o → ((set : ℕ) → Has set fs (set_after set fs)) → Has old (f ∷ fs) (elim o [ None ↦ None | Some s ↦ set_after (bit_or old (only s)) fs ])
    at None e more = tt
    at (Some x) e more = has_more old x f fs _ e (more (bit_or old (only x)))

-- one field more
pub after_some : (old x : ℕ) (f : List ℕ) (fs : List (List ℕ)) → number_read f ≡ Some x → set_after old (f ∷ fs) ≡ set_after (bit_or old (only x)) fs
after_some old x f fs e = ap (λ o. elim o [ None ↦ None | Some s ↦ set_after (bit_or old (only s)) fs ]) e

pub after_none : (old : ℕ) (f : List ℕ) (fs : List (List ℕ)) → number_read f ≡ None → set_after old (f ∷ fs) ≡ None
after_none old f fs e = ap (λ o. elim o [ None ↦ None | Some s ↦ set_after (bit_or old (only s)) fs ]) e

-- what is read of a word other than '-'
module _ (word : List ℕ) (r : Option SymbolSet) (e : r ≡ set_after 0 (fields 44 word)) where
  pub plain_read : bytes_eq word (codes "-") ≡ false → r ≡ set_read word
  plain_read other = e ∙ sym (cond-false _ _ _ other)

  has_since : (o : Option SymbolSet) → Has 0 (fields 44 word) o → SetHas word o
  has_since None h = tt
  has_since (Some set) h = λ s. ((λ i. elim ((h s).0 i) [ inl j ↦ absurd (in_none s j) | inr n ↦ n ]), (λ n. (h s).1 (inr n)))

  pub plain_has : SetHas word r
  plain_has = has_since r (subst (Has 0 (fields 44 word)) (sym e) (has_after 0 (fields 44 word)))
