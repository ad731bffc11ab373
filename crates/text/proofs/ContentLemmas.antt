-- What is kept of parts where one is added, and where they are read. Assumes nothing.
use Rattle.std.proofs.Common.{◌≡◌, ℕ, ◌+◌, ◌<◌, ◌≤◌, ◌⊎◌, min, Bool, List, [], ◌∷◌, ◌++◌, length, take, set, sym, ap, ◌∙◌, inl, inr, Some, None, arith}
use Rattle.std.specs.Prelude.{nat_lt, Option, MatchOption, slice_range}
use Rattle.std.specs.Borrow.{Bor}
use Rattle.std.proofs.lemmas.List.{length-take, length_push, take_all, take_more_set, take-append-le}
use Rattle.std.proofs.lemmas.Bool.{ltb-true, lt-ltb, cases_lt}
use Rattle.parts.specs.declared.part.Part.{Part}
use Rattle.text.specs.Contents.{Made, made_of, AllOf}

abbrev kept : List Part → ℕ → Made
kept parts count = record { first = take (min count 256) parts; more = nat_lt 256 count }

-- how many parts there are
module _ (parts : List Part) (count : ℕ) (room : length parts ≡ 256) (ps : List Part) (is : kept parts count ≡ made_of ps) where
  first_is : take (min count 256) parts ≡ take 256 ps
  first_is = ap (λ (m : Made). m.first) is

  more_is : nat_lt 256 count ≡ nat_lt 256 (length ps)
  more_is = ap (λ (m : Made). m.more) is

  sizes : min count 256 ≡ min 256 (length ps)
  sizes =
      let e = ap length first_is in
      omega (arith, length-take (min count 256) parts, length-take 256 ps)

  size_is : count ≤ 256 → length ps ≡ count
  size_is few = elim (cases_lt 256 (length ps)) [
    | inl more ↦ let t = more_is ∙ lt-ltb 256 (length ps) more in let over = ltb-true 256 count t in omega arith
    | inr less ↦ let e = sizes in omega arith
  ]

  size_over : 256 < count → 256 < length ps
  size_over over = ltb-true 256 (length ps) (sym more_is ∙ lt-ltb 256 count over)

  parts_are : count ≤ 256 → take count parts ≡ ps
  parts_are few =
      let size = size_is few in
      let least : min count 256 ≡ count = omega arith in
      ap (λ n. take n parts) (sym least) ∙ first_is ∙ take_all 256 ps (omega arith)

same_made : (a b : List Part) (s t : Bool) → a ≡ b → s ≡ t → ◌≡◌ {A = Made} (record { first = a; more = s }) (record { first = b; more = t })
same_made a b s t e f = cc

pub one_more : (parts : List Part) (count : ℕ) (p : Part) (ps : List Part) → length parts ≡ 256 → count < 256
    → kept parts count ≡ made_of ps → kept (set parts count p) (count + 1) ≡ made_of (ps ++ (p ∷ []))
one_more parts count p ps room less is =
    let size = size_is parts count room ps is (omega arith) in
    let least : min (count + 1) 256 ≡ count + 1 = omega arith in
    let long = length_push ps p in
    same_made _ _ _ _
    (ap (λ n. take n (set parts count p)) least ∙ take_more_set parts count p (omega arith)
    ∙ ap (λ xs. xs ++ (p ∷ [])) (parts_are parts count room ps is (omega arith)) ∙ sym (take_all 256 (ps ++ (p ∷ [])) (omega arith)))
    (ap (nat_lt 256) (omega arith))

-- one that is not kept
pub one_over : (parts : List Part) (count other : ℕ) (p : Part) (ps : List Part) → length parts ≡ 256 → 256 ≤ count → 256 < other
    → kept parts count ≡ made_of ps → kept parts other ≡ made_of (ps ++ (p ∷ []))
one_over parts count other p ps room enough over is =
    let e = sizes parts count room ps is in
    let same : min other 256 ≡ min count 256 = omega arith in
    let long = length_push ps p in
    let many : 256 < length (ps ++ (p ∷ [])) = elim (cases_lt 256 count) [
      | inl more ↦ let h = size_over parts count room ps is more in omega arith
      | inr all ↦ let h = size_is parts count room ps is all in omega arith
    ] in
    same_made _ _ _ _
    (ap (λ n. take n parts) same ∙ first_is parts count room ps is ∙ sym (take-append-le 256 ps (p ∷ []) (omega arith)))
    (lt-ltb 256 other over ∙ sym (lt-ltb 256 (length (ps ++ (p ∷ []))) many))

-- all parts, where they are read
pub all_of : (parts : List Part) (count : ℕ) (ps : List Part) (r : Option (Bor (List Part))) → length parts ≡ 256
    → MatchOption r ((count < 0) ⊎ (length parts < count))
    (λ x. (0 ≤ count) × (count ≤ length parts) × (x.now ≡ slice_range parts 0 count) × (length x.now + 0 ≡ count))
    → kept parts count ≡ made_of ps → AllOf ps r
all_of parts count ps None room read is =
    elim read [ inl none ↦ absurd (omega arith) | inr over ↦ size_over parts count room ps is (omega arith) ]
all_of parts count ps (Some x) room (_, within, read, long) is =
    let few : count ≤ 256 = omega arith in
    let size = size_is parts count room ps is few in
    (read ∙ ap (λ n. take n parts) (omega arith) ∙ parts_are parts count room ps is few, omega arith)
