-- How the inside of a comment is read. Assumes nothing.
use Rattle.std.proofs.Common.{◌≡◌, ◌≢◌, ℕ, ◌+◌, ◌-◌, ◌<◌, ◌≤◌, ◌⊎◌, inl, inr, true, false, List, [], ◌∷◌, ◌++◌, length, get_or, take, drop, take_all, append_assoc, length-append, length-drop, refl, ap, sym, subst, ◌∙◌, arith}
use Rattle.std.specs.Prelude.{◌==◌}
use Rattle.std.proofs.Math.Seq.{drop-append_seam}
use Rattle.std.proofs.lemmas.Bool.Decides.{nat_tests}
use Rattle.grammar.specs.Bytes.{is_char, Bit, plain, dashed, IsBit, AreBits, bit, bits}
use Rattle.text.specs.declared.cursor.bytes.Part.TheVariants.{Inner, Broken}
use Rattle.text.specs.Fronts.{PartIs, Breaks}

not_so : (a b : ℕ) → a ≢ b → (a == b) ≡ false
not_so a b h = grind (arith, nat_tests)

-- the slice from a place on, as a call gets it
abbrev pub sliced : List ℕ → ℕ → List ℕ
sliced text at = take (length text - at) (drop at text)

pub sliced_is : (text : List ℕ) (at : ℕ) → sliced text at ≡ drop at text
sliced_is text at = take_all (length text - at) (drop at text) (omega (arith, length-drop at text))

-- a byte of the inside, behind no '-' or behind one
pub alone : (text : List ℕ) → 1 ≤ length text → get_or text 0 0 ≢ 45 → is_char (get_or text 0 0) ≡ true → PartIs text (Inner 1)
alone [] some other good = absurd (omega arith)
alone (b ∷ rest) some other good = (plain b, rest, (good, not_so b 45 other), refl, refl)

pub behind : (text : List ℕ) → 1 ≤ length text → get_or text 0 0 ≢ 45 → is_char (get_or text 0 0) ≡ true → PartIs (45 ∷ text) (Inner 2)
behind [] some other good = absurd (omega arith)
behind (b ∷ rest) some other good = (dashed b, rest, (good, not_so b 45 other), refl, refl)

-- behind '-' it breaks
pub broken_end : (text : List ℕ) → length text < 1 → PartIs (45 ∷ text) (Broken 1)
broken_end [] none = (45 ∷ [], [], refl, tt, refl, refl)
broken_end (b ∷ rest) none = absurd (omega arith)

pub broken_byte : (text : List ℕ) → 1 ≤ length text → get_or text 0 0 ≢ 45 → is_char (get_or text 0 0) ≡ false → PartIs (45 ∷ text) (Broken 1)
broken_byte [] some other bad = absurd (omega arith)
broken_byte (b ∷ rest) some other bad = (45 ∷ [], b ∷ rest, refl, (not_so b 45 other, bad), refl, refl)

-- behind '--' it breaks
broken_two : (rest : List ℕ) → (length rest < 1) ⊎ (get_or rest 0 0 ≢ 62) → Breaks (45 ∷ 45 ∷ []) rest
broken_two [] h = tt
broken_two (b ∷ rest) (inl none) = absurd (omega arith)
broken_two (b ∷ rest) (inr other) = not_so b 62 other

pub broken_dashes : (text : List ℕ) → 1 ≤ length text → get_or text 0 0 ≡ 45 → (length (sliced text 1) < 1) ⊎ (get_or (sliced text 1) 0 0 ≢ 62) → PartIs (45 ∷ text) (Broken 2)
broken_dashes [] some dash h = absurd (omega arith)
broken_dashes (b ∷ rest) some dash h =
    (45 ∷ 45 ∷ [], rest, (refl, refl), broken_two rest (subst (λ r. (length r < 1) ⊎ (get_or r 0 0 ≢ 62)) (sliced_is (b ∷ rest) 1) h), refl, ap (λ c. 45 ∷ c ∷ rest) dash)

-- so many bytes of the text are the inside of a comment
pub record ReadSoFar (text : List ℕ) (n : ℕ) : Type 0 where
  pub us : List Bit
  pub good : AreBits us
  pub size : n ≡ length (bits us)
  pub read : text ≡ bits us ++ drop n text

are_one_more : (us : List Bit) (u : Bit) → AreBits us → IsBit u → AreBits (us ++ (u ∷ []))
are_one_more [] u h good = (good, tt)
are_one_more (v ∷ us) u h good = (h.0, are_one_more us u h.1 good)

append_nil : (xs : List ℕ) → xs ++ [] ≡ xs
append_nil [] = refl
append_nil (x ∷ xs) = ap (λ ys. x ∷ ys) (append_nil xs)

bits_one_more : (us : List Bit) (u : Bit) → bits (us ++ (u ∷ [])) ≡ bits us ++ bit u
bits_one_more [] u = append_nil (bit u)
bits_one_more (v ∷ us) u = ap (λ xs. bit v ++ xs) (bits_one_more us u) ∙ sym (append_assoc (bit v) (bits us) (bit u))

pub read_more : (text : List ℕ) (at n : ℕ) → ReadSoFar text at → PartIs (sliced text at) (Inner n) → ReadSoFar text (at + n)
read_more text at n h (u, rest, good, size, same) = record {
  us = h.us ++ (u ∷ []);
  good = are_one_more h.us u h.good good;
  size = total;
  read = whole ∙ ap (λ xs. bits (h.us ++ (u ∷ [])) ++ xs) (sym (ap (drop (at + n)) whole ∙ (ap (λ k. drop k (bits (h.us ++ (u ∷ [])) ++ rest)) total ∙ drop-append_seam (bits (h.us ++ (u ∷ []))) rest)));
}
  where
    total : at + n ≡ length (bits (h.us ++ (u ∷ [])))
    total = omega (arith, h.size, size, ap length (bits_one_more h.us u), length-append {A = ℕ})

    whole : text ≡ bits (h.us ++ (u ∷ [])) ++ rest
    whole = h.read ∙ (ap (λ xs. bits h.us ++ xs) (sym (sliced_is text at) ∙ same) ∙ (sym (append_assoc (bits h.us) (bit u) rest) ∙ ap (λ xs. xs ++ rest) (sym (bits_one_more h.us u))))

pub within_more : (text : List ℕ) (at n : ℕ) → at ≤ length text → PartIs (sliced text at) (Inner n) → at + n ≤ length text
within_more text at n le (u, rest, good, size, same) = omega (arith, size, ap length (sym (sliced_is text at) ∙ same), length-drop at text, length-append {A = ℕ})

-- where a '-' stands first
pub dash_first : (text : List ℕ) → 1 ≤ length text → get_or text 0 0 ≡ 45 → text ≡ 45 ∷ sliced text 1
dash_first [] some dash = absurd (omega arith)
dash_first (b ∷ rest) some dash = ap (λ c. c ∷ rest) dash ∙ ap (λ r. 45 ∷ r) (sym (sliced_is (b ∷ rest) 1))
