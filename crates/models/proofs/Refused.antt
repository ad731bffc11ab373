-- A table is refused exactly by its length, by a part that fails after sheets in a row, or at the end. Assumes nothing.
use Rattle.std.proofs.Common.{◌≡◌, ℕ, ◌+◌, true, false, ◌&&◌, leb, ◌⊎◌, List, [], ◌∷◌, ◌++◌, length, Ok, Err, Result, sym, refl, ap, ◌∙◌, inl, inr, ⊎_elim, arith}
use Rattle.std.proofs.lemmas.List.{append_assoc, append-nil, length-append, length_push}
use Rattle.std.proofs.lemmas.Bool.{le-leb, lt-leb, leb-true, leb-false, and_parts, and_cases, and_left, and_right, and_from, cases_Bool}
use Rattle.parts.specs.declared.part.Part.{Part}
use Rattle.parts.specs.Refusals.{Notice, at_part, at_set}
use Rattle.models.specs.Sheets.{step, reading, go_on, only}
use Rattle.models.specs.Told.{AllFormed}
use Rattle.models.specs.Trees.{Tree}
use Rattle.models.specs.Written.{sheet, laid}
use Rattle.models.specs.Refused.{RowOf, PartFails, EndFails, RefusedExactly}
use Rattle.models.proofs.Admits.{step_made}
use Rattle.models.proofs.Unlike.{err-ok}
use Rattle.models.proofs.Written.{Reads, step_laid, sheet_reads}

-- where reading fails: at a part after sheets in a row, or at the end
only_fails : (n : ℕ) (ts : List Tree) (m : Notice) → only n ts ≡ Err m → (length ts ≡ 1 → ⊥) × (m ≡ at_part 9 n)
only_fails n [] m e = ((λ z. omega arith), cc)
only_fails n (t ∷ []) m e = absurd (err-ok _ _ (sym e))
only_fails n (t ∷ u ∷ ts) m e = ((λ z. omega arith), cc)

fails_only : (n : ℕ) (ts : List Tree) → (length ts ≡ 1 → ⊥) → only n ts ≡ Err (at_part 9 n)
fails_only n [] ne = refl
fails_only n (t ∷ []) ne = absurd (ne refl)
fails_only n (t ∷ u ∷ ts) ne = refl

reading_fails : (n : ℕ) (ps before : List Part) (ts : List Tree) (m : Notice) → reading n ps ts ≡ Err m → RowOf before ts → length before ≡ n
    → PartFails (before ++ ps) m ⊎ EndFails (before ++ ps) m
reading_fails n [] before ts m e (row, formed) long =
    let (many, told) = only_fails n ts m e in
    rw (append-nil before) (inr (ts, (row, formed), many, told ∙ ap (at_part 9) (sym long)))
reading_fails n (p ∷ ps) before ts m e (row, formed) long = go (reading_fails (n + 1) ps (before ++ (p ∷ []))) (step p ts) refl
  where
    go : ((us : List Tree) (k : Notice) → reading (n + 1) ps us ≡ Err k → RowOf (before ++ (p ∷ [])) us → length (before ++ (p ∷ [])) ≡ n + 1
        → PartFails ((before ++ (p ∷ [])) ++ ps) k ⊎ EndFails ((before ++ (p ∷ [])) ++ ps) k)
        → (o : Result (List Tree) ℕ) → step p ts ≡ o → PartFails (before ++ (p ∷ ps)) m ⊎ EndFails (before ++ (p ∷ ps)) m
    go next (Err question) made =
        let failed : go_on n (Err question) (reading (n + 1) ps) ≡ Err m = rw made at e in
        let told : m ≡ at_part question n = cc in
        inl (before, p, ps, ts, question, refl, (row, formed), made, told ∙ ap (at_part question) (sym long))
    go next (Ok us) made =
        let (f, named, joined, after) = step_made p ts us made formed in
        let row_after : before ++ (p ∷ []) ≡ laid us = ap (λ xs. xs ++ (p ∷ [])) row ∙ sym (step_laid p ts us made) in
        let long_after : length (before ++ (p ∷ [])) ≡ n + 1 = length_push before p ∙ ap (λ k. k + 1) long in
        rw append_assoc at (next us m (rw made at e) (row_after, after) long_after)

-- and sheets in a row leave their trees waiting
laid_reads : (ts : List Tree) → AllFormed ts → (rest : List Part) → reading 0 (laid ts ++ rest) [] ≡ reading (length (laid ts)) rest ts
laid_reads [] formed rest = refl
laid_reads (t ∷ ts) (f, formed) rest = laid_more t ts rest (laid_reads ts formed (sheet t ++ rest)) (sheet_reads t f)
  where
    laid_more : (t : Tree) (ts : List Tree) (rest : List Part) → reading 0 (laid ts ++ (sheet t ++ rest)) [] ≡ reading (length (laid ts)) (sheet t ++ rest) ts
        → Reads t → reading 0 ((laid ts ++ sheet t) ++ rest) [] ≡ reading (length (laid ts ++ sheet t)) rest (t ∷ ts)
    laid_more t ts rest before own =
        ap (λ ps. reading 0 ps []) (append_assoc (laid ts) (sheet t) rest) ∙ before ∙ own (length (laid ts)) rest ts
        ∙ ap (λ k. reading k rest (t ∷ ts)) (sym (length-append (laid ts) (sheet t)))

fails_reading : (ps : List Part) (m : Notice) → PartFails ps m ⊎ EndFails ps m → reading 0 ps [] ≡ Err m
fails_reading ps m (inl (before, p, after, ts, question, cut, (row, formed), made, told)) =
    let start : reading 0 ps [] ≡ reading (length (laid ts)) (p ∷ after) ts = ap (λ qs. reading 0 qs []) (cut ∙ ap (λ qs. qs ++ (p ∷ after)) row) ∙ laid_reads ts formed (p ∷ after) in
    let failed : reading (length (laid ts)) (p ∷ after) ts ≡ Err (at_part question (length (laid ts))) = rw made in
    start ∙ failed ∙ ap (λ k. Err (at_part question k)) (sym (ap length row)) ∙ ap Err (sym told)
fails_reading ps m (inr (ts, (row, formed), many, told)) =
    let start : reading 0 ps [] ≡ only (length (laid ts)) ts = ap (λ qs. reading 0 qs []) (row ∙ sym (append-nil (laid ts))) ∙ laid_reads ts formed [] in
    start ∙ fails_only (length (laid ts)) ts many ∙ ap (λ k. Err (at_part 9 k)) (sym (ap length row)) ∙ ap Err (sym told)

pub refused_exactly : RefusedExactly
refused_exactly ps n =
    let size = leb 1 (length ps) && leb (length ps) 256 in (
      (λ e. ⊎_elim
          (λ t.
          let both = and_parts (leb 1 (length ps)) (leb (length ps) 256) t in
          inr (leb-true 1 (length ps) both.0, leb-true (length ps) 256 both.1, reading_fails 0 ps [] [] n (rw t at e) (refl, tt) refl))
          (λ t.
          let told : Err (at_set 4 (length ps)) ≡ Err n = rw t at e in
          inl (⊎_elim (λ z. inl (leb-false 1 (length ps) z)) (λ z. inr (leb-false (length ps) 256 z)) (and_cases (leb 1 (length ps)) (leb (length ps) 256) t), cc))
          (cases_Bool size)),
      (λ h. ⊎_elim
          (λ (out, told).
          let bad : size ≡ false = ⊎_elim (λ z. and_left (leb 1 (length ps)) _ (lt-leb 1 (length ps) z)) (λ z. and_right (leb 1 (length ps)) _ (lt-leb (length ps) 256 z)) out in
          rw (bad, told))
          (λ (low, high, failed).
          let good : size ≡ true = and_from _ _ (le-leb 1 (length ps) low) (le-leb (length ps) 256 high) in
          rw good (fails_reading ps n failed))
          h),
    )
