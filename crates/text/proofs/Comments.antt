-- What reading a comment leaves. Assumes nothing.
use Rattle.std.proofs.Common.{◌≡◌, ℕ, ◌+◌, ◌≤◌, inr, List, ◌++◌, length, get_or, take, append_assoc, length-append, refl, ap, sym, subst, ◌∙◌, arith, Ok, Err}
use Rattle.std.specs.Prelude.{codes, true}
use Rattle.std.proofs.Math.Seq.{take-append_seam}
use Rattle.grammar.specs.Bytes.{bits, comment}
use Rattle.text.specs.declared.cursor.Cursor.{Cursor}
use Rattle.text.specs.Cursors.{rest_of, Moved, CommentRead}
use Rattle.text.specs.Fronts.{Inside}
use Rattle.text.proofs.Bits.{sliced, dash_first}

opened : (c : Cursor) (rest text : List ℕ) → rest ≡ rest_of c → rest ≡ codes "<!-" ++ text → 1 ≤ length text → get_or text 0 0 ≡ 45 → rest_of c ≡ codes "<!--" ++ sliced text 1
opened c rest text same begins some dash = sym same ∙ (begins ∙ ap (λ xs. codes "<!-" ++ xs) (dash_first text some dash))

pub comment_read : (old new : Cursor) (rest text : List ℕ) (n : ℕ) → rest ≡ rest_of old → rest ≡ codes "<!-" ++ text → 1 ≤ length text → get_or text 0 0 ≡ 45
    → Inside (sliced text 1) (Ok n) → Moved old (take (4 + n + 3) (rest_of old)) new → CommentRead old (Ok true) new
comment_read old new rest text n same begins some dash (us, left, good, size, inside) m = (us, good, subst (λ g. Moved old g new) taken m)
  where
    split : rest_of old ≡ comment (bits us) ++ left
    split = opened old rest text same begins some dash ∙ ap (λ xs. codes "<!--" ++ xs) (inside ∙ sym (append_assoc (bits us) (codes "-->") left))

    long : 4 + n + 3 ≡ length (comment (bits us))
    long = omega (arith, size, length-append {A = ℕ})

    taken : take (4 + n + 3) (rest_of old) ≡ comment (bits us)
    taken = ap (take (4 + n + 3)) split ∙ (ap (λ k. take k (comment (bits us) ++ left)) long ∙ take-append_seam (comment (bits us)) left)

pub comment_broken : (c : Cursor) (rest text : List ℕ) (n : ℕ) → rest ≡ rest_of c → rest ≡ codes "<!-" ++ text → 1 ≤ length text → get_or text 0 0 ≡ 45
    → Inside (sliced text 1) (Err n) → CommentRead c (Err (c.at + 4 + n)) c
comment_broken c rest text n same begins some dash inside = inr (sliced text 1, n, opened c rest text same begins some dash, inside, refl)
