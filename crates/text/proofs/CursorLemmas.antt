-- What a cursor's steps leave of the text. Assumes nothing.
use Rattle.std.proofs.Common.{◌≡◌, ℕ, suc, ◌+◌, ◌<◌, ◌≤◌, Bool, true, false, List, [], ◌∷◌, length, take, drop, get_or, cond, refl, ap, sym, subst, ◌∙◌, arith, Err}
use Rattle.std.specs.Prelude.{nat_lt}
use Rattle.std.proofs.lemmas.List.{length-take-le, length-drop, take-append-drop}
use Rattle.std.proofs.Math.Seq.{drop-append_seam}
use Rattle.std.proofs.lemmas.Bool.Decides.{nat_tests}
use Rattle.std.specs.List.{prefix_len, starts_with}
use Rattle.std.proofs.Math.Dec.{eqb}
use Rattle.text.proofs.Runs.{run_of}
use Rattle.grammar.specs.Bytes.{Each, is_blank, begins_name, goes_in_name, IsSomeSpace, IsSpace, IsName, NameEnds}
use Rattle.text.specs.declared.cursor.Cursor.{Cursor}
use Rattle.text.specs.Cursors.{rest_of, Moved, Stayed, BlanksRead, WordRead}
use Rattle.text.specs.Fronts.{Past, RunIs, agreed}
use Rattle.text.proofs.Words.{Parted, parted, differs_at}

-- what is left after a step
pub moved_rest : (old new : Cursor) (g : List ℕ) → Moved old g new → rest_of new ≡ drop (length g) (rest_of old)
moved_rest old new g m = sym (ap (drop (length g)) m.read ∙ drop-append_seam g (rest_of new))

pub taken_rest : (old new : Cursor) (n : ℕ) → n ≤ length (rest_of old) → Moved old (take n (rest_of old)) new → rest_of new ≡ drop n (rest_of old)
taken_rest old new n le m = moved_rest old new (take n (rest_of old)) m ∙ ap (λ k. drop k (rest_of old)) (length-take-le n (rest_of old) le)

pub stayed : (old new : Cursor) → Moved old [] new → Stayed old new
stayed old new m = (m.same, m.at ∙ omega arith)

some_space : (g : List ℕ) → 0 < length g → IsSpace g → IsSomeSpace g
some_space [] lt h = absurd (omega arith)
some_space (b ∷ g) lt h = h

blanks_run : (old new : Cursor) (n : ℕ) → RunIs is_blank (rest_of old) n → Moved old (take n (rest_of old)) new → BlanksRead old (nat_lt 0 n) new
blanks_run old new n (le, each, past) m = by (nat_lt 0 n) refl
  where
    size : length (take n (rest_of old)) ≡ n
    size = length-take-le n (rest_of old) le

    left : Past is_blank (rest_of new)
    left = subst (Past is_blank) (sym (taken_rest old new n le m)) past

    by : (b : Bool) → nat_lt 0 n ≡ b → BlanksRead old b new
    by true e =
        let lt : 0 < n = grind (arith, nat_tests) in
        ((take n (rest_of old), some_space (take n (rest_of old)) (omega (arith, size)) each, m), left)
    by false e =
        let none : n ≡ 0 = grind (arith, nat_tests) in
        (stayed old new (subst (λ k. Moved old (take k (rest_of old)) new) none m), left)

pub blanks_le : (c : Cursor) (rest : List ℕ) (n : ℕ) → rest ≡ rest_of c → n ≡ prefix_len is_blank rest → n ≤ length (rest_of c)
blanks_le c rest n same count = (run_of is_blank (rest_of c) rest n same count).0

pub blanks_read : (old new : Cursor) (rest : List ℕ) (n : ℕ) → rest ≡ rest_of old → n ≡ prefix_len is_blank rest → Moved old (take n (rest_of old)) new → BlanksRead old (nat_lt 0 n) new
blanks_read old new rest n same count m = blanks_run old new n (run_of is_blank (rest_of old) rest n same count) m

is_name : (rest : List ℕ) (n : ℕ) → 1 ≤ length rest → begins_name (get_or rest 0 0) ≡ true → n ≡ prefix_len goes_in_name rest → Each goes_in_name (take n rest) → IsName (take n rest)
is_name [] n some begins count each = absurd (omega arith)
is_name (b ∷ bs) n some begins count each = subst (λ k. Each goes_in_name (take k (b ∷ bs)) → IsName (take k (b ∷ bs))) (sym more) (λ (h : Each goes_in_name (b ∷ take (prefix_len goes_in_name bs) bs)). (begins, h.1)) each
  where
    goes : goes_in_name b ≡ true
    goes = rw begins

    more : n ≡ suc (prefix_len goes_in_name bs)
    more = count ∙ (ap (λ t. cond t (1 + prefix_len goes_in_name bs) 0) goes ∙ omega arith)

name_ends : (bs : List ℕ) → Past goes_in_name bs → NameEnds bs
name_ends [] h = tt
name_ends (b ∷ bs) h = h

name_run : (old new : Cursor) (n : ℕ) → 1 ≤ length (rest_of old) → begins_name (get_or (rest_of old) 0 0) ≡ true → n ≡ prefix_len goes_in_name (rest_of old)
    → Moved old (take n (rest_of old)) new → Moved old (take n (rest_of old)) new × IsName (take n (rest_of old)) × NameEnds (rest_of new)
name_run old new n some begins count m =
    let run = run_of goes_in_name (rest_of old) (rest_of old) n refl count in
    (m, is_name (rest_of old) n some begins count run.1, name_ends (rest_of new) (subst (Past goes_in_name) (sym (taken_rest old new n run.0 m)) run.2))

pub name_read : (old new : Cursor) (rest : List ℕ) (n : ℕ) {begun : Bool} → rest ≡ rest_of old → 1 ≤ length rest → begun ≡ begins_name (get_or rest 0 0) → begun ≡ true → n ≡ prefix_len goes_in_name rest
    → Moved old (take (length (take n rest)) (rest_of old)) new → Moved old (take n rest) new × IsName (take n rest) × NameEnds (rest_of new)
name_read old new rest n same some is begun count m =
    subst (λ r. Moved old (take n r) new × IsName (take n r) × NameEnds (rest_of new)) (sym same)
    (name_run old new n (subst (λ r. 1 ≤ length r) same some) (subst (λ r. begins_name (get_or r 0 0) ≡ true) same (sym is ∙ begun)) (subst (λ r. n ≡ prefix_len goes_in_name r) same count)
    (subst (λ k. Moved old (take k (rest_of old)) new) size m))
  where
    size : length (take n rest) ≡ n
    size = length-take-le n rest (run_of goes_in_name rest rest n refl count).0

pub agreed_le : (c : Cursor) (word rest : List ℕ) (n : ℕ) → rest ≡ rest_of c → n ≡ agreed word rest → c.at + n ≤ length c.text.now
agreed_le c word rest n same count =
    let p : Parted word rest n = subst (Parted word rest) (sym count) (parted word rest) in
    let left : n ≤ length (rest_of c) = subst (λ r. n ≤ length r) same p.fits in
    omega (arith, length-drop c.at c.text.now, c.inside)

pub word_differs : (c : Cursor) (word rest : List ℕ) (n : ℕ) {r : Bool} → rest ≡ rest_of c → r ≡ starts_with eqb rest word → r ≡ false → n ≡ agreed word rest → WordRead c word (Err (c.at + n)) c
word_differs c word rest n {r} same is starts count =
    ((refl, refl), (take n word, drop n word, drop n rest, sym (take-append-drop n word), sym same ∙ p.same, differs_at word rest n p (is) starts, ap (λ k. c.at + k) (sym (length-take-le n word p.within))))
  where
    p : Parted word rest n
    p = subst (Parted word rest) (sym count) (parted word rest)
