-- Which symbol a name has, and that it stays while names are added. Assumes nothing.
use Rattle.std.proofs.Common.{◌≡◌, ℕ, suc, ◌+◌, ◌<◌, ◌≤◌, true, false, ◌||◌, List, [], ◌∷◌, ◌++◌, length, take, Some, sym, refl, ap, ◌∙◌, ⊎_elim, append_assoc, append-nil, length-append, arith}
use Rattle.std.proofs.lemmas.Bool.{cases_Bool, cond-true, cond-false, or_parts, or_right}
use Rattle.std.proofs.lemmas.List.{take_at}
use Rattle.std.proofs.lemmas.Slice.Eq.{bytes_eq-Decides}
use Rattle.std.specs.List.{slice_get}
use Rattle.std.specs.Str.{bytes_eq}
use Rattle.names.specs.Numbering.{symbol_in, is_known, known_after}

pub known-append : (ks ms : List (List ℕ)) (n : List ℕ) → is_known (ks ++ ms) n ≡ (is_known ks n || is_known ms n)
known-append [] ms n = refl
known-append (k ∷ ks) ms n =
    ⊎_elim (λ e. rw e refl) (λ e. rw e (known-append ks ms n)) (cases_Bool (bytes_eq k n))

-- a name of the front has the symbol that it has there
pub symbol-front : (ks ms : List (List ℕ)) (n : List ℕ) → is_known ks n ≡ true → symbol_in (ks ++ ms) n ≡ symbol_in ks n
symbol-front [] ms n known = cc
symbol-front (k ∷ ks) ms n known =
    ⊎_elim (λ e. rw e refl) (λ e. rw e (ap suc (symbol-front ks ms n (rw e at known)))) (cases_Bool (bytes_eq k n))

-- any other is sought behind it
pub symbol-behind : (ks ms : List (List ℕ)) (n : List ℕ) → is_known ks n ≡ false → symbol_in (ks ++ ms) n ≡ length ks + symbol_in ms n
symbol-behind [] ms n new = sym (omega arith)
symbol-behind (k ∷ ks) ms n new =
    let (other, rest) = or_parts (bytes_eq k n) (is_known ks n) new in
    let behind = symbol-behind ks ms n rest in
    rw other (omega arith)

pub symbol_below : (ks : List (List ℕ)) (n : List ℕ) → is_known ks n ≡ true → symbol_in ks n < length ks
symbol_below [] n known = absurd (cc)
symbol_below (k ∷ ks) n known =
    ⊎_elim (λ e. rw e (omega arith)) (λ e. let below = symbol_below ks n (rw e at known) in rw e (omega arith)) (cases_Bool (bytes_eq k n))

pub symbol_of_new : (ks : List (List ℕ)) (n : List ℕ) → is_known ks n ≡ false → symbol_in ks n ≡ length ks
symbol_of_new ks n new = ap (λ xs. symbol_in xs n) (sym (append-nil ks)) ∙ symbol-behind ks [] n new ∙ omega arith

-- a known name stands at its symbol
pub at_symbol : (ks : List (List ℕ)) (n : List ℕ) → is_known ks n ≡ true → slice_get ks (symbol_in ks n) ≡ Some n
at_symbol [] n known = cc
at_symbol (k ∷ ks) n known =
    ⊎_elim (λ e. rw e (ap Some ((bytes_eq-Decides k n).0 e))) (λ e. rw e (at_symbol ks n (rw e at known))) (cases_Bool (bytes_eq k n))

-- so two known names with one symbol are the same
pub same_symbol : (ks : List (List ℕ)) (m n : List ℕ) → is_known ks m ≡ true → is_known ks n ≡ true → symbol_in ks m ≡ symbol_in ks n → m ≡ n
same_symbol ks m n first second e =
    let one = at_symbol ks m first in
    let two = at_symbol ks n second in
    let same = ap (slice_get ks) e in
    cc

-- one name met adds nothing, or itself, behind those known
pub met_known : (ks : List (List ℕ)) (n : List ℕ) → is_known ks n ≡ true → known_after ks (n ∷ []) ≡ ks
met_known ks n known = cond-true (is_known ks n) ks (ks ++ (n ∷ [])) known

pub met_new : (ks : List (List ℕ)) (n : List ℕ) → is_known ks n ≡ false → known_after ks (n ∷ []) ≡ ks ++ (n ∷ [])
met_new ks n new = cond-false (is_known ks n) ks (ks ++ (n ∷ [])) new

pub equals_itself : (n : List ℕ) → bytes_eq n n ≡ true
equals_itself n = (bytes_eq-Decides n n).1 refl

pub known_once_met : (ks : List (List ℕ)) (n : List ℕ) → is_known (known_after ks (n ∷ [])) n ≡ true
known_once_met ks n =
    ⊎_elim (λ e. rw (met_known ks n e) e)
    (λ e. rw (met_new ks n e, known-append ks (n ∷ []) n) (or_right (is_known ks n) (is_known (n ∷ []) n) (rw (equals_itself n) refl)))
    (cases_Bool (is_known ks n))

pub met_in_turn : (ks ms ns : List (List ℕ)) → known_after ks (ms ++ ns) ≡ known_after (known_after ks ms) ns
met_in_turn ks [] ns = refl
met_in_turn ks (m ∷ ms) ns = met_in_turn (known_after ks (m ∷ [])) ms ns

-- what is added behind the known names while others are met
pub added_behind : (ks ns : List (List ℕ)) → (more : List (List ℕ)) × (known_after ks ns ≡ ks ++ more)
added_behind ks [] = ([], sym (append-nil ks))
added_behind ks (n ∷ ns) =
    let (more, e) = added_behind (known_after ks (n ∷ [])) ns in
    ⊎_elim (λ known. (more, e ∙ ap (λ xs. xs ++ more) (met_known ks n known)))
    (λ new. (n ∷ more, e ∙ ap (λ xs. xs ++ more) (met_new ks n new) ∙ append_assoc ks (n ∷ []) more))
    (cases_Bool (is_known ks n))

pub front_stays : (ks ns : List (List ℕ)) → take (length ks) (known_after ks ns) ≡ ks
front_stays ks ns =
    let (more, e) = added_behind ks ns in
    ap (take (length ks)) e ∙ take_at ks more (length ks) refl

pub no_fewer : (ks ns : List (List ℕ)) → length ks ≤ length (known_after ks ns)
no_fewer ks ns =
    let (more, e) = added_behind ks ns in
    let long = ap length e ∙ length-append ks more in
    omega arith

pub stays_known : (ks ns : List (List ℕ)) (n : List ℕ) → is_known ks n ≡ true → is_known (known_after ks ns) n ≡ true
stays_known ks ns n known =
    let (more, e) = added_behind ks ns in
    rw (e, known-append ks more n, known) refl

pub symbol_stays : (ks ns : List (List ℕ)) (n : List ℕ) → is_known ks n ≡ true → symbol_in (known_after ks ns) n ≡ symbol_in ks n
symbol_stays ks ns n known =
    let (more, e) = added_behind ks ns in
    rw e (symbol-front ks more n known)

pub each_met_known : (ks before after : List (List ℕ)) (n : List ℕ) → is_known (known_after ks (before ++ (n ∷ after))) n ≡ true
each_met_known ks before after n =
    rw (met_in_turn ks before (n ∷ after)) (stays_known (known_after (known_after ks before) (n ∷ [])) after n (known_once_met (known_after ks before) n))
