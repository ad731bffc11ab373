-- Lists and groups are read exactly. Assumes nothing.
use Rattle.std.proofs.Common.{◌≡◌, Bool, true, false, cond, List, [], ◌∷◌, ◌++◌, Some, None, Option, IsSome, is_some, sym, refl, ap, ◌∙◌, subst}
use Rattle.std.proofs.lemmas.List.{append_assoc, append-nil}
use Rattle.std.proofs.lemmas.Bool.{false≢true}
use Rattle.grammar.specs.Words.{Join, Mark, Words, Sign, is_plain, is_member, goes_on, IsList, signs}
use Rattle.grammar.specs.Lists.{Left, State, left_signs, spelled, put, closed, step, run, start, Ends, ReadExactly, Begins, ViableExactly}
use Rattle.grammar.specs.Words.Words.{name, nothing, group, marked, joined}
use Rattle.grammar.specs.Words.Sign.{names, empties, opens, closes, suffix, separator}
use Rattle.grammar.specs.Lists.State.{want, got}

-- the state after a list whose words are w, in the groups o
abbrev pub after : List Left → Words → State
after o (name n) = got o None (name n)
after o nothing = got o None nothing
after o (group w) = got o None (group w)
after o (marked w m) = got o None (marked w m)
after o (joined l j r) = got o (Some (l, j)) r

abbrev pub Members : Words → Type 0
Members w = is_member w ≡ true → (o : List Left) (l : Left) (ss : List Sign) → run (signs w ++ ss) (Some (want o l)) ≡ run ss (Some (got o l w))

abbrev pub Lists : Words → Type 0
Lists w = (o : List Left) (ss : List Sign) → run (signs w ++ ss) (Some (want o None)) ≡ run ss (Some (after o w))

-- from the state after a list: a closing sign, and a separator by which it may go on
pub close_after : (w : Words) (o : List Left) (l : Left) → step (after (l ∷ o) w) closes ≡ Some (got o l (group w))
close_after (name n) o l = refl
close_after nothing o l = refl
close_after (group w) o l = refl
close_after (marked w m) o l = refl
close_after (joined a j b) o l = refl

go_after : (w : Words) (o : List Left) (j : Join) → goes_on w j ≡ true → step (after o w) (separator j) ≡ Some (want o (Some (w, j)))
go_after (name n) o j e = refl
go_after nothing o j e = refl
go_after (group w) o j e = refl
go_after (marked w m) o j e = refl
go_after (joined a k b) o j e = rw e refl

-- a member alone is a list
alone : (w : Words) → is_member w ≡ true → (o : List Left) → got o None w ≡ after o w
alone (name n) e o = refl
alone nothing e o = refl
alone (group w) e o = refl
alone (marked w m) e o = refl
alone (joined a j b) e o = absurd (false≢true e)

list_of_member : (w : Words) → is_member w ≡ true → Members w → Lists w
list_of_member w e f o ss = f e o None ss ∙ ap (λ σ. run ss (Some σ)) (alone w e o)

group_read : (w : Words) → Lists w → Members (group w)
group_read w f e o l ss =
    ap (λ ts. run ts (Some (want (l ∷ o) None))) (append_assoc (signs w) (closes ∷ []) ss)
    ∙ f (l ∷ o) (closes ∷ ss) ∙ ap (run ss) (close_after w o l)

marked_read : (w : Words) (m : Mark) → is_plain w ≡ true → Members w → is_member w ≡ true → Members (marked w m)
marked_read w m plain f e h o l ss =
    ap (λ ts. run ts (Some (want o l))) (append_assoc (signs w) (suffix m ∷ []) ss)
    ∙ f e o l (suffix m ∷ ss) ∙ rw plain refl

plain_member : (w : Words) → is_plain w ≡ true → is_member w ≡ true
plain_member (name n) e = refl
plain_member nothing e = refl
plain_member (group w) e = refl
plain_member (marked w m) e = absurd (false≢true e)
plain_member (joined a j b) e = absurd (false≢true e)

joined_read : (a : Words) (j : Join) (b : Words) → goes_on a j ≡ true → is_member b ≡ true → Lists a → Members b → Lists (joined a j b)
joined_read a j b on e f g o ss =
    ap (λ ts. run ts (Some (want o None))) (append_assoc (signs a) (separator j ∷ signs b) ss)
    ∙ f o (separator j ∷ (signs b ++ ss)) ∙ ap (run (signs b ++ ss)) (go_after a o j on) ∙ g e o (Some (a, j)) ss

-- what is written is read
pub read_back : (w : Words) → IsList w → Members w × Lists w
read_back (name n) h = let f : Members (name n) = λ e o l ss. refl in (f, list_of_member (name n) refl f)
read_back nothing h = let f : Members nothing = λ e o l ss. refl in (f, list_of_member nothing refl f)
read_back (group w) h = let f = group_read w (read_back w h).1 in (f, list_of_member (group w) refl f)
read_back (marked w m) h =
    let f = marked_read w m h.1 (read_back w h.0).0 (plain_member w h.1) in (f, list_of_member (marked w m) refl f)
read_back (joined a j b) h =
    (λ e. absurd (false≢true e), joined_read a j b h.1 h.3 (read_back a h.0).1 (read_back b h.2).0)

abbrev pub GoodLeft : Left → Type 0
GoodLeft None = Unit {0}
GoodLeft (Some (a, j)) = IsList a × (goes_on a j ≡ true)

abbrev pub GoodOuter : List Left → Type 0
GoodOuter [] = Unit {0}
GoodOuter (l ∷ o) = GoodLeft l × GoodOuter o

abbrev pub Good : State → Type 0
Good (want o l) = GoodOuter o × GoodLeft l
Good (got o l w) = GoodOuter o × GoodLeft l × IsList w × (is_member w ≡ true)

pub none_some : (τ : State) → None ≡ Some τ → ⊥
none_some τ e = false≢true (ap is_some e)

-- a state's list with its last member
pub whole : (l : Left) (w : Words) → GoodLeft l → IsList w → is_member w ≡ true → IsList (put l w) × (signs (put l w) ≡ left_signs l ++ signs w)
whole None w g h e = (h, refl)
whole (Some (a, j)) w g h e = ((g.0, g.1, h, e), sym (append_assoc (signs a) (separator j ∷ []) (signs w)))

abbrev pub Sound : State → Sign → Option State → Type 0
Sound σ s None = Unit {0}
Sound σ s (Some τ) = (spelled τ ≡ spelled σ ++ (s ∷ [])) × Good τ

cond_sound : (σ : State) (s : Sign) (b : Bool) (τ : State) → (b ≡ true → Sound σ s (Some τ)) → Sound σ s (cond b (Some τ) None)
cond_sound σ s true τ h = h refl
cond_sound σ s false τ h = tt

closed_sound : (o : List Left) (l : Left) (w : Words) → Good (got o l w) → Sound (got o l w) closes (closed o (put l w))
closed_sound [] l w g = tt
closed_sound (k ∷ o) l w g =
    let h = whole l w g.1 g.2 g.3 in
    (rw h.1 (simp append_assoc), (g.0.1, g.0.0, h.0, refl))

pub step_sound : (σ : State) (s : Sign) → Good σ → Sound σ s (step σ s)
step_sound (want o l) (names n) g = (simp append_assoc, (g.0, g.1, tt, refl))
step_sound (want o l) empties g = (simp append_assoc, (g.0, g.1, tt, refl))
step_sound (want o l) opens g = (simp (append_assoc, append-nil), ((g.1, g.0), tt))
step_sound (want o l) closes g = tt
step_sound (want o l) (suffix m) g = tt
step_sound (want o l) (separator j) g = tt
step_sound (got o l w) (names n) g = tt
step_sound (got o l w) empties g = tt
step_sound (got o l w) opens g = tt
step_sound (got o l w) closes g = closed_sound o l w g
step_sound (got o l w) (suffix m) g =
    cond_sound (got o l w) (suffix m) (is_plain w) (got o l (marked w m)) (λ e. (simp append_assoc, (g.0, g.1, (g.2, e), refl)))
step_sound (got o l w) (separator j) g =
    let h = whole l w g.1 g.2 g.3 in
    cond_sound (got o l w) (separator j) (goes_on (put l w) j) (want o (Some (put l w, j))) (λ e. (rw h.1 (simp append_assoc), (g.0, (h.0, e))))

abbrev pub Reached : List Sign → Option State → Type 0
Reached ss None = Unit {0}
Reached ss (Some σ) = (spelled σ ≡ ss) × Good σ

pub run_none : (ss : List Sign) → run ss None ≡ None
run_none [] = refl
run_none (s ∷ ss) = run_none ss

pub run_sound : (ss before : List Sign) (o : Option State) → Reached before o → Reached (before ++ ss) (run ss o)
run_sound [] before o h = subst (λ xs. Reached xs o) (sym (append-nil before)) h
run_sound (s ∷ ss) before None h = rw run_none tt
run_sound (s ∷ ss) before (Some σ) h =
    subst (λ xs. Reached xs (run ss (step σ s))) (append_assoc before (s ∷ []) ss)
    (run_sound ss (before ++ (s ∷ [])) (step σ s) (went (step σ s) (step_sound σ s h.1)))
  where
    went : (o : Option State) → Sound σ s o → Reached (before ++ (s ∷ [])) o
    went None k = tt
    went (Some τ) k = (k.0 ∙ ap (λ xs. xs ++ (s ∷ [])) h.0, k.1)

-- a run of the first signs and then of the others
pub run_on : (ss ts : List Sign) (o : Option State) → run (ss ++ ts) o ≡ run ts (run ss o)
run_on [] ts o = refl
run_on (s ∷ ss) ts None = run_on ss ts None
run_on (s ∷ ss) ts (Some σ) = run_on ss ts (step σ s)

-- from each state some signs end the list
abbrev pub close_all : List Left → List Sign
close_all [] = []
close_all (l ∷ o) = closes ∷ close_all o

abbrev pub CanEnd : Option State → Type 0
CanEnd o = (l : Left) × (w : Words) × (o ≡ Some (got [] l w))

pub closing : (o : List Left) (l : Left) (w : Words) → CanEnd (run (close_all o) (Some (got o l w)))
closing [] l w = (l, w, refl)
closing (k ∷ o) l w = closing o k (group (put l w))

pub completion : (σ : State) → (ss : List Sign) × CanEnd (run ss (Some σ))
completion (want o l) = (empties ∷ close_all o, closing o l nothing)
completion (got o l w) = (close_all o, closing o l w)

pub read_exactly : ReadExactly
read_exactly ss w = (forth, back)
  where
    ended : (v : Words) → (l : Left) × (r : Words) × (after [] v ≡ got [] l r) × (v ≡ put l r)
    ended (name n) = (None, name n, refl, refl)
    ended nothing = (None, nothing, refl, refl)
    ended (group v) = (None, group v, refl, refl)
    ended (marked v m) = (None, marked v m, refl, refl)
    ended (joined a j b) = (Some (a, j), b, refl, refl)

    forth : IsList w × (signs w ≡ ss) → Ends ss w
    forth (h, e) =
        let (l, r, a, p) = ended w in
        (l, r, ap (λ xs. run xs start) (sym e ∙ sym (append-nil (signs w))) ∙ (read_back w h).1 [] [] ∙ ap (λ σ. Some σ) a, p)

    back : Ends ss w → IsList w × (signs w ≡ ss)
    back (l, r, e, p) =
        let k = subst (Reached ss) e (run_sound ss [] start (refl, (tt, tt))) in
        let h = whole l r k.1.1 k.1.2 k.1.3 in
        rw p (h.0, h.1 ∙ k.0)

-- a run that ends has not stopped before
pub some_before : (ss : List Sign) (o : Option State) (τ : State) → run ss o ≡ Some τ → IsSome o
some_before ss None τ e = absurd (none_some τ (sym (run_none ss) ∙ e))
some_before ss (Some σ) τ e = refl

starts : (ss : List Sign) (o : Option State) → Reached ss o → run ss start ≡ o → IsSome o → Begins ss
starts ss None k e h = absurd (false≢true h)
starts ss (Some σ) k e h =
    let (more, (l, w, ran)) = completion σ in
    let all : run (ss ++ more) start ≡ Some (got [] l w) = run_on ss more start ∙ ap (run more) e ∙ ran in
    let (good, written) = (read_exactly (ss ++ more) (put l w)).1 (l, w, all, refl) in
    (put l w, more, good, written)

pub viable_exactly : ViableExactly
viable_exactly ss = (
  (λ (w, more, h, e).
      let (l, r, ran, p) = (read_exactly (ss ++ more) w).0 (h, e) in
      some_before more (run ss start) (got [] l r) (sym (run_on ss more start) ∙ ran)),
  (λ h. starts ss (run ss start) (run_sound ss [] start (refl, (tt, tt))) refl h),
)
