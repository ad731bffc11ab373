-- The signs of declarations are read exactly. Assumes nothing.
use Rattle.std.proofs.Common.{◌≡◌, ℕ, ◌⊎◌, inl, inr, Bool, true, false, cond, List, [], ◌∷◌, ◌++◌, Some, None, Option, is_some, sym, refl, ap, ◌∙◌, subst}
use Rattle.std.proofs.lemmas.List.{append_assoc, append-nil}
use Rattle.std.proofs.lemmas.Bool.{false≢true}
use Rattle.grammar.specs.Words.{Words, Sign as Inner, IsList, signs}
use Rattle.grammar.specs.Words.Words.{name, nothing, group, marked, joined}
use Rattle.grammar.specs.Words.Join.{alt, next, both}
use Rattle.grammar.specs.Words.Mark.{any}
use Rattle.grammar.specs.Words.Sign.{names, empties, opens, closes, suffix, separator}
use Rattle.grammar.specs.Lists.{State, step, run, start}
use Rattle.grammar.specs.Lists.State.{want, got}
use Rattle.grammar.specs.Declarations.{Content, Declaration, Sign, IsChildren, IsGroup, AreNames, IsContent, inners, alternatives, content_signs, declaration_signs, all_signs, AreDeclarations}
use Rattle.grammar.specs.Declarations.Content.{none, whatever, text, children}
use Rattle.grammar.specs.Declarations.Sign.{element, declared, empty_word, any_word, pcdata_word, inner, ends}
use Rattle.grammar.specs.Machine.{Spot, made, ended, kids_of, closing_kids, pcdata_in, kids_go, end_starless, go, goes, spaced, spelled, SignFits}
use Rattle.grammar.specs.Machine.Spot.{outside, opened, titled, kids, mixed, wanted, starless, grouped, full}
use Rattle.grammar.specs.Lists.{left_signs, spelled as inner_spelled}
use Rattle.grammar.proofs.Lists.{after, read_back, Good as InnerGood, Sound as InnerSound, step_sound, whole, none_some, run_none}

-- lists of signs
pub inners-append : (ss ts : List Inner) → inners (ss ++ ts) ≡ inners ss ++ inners ts
inners-append [] ts = refl
inners-append (s ∷ ss) ts = ap (λ us. inner s ∷ us) (inners-append ss ts)

pub alternatives-append : (ns ms : List (List ℕ)) → alternatives (ns ++ ms) ≡ alternatives ns ++ alternatives ms
alternatives-append [] ms = refl
alternatives-append (n ∷ ns) ms = ap (λ us. inner (separator alt) ∷ inner (names n) ∷ us) (alternatives-append ns ms)

pub all_signs-append : (ds es : List Declaration) → all_signs (ds ++ es) ≡ all_signs ds ++ all_signs es
all_signs-append [] es = refl
all_signs-append (d ∷ ds) es = ap (λ us. declaration_signs d ++ us) (all_signs-append ds es) ∙ sym (append_assoc (declaration_signs d) (all_signs ds) (all_signs es))

pub goes_none : (ss : List Sign) → goes ss None ≡ None
goes_none [] = refl
goes_none (s ∷ ss) = goes_none ss

pub no_spot : {X : Type 0} (τ : Spot) → None ≡ Some τ → X
no_spot τ e = absurd (false≢true (ap is_some e))

-- children
kids_run : (ss : List Inner) (more : List Sign) (ds : List Declaration) (n : List ℕ) (σ τ : State) → run ss (Some σ) ≡ Some τ
    → goes (inners ss ++ more) (Some (kids ds n σ)) ≡ goes more (Some (kids ds n τ))
kids_run [] more ds n σ τ e = ap (λ x. goes more (Some (kids ds n (elim x [ None ↦ σ | Some ρ ↦ ρ ])))) e
kids_run (s ∷ ss) more ds n σ τ e = went (λ ρ r. kids_run ss more ds n ρ τ r) (step σ s) refl e
  where
    same : (σ : State) (s : Inner) (ρ : State) → step σ s ≡ Some ρ → kids_go ds n σ s ≡ Some (kids ds n ρ)
    same σ (names m) ρ k = ap (kids_of ds n) k
    same σ empties ρ k = ap (kids_of ds n) k
    same σ opens ρ k = ap (kids_of ds n) k
    same (want o l) closes ρ k = absurd (none_some ρ k)
    same (got [] l w) closes ρ k = absurd (none_some ρ k)
    same (got (j ∷ o) l w) closes ρ k = ap (kids_of ds n) k
    same σ (suffix m) ρ k = ap (kids_of ds n) k
    same σ (separator j) ρ k = ap (kids_of ds n) k

    went : ((ρ : State) → run ss (Some ρ) ≡ Some τ → goes (inners ss ++ more) (Some (kids ds n ρ)) ≡ goes more (Some (kids ds n τ)))
        → (o : Option State) → step σ s ≡ o → run ss o ≡ Some τ → goes (inners (s ∷ ss) ++ more) (Some (kids ds n σ)) ≡ goes more (Some (kids ds n τ))
    went others None k r = absurd (none_some τ (sym (run_none ss) ∙ r))
    went others (Some ρ) k r = ap (goes (inners ss ++ more)) (same σ s ρ k) ∙ others ρ r

kids_close : (v : Words) (ds : List Declaration) (n : List ℕ) → closing_kids ds n (after [] v) ≡ Some (grouped ds n v)
kids_close (name m) ds n = refl
kids_close nothing ds n = refl
kids_close (group w) ds n = refl
kids_close (marked w m) ds n = refl
kids_close (joined a j b) ds n = refl

group_go : (v : Words) (more : List Sign) (ds : List Declaration) (n : List ℕ) → IsList v
    → goes (inners (signs (group v)) ++ more) (Some (titled ds n)) ≡ goes more (Some (grouped ds n v))
group_go v more ds n h =
    let ran : run (signs v) start ≡ Some (after [] v) = ap (λ xs. run xs start) (sym (append-nil (signs v))) ∙ (read_back v h).1 [] [] in
    ap (λ xs. goes (xs ++ more) (Some (kids ds n (want [] None)))) (inners-append (signs v) (closes ∷ []))
    ∙ ap (λ xs. goes xs (Some (kids ds n (want [] None)))) (append_assoc (inners (signs v)) (inner closes ∷ []) more)
    ∙ kids_run (signs v) (inner closes ∷ more) ds n (want [] None) (after [] v) ran
    ∙ ap (goes more) (kids_close v ds n)

-- mixed content
mates_go : (ns ms : List (List ℕ)) (more : List Sign) (ds : List Declaration) (n : List ℕ)
    → goes (alternatives ns ++ more) (Some (mixed ds n ms)) ≡ goes more (Some (mixed ds n (ms ++ ns)))
mates_go [] ms more ds n = ap (λ xs. goes more (Some (mixed ds n xs))) (sym (append-nil ms))
mates_go (m ∷ ns) ms more ds n =
    mates_go ns (ms ++ (m ∷ [])) more ds n ∙ ap (λ xs. goes more (Some (mixed ds n xs))) (append_assoc ms (m ∷ []) ns)

text_end : (ns : List (List ℕ)) (starred : Bool) (more : List Sign) (ds : List Declaration) (n : List ℕ) → (ns ≡ []) ⊎ (starred ≡ true)
    → goes (cond starred (inner (suffix any) ∷ []) [] ++ (ends ∷ more)) (Some (starless ds n ns)) ≡ goes more (Some (ended ds n (text ns starred)))
text_end ns true more ds n h = refl
text_end [] false more ds n h = refl
text_end (m ∷ ns) false more ds n (inl e) = absurd (false≢true (ap (λ xs. elim xs [ [] ↦ true | y ∷ ys ↦ false ]) e))
text_end (m ∷ ns) false more ds n (inr e) = absurd (false≢true e)

text_go : (ns : List (List ℕ)) (starred : Bool) (more : List Sign) (ds : List Declaration) (n : List ℕ) → (ns ≡ []) ⊎ (starred ≡ true)
    → goes ((content_signs (text ns starred) ++ (ends ∷ [])) ++ more) (Some (titled ds n)) ≡ goes more (Some (ended ds n (text ns starred)))
text_go ns starred more ds n h =
    ap (λ xs. goes xs (Some (mixed ds n [])))
    (append_assoc (alternatives ns ++ (inner closes ∷ cond starred (inner (suffix any) ∷ []) [])) (ends ∷ []) more
    ∙ append_assoc (alternatives ns) (inner closes ∷ cond starred (inner (suffix any) ∷ []) []) (ends ∷ more))
    ∙ mates_go ns [] (inner closes ∷ (cond starred (inner (suffix any) ∷ []) [] ++ (ends ∷ more))) ds n
    ∙ text_end ns starred more ds n h

-- a content and its end
content_go : (c : Content) (more : List Sign) (ds : List Declaration) (n : List ℕ) → IsContent c
    → goes ((content_signs c ++ (ends ∷ [])) ++ more) (Some (titled ds n)) ≡ goes more (Some (ended ds n c))
content_go none more ds n h = refl
content_go whatever more ds n h = refl
content_go (text ns starred) more ds n h = text_go ns starred more ds n h.1
content_go (children (name m)) more ds n h = absurd h.2
content_go (children nothing) more ds n h = absurd h.2
content_go (children (group v)) more ds n h =
    ap (λ xs. goes xs (Some (titled ds n))) (append_assoc (inners (signs (group v))) (ends ∷ []) more)
    ∙ group_go v (ends ∷ more) ds n h.0
content_go (children (marked (name k) m)) more ds n h = absurd h.2
content_go (children (marked nothing m)) more ds n h = absurd h.2
content_go (children (marked (group v) m)) more ds n h =
    ap (λ xs. goes ((xs ++ (ends ∷ [])) ++ more) (Some (titled ds n))) (inners-append (signs (group v)) (suffix m ∷ []))
    ∙ ap (λ xs. goes xs (Some (titled ds n)))
    (append_assoc (inners (signs (group v)) ++ (inner (suffix m) ∷ [])) (ends ∷ []) more
    ∙ append_assoc (inners (signs (group v))) (inner (suffix m) ∷ []) (ends ∷ more))
    ∙ group_go v (inner (suffix m) ∷ ends ∷ more) ds n h.0.0
content_go (children (marked (marked w k) m)) more ds n h = absurd h.2
content_go (children (marked (joined a j b) m)) more ds n h = absurd h.2
content_go (children (joined a j b)) more ds n h = absurd h.2

-- what is written is read
pub all_go : (es ds : List Declaration) → AreDeclarations es → goes (all_signs es) (Some (outside ds)) ≡ Some (outside (ds ++ es))
all_go [] ds h = ap (λ xs. Some (outside xs)) (sym (append-nil ds))
all_go (d ∷ es) ds h =
    content_go d.content (all_signs es) ds d.name h.0.1
    ∙ all_go es (ds ++ (d ∷ [])) h.1
    ∙ ap (λ xs. Some (outside xs)) (append_assoc ds (d ∷ []) es)

-- what the signs themselves do not say
abbrev pub Done : Content → Type 0
Done none = Unit {0}
Done whatever = Unit {0}
Done (text ns starred) = (ns ≡ []) ⊎ (starred ≡ true)
Done (children w) = IsList w × IsGroup w

abbrev pub AllDone : List Declaration → Type 0
AllDone [] = Unit {0}
AllDone (d ∷ ds) = Done d.content × AllDone ds

abbrev pub Good : Spot → Type 0
Good (outside ds) = AllDone ds
Good (opened ds) = AllDone ds
Good (titled ds n) = AllDone ds
Good (kids ds n σ) = AllDone ds × InnerGood σ
Good (mixed ds n ns) = AllDone ds
Good (wanted ds n ns) = AllDone ds
Good (starless ds n ns) = AllDone ds
Good (grouped ds n v) = AllDone ds × IsList v
Good (full ds n c) = AllDone ds × Done c

AllDone-append : (ds es : List Declaration) → AllDone ds → AllDone es → AllDone (ds ++ es)
AllDone-append [] es h k = k
AllDone-append (d ∷ ds) es h k = (h.0, AllDone-append ds es h.1 k)

-- white space is wanted behind it
abbrev pub wants_space : Sign → Bool
wants_space element = true
wants_space (declared n) = true
wants_space s = false

abbrev pub Sound : Spot → Sign → Option Spot → Type 0
Sound σ s None = Unit {0}
Sound σ s (Some τ) = (spelled τ ≡ spelled σ ++ (s ∷ [])) × Good τ × (spaced τ ≡ wants_space s)

ended_sound : (ds : List Declaration) (n : List ℕ) (c : Content) (before : List Sign) → AllDone ds → Done c
    → before ≡ all_signs ds ++ (element ∷ declared n ∷ content_signs c)
    → (all_signs (ds ++ (made n c ∷ [])) ≡ before ++ (ends ∷ [])) × AllDone (ds ++ (made n c ∷ [])) × (spaced (ended ds n c) ≡ wants_space ends)
ended_sound ds n c before all done e = (
  all_signs-append ds (made n c ∷ []) ∙ ap (λ xs. all_signs ds ++ xs) (append-nil (declaration_signs (made n c)))
      ∙ sym (append_assoc (all_signs ds) (element ∷ declared n ∷ content_signs c) (ends ∷ [])) ∙ ap (λ xs. xs ++ (ends ∷ [])) (sym e),
  AllDone-append ds (made n c ∷ []) all (done, tt),
  refl,
)

inner_sound : (ds : List Declaration) (n : List ℕ) (σ : State) (s : Inner) (o : Option State) → AllDone ds → InnerSound σ s o
    → Sound (kids ds n σ) (inner s) (kids_of ds n o)
inner_sound ds n σ s None all h = tt
inner_sound ds n σ s (Some τ) all h = (
  ap (λ xs. all_signs ds ++ (element ∷ declared n ∷ inner opens ∷ xs)) (ap inners h.0 ∙ inners-append (inner_spelled σ) (s ∷ []))
      ∙ sym (append_assoc (all_signs ds) (element ∷ declared n ∷ inner opens ∷ inners (inner_spelled σ)) (inner s ∷ [])),
  (all, h.1),
  refl,
)

kids_sound : (ds : List Declaration) (n : List ℕ) (σ : State) (s : Inner) → AllDone ds → InnerGood σ → Sound (kids ds n σ) (inner s) (kids_go ds n σ s)
kids_sound ds n σ (names m) all g = inner_sound ds n σ (names m) (step σ (names m)) all (step_sound σ (names m) g)
kids_sound ds n σ empties all g = inner_sound ds n σ empties (step σ empties) all (step_sound σ empties g)
kids_sound ds n σ opens all g = inner_sound ds n σ opens (step σ opens) all (step_sound σ opens g)
kids_sound ds n (want o l) closes all g = tt
kids_sound ds n (got [] l w) closes all g =
    let h = whole l w g.1 g.2 g.3 in (
      ap (λ xs. all_signs ds ++ (element ∷ declared n ∷ inner opens ∷ xs))
          (ap (λ xs. inners (xs ++ (closes ∷ []))) h.1 ∙ inners-append (left_signs l ++ signs w) (closes ∷ []))
          ∙ sym (append_assoc (all_signs ds) (element ∷ declared n ∷ inner opens ∷ inners (left_signs l ++ signs w)) (inner closes ∷ [])),
      (all, h.0),
      refl,
    )
kids_sound ds n (got (k ∷ o) l w) closes all g =
    inner_sound ds n (got (k ∷ o) l w) closes (step (got (k ∷ o) l w) closes) all (step_sound (got (k ∷ o) l w) closes g)
kids_sound ds n σ (suffix m) all g = inner_sound ds n σ (suffix m) (step σ (suffix m)) all (step_sound σ (suffix m) g)
kids_sound ds n σ (separator j) all g = inner_sound ds n σ (separator j) (step σ (separator j)) all (step_sound σ (separator j) g)

pcdata_sound : (ds : List Declaration) (n : List ℕ) (σ : State) → AllDone ds → Sound (kids ds n σ) pcdata_word (pcdata_in ds n σ)
pcdata_sound ds n (want [] None) all = (sym (append_assoc (all_signs ds) (element ∷ declared n ∷ inner opens ∷ []) (pcdata_word ∷ [])), all, refl)
pcdata_sound ds n (want [] (Some x)) all = tt
pcdata_sound ds n (want (k ∷ o) l) all = tt
pcdata_sound ds n (got o l w) all = tt

starless_sound : (ds : List Declaration) (n : List ℕ) (ns : List (List ℕ)) → AllDone ds → Sound (starless ds n ns) ends (end_starless ds n ns)
starless_sound ds n [] all = ended_sound ds n (text [] false) _ all (inl refl) refl
starless_sound ds n (m ∷ ms) all = tt

pub go_sound : (σ : Spot) (s : Sign) → Good σ → Sound σ s (go σ s)
go_sound (outside ds) element g = (refl, g, refl)
go_sound (outside ds) s g = tt
go_sound (opened ds) (declared n) g = (sym (append_assoc (all_signs ds) (element ∷ []) (declared n ∷ [])), g, refl)
go_sound (opened ds) s g = tt
go_sound (titled ds n) empty_word g = (sym (append_assoc (all_signs ds) (element ∷ declared n ∷ []) (empty_word ∷ [])), (g, tt), refl)
go_sound (titled ds n) any_word g = (sym (append_assoc (all_signs ds) (element ∷ declared n ∷ []) (any_word ∷ [])), (g, tt), refl)
go_sound (titled ds n) (inner opens) g = (sym (append_assoc (all_signs ds) (element ∷ declared n ∷ []) (inner opens ∷ [])), (g, (tt, tt)), refl)
go_sound (titled ds n) s g = tt
go_sound (kids ds n σ) pcdata_word g = pcdata_sound ds n σ g.0
go_sound (kids ds n σ) (inner s) g = kids_sound ds n σ s g.0 g.1
go_sound (kids ds n σ) s g = tt
go_sound (mixed ds n ns) (inner (separator alt)) g =
    (sym (append_assoc (all_signs ds) (element ∷ declared n ∷ inner opens ∷ pcdata_word ∷ alternatives ns) (inner (separator alt) ∷ [])), g, refl)
go_sound (mixed ds n ns) (inner closes) g =
    (sym (append_assoc (all_signs ds) (element ∷ declared n ∷ inner opens ∷ pcdata_word ∷ alternatives ns) (inner closes ∷ [])), g, refl)
go_sound (mixed ds n ns) s g = tt
go_sound (wanted ds n ns) (inner (names m)) g = (
  ap (λ xs. all_signs ds ++ (element ∷ declared n ∷ inner opens ∷ pcdata_word ∷ xs))
      (alternatives-append ns (m ∷ []) ∙ sym (append_assoc (alternatives ns) (inner (separator alt) ∷ []) (inner (names m) ∷ [])))
      ∙ sym (append_assoc (all_signs ds) (element ∷ declared n ∷ inner opens ∷ pcdata_word ∷ (alternatives ns ++ (inner (separator alt) ∷ []))) (inner (names m) ∷ [])),
  g,
  refl,
)
go_sound (wanted ds n ns) s g = tt
go_sound (starless ds n ns) (inner (suffix any)) g = (
  ap (λ xs. all_signs ds ++ (element ∷ declared n ∷ inner opens ∷ pcdata_word ∷ xs)) (sym (append_assoc (alternatives ns) (inner closes ∷ []) (inner (suffix any) ∷ [])))
      ∙ sym (append_assoc (all_signs ds) (element ∷ declared n ∷ inner opens ∷ pcdata_word ∷ (alternatives ns ++ (inner closes ∷ []))) (inner (suffix any) ∷ [])),
  (g, inr refl),
  refl,
)
go_sound (starless ds n ns) ends g = starless_sound ds n ns g
go_sound (starless ds n ns) s g = tt
go_sound (grouped ds n v) (inner (suffix m)) g = (
  ap (λ xs. all_signs ds ++ (element ∷ declared n ∷ xs)) (inners-append (signs (group v)) (suffix m ∷ []))
      ∙ sym (append_assoc (all_signs ds) (element ∷ declared n ∷ inners (signs (group v))) (inner (suffix m) ∷ [])),
  (g.0, ((g.1, refl), tt)),
  refl,
)
go_sound (grouped ds n v) ends g = ended_sound ds n (children (group v)) _ g.0 (g.1, tt) refl
go_sound (grouped ds n v) s g = tt
go_sound (full ds n c) ends g = ended_sound ds n c _ g.0 g.1 refl
go_sound (full ds n c) s g = tt

-- signs that fit
abbrev pub SignsFit : List Sign → Type 0
SignsFit [] = Unit {0}
SignsFit (s ∷ ss) = SignFits s × SignsFit ss

pub SignsFit-append : (ss ts : List Sign) → SignsFit ss → SignsFit ts → SignsFit (ss ++ ts)
SignsFit-append [] ts h k = k
SignsFit-append (s ∷ ss) ts h k = (h.0, SignsFit-append ss ts h.1 k)

pub SignsFit-parts : (ss ts : List Sign) → SignsFit (ss ++ ts) → SignsFit ss × SignsFit ts
SignsFit-parts [] ts h = (tt, h)
SignsFit-parts (s ∷ ss) ts h = let k = SignsFit-parts ss ts h.1 in ((h.0, k.0), k.1)

kids_fit : (w : Words) → IsChildren w → SignsFit (inners (signs w))
kids_fit (name n) h = (h, tt)
kids_fit nothing h = absurd h
kids_fit (group w) h = (tt, subst SignsFit (sym (inners-append (signs w) (closes ∷ []))) (SignsFit-append (inners (signs w)) _ (kids_fit w h) (tt, tt)))
kids_fit (marked w m) h = subst SignsFit (sym (inners-append (signs w) (suffix m ∷ []))) (SignsFit-append (inners (signs w)) _ (kids_fit w h) (tt, tt))
kids_fit (joined l alt r) h =
    subst SignsFit (sym (inners-append (signs l) (separator alt ∷ signs r))) (SignsFit-append (inners (signs l)) _ (kids_fit l h.0) (tt, kids_fit r h.1))
kids_fit (joined l next r) h =
    subst SignsFit (sym (inners-append (signs l) (separator next ∷ signs r))) (SignsFit-append (inners (signs l)) _ (kids_fit l h.0) (tt, kids_fit r h.1))
kids_fit (joined l both r) h = absurd h

fit_kids : (w : Words) → SignsFit (inners (signs w)) → IsChildren w
fit_kids (name n) h = h.0
fit_kids nothing h = absurd h.0
fit_kids (group w) h = fit_kids w (SignsFit-parts (inners (signs w)) _ (subst SignsFit (inners-append (signs w) (closes ∷ [])) h.1)).0
fit_kids (marked w m) h = fit_kids w (SignsFit-parts (inners (signs w)) _ (subst SignsFit (inners-append (signs w) (suffix m ∷ [])) h)).0
fit_kids (joined l alt r) h =
    let k = SignsFit-parts (inners (signs l)) _ (subst SignsFit (inners-append (signs l) (separator alt ∷ signs r)) h) in
    (fit_kids l k.0, fit_kids r k.1.1)
fit_kids (joined l next r) h =
    let k = SignsFit-parts (inners (signs l)) _ (subst SignsFit (inners-append (signs l) (separator next ∷ signs r)) h) in
    (fit_kids l k.0, fit_kids r k.1.1)
fit_kids (joined l both r) h = absurd (SignsFit-parts (inners (signs l)) _ (subst SignsFit (inners-append (signs l) (separator both ∷ signs r)) h)).1.0

mates_fit : (ns : List (List ℕ)) → AreNames ns → SignsFit (alternatives ns)
mates_fit [] h = tt
mates_fit (n ∷ ns) h = (tt, (h.0, mates_fit ns h.1))

fit_mates : (ns : List (List ℕ)) → SignsFit (alternatives ns) → AreNames ns
fit_mates [] h = tt
fit_mates (n ∷ ns) h = (h.1.0, fit_mates ns h.1.1)

content_fits : (c : Content) → IsContent c → SignsFit (content_signs c)
content_fits none h = (tt, tt)
content_fits whatever h = (tt, tt)
content_fits (text ns true) h = (tt, (tt, SignsFit-append (alternatives ns) _ (mates_fit ns h.0) (tt, (tt, tt))))
content_fits (text ns false) h = (tt, (tt, SignsFit-append (alternatives ns) _ (mates_fit ns h.0) (tt, tt)))
content_fits (children w) h = kids_fit w h.1

fit_content : (c : Content) → Done c → SignsFit (content_signs c) → IsContent c
fit_content none d h = tt
fit_content whatever d h = tt
fit_content (text ns starred) d h = (fit_mates ns (SignsFit-parts (alternatives ns) _ h.1.1).0, d)
fit_content (children w) d h = (d.0, fit_kids w h, d.1)

pub all_fit : (ds : List Declaration) → AreDeclarations ds → SignsFit (all_signs ds)
all_fit [] h = tt
all_fit (d ∷ ds) h = (
  tt,
  (
    h.0.0,
    SignsFit-append (content_signs d.content ++ (ends ∷ [])) (all_signs ds)
        (SignsFit-append (content_signs d.content) (ends ∷ []) (content_fits d.content h.0.1) (tt, tt)) (all_fit ds h.1),
  ),
)

pub fit_all : (ds : List Declaration) → AllDone ds → SignsFit (all_signs ds) → AreDeclarations ds
fit_all [] d h = tt
fit_all (d ∷ ds) done h =
    let k = SignsFit-parts (content_signs d.content ++ (ends ∷ [])) (all_signs ds) h.1.1 in
    ((h.1.0, fit_content d.content done.0 (SignsFit-parts (content_signs d.content) (ends ∷ []) k.0).0), fit_all ds done.1 k.1)
