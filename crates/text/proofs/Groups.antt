-- Groups within content: how many are open, and what is read at their ends. Assumes nothing.
use Rattle.std.proofs.Common.{◌≡◌, ℕ, suc, ◌+◌, ◌-◌, ◌<◌, ◌≤◌, Bool, true, false, cond, List, [], ◌∷◌, ◌++◌, length, get_or, take, drop, Some, None, Option, Ok, Err, Result, sym, refl, ap, ◌∙◌, subst, arith}
use Rattle.std.proofs.lemmas.List.{length-set, length-map}
use Rattle.parts.specs.Stacks.{Kept, depth, lent, Pushed}
use Rattle.grammar.specs.Notations.Notation.{dtd}
use Rattle.grammar.specs.Faults.{Faultless}
use Rattle.grammar.specs.Machine.{refused}
use Rattle.text.specs.Cursors.{rest_of, Moved}
use Rattle.text.specs.Declaring.{ReadTo, GroupsAre, left_join}
use Rattle.text.specs.Progress.{AtFaultBy, Fails}
use Rattle.text.specs.declared.cursor.Cursor.{Cursor}
use Rattle.text.specs.declared.elements.Elements.{Elements}
use Rattle.text.specs.declared.fault.TextCause.TheVariants.{TooDeep}
use Rattle.text.specs.declared.join.Join.{Join}
use Rattle.text.proofs.Walking.{placed, sign_fails}
use Rattle.text.proofs.Quiet.{over_quiet}
use Rattle.text.proofs.Fronted.{front_is, one_read}
use Rattle.grammar.specs.Words.{Words, Sign as Inner, signs}
use Rattle.grammar.specs.Words.Words.{name, nothing, group, marked, joined}
use Rattle.grammar.specs.Words.Sign.{names, empties, opens, closes, suffix, separator}
use Rattle.grammar.specs.Words.Mark.{any}
use Rattle.grammar.specs.Lists.{Left, left_signs, outer_signs}
use Rattle.grammar.specs.Lists.State.{want}
use Rattle.grammar.specs.Declarations.{Content, Declaration, Sign, inners, alternatives, content_signs, declaration_signs, all_signs}
use Rattle.grammar.specs.Declarations.Content.{none, whatever, text, children}
use Rattle.grammar.specs.Declarations.Sign.{element, declared, empty_word, any_word, pcdata_word, inner, ends}
use Rattle.grammar.specs.Faults.{open_groups}
use Rattle.grammar.specs.Machine.{spelled}
use Rattle.grammar.specs.Machine.Spot.{kids}
use Rattle.grammar.proofs.Signs.{inners-append}

-- signs one after the other
pub open-append : (n : ℕ) (ss ts : List Sign) → open_groups n (ss ++ ts) ≡ open_groups (open_groups n ss) ts
open-append n [] ts = refl
open-append n (element ∷ ss) ts = open-append n ss ts
open-append n (declared m ∷ ss) ts = open-append n ss ts
open-append n (empty_word ∷ ss) ts = open-append n ss ts
open-append n (any_word ∷ ss) ts = open-append n ss ts
open-append n (pcdata_word ∷ ss) ts = open-append n ss ts
open-append n (inner (names m) ∷ ss) ts = open-append n ss ts
open-append n (inner empties ∷ ss) ts = open-append n ss ts
open-append n (inner opens ∷ ss) ts = open-append (n + 1) ss ts
open-append n (inner closes ∷ ss) ts = open-append (n - 1) ss ts
open-append n (inner (suffix m) ∷ ss) ts = open-append n ss ts
open-append n (inner (separator j) ∷ ss) ts = open-append n ss ts
open-append n (ends ∷ ss) ts = open-append n ss ts

inner-append : (n : ℕ) (ss ts : List Inner) → open_groups n (inners (ss ++ ts)) ≡ open_groups (open_groups n (inners ss)) (inners ts)
inner-append n ss ts = ap (open_groups n) (inners-append ss ts) ∙ open-append n (inners ss) (inners ts)

back : (n : ℕ) → (n + 1) - 1 ≡ n
back n = omega arith

-- whole words open nothing
words_open : (w : Words) (n : ℕ) → open_groups n (inners (signs w)) ≡ n
words_open (name m) n = refl
words_open nothing n = refl
words_open (group w) n = inner-append (n + 1) (signs w) (closes ∷ []) ∙ ap (λ k. k - 1) (words_open w (n + 1)) ∙ back n
words_open (marked w m) n = inner-append n (signs w) (suffix m ∷ []) ∙ words_open w n
words_open (joined l j r) n = inner-append n (signs l) (separator j ∷ signs r) ∙ ap (λ k. open_groups k (inners (signs r))) (words_open l n) ∙ words_open r n

-- nor do declarations
mates_open : (ns : List (List ℕ)) (n : ℕ) → open_groups n (alternatives ns) ≡ n
mates_open [] n = refl
mates_open (m ∷ ns) n = mates_open ns n

starred_open : (starred : Bool) (n : ℕ) → open_groups n (cond starred (inner (suffix any) ∷ []) []) ≡ n
starred_open true n = refl
starred_open false n = refl

content_open : (k : Content) (n : ℕ) → open_groups n (content_signs k) ≡ n
content_open none n = refl
content_open whatever n = refl
content_open (text ns starred) n =
    open-append (n + 1) (alternatives ns) (inner closes ∷ cond starred (inner (suffix any) ∷ []) [])
    ∙ ap (λ k. open_groups (k - 1) (cond starred (inner (suffix any) ∷ []) [])) (mates_open ns (n + 1))
    ∙ starred_open starred ((n + 1) - 1)
    ∙ back n
content_open (children w) n = words_open w n

declaration_open : (d : Declaration) (n : ℕ) → open_groups n (declaration_signs d) ≡ n
declaration_open d n = open-append n (content_signs d.content) (ends ∷ []) ∙ content_open d.content n

pub all_open : (ds : List Declaration) (n : ℕ) → open_groups n (all_signs ds) ≡ n
all_open [] n = refl
all_open (d ∷ ds) n = open-append n (declaration_signs d) (all_signs ds) ∙ ap (λ k. open_groups k (all_signs ds)) (declaration_open d n) ∙ all_open ds n

-- what stands before a member opens one for each group
left_open : (l : Left) (n : ℕ) → open_groups n (inners (left_signs l)) ≡ n
left_open None n = refl
left_open (Some (a, j)) n = inner-append n (signs a) (separator j ∷ []) ∙ words_open a n

outer_open : (o : List Left) (n : ℕ) → open_groups n (inners (outer_signs o)) ≡ n + length o
outer_open [] n = omega arith
outer_open (l ∷ o) n =
    let begun : open_groups n (inners (outer_signs o)) ≡ n + length o = outer_open o n in
    inner-append n (outer_signs o) (left_signs l ++ (opens ∷ []))
    ∙ inner-append (open_groups n (inners (outer_signs o))) (left_signs l) (opens ∷ [])
    ∙ ap (λ k. k + 1) (left_open l (open_groups n (inners (outer_signs o))))
    ∙ omega (arith, begun)

pub groups_open : (ds : List Declaration) (n : List ℕ) (o : List Left) (l : Left) → open_groups 0 (spelled (kids ds n (want o l))) ≡ 1 + length o
groups_open ds n o l =
    open-append 0 (all_signs ds) (element ∷ declared n ∷ inner opens ∷ inners (outer_signs o ++ left_signs l))
    ∙ ap (λ k. open_groups (k + 1) (inners (outer_signs o ++ left_signs l))) (all_open ds 0)
    ∙ inner-append 1 (outer_signs o) (left_signs l)
    ∙ left_open l (open_groups 1 (inners (outer_signs o)))
    ∙ outer_open o 1

-- the stack of open groups
pub group_pushed : (l : Left) (o : List Left) (s t : Kept (Option Join)) (pushed : Result (Unit {0}) (Option Join)) → GroupsAre o s → length o < 16
    → Pushed s (left_join l) pushed t → GroupsAre (l ∷ o) t
group_pushed l o s t (Ok u) g room push =
    (push.0 ∙ ap (λ xs. left_join l ∷ xs) g.0, ap length push.1 ∙ length-set (lent s) (depth s) (left_join l) ∙ g.1, omega arith)
group_pushed l o s t (Err other) g room push =
    let size : depth s ≡ length o = ap length g.0 ∙ length-map o left_join in
    absurd (omega (arith, size, push.1, g.1))

-- the sign of a group that opens
too_deep : (ks : List (List ℕ)) (ds : List Declaration) (n : List ℕ) (o : List Left) (l : Left) → 16 ≤ 1 + length o
    → AtFaultBy dtd ks (spelled (kids ds n (want o l))) (inner opens) TooDeep
too_deep ks ds n o l deep = (refl, ((λ x. x), subst (λ k. 16 ≤ k) (sym (groups_open ds n o l)) deep))

not_deep : (ks : List (List ℕ)) (ds : List Declaration) (n : List ℕ) (o : List Left) (l : Left) → 1 + length o < 16
    → Faultless dtd ks (spelled (kids ds n (want o l))) (inner opens)
not_deep ks ds n o l room = ((λ x. x), (λ deep. absurd (omega (arith, groups_open ds n o l, room, deep))))

may_open : (ds : List Declaration) (n : List ℕ) (o : List Left) (l : Left) (h : Bool) → refused h (kids ds n (want o l)) (inner opens) ≡ false
may_open ds n o l true = refl
may_open ds n o l false = refl

waiting_count : (l : Left) (o : List Left) (s : Kept (Option Join)) → GroupsAre (l ∷ o) s → depth s ≡ 1 + length o
waiting_count l o s g = ap length g.0 ∙ ap suc (length-map o left_join) ∙ omega arith

pub group_too_deep : (ks : List (List ℕ)) (bytes : List ℕ) (ds : List Declaration) (n : List ℕ) (o : List Left) (l : Left) (h : Bool) (e : Elements) (c : Cursor) (s : Kept (Option Join)) (rest : List ℕ) (count : ℕ)
    → ReadTo ks bytes (kids ds n (want o l)) h c e → GroupsAre (l ∷ o) s → rest ≡ rest_of c → 1 ≤ length rest → get_or rest 0 0 ≡ 40 → count ≡ depth s → 16 ≤ count
    → Fails dtd ks bytes ds (placed TooDeep c.at)
group_too_deep ks bytes ds n o l h e c s rest count r g same some is counted deep =
    sign_fails ks bytes (kids ds n (want o l)) h (inner opens) (kids ds n (want (l ∷ o) None)) TooDeep (drop 1 (rest_of c)) c r.cursor (may_open ds n o l h) refl tt
    (front_is c rest 40 same some is) tt (too_deep ks ds n o l (omega (arith, waiting_count l o s g)))

pub group_opened : (ks : List (List ℕ)) (bytes : List ℕ) (ds : List Declaration) (n : List ℕ) (o : List Left) (l : Left) (h : Bool) (e : Elements) (old new : Cursor) (s t : Kept (Option Join)) (rest : List ℕ) (count : ℕ) (pushed : Result (Unit {0}) (Option Join))
    → ReadTo ks bytes (kids ds n (want o l)) h old e → GroupsAre (l ∷ o) s → rest ≡ rest_of old → 1 ≤ length rest → get_or rest 0 0 ≡ 40 → count ≡ depth s → count < 16
    → Moved old (take 1 (rest_of old)) new → Pushed s None pushed t
    → ReadTo ks bytes (kids ds n (want (l ∷ o) None)) false new e × GroupsAre (None ∷ l ∷ o) t
group_opened ks bytes ds n o l h e old new s t rest count pushed r g same some is counted room m push = (
  over_quiet ks bytes (kids ds n (want o l)) h (inner opens) (kids ds n (want (l ∷ o) None)) old new e r tt (may_open ds n o l h) refl tt
      (one_read old new rest 40 same some is m) (not_deep ks ds n o l (omega (arith, waiting_count l o s g))),
  group_pushed None (l ∷ o) s t pushed g (omega (arith, waiting_count l o s g)) push,
)
