-- The names of declarations, and that their models are well formed. Assumes nothing.
use Rattle.std.proofs.Common.{◌≡◌, ℕ, ◌+◌, ◌<◌, ◌≤◌, ◌⊎◌, inl, inr, Bool, true, false, cond, List, [], ◌∷◌, ◌++◌, length, sym, refl, ap, ◌∙◌, subst, arith, length-append}
use Rattle.std.specs.Prelude.{Ok}
use Rattle.std.proofs.lemmas.List.{append_assoc, append-nil}
use Rattle.std.proofs.lemmas.Bool.{cases_lt}
use Rattle.models.specs.Trees.{Formed}
use Rattle.models.specs.Sheets.{table_answer}
use Rattle.models.specs.Written.{sheet}
use Rattle.models.proofs.Written.{taken_exactly}
use Rattle.names.specs.Numbering.{symbol_in, is_known, known_after}
use Rattle.names.proofs.Numbering.{symbol_below, met_known, met_new, met_in_turn, each_met_known}
use Rattle.grammar.specs.Words.{Words, Sign as Inner, signs}
use Rattle.grammar.specs.Words.Words.{name, nothing, group, marked, joined}
use Rattle.grammar.specs.Words.Mark.{optional, repeated, any}
use Rattle.grammar.specs.Words.Join.{alt, next, both}
use Rattle.grammar.specs.Words.Sign.{names, empties, opens, closes, suffix, separator}
use Rattle.grammar.specs.Declarations.{Content, Declaration, Sign, inners, alternatives, content_signs, declaration_signs, all_signs, words, alternated, mixed_words, all_names}
use Rattle.grammar.specs.Declarations.Content.{none, whatever, text, children}
use Rattle.grammar.specs.Declarations.Sign.{element, declared, empty_word, any_word, pcdata_word, inner, ends}
use Rattle.grammar.specs.Meaning.{tree_of, names_in}
use Rattle.grammar.specs.Notations.{Notation}
use Rattle.grammar.specs.Faults.{NameBeyond, Faultless, AllFaultless, names_among}
use Rattle.grammar.proofs.Signs.{inners-append}
use Rattle.text.specs.Law.{names_of}

-- the names among signs
pub among-append : (ss ts : List Sign) → names_among (ss ++ ts) ≡ names_among ss ++ names_among ts
among-append [] ts = refl
among-append (declared n ∷ ss) ts = ap (λ x. n ∷ x) (among-append ss ts)
among-append (inner (names n) ∷ ss) ts = ap (λ x. n ∷ x) (among-append ss ts)
among-append (inner empties ∷ ss) ts = among-append ss ts
among-append (inner opens ∷ ss) ts = among-append ss ts
among-append (inner closes ∷ ss) ts = among-append ss ts
among-append (inner (suffix m) ∷ ss) ts = among-append ss ts
among-append (inner (separator j) ∷ ss) ts = among-append ss ts
among-append (element ∷ ss) ts = among-append ss ts
among-append (empty_word ∷ ss) ts = among-append ss ts
among-append (any_word ∷ ss) ts = among-append ss ts
among-append (pcdata_word ∷ ss) ts = among-append ss ts
among-append (ends ∷ ss) ts = among-append ss ts

inners_among : (ss ts : List Inner) → names_among (inners (ss ++ ts)) ≡ names_among (inners ss) ++ names_among (inners ts)
inners_among ss ts = ap names_among (inners-append ss ts) ∙ among-append (inners ss) (inners ts)

words_among : (w : Words) → names_among (inners (signs w)) ≡ names_in w
words_among (name n) = refl
words_among nothing = refl
words_among (group w) = inners_among (signs w) (closes ∷ []) ∙ append-nil (names_among (inners (signs w))) ∙ words_among w
words_among (marked w m) = inners_among (signs w) (suffix m ∷ []) ∙ append-nil (names_among (inners (signs w))) ∙ words_among w
words_among (joined l j r) =
    inners_among (signs l) (separator j ∷ signs r) ∙ ap (λ x. x ++ names_among (inners (signs r))) (words_among l) ∙ ap (λ x. names_in l ++ x) (words_among r)

alternatives_among : (ns : List (List ℕ)) → names_among (alternatives ns) ≡ ns
alternatives_among [] = refl
alternatives_among (n ∷ ns) = ap (λ x. n ∷ x) (alternatives_among ns)

alternated_names : (w : Words) (ns : List (List ℕ)) → names_in (alternated w ns) ≡ names_in w ++ ns
alternated_names w [] = sym (append-nil (names_in w))
alternated_names w (n ∷ ns) = alternated_names (joined w alt (name n)) ns ∙ append_assoc (names_in w) (n ∷ []) ns

mixed_names : (ns : List (List ℕ)) → names_in (mixed_words ns) ≡ ns
mixed_names [] = refl
mixed_names (n ∷ ns) = alternated_names (name n) ns

star_among : (starred : Bool) → names_among (inner closes ∷ cond starred (inner (suffix any) ∷ []) []) ≡ []
star_among true = refl
star_among false = refl

content_among : (k : Content) → names_among (content_signs k) ≡ names_in (words k)
content_among none = refl
content_among whatever = refl
content_among (text ns starred) =
    among-append (alternatives ns) (inner closes ∷ cond starred (inner (suffix any) ∷ []) [])
    ∙ ap (λ x. names_among (alternatives ns) ++ x) (star_among starred) ∙ append-nil (names_among (alternatives ns))
    ∙ alternatives_among ns ∙ sym (mixed_names ns)
content_among (children w) = words_among w

declaration_among : (d : Declaration) → names_among (declaration_signs d) ≡ all_names d
declaration_among d =
    ap (λ x. d.name ∷ x) (among-append (content_signs d.content) (ends ∷ []) ∙ append-nil (names_among (content_signs d.content)) ∙ content_among d.content)

pub names_among_all : (ds : List Declaration) → names_among (all_signs ds) ≡ names_of ds
names_among_all [] = refl
names_among_all (d ∷ ds) =
    among-append (declaration_signs d) (all_signs ds) ∙ ap (λ x. x ++ names_among (all_signs ds)) (declaration_among d)
    ∙ ap (λ x. all_names d ++ x) (names_among_all ds)

pub names_of-append : (ds es : List Declaration) → names_of (ds ++ es) ≡ names_of ds ++ names_of es
names_of-append [] es = refl
names_of-append (d ∷ ds) es = ap (λ x. all_names d ++ x) (names_of-append ds es) ∙ sym (append_assoc (all_names d) (names_of ds) (names_of es))

-- behind one declaration more
pub known_one_more : (ks : List (List ℕ)) (ds : List Declaration) (d : Declaration)
    → known_after ks (names_of (ds ++ (d ∷ []))) ≡ known_after (known_after ks (names_of ds)) (all_names d)
known_one_more ks ds d =
    ap (known_after ks) (names_of-append ds (d ∷ []) ∙ ap (λ x. names_of ds ++ x) (append-nil (all_names d))) ∙ met_in_turn ks (names_of ds) (all_names d)

-- all names of the words are known
abbrev AllKnown : List (List ℕ) → Words → Type 0
AllKnown ks (name n) = is_known ks n ≡ true
AllKnown ks nothing = Unit {0}
AllKnown ks (group w) = AllKnown ks w
AllKnown ks (marked w m) = AllKnown ks w
AllKnown ks (joined l j r) = AllKnown ks l × AllKnown ks r

all_known : (ks before after : List (List ℕ)) (w : Words) → AllKnown (known_after ks (before ++ (names_in w ++ after))) w
all_known ks before after (name n) = each_met_known ks before after n
all_known ks before after nothing = tt
all_known ks before after (group w) = all_known ks before after w
all_known ks before after (marked w m) = all_known ks before after w
all_known ks before after (joined l j r) =
    let left = all_known ks before (names_in r ++ after) l in
    let right = all_known ks (before ++ names_in l) after r in (
      subst (λ x. AllKnown (known_after ks (before ++ x)) l) (sym (append_assoc (names_in l) (names_in r) after)) left,
      subst (λ x. AllKnown (known_after ks x) r)
          (append_assoc before (names_in l) (names_in r ++ after) ∙ ap (λ x. before ++ x) (sym (append_assoc (names_in l) (names_in r) after))) right,
    )

formed : (ks : List (List ℕ)) (w : Words) → length ks ≤ 64 → AllKnown ks w → Formed (tree_of ks w)
formed ks (name n) few h = let below : symbol_in ks n < length ks = symbol_below ks n h in omega arith
formed ks nothing few h = tt
formed ks (group w) few h = formed ks w few h
formed ks (marked w optional) few h = (formed ks w few h, tt)
formed ks (marked w repeated) few h = (formed ks w few h, (omega arith, omega arith, inl refl))
formed ks (marked w any) few h = ((formed ks w few h, (omega arith, omega arith, inl refl)), tt)
formed ks (joined l alt r) few h = (formed ks l few h.0, formed ks r few h.1)
formed ks (joined l next r) few h = (formed ks l few h.0, formed ks r few h.1)
formed ks (joined l both r) few h = (formed ks l few h.0, formed ks r few h.1)

-- the sheet of a declaration's model is taken, with its tree
pub model_taken : (ks : List (List ℕ)) (d : Declaration) → length (known_after ks (all_names d)) ≤ 64
    → length (sheet (tree_of (known_after ks (all_names d)) (words d.content))) ≤ 256
    → table_answer (sheet (tree_of (known_after ks (all_names d)) (words d.content))) ≡ Ok (tree_of (known_after ks (all_names d)) (words d.content))
model_taken ks d few small =
    let known = known_after ks (all_names d) in
    let all : AllKnown known (words d.content) =
    subst (λ x. AllKnown (known_after ks (d.name ∷ x)) (words d.content)) (append-nil (names_in (words d.content)))
    (all_known ks (d.name ∷ []) [] (words d.content)) in
    (taken_exactly (sheet (tree_of known (words d.content))) (tree_of known (words d.content))).1 (refl, formed known (words d.content) few all, small)

-- where no sign is at fault, at most 64 names are known
name_more : (ν : Notation) (ks : List (List ℕ)) (ss : List Sign) (n : List ℕ) → length (known_after ks (names_among ss)) ≤ 64 → (NameBeyond ks ss n → ⊥)
    → length (known_after (known_after ks (names_among ss)) (n ∷ [])) ≤ 64
name_more ν ks ss n few fits = by (is_known known n) refl (cases_lt (length known) 64)
  where
    known : List (List ℕ)
    known = known_after ks (names_among ss)

    by : (b : Bool) → is_known known n ≡ b → (length known < 64) ⊎ (64 ≤ length known) → length (known_after known (n ∷ [])) ≤ 64
    by true k lt = subst (λ x. length x ≤ 64) (sym (met_known known n k)) few
    by false k (inl lt) =
        let more : length (known ++ (n ∷ [])) ≡ length known + 1 = length-append known (n ∷ []) in
        subst (λ x. length x ≤ 64) (sym (met_new known n k)) (omega arith)
    by false k (inr ge) = absurd (fits (inr (k, ge)))

sign_more : (ν : Notation) (ks : List (List ℕ)) (ss : List Sign) (s : Sign) → length (known_after ks (names_among ss)) ≤ 64 → Faultless ν ks ss s
    → length (known_after ks (names_among (ss ++ (s ∷ [])))) ≤ 64
sign_more ν ks ss s few one = subst (λ x. length x ≤ 64) (sym (ap (known_after ks) (among-append ss (s ∷ [])) ∙ met_in_turn ks (names_among ss) (names_among (s ∷ [])))) (by s one)
  where
    by : (s : Sign) → Faultless ν ks ss s → length (known_after (known_after ks (names_among ss)) (names_among (s ∷ []))) ≤ 64
    by (declared n) one = name_more ν ks ss n few one.1
    by (inner (names n)) one = name_more ν ks ss n few one.1
    by (inner empties) one = few
    by (inner opens) one = few
    by (inner closes) one = few
    by (inner (suffix m)) one = few
    by (inner (separator j)) one = few
    by element one = few
    by empty_word one = few
    by any_word one = few
    by pcdata_word one = few
    by ends one = few

signs_more : (ν : Notation) (ks : List (List ℕ)) (rest ss : List Sign) → AllFaultless ν ks (ss ++ rest) → length (known_after ks (names_among ss)) ≤ 64
    → length (known_after ks (names_among (ss ++ rest))) ≤ 64
signs_more ν ks [] ss all few = subst (λ x. length (known_after ks (names_among x)) ≤ 64) (sym (append-nil ss)) few
signs_more ν ks (s ∷ rest) ss all few =
    let same : ss ++ (s ∷ rest) ≡ (ss ++ (s ∷ [])) ++ rest = sym (append_assoc ss (s ∷ []) rest) in
    subst (λ x. length (known_after ks (names_among x)) ≤ 64) (sym same)
    (signs_more ν ks rest (ss ++ (s ∷ [])) (subst (AllFaultless ν ks) same all) (sign_more ν ks ss s few (all ss s rest same)))

pub few_known : (ν : Notation) (ks : List (List ℕ)) (ss : List Sign) → AllFaultless ν ks ss → length ks ≤ 64 → length (known_after ks (names_among ss)) ≤ 64
few_known ν ks ss all few = signs_more ν ks ss [] all few
