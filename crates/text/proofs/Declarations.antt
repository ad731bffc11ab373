-- A declaration as a whole: its steps in turn, and what a notation owes. Assumes nothing.
use Rattle.std.proofs.Common.{◌≡◌, ℕ, suc, ◌+◌, ◌<◌, ◌≤◌, ◌⊎◌, inl, inr, Bool, true, false, cond, List, [], ◌∷◌, ◌++◌, length, Some, None, Option, sym, refl, ap, ◌∙◌, subst, arith}
use Rattle.std.specs.Prelude.{Ok, Err, Result}
use Rattle.std.proofs.lemmas.Bool.{false≢true, cases_lt}
use Rattle.std.proofs.lemmas.List.{append_assoc, append-nil}
use Rattle.names.specs.Numbering.{symbol_in}
use Rattle.names.proofs.Numbering.{symbol_stays}
use Rattle.grammar.specs.Notations.Notation.{dtd}
use Rattle.grammar.specs.Words.{Sign as Inner, signs}
use Rattle.grammar.specs.Words.Mark.{any}
use Rattle.grammar.specs.Words.Sign.{closes, suffix}
use Rattle.grammar.specs.Declarations.{Content, Declaration, inners, alternatives, content_signs, declaration_signs, all_signs}
use Rattle.grammar.specs.Declarations.Content.{none, whatever, text, children}
use Rattle.grammar.specs.Declarations.Sign.{element, declared, inner, ends}
use Rattle.grammar.specs.Faults.{AllFaultless, begun}
use Rattle.grammar.specs.Machine.{made as declaration_of}
use Rattle.grammar.specs.Machine.Spot.{outside, opened}
use Rattle.grammar.proofs.Signs.{all_signs-append}
use Rattle.grammar.proofs.Steps.{stands_between, gives_more}
use Rattle.text.specs.Between.{Between, Declared}
use Rattle.text.specs.declared.fault.PlacedCause.{PlacedCause}
use Rattle.text.proofs.ElementLemmas.{begun-append}
use Rattle.text.specs.Contents.{Made}
use Rattle.text.specs.Declaring.{ReadTo, Begun, DeclarationRead}
use Rattle.text.specs.Progress.{NamesGrow, SymbolIs}
use Rattle.text.specs.declared.cursor.Cursor.{Cursor}
use Rattle.text.specs.declared.element.Element.{Element}
use Rattle.text.specs.declared.elements.Elements.{Elements}

pub no_more : (ks : List (List ℕ)) (bytes : List ℕ) (ds : List Declaration) (b : Bool) (c : Cursor) (e : Elements) (m : Made) → b ≡ false → Begun ks bytes ds (Ok b) c e
    → DeclarationRead ks bytes ds (Ok None) c e m
no_more ks bytes ds true c e m k h = absurd (false≢true (sym k))
no_more ks bytes ds false c e m k h = h

pub opens_one : (ks : List (List ℕ)) (bytes : List ℕ) (ds : List Declaration) (b : Bool) (c : Cursor) (e : Elements) → b ≡ true → Begun ks bytes ds (Ok b) c e
    → ReadTo ks bytes (opened ds) false c e
opens_one ks bytes ds true c e k h = h
opens_one ks bytes ds false c e k h = absurd (false≢true k)

-- the symbol of the name stays
pub symbol_kept : (n : List ℕ) (s : ℕ) (e f : Elements) → SymbolIs n (Ok s) e → NamesGrow e f → s ≡ symbol_in f.names n
symbol_kept n s e f (is, known, few) (ns, grow) = is ∙ sym (symbol_stays e.names ns n known) ∙ ap (λ x. symbol_in x n) (sym grow)

-- between declarations
pub reads : (ks : List (List ℕ)) (bytes : List ℕ) (ds : List Declaration) (c : Cursor) (e : Elements) → Between dtd ks bytes ds c e → (h : Bool) × ReadTo ks bytes (outside ds) h c e
reads ks bytes ds c e b =
    let within : c.at ≤ length bytes = subst (λ x. c.at ≤ length x) b.text c.inside in
    let (h, at) = (stands_between ks bytes c.at ds).1 within b.read b.faultless in
    (h, record { cursor = record { text = b.text; at = at }; elements = b.elements })

pub stands : (ks : List (List ℕ)) (bytes : List ℕ) (ds : List Declaration) (h : Bool) (c : Cursor) (e : Elements) → ReadTo ks bytes (outside ds) h c e → Between dtd ks bytes ds c e
stands ks bytes ds h c e r =
    let (whole, clean) = (stands_between ks bytes c.at ds).0 h r.cursor.at in
    record { text = r.cursor.text; read = whole; faultless = clean; elements = r.elements }

-- as many declarations have begun as there are
inners_begun : (ss : List Inner) → begun dtd (inners ss) ≡ 0
inners_begun [] = refl
inners_begun (s ∷ ss) = inners_begun ss

alternatives_begun : (ns : List (List ℕ)) → begun dtd (alternatives ns) ≡ 0
alternatives_begun [] = refl
alternatives_begun (n ∷ ns) = alternatives_begun ns

star_begun : (starred : Bool) → begun dtd (inner closes ∷ cond starred (inner (suffix any) ∷ []) []) ≡ 0
star_begun true = refl
star_begun false = refl

content_begun : (k : Content) → begun dtd (content_signs k) ≡ 0
content_begun none = refl
content_begun whatever = refl
content_begun (text ns starred) =
    let last = inner closes ∷ cond starred (inner (suffix any) ∷ []) [] in
    let parts : begun dtd (alternatives ns ++ last) ≡ begun dtd (alternatives ns) + begun dtd last = begun-append (alternatives ns) last in
    let one : begun dtd (alternatives ns) ≡ 0 = alternatives_begun ns in
    let two : begun dtd last ≡ 0 = star_begun starred in
    let all : begun dtd (alternatives ns ++ last) ≡ 0 = omega arith in
    all
content_begun (children w) = inners_begun (signs w)

all_begun : (ds : List Declaration) → begun dtd (all_signs ds) ≡ length ds
all_begun [] = refl
all_begun (d ∷ ds) =
    let whole : begun dtd (declaration_signs d ++ all_signs ds) ≡ begun dtd (declaration_signs d) + begun dtd (all_signs ds) = begun-append (declaration_signs d) (all_signs ds) in
    let behind : begun dtd (content_signs d.content ++ (ends ∷ [])) ≡ begun dtd (content_signs d.content) + 0 = begun-append (content_signs d.content) (ends ∷ []) in
    let one : begun dtd (declaration_signs d) ≡ suc (begun dtd (content_signs d.content ++ (ends ∷ []))) = refl in
    let none : begun dtd (content_signs d.content) ≡ 0 = content_begun d.content in
    let rest : begun dtd (all_signs ds) ≡ length ds = all_begun ds in
    let size : length (d ∷ ds) ≡ suc (length ds) = refl in
    omega arith

few_begun : (ks : List (List ℕ)) (ds : List Declaration) (d : Declaration) → AllFaultless dtd ks (all_signs (ds ++ (d ∷ []))) → length ds < 32
few_begun ks ds d all =
    let signs_so : all_signs (ds ++ (d ∷ [])) ≡ (all_signs ds ++ (element ∷ [])) ++ (declared d.name ∷ (content_signs d.content ++ (ends ∷ []))) =
    all_signs-append ds (d ∷ []) ∙ ap (λ x. all_signs ds ++ x) (append-nil (declaration_signs d))
    ∙ sym (append_assoc (all_signs ds) (element ∷ []) (declared d.name ∷ (content_signs d.content ++ (ends ∷ [])))) in
    let fits = (all (all_signs ds) element (declared d.name ∷ (content_signs d.content ++ (ends ∷ []))) signs_so).1 in
    by fits (cases_lt (length ds) 32)
  where
    by : (32 ≤ begun dtd (all_signs ds) → ⊥) → (length ds < 32) ⊎ (32 ≤ length ds) → length ds < 32
    by fits (inl lt) = lt
    by fits (inr ge) = let same : begun dtd (all_signs ds) ≡ length ds = all_begun ds in absurd (fits (omega arith))

-- what a notation owes
pub declares : (ks : List (List ℕ)) (bytes : List ℕ) (ds : List Declaration) (r : Result (Option Element) PlacedCause) (c : Cursor) (e : Elements) (m : Made)
    → DeclarationRead ks bytes ds r c e m → Declared dtd ks bytes ds r c e m
declares ks bytes ds (Ok None) c e m (all, (h, r)) = (all, stands ks bytes ds h c e r)
declares ks bytes ds (Ok (Some el)) c e m (k, r, symbol, at, made, few) =
    let d = declaration_of el.name.now k in
    let b = stands ks bytes (ds ++ (d ∷ [])) false c e r in (
      d,
      record {
        between = b;
        first = gives_more ks bytes c.at (ds ++ (d ∷ [])) false r.cursor.at;
        name = refl;
        stands = at;
        symbol = symbol;
        made = made;
        parts = few;
        few = few_begun ks ds d b.faultless;
      },
    )
declares ks bytes ds (Err f) c e m h = h
