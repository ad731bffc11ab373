-- How a listing grows by a declaration, and how it ends. Assumes nothing.
use Rattle.std.proofs.Common.{◌≡◌, ℕ, suc, ◌+◌, ◌≤◌, List, [], ◌∷◌, ◌++◌, length, take, Some, None, Option, sym, refl, ap, ◌∙◌, subst, arith, length-append}
use Rattle.std.specs.Prelude.{Ok, ◌-◌, min, replicate}
use Rattle.std.proofs.lemmas.List.{append_assoc, append-nil, length-take, length-replicate}
use Rattle.std.proofs.Math.Seq.{take-append_seam}
use Rattle.parts.specs.Parts.{blank}
use Rattle.parts.specs.declared.part.Part.{Part}
use Rattle.names.specs.declared.vocabulary.Vocabulary.{Vocabulary}
use Rattle.models.specs.Sheets.{table_answer}
use Rattle.grammar.specs.Notations.{Notation}
use Rattle.grammar.specs.Declarations.{Declaration, all_signs}
use Rattle.grammar.specs.Declarations.Sign.{element, declared}
use Rattle.grammar.specs.Faults.{Cause, number, SignStands, Gives, GivesOne}
use Rattle.text.specs.Causes.{at_text}
use Rattle.text.specs.Law.{Reading, Told, TextGives, NextAsked, NextDue, NamesKnown, ModelTold, PlaceTold, SheetAfter}
use Rattle.text.specs.Law.Told.{declares, none_left, fault as tell}
use Rattle.text.specs.declared.declared.Declared.{Declared}
use Rattle.text.specs.declared.fault.TextFault.{TextFault}
use Rattle.listing.specs.Keeping.{KeptAs, ReadSoFar, GatheredBy}
use Rattle.listing.specs.Listings.{ElementIs, ElementsOf, ListingOf}
use Rattle.listing.specs.declared.listed.Listed.{Listed}
use Rattle.listing.specs.declared.listing.Listing.{Listing}

-- two lists that begin one list are the same, where they are as long
same_front : (ds es more less : List Declaration) → ds ++ more ≡ es ++ less → length ds ≡ length es → ds ≡ es
same_front ds es more less e k = sym (take-append_seam ds more) ∙ ap (take (length ds)) e ∙ ap (λ n. take n (es ++ less)) k ∙ take-append_seam es less

element_more : (ν : Notation) (text : List ℕ) (ks : List (List ℕ)) (before ds : List Declaration) (d : Declaration) (es : List Listed) (e : Listed)
    → ElementsOf ν text ks before ds es → ElementIs ν text ks (before ++ ds) d e → ElementsOf ν text ks before (ds ++ (d ∷ [])) (es ++ (e ∷ []))
element_more ν text ks before [] d [] e all is = (subst (λ b. ElementIs ν text ks b d e) (append-nil before) is, tt)
element_more ν text ks before [] d (x ∷ es) e all is = absurd all
element_more ν text ks before (c ∷ ds) d [] e all is = absurd all
element_more ν text ks before (c ∷ ds) d (x ∷ es) e (first, all) is =
    (first, element_more ν text ks (before ++ (c ∷ [])) ds d es e all (subst (λ b. ElementIs ν text ks b d e) (sym (append_assoc before (c ∷ []) ds)) is))

-- there are as many elements as declarations
as_many : (ν : Notation) (text : List ℕ) (ks : List (List ℕ)) (before ds : List Declaration) (es : List Listed) → ElementsOf ν text ks before ds es → length ds ≡ length es
as_many ν text ks before [] [] all = refl
as_many ν text ks before [] (e ∷ es) all = absurd all
as_many ν text ks before (d ∷ ds) [] all = absurd all
as_many ν text ks before (d ∷ ds) (e ∷ es) (first, all) = ap suc (as_many ν text ks (before ++ (d ∷ [])) ds es all)

-- what is due of a sheet of 256 parts
pub unasked : (r : Reading) (l : ℕ) (t : Told) → l ≡ 256 → NextAsked r l t → NextDue r t
unasked r l t is h = subst (λ n. NextAsked r n t) is h

-- what was told of is the next declaration
told_is : (r : Reading) (sheet : List Part) (dl : Declared) (e : Listed) → ModelTold r (declares (take dl.length sheet) dl.symbol dl.name.now) → PlaceTold r (Ok (Some dl))
    → KeptAs dl sheet e → (due : NextDue r (declares (take dl.length sheet) dl.symbol dl.name.now)) → ElementIs r.notation r.text r.known due.0 due.1 e
told_is r sheet dl e model place kept (ds, d, more, end, gives, count, name, symbol, parts) = record {
  name = kept.name ∙ name;
  symbol = kept.symbol ∙ symbol;
  place =
      subst (λ p. SignStands r.notation r.text p (all_signs ds ++ (element ∷ [])) (declared d.name)) (sym kept.place)
      (subst (λ n. SignStands r.notation r.text dl.place (all_signs ds ++ (element ∷ [])) (declared n)) name (place ds (d ∷ more) end gives count));
  parts = kept.parts ∙ parts;
  model = ap table_answer kept.parts ∙ model ds d more end gives count;
}

-- one more is read
elements_told : (old r : Reading) (es : List Listed) (sheet : List Part) (dl : Declared) (e : Listed) → GivesOne old.notation → r ≡ record old { given = length es } → ReadSoFar old r es
    → ModelTold r (declares (take dl.length sheet) dl.symbol dl.name.now) → PlaceTold r (Ok (Some dl)) → KeptAs dl sheet e
    → NextDue r (declares (take dl.length sheet) dl.symbol dl.name.now)
    → (ds more : List Declaration) (end : Option (Cause × ℕ)) → TextGives old (ds ++ more) end → length ds ≡ length (es ++ (e ∷ []))
    → ElementsOf old.notation old.text old.known [] ds (es ++ (e ∷ []))
elements_told old r es sheet dl e one is so_far model place kept due ds more end g count =
    let now : Reading = record old { given = length es } in
    let next : NextDue now (declares (take dl.length sheet) dl.symbol dl.name.now) = subst (λ x. NextDue x (declares (take dl.length sheet) dl.symbol dl.name.now)) is due in
    let it : ElementIs old.notation old.text old.known next.0 next.1 e =
    told_is now sheet dl e (subst (λ x. ModelTold x (declares (take dl.length sheet) dl.symbol dl.name.now)) is model)
    (subst (λ x. PlaceTold x (Ok (Some dl))) is place) kept next in
    let all : ds ++ more ≡ next.0 ++ (next.1 ∷ next.2) = (one old.known old.text (ds ++ more) (next.0 ++ (next.1 ∷ next.2)) end next.3 g next.4).0 in
    let long : length ds ≡ length (next.0 ++ (next.1 ∷ [])) =
    count ∙ length-append es (e ∷ []) ∙ ap (λ n. n + 1) (sym next.5) ∙ sym (length-append next.0 (next.1 ∷ [])) in
    let same : ds ≡ next.0 ++ (next.1 ∷ []) = same_front ds (next.0 ++ (next.1 ∷ [])) more next.2 (all ∙ sym (append_assoc next.0 (next.1 ∷ []) next.2)) long in
    subst (λ x. ElementsOf old.notation old.text old.known [] x (es ++ (e ∷ []))) (sym same)
    (element_more old.notation old.text old.known [] next.0 next.1 es e (so_far.elements next.0 (next.1 ∷ next.2) next.3 next.4 next.5) it)

pub one_more : (old r r2 : Reading) (es es2 : List Listed) (sheet : List Part) (dl : Declared) (e : Listed) → GivesOne old.notation → ReadSoFar old r es
    → NextDue r (declares (take dl.length sheet) dl.symbol dl.name.now) → ModelTold r (declares (take dl.length sheet) dl.symbol dl.name.now) → PlaceTold r (Ok (Some dl))
    → r2 ≡ record r { given = r.given + 1 } → KeptAs dl sheet e → es2 ≡ es ++ (e ∷ []) → ReadSoFar old r2 es2
one_more old r r2 es es2 sheet dl e one so_far due model place goes kept added = subst (λ x. ReadSoFar old r2 x) (sym added) (record {
  reading =
      goes ∙ counted r (record old { given = length es }) so_far.reading
      ∙ ap (λ n. record { notation = old.notation; known = old.known; texts = old.texts; text = old.text; given = n }) (sym (length-append es (e ∷ [])));
  elements = elements_told old r es sheet dl e one so_far.reading so_far model place kept due;
})
  where
    counted : (a b : Reading) → a ≡ b → record a { given = a.given + 1 } ≡ record b { given = b.given + 1 }
    counted a b same = ap (λ x. record { notation = x.notation; known = x.known; texts = x.texts; text = x.text; given = x.given + 1 }) same

-- none is left
pub all_read : (old r r2 : Reading) (es : List Listed) → ReadSoFar old r es → NextDue r none_left → r2 ≡ r → GatheredBy old r2 es None
all_read old r r2 es so_far due same =
    let now : NextDue (record old { given = length es }) none_left = subst (λ x. NextDue x none_left) so_far.reading due in
    record {
      reading = same ∙ so_far.reading;
      ds = now.0;
      end = None;
      gives = now.1;
      elements = so_far.elements now.0 [] None (subst (λ x. TextGives old x None) (sym (append-nil now.0)) now.1) now.2;
      ending = tt;
    }

-- a fault was come to
pub fault_told : (old r r2 : Reading) (es : List Listed) (f : TextFault) → ReadSoFar old r es → NextDue r (tell f) → r2 ≡ r → GatheredBy old r2 es (Some f)
fault_told old r r2 es f so_far due same =
    let now : NextDue (record old { given = length es }) (tell f) = subst (λ x. NextDue x (tell f)) so_far.reading due in
    record {
      reading = same ∙ so_far.reading;
      ds = now.0;
      end = Some (now.1, f.place);
      gives = now.2;
      elements = so_far.elements now.0 [] (Some (now.1, f.place)) (subst (λ x. TextGives old x (Some (now.1, f.place))) (sym (append-nil now.0)) now.2) now.3;
      ending = (
        now.4 ∙ ap (λ n. record { notice = at_text (number old.notation now.1) f.place; texts = old.texts; declarations = n }) (sym now.3),
        now.5,
      );
    }

-- the sheet keeps its parts
pub sheet_stays : (dl : Declared) (sheet old : List Part) → dl.length ≤ 256 → SheetAfter (declares (take dl.length sheet) dl.symbol dl.name.now) old sheet → length sheet ≡ 256
sheet_stays dl sheet old few is =
    let short : length (take dl.length sheet) ≤ 256 = omega (arith, length-take dl.length sheet) in
    let all : length sheet ≡ length (take dl.length sheet) + length (replicate (256 - length (take dl.length sheet)) blank) =
    ap length is ∙ length-append (take dl.length sheet) (replicate (256 - length (take dl.length sheet)) blank) in
    let blanks : length (replicate (256 - length (take dl.length sheet)) blank) ≡ 256 - length (take dl.length sheet) = length-replicate (256 - length (take dl.length sheet)) blank in
    omega arith

-- all of a text is listed
pub all_listed : (ν : Notation) (v : Vocabulary) (text : List ℕ) (opened closed : Reading) (l : Listing)
    → opened ≡ record { notation = ν; known = v.names; texts = v.texts; text = text; given = 0 } → GatheredBy opened closed l.elements.items l.fault
    → NamesKnown closed l.vocabulary.names → l.vocabulary.texts ≡ min 65535 (closed.texts + 1) → ListingOf ν v text l
all_listed ν v text opened closed l is gathered names texts =
    let first : Reading = record { notation = ν; known = v.names; texts = v.texts; text = text; given = 0 } in
    let all : GatheredBy first closed l.elements.items l.fault = subst (λ x. GatheredBy x closed l.elements.items l.fault) is gathered in
    let known : NamesKnown (record first { given = length l.elements.items }) l.vocabulary.names = subst (λ x. NamesKnown x l.vocabulary.names) all.reading names in
    record {
      ds = all.ds;
      end = all.end;
      gives = all.gives;
      elements = all.elements;
      fault = all.ending;
      names =
          known all.ds [] all.end (subst (λ x. Gives ν v.names text x all.end) (sym (append-nil all.ds)) all.gives)
          (as_many ν text v.names [] all.ds l.elements.items all.elements);
      texts = texts ∙ ap (λ x. min 65535 (x.texts + 1)) all.reading;
    }
