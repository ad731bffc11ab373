-- What a reader is answered and how it stands afterwards. Assumes nothing.
use Rattle.std.proofs.Common.{◌≡◌, ℕ, ◌+◌, ◌<◌, ◌≤◌, List, [], ◌∷◌, ◌++◌, length, take, drop, Some, None, Option, sym, refl, ap, ◌∙◌, subst, arith, length-append}
use Rattle.std.specs.Prelude.{Ok, true, is_ok, replicate, ◌-◌, ◌^◌}
use Rattle.parts.specs.Parts.{blank}
use Rattle.text.specs.Delivery.{Delivered}
use Rattle.text.specs.declared.declared.Declared.{Declared}
use Rattle.std.proofs.lemmas.List.{append_assoc, take_all, length-take}
use Rattle.models.specs.Sheets.{table_answer, is_model}
use Rattle.names.specs.Numbering.{known_after}
use Rattle.grammar.specs.Notations.{Notation}
use Rattle.grammar.specs.Declarations.{Declaration, IsText, all_names, all_signs, words}
use Rattle.grammar.specs.Declarations.Sign.{element, declared}
use Rattle.grammar.specs.Meaning.{tree_of}
use Rattle.grammar.specs.Faults.{SignStands, Cause, number, Gives, GivesOne, AllFaultless, parts_of}
use Rattle.text.specs.Between.{Between, GivesFirst, model_parts, Declares, Declared as Owed}
use Rattle.text.specs.Contents.{Made}
use Rattle.text.specs.Law.{Reading, TextGives, NamesKnown, names_of, PlaceTold, WithinLimits}
use Rattle.text.specs.Progress.{ElementsAre}
use Rattle.text.specs.Standing.{Standing}
use Rattle.text.specs.declared.cursor.Cursor.{Cursor}
use Rattle.text.specs.declared.element.Element.{Element}
use Rattle.text.specs.declared.elements.Elements.{Elements}
use Rattle.text.specs.declared.fault.TextFault.{TextFault}
use Rattle.std.proofs.Math.Seq.{take-append_seam, drop-append_seam}
use Rattle.std.proofs.lemmas.List.{take-append-le}
use Rattle.parts.specs.declared.part.Part.{Part}
use Rattle.names.specs.Numbering.{symbol_in}
use Rattle.names.specs.Kept.{AreKept}
use Rattle.names.proofs.Numbering.{added_behind, front_stays, no_fewer}
use Rattle.text.specs.Law.{Told, NextDue, NextAsked, ModelTold}
use Rattle.grammar.specs.Notations.Notation.{dtd}
use Rattle.text.specs.Causes.{at_text, text_notice, cause_of, cause_number}
use Rattle.text.specs.declared.fault.TextCause.{TextCause}
use Rattle.text.specs.declared.fault.TextCause.TheVariants.{NotDeclarations, AnyContent, DeclaredAgain, LongName, TooManyNames, TooManyDeclarations, TooDeep, TooManyParts}
use Rattle.text.specs.Law.Told.{declares, none_left, fault as tell}
use Rattle.text.specs.Progress.{NamesGrow, Fails}
use Rattle.text.proofs.Naming.{names_among_all, known_one_more, few_known, model_taken}

-- two lists that begin one list are the same, where they are as long
pub same_front : (ds es more less : List Declaration) → ds ++ more ≡ es ++ less → length ds ≡ length es → ds ≡ es
same_front ds es more less e k =
    sym (taken ds more) ∙ ap (take (length ds)) e ∙ ap (λ n. take n (es ++ less)) k ∙ taken es less
  where
    taken : (xs ys : List Declaration) → take (length xs) (xs ++ ys) ≡ xs
    taken xs ys = take-append_seam xs ys

-- the names are those behind the declarations given
pub names_known : (ν : Notation) (bytes : List ℕ) (c : Cursor) (e : Elements) (known texts given : ℕ) (fault : Option TextFault) (s : Standing ν bytes c e known texts given fault)
    → e.names ≡ known_after (take known e.names) (names_of s.ds)
names_known ν bytes c e known texts given None s =
    let b : Between ν (take known e.names) bytes s.ds c e = s.stands in
    b.elements.names ∙ ap (known_after (take known e.names)) (names_among_all s.ds)
names_known ν bytes c e known texts given (Some f) s = s.stands.3

-- the reading that contracts see
abbrev pub seen : Notation → List ℕ → Elements → ℕ → ℕ → ℕ → Reading
seen ν bytes e known texts given = record { notation = ν; known = take known e.names; texts = texts; text = bytes; given = given }

-- which declarations were given is fixed
pub given_same : (ν : Notation) (bytes : List ℕ) (c : Cursor) (e : Elements) (known texts given : ℕ) (fault : Option TextFault) (s : Standing ν bytes c e known texts given fault)
    → GivesOne ν → (ds more : List Declaration) (end : Option (Cause × ℕ)) → TextGives (seen ν bytes e known texts given) (ds ++ more) end → length ds ≡ given → ds ≡ s.ds
given_same ν bytes c e known texts given fault s one ds more end g count =
    let (less, last, h) = s.first in
    same_front ds s.ds more less (one (take known e.names) bytes (ds ++ more) (s.ds ++ less) end last g h).0 (count ∙ sym s.count)

pub names_told : (ν : Notation) (bytes : List ℕ) (c : Cursor) (e : Elements) (known texts given : ℕ) (fault : Option TextFault) → Standing ν bytes c e known texts given fault
    → GivesOne ν → (r : Reading) → seen ν bytes e known texts given ≡ r → NamesKnown r e.names
names_told ν bytes c e known texts given fault s one r view = subst (λ x. NamesKnown x e.names) view (λ ds more end g count.
    names_known ν bytes c e known texts given fault s
    ∙ ap (λ x. known_after (take known e.names) (names_of x)) (sym (given_same ν bytes c e known texts given fault s one ds more end g count)))

-- a text begins
no_text : (ν : Notation) → IsText ν [] []
no_text ν = ([], [], (refl, tt, tt), ([], tt, refl), refl)

none_at_fault : (ν : Notation) (ks : List (List ℕ)) → AllFaultless ν ks []
none_at_fault ν ks ss s more e =
    let size : 0 ≡ length (ss ++ (s ∷ [])) + length more = ap length e ∙ length-append (ss ++ (s ∷ [])) more in
    let one : length (ss ++ (s ∷ [])) ≡ length ss + 1 = length-append ss (s ∷ []) in
    absurd (omega arith)

begun : (ν : Notation) (bytes : List ℕ) (c : Cursor) (e : Elements) (known texts : ℕ) → known ≡ length e.names → c.text.now ≡ bytes → c.at ≡ 0 → ElementsAre ν e.names [] e
    → GivesFirst ν e.names bytes [] → Standing ν bytes c e known texts 0 None
begun ν bytes c e known texts size text at are first =
    let all : take known e.names ≡ e.names = take_all known e.names (omega arith) in record {
      names = omega arith;
      ds = [];
      count = refl;
      first = subst (λ ks. GivesFirst ν ks bytes []) (sym all) first;
      stands = subst (λ ks. Between ν ks bytes [] c e) (sym all) (record {
        text = text;
        read = subst (λ n. IsText ν (take n bytes) []) (sym at) (no_text ν);
        faultless = none_at_fault ν e.names;
        elements = are;
      });
    }

pub begins : (ν : Notation) (bytes : List ℕ) (c : Cursor) (e : Elements) (known texts : ℕ) (ks : List (List ℕ)) → e.names ≡ ks → known ≡ length ks → c.text.now ≡ bytes → c.at ≡ 0
    → ElementsAre ν ks [] e → GivesFirst ν ks bytes [] → Standing ν bytes c e known texts 0 None
begins ν bytes c e known texts ks same size text at are first =
    begun ν bytes c e known texts (size ∙ ap length (sym same)) text at (subst (λ x. ElementsAre ν x [] e) (sym same) are)
    (subst (λ x. GivesFirst ν x bytes []) (sym same) first)

-- a declaration is read
module _ (ν : Notation) (ks : List (List ℕ)) (bytes : List ℕ) (ds : List Declaration) (d : Declaration) (el : Element) (c : Cursor) (e : Elements) (m : Made) (r : Declares ν ks bytes ds d el c e m) where
  names_behind : e.names ≡ known_after ks (names_of (ds ++ (d ∷ [])))
  names_behind = r.between.elements.names ∙ ap (known_after ks) (names_among_all (ds ++ (d ∷ [])))

  names_next : e.names ≡ known_after (known_after ks (names_of ds)) (all_names d)
  names_next = names_behind ∙ known_one_more ks ds d

  few_names : length ks ≤ 64 → length e.names ≤ 64
  few_names few = subst (λ x. length x ≤ 64) (sym r.between.elements.names) (few_known ν ks (all_signs (ds ++ (d ∷ []))) r.between.faultless few)

  parts_next : model_parts e.names d ≡ parts_of (known_after ks (names_of ds)) d
  parts_next = ap (λ x. model_parts x d) names_next

  pub model_made : length ks ≤ 64 → table_answer (model_parts e.names d) ≡ Ok (tree_of e.names (words d.content))
  model_made few =
      let P : List (List ℕ) → Type 0 = λ x. table_answer (model_parts x d) ≡ Ok (tree_of x (words d.content)) in
      subst P (sym names_next)
      (model_taken (known_after ks (names_of ds)) d (subst (λ x. length x ≤ 64) names_next (few_names few))
      (subst (λ x. length (model_parts x d) ≤ 256) names_next r.parts))

-- the names known before a text stay the first
front_kept : (known : ℕ) (old new : List (List ℕ)) (ns : List (List ℕ)) → known ≤ length old → new ≡ known_after old ns → take known new ≡ take known old
front_kept known old new ns le e =
    let (more, k) = added_behind old ns in
    ap (take known) (e ∙ k) ∙ take-append-le known old more le

no_fewer_now : (known : ℕ) (old new : List (List ℕ)) (ns : List (List ℕ)) → known ≤ length old → new ≡ known_after old ns → known ≤ length new
no_fewer_now known old new ns le e =
    let some : length old ≤ length (known_after old ns) = no_fewer old ns in
    let same : length new ≡ length (known_after old ns) = ap length e in
    omega arith

-- before a call that reads on
pub unfailed : (ν : Notation) (bytes : List ℕ) (c : Cursor) (e : Elements) (known texts given : ℕ) (fault : Option TextFault) → Standing ν bytes c e known texts given fault → fault ≡ None
    → Standing ν bytes c e known texts given None
unfailed ν bytes c e known texts given fault s none = subst (Standing ν bytes c e known texts given) none s

pub stands_between : (ν : Notation) (bytes : List ℕ) (c : Cursor) (e : Elements) (known texts given : ℕ) (s : Standing ν bytes c e known texts given None)
    → Between ν (take known e.names) bytes s.ds c e
stands_between ν bytes c e known texts given s = s.stands

-- after one that read a declaration
pub gave : (ν : Notation) (bytes : List ℕ) (c new : Cursor) (e f : Elements) (known texts given : ℕ) (s : Standing ν bytes c e known texts given None) (d : Declaration) (el : Element) (m : Made)
    → Declares ν (take known e.names) bytes s.ds d el new f m → NamesGrow e f → Standing ν bytes new f known texts (given + 1) None
gave ν bytes c new e f known texts given s d el m r (ns, grow) =
    let same : take known f.names ≡ take known e.names = front_kept known e.names f.names ns s.names grow in
    record {
      names = no_fewer_now known e.names f.names ns s.names grow;
      ds = s.ds ++ (d ∷ []);
      count = length-append s.ds (d ∷ []) ∙ ap (λ n. n + 1) s.count;
      first = subst (λ x. GivesFirst ν x bytes (s.ds ++ (d ∷ []))) (sym same) r.first;
      stands = subst (λ x. Between ν x bytes (s.ds ++ (d ∷ [])) new f) (sym same) r.between;
    }

-- that found the end
pub ended : (ν : Notation) (bytes : List ℕ) (c new : Cursor) (e f : Elements) (known texts given : ℕ) (s : Standing ν bytes c e known texts given None)
    → Between ν (take known e.names) bytes s.ds new f → NamesGrow e f → Standing ν bytes new f known texts given None
ended ν bytes c new e f known texts given s b (ns, grow) =
    let same : take known f.names ≡ take known e.names = front_kept known e.names f.names ns s.names grow in
    record {
      names = no_fewer_now known e.names f.names ns s.names grow;
      ds = s.ds;
      count = s.count;
      first = subst (λ x. GivesFirst ν x bytes s.ds) (sym same) s.first;
      stands = subst (λ x. Between ν x bytes s.ds new f) (sym same) b;
    }

-- that found a fault, with the names as they were
pub failed : (ν : Notation) (bytes : List ℕ) (c new : Cursor) (e f : Elements) (known texts given : ℕ) (s : Standing ν bytes c e known texts given None) (fault : TextFault)
    → f.names ≡ e.names → Fails ν (take known e.names) bytes s.ds (record { cause = fault.cause; place = fault.place }) → fault.texts ≡ texts → fault.declarations ≡ given
    → Standing ν bytes new f known texts given (Some fault)
failed ν bytes c new e f known texts given s fault same fails told count =
    let front : take known f.names ≡ take known e.names = ap (take known) same in record {
      names = subst (λ x. known ≤ length x) (sym same) s.names;
      ds = s.ds;
      count = s.count;
      first = subst (λ x. GivesFirst ν x bytes s.ds) (sym front) s.first;
      stands = (
        subst (λ x. Fails ν x bytes s.ds (record { cause = fault.cause; place = fault.place })) (sym front) fails,
        told,
        count,
        same ∙ names_known ν bytes c e known texts given None s ∙ ap (λ x. known_after x (names_of s.ds)) (sym front),
      );
    }

-- what is told
pub due_declaration : (ν : Notation) (bytes : List ℕ) (c new : Cursor) (e f : Elements) (known texts given : ℕ) (s : Standing ν bytes c e known texts given None) (d : Declaration) (el : Element)
    (m : Made) → Declares ν (take known e.names) bytes s.ds d el new f m → (n : List ℕ) (symbol : ℕ) (ps : List Part) → n ≡ el.name.now → symbol ≡ el.symbol → ps ≡ model_parts f.names d
    → NextDue (seen ν bytes e known texts given) (declares ps symbol n)
due_declaration ν bytes c new e f known texts given s d el m r n symbol ps name is parts =
    let (more, end, g) = r.first in (
      s.ds,
      d,
      more,
      end,
      subst (λ x. Gives ν (take known e.names) bytes x end) (append_assoc s.ds (d ∷ []) more) g,
      s.count,
      name ∙ r.name,
      is ∙ r.symbol ∙ ap (λ x. symbol_in x d.name) (names_behind ν (take known e.names) bytes s.ds d el new f m r),
      parts ∙ parts_next ν (take known e.names) bytes s.ds d el new f m r,
    )

pub due_none : (ν : Notation) (bytes : List ℕ) (c : Cursor) (e : Elements) (known texts given : ℕ) (s : Standing ν bytes c e known texts given None)
    → Gives ν (take known e.names) bytes s.ds None → NextDue (seen ν bytes e known texts given) none_left
due_none ν bytes c e known texts given s g = (s.ds, g, s.count)

numbered : (ν : Notation) (cause : TextCause) → cause_number cause ≡ number ν (cause_of cause)
numbered dtd NotDeclarations = refl
numbered dtd AnyContent = refl
numbered dtd DeclaredAgain = refl
numbered dtd LongName = refl
numbered dtd TooManyNames = refl
numbered dtd TooManyDeclarations = refl
numbered dtd TooDeep = refl
numbered dtd TooManyParts = refl

figures : (ν : Notation) (texts given : ℕ) (fault : TextFault) → fault.texts ≡ texts → fault.declarations ≡ given
    → text_notice fault ≡ record { notice = at_text (number ν (cause_of fault.cause)) fault.place; texts = texts; declarations = given }
figures ν texts given fault told count =
    ap (λ n. record { notice = at_text n fault.place; texts = fault.texts; declarations = fault.declarations }) (numbered ν fault.cause)
    ∙ ap (λ t. record { notice = at_text (number ν (cause_of fault.cause)) fault.place; texts = t; declarations = fault.declarations }) told
    ∙ ap (λ k. record { notice = at_text (number ν (cause_of fault.cause)) fault.place; texts = texts; declarations = k }) count

pub due_new_fault : (ν : Notation) (bytes : List ℕ) (c : Cursor) (e : Elements) (known texts given : ℕ) (s : Standing ν bytes c e known texts given None) (fault : TextFault)
    → Fails ν (take known e.names) bytes s.ds (record { cause = fault.cause; place = fault.place }) → fault.texts ≡ texts → fault.declarations ≡ given
    → NextDue (seen ν bytes e known texts given) (tell fault)
due_new_fault ν bytes c e known texts given s fault fails told count = (
  s.ds,
  cause_of fault.cause,
  fails.0,
  s.count,
  figures ν texts given fault told count,
  fails.1,
)

pub due_fault : (ν : Notation) (bytes : List ℕ) (c : Cursor) (e : Elements) (known texts given : ℕ) (fault : TextFault) → Standing ν bytes c e known texts given (Some fault)
    → NextDue (seen ν bytes e known texts given) (tell fault)
due_fault ν bytes c e known texts given fault s =
    let (fails, told, count, names) = s.stands in
    (s.ds, cause_of fault.cause, fails.0, s.count, figures ν texts given fault told count, fails.1)

-- asked of a sheet of 256 parts
pub asked : (r r2 : Reading) (l : ℕ) (t : Told) → l ≡ 256 → r ≡ r2 → NextDue r t → NextAsked r2 l t
asked r r2 l t is same due = subst (λ n. NextAsked r2 n t) (sym is) (subst (λ x. NextDue x t) same due)

-- the model of the declaration, whatever way what the text gives is told
pub model_told : (ν : Notation) (bytes : List ℕ) (c new : Cursor) (e f : Elements) (known texts given : ℕ) (s : Standing ν bytes c e known texts given None) (d : Declaration) (el : Element)
    (m : Made) → Declares ν (take known e.names) bytes s.ds d el new f m → GivesOne ν → length e.names ≤ 64 → (n : List ℕ) (symbol : ℕ) (ps : List Part)
    → ps ≡ model_parts f.names d → ModelTold (seen ν bytes e known texts given) (declares ps symbol n)
model_told ν bytes c new e f known texts given s d el m r one few n symbol ps parts ds other more end g count =
    let (less, last, h) = r.first in
    let first : ds ≡ s.ds = given_same ν bytes c e known texts given None s one ds (other ∷ more) end g count in
    let both : ds ++ (other ∷ more) ≡ (s.ds ++ (d ∷ [])) ++ less =
    (one (take known e.names) bytes (ds ++ (other ∷ more)) ((s.ds ++ (d ∷ [])) ++ less) end last g h).0 in
    let next : ds ++ (other ∷ []) ≡ s.ds ++ (d ∷ []) =
    same_front (ds ++ (other ∷ [])) (s.ds ++ (d ∷ [])) more less (append_assoc ds (other ∷ []) more ∙ both)
    (length-append ds (other ∷ []) ∙ ap (λ x. length x + 1) first ∙ sym (length-append s.ds (d ∷ []))) in
    let is : other ≡ d = last_same ds s.ds other d first next in
    let names : f.names ≡ known_after (take known e.names) (names_of (ds ++ (other ∷ []))) =
    names_behind ν (take known e.names) bytes s.ds d el new f m r ∙ ap (λ x. known_after (take known e.names) (names_of x)) (sym next) in
    let made : table_answer (model_parts f.names d) ≡ Ok (tree_of f.names (words d.content)) =
    model_made ν (take known e.names) bytes s.ds d el new f m r (few_front known e.names few) in
    ap table_answer parts ∙ made ∙ ap (λ x. Ok (tree_of x (words d.content))) names
    ∙ ap (λ x. Ok (tree_of (known_after (take known e.names) (names_of (ds ++ (other ∷ [])))) (words x.content))) (sym is)
  where
    last_same : (xs ys : List Declaration) (x y : Declaration) → xs ≡ ys → xs ++ (x ∷ []) ≡ ys ++ (y ∷ []) → x ≡ y
    last_same xs ys x y same e =
        let tail : x ∷ [] ≡ y ∷ [] =
        sym (drop-append_seam xs (x ∷ [])) ∙ ap (drop (length xs)) e ∙ ap (λ n. drop n (ys ++ (y ∷ []))) (ap length same) ∙ drop-append_seam ys (y ∷ []) in
        ap (λ zs. elim zs [ [] ↦ x | z ∷ rest ↦ z ]) tail

    few_front : (k : ℕ) (names : List (List ℕ)) → length names ≤ 64 → length (take k names) ≤ 64
    few_front k names few = omega (arith, length-take k names)

-- at what a call was told
pub at_some : (ν : Notation) (ks : List (List ℕ)) (bytes : List ℕ) (ds : List Declaration) (x : Option Element) (el : Element) (c : Cursor) (e : Elements) (m : Made)
    → x ≡ Some el → Owed ν ks bytes ds (Ok x) c e m → (d : Declaration) × Declares ν ks bytes ds d el c e m
at_some ν ks bytes ds x el c e m is h = subst (λ y. Owed ν ks bytes ds (Ok y) c e m) is h

pub at_none : (ν : Notation) (ks : List (List ℕ)) (bytes : List ℕ) (ds : List Declaration) (x : Option Element) (c : Cursor) (e : Elements) (m : Made)
    → x ≡ None → Owed ν ks bytes ds (Ok x) c e m → Gives ν ks bytes ds None × Between ν ks bytes ds c e
at_none ν ks bytes ds x c e m is h = subst (λ y. Owed ν ks bytes ds (Ok y) c e m) is h

pub at_fault : (ν : Notation) (bytes : List ℕ) (c : Cursor) (e : Elements) (known texts given : ℕ) (fault : Option TextFault) (f : TextFault) → fault ≡ Some f
    → Standing ν bytes c e known texts given fault → Standing ν bytes c e known texts given (Some f)
at_fault ν bytes c e known texts given fault f is s = subst (Standing ν bytes c e known texts given) is s

-- what contracts see afterwards
pub seen_same : (ν : Notation) (bytes : List ℕ) (e f : Elements) (known texts given : ℕ) → take known f.names ≡ take known e.names
    → seen ν bytes f known texts given ≡ seen ν bytes e known texts given
seen_same ν bytes e f known texts given front = ap (λ x. record { notation = ν; known = x; texts = texts; text = bytes; given = given }) front

pub seen_ended : (ν : Notation) (bytes : List ℕ) (c new : Cursor) (e f : Elements) (known texts given : ℕ) (s : Standing ν bytes c e known texts given None)
    → Between ν (take known e.names) bytes s.ds new f → NamesGrow e f → seen ν bytes f known texts given ≡ seen ν bytes e known texts given
seen_ended ν bytes c new e f known texts given s b (ns, grow) = seen_same ν bytes e f known texts given (front_kept known e.names f.names ns s.names grow)

pub seen_gave : (ν : Notation) (bytes : List ℕ) (c new : Cursor) (e f : Elements) (known texts given : ℕ) (s : Standing ν bytes c e known texts given None) (d : Declaration) (el : Element) (m : Made)
    → Declares ν (take known e.names) bytes s.ds d el new f m → NamesGrow e f
    → seen ν bytes f known texts (given + 1) ≡ record (seen ν bytes e known texts given) { given = given + 1 }
seen_gave ν bytes c new e f known texts given s d el m r (ns, grow) =
    seen_same ν bytes e f known texts (given + 1) (front_kept known e.names f.names ns s.names grow)

pub model_is : (ν : Notation) (ks : List (List ℕ)) (bytes : List ℕ) (ds : List Declaration) (d : Declaration) (el : Element) (c : Cursor) (e : Elements) (m : Made)
    → Declares ν ks bytes ds d el c e m → length ks ≤ 64 → is_model (model_parts e.names d) ≡ true
model_is ν ks bytes ds d el c e m r few = ap is_ok (model_made ν ks bytes ds d el c e m r few)

pub few_before : (known : ℕ) (names : List (List ℕ)) → AreKept names → length (take known names) ≤ 64
few_before known names kept = let few = kept.few in omega (arith, length-take known names)

pub few_given : (ds : List Declaration) (given : ℕ) → length ds ≡ given → length ds < 32 → given + 1 < 2 ^ 32
few_given ds given e h = omega arith

-- the parts delivered are the first of the sheet
pub delivered_front : (el : Element) (ps old new : List Part) (d : Declared) → Delivered el ps old (Ok d) new → take d.length new ≡ ps
delivered_front el ps old new d (size, symbol, name, place, sheet) = ap (take d.length) sheet ∙ ap (λ n. take n (ps ++ replicate (256 - length ps) blank)) size ∙ take-append_seam ps _

pub sheet_given : (el : Element) (ps old new : List Part) (d : Declared) → Delivered el ps old (Ok d) new
    → new ≡ take d.length new ++ replicate (256 - length (take d.length new)) blank
sheet_given el ps old new d h = h.4 ∙ ap (λ x. x ++ replicate (256 - length x) blank) (sym (delivered_front el ps old new d h))

-- the names after a fault are those before the call
pub names_back : (e f : Elements) (known : ℕ) (new : List (List ℕ)) → NamesGrow e f → known ≡ length e.names → new ≡ take known f.names → new ≡ e.names
names_back e f known new (ns, grow) size cut = cut ∙ ap (λ n. take n f.names) size ∙ ap (take (length e.names)) grow ∙ front_stays e.names ns

pub told_of : (r r2 : Reading) (t : Told) → r ≡ r2 → ModelTold r t → ModelTold r2 t
told_of r r2 t same h = subst (λ x. ModelTold x t) same h

pub one_more : (r r2 : Reading) → r ≡ r2 → record r { given = r.given + 1 } ≡ record r2 { given = r2.given + 1 }
one_more r r2 same = ap (λ x. record { notation = x.notation; known = x.known; texts = x.texts; text = x.text; given = x.given + 1 }) same

-- where the name stands
pub place_told : (ν : Notation) (bytes : List ℕ) (c new : Cursor) (e f : Elements) (known texts given : ℕ) (s : Standing ν bytes c e known texts given None) (d : Declaration) (el : Element)
    (m : Made) → Declares ν (take known e.names) bytes s.ds d el new f m → GivesOne ν → (dl : Declared) → dl.name.now ≡ el.name.now → dl.place ≡ el.place
    → (r : Reading) → seen ν bytes e known texts given ≡ r → PlaceTold r (Ok (Some dl))
place_told ν bytes c new e f known texts given s d el m r one dl name place reading view = subst (λ x. PlaceTold x (Ok (Some dl))) view (λ ds more end g count.
    let first : ds ≡ s.ds = given_same ν bytes c e known texts given None s one ds more end g count in
    subst (λ n. SignStands ν bytes dl.place (all_signs ds ++ (element ∷ [])) (declared n)) (sym (name ∙ r.name))
    (subst (λ p. SignStands ν bytes p (all_signs ds ++ (element ∷ [])) (declared d.name)) (sym place)
    (subst (λ x. SignStands ν bytes el.place (all_signs x ++ (element ∷ [])) (declared d.name)) (sym first) r.stands)))

-- how many declarations and parts there are
pub limits_told : (ν : Notation) (ks : List (List ℕ)) (bytes : List ℕ) (ds : List Declaration) (d : Declaration) (el : Element) (c : Cursor) (e : Elements) (m : Made)
    → Declares ν ks bytes ds d el c e m → (given : ℕ) → length ds ≡ given → (dl : Declared) → dl.length ≡ length (model_parts e.names d)
    → (r : Reading) → given ≡ r.given → WithinLimits r (Ok (Some dl))
limits_told ν ks bytes ds d el c e m r given count dl size reading is =
    let few : length ds < 32 = r.few in
    let parts : length (model_parts e.names d) ≤ 256 = r.parts in
    (omega arith, omega arith)
