-- Mixed content: how it goes on and ends, and its parts. Assumes nothing.
use Rattle.std.proofs.Common.{◌≡◌, ℕ, ◌-◌, ◌<◌, Bool, true, false, ◌==◌, List, [], ◌∷◌, ◌++◌, length, take, None, sym, refl, ap, ◌∙◌, subst, append_assoc, arith}
use Rattle.std.specs.Prelude.{Ok, Err, Result}
use Rattle.std.proofs.lemmas.Bool.{false≢true}
use Rattle.names.specs.Numbering.{symbol_in, known_after}
use Rattle.names.proofs.Numbering.{symbol_stays, met_in_turn}
use Rattle.parts.specs.Parts.{blank}
use Rattle.models.specs.Written.{sheet}
use Rattle.grammar.specs.Bytes.{is_blank}
use Rattle.grammar.specs.Notations.Notation.{dtd}
use Rattle.grammar.specs.Words.{Words}
use Rattle.grammar.specs.Words.Words.{name, joined}
use Rattle.grammar.specs.Words.Join.{alt}
use Rattle.grammar.specs.Words.Mark.{any}
use Rattle.grammar.specs.Words.Sign.{closes, suffix, separator}
use Rattle.grammar.specs.Meaning.{tree_of}
use Rattle.grammar.specs.Declarations.{Declaration, Sign, alternated}
use Rattle.grammar.specs.Declarations.Content.{text}
use Rattle.grammar.specs.Declarations.Sign.{inner}
use Rattle.grammar.specs.Machine.{Spot, Named, name_before, refused, feed_at}
use Rattle.grammar.specs.Machine.Named.{mate}
use Rattle.grammar.specs.Machine.Spot.{mixed, wanted, starless, full}
use Rattle.text.specs.Contents.{Made, made_of, MakesMore, symbol_part, join_part, mark_parts}
use Rattle.text.specs.Cursors.{rest_of, Moved, BlanksRead}
use Rattle.text.specs.Declaring.{ReadTo, PartsFor, mixed_parts, is_alone, Ended, WantsName, IsChildName, ChildRead, Onward}
use Rattle.text.specs.Fronts.{Past}
use Rattle.text.specs.Progress.{Fails, NamesGrow, SymbolIs}
use Rattle.text.specs.declared.cursor.Cursor.{Cursor}
use Rattle.text.specs.declared.elements.Elements.{Elements}
use Rattle.text.specs.declared.fault.PlacedCause.{PlacedCause}
use Rattle.text.specs.declared.fault.TextCause.TheVariants.{NotDeclarations}
use Rattle.text.specs.declared.join.Join.TheVariants as join
use Rattle.text.specs.declared.mark.Mark.TheVariants as mark
use Rattle.text.proofs.Walking.{placed, Refuses, byte_fails}
use Rattle.text.proofs.Contents.{over_quiet, signs_refused, byte_refused, unlike, any_sheet, join_sheet, byte_moved, begins_so, begins_other, read_blanks, blanks_past, blanks_onward}
use Rattle.std.proofs.Math.Dec.{eqb}
use Rattle.std.specs.List.{starts_with}

-- no sign is at fault here
never_refused : (h : Bool) (σ : Spot) (s : Sign) → refused true σ s ≡ false → refused false σ s ≡ false → refused h σ s ≡ false
never_refused true σ s p q = p
never_refused false σ s p q = q

-- what is neither '|' nor ')' is refused
mixed_byte : (ds : List Declaration) (n : List ℕ) (ns : List (List ℕ)) (h : Bool) (b : ℕ) → is_blank b ≡ false → (b == 124) ≡ false → (b == 41) ≡ false
    → feed_at (mixed ds n ns) h b ≡ None
mixed_byte ds n ns h b plain bar paren =
    byte_refused (mixed ds n ns) h b plain (λ _. refl) refl (λ _. refl)
    (signs_refused (mixed ds n ns) h b (λ _. refl) (unlike paren) (λ _. refl) (λ _. refl) (λ _. refl) (unlike bar) (λ _. refl) (λ _. refl))

mixed_refuses : (ds : List Declaration) (n : List ℕ) (ns : List (List ℕ)) (h : Bool) (rest : List ℕ) → Past is_blank rest → Past (λ b. b == 124) rest → Past (λ b. b == 41) rest
    → Refuses (mixed ds n ns) h rest
mixed_refuses ds n ns h [] plain bar paren = refl
mixed_refuses ds n ns h (b ∷ rest) plain bar paren = mixed_byte ds n ns h b plain bar paren

pub mixed_stops : (ks : List (List ℕ)) (bytes : List ℕ) (ds : List Declaration) (n : List ℕ) (ns : List (List ℕ)) (h : Bool) (c : Cursor) (e : Elements)
    → ReadTo ks bytes (mixed ds n ns) h c e → Past is_blank (rest_of c) → Past (λ b. b == 124) (rest_of c) → Past (λ b. b == 41) (rest_of c)
    → Fails dtd ks bytes ds (placed NotDeclarations c.at)
mixed_stops ks bytes ds n ns h c e r plain bar paren =
    byte_fails ks bytes (mixed ds n ns) h (rest_of c) c r.cursor refl (mixed_refuses ds n ns h (rest_of c) plain bar paren)

-- over ')'
pub mixed_closed : (ks : List (List ℕ)) (bytes : List ℕ) (ds : List Declaration) (n : List ℕ) (ns : List (List ℕ)) (h : Bool) (old new : Cursor) (e : Elements)
    → ReadTo ks bytes (mixed ds n ns) h old e → Moved old (41 ∷ []) new → ReadTo ks bytes (starless ds n ns) false new e
mixed_closed ks bytes ds n ns h old new e r m =
    over_quiet ks bytes (mixed ds n ns) h (inner closes) (starless ds n ns) old new e r
    (never_refused h (mixed ds n ns) (inner closes) refl refl) refl tt m tt ((λ x. x), (λ x. x)) tt

-- names want a '*'
starless_byte : (ds : List Declaration) (n m : List ℕ) (ms : List (List ℕ)) (b : ℕ) → (b == 42) ≡ false → feed_at (starless ds n (m ∷ ms)) false b ≡ None
starless_byte ds n m ms b star = by (is_blank b) refl
  where
    by : (t : Bool) → is_blank b ≡ t → feed_at (starless ds n (m ∷ ms)) false b ≡ None
    by true e = rw e refl
    by false e =
        byte_refused (starless ds n (m ∷ ms)) false b e (λ _. refl) refl (λ _. refl)
        (signs_refused (starless ds n (m ∷ ms)) false b (λ _. refl) (λ _. refl) (λ _. refl) (λ _. refl) (unlike star) (λ _. refl) (λ _. refl) (λ _. refl))

starless_refuses : (ds : List Declaration) (n m : List ℕ) (ms : List (List ℕ)) (rest : List ℕ) → Past (λ b. b == 42) rest → Refuses (starless ds n (m ∷ ms)) false rest
starless_refuses ds n m ms [] star = refl
starless_refuses ds n m ms (b ∷ rest) star = starless_byte ds n m ms b star

pub star_missing : (ks : List (List ℕ)) (bytes : List ℕ) (ds : List Declaration) (n : List ℕ) (ns : List (List ℕ)) (c : Cursor) (e : Elements)
    → ReadTo ks bytes (starless ds n ns) false c e → false ≡ is_alone ns → Past (λ b. b == 42) (rest_of c) → Fails dtd ks bytes ds (placed NotDeclarations c.at)
star_missing ks bytes ds n [] c e r some star = absurd (false≢true some)
star_missing ks bytes ds n (m ∷ ms) c e r some star =
    byte_fails ks bytes (starless ds n (m ∷ ms)) false (rest_of c) c r.cursor refl (starless_refuses ds n m ms (rest_of c) star)

-- over '*'
pub mixed_starred : (ks : List (List ℕ)) (bytes : List ℕ) (ds : List Declaration) (n : List ℕ) (ns : List (List ℕ)) (old new : Cursor) (e : Elements)
    → ReadTo ks bytes (starless ds n ns) false old e → Moved old (42 ∷ []) new → ReadTo ks bytes (full ds n (text ns true)) false new e
mixed_starred ks bytes ds n ns old new e r m =
    over_quiet ks bytes (starless ds n ns) false (inner (suffix any)) (full ds n (text ns true)) old new e r refl refl tt m tt ((λ x. x), (λ x. x)) tt

-- whether a '*' has been read
abbrev pub StarRead : Bool → Cursor → Cursor → Type 0
StarRead true old new = Moved old (42 ∷ []) new
StarRead false old new = (new ≡ old) × Past (λ b. b == 42) (rest_of old)

pub star_read : (starred : Bool) (old new after : Cursor) (rest : List ℕ) → rest ≡ rest_of old → starred ≡ starts_with eqb rest (42 ∷ []) → starred ≡ true
    → Moved old (take 1 (rest_of old)) new → after ≡ new → StarRead starred old after
star_read true old new after rest same is so m e =
    let (some, first) = begins_so rest 42 is so in
    subst (StarRead true old) (sym e) (byte_moved old new 42 rest same some first m)
star_read false old new after rest same is so m e = absurd (false≢true so)

pub star_unread : (starred : Bool) (old after : Cursor) (rest : List ℕ) → rest ≡ rest_of old → starred ≡ starts_with eqb rest (42 ∷ []) → starred ≡ false → after ≡ old
    → StarRead starred old after
star_unread true old after rest same is so e = absurd (false≢true (sym so))
star_unread false old after rest same is so e = (e, subst (Past (λ b. b == 42)) same (begins_other rest 42 is so))

-- #PCDATA alone
pub alone_ended : (ks : List (List ℕ)) (bytes : List ℕ) (ds : List Declaration) (n : List ℕ) (ns : List (List ℕ)) (starred : Bool) (old new : Cursor) (e : Elements) (before after : Made)
    → ReadTo ks bytes (starless ds n ns) false old e → StarRead starred old new → true ≡ is_alone ns → PartsFor (mixed_parts ns) e before → MakesMore before (blank ∷ []) after
    → Ended ks bytes ds n (Ok tt) new e after
alone_ended ks bytes ds n (m ∷ ms) starred old new e before after r s some parts more = absurd (false≢true (sym some))
alone_ended ks bytes ds n [] true old new e before after r s some parts more =
    (text [] true, full ds n (text [] true), mixed_starred ks bytes ds n [] old new e r s, (refl, refl, refl), (λ ms. more [] (parts ms)))
alone_ended ks bytes ds n [] false old new e before after r (same, past) some parts more = (
  text [] false,
  starless ds n [],
  subst (λ c. ReadTo ks bytes (starless ds n []) false c e) (sym same) r,
  (refl, refl, refl, subst (λ c. Past (λ b. b == 42) (rest_of c)) (sym same) past),
  (λ ms. more [] (parts ms)),
)

-- names, and a '*'
pub names_ended : (ks : List (List ℕ)) (bytes : List ℕ) (ds : List Declaration) (n : List ℕ) (ns : List (List ℕ)) (old new : Cursor) (e : Elements) (before after : Made)
    → ReadTo ks bytes (starless ds n ns) false old e → StarRead true old new → false ≡ is_alone ns → PartsFor (mixed_parts ns) e before → MakesMore before (mark_parts mark.Any) after
    → Ended ks bytes ds n (Ok tt) new e after
names_ended ks bytes ds n [] old new e before after r s some parts more = absurd (false≢true some)
names_ended ks bytes ds n (m ∷ ms) old new e before after r s some parts more = (
  text (m ∷ ms) true,
  full ds n (text (m ∷ ms) true),
  mixed_starred ks bytes ds n (m ∷ ms) old new e r s,
  (refl, refl, refl),
  (λ later.
      let known = known_after e.names later in
      more (mixed_parts (m ∷ ms) known) (parts later) ∙ ap made_of (sym (any_sheet (tree_of known (alternated (name m) ms))))),
)

-- what has been read of mixed content, as one more name is wanted or it ends
abbrev pub MatesRead : Cursor → Elements → Made → Cursor → Elements → Made → Bool → Type 0
MatesRead c₀ e₀ m₀ c e m alone =
    (ks : List (List ℕ)) (bytes : List ℕ) (ds : List Declaration) (n : List ℕ) → ReadTo ks bytes (mixed ds n []) false c₀ e₀ → m₀ ≡ made_of []
    → (ns : List (List ℕ)) × (h : Bool) × ReadTo ks bytes (mixed ds n ns) h c e × (alone ≡ is_alone ns) × PartsFor (mixed_parts ns) e m

-- over '|'
pub mate_wanted : (ks : List (List ℕ)) (bytes : List ℕ) (ds : List Declaration) (n : List ℕ) (ns : List (List ℕ)) (h : Bool) (old new : Cursor) (e : Elements)
    → ReadTo ks bytes (mixed ds n ns) h old e → Moved old (124 ∷ []) new → ReadTo ks bytes (wanted ds n ns) false new e
mate_wanted ks bytes ds n ns h old new e r m =
    over_quiet ks bytes (mixed ds n ns) h (inner (separator alt)) (wanted ds n ns) old new e r
    (never_refused h (mixed ds n ns) (inner (separator alt)) refl refl) refl tt m tt ((λ x. x), (λ x. x)) tt

-- and then a name has to stand
pub wants_mate : (ds : List Declaration) (n : List ℕ) (ns : List (List ℕ)) (h : Bool) (rest : List ℕ) → Past is_blank rest → WantsName (wanted ds n ns) h rest
wants_mate ds n ns h [] plain = tt
wants_mate ds n ns h (b ∷ rest) plain = λ never.
    byte_refused (wanted ds n ns) h b plain (unlike never) refl (λ _. refl)
    (signs_refused (wanted ds n ns) h b (λ _. refl) (λ _. refl) (λ _. refl) (λ _. refl) (λ _. refl) (λ _. refl) (λ _. refl) (λ _. refl))

-- a name more
alternated-append : (w : Words) (ns : List (List ℕ)) (m : List ℕ) → alternated w (ns ++ (m ∷ [])) ≡ joined (alternated w ns) alt (name m)
alternated-append w [] m = refl
alternated-append w (n ∷ ns) m = alternated-append (joined w alt (name n)) ns m

abbrev pub JoinMade : Bool → Made → Made → Type 0
JoinMade true before after = after ≡ before
JoinMade false before after = MakesMore before (join_part join.Choice ∷ []) after

pub choice_made : (alone : Bool) (before one after : Made) → alone ≡ false → MakesMore before (join_part join.Choice ∷ []) one → after ≡ one → JoinMade alone before after
choice_made true before one after is adds e = absurd (false≢true (sym is))
choice_made false before one after is adds e = subst (MakesMore before (join_part join.Choice ∷ [])) (sym e) adds

pub none_made : (alone : Bool) (before after : Made) → alone ≡ true → after ≡ before → JoinMade alone before after
none_made true before after is e = e
none_made false before after is e = absurd (false≢true is)

more_mates : (ks : List (List ℕ)) (ns : List (List ℕ)) (m : List ℕ) (old one new : Made) → old ≡ made_of (mixed_parts ns ks)
    → MakesMore old (symbol_part (symbol_in ks m) ∷ []) one → JoinMade (is_alone ns) one new → new ≡ made_of (mixed_parts (ns ++ (m ∷ [])) ks)
more_mates ks [] m old one new are adds joins = joins ∙ adds [] are
more_mates ks (n ∷ ns) m old one new are adds joins =
    let t = tree_of ks (alternated (name n) ns) in
    let s = symbol_part (symbol_in ks m) ∷ [] in
    joins (sheet t ++ s) (adds (sheet t) are)
    ∙ ap made_of (append_assoc (sheet t) s (join_part join.Choice ∷ []))
    ∙ ap made_of (sym (join_sheet alt t (tree_of ks (name m))))
    ∙ ap (λ w. made_of (sheet (tree_of ks w))) (sym (alternated-append (name n) ns m))

pub mate_parts : (ns : List (List ℕ)) (m : List ℕ) (s : ℕ) (alone : Bool) (before after : Elements) (old one new : Made) → PartsFor (mixed_parts ns) before old
    → NamesGrow before after → SymbolIs m (Ok s) after → alone ≡ is_alone ns → MakesMore old (symbol_part s ∷ []) one → JoinMade alone one new
    → PartsFor (mixed_parts (ns ++ (m ∷ []))) after new
mate_parts ns m s alone before after old one new parts (ms, grown) (is, known, few) e adds joins more =
    more_mates ks ns m old one new (subst (λ ks. old ≡ made_of (mixed_parts ns ks)) (sym turn) (parts (ms ++ more)))
    (subst (λ i. MakesMore old (symbol_part i ∷ []) one) (is ∙ sym (symbol_stays after.names more m known)) adds)
    (subst (λ b. JoinMade b one new) e joins)
  where
    ks : List (List ℕ)
    ks = known_after after.names more

    turn : known_after after.names more ≡ known_after before.names (ms ++ more)
    turn = ap (λ ns. known_after ns more) grown ∙ sym (met_in_turn before.names ms more)

not_alone : (ns : List (List ℕ)) (m : List ℕ) → false ≡ is_alone (ns ++ (m ∷ []))
not_alone [] m = refl
not_alone (n ∷ ns) m = refl

-- the text gets shorter
pub mate_smaller : (c₀ c₁ c₂ c₃ c₄ : Cursor) (b d : Bool) → Moved c₀ (124 ∷ []) c₁ → BlanksRead c₁ b c₂ → Onward c₂ c₃ → BlanksRead c₃ d c₄
    → length c₄.text.now - c₄.at < length c₀.text.now - c₀.at
mate_smaller c₀ c₁ c₂ c₃ c₄ b d m first on last =
    let one : Onward c₁ c₂ = blanks_onward b c₁ c₂ first in
    let two : Onward c₃ c₄ = blanks_onward d c₃ c₄ last in
    let same : length c₄.text.now ≡ length c₀.text.now = ap length (two.0 ∙ on.0 ∙ one.0 ∙ m.same) in
    omega (arith, m.at, c₄.inside, one.1, two.1, on.1)

-- the loop
pub mates_begin : (c₀ c : Cursor) (e : Elements) (made : Made) (b : Bool) → BlanksRead c₀ b c → MatesRead c₀ e made c e made true
mates_begin c₀ c e made b read ks bytes ds n r none = ([], _, read_blanks ks bytes (mixed ds n []) false b c₀ c e r refl read, refl, (λ more. none))

pub mate_read : (c₀ c d d₁ d₂ d₃ : Cursor) (e₀ e f : Elements) (m₀ old one new : Made) (alone b a : Bool) (s : ℕ)
    → MatesRead c₀ e₀ m₀ c e old alone → Moved c (124 ∷ []) d → BlanksRead d b d₁
    → ((ks : List (List ℕ)) (bytes : List ℕ) (a : Named) (h : Bool) → IsChildName a → ReadTo ks bytes (name_before a) h d₁ e → WantsName (name_before a) h (rest_of d₁) → ChildRead ks bytes a (Ok s) d₂ f)
    → NamesGrow e f → MakesMore old (symbol_part s ∷ []) one → JoinMade alone one new → BlanksRead d₂ a d₃ → MatesRead c₀ e₀ m₀ d₃ f new false
mate_read c₀ c d d₁ d₂ d₃ e₀ e f m₀ old one new alone b a s so_far moved first child grow adds joins last ks bytes ds n r none =
    let (ns, h, at, is, parts) = so_far ks bytes ds n r none in
    let (m, read, symbol) =
    child ks bytes (mate ds n ns) _ tt
    (read_blanks ks bytes (wanted ds n ns) false b d d₁ e (mate_wanted ks bytes ds n ns h c d e at moved) refl first)
    (wants_mate ds n ns _ (rest_of d₁) (blanks_past b d d₁ first)) in (
      ns ++ (m ∷ []),
      _,
      read_blanks ks bytes (mixed ds n (ns ++ (m ∷ []))) false a d₂ d₃ f read refl last,
      not_alone ns m,
      mate_parts ns m s alone e f old one new parts grow symbol is adds joins,
    )

pub mate_fails : (c₀ c d d₁ d₂ : Cursor) (e₀ e f : Elements) (m₀ old : Made) (alone b : Bool) (cause : PlacedCause)
    → MatesRead c₀ e₀ m₀ c e old alone → Moved c (124 ∷ []) d → BlanksRead d b d₁
    → ((ks : List (List ℕ)) (bytes : List ℕ) (a : Named) (h : Bool) → IsChildName a → ReadTo ks bytes (name_before a) h d₁ e → WantsName (name_before a) h (rest_of d₁) → ChildRead ks bytes a (Err cause) d₂ f)
    → (ks : List (List ℕ)) (bytes : List ℕ) (ds : List Declaration) (n : List ℕ) → ReadTo ks bytes (mixed ds n []) false c₀ e₀ → m₀ ≡ made_of []
    → Fails dtd ks bytes ds cause
mate_fails c₀ c d d₁ d₂ e₀ e f m₀ old alone b cause so_far moved first child ks bytes ds n r none =
    let (ns, h, at, is, parts) = so_far ks bytes ds n r none in
    child ks bytes (mate ds n ns) _ tt
    (read_blanks ks bytes (wanted ds n ns) false b d d₁ e (mate_wanted ks bytes ds n ns h c d e at moved) refl first)
    (wants_mate ds n ns _ (rest_of d₁) (blanks_past b d d₁ first))

pub mates_end : (c₀ c d : Cursor) (e₀ e : Elements) (m₀ m new : Made) (alone : Bool) (result : Result (Unit {0}) PlacedCause) → MatesRead c₀ e₀ m₀ c e m alone
    → Past is_blank (rest_of c) → Past (λ b. b == 124) (rest_of c)
    → ((ks : List (List ℕ)) (bytes : List ℕ) (ds : List Declaration) (n : List ℕ) (ns : List (List ℕ)) (h : Bool) (e : Elements) → ReadTo ks bytes (mixed ds n ns) h c e
    → Past is_blank (rest_of c) → Past (λ b. b == 124) (rest_of c) → alone ≡ is_alone ns → PartsFor (mixed_parts ns) e m → Ended ks bytes ds n result d e new)
    → (ks : List (List ℕ)) (bytes : List ℕ) (ds : List Declaration) (n : List ℕ) → ReadTo ks bytes (mixed ds n []) false c₀ e₀ → m₀ ≡ made_of []
    → Ended ks bytes ds n result d e new
mates_end c₀ c d e₀ e m₀ m new alone result so_far plain bar ended ks bytes ds n r none =
    let (ns, h, at, is, parts) = so_far ks bytes ds n r none in
    ended ks bytes ds n ns h e at plain bar is parts
