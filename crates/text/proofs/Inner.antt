-- A member of a group: a group that opens, or a name and what follows it. Assumes nothing.
use Rattle.std.proofs.Common.{◌≡◌, ℕ, Bool, true, false, cond, ◌==◌, List, [], ◌∷◌, ◌++◌, drop, Some, None, Option, Ok, Err, Result, IsErrAnd, sym, refl, ap, ◌∙◌, subst}
use Rattle.std.proofs.lemmas.List.{append_assoc, append-nil}
use Rattle.std.proofs.lemmas.Result.{err_from_is_err_and}
use Rattle.parts.specs.Stacks.{Kept}
use Rattle.names.specs.Numbering.{known_after, symbol_in}
use Rattle.names.proofs.Numbering.{met_in_turn}
use Rattle.grammar.specs.Bytes.{is_blank, begins_name}
use Rattle.grammar.specs.Notations.Notation.{dtd}
use Rattle.grammar.specs.Words.Words.{name}
use Rattle.grammar.specs.Words.Join.{alt, next}
use Rattle.grammar.specs.Words.Mark.{optional, repeated, any}
use Rattle.grammar.specs.Words.Sign.{opens, closes, suffix, separator}
use Rattle.grammar.specs.Lists.{Left}
use Rattle.grammar.specs.Lists.State.{want, got}
use Rattle.grammar.specs.Declarations.{Declaration, Sign}
use Rattle.grammar.specs.Declarations.Sign.{inner, ends}
use Rattle.grammar.specs.Machine.{Spot, Phase, go, into, signed, lettered, angled, hashed, refused}
use Rattle.grammar.specs.Machine.Spot.{kids}
use Rattle.text.specs.Contents.{Made, MakesMore, symbol_part}
use Rattle.text.specs.Cursors.{rest_of, Stayed, BlanksRead}
use Rattle.text.specs.Declaring.{Ended, GroupOpened, GoneOn, HashPast, MemberWanted, MemberRead, WantsName, PartsFor, state_parts, outer_parts, left_parts}
use Rattle.text.specs.Fronts.{Past}
use Rattle.text.specs.Progress.{NamesGrow, SymbolIs, Fails}
use Rattle.text.specs.declared.cursor.Cursor.{Cursor}
use Rattle.text.specs.declared.elements.Elements.{Elements}
use Rattle.text.specs.declared.fault.PlacedCause.{PlacedCause}
use Rattle.text.specs.declared.join.Join.{Join}
use Rattle.text.proofs.Walking.{over_blanks}
use Rattle.text.proofs.Made.{parts_same, parts_named, parts_later}
use Rattle.text.proofs.Members.{none_by, sign_by, never}
use Rattle.text.proofs.Going.{blanks_past}

-- where a member is wanted, only a name, white space or a group may begin
no_sign : (ds : List Declaration) (n : List ℕ) (o : List Left) (l : Left) (h : Bool) (s : Sign) → go (kids ds n (want o l)) s ≡ None → signed h (kids ds n (want o l)) (Some s) ≡ None
no_sign ds n o l h s e = by (refused h (kids ds n (want o l)) s)
  where
    by : (t : Bool) → cond t None (into (go (kids ds n (want o l)) s)) ≡ None
    by true = refl
    by false = ap into e

no_hash : (ds : List Declaration) (n : List ℕ) (o : List Left) (l : Left) (b : ℕ) (rest : List ℕ) → HashPast o l (b ∷ rest) → (b == 35) ≡ true → hashed (kids ds n (want o l)) ≡ None
no_hash ds n [] None b rest past is = never (b == 35) past is
no_hash ds n [] (Some x) b rest past is = refl
no_hash ds n (k ∷ o) l b rest past is = refl

pub wants_name : (ds : List Declaration) (n : List ℕ) (o : List Left) (l : Left) (h : Bool) (rest : List ℕ) → Past is_blank rest → Past (λ b. b == 40) rest → HashPast o l rest
    → WantsName (kids ds n (want o l)) h rest
wants_name ds n o l h [] blank open_past hash = tt
wants_name ds n o l h (b ∷ rest) blank open_past hash =
    λ no_name.
    none_by (is_blank b) (Some (Phase.at σ true)) _ (λ e. never (is_blank b) blank e)
    (λ _. none_by (begins_name b) (lettered σ h b) _ (λ e. never (begins_name b) no_name e)
    (λ _. none_by (b == 60) (angled σ) _ (λ _. refl)
    (λ _. none_by (b == 35) (hashed σ) _ (λ e. no_hash ds n o l b rest hash e)
    (λ _. sign_by h σ (b == 40) (Some (inner opens)) _ (λ e. never (b == 40) open_past e)
    (λ _. sign_by h σ (b == 41) (Some (inner closes)) _ (λ _. no_sign ds n o l h (inner closes) refl)
    (λ _. sign_by h σ (b == 63) (Some (inner (suffix optional))) _ (λ _. no_sign ds n o l h (inner (suffix optional)) refl)
    (λ _. sign_by h σ (b == 43) (Some (inner (suffix repeated))) _ (λ _. no_sign ds n o l h (inner (suffix repeated)) refl)
    (λ _. sign_by h σ (b == 42) (Some (inner (suffix any))) _ (λ _. no_sign ds n o l h (inner (suffix any)) refl)
    (λ _. sign_by h σ (b == 124) (Some (inner (separator alt))) _ (λ _. no_sign ds n o l h (inner (separator alt)) refl)
    (λ _. sign_by h σ (b == 44) (Some (inner (separator next))) _ (λ _. no_sign ds n o l h (inner (separator next)) refl)
    (λ _. sign_by h σ (b == 62) (Some ends) None (λ _. no_sign ds n o l h ends refl) (λ _. refl))))))))))))
  where
    σ : Spot
    σ = kids ds n (want o l)

stayed_rest : (old new : Cursor) → Stayed old new → rest_of new ≡ rest_of old
stayed_rest old new s = ap (λ k. drop k new.text.now) s.1 ∙ ap (drop old.at) s.0

-- where no group opens, a name is wanted
pub name_wanted : (ks : List (List ℕ)) (bytes : List ℕ) (ds : List Declaration) (n : List ℕ) (old new : Cursor) (e : Elements) (m : Made) (s : Kept (Option Join)) → (w : MemberWanted ks bytes ds n old e m s)
    → Stayed old new → Past (λ b. b == 40) (rest_of new) → WantsName (kids ds n (want w.outer w.left)) w.spaced (rest_of new)
name_wanted ks bytes ds n old new e m s w stayed past =
    wants_name ds n w.outer w.left w.spaced (rest_of new) (subst (Past is_blank) (sym (stayed_rest old new stayed)) w.blanks) past
    (subst (HashPast w.outer w.left) (sym (stayed_rest old new stayed)) w.hash)

-- a group opens
pub group_begun : (ks : List (List ℕ)) (bytes : List ℕ) (ds : List Declaration) (n : List ℕ) (o : List Left) (l : Left) (h : Bool) (c : Cursor) (e : Elements) (m : Made) (s : Kept (Option Join))
    → PartsFor (state_parts (want o l)) e m → GroupOpened ks bytes ds n o l h (Ok true) c e s → MemberRead ks bytes ds n (Ok true) c e m s
group_begun ks bytes ds n o l h c e m s parts opened =
    (l ∷ o, None, opened.0, (λ rest. tt), opened.1, parts_same (state_parts (want o l)) (state_parts (want (l ∷ o) None)) e m parts (λ known. append-nil (state_parts (want o l) known)))

-- a name is a member
pub named_parts : (o : List Left) (l : Left) (a : List ℕ) (symbol : ℕ) (e f : Elements) (old new : Made) → PartsFor (state_parts (want o l)) e old → NamesGrow e f → SymbolIs a (Ok symbol) f
    → MakesMore old (symbol_part symbol ∷ []) new → PartsFor (state_parts (got o l (name a))) f new
named_parts o l a symbol e f old new parts grow is more =
    parts_named (state_parts (want o l)) (state_parts (got o l (name a))) a symbol f old new (parts_later (state_parts (want o l)) grow.0 e f old grow.1 parts) is.0 is.1 more
    (λ ks. sym (append_assoc (outer_parts ks o) (left_parts ks l) (symbol_part (symbol_in ks a) ∷ [])))

pub after_member : (ks : List (List ℕ)) (bytes : List ℕ) (ds : List Declaration) (n : List ℕ) (r : Result Bool PlacedCause) (c : Cursor) (e : Elements) (m : Made) (s : Kept (Option Join))
    → GoneOn ks bytes ds n r c e m s → MemberRead ks bytes ds n r c e m s
after_member ks bytes ds n (Ok true) c e m s (o, a, j, r, g, parts) = (o, Some (a, j), r, (λ rest. past o rest), g, parts)
  where
    past : (o : List Left) (rest : List ℕ) → HashPast o (Some (a, j)) rest
    past [] rest = tt
    past (k ∷ o) rest = tt
after_member ks bytes ds n (Ok false) c e m s done = done
after_member ks bytes ds n (Err f) c e m s fails = fails

-- where the text stops
pub member_fails : (ks : List (List ℕ)) (bytes : List ℕ) (ds : List Declaration) (n : List ℕ) (f : PlacedCause) (r : Result Bool PlacedCause) (c : Cursor) (e : Elements) (m : Made) (s : Kept (Option Join))
    → Fails dtd ks bytes ds f → IsErrAnd r (λ g. g ≡ f) → MemberRead ks bytes ds n r c e m s
member_fails ks bytes ds n f r c e m s fails err =
    let p = err_from_is_err_and r err in
    subst (λ x. MemberRead ks bytes ds n x c e m s) (sym p.1) (subst (Fails dtd ks bytes ds) (sym p.2) fails)

pub ended_fails : (ks : List (List ℕ)) (bytes : List ℕ) (ds : List Declaration) (n : List ℕ) (f : PlacedCause) (r : Result (Unit {0}) PlacedCause) (c : Cursor) (e : Elements) (m : Made)
    → Fails dtd ks bytes ds f → IsErrAnd r (λ g. g ≡ f) → Ended ks bytes ds n r c e m
ended_fails ks bytes ds n f r c e m fails err =
    let p = err_from_is_err_and r err in
    subst (λ x. Ended ks bytes ds n x c e m) (sym p.1) (subst (Fails dtd ks bytes ds) (sym p.2) fails)

-- before the next member
pub next_wanted : (ks : List (List ℕ)) (bytes : List ℕ) (ds : List Declaration) (n : List ℕ) (b : Bool) (old new : Cursor) (e : Elements) (m : Made) (s : Kept (Option Join))
    → MemberRead ks bytes ds n (Ok true) old e m s → BlanksRead old b new → MemberWanted ks bytes ds n new e m s
next_wanted ks bytes ds n b old new e m s (o, l, r, hash, g, parts) blanks = record {
  outer = o;
  left = l;
  spaced = cond b true false;
  read = record { cursor = over_blanks ks bytes (kids ds n (want o l)) false b old new r.cursor refl blanks; elements = r.elements };
  blanks = blanks_past b old new blanks;
  hash = hash (rest_of new);
  groups = g;
  parts = parts;
}

-- names were added
pub grow_then : (a b c : Elements) → NamesGrow a b → NamesGrow b c → NamesGrow a c
grow_then a b c (ns, first) (ms, then) = (ns ++ ms, then ∙ ap (λ ks. known_after ks ms) first ∙ sym (met_in_turn a.names ns ms))
