-- Steps over the signs of content: what they leave of the elements, the bytes that a spot refuses, and the parts of a tree. Assumes nothing.
use Rattle.std.proofs.Common.{◌≡◌, ℕ, zero, suc, ◌≤◌, Bool, true, false, cond, ◌==◌, List, [], ◌∷◌, ◌++◌, length, take, drop, get_or, map, Some, None, Option, sym, refl, ap, ◌∙◌, subst, arith, append_assoc}
use Rattle.std.proofs.lemmas.Bool.{false≢true}
use Rattle.std.proofs.lemmas.Bool.Decides.{nat_tests, Decides-eqb}
use Rattle.std.proofs.lemmas.Slice.Eq.{starts_is}
use Rattle.std.proofs.lemmas.List.{map-append}
use Rattle.std.proofs.Math.Dec.{eqb}
use Rattle.std.specs.List.{starts_with}
use Rattle.names.specs.Numbering.{known_after}
use Rattle.names.proofs.Numbering.{met_in_turn}
use Rattle.parts.specs.Parts.{blank}
use Rattle.models.specs.Trees.{Tree}
use Rattle.models.specs.Trees.Tree.{empty, choice, sequence, interleave, count}
use Rattle.models.specs.Written.{sheet, subtrees, part_of}
use Rattle.grammar.specs.Bytes.{is_blank, begins_name}
use Rattle.grammar.specs.Notations.Notation.{dtd}
use Rattle.grammar.specs.Words.{Join, Mark}
use Rattle.grammar.specs.Words.Join.{alt, next, both}
use Rattle.grammar.specs.Words.Mark.{optional, repeated, any}
use Rattle.grammar.specs.Words.Sign.{names, opens, closes, suffix, separator}
use Rattle.grammar.specs.Meaning.{suffixed, joining}
use Rattle.grammar.specs.Declarations.{Sign, sign_bytes}
use Rattle.grammar.specs.Declarations.Sign.{element, declared, inner, ends}
use Rattle.grammar.specs.Faults.{EndsWell, Faultless, names_among, begun, is_declared}
use Rattle.grammar.specs.Machine.{Spot, SignFits, go, spelled, refused, spaced, tight, sign_at, signed, into, lettered, angled, hashed, feed_at}
use Rattle.grammar.proofs.Steps.{spelled_on}
use Rattle.text.specs.Contents.{join_part, repeat_part, mark_parts}
use Rattle.text.specs.Cursors.{rest_of, Moved, BlanksRead}
use Rattle.text.specs.Declaring.{ReadTo, join_of, Onward}
use Rattle.text.specs.Fronts.{Past}
use Rattle.text.specs.Progress.{ElementsAre, NamesGrow}
use Rattle.text.specs.declared.cursor.Cursor.{Cursor}
use Rattle.text.specs.declared.elements.Elements.{Elements}
use Rattle.text.specs.declared.mark.Mark.{Mark as Suffix}
use Rattle.text.specs.declared.mark.Mark.TheVariants as mark
use Rattle.text.proofs.Walking.{over_sign, over_blanks}

-- the sign is no name, and begins never declaration
abbrev pub Quiet : Sign → Type 0
Quiet element = ⊥
Quiet (declared n) = ⊥
Quiet (inner (names n)) = ⊥
Quiet s = Unit {0}

alone_names : (s : Sign) → Quiet s → names_among (s ∷ []) ≡ []
alone_names element q = absurd q
alone_names (declared n) q = absurd q
alone_names (inner (names n)) q = absurd q
alone_names s q = refl

pub quiet_names : (ss : List Sign) (s : Sign) → Quiet s → names_among (ss ++ (s ∷ [])) ≡ names_among ss
quiet_names [] s q = alone_names s q
quiet_names (declared n ∷ ss) s q = ap (λ ns. n ∷ ns) (quiet_names ss s q)
quiet_names (inner (names n) ∷ ss) s q = ap (λ ns. n ∷ ns) (quiet_names ss s q)
quiet_names (t ∷ ss) s q = quiet_names ss s q

alone_begun : (s : Sign) → Quiet s → begun dtd (s ∷ []) ≡ zero
alone_begun element q = absurd q
alone_begun s q = refl

pub quiet_begun : (ss : List Sign) (s : Sign) → Quiet s → begun dtd (ss ++ (s ∷ [])) ≡ begun dtd ss
quiet_begun [] s q = alone_begun s q
quiet_begun (element ∷ ss) s q = ap suc (quiet_begun ss s q)
quiet_begun (t ∷ ss) s q = quiet_begun ss s q

alone_declared : (n : List ℕ) (s : Sign) → Quiet s → is_declared n (s ∷ []) ≡ false
alone_declared n (declared m) q = absurd q
alone_declared n s q = refl

pub quiet_declared : (n : List ℕ) (ss : List Sign) (s : Sign) → Quiet s → is_declared n (ss ++ (s ∷ [])) ≡ is_declared n ss
quiet_declared n [] s q = alone_declared n s q
quiet_declared n (declared m ∷ ss) s q = rw (quiet_declared n ss s q) refl
quiet_declared n (t ∷ ss) s q = quiet_declared n ss s q

-- so the elements stay those of the signs
pub quiet_elements : (ks : List (List ℕ)) (ss : List Sign) (s : Sign) (e : Elements) → Quiet s → ElementsAre dtd ks ss e → ElementsAre dtd ks (ss ++ (s ∷ [])) e
quiet_elements ks ss s e q r = record {
  names = r.names ∙ ap (known_after ks) (sym (quiet_names ss s q));
  begun = r.begun ∙ sym (quiet_begun ss s q);
  declared = (
    (λ n known.
        let same = quiet_declared n ss s q in
        ((λ is. (r.declared.0 n known).0 (sym same ∙ is)), (λ i. same ∙ (r.declared.0 n known).1 i))),
    r.declared.1,
  );
}

-- over such a sign
pub over_quiet : (ks : List (List ℕ)) (bytes : List ℕ) (σ : Spot) (h : Bool) (s : Sign) (τ : Spot) (old new : Cursor) (e : Elements) → ReadTo ks bytes σ h old e
    → refused h σ s ≡ false → go σ s ≡ Some τ → SignFits s → Moved old (sign_bytes dtd s) new → EndsWell s (rest_of new) → Faultless dtd ks (spelled σ) s → Quiet s
    → ReadTo ks bytes τ false new e
over_quiet ks bytes σ h s τ old new e r may on fit m well one q = record {
  cursor = over_sign ks bytes σ h s τ old new r.cursor may on fit m well one;
  elements =
      subst (λ ss. ElementsAre dtd ks ss e) (sym (spelled_on ks bytes old.at σ h s τ r.cursor.at on))
      (quiet_elements ks (spelled σ) s e q r.elements);
}

-- the byte that a match found
pub byte_moved : (old new : Cursor) (v : ℕ) (rest : List ℕ) → rest ≡ rest_of old → 1 ≤ length rest → get_or rest 0 0 ≡ v → Moved old (take 1 (rest_of old)) new
    → Moved old (v ∷ []) new
byte_moved old new v rest same some is m = subst (λ g. Moved old g new) (ap (take 1) (sym same) ∙ by rest some is) m
  where
    by : (rest : List ℕ) → 1 ≤ length rest → get_or rest 0 0 ≡ v → take 1 rest ≡ v ∷ []
    by [] some is = absurd (omega arith)
    by (b ∷ rest) some is = ap (λ x. x ∷ []) is

-- and one that it did not
other_byte : (b v : ℕ) → (b ≡ v → ⊥) → (b == v) ≡ false
other_byte b v never = grind (arith, nat_tests)

pub no_byte : (rest : List ℕ) (v : ℕ) → (1 ≤ length rest → get_or rest 0 0 ≡ v → ⊥) → Past (λ b. b == v) rest
no_byte [] v never = tt
no_byte (b ∷ rest) v never = other_byte b v (never (omega arith))

-- a text that begins with one byte, or does not
pub begins_so : (rest : List ℕ) (v : ℕ) {r : Bool} → r ≡ starts_with eqb rest (v ∷ []) → r ≡ true → (1 ≤ length rest) × (get_or rest 0 0 ≡ v)
begins_so rest v {r} is is_so =
    let e : rest ≡ v ∷ drop 1 rest = (starts_is Decides-eqb rest (v ∷ []) r is).0 is_so in
    (omega (arith, ap length e), ap (λ xs. get_or xs 0 0) e)

pub begins_other : (rest : List ℕ) (v : ℕ) {r : Bool} → r ≡ starts_with eqb rest (v ∷ []) → r ≡ false → Past (λ b. b == v) rest
begins_other [] v is never = tt
begins_other (b ∷ rest) v {r} is never = other_byte b v (λ e. false≢true (sym never ∙ (starts_is Decides-eqb (b ∷ rest) (v ∷ []) r is).1 rest (ap (λ x. x ∷ rest) e)))

-- the bytes that a spot refuses: its signs are none of these, nor are letters, '<' and '#'
none_into : (t : Bool) (o : Option Spot) → o ≡ None → cond t None (into o) ≡ None
none_into true o e = refl
none_into false o e = ap into e

pick : (σ : Spot) (h t : Bool) (s : Sign) (o : Option Sign) → (t ≡ true → go σ s ≡ None) → signed h σ o ≡ None → signed h σ (cond t (Some s) o) ≡ None
pick σ h true s o never rest = none_into (refused h σ s) (go σ s) (never refl)
pick σ h false s o never rest = rest

abbrev pub Unless : Spot → Bool → Sign → Type 0
Unless σ t s = t ≡ true → go σ s ≡ None

pub signs_refused : (σ : Spot) (h : Bool) (b : ℕ) → Unless σ (b == 40) (inner opens) → Unless σ (b == 41) (inner closes) → Unless σ (b == 63) (inner (suffix optional))
    → Unless σ (b == 43) (inner (suffix repeated)) → Unless σ (b == 42) (inner (suffix any)) → Unless σ (b == 124) (inner (separator alt))
    → Unless σ (b == 44) (inner (separator next)) → Unless σ (b == 62) ends → signed h σ (sign_at b) ≡ None
signs_refused σ h b p q r s t u v w =
    pick σ h (b == 40) (inner opens) _ p (pick σ h (b == 41) (inner closes) _ q (pick σ h (b == 63) (inner (suffix optional)) _ r
    (pick σ h (b == 43) (inner (suffix repeated)) _ s (pick σ h (b == 42) (inner (suffix any)) _ t (pick σ h (b == 124) (inner (separator alt)) _ u
    (pick σ h (b == 44) (inner (separator next)) _ v (pick σ h (b == 62) ends None w refl)))))))

none_of : {X : Type 0} (t : Bool) (a b : Option X) → (t ≡ true → a ≡ None) → b ≡ None → cond t a b ≡ None
none_of true a b p q = p refl
none_of false a b p q = q

pub byte_refused : (σ : Spot) (h : Bool) (b : ℕ) → is_blank b ≡ false → (begins_name b ≡ true → lettered σ h b ≡ None) → angled σ ≡ None
    → ((b == 35) ≡ true → hashed σ ≡ None) → signed h σ (sign_at b) ≡ None → feed_at σ h b ≡ None
byte_refused σ h b blank letter angle hash sign =
    rw blank (none_of (begins_name b) _ _ letter (none_of (b == 60) _ _ (λ _. angle) (none_of (b == 35) _ _ hash sign)))

pub unlike : {X : Type 0} {t : Bool} → t ≡ false → t ≡ true → X
unlike never is_so = absurd (false≢true (sym never ∙ is_so))

-- where white space is wanted, no sign stands
pub unspaced : (σ : Spot) (o : Option Sign) → spaced σ ≡ true → signed false σ o ≡ None
unspaced σ None space = refl
unspaced σ (Some s) space = rw space refl

-- the parts of what is joined and of what has a suffix
ends_sheet : (l r t : Tree) → map part_of (subtrees l ++ (subtrees r ++ (t ∷ []))) ≡ sheet l ++ (sheet r ++ (part_of t ∷ []))
ends_sheet l r t =
    map-append part_of (subtrees l) (subtrees r ++ (t ∷ [])) ∙ ap (λ ps. sheet l ++ ps) (map-append part_of (subtrees r) (t ∷ []))

pub join_sheet : (j : Join) (l r : Tree) → sheet (joining j l r) ≡ sheet l ++ (sheet r ++ (join_part (join_of j) ∷ []))
join_sheet alt l r = ends_sheet l r (choice l r)
join_sheet next l r = ends_sheet l r (sequence l r)
join_sheet both l r = ends_sheet l r (interleave l r)

abbrev pub mark_of : Mark → Suffix
mark_of optional = mark.Optional
mark_of repeated = mark.Repeated
mark_of any = mark.Any

count_sheet : (t : Tree) → sheet (count t 1 0) ≡ sheet t ++ (repeat_part ∷ [])
count_sheet t = map-append part_of (subtrees t) (count t 1 0 ∷ [])

option_sheet : (t : Tree) → sheet (choice t empty) ≡ sheet t ++ mark_parts mark.Optional
option_sheet t = ends_sheet t empty (choice t empty)

pub any_sheet : (t : Tree) → sheet (suffixed any t) ≡ sheet t ++ mark_parts mark.Any
any_sheet t =
    option_sheet (count t 1 0) ∙ ap (λ ps. ps ++ mark_parts mark.Optional) (count_sheet t)
    ∙ append_assoc (sheet t) (repeat_part ∷ []) (mark_parts mark.Optional)

pub mark_sheet : (m : Mark) (t : Tree) → sheet (suffixed m t) ≡ sheet t ++ mark_parts (mark_of m)
mark_sheet optional t = option_sheet t
mark_sheet repeated t = count_sheet t
mark_sheet any t = any_sheet t

-- over white space, or none
pub read_blanks : (ks : List (List ℕ)) (bytes : List ℕ) (σ : Spot) (h b : Bool) (old new : Cursor) (e : Elements) → ReadTo ks bytes σ h old e → tight σ ≡ false
    → BlanksRead old b new → ReadTo ks bytes σ (cond b true h) new e
read_blanks ks bytes σ h b old new e r loose read = record {
  cursor = over_blanks ks bytes σ h b old new r.cursor loose read;
  elements = r.elements;
}

pub blanks_past : (b : Bool) (old new : Cursor) → BlanksRead old b new → Past is_blank (rest_of new)
blanks_past true old new read = read.1
blanks_past false old new read = read.1

pub blanks_onward : (b : Bool) (old new : Cursor) → BlanksRead old b new → Onward old new
blanks_onward true old new ((g, is, m), past) = (m.same, omega (arith, m.at))
blanks_onward false old new (stayed, past) = (stayed.0, omega (arith, stayed.1))

-- names were only added, step by step
pub grow_on : (a b c : Elements) → NamesGrow a b → NamesGrow b c → NamesGrow a c
grow_on a b c (ns, e) (ms, f) = (ns ++ ms, f ∙ ap (λ ks. known_after ks ms) e ∙ sym (met_in_turn a.names ns ms))

pub grow_none : (a : Elements) → NamesGrow a a
grow_none a = ([], refl)
