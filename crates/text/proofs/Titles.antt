-- What stands as content: its fixed words and its outermost group. Assumes nothing.
use Rattle.std.proofs.Common.{◌≡◌, ℕ, ◌<◌, ◌≤◌, Bool, true, false, ◌==◌, List, [], ◌∷◌, ◌++◌, length, get_or, None, sym, refl, ap, ◌∙◌, subst, arith}
use Rattle.std.specs.Prelude.{Ok, Err, codes}
use Rattle.std.proofs.lemmas.Bool.Decides.{nat_tests}
use Rattle.parts.specs.Parts.{blank}
use Rattle.grammar.specs.Bytes.{is_blank}
use Rattle.grammar.specs.Notations.Notation.{dtd}
use Rattle.grammar.specs.Lists.State.{want}
use Rattle.grammar.specs.Words.Sign.{opens}
use Rattle.grammar.specs.Declarations.{Declaration, all_signs, sign_bytes}
use Rattle.grammar.specs.Declarations.Content.{none, whatever}
use Rattle.grammar.specs.Declarations.Sign.{element, declared, empty_word, any_word, pcdata_word, inner}
use Rattle.grammar.specs.Faults.{open_groups}
use Rattle.grammar.specs.Machine.{Spot, spelled, refused, feed_at, spot_read, Fixed, word_before, word_sign}
use Rattle.grammar.specs.Machine.Fixed.{the_empty, the_any, the_pcdata}
use Rattle.grammar.specs.Machine.Spot.{titled, kids, mixed, full}
use Rattle.text.specs.Contents.{Made, made_of, MakesMore}
use Rattle.text.specs.Cursors.{rest_of, Moved, BlanksRead}
use Rattle.text.specs.Declaring.{ReadTo, WordTaken, Ended}
use Rattle.text.specs.Fronts.{Past, Differs}
use Rattle.text.specs.Progress.{CursorAt, Fails}
use Rattle.text.specs.declared.cursor.Cursor.{Cursor}
use Rattle.text.specs.declared.elements.Elements.{Elements}
use Rattle.text.specs.declared.fault.PlacedCause.{PlacedCause}
use Rattle.text.specs.declared.fault.TextCause.TheVariants.{NotDeclarations, AnyContent}
use Rattle.text.proofs.Groups.{open-append, all_open}
use Rattle.text.proofs.Walking.{placed, stays_at, Refuses, byte_fails, word_fails, sign_fails}
use Rattle.text.proofs.Contents.{over_quiet, read_blanks, byte_refused, signs_refused, unlike, unspaced}

-- a fixed word that begins as it does, and is not whole
never_empty : (first : ℕ) (tail left rest : List ℕ) (done : List ℕ) → first ∷ tail ≡ done ++ left → 1 ≤ length (done ++ rest) → get_or (done ++ rest) 0 0 ≡ first → Differs left rest
    → 0 < length done
never_empty first tail left rest (d ∷ done) word some is differs = omega arith
never_empty first tail [] rest [] word some is differs = absurd differs
never_empty first tail (c ∷ left) [] [] word some is differs = absurd (omega arith)
never_empty first tail (c ∷ left) (b ∷ rest) [] word some is differs =
    let head : first ≡ c = ap (λ xs. get_or xs 0 0) word in
    absurd (same_byte b c (is ∙ head) differs)
  where
    same_byte : (b c : ℕ) → b ≡ c → (b == c) ≡ false → ⊥
    same_byte b c e other = grind (arith, nat_tests)

pub word_missing : (ks : List (List ℕ)) (bytes : List ℕ) (σ : Spot) (h : Bool) (f : Fixed) (first : ℕ) (tail : List ℕ) (old new : Cursor) (rest : List ℕ) (cause : PlacedCause)
    → CursorAt ks bytes σ h old → word_before f ≡ σ → refused h σ (word_sign f) ≡ false → sign_bytes dtd (word_sign f) ≡ first ∷ tail → (first ≡ 60 → ⊥) → rest ≡ rest_of old
    → 1 ≤ length rest → get_or rest 0 0 ≡ first → WordTaken old (first ∷ tail) (Err cause) new → Fails dtd ks bytes (spot_read σ) cause
word_missing ks bytes σ h f first tail old new rest cause r is may sign other same some begins (kind, (stayed, (done, left, behind, word, read, differs, place))) =
    let here = subst (λ xs. (1 ≤ length xs) × (get_or xs 0 0 ≡ first)) (same ∙ read) (some, begins) in
    let begun : 0 < length done = never_empty first tail left behind done word here.0 here.1 differs in
    subst (λ x. Fails dtd ks bytes (spot_read σ) (placed x cause.place)) (sym kind)
    (subst (λ k. Fails dtd ks bytes (spot_read σ) (placed NotDeclarations k)) (sym place)
    (word_fails ks bytes σ h f done left behind old r is may (sign ∙ word) begun read differs
    (λ e. absurd (other (ap (λ xs. get_or xs 0 0) (word ∙ ap (λ xs. xs ++ left) e))))))

-- no white space behind the name
titled_byte : (ds : List Declaration) (n : List ℕ) (b : ℕ) → is_blank b ≡ false → feed_at (titled ds n) false b ≡ None
titled_byte ds n b plain = byte_refused (titled ds n) false b plain (λ _. refl) refl (λ _. refl) (unspaced (titled ds n) _ refl)

titled_refuses : (ds : List Declaration) (n : List ℕ) (rest : List ℕ) → Past is_blank rest → Refuses (titled ds n) false rest
titled_refuses ds n [] plain = refl
titled_refuses ds n (b ∷ rest) plain = titled_byte ds n b plain

pub space_missing : (ks : List (List ℕ)) (bytes : List ℕ) (ds : List Declaration) (n : List ℕ) (old new : Cursor) (e : Elements) → ReadTo ks bytes (titled ds n) false old e
    → BlanksRead old false new → Fails dtd ks bytes ds (placed NotDeclarations new.at)
space_missing ks bytes ds n old new e r (stayed, plain) =
    byte_fails ks bytes (titled ds n) false (rest_of new) new (stays_at ks bytes (titled ds n) false old new r.cursor stayed) refl (titled_refuses ds n (rest_of new) plain)

-- white space behind it, and then none of 'E', 'A' and '('
content_byte : (ds : List Declaration) (n : List ℕ) (b : ℕ) → is_blank b ≡ false → (b == 69) ≡ false → (b == 65) ≡ false → (b == 40) ≡ false → feed_at (titled ds n) true b ≡ None
content_byte ds n b plain e a paren =
    byte_refused (titled ds n) true b plain (λ _. rw (e, a) refl) refl (λ _. refl)
    (signs_refused (titled ds n) true b (unlike paren) (λ _. refl) (λ _. refl) (λ _. refl) (λ _. refl) (λ _. refl) (λ _. refl) (λ _. refl))

content_refuses : (ds : List Declaration) (n : List ℕ) (rest : List ℕ) → Past is_blank rest → Past (λ b. b == 69) rest → Past (λ b. b == 65) rest → Past (λ b. b == 40) rest
    → Refuses (titled ds n) true rest
content_refuses ds n [] plain e a paren = refl
content_refuses ds n (b ∷ rest) plain e a paren = content_byte ds n b plain e a paren

pub content_missing : (ks : List (List ℕ)) (bytes : List ℕ) (ds : List Declaration) (n : List ℕ) (old new : Cursor) (e : Elements) → ReadTo ks bytes (titled ds n) false old e
    → BlanksRead old true new → Past (λ b. b == 69) (rest_of new) → Past (λ b. b == 65) (rest_of new) → Past (λ b. b == 40) (rest_of new)
    → Fails dtd ks bytes ds (placed NotDeclarations new.at)
content_missing ks bytes ds n old new e r read letter other paren =
    byte_fails ks bytes (titled ds n) true (rest_of new) new (read_blanks ks bytes (titled ds n) false true old new e r refl read).cursor refl
    (content_refuses ds n (rest_of new) read.1 letter other paren)

-- EMPTY
pub empty_ended : (ks : List (List ℕ)) (bytes : List ℕ) (ds : List Declaration) (n : List ℕ) (c₀ old new : Cursor) (e : Elements) (before after : Made)
    → ReadTo ks bytes (titled ds n) false c₀ e → BlanksRead c₀ true old → Moved old (codes "EMPTY") new → before ≡ made_of [] → MakesMore before (blank ∷ []) after
    → Ended ks bytes ds n (Ok tt) new e after
empty_ended ks bytes ds n c₀ old new e before after r read m empty adds = (
  none,
  full ds n none,
  over_quiet ks bytes (titled ds n) true empty_word (full ds n none) old new e (read_blanks ks bytes (titled ds n) false true c₀ old e r refl read) refl refl tt m tt ((λ x. x), (λ x. x)) tt,
  (refl, refl, refl),
  (λ more. adds [] empty),
)

pub empty_missing : (ks : List (List ℕ)) (bytes : List ℕ) (ds : List Declaration) (n : List ℕ) (c₀ old new : Cursor) (rest : List ℕ) (e : Elements) (cause : PlacedCause)
    → ReadTo ks bytes (titled ds n) false c₀ e → BlanksRead c₀ true old → rest ≡ rest_of old → 1 ≤ length rest → get_or rest 0 0 ≡ 69 → WordTaken old (codes "EMPTY") (Err cause) new
    → Fails dtd ks bytes ds cause
empty_missing ks bytes ds n c₀ old new rest e cause r read same some begins taken =
    word_missing ks bytes (titled ds n) true (the_empty ds n) 69 (codes "MPTY") old new rest cause (read_blanks ks bytes (titled ds n) false true c₀ old e r refl read).cursor refl refl refl
    (λ x. absurd (omega arith)) same some begins taken

-- ANY
pub any_fails : (ks : List (List ℕ)) (bytes : List ℕ) (ds : List Declaration) (n : List ℕ) (c₀ old new : Cursor) (e : Elements)
    → ReadTo ks bytes (titled ds n) false c₀ e → BlanksRead c₀ true old → Moved old (codes "ANY") new → Fails dtd ks bytes ds (placed AnyContent old.at)
any_fails ks bytes ds n c₀ old new e r read m =
    sign_fails ks bytes (titled ds n) true any_word (full ds n whatever) AnyContent (rest_of new) old (read_blanks ks bytes (titled ds n) false true c₀ old e r refl read).cursor refl refl tt m.read tt
    (refl, tt)

pub any_missing : (ks : List (List ℕ)) (bytes : List ℕ) (ds : List Declaration) (n : List ℕ) (c₀ old new : Cursor) (rest : List ℕ) (e : Elements) (cause : PlacedCause)
    → ReadTo ks bytes (titled ds n) false c₀ e → BlanksRead c₀ true old → rest ≡ rest_of old → 1 ≤ length rest → get_or rest 0 0 ≡ 65 → WordTaken old (codes "ANY") (Err cause) new
    → Fails dtd ks bytes ds cause
any_missing ks bytes ds n c₀ old new rest e cause r read same some begins taken =
    word_missing ks bytes (titled ds n) true (the_any ds n) 65 (codes "NY") old new rest cause (read_blanks ks bytes (titled ds n) false true c₀ old e r refl read).cursor refl refl refl
    (λ x. absurd (omega arith)) same some begins taken

-- #PCDATA
kids_take : (h : Bool) (ds : List Declaration) (n : List ℕ) → refused h (kids ds n (want [] None)) pcdata_word ≡ false
kids_take true ds n = refl
kids_take false ds n = refl

pub pcdata_read : (ks : List (List ℕ)) (bytes : List ℕ) (ds : List Declaration) (n : List ℕ) (b : Bool) (c₀ old new : Cursor) (e : Elements)
    → ReadTo ks bytes (kids ds n (want [] None)) false c₀ e → BlanksRead c₀ b old → Moved old (codes "#PCDATA") new → ReadTo ks bytes (mixed ds n []) false new e
pcdata_read ks bytes ds n b c₀ old new e r read m =
    over_quiet ks bytes (kids ds n (want [] None)) _ pcdata_word (mixed ds n []) old new e (read_blanks ks bytes (kids ds n (want [] None)) false b c₀ old e r refl read)
    (kids_take _ ds n) refl tt m tt ((λ x. x), (λ x. x)) tt

pub pcdata_missing : (ks : List (List ℕ)) (bytes : List ℕ) (ds : List Declaration) (n : List ℕ) (b : Bool) (c₀ old new : Cursor) (rest : List ℕ) (e : Elements) (cause : PlacedCause)
    → ReadTo ks bytes (kids ds n (want [] None)) false c₀ e → BlanksRead c₀ b old → rest ≡ rest_of old → 1 ≤ length rest → get_or rest 0 0 ≡ 35
    → WordTaken old (codes "#PCDATA") (Err cause) new → Fails dtd ks bytes ds cause
pcdata_missing ks bytes ds n b c₀ old new rest e cause r read same some begins taken =
    word_missing ks bytes (kids ds n (want [] None)) _ (the_pcdata ds n) 35 (codes "PCDATA") old new rest cause
    (read_blanks ks bytes (kids ds n (want [] None)) false b c₀ old e r refl read).cursor refl (kids_take _ ds n) refl (λ x. absurd (omega arith)) same some begins taken

-- '('
opens_once : (ds : List Declaration) (n : List ℕ) → open_groups 0 (spelled (titled ds n)) ≡ 0
opens_once ds n = open-append 0 (all_signs ds) (element ∷ declared n ∷ []) ∙ all_open ds 0

pub group_opened : (ks : List (List ℕ)) (bytes : List ℕ) (ds : List Declaration) (n : List ℕ) (c₀ old new : Cursor) (e : Elements)
    → ReadTo ks bytes (titled ds n) false c₀ e → BlanksRead c₀ true old → Moved old (40 ∷ []) new → ReadTo ks bytes (kids ds n (want [] None)) false new e
group_opened ks bytes ds n c₀ old new e r read m =
    over_quiet ks bytes (titled ds n) true (inner opens) (kids ds n (want [] None)) old new e (read_blanks ks bytes (titled ds n) false true c₀ old e r refl read) refl refl tt m tt
    ((λ x. x), few) tt
  where
    few : 16 ≤ open_groups 0 (spelled (titled ds n)) → ⊥
    few le = omega (arith, opens_once ds n)
