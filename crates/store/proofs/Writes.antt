-- What a write into one window leaves of a sheet, and of what its slots tell of. Assumes nothing.
use Rattle.std.proofs.Common.{◌≡◌, ℕ, zero, suc, ◌+◌, ◌-◌, ◌*◌, ◌<◌, ◌≤◌, true, ◌&&◌, cond, List, ◌++◌, length, replicate, take, drop, set, Some, None, refl, ap, ◌∙◌, ⊎_elim, eqb, leb, rules, arith}
use Rattle.std.proofs.lemmas.List.{same_lists, places, length-append, length-take, length-take-le, length-drop, length-replicate, drop_at, take_at, take-append-le, get_or-set_same, get_or-set_other, get_or_past, get_or-replicate}
use Rattle.std.proofs.lemmas.Bool.{and_parts, le-leb, leb-true, eqb-true, eq-eqb, ne_eqb, cases_eq, cases_lt}
use borrow.Rule.Slice.PartMut.{put_mid}
use Rattle.parts.specs.Parts.{blank}
use Rattle.parts.specs.declared.part.Part.{Part}
use Rattle.models.specs.Sheets.{is_model}
use Rattle.store.specs.Windows.{numbered, window, padded, written, slot_at, model_in, model_at, is_sound, Sound}
use Rattle.store.specs.declared.slot.Slot.{Slot}
use Rattle.store.specs.declared.slot.Slot.TheVariants.{Free, Declared}

-- the two writes of one window
pub window_put : (sheet ps ys zs : List Part) (k n : ℕ) → length sheet ≡ 8192 → k < 32 → length ps ≤ 256 → ys ≡ ps
    → zs ≡ replicate n blank → n ≡ 256 - length ps
    → put_mid (256 * k + length ps) (256 * k + 256 - (256 * k + length ps)) (put_mid (256 * k) (256 * k + length ps - 256 * k) sheet ys) zs ≡ written sheet k ps
window_put sheet ps ys zs k n m b p e f g =
    rw (e, f, g) (same_lists _ _ (search (rules, places)) (λ i d h. grind (arith, places)))

length_padded : (ps : List Part) → length ps ≤ 256 → length (padded ps) ≡ 256
length_padded ps p = simp (length-append, length-replicate) (omega (arith, p))

module _ (sheet ps : List Part) (k : ℕ) (long : length sheet ≡ 8192) (within : k < 32) (few : length ps ≤ 256) where
  pub length_written : length (written sheet k ps) ≡ 8192
  length_written = simp (length-append, length-take, length-replicate, length-drop) (omega (arith, long, within, few))

  -- what begins at the window that was written
  pub from_window : drop (256 * k) (written sheet k ps) ≡ padded ps ++ drop (256 * k + 256) sheet
  from_window = drop_at (take (256 * k) sheet) (padded ps ++ drop (256 * k + 256) sheet) (256 * k) (length-take-le (256 * k) sheet (omega (arith, long, within)))

  pub own_window : window k (written sheet k ps) ≡ padded ps
  own_window = ap (take 256) from_window ∙ take_at (padded ps) (drop (256 * k + 256) sheet) 256 (length_padded ps few)

  pub own_front : (l : ℕ) → l ≤ 256 → take l (drop (256 * k) (written sheet k ps)) ≡ take l (padded ps)
  own_front l h =
      let long_enough = length_padded ps few in
      ap (take l) from_window ∙ take-append-le l (padded ps) (drop (256 * k + 256) sheet) (omega (arith, h, long_enough))

  pub other_front : (j l : ℕ) → l ≤ 256 → (j ≡ k → ⊥) → take l (drop (256 * j) (written sheet k ps)) ≡ take l (drop (256 * j) sheet)
  other_front j l q ne = same_lists _ _ (search (rules, places)) (λ i d h. grind (arith, places))

-- a slot tells of the same model of two lists with the same front
pub same_model : (s : Slot) (n : ℕ) (w v : List Part) → is_sound n s w ≡ true → ((l : ℕ) → l ≤ 256 → take l v ≡ take l w) → model_in s v ≡ model_in s w
same_model Free n w v sound same = refl
same_model (Declared l) n w v sound same =
    let few = and_parts (leb l 256) (is_model (take l w)) ((and_parts (eqb n 8192) _ sound).1) in
    ap Some (same l (leb-true l 256 few.0))

pub same_sound : (s : Slot) (n : ℕ) (w v : List Part) → is_sound n s w ≡ true → ((l : ℕ) → l ≤ 256 → take l v ≡ take l w) → is_sound n s v ≡ true
same_sound Free n w v sound same = refl
same_sound (Declared l) n w v sound same =
    let few = and_parts (leb l 256) (is_model (take l w)) ((and_parts (eqb n 8192) _ sound).1) in
    let front : take l v ≡ take l w = same l (leb-true l 256 few.0) in
    rw front sound

-- the slots after a write of parts, and of a slot that tells of them
pub sound_written : (sheet ps : List Part) (slots : List Slot) (k : ℕ) (s : Slot)
    → length sheet ≡ 8192 → k < 32 → length ps ≤ 256 → length slots ≡ 32 → Sound sheet slots → is_sound 8192 s (padded ps) ≡ true
    → Sound (written sheet k ps) (set slots k s)
sound_written sheet ps slots k s long within few full sound own j =
    let n = length_written sheet ps k long within few in
    ⊎_elim (λ e.
    let front = same_sound s 8192 (padded ps) (drop (256 * k) (written sheet k ps)) own (own_front sheet ps k long within few) in
    rw (n, e, get_or-set_same slots k s Free (omega (arith, full, within))) front)
    (λ ne.
    let before = rw long at (sound j) in
    rw (n, get_or-set_other slots k j s Free ne) (same_sound (slot_at j slots) 8192 _ _ before (λ l h. other_front sheet ps k long within few j l h ne)))
    (cases_eq j k)

-- slots that are all free
pub free_slots : (slots : List Slot) → slots ≡ replicate 32 Free → (k : ℕ) → slot_at k slots ≡ Free
free_slots slots e k =
    rw e (⊎_elim (λ h. get_or-replicate 32 k Free Free h) (λ h. get_or_past (replicate 32 Free) k Free (rw (length-replicate 32 Free) h)) (cases_lt k 32))

pub free_sound : (sheet : List Part) (slots : List Slot) → slots ≡ replicate 32 Free → Sound sheet slots
free_sound sheet slots e k = rw (free_slots slots e k) refl

-- what the test of a number says
pub numbered_means : (n m : ℕ) → numbered n m ≡ true → (n ≡ 8192) × (1 ≤ m) × (m ≤ 32)
numbered_means n m t =
    let (long, range) = and_parts (eqb n 8192) (leb 1 m && leb m 32) t in
    let (from, to) = and_parts (leb 1 m) (leb m 32) range in
    (eqb-true n 8192 long, leb-true 1 m from, leb-true m 32 to)

-- which model each number has after a write of parts, and of a slot that tells of them
pub model_written : (sheet ps : List Part) (slots : List Slot) (k : ℕ) (s : Slot) (m : ℕ)
    → length sheet ≡ 8192 → k < 32 → length ps ≤ 256 → length slots ≡ 32 → Sound sheet slots
    → model_at (written sheet k ps) (set slots k s) m ≡ cond (eqb m (suc k)) (model_in s (drop (256 * k) (written sheet k ps))) (model_at sheet slots m)
model_written sheet ps slots k s zero long within few full sound = rw (ne_eqb zero (suc k) (λ e. omega (arith, e))) refl
model_written sheet ps slots k s (suc j) long within few full sound =
    ⊎_elim (λ e. rw (e, get_or-set_same slots k s Free (omega (arith, full, within)), eq-eqb (suc k) (suc k) refl) refl)
    (λ ne.
    rw (get_or-set_other slots k j s Free ne, ne_eqb (suc j) (suc k) (λ e. ne (omega (arith, e))))
    (same_model (slot_at j slots) (length sheet) _ _ (sound j) (λ l h. other_front sheet ps k long within few j l h ne)))
    (cases_eq j k)

-- the model of a slot that tells of the parts just written
pub own_model : (sheet ps : List Part) (k : ℕ) → length sheet ≡ 8192 → k < 32 → length ps ≤ 256
    → model_in (Declared (length ps)) (drop (256 * k) (written sheet k ps)) ≡ Some ps
own_model sheet ps k long within few =
    ap Some (own_front sheet ps k long within few (length ps) few ∙ take_at ps (replicate (256 - length ps) blank) (length ps) refl)

-- the other windows keep what they hold
pub other_window : (sheet ps : List Part) (k j : ℕ) → length sheet ≡ 8192 → k < 32 → length ps ≤ 256 → (j ≡ k → ⊥) → window j (written sheet k ps) ≡ window j sheet
other_window sheet ps k j long within few ne = other_front sheet ps k long within few j 256 (omega arith) ne

-- where all slots are free there is no model
pub model_free : (sheet : List Part) (slots : List Slot) → slots ≡ replicate 32 Free → (m : ℕ) → model_at sheet slots m ≡ None
model_free sheet slots free zero = refl
model_free sheet slots free (suc k) = rw (free_slots slots free k) refl

-- a slot that tells of a checked model is sound
pub model_sound : (ps : List Part) → length ps ≤ 256 → is_model ps ≡ true → is_sound 8192 (Declared (length ps)) (padded ps) ≡ true
model_sound ps few checked = rw (le-leb (length ps) 256 few, take_at ps (replicate (256 - length ps) blank) (length ps) refl) checked

-- what is kept in the window of a number, and its slot
pub sound_kept : (sheet ps : List Part) (slots : List Slot) (m k : ℕ) (s : Slot)
    → numbered (length sheet) m ≡ true → k + 1 ≡ m → length ps ≤ 256 → length slots ≡ 32 → Sound sheet slots → is_sound 8192 s (padded ps) ≡ true
    → Sound (written sheet k ps) (set slots k s)
sound_kept sheet ps slots m k s is_number next few full sound own =
    let (long, from, to) = numbered_means (length sheet) m is_number in
    sound_written sheet ps slots k s long (omega (arith, next, to)) few full sound own
