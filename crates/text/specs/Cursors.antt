-- What is left of a text, and what a step of reading takes from it. Assumes nothing.
use Rattle.std.specs.Prelude.{◌≡◌, ℕ, ◌+◌, ◌⊎◌, Bool, true, false, List, ◌++◌, length, drop, codes, Some, None, Ok, Err, Option, Result}
use Rattle.std.specs.Borrow.{Bor}
use Rattle.grammar.specs.Bytes.{is_blank, begins_name, IsName, IsSomeSpace, NameEnds, Bit, AreBits, bits, comment}
use Rattle.text.specs.Fronts.{Past, Differs, Inside, is_mark, mark_bytes}
use Rattle.text.specs.declared.cursor.Cursor.{Cursor}
use Rattle.text.specs.declared.mark.Mark.{Mark}

abbrev pub rest_of : Cursor → List ℕ
rest_of c = drop c.at c.text.now

-- the bytes g of the rest have been read
pub record Moved (old : Cursor) (g : List ℕ) (new : Cursor) : Type 0 where
  pub same : new.text.now ≡ old.text.now
  pub at : new.at ≡ old.at + length g
  pub read : rest_of old ≡ g ++ rest_of new

-- nothing has been read
abbrev pub Stayed : Cursor → Cursor → Type 0
Stayed old new = (new.text.now ≡ old.text.now) × (new.at ≡ old.at)

-- white space has been read, all of it; whether there was some
abbrev pub BlanksRead : Cursor → Bool → Cursor → Type 0
BlanksRead old true new = ((g : List ℕ) × IsSomeSpace g × Moved old g new) × Past is_blank (rest_of new)
BlanksRead old false new = Stayed old new × Past is_blank (rest_of new)

-- a name has been read, all of it; or none stands there
abbrev pub NameRead : Cursor → Option (Bor (List ℕ)) → Cursor → Type 0
NameRead old (Some n) new = Moved old n.now new × IsName n.now × NameEnds (rest_of new)
NameRead old None new = Stayed old new × Past begins_name (rest_of new)

-- a word has been read; or the text differs from it at a place
abbrev pub WordRead : Cursor → List ℕ → Result (Unit {0}) ℕ → Cursor → Type 0
WordRead old word (Ok u) new = Moved old word new
WordRead old word (Err place) new =
    Stayed old new
    × ((done : List ℕ) × (left : List ℕ) × (rest : List ℕ)
    × (word ≡ done ++ left) × (rest_of old ≡ done ++ rest) × Differs left rest × (place ≡ old.at + length done))

-- a suffix has been read, or none stands there
abbrev pub MarkRead : Cursor → Option Mark → Cursor → Type 0
MarkRead old (Some m) new = Moved old (mark_bytes m) new
MarkRead old None new = Stayed old new × Past is_mark (rest_of new)

-- a comment has been read; or none begins there; or one begins, and does not go on as a comment does from a place on
abbrev pub CommentRead : Cursor → Result Bool ℕ → Cursor → Type 0
CommentRead old (Ok true) new = (us : List Bit) × AreBits us × Moved old (comment (bits us)) new
CommentRead old (Ok false) new = Stayed old new × ((rest : List ℕ) → rest_of new ≡ codes "<!-" ++ rest → ⊥)
CommentRead old (Err place) new =
    ((rest : List ℕ) × (rest_of old ≡ codes "<!-" ++ rest) × Differs (codes "-") rest × (place ≡ old.at + 3))
    ⊎ ((rest : List ℕ) × (n : ℕ) × (rest_of old ≡ codes "<!--" ++ rest) × Inside rest (Err n) × (place ≡ old.at + 4 + n))
