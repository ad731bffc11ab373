-- What stands at the front of a text. Assumes nothing.
use Rattle.std.specs.Prelude.{◌≡◌, ℕ, ◌+◌, ◌≤◌, ◌||◌, Bool, false, List, [], ◌∷◌, ◌++◌, length, take, drop, ◌==◌, zip, codes, Some, None, Ok, Err, Option, Result}
use Rattle.std.specs.List.{prefix_len}
use Rattle.grammar.specs.Bytes.{Each, is_char, Bit, IsBit, AreBits, bit, bits}
use Rattle.text.specs.declared.cursor.bytes.Part.{Part}
use Rattle.text.specs.declared.cursor.bytes.Part.TheVariants.{Inner, End, Broken}
use Rattle.text.specs.declared.mark.Mark.{Mark}
use Rattle.text.specs.declared.mark.Mark.TheVariants.{Optional, Repeated, Any}

-- the text does not begin with a byte that passes the test
abbrev pub Past : (ℕ → Bool) → List ℕ → Type 0
Past test [] = Unit {0}
Past test (b ∷ bs) = test b ≡ false

-- the first n bytes pass the test, and the next one does not
abbrev pub RunIs : (ℕ → Bool) → List ℕ → ℕ → Type 0
RunIs test text n = (n ≤ length text) × Each test (take n text) × Past test (drop n text)

-- how many bytes of a word stand at the front of a text
abbrev pub agreed : List ℕ → List ℕ → ℕ
agreed word text = prefix_len (λ p. p.0 == p.1) (zip word text)

-- there is a next byte of the word, and the text does not go on with it
abbrev pub Differs : List ℕ → List ℕ → Type 0
Differs [] text = ⊥
Differs (c ∷ word) [] = Unit {0}
Differs (c ∷ word) (b ∷ text) = (b == c) ≡ false

-- 63 '?', 43 '+', 42 '*'
abbrev pub mark_byte : Mark → ℕ
mark_byte Optional = 63
mark_byte Repeated = 43
mark_byte Any = 42

abbrev pub mark_bytes : Mark → List ℕ
mark_bytes m = mark_byte m ∷ []

abbrev pub is_mark : ℕ → Bool
is_mark b = b == 63 || (b == 43 || b == 42)

-- the suffix at the front, and what follows it; or none, and all of the text
abbrev pub Suffixed : List ℕ → Option Mark → List ℕ → Type 0
Suffixed text (Some m) rest = text ≡ mark_byte m ∷ rest
Suffixed text None rest = (rest ≡ text) × Past is_mark text

-- behind these bytes of a comment's end, which may be none of them, the text does not go on as a comment does
abbrev pub Breaks : List ℕ → List ℕ → Type 0
Breaks done [] = Unit {0}
Breaks [] (b ∷ rest) = ((b == 45) ≡ false) × (is_char b ≡ false)
Breaks (c ∷ []) (b ∷ rest) = ((b == 45) ≡ false) × (is_char b ≡ false)
Breaks (c ∷ d ∷ done) (b ∷ rest) = (b == 62) ≡ false

-- what is left of the end of a comment
abbrev pub IsDashes : List ℕ → Type 0
IsDashes [] = Unit {0}
IsDashes (c ∷ []) = c ≡ 45
IsDashes (c ∷ d ∷ []) = (c ≡ 45) × (d ≡ 45)
IsDashes (c ∷ d ∷ e ∷ done) = ⊥

-- what the inside of a comment goes on with
abbrev pub PartIs : List ℕ → Part → Type 0
PartIs text (Inner n) = (u : Bit) × (rest : List ℕ) × IsBit u × (n ≡ length (bit u)) × (text ≡ bit u ++ rest)
PartIs text End = (rest : List ℕ) × (text ≡ codes "-->" ++ rest)
PartIs text (Broken n) = (done : List ℕ) × (rest : List ℕ) × IsDashes done × Breaks done rest × (n ≡ length done) × (text ≡ done ++ rest)

-- so many bytes are the inside of a comment, which ends behind them; or none ends, and so many bytes go on as one
abbrev pub Inside : List ℕ → Result ℕ ℕ → Type 0
Inside text (Ok n) = (us : List Bit) × (rest : List ℕ) × AreBits us × (n ≡ length (bits us)) × (text ≡ bits us ++ (codes "-->" ++ rest))
Inside text (Err n) =
    (us : List Bit) × (done : List ℕ) × (rest : List ℕ)
    × AreBits us × IsDashes done × Breaks done rest × (n ≡ length (bits us) + length done) × (text ≡ bits us ++ (done ++ rest))
