-- What is asked and answered in a run over texts, and which texts were begun. Assumes nothing.
use Rattle.std.specs.Prelude.{ℕ, ◌+◌, List, [], ◌∷◌}
use Rattle.text.specs.Law.{Told}
use Rattle.text.specs.Law.Told.{declares, none_left, wrong_sheet, fault, no_model}

-- begin this text, or tell the next declaration
pub data Asked : Type 0 where
  begins : List ℕ → Asked
  next : Asked

-- the text is begun; none was begun yet; or what the reading of a text tells
pub data Said : Type 0 where
  begun : Said
  no_text : Said
  tells : Told → Said

pub record Exchange : Type 0 where
  pub asked : Asked
  pub said : Said

-- all that was asked and answered, the last first
abbrev pub History : Type 0
History = List Exchange

-- a text that was begun, and how many declarations it has given
pub record Begun : Type 0 where
  pub text : List ℕ
  pub given : ℕ

abbrev pub one_on : Told → Begun → Begun
one_on (declares ps s n) b = record b { given = b.given + 1 }
one_on none_left b = b
one_on (wrong_sheet l) b = b
one_on (fault f) b = b
one_on no_model b = b

abbrev pub read_on : Told → List Begun → List Begun
read_on t [] = []
read_on t (b ∷ bs) = one_on t b ∷ bs

abbrev pub texts_after : Asked → Said → List Begun → List Begun
texts_after (begins text) a bs = record { text = text; given = 0 } ∷ bs
texts_after next begun bs = bs
texts_after next no_text bs = bs
texts_after next (tells t) bs = read_on t bs

-- the texts that were begun, the last first, which is the one that is read
abbrev pub texts_begun : History → List Begun
texts_begun [] = []
texts_begun (e ∷ h) = texts_after e.asked e.said (texts_begun h)
