-- In which notation element declarations are written. Assumes nothing.

pub data Notation : Type 0 where
  dtd : Notation
