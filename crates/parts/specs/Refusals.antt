-- What a refusal tells: the number of the question that got a no, its layer and a place; and how it is printed. Assumes nothing.
use Rattle.std.specs.Prelude.{ℕ, List, ◌++◌, codes, decimal}
use Rattle.parts.specs.declared.refusal.Layer.{Layer}
use Rattle.parts.specs.declared.refusal.Layer.TheVariants as layer
use Rattle.parts.specs.declared.refusal.PartFault.{PartFault}
use Rattle.parts.specs.declared.refusal.PartFault.TheVariants.{UnknownKind, BadFields, TooFewWaiting, NoSymbolTaken, NotOneWaiting}
use Rattle.parts.specs.declared.refusal.Refusal.{Refusal}
use Rattle.parts.specs.declared.refusal.Refusal.TheVariants.{SheetLength, NoSuchNumber, AlreadyDeclared, TableLength, Part, NotDeclared, Conflict, MessageLength, SymbolTooLarge}

pub record Notice : Type 0 where
  pub number : ℕ
  pub layer : Layer
  pub place : ℕ

-- a question about one part of a table
abbrev pub at_part : ℕ → ℕ → Notice
at_part number place = record { number = number; layer = layer.Part; place = place }

-- any other question
abbrev pub at_set : ℕ → ℕ → Notice
at_set number place = record { number = number; layer = layer.Set; place = place }

abbrev pub part_notice : PartFault → Notice
part_notice (UnknownKind place) = at_part 5 place
part_notice (BadFields place) = at_part 6 place
part_notice (TooFewWaiting place) = at_part 7 place
part_notice (NoSymbolTaken place) = at_part 8 place
part_notice (NotOneWaiting length) = at_part 9 length

abbrev pub notice : Refusal → Notice
notice (SheetLength length) = at_set 1 length
notice (NoSuchNumber number) = at_set 2 number
notice (AlreadyDeclared number) = at_set 3 number
notice (TableLength length) = at_set 4 length
notice (Part fault) = part_notice fault
notice (NotDeclared number) = at_set 10 number
notice (Conflict place) = at_set 11 place
notice (MessageLength length) = at_set 12 length
notice (SymbolTooLarge place) = at_set 13 place

-- what is printed of a layer
abbrev pub layer_name_of : Layer → List ℕ
layer_name_of layer.Set = codes "set"
layer_name_of layer.Part = codes "part"
layer_name_of layer.Text = codes "text"

-- what is printed of a refusal
abbrev pub refusal_said : Notice → List ℕ
refusal_said n =
    codes "refused " ++ (decimal n.number ++ (codes ", " ++ (layer_name_of n.layer ++ (codes ", place " ++ decimal n.place))))
