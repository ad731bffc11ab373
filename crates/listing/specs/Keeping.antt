-- How far a text is listed, as private contracts say it: no public promise rests on it. Assumes nothing.
use Rattle.std.specs.Prelude.{◌≡◌, ℕ, List, [], ◌++◌, length, take, Option}
use Rattle.parts.specs.declared.part.Part.{Part}
use Rattle.grammar.specs.Declarations.{Declaration}
use Rattle.grammar.specs.Faults.{Cause}
use Rattle.text.specs.Law.{Reading, TextGives}
use Rattle.text.specs.declared.declared.Declared.{Declared}
use Rattle.text.specs.declared.fault.TextFault.{TextFault}
use Rattle.listing.specs.Listings.{ElementsOf, FaultIs}
use Rattle.listing.specs.declared.listed.Listed.{Listed}

-- e is what was told of, with the parts on the sheet
pub record KeptAs (d : Declared) (sheet : List Part) (e : Listed) : Type 0 where
  pub name : e.name.now ≡ d.name.now
  pub symbol : e.symbol ≡ d.symbol
  pub place : e.place ≡ d.place
  pub parts : e.parts.items ≡ take d.length sheet

-- the elements are the declarations that a reading has given from its beginning
pub record ReadSoFar (old new : Reading) (es : List Listed) : Type 0 where
  pub reading : new ≡ record old { given = length es }
  pub elements :
      (ds more : List Declaration) (end : Option (Cause × ℕ)) → TextGives old (ds ++ more) end → length ds ≡ length es
      → ElementsOf old.notation old.text old.known [] ds es

-- the elements are all that a reading gives from its beginning, and the fault tells how it ended
pub record GatheredBy (old new : Reading) (es : List Listed) (fault : Option TextFault) : Type 0 where
  pub reading : new ≡ record old { given = length es }
  pub ds : List Declaration
  pub end : Option (Cause × ℕ)
  pub gives : TextGives old ds end
  pub elements : ElementsOf old.notation old.text old.known [] ds es
  pub ending : FaultIs old.notation (record { names = old.known; texts = old.texts }) old.text (length ds) end fault
