-- How lists and groups are written, sign by sign. Assumes nothing.
use Rattle.std.specs.Prelude.{◌≡◌, ℕ, Bool, true, false, ◌==◌, List, [], ◌∷◌, ◌++◌}

-- what stands between the members of a list
pub data Join : Type 0 where
  alt : Join
  next : Join
  both : Join

abbrev pub join_number : Join → ℕ
join_number alt = 2
join_number next = 3
join_number both = 4

pub data Mark : Type 0 where
  optional : Mark
  repeated : Mark
  any : Mark

-- what is written, as it is grouped: a name, `empty`, a group, something with a suffix, a list with one member more
pub data Words : Type 0 where
  name : List ℕ → Words
  nothing : Words
  group : Words → Words
  marked : Words → Mark → Words
  joined : Words → Join → Words → Words

-- a suffix stands after a name, `empty` or a group
abbrev pub is_plain : Words → Bool
is_plain (name n) = true
is_plain nothing = true
is_plain (group w) = true
is_plain (marked w m) = false
is_plain (joined l j r) = false

-- a member of a list
abbrev pub is_member : Words → Bool
is_member (name n) = true
is_member nothing = true
is_member (group w) = true
is_member (marked w m) = true
is_member (joined l j r) = false

-- a list that may go on with j: its members are joined by j, or it has one
abbrev pub goes_on : Words → Join → Bool
goes_on (name n) j = true
goes_on nothing j = true
goes_on (group w) j = true
goes_on (marked w m) j = true
goes_on (joined l k r) j = join_number k == join_number j

-- it is well written: the members of a list are joined alike, and suffixes stand where they may
abbrev pub IsList : Words → Type 0
IsList (name n) = Unit {0}
IsList nothing = Unit {0}
IsList (group w) = IsList w
IsList (marked w m) = IsList w × (is_plain w ≡ true)
IsList (joined l j r) = IsList l × (goes_on l j ≡ true) × IsList r × (is_member r ≡ true)

-- what is read of it, in order
pub data Sign : Type 0 where
  names : List ℕ → Sign
  empties : Sign
  opens : Sign
  closes : Sign
  suffix : Mark → Sign
  separator : Join → Sign

abbrev pub signs : Words → List Sign
signs (name n) = names n ∷ []
signs nothing = empties ∷ []
signs (group w) = opens ∷ (signs w ++ (closes ∷ []))
signs (marked w m) = signs w ++ (suffix m ∷ [])
signs (joined l j r) = signs l ++ (separator j ∷ signs r)
