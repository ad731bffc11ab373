-- What the fields of a part say. Assumes nothing.
use Rattle.std.specs.Prelude.{◌≡◌, ℕ, Bool, cond, ◌&&◌, ◌||◌, Some, None, Ok, Err, Option, Result, ◌==◌, nat_le}
use Rattle.parts.specs.declared.part.Part.{Part}
use Rattle.parts.specs.declared.part.UnknownKind.{UnknownKind}
use Rattle.parts.specs.declared.part.Form.{Form}
use Rattle.parts.specs.declared.part.Form.TheVariants.{Empty, Symbol, Choice, Sequence, Interleave, Count, Nonempty}

-- the form that a kind names
abbrev pub form_of : Part → Option Form
form_of p =
    cond (p.kind == 0) (Some Empty)
    (cond (p.kind == 1) (Some (Symbol p.symbol))
    (cond (p.kind == 2) (Some Choice)
    (cond (p.kind == 3) (Some Sequence)
    (cond (p.kind == 4) (Some Interleave)
    (cond (p.kind == 5) (Some (Count (record { low = p.low; high = p.high })))
    (cond (p.kind == 6) (Some Nonempty) None))))))

-- the form that the kind names, or the kind where it names none
abbrev pub FormNamed : Part → Result Form UnknownKind → Type 0
FormNamed p (Ok form) = Some form ≡ form_of p
FormNamed p (Err unknown) = (None ≡ form_of p) × (unknown.kind ≡ p.kind)

-- low is 1 to 10,000, and high is low to 10,000, or 0
abbrev pub bounded : ℕ → ℕ → Bool
bounded low high = nat_le 1 low && (nat_le low 10000 && (high == 0 || (nat_le low high && nat_le high 10000)))

-- kind 1 alone uses symbol, kind 5 alone low and high; a field that a kind does not use is 0
abbrev pub are_fields_fit : Part → Bool
are_fields_fit p =
    cond (p.kind == 1) (nat_le p.symbol 63) (p.symbol == 0)
    && cond (p.kind == 5) (bounded p.low p.high) (p.low == 0 && p.high == 0)

-- how many waiting parts it takes
abbrev pub takes : Form → ℕ
takes Empty = 0
takes (Symbol s) = 0
takes Choice = 2
takes Sequence = 2
takes Interleave = 2
takes (Count repeats) = 1
takes Nonempty = 1

-- the part whose fields are all 0
abbrev pub blank : Part
blank = record { kind = 0; symbol = 0; low = 0; high = 0 }
