-- How a declaration is handed over, as private contracts say it. Assumes nothing.
use Rattle.std.specs.Prelude.{◌≡◌, ◌-◌, List, ◌++◌, length, replicate, Ok, Err, Result}
use Rattle.parts.specs.Parts.{blank}
use Rattle.parts.specs.declared.part.Part.{Part}
use Rattle.text.specs.declared.declared.Declared.{Declared}
use Rattle.text.specs.declared.element.Element.{Element}
use Rattle.text.specs.declared.refusal.ReadRefusal.{ReadRefusal}

-- the parts of the element are on the sheet, and blank parts behind them
abbrev pub Delivered : Element → List Part → List Part → Result Declared ReadRefusal → List Part → Type 0
Delivered el ps old (Ok d) new =
    (d.length ≡ length ps) × (d.symbol ≡ el.symbol) × (d.name.now ≡ el.name.now) × (d.place ≡ el.place) × (new ≡ ps ++ replicate (256 - length ps) blank)
Delivered el ps old (Err refusal) new = ⊥
