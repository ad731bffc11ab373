-- The model that stands is the one last declared. Assumes nothing.
use Rattle.std.proofs.Common.{◌≡◌, ℕ, true, false, ◌&&◌, List, [], ◌∷◌, ◌++◌, Some, None, Option, refl, sym, ap, ◌∙◌, ⊎_elim, eqb}
use Rattle.std.proofs.lemmas.Bool.{cases_Bool, and_parts, and_right, eqb-true, eq-eqb, false≢true}
use Rattle.parts.specs.declared.part.Part.{Part}
use Rattle.models.proofs.Unlike.{some-none}
use Rattle.set.specs.Histories.{Asked, Told, Event, History, is_granted, changed, stands, alters, Declared, NoneAltered, LastDeclared, StandsExactly}
use Rattle.set.specs.Histories.Asked.{declare, withdraw, issue, recall, compare, judge}
use Rattle.set.specs.Histories.Told.{granted, included, fits, names, refused, not_taken}

-- what one value holds, another that equals it does
parts_or : List Part → Option (List Part) → List Part
parts_or d None = d
parts_or d (Some ps) = ps

pub same_parts : (ps qs : List Part) → Some ps ≡ Some qs → ps ≡ qs
unfolding parts_or
same_parts ps qs e = ap (parts_or ps) e

granted_is : (t : Told) → is_granted t ≡ true → t ≡ granted
granted_is granted e = refl
granted_is included e = absurd (false≢true e)
granted_is fits e = absurd (false≢true e)
granted_is (names v) e = absurd (false≢true e)
granted_is (refused n) e = absurd (false≢true e)
granted_is (not_taken s) e = absurd (false≢true e)

-- a call that does not alter the number leaves it
unchanged : (a : Asked) (t : Told) (m : ℕ) (was : Option (List Part)) → (is_granted t && alters a m) ≡ false → changed a t m was ≡ was
unchanged (declare n ps) t m was e = rw e refl
unchanged (withdraw n) t m was e = rw e refl
unchanged issue t m was e = refl
unchanged recall t m was e = refl
unchanged (compare s e) t m was f = refl
unchanged (judge n message) t m was e = refl

-- one that does leaves what it declares, or nothing
altered : (a : Asked) (t : Told) (m : ℕ) (was : Option (List Part)) (ps : List Part) → (is_granted t && alters a m) ≡ true → changed a t m was ≡ Some ps → (a ≡ declare m ps) × (t ≡ granted)
altered (declare n qs) t m was ps e is =
    let (grant, same) = and_parts (is_granted t) (eqb m n) e in
    let declared : Some qs ≡ Some ps = rw e at is in
    (rw (eqb-true m n same, same_parts qs ps declared) refl, granted_is t grant)
altered (withdraw n) t m was ps e is = let none : None ≡ Some ps = rw e at is in absurd (some-none ps (sym none))
altered issue t m was ps e is = absurd (false≢true (sym (and_right (is_granted t) false refl) ∙ e))
altered recall t m was ps e is = absurd (false≢true (sym (and_right (is_granted t) false refl) ∙ e))
altered (compare x y) t m was ps e is = absurd (false≢true (sym (and_right (is_granted t) false refl) ∙ e))
altered (judge n message) t m was ps e is = absurd (false≢true (sym (and_right (is_granted t) false refl) ∙ e))

last_declared : (h : History) (m : ℕ) (ps : List Part) → stands h m ≡ Some ps → LastDeclared h m ps
last_declared [] m ps is = absurd (some-none ps (sym is))
last_declared (e ∷ h) m ps is =
    ⊎_elim (λ yes. ([], e, h, refl, altered e.asked e.told m (stands h m) ps yes is, tt))
    (λ other.
    let (since, d, before, split, declared, none) = last_declared h m ps (sym (unchanged e.asked e.told m (stands h m) other) ∙ is) in
    (e ∷ since, d, before, ap (λ x. e ∷ x) split, declared, (other, none)))
    (cases_Bool (is_granted e.told && alters e.asked m))

declared_stands : (since : History) (e : Event) (before : History) (m : ℕ) (ps : List Part) → Declared m ps e → NoneAltered m since → stands (since ++ (e ∷ before)) m ≡ Some ps
declared_stands [] e before m ps (is, grant) none = rw (is, grant, eq-eqb m m refl) refl
declared_stands (d ∷ since) e before m ps declared (kept, none) =
    unchanged d.asked d.told m (stands (since ++ (e ∷ before)) m) kept ∙ declared_stands since e before m ps declared none

pub stands_exactly : StandsExactly
stands_exactly h m ps = (
  last_declared h m ps,
  (λ (since, e, before, split, declared, none). ap (λ x. stands x m) split ∙ declared_stands since e before m ps declared none),
)
