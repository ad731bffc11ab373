-- One word more of a line. Assumes nothing.
use Rattle.std.proofs.Common.{◌≡◌, ℕ, ◌<◌, List, [], ◌∷◌, ◌++◌, map, length, Some, Option, sym, refl, ap, ◌∙◌}
use lib.ListN.{length-map}
use Rattle.std.specs.Char.{is_whitespace, is_not_whitespace}
use Rattle.std.specs.Str.{NoCharPasses, EmptyOrStartsWithPassing}
use Rattle.std.proofs.lemmas.List.{map_push}
use Rattle.script.specs.Lines.{Write}
use Rattle.script.specs.Words.{First, Begins}

-- what `split_whitespace` says of an item
pub first_of : (bs w rest : List ℕ) → (gap : List ℕ) × (bs ≡ gap ++ (w ++ rest)) × (0 < length w) × NoCharPasses is_not_whitespace gap × NoCharPasses is_whitespace w × ((more : List ℕ) × EmptyOrStartsWithPassing is_whitespace rest more) → First bs w rest
first_of bs w rest h = record { gap = h.0; cut = h.1; some = h.2; blank = h.3; solid = h.4; ends = h.5 }

pub begins_more : (bs : List ℕ) (ws : List (List ℕ)) (w mid rest : List ℕ) → Begins bs ws mid → First mid w rest → Begins bs (ws ++ (w ∷ [])) rest
begins_more bs [] w mid rest h f = (rest, rw h f, refl)
begins_more bs (v ∷ ws) w mid rest h f = (h.0, h.1, begins_more h.0 ws w mid rest h.2 f)

-- the words of text before rest are read as xs
pub record Sofar {X : Type 0} (read : List ℕ → Option X) (text rest : List ℕ) (xs : List X) : Type 0 where
  pub seen : List (List ℕ)
  pub begins : Begins text seen rest
  pub written : Write read seen xs

module _ {X : Type 0} {read : List ℕ → Option X} {text rest : List ℕ} {xs : List X} (old : Sofar read text rest xs) where
  pub counted : length xs ≡ length old.seen
  counted = sym (length-map xs Some) ∙ sym (ap length old.written) ∙ length-map old.seen read

  pub one_more : (w next : List ℕ) (x : X) (ys : List X) → ys ≡ xs ++ (x ∷ []) → First rest w next → read w ≡ Some x → Sofar read text next ys
  one_more w next x ys pushed first is = record {
    seen = old.seen ++ (w ∷ []);
    begins = begins_more text old.seen w rest next old.begins first;
    written = map_push read old.seen w ∙ (λ i. old.written i ++ (is i ∷ [])) ∙ sym (map_push Some xs x) ∙ sym (ap (map Some) pushed);
  }
