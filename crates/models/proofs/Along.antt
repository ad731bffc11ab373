-- On the way through a sheet: values that tell of the trees that wait. Assumes nothing.
use Rattle.std.proofs.Common.{◌≡◌, ℕ, ◌+◌, ◌<◌, true, List, [], length, get_or, drop, Some, Ok, sym, ◌∙◌}
use Rattle.std.proofs.lemmas.List.{at_drop_more}
use Rattle.parts.specs.declared.part.Form.{Form}
use Rattle.parts.specs.declared.part.Part.{Part}
use Rattle.parts.specs.Parts.{form_of}
use Rattle.models.specs.Sheets.{shape, join, step, go_on, reading, is_model, tree}
use Rattle.models.specs.Told.{Told, AllFormed}
use Rattle.models.specs.Trees.{Tree}
use Rattle.models.proofs.Admits.{went_on, step_made, model_reads}

-- after i parts, the values vs tell of well-formed trees that make with the rest what all make
pub record Along {V : Type 0} (M : Tree → V → Type 0) (ps : List Part) (i : ℕ) (vs : List V) : Type 0 where
  pub trees : List Tree
  pub same : reading i (drop i ps) trees ≡ reading 0 ps []
  pub tell : Told M trees vs
  pub formed : AllFormed trees

module _ {V : Type 0} (M : Tree → V → Type 0) (ps : List Part) where
  module _ (i : ℕ) (vs : List V) (a : Along M ps i vs) where
    -- what the next part makes
    pub along_next : (d : Part) → i < length ps → go_on i (step (get_or ps i d) a.trees) (reading (i + 1) (drop (i + 1) ps)) ≡ reading 0 ps []
    along_next d within = sym (at_drop_more (λ qs. reading i qs a.trees) ps i d within) ∙ a.same

    pub along_more : (d : Part) (ws : List V) (us : List Tree) → i < length ps → step (get_or ps i d) a.trees ≡ Ok us → Told M us ws → AllFormed us → Along M ps (i + 1) ws
    along_more d ws us within made tell formed = record {
      trees = us;
      same = rw made at (along_next d within);
      tell = tell;
      formed = formed;
    }

-- the same for the parts of a model, where no part fails
module _ {V : Type 0} (M : Tree → V → Type 0) (ps : List Part) (checked : is_model ps ≡ true) (i : ℕ) (vs : List V) (a : Along M ps i vs) where
  checked_next : (d : Part) → i < length ps
      → (f : Form) × (us : List Tree) × (form_of (get_or ps i d) ≡ Some f) × (step (get_or ps i d) a.trees ≡ Ok us) × (join (shape f) a.trees ≡ Some us) × AllFormed us
  checked_next d within =
      let (us, stepped) = went_on i _ _ (tree ps) (along_next M ps i vs a d within ∙ (model_reads ps checked).1) in
      let (f, named, made, formed) = step_made (get_or ps i d) a.trees us stepped a.formed in
      (f, us, named, stepped, made, formed)

  pub checked_more : (d : Part) (f : Form) (ws : List V) → i < length ps → Some f ≡ form_of (get_or ps i d)
      → ((ts us : List Tree) → Told M ts vs → join (shape f) ts ≡ Some us → AllFormed us → Told M us ws) → Along M ps (i + 1) ws
  checked_more d f ws within e k =
      let (g, us, named, stepped, made, formed) = checked_next d within in
      let same : g ≡ f = cc in
      along_more M ps i vs a d ws us within stepped (k a.trees us a.tell (rw same at made) formed) formed
