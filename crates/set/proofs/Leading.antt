-- That the calls of a set lead on from every history that led to it. Assumes nothing.
use Rattle.std.proofs.Common.{◌≡◌, ℕ, suc, ◌+◌, ◌-◌, ◌*◌, ◌<◌, ◌≤◌, Bool, true, false, cond, List, [], ◌∷◌, length, is_ok, replicate, take, drop, set, Some, None, Ok, Err, Option, Result, refl, sym, ap, ◌∙◌, subst, ⊎_elim, eqb, ◌≢◌, rules, arith}
use Rattle.std.proofs.lemmas.List.{same_lists, places, length-replicate, get_or-replicate}
use Rattle.std.proofs.lemmas.Bool.{eq-eqb, ne_eqb, cases_eq, true≢false}
use Rattle.parts.specs.Parts.{blank}
use Rattle.parts.specs.Refusals.{Notice}
use Rattle.parts.specs.declared.part.Part.{Part}
use Rattle.parts.specs.declared.refusal.Refusal.{Refusal}
use Rattle.models.specs.Messages.{Message}
use Rattle.models.specs.Sheets.{table_answer}
use Rattle.models.proofs.Unlike.{some-none}
use Rattle.models.proofs.Written.{model_sheet}
use Rattle.models.specs.Trees.{Tree}
use Rattle.rules.specs.Rules.{Rule}
use Rattle.store.specs.Windows.{numbered, window, padded, written, model_in, model_at, Sound}
use Rattle.store.specs.declared.slot.Slot.{Slot}
use Rattle.store.specs.declared.slot.Slot.TheVariants.{Free, Declared}
use Rattle.store.proofs.Writes.{numbered_means, length_written, own_window, other_window, own_model, model_written, model_free}
use Rattle.set.specs.declared.state.State.{State}
use Rattle.set.specs.Histories.{Asked, Told, Event, History, granted_told, is_granted, stands, state}
use Rattle.set.specs.declared.state.State.TheVariants.{DrawnUp, Issued}
use Rattle.set.specs.Histories.Asked.{declare, withdraw, compare, judge}
use Rattle.set.specs.Histories.Told.{granted}
use Rattle.set.specs.Law.{Ends, Granted, Due, DeclareEnds, WithdrawEnds, CompareEnds, JudgeEnds, InDrawnUp, InIssued}
use Rattle.set.specs.Leading.{shown, Leads, Steps, Leaves}
use Rattle.set.proofs.Fixing.{due_only}
use Rattle.set.specs.Questions.{first_no, fault_told, number_question, table_question, free_question, declared_question}

-- a stretch of a list of one element
stretch : (n k m : ℕ) (x : Part) → k + n ≤ m → take n (drop k (replicate m x)) ≡ replicate n x
stretch n k m x h = same_lists _ _ (search (rules, places, length-replicate)) (λ i d l. grind (arith, places, get_or-replicate))

-- a blank set has no history yet
pub blank_leads : (first sheet : List Part) (slots : List Slot) → (length first ≡ 8192 → sheet ≡ replicate 8192 blank) → (length first ≢ 8192 → sheet ≡ first)
    → slots ≡ replicate 32 Free → Leads first [] DrawnUp sheet slots
blank_leads first sheet slots filled unaltered free = record {
  state_is = refl;
  models = model_free sheet slots free;
  shows = record {
    size = ⊎_elim (λ e. ap length (filled e) ∙ length-replicate 8192 blank ∙ sym e) (λ ne. ap length (unaltered ne)) (cases_eq (length first) 8192);
    windows = λ long k within. ap (window k) (filled long) ∙ stretch 256 (256 * k) 8192 blank (omega (arith, within));
    unaltered = unaltered;
  };
}

module _ (first : List Part) (h : History) (s : State) (sheet : List Part) (slots : List Slot) (led : Leads first h s sheet slots) (e : Event) where
  -- a call that alters nothing
  pub leads_same : (s′ : State) → state (e ∷ h) ≡ s′ → ((m : ℕ) → stands (e ∷ h) m ≡ stands h m) → Leads first (e ∷ h) s′ sheet slots
  leads_same s′ is same = record {
    state_is = is;
    models = λ m. led.models m ∙ sym (same m);
    shows = record {
      size = led.shows.size;
      windows = λ long k within. led.shows.windows long k within ∙ ap shown (sym (same (suc k)));
      unaltered = led.shows.unaltered;
    };
  }

  -- a call that wrote parts, and a slot that tells of them, at the number m
  module _ (m : ℕ) (ps : List Part) (slot : Slot) (few : length ps ≤ 256) (is_number : numbered (length sheet) m ≡ true) (full : length slots ≡ 32) (sound : Sound sheet slots) where
    pub leads_written : (o : Option (List Part)) → state (e ∷ h) ≡ s → ((i : ℕ) → stands (e ∷ h) i ≡ cond (eqb i m) o (stands h i))
        → model_in slot (drop (256 * (m - 1)) (written sheet (m - 1) ps)) ≡ o → shown o ≡ padded ps
        → Leads first (e ∷ h) s (written sheet (m - 1) ps) (set slots (m - 1) slot)
    leads_written o is now own held =
        let (long, from, to) = numbered_means (length sheet) m is_number in
        let within : m - 1 < 32 = omega (arith, from, to) in
        let after : suc (m - 1) ≡ m = omega (arith, from) in
        record {
          state_is = is;
          models = λ i.
              model_written sheet ps slots (m - 1) slot i long within few full sound
              ∙ ap (λ (n : ℕ). cond (eqb i n) (model_in slot (drop (256 * (m - 1)) (written sheet (m - 1) ps))) (model_at sheet slots i)) after
              ∙ ap (λ (x : Option (List Part)). cond (eqb i m) x (model_at sheet slots i)) own
              ∙ ap (λ (x : Option (List Part)). cond (eqb i m) o x) (led.models i) ∙ sym (now i);
          shows = record {
            size = length_written sheet ps (m - 1) long within few ∙ sym long ∙ led.shows.size;
            windows = λ wide k small. ⊎_elim (λ same.
                let here : stands (e ∷ h) (suc k) ≡ o = now (suc k) ∙ rw (eq-eqb (suc k) m (omega (arith, same, after))) refl in
                ap (λ (j : ℕ). window j (written sheet (m - 1) ps)) same ∙ own_window sheet ps (m - 1) long within few ∙ sym held ∙ ap shown (sym here))
                (λ ne.
                let other : stands (e ∷ h) (suc k) ≡ stands h (suc k) = now (suc k) ∙ rw (ne_eqb (suc k) m (λ z. ne (omega (arith, z, after)))) refl in
                other_window sheet ps (m - 1) k long within few ne ∙ led.shows.windows wide k small ∙ ap shown (sym other))
                (cases_eq k (m - 1));
            unaltered = λ other. absurd (other (sym led.shows.size ∙ long));
          };
        }

-- where an answer is due it is the only one
module _ (behind : List Rule) (asked : Asked) (told : Told) (s s′ : State) (sheet sheet′ : List Part) (slots slots′ : List Slot) where
  pub steps_only : ((first : List Part) (h : History) → Leads first h s sheet slots
      → Due behind (length first) h asked told × Leads first (record { asked = asked; told = told } ∷ h) s′ sheet′ slots′)
      → Steps behind asked told s sheet slots s′ sheet′ slots′
  steps_only steps first h led = let (due, leads) = steps first h led in (due_only behind (length first) h asked told due, leads)

-- the questions of a granted call all got a yes
ended_granted : (q : Option Notice) → Ends q Granted granted → q ≡ None
ended_granted None g = refl
ended_granted (Some n) e = absurd (true≢false (ap is_granted e))

first_no_parts : (q : Option Notice) (qs : List (Option Notice)) → first_no (q ∷ qs) ≡ None → (q ≡ None) × (first_no qs ≡ None)
first_no_parts None qs e = (refl, e)
first_no_parts (Some n) qs e = absurd (some-none n e)

yes_told : (b : Bool) (n : Notice) → cond b None (Some n) ≡ None → b ≡ true
yes_told true n e = refl
yes_told false n e = absurd (some-none n e)

model_told : (r : Result Tree Notice) → fault_told r ≡ None → is_ok r ≡ true
model_told (Ok t) e = refl
model_told (Err n) e = absurd (some-none n e)

table_short : (ps : List Part) → table_question ps ≡ None → length ps ≤ 256
table_short ps e = (model_sheet ps (model_told (table_answer ps) e)).2

module _ (first : List Part) (h : History) (s : State) (sheet : List Part) (slots : List Slot) (led : Leads first h s sheet slots) where
  -- what stands in the set is what stands after the history
  module _ (P : ℕ → Option (List Part) → Type 0) (m : ℕ) (by_set : P (length sheet) (model_at sheet slots m)) where
    pub by_history : P (length first) (stands h m)
    by_history = subst (λ n. P n (stands h m)) led.shows.size (subst (P (length sheet)) (led.models m) by_set)

  module _ (Says : Told → Type 0) (told : Told) (says : Says told) where
    pub taken_drawn_up : s ≡ DrawnUp → InDrawnUp (state h) Says told
    taken_drawn_up is = subst (λ x. InDrawnUp x Says told) (sym (led.state_is ∙ is)) says

    pub taken_issued : s ≡ Issued → InIssued (state h) Says told
    taken_issued is = subst (λ x. InIssued x Says told) (sym (led.state_is ∙ is)) says

module _ (sheet sheet′ : List Part) (slots slots′ : List Slot) (full : length slots ≡ 32) (sound : Sound sheet slots) (m : ℕ) where
  declared_leads : (ps : List Part) (r : Result (Unit {0}) Refusal) → DeclareEnds (length sheet) (model_at sheet slots m) m ps (granted_told r)
      → Leaves m ps (Declared (length ps)) r sheet slots sheet′ slots′
      → (first : List Part) (h : History) → Leads first h DrawnUp sheet slots
      → Leads first (record { asked = declare m ps; told = granted_told r } ∷ h) DrawnUp sheet′ slots′
  declared_leads ps (Ok u) answer (now, slots_now) first h led =
      let table = table_question ps ∷ [] in
      let free = free_question (model_at sheet slots m) m ∷ table in
      let asked = number_question (length sheet) m ∷ free in
      let (is_number, rest) = first_no_parts (number_question (length sheet) m) free (ended_granted (first_no asked) answer) in
      let model = (first_no_parts (table_question ps) [] ((first_no_parts (free_question (model_at sheet slots m) m) table rest).1)).0 in
      let few = table_short ps model in
      let number = yes_told (numbered (length sheet) m) _ is_number in
      let (long, from, to) = numbered_means (length sheet) m number in
      let within : m - 1 < 32 = omega (arith, from, to) in
      rw (now, slots_now)
      (leads_written first h DrawnUp sheet slots led _ m ps (Declared (length ps)) few number full sound (Some ps) led.state_is (λ i. refl) (own_model sheet ps (m - 1) long within few) refl)
  declared_leads ps (Err e) answer (now, slots_now) first h led = rw (now, slots_now) (leads_same first h DrawnUp sheet slots led _ DrawnUp led.state_is (λ i. refl))

  withdrawn_leads : (r : Result (Unit {0}) Refusal) → WithdrawEnds (length sheet) (model_at sheet slots m) m (granted_told r)
      → Leaves m [] Free r sheet slots sheet′ slots′
      → (first : List Part) (h : History) → Leads first h DrawnUp sheet slots
      → Leads first (record { asked = withdraw m; told = granted_told r } ∷ h) DrawnUp sheet′ slots′
  withdrawn_leads (Ok u) answer (now, slots_now) first h led =
      let declared = declared_question (model_at sheet slots m) m ∷ [] in
      let (is_number, rest) = first_no_parts (number_question (length sheet) m) declared (ended_granted (first_no (number_question (length sheet) m ∷ declared)) answer) in
      let number = yes_told (numbered (length sheet) m) _ is_number in
      rw (now, slots_now)
      (leads_written first h DrawnUp sheet slots led _ m [] Free (omega arith) number full sound None led.state_is (λ i. refl) refl refl)
  withdrawn_leads (Err e) answer (now, slots_now) first h led = rw (now, slots_now) (leads_same first h DrawnUp sheet slots led _ DrawnUp led.state_is (λ i. refl))

  pub declare_steps : (ps : List Part) (r : Result (Unit {0}) Refusal) → DeclareEnds (length sheet) (model_at sheet slots m) m ps (granted_told r)
      → Leaves m ps (Declared (length ps)) r sheet slots sheet′ slots′
      → Steps [] (declare m ps) (granted_told r) DrawnUp sheet slots DrawnUp sheet′ slots′
  declare_steps ps r answer leaves = steps_only [] (declare m ps) (granted_told r) DrawnUp DrawnUp sheet sheet′ slots slots′ (λ first h led. (
    taken_drawn_up first h DrawnUp sheet slots led (DeclareEnds (length first) (stands h m) m ps) (granted_told r)
        (by_history first h DrawnUp sheet slots led (λ n was. DeclareEnds n was m ps (granted_told r)) m answer) refl,
    declared_leads ps r answer leaves first h led,
  ))

  pub withdraw_steps : (r : Result (Unit {0}) Refusal) → WithdrawEnds (length sheet) (model_at sheet slots m) m (granted_told r)
      → Leaves m [] Free r sheet slots sheet′ slots′
      → Steps [] (withdraw m) (granted_told r) DrawnUp sheet slots DrawnUp sheet′ slots′
  withdraw_steps r answer leaves = steps_only [] (withdraw m) (granted_told r) DrawnUp DrawnUp sheet sheet′ slots slots′ (λ first h led. (
    taken_drawn_up first h DrawnUp sheet slots led (WithdrawEnds (length first) (stands h m) m) (granted_told r)
        (by_history first h DrawnUp sheet slots led (λ n was. WithdrawEnds n was m (granted_told r)) m answer) refl,
    withdrawn_leads r answer leaves first h led,
  ))

module _ (sheet : List Part) (slots : List Slot) where
  -- a compare and a judge alter nothing
  pub compare_steps : (behind : List Rule) (s e : ℕ) (told : Told) → CompareEnds behind (length sheet) (model_at sheet slots s) (model_at sheet slots e) s e told
      → Steps behind (compare s e) told Issued sheet slots Issued sheet slots
  compare_steps behind s e told answer = steps_only behind (compare s e) told Issued Issued sheet sheet slots slots (λ first h led.
      let sent_stands = subst (λ was. CompareEnds behind (length sheet) was (model_at sheet slots e) s e told) (led.models s) answer in (
        taken_issued first h Issued sheet slots led (CompareEnds behind (length first) (stands h s) (stands h e) s e) told
            (by_history first h Issued sheet slots led (λ n was. CompareEnds behind n (stands h s) was s e told) e sent_stands) refl,
        leads_same first h Issued sheet slots led _ Issued led.state_is (λ m. refl),
      ))

  pub judge_steps : (m : ℕ) (message : Message) (told : Told) → JudgeEnds (length sheet) (model_at sheet slots m) m message told
      → Steps [] (judge m message) told Issued sheet slots Issued sheet slots
  judge_steps m message told answer = steps_only [] (judge m message) told Issued Issued sheet sheet slots slots (λ first h led. (
    taken_issued first h Issued sheet slots led (JudgeEnds (length first) (stands h m) m message) told
        (by_history first h Issued sheet slots led (λ n was. JudgeEnds n was m message told) m answer) refl,
    leads_same first h Issued sheet slots led _ Issued led.state_is (λ i. refl),
  ))
