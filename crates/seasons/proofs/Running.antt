-- One call more of a run, and that the law fixes the answers. Assumes nothing.
use Rattle.std.proofs.Common.{◌≡◌, ℕ, zero, suc, ◌+◌, ◌<◌, ◌≤◌, List, ◌∷◌, [], length, set, refl, sym, ◌∙◌, subst, ⊎_elim, ◌≢◌, arith}
use Rattle.std.proofs.lemmas.List.{get_or-set_same, get_or-set_other, length-set}
use Rattle.std.proofs.lemmas.Bool.{cases_eq}
use Rattle.parts.specs.declared.part.Part.{Part}
use Rattle.rules.specs.Rules.{Rule}
use Rattle.store.specs.declared.slot.Slot.{Slot}
use Rattle.set.specs.declared.state.State.{State}
use Rattle.set.specs.declared.state.State.TheVariants.{DrawnUp, Issued}
use Rattle.set.specs.Histories.{Event}
use Rattle.set.specs.Histories.Asked.{issue, recall}
use Rattle.set.specs.Histories.Told.{granted}
use Rattle.set.specs.Leading.{Leads, Steps}
use Rattle.seasons.specs.Calls.{asked, told}
use Rattle.seasons.specs.Runs.{call_at, past, Lawful, Runs, Beyond, Answered}
use Rattle.seasons.specs.declared.call.Call.{Call}
use Rattle.seasons.specs.declared.call.Call.TheVariants as call
use Rattle.seasons.specs.declared.answer.Answer.{Answer}
use Rattle.seasons.specs.declared.answer.Answer.TheVariants as answer

module _ {F : Type 0} (rules : F → List Rule) (first : List Part) (calls : List (Call F)) (answers : List Answer) where
  -- a later answer is no part of the past
  past_set : (n i : ℕ) (a : Answer) → n ≤ i → past n calls (set answers i a) ≡ past n calls answers
  past_set zero i a later = refl
  past_set (suc k) i a later =
      rw (get_or-set_other answers i k a answer.Granted (λ e. omega (arith, later, e)), past_set k i a (omega (arith, later))) refl

  -- the event of the call at place n, answered a
  abbrev event : ℕ → Answer → Event
  event n a = record { asked = asked (call_at n calls); told = told a }

  past_more : (n : ℕ) (a : Answer) → n < length answers → past (n + 1) calls (set answers n a) ≡ event n a ∷ past n calls answers
  past_more n a within =
      let next : suc n ≡ n + 1 = omega arith in
      subst (λ k. past k calls (set answers n a) ≡ event n a ∷ past n calls answers) next
      (rw (get_or-set_same answers n a answer.Granted within, past_set n n a (omega arith)) refl)

  module _ (n : ℕ) (s s′ : State) (sheet sheet′ : List Part) (slots slots′ : List Slot) (a : Answer) (within : n < length answers) (run : Runs rules first calls answers n s sheet slots)
      (answered : Answered rules (call_at n calls) a s sheet slots s′ sheet′ slots′) where
    lawful_more : Lawful rules (length first) (n + 1) calls (set answers n a)
    lawful_more k small =
        ⊎_elim (λ e.
        let due = (answered first (past n calls answers) run.leads).0.0 in
        rw (e, past_set n n a (omega arith), get_or-set_same answers n a answer.Granted within) due)
        (λ ne.
        rw (past_set k n a (omega (arith, small)), get_or-set_other answers n k a answer.Granted ne) (run.lawful k (omega (arith, small, ne))))
        (cases_eq k n)

    pub run_more : Runs rules first calls (set answers n a) (n + 1) s′ sheet′ slots′
    run_more = record {
      lawful = lawful_more;
      leads = subst (λ h. Leads first h s′ sheet′ slots′) (sym (past_more n a within)) ((answered first (past n calls answers) run.leads).1);
    }

-- the answers beyond a place that was answered
pub beyond_more : (n : ℕ) (old answers : List Answer) (a : Answer) → Beyond n old answers → Beyond (n + 1) old (set answers n a)
beyond_more n old answers a (long, same) = (
  length-set answers n a ∙ long,
  (λ k later. get_or-set_other answers n k a answer.Granted (λ e. omega (arith, later, e)) ∙ same k (omega (arith, later))),
)

pub beyond_later : (n m : ℕ) (old answers : List Answer) → n ≤ m → Beyond n old answers → Beyond m old answers
beyond_later n m old answers later (long, same) = (long, λ k h. same k (omega (arith, later, h)))

pub beyond_none : (n : ℕ) (old : List Answer) → Beyond n old old
beyond_none n old = (refl, λ k h. refl)

pub beyond_both : (n : ℕ) (old mid new : List Answer) → Beyond n old mid → Beyond n mid new → Beyond n old new
beyond_both n old mid new (long, same) (longer, also) = (longer ∙ long, λ k h. also k h ∙ same k h)

module _ {F : Type 0} (rules : F → List Rule) (first : List Part) (calls : List (Call F)) (answers : List Answer) where
  -- a run of no calls
  pub run_blank : (sheet : List Part) (slots : List Slot) → Leads first [] DrawnUp sheet slots → Runs rules first calls answers 0 DrawnUp sheet slots
  run_blank sheet slots leads = record { lawful = λ k h. absurd (omega (arith, h)); leads = leads }

  -- the calls that move the set
  module _ (n : ℕ) (sheet sheet′ : List Part) (slots slots′ : List Slot) (within : n < length answers) where
    pub run_issue : call_at n calls ≡ call.Issue → Runs rules first calls answers n DrawnUp sheet slots → Steps [] issue granted DrawnUp sheet slots Issued sheet′ slots′
        → Runs rules first calls (set answers n answer.Granted) (n + 1) Issued sheet′ slots′
    run_issue is run steps =
        run_more rules first calls answers n DrawnUp Issued sheet sheet′ slots slots′ answer.Granted within run
        (subst (λ c. Answered rules c answer.Granted DrawnUp sheet slots Issued sheet′ slots′) (sym is) steps)

    pub run_recall : call_at n calls ≡ call.Recall → Runs rules first calls answers n Issued sheet slots → Steps [] recall granted Issued sheet slots DrawnUp sheet′ slots′
        → Runs rules first calls (set answers n answer.Granted) (n + 1) DrawnUp sheet′ slots′
    run_recall is run steps =
        run_more rules first calls answers n Issued DrawnUp sheet sheet′ slots slots′ answer.Granted within run
        (subst (λ c. Answered rules c answer.Granted Issued sheet slots DrawnUp sheet′ slots′) (sym is) steps)

-- the run of an issued set, which began where the one before it stopped before the end
pub run_in_use : {F : Type 0} (rules : F → List Rule) (first : List Part) (calls : List (Call F)) (answers new : List Answer) (place end stop : ℕ)
    (sheet sheet′ : List Part) (slots slots′ : List Slot)
    → place ≤ end → place ≢ end → end ≤ length answers → (place < end → call_at place calls ≡ call.Issue)
    → Runs rules first calls answers place DrawnUp sheet slots → Steps [] issue granted DrawnUp sheet slots Issued sheet′ slots′
    → ((f : List Part) → Runs rules f calls (set answers place answer.Granted) (place + 1) Issued sheet′ slots′ → Runs rules f calls new stop Issued sheet′ slots′)
    → Runs rules first calls new stop Issued sheet′ slots′
run_in_use rules first calls answers new place end stop sheet sheet′ slots slots′ before other room stopped run steps used =
    let small : place < end = omega (arith, before, other) in
    used first (run_issue rules first calls answers place sheet sheet′ slots slots′ (omega (arith, small, room)) (stopped small) run steps)
