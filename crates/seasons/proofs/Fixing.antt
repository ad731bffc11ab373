-- That the law of a season fixes its answers. Assumes nothing.
use Rattle.std.proofs.Common.{◌≡◌, ℕ, zero, suc, ◌<◌, ◌≤◌, cond, List, length, refl, sym, ap, ◌∙◌, subst, eqb, arith}
use Rattle.parts.specs.Refusals.{Notice, notice}
use Rattle.parts.specs.declared.refusal.Refusal.{Refusal}
use Rattle.parts.specs.declared.refusal.Refusal.TheVariants.{SheetLength, NoSuchNumber, AlreadyDeclared, TableLength, Part, NotDeclared, Conflict, MessageLength, SymbolTooLarge}
use Rattle.parts.specs.declared.refusal.PartFault.TheVariants.{UnknownKind, BadFields, TooFewWaiting, NoSymbolTaken, NotOneWaiting}
use Rattle.rules.specs.Rules.{Rule}
use Rattle.set.specs.Histories.{Told}
use Rattle.set.specs.Histories.Told.{granted, included, fits, names, refused, not_taken}
use Rattle.set.specs.Law.{Due}
use Rattle.set.proofs.Fixing.{due_fixed}
use Rattle.seasons.specs.Calls.{asked, behind, told}
use Rattle.seasons.specs.Runs.{call_at, answer_at, past, Lawful, SameAnswers, AnswersFixed}
use Rattle.seasons.specs.declared.call.Call.{Call}
use Rattle.seasons.specs.declared.answer.Answer.{Answer}
use Rattle.seasons.specs.declared.answer.Answer.TheVariants as answer

-- the refusal that tells this
refusal_of : Notice → Refusal
refusal_of n =
    cond (eqb n.number 1) (SheetLength n.place)
    (cond (eqb n.number 2) (NoSuchNumber n.place)
    (cond (eqb n.number 3) (AlreadyDeclared n.place)
    (cond (eqb n.number 4) (TableLength n.place)
    (cond (eqb n.number 5) (Part (UnknownKind n.place))
    (cond (eqb n.number 6) (Part (BadFields n.place))
    (cond (eqb n.number 7) (Part (TooFewWaiting n.place))
    (cond (eqb n.number 8) (Part (NoSymbolTaken n.place))
    (cond (eqb n.number 9) (Part (NotOneWaiting n.place))
    (cond (eqb n.number 10) (NotDeclared n.place)
    (cond (eqb n.number 11) (Conflict n.place)
    (cond (eqb n.number 12) (MessageLength n.place) (SymbolTooLarge n.place))))))))))))

refusal_told : (r : Refusal) → refusal_of (notice r) ≡ r
unfolding refusal_of
refusal_told (SheetLength length) = refl
refusal_told (NoSuchNumber number) = refl
refusal_told (AlreadyDeclared number) = refl
refusal_told (TableLength length) = refl
refusal_told (Part (UnknownKind place)) = refl
refusal_told (Part (BadFields place)) = refl
refusal_told (Part (TooFewWaiting place)) = refl
refusal_told (Part (NoSymbolTaken place)) = refl
refusal_told (Part (NotOneWaiting length)) = refl
refusal_told (NotDeclared number) = refl
refusal_told (Conflict place) = refl
refusal_told (MessageLength length) = refl
refusal_told (SymbolTooLarge place) = refl

-- the answer that tells this
answer_of : Told → Answer
answer_of granted = answer.Granted
answer_of included = answer.Included
answer_of fits = answer.Fits
answer_of (names v) = answer.Breaks v
answer_of (refused n) = answer.Refused (refusal_of n)
answer_of (not_taken s) = answer.NotTaken s

answer_told : (a : Answer) → answer_of (told a) ≡ a
unfolding answer_of
answer_told answer.Granted = refl
answer_told answer.Included = refl
answer_told answer.Fits = refl
answer_told (answer.Breaks v) = refl
answer_told (answer.Refused r) = ap answer.Refused (refusal_told r)
answer_told (answer.NotTaken s) = refl

same_answer : (a b : Answer) → told a ≡ told b → a ≡ b
same_answer a b e = sym (answer_told a) ∙ ap answer_of e ∙ answer_told b

module _ {F : Type 0} (rules : F → List Rule) (l n : ℕ) (calls : List (Call F)) (one two : List Answer) (lawful : Lawful rules l n calls one) (also : Lawful rules l n calls two) where
  -- the answer to a call, where the past is one
  told_fixed : (k : ℕ) → k < n → past k calls one ≡ past k calls two → told (answer_at k one) ≡ told (answer_at k two)
  told_fixed k small same =
      due_fixed (behind rules (call_at k calls)) l (past k calls one) (asked (call_at k calls)) _ _ (lawful k small)
      (subst (λ h. Due (behind rules (call_at k calls)) l h (asked (call_at k calls)) (told (answer_at k two))) (sym same) (also k small))

  past_fixed : (k : ℕ) → k ≤ n → past k calls one ≡ past k calls two
  past_fixed zero small = refl
  past_fixed (suc k) small =
      let same = past_fixed k (omega (arith, small)) in
      let answer = told_fixed k (omega (arith, small)) same in
      rw (same, answer) refl

  answers_same : SameAnswers n one two
  answers_same k small = same_answer _ _ (told_fixed k small (past_fixed k (omega (arith, small))))

pub answers_fixed : {F : Type 0} (rules : F → List Rule) (l : ℕ) (calls : List (Call F)) → AnswersFixed rules l calls
answers_fixed rules l calls n answers lawful = (lawful, λ other also. answers_same rules l n calls other answers also lawful)
