-- The calls of the set that entries make, and what goes to entries, one entry more. Assumes nothing.
use Rattle.std.proofs.Common.{◌≡◌, ℕ, zero, suc, ◌+◌, ◌<◌, ◌≤◌, List, [], ◌∷◌, ◌++◌, codes, map, length, get_or, take, drop, Some, None, Option, Result, inl, inr, refl, sym, ap, ◌∙◌, subst, append_assoc, append-nil, arith}
use Rattle.std.proofs.lemmas.List.{take_more, take_all, map-append, drop_more, drop_all}
use Rattle.std.proofs.lemmas.Bool.{cases_lt}
use Rattle.std.specs.Io.KnownBytes.{Appends}
use Rattle.rules.specs.declared.none.NoRules.{NoRules}
use Rattle.set.specs.Histories.{Asked, Told, History}
use Rattle.set.specs.Law.{Due}
use Rattle.seasons.specs.Calls.{asked, behind, told}
use Rattle.seasons.specs.Runs.{call_at, answer_at, past, Lawful}
use Rattle.seasons.specs.declared.call.Call.{Call as SetCall}
use Rattle.seasons.specs.declared.call.Call.TheVariants as call
use Rattle.seasons.specs.declared.answer.Answer.{Answer}
use Rattle.seasons.specs.declared.answer.Answer.TheVariants as answer
use Rattle.script.specs.declared.call.Call.{Call}
use Rattle.script.specs.declared.call.Call.TheVariants.{Table, Ask, Declare, Withdraw, Issue, Recall, Compare, Judge}
use Rattle.seasons.specs.Texts.{told_said}
use Rattle.parts.specs.declared.refusal.Refusal.{Refusal}
use Rattle.models.proofs.Unlike.{some-none}
use Rattle.answers.specs.Answers.{CallAnswered}
use Rattle.answers.specs.declared.reply.Reply.{Reply}
use Rattle.runner.specs.Scripts.{WordsAre, spaced, answer_said, asked_of, SaidBy, CallSaid}
use Rattle.runner.specs.Turns.{onto, asked_in, AllDue, EntriesSaid, EntriesWritten}
use Rattle.runner.specs.declared.entry.Entry.{Entry}
use Rattle.runner.proofs.Sofar.{appends_none, appends_both}

onto_both : (o : Option Asked) (xs ys : List Asked) → onto o (xs ++ ys) ≡ onto o xs ++ ys
onto_both None xs ys = refl
onto_both (Some a) xs ys = refl

asked_both : (es fs : List Entry) → asked_in (es ++ fs) ≡ asked_in es ++ asked_in fs
asked_both [] fs = refl
asked_both (e ∷ es) fs = ap (onto (asked_of e.call)) (asked_both es fs) ∙ onto_both (asked_of e.call) (asked_in es) (asked_in fs)

module _ (es : List Entry) (n : ℕ) (d : Entry) (within : n < length es) where
  -- what one entry more asks
  asked_next : asked_in (take (n + 1) es) ≡ asked_in (take n es) ++ onto (asked_of ((get_or es n d).call)) []
  asked_next = ap asked_in (take_more es n d within) ∙ asked_both (take n es) (get_or es n d ∷ [])

  pub asked_none : (calls : List (SetCall NoRules)) → map asked calls ≡ asked_in (take n es) → asked_of ((get_or es n d).call) ≡ None → map asked calls ≡ asked_in (take (n + 1) es)
  asked_none calls so none = so ∙ sym (append-nil (asked_in (take n es))) ∙ sym (asked_next ∙ ap (λ o. asked_in (take n es) ++ onto o []) none)

  pub asked_some : (calls : List (SetCall NoRules)) (c : SetCall NoRules) → map asked calls ≡ asked_in (take n es) → asked_of ((get_or es n d).call) ≡ Some (asked c)
      → map asked (calls ++ (c ∷ [])) ≡ asked_in (take (n + 1) es)
  asked_some calls c so some =
      map-append asked calls (c ∷ []) ∙ ap (λ l. l ++ (asked c ∷ [])) so ∙ sym (asked_next ∙ ap (λ o. asked_in (take n es) ++ onto o []) some)

-- nothing is hung behind where the family has no rules
none_behind : (c : SetCall NoRules) → behind (λ _. []) c ≡ []
none_behind call.Issue = refl
none_behind call.Recall = refl
none_behind (call.Declare number parts) = refl
none_behind (call.Withdraw number) = refl
none_behind (call.Compare sent expected None) = refl
none_behind (call.Compare sent expected (Some family)) = refl
none_behind (call.Judge number message) = refl

-- a lawful season answers what is due, call after call
module _ (calls : List (SetCall NoRules)) (answers : List Answer) (same : length answers ≡ length calls) (lawful : Lawful (λ _. []) 8192 (length calls) calls answers) where
  due_from : (left k : ℕ) → k + left ≡ length calls → AllDue (past k calls answers) (map asked (drop k calls)) (map told (drop k answers))
  due_from zero k end = rw (drop_all k calls (omega (arith, end)), drop_all k answers (omega (arith, end, same))) tt
  due_from (suc left) k end =
      let small : k < length calls = omega (arith, end) in
      let due = subst (λ rules. Due rules 8192 (past k calls answers) (asked (call_at k calls)) (told (answer_at k answers))) (none_behind (call_at k calls)) (lawful k small) in
      let next : suc k ≡ k + 1 = omega arith in
      let more = subst (λ n. AllDue (past n calls answers) (map asked (drop (k + 1) calls)) (map told (drop (k + 1) answers))) (sym next) (due_from left (k + 1) (omega (arith, end))) in
      rw (drop_more calls k call.Issue small, drop_more answers k answer.Granted (omega (arith, small, same))) (due, more)

  pub all_due : AllDue [] (map asked calls) (map told answers)
  all_due = due_from (length calls) 0 (omega arith)

-- what the first entries were answered, and that what is still told is due
pub record Turned (es : List Entry) (n : ℕ) (left : List Told) (old new : Option (List ℕ)) : Type 0 where
  pub text : List ℕ
  pub history : History
  pub said : EntriesSaid [] (take n es) text history
  pub due : AllDue history (asked_in (drop n es)) left
  pub written : Appends old new text

pub turned_none : (es : List Entry) (tolds : List Told) (old : Option (List ℕ)) → AllDue [] (asked_in es) tolds → Turned es 0 tolds old old
turned_none es tolds old due = record { text = []; history = []; said = (refl, refl); due = due; written = appends_none old }

said_both : (es fs : List Entry) (h mid h′ : History) (a b : List ℕ) → EntriesSaid h es a mid → EntriesSaid mid fs b h′ → EntriesSaid h (es ++ fs) (a ++ b) h′
said_both [] fs h mid h′ a b (none, same) given = rw (none, sym same) given
said_both (e ∷ es) fs h mid h′ a b (first, others, next, cut, one, more) given =
    (first, others ++ b, next, ap (λ l. l ++ b) cut ∙ append_assoc first others b, one, said_both es fs next mid h′ others b more given)

-- which calls are those of a table, and which of the set
pub is_table : (call : Call) (answer : Result Reply Refusal) → CallAnswered call (Some answer) → asked_of call ≡ None
is_table (Table parts) answer given = refl
is_table (Ask question parts) answer given = refl
is_table (Declare number parts) answer given = absurd (some-none answer given)
is_table (Withdraw number) answer given = absurd (some-none answer given)
is_table Issue answer given = absurd (some-none answer given)
is_table Recall answer given = absurd (some-none answer given)
is_table (Compare sent expected) answer given = absurd (some-none answer given)
is_table (Judge number message) answer given = absurd (some-none answer given)

pub is_of_set : (call : Call) → CallAnswered call None → (a : Asked) × (asked_of call ≡ Some a)
is_of_set (Table parts) given = absurd given
is_of_set (Ask question parts) given = absurd given
is_of_set (Declare number parts) given = (_, refl)
is_of_set (Withdraw number) given = (_, refl)
is_of_set Issue given = (_, refl)
is_of_set Recall given = (_, refl)
is_of_set (Compare sent expected) given = (_, refl)
is_of_set (Judge number message) given = (_, refl)

module _ (es : List Entry) (n : ℕ) (entry : Entry) (within : n < length es) (next : entry ≡ get_or es n entry) (left : List Told) (old mid new : Option (List ℕ)) (turned : Turned es n left old mid) where
  taken : take (n + 1) es ≡ take n es ++ (entry ∷ [])
  taken = take_more es n entry within ∙ ap (λ x. take n es ++ (x ∷ [])) (sym next)

  rest_asked : asked_in (drop n es) ≡ onto (asked_of entry.call) (asked_in (drop (n + 1) es))
  rest_asked = ap asked_in (drop_more es n entry within ∙ ap (λ x. x ∷ drop (n + 1) es) (sym next))

  turned_more : (said : List ℕ) (h : History) (rest : List Told) → CallSaid turned.history entry.line.now entry.call said h → AllDue h (asked_in (drop (n + 1) es)) rest
      → Appends mid new said → Turned es (n + 1) rest old new
  turned_more said h rest one due out = record {
    text = turned.text ++ said;
    history = h;
    said = subst (λ l. EntriesSaid [] l (turned.text ++ said) h) (sym taken)
        (said_both (take n es) (entry ∷ []) [] turned.history h turned.text said turned.said (said, [], h, sym (append-nil said), one, (refl, refl)));
    due = due;
    written = appends_both old mid new turned.text said turned.written out;
  }

  -- a call about a table
  pub turned_table : (answer : Result Reply Refusal) (said : Option (List ℕ)) → CallAnswered entry.call (Some answer)
      → (ws : List (List ℕ)) × WordsAre entry.line.now ws × Appends mid said (spaced ws)
      → Appends said new (codes ": " ++ (answer_said answer ++ (10 ∷ []))) → Turned es (n + 1) left old new
  turned_table answer said given (ws, are, front) back =
      let table = is_table entry.call answer given in
      let text = spaced ws ++ (codes ": " ++ (answer_said answer ++ (10 ∷ []))) in
      let by = subst (λ o. SaidBy o turned.history entry.call (answer_said answer) turned.history) (sym table) (answer, given, refl, refl) in
      let due = subst (λ l. AllDue turned.history l left) (rest_asked ∙ ap (λ o. onto o (asked_in (drop (n + 1) es))) table) turned.due in
      turned_more text turned.history left (ws, answer_said answer, are, by, refl) due (appends_both mid said new _ _ front back)

  module _ (a : Asked) (asks : asked_of entry.call ≡ Some a) where
    due_next : AllDue turned.history (a ∷ asked_in (drop (n + 1) es)) left
    due_next = subst (λ l. AllDue turned.history l left) (rest_asked ∙ ap (λ o. onto o (asked_in (drop (n + 1) es))) asks) turned.due

    -- a call of the set
    pub turned_set : (t : Told) (rest : List Told) (said : Option (List ℕ)) → left ≡ t ∷ rest
        → (ws : List (List ℕ)) × WordsAre entry.line.now ws × Appends mid said (spaced ws)
        → Appends said new (codes ": " ++ (told_said t ++ (10 ∷ []))) → Turned es (n + 1) rest old new
    turned_set t rest said is (ws, are, front) back =
        let text = spaced ws ++ (codes ": " ++ (told_said t ++ (10 ∷ []))) in
        let (due, more) = subst (AllDue turned.history (a ∷ asked_in (drop (n + 1) es))) is due_next in
        let h : History = record { asked = a; told = t } ∷ turned.history in
        let by = subst (λ o. SaidBy o turned.history entry.call (told_said t) h) (sym asks) (t, due, refl, refl) in
        turned_more text h rest (ws, told_said t, are, by, refl) more (appends_both mid said new _ _ front back)

    -- and its answer is there
    pub answer_there : (answers : List Answer) (k : ℕ) → left ≡ map told (drop k answers) → k < length answers
    answer_there answers k is = elim (cases_lt k (length answers)) [
      | inl small ↦ small
      | inr past ↦
          let none : left ≡ [] = is ∙ ap (map told) (drop_all k answers past) in
          absurd (subst (AllDue turned.history (a ∷ asked_in (drop (n + 1) es))) none due_next)
    ]

-- at the end all entries are answered
pub turned_all : (es : List Entry) (n : ℕ) (left : List Told) (old new : Option (List ℕ)) → length es ≤ n → Turned es n left old new → EntriesWritten es old new
turned_all es n left old new end turned = (turned.text, turned.history, subst (λ l. EntriesSaid [] l turned.text turned.history) (take_all n es end) turned.said, turned.written)

-- what a whole season over 8,192 parts told is what is due to the entries
pub season_due : (es : List Entry) (calls : List (SetCall NoRules)) (answers : List Answer) (l : ℕ) → l ≡ 8192 → map asked calls ≡ asked_in es → length answers ≡ length calls
    → Lawful (λ _. []) l (length calls) calls answers → AllDue [] (asked_in es) (map told answers)
season_due es calls answers l long asks same lawful =
    subst (λ told_of. AllDue [] told_of (map told answers)) asks (all_due calls answers same (subst (λ n. Lawful (λ _. []) n (length calls) calls answers) long lawful))
