-- One call more of a run over texts. Assumes nothing.
use Rattle.std.proofs.Common.{◌≡◌, ℕ, ◌+◌, ◌<◌, ◌≤◌, min, List, [], ◌∷◌, ◌++◌, length, take, get_or, is_ok, refl, sym, ap, ◌∙◌, subst, arith, length-append}
use Rattle.std.proofs.lemmas.List.{append_assoc, take_more}
use Rattle.names.specs.Numbering.{known_after}
use Rattle.names.specs.declared.vocabulary.Vocabulary.{Vocabulary}
use Rattle.names.proofs.Numbering.{met_in_turn}
use Rattle.grammar.specs.Declarations.{Declaration}
use Rattle.text.specs.Between.{GivesFirst}
use Rattle.text.specs.Law.{Reading, Told, NextDue, ModelTold, TextGives, names_of, reading_after}
use Rattle.text.specs.Law.Told.{declares, none_left, wrong_sheet, fault, no_model}
use Rattle.text.proofs.Naming.{names_of-append}
use Rattle.readings.specs.Histories.{Said, History, Begun, one_on, texts_after, texts_begun}
use Rattle.readings.specs.Histories.Asked.{begins, next}
use Rattle.readings.specs.Histories.Said.{begun, tells}
use Rattle.readings.specs.Calls.{asked, said, history, history_from}
use Rattle.readings.specs.Runs.{Start, AllGiven, HasGiven, NextSaid, Due, Lawful, SaysModel, ModelsSaid, reading_of, known_with, texts_with}
use Rattle.readings.specs.Desks.{Closed, NextCame, StandsAt}
use Rattle.readings.specs.declared.call.ReadCall.{ReadCall}
use Rattle.readings.specs.declared.answer.ReadAnswer.{ReadAnswer}
use Rattle.readings.specs.declared.desk.Desk.{Desk}
use Rattle.readings.specs.declared.desk.Desk.TheVariants.{Idle, Reads}

-- the texts gave these declarations, and the vocabulary is what is known then
abbrev pub IsKnown : Start → List Begun → Vocabulary → Type 0
IsKnown s bs v = (ds : List Declaration) × AllGiven s bs ds × (v.names ≡ known_with s ds) × (v.texts ≡ texts_with s bs)

-- what a closed desk hands back
pub closed : {N : Type 0} (s : Start) (bs : List Begun) (desk : Desk N) (w : Vocabulary) → s.texts ≤ 65535 → StandsAt s bs desk → Closed desk w → IsKnown s bs w
closed s [] (Idle v) w small (names, texts) is =
    let few : s.texts ≡ min 65535 (s.texts + 0) = omega arith in
    ([], refl, ap (λ x. x.names) is ∙ names, ap (λ x. x.texts) is ∙ texts ∙ few)
closed s [] (Reads r) w small at is = absurd at
closed s (b ∷ bs) (Idle v) w small at is = absurd at
closed s (b ∷ bs) (Reads r) w small (before, here, all, same, gave) (names, texts) =
    let (more, end, gives, count) = gave in
    let in_turn = met_in_turn s.known (names_of before) (names_of here) in
    let known : r.known ≡ known_after s.known (names_of before) = ap (λ x. x.known) same in
    let before_it : r.texts ≡ min 65535 (s.texts + length bs) = ap (λ x. x.texts) same in
    let counted : w.texts ≡ min 65535 (r.texts + 1) = texts in (
      before ++ here,
      (before, here, all, subst (λ x. HasGiven x here) same gave, refl),
      names here more end gives count ∙ ap (λ x. known_after x (names_of here)) known ∙ sym in_turn ∙ ap (known_after s.known) (sym (names_of-append before here)),
      omega arith,
    )

-- a text is begun
pub begins_text : (N : Type 0) (s : Start) (bs : List Begun) (w : Vocabulary) (text : List ℕ) → IsKnown s bs w → GivesFirst s.notation w.names text []
    → (r : Reading) → r ≡ record { notation = s.notation; known = w.names; texts = w.texts; text = text; given = 0 }
    → StandsAt {N = N} s (texts_after (begins text) begun bs) (Reads r)
begins_text N s bs w text (ds, all, names, texts) (more, end, gives) r is =
    let same : r ≡ reading_of s ds bs (record { text = text; given = 0 }) =
    is ∙ ap (λ x. record { notation = s.notation; known = x; texts = w.texts; text = text; given = 0 }) names
    ∙ ap (λ x. record { notation = s.notation; known = known_with s ds; texts = x; text = text; given = 0 }) texts in
    let given : HasGiven (record { notation = s.notation; known = w.names; texts = w.texts; text = text; given = 0 }) [] = (more, end, gives, refl) in
    (ds, [], all, same, subst (λ x. HasGiven x []) (sym is) given)

-- the reading that goes on
stays : (N : Type 0) (s : Start) (bs : List Begun) (b : Begun) (before here : List Declaration) (t : Told) → AllGiven s bs before → HasGiven (reading_of s before bs b) here
    → NextDue (reading_of s before bs b) t → StandsAt {N = N} s (one_on t b ∷ bs) (Reads (reading_after t (reading_of s before bs b)))
stays N s bs b before here (declares ps y n) all gave (ds, d, more, end, gives, count, name, symbol, parts) =
    let size : length (ds ++ (d ∷ [])) ≡ length ds + 1 = length-append ds (d ∷ []) in
    (before, ds ++ (d ∷ []), all, refl, (more, end, subst (λ xs. TextGives (reading_of s before bs b) xs end) (sym (append_assoc ds (d ∷ []) more)) gives, size ∙ ap (λ k. k + 1) count))
stays N s bs b before here none_left all gave due = (before, here, all, refl, gave)
stays N s bs b before here (wrong_sheet l) all gave due = absurd due
stays N s bs b before here (fault f) all gave due = (before, here, all, refl, gave)
stays N s bs b before here no_model all gave due = absurd due

-- the parts told are a model
told_model : (r : Reading) (t : Told) → NextDue r t → ModelTold r t → SaysModel (tells t)
told_model r (declares ps y n) (ds, d, more, end, gives, count, name, symbol, parts) model = ap is_ok (model ds d more end gives count)
told_model r none_left due model = tt
told_model r (wrong_sheet l) due model = tt
told_model r (fault f) due model = tt
told_model r no_model due model = tt

-- the next declaration is asked for
pub next_stands : {N : Type 0} (s : Start) (bs : List Begun) (d e : Desk N) (a : Said) → StandsAt s bs d → NextCame d a e
    → NextSaid s bs a × StandsAt s (texts_after next a bs) e × SaysModel a
next_stands s [] (Idle v) e a at (is, same) = (is, rw (is, same) at, subst SaysModel (sym is) tt)
next_stands s [] (Reads r) e a at came = absurd at
next_stands s (b ∷ bs) (Idle v) e a at came = absurd at
next_stands {N = N} s (b ∷ bs) (Reads r) e a (before, here, all, is, gave) (t, told, due, model, after) =
    let owed = subst (λ x. NextDue x t) is due in (
      (before, t, all, owed, told),
      rw (told, after, is) (stays N s bs b before here t all (subst (λ x. HasGiven x here) is gave) owed),
      subst SaysModel (sym told) (told_model r t due model),
    )

-- a run so far: each call has its answer, by the law, and the desk stands behind the texts begun
pub record RunsTo {N : Type 0} (s : Start) (calls : List ReadCall) (answers : List ReadAnswer) (d : Desk N) : Type 0 where
  pub count : length answers ≡ length calls
  pub lawful : Lawful s (history calls answers)
  pub models : ModelsSaid (history calls answers)
  pub stands : StandsAt s (texts_begun (history calls answers)) d

pub run_none : {N : Type 0} (s : Start) (d : Desk N) → StandsAt s [] d → RunsTo s [] [] d
run_none s d at = record { count = refl; lawful = tt; models = tt; stands = at }

history_more : (h : History) (calls : List ReadCall) (answers : List ReadAnswer) (c : ReadCall) (a : ReadAnswer) → length answers ≡ length calls
    → history_from h (calls ++ (c ∷ [])) (answers ++ (a ∷ [])) ≡ record { asked = asked c; said = said a } ∷ history_from h calls answers
history_more h [] [] c a count = refl
history_more h [] (x ∷ xs) c a count = absurd (omega arith)
history_more h (y ∷ ys) [] c a count = absurd (omega arith)
history_more h (y ∷ ys) (x ∷ xs) c a count = history_more (record { asked = asked y; said = said x } ∷ h) ys xs c a (omega arith)

-- one call more is answered, which moves the desk
module _ {N : Type 0} (s : Start) (calls : List ReadCall) (answers : List ReadAnswer) (d e : Desk N) (c : ReadCall) (a : ReadAnswer) (run : RunsTo s calls answers d)
    (due : Due s (history calls answers) (asked c) (said a)) (stands : StandsAt s (texts_after (asked c) (said a) (texts_begun (history calls answers))) e) (model : SaysModel (said a)) where
  run_more : RunsTo s (calls ++ (c ∷ [])) (answers ++ (a ∷ [])) e
  run_more =
      let more = history_more [] calls answers c a run.count in
      let longer = length-append answers (a ∷ []) in
      let asked_more = length-append calls (c ∷ []) in record {
        count = longer ∙ ap (λ n. n + 1) run.count ∙ sym asked_more;
        lawful = rw more (due, run.lawful);
        models = rw more (model, run.models);
        stands = rw more stands;
      }

-- the same for the call at a place of a list
pub run_on : {N : Type 0} (s : Start) (calls : List ReadCall) (other : ReadCall) (place : ℕ) (answers new : List ReadAnswer) (d e f : Desk N) (c : ReadCall) (a b : ReadAnswer)
    → RunsTo s (take place calls) answers d → place < length calls → get_or calls place other ≡ c → new ≡ answers ++ (b ∷ []) → b ≡ a → f ≡ e
    → Due s (history (take place calls) answers) (asked c) (said a) → StandsAt s (texts_after (asked c) (said a) (texts_begun (history (take place calls) answers))) e → SaysModel (said a)
    → RunsTo s (take (place + 1) calls) new f
run_on s calls other place answers new d e f c a b run within is grown answer desk due stands model =
    let more : take (place + 1) calls ≡ take place calls ++ (c ∷ []) = take_more calls place other within ∙ ap (λ x. take place calls ++ (x ∷ [])) is in
    rw (more, grown, answer, desk) (run_more s (take place calls) answers d e c a run due stands model)
