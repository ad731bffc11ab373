-- That the law of a run fixes its answers, and what is known at the end. Assumes nothing.
use Rattle.std.proofs.Common.{◌≡◌, ℕ, zero, Option, List, [], ◌∷◌, ◌++◌, length, Some, None, refl, sym, ap, ◌∙◌, subst, arith}
use Rattle.grammar.specs.Declarations.{Declaration}
use Rattle.grammar.specs.Faults.{Cause, GivesOne}
use Rattle.grammar.specs.Faults.Cause.{kind}
use Rattle.text.specs.Law.{Reading, Told, NextDue}
use Rattle.text.specs.Law.Told.{declares, none_left, wrong_sheet, fault, no_model}
use Rattle.text.proofs.Reading.{same_front}
use Rattle.readings.specs.Histories.{Asked, Said, History, Begun, read_on, texts_after, texts_begun}
use Rattle.readings.specs.Histories.Asked.{begins, next}
use Rattle.readings.specs.Histories.Said.{begun, no_text, tells}
use Rattle.readings.specs.Runs.{Start, AllGiven, HasGiven, NextSaid, Due, Lawful, NamesKnown, SameTold, SameSaid, SameAsked, SameAnswers, LawFixes, reading_of, known_with}

-- one place of two lists that are the same
same_place : (ds es : List Declaration) (d k : Declaration) (more less : List Declaration) → ds ++ (d ∷ more) ≡ es ++ (k ∷ less) → length ds ≡ length es → (ds ≡ es) × (d ≡ k)
same_place [] [] d k more less e size = (refl, cc)
same_place [] (y ∷ ys) d k more less e size = absurd (omega arith)
same_place (x ∷ xs) [] d k more less e size = absurd (omega arith)
same_place (x ∷ xs) (y ∷ ys) d k more less e size =
    let rest : xs ++ (d ∷ more) ≡ ys ++ (k ∷ less) = cc in
    let first : x ≡ y = cc in
    let (front, here) = same_place xs ys d k more less rest (omega arith) in (cc, here)

-- none is left behind the declarations given, where one more is given
not_both : (ds es : List Declaration) (d : Declaration) (more : List Declaration) → ds ++ (d ∷ more) ≡ es → length ds ≡ length es → ⊥
not_both [] [] d more e size = cc
not_both [] (y ∷ ys) d more e size = absurd (omega arith)
not_both (x ∷ xs) [] d more e size = absurd (omega arith)
not_both (x ∷ xs) (y ∷ ys) d more e size =
    let rest : xs ++ (d ∷ more) ≡ ys = cc in not_both xs ys d more rest (omega arith)

cause_in : Option (Cause × ℕ) → Cause
cause_in None = kind
cause_in (Some x) = x.0

place_in : Option (Cause × ℕ) → ℕ
place_in None = zero
place_in (Some x) = x.1

module _ (r : Reading) (one : GivesOne r.notation) where
  -- what is due is one
  told_one : (t u : Told) → NextDue r t → NextDue r u → SameTold t u
  unfolding cause_in place_in
  told_one (declares ps s n) (declares qs y m) (ds, d, more, end, gives, count, name, symbol, parts) (es, k, less, last, also, number, called, sign, written) =
      let all = (one r.known r.text (ds ++ (d ∷ more)) (es ++ (k ∷ less)) end last gives also).0 in
      let (front, here) = same_place ds es d k more less all (count ∙ sym number) in
      cc
  told_one (declares ps s n) none_left (ds, d, more, end, gives, count, name, symbol, parts) (es, also, number) =
      absurd (not_both ds es d more (one r.known r.text (ds ++ (d ∷ more)) es end None gives also).0 (count ∙ sym number))
  told_one (declares ps s n) (wrong_sheet l) due other = absurd other
  told_one (declares ps s n) (fault f) (ds, d, more, end, gives, count, name, symbol, parts) (es, c, also, number, notice, why) =
      absurd (not_both ds es d more (one r.known r.text (ds ++ (d ∷ more)) es end (Some (c, f.place)) gives also).0 (count ∙ sym number))
  told_one (declares ps s n) no_model due other = absurd other
  told_one none_left (declares ps s n) (es, also, number) (ds, d, more, end, gives, count, name, symbol, parts) =
      absurd (not_both ds es d more (one r.known r.text (ds ++ (d ∷ more)) es end None gives also).0 (count ∙ sym number))
  told_one none_left none_left due other = refl
  told_one none_left (wrong_sheet l) due other = absurd other
  told_one none_left (fault f) (ds, gives, count) (es, c, also, number, notice, why) =
      let ends = (one r.known r.text ds es None (Some (c, f.place)) gives also).1 in cc
  told_one none_left no_model due other = absurd other
  told_one (wrong_sheet l) u due other = absurd due
  told_one (fault f) (declares ps s n) (es, c, also, number, notice, why) (ds, d, more, end, gives, count, name, symbol, parts) =
      absurd (not_both ds es d more (one r.known r.text (ds ++ (d ∷ more)) es end (Some (c, f.place)) gives also).0 (count ∙ sym number))
  told_one (fault f) none_left (es, c, also, number, notice, why) (ds, gives, count) =
      let ends = (one r.known r.text ds es None (Some (c, f.place)) gives also).1 in absurd cc
  told_one (fault f) (wrong_sheet l) due other = absurd other
  told_one (fault f) (fault h) (ds, c, gives, count, notice, why) (es, k, also, number, told, cause) =
      let ends = (one r.known r.text ds es (Some (c, f.place)) (Some (k, h.place)) gives also).1 in
      let cause_one : c ≡ k = ap cause_in ends in
      let place_one : f.place ≡ h.place = ap place_in ends in
      cc
  told_one (fault f) no_model due other = absurd other
  told_one no_model u due other = absurd due

module _ (s : Start) (one : GivesOne s.notation) where
  -- all declarations given are one list
  given_one : (bs : List Begun) (ds es : List Declaration) → AllGiven s bs ds → AllGiven s bs es → ds ≡ es
  given_one [] ds es all also = all ∙ sym also
  given_one (b ∷ bs) ds es (before, here, all, (more, end, gives, count), is) (earlier, there, also, given, same) =
      let first : before ≡ earlier = given_one bs before earlier all also in
      let (less, last, other, number) = subst (λ x. HasGiven (reading_of s x bs b) there) (sym first) given in
      let lists = (one (known_with s before) b.text (here ++ more) (there ++ less) end last gives other).0 in
      let last_text : here ≡ there = same_front here there more less lists (count ∙ sym number) in
      cc

  same_told : (t : Told) → SameTold t t
  same_told (declares ps y n) = refl
  same_told none_left = refl
  same_told (wrong_sheet l) = refl
  same_told (fault f) = refl
  same_told no_model = refl

  next_one : (bs : List Begun) (a b : Said) → NextSaid s bs a → NextSaid s bs b → SameSaid a b
  next_one [] a b is same = rw (is, same) refl
  next_one (x ∷ bs) a b (before, t, all, due, is) (earlier, u, also, owed, same) =
      let first : earlier ≡ before = given_one bs earlier before also all in
      rw (is, same) (told_one (reading_of s before bs x) one t u due (subst (λ y. NextDue (reading_of s y bs x) u) first owed))

  -- the texts begun do not hang on which cause of its number a fault names
  on_same : (t u : Told) (bs : List Begun) → SameTold t u → read_on t bs ≡ read_on u bs
  on_same (declares ps y n) u bs same = ap (λ x. read_on x bs) same
  on_same none_left u bs same = ap (λ x. read_on x bs) same
  on_same (wrong_sheet l) u bs same = ap (λ x. read_on x bs) same
  on_same (fault f) (fault h) [] same = refl
  on_same (fault f) (fault h) (b ∷ bs) same = refl
  on_same (fault f) (declares ps y n) bs same = absurd same
  on_same (fault f) none_left bs same = absurd same
  on_same (fault f) (wrong_sheet l) bs same = absurd same
  on_same (fault f) no_model bs same = absurd same
  on_same no_model u bs same = ap (λ x. read_on x bs) same

  after_same : (x : Asked) (a b : Said) (bs : List Begun) → SameSaid a b → texts_after x a bs ≡ texts_after x b bs
  after_same (begins text) a b bs same = refl
  after_same next begun b bs same = ap (λ y. texts_after next y bs) same
  after_same next no_text b bs same = ap (λ y. texts_after next y bs) same
  after_same next (tells t) begun bs same = absurd same
  after_same next (tells t) no_text bs same = absurd same
  after_same next (tells t) (tells u) bs same = on_same t u bs same

  texts_same : (h i : History) → SameAsked h i → SameAnswers h i → texts_begun h ≡ texts_begun i
  texts_same [] [] asks answers = refl
  texts_same [] (k ∷ i) asks answers = absurd asks
  texts_same (e ∷ h) [] asks answers = absurd asks
  texts_same (e ∷ h) (k ∷ i) (ask, asks) (answer, answers) =
      ap (λ x. texts_after x e.said (texts_begun h)) ask
      ∙ ap (texts_after k.asked e.said) (texts_same h i asks answers)
      ∙ after_same k.asked e.said k.said (texts_begun i) answer

  due_one : (h i : History) (x : Asked) (a b : Said) → texts_begun h ≡ texts_begun i → Due s h x a → Due s i x b → SameSaid a b
  due_one h i (begins text) a b texts is same = rw (is, same) refl
  due_one h i next a b texts is same = next_one (texts_begun h) a b is (subst (λ bs. NextSaid s bs b) (sym texts) same)

  answers_one : (h i : History) → Lawful s h → Lawful s i → SameAsked h i → SameAnswers h i
  answers_one [] [] law also asks = tt
  answers_one [] (k ∷ i) law also asks = absurd asks
  answers_one (e ∷ h) [] law also asks = absurd asks
  answers_one (e ∷ h) (k ∷ i) (due, law) (owed, also) (ask, asks) =
      let rest = answers_one h i law also asks in
      (due_one h i k.asked e.said k.said (texts_same h i asks rest) (subst (λ x. Due s h x e.said) ask due) owed, rest)

  names_one : (h i : History) (ks ls : List (List ℕ)) → texts_begun h ≡ texts_begun i → NamesKnown s h ks → NamesKnown s i ls → ks ≡ ls
  names_one h i ks ls texts (ds, all, is) (es, also, same) =
      let lists : ds ≡ es = given_one (texts_begun h) ds es all (subst (λ bs. AllGiven s bs es) (sym texts) also) in
      is ∙ ap (known_with s) lists ∙ sym same

  pub law_fixes : LawFixes s
  law_fixes h i law also asks =
      let answers = answers_one h i law also asks in
      (answers, λ ks ls known other. names_one h i ks ls (texts_same h i asks answers) known other)
