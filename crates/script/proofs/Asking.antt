-- One word more of a question. Assumes nothing.
use Rattle.std.proofs.Common.{◌≡◌, ℕ, List, [], ◌∷◌, Err, Result, refl, subst, inl, inr}
use Rattle.std.specs.Result.{IsErrAnd}
use Rattle.std.proofs.lemmas.Result.{err_from_is_err_and}
use Rattle.script.specs.Questions.{WantsSet, WantsSymbol, NoQuestion, SetNext, SymbolNext, QuestionNext}
use Rattle.script.specs.Words.{First, Begins}
use Rattle.script.specs.declared.error.LineError.{LineError}
use Rattle.script.specs.declared.question.Question.{Question}

-- the name of a question is its first word
pub named : {bs w mid : List ℕ} (name : List ℕ) → First bs w mid → w ≡ name → Begins bs (name ∷ []) mid
named {bs = bs} {mid = mid} name first is = (mid, subst (λ v. First bs v mid) is first, refl)

-- what `?` gives back where a word of a question is wrong
module _ (bs mid rest : List ℕ) (ws : List (List ℕ)) (e : LineError) (r : Result Question LineError) (exits : IsErrAnd r (λ y. y ≡ e)) (begins : Begins bs ws mid) where
  wrong : NoQuestion bs e → QuestionNext bs r rest
  wrong why = let p = err_from_is_err_and r exits in rw (p.1, p.2) why

  pub set_wrong : WantsSet ws → SetNext mid (Err e) rest → QuestionNext bs r rest
  set_wrong wants (w, is, next, none) = wrong (inr (inl (w, ws, is, wants, (mid, rest, begins, next), none)))

  pub symbol_wrong : WantsSymbol ws → SymbolNext mid (Err e) rest → QuestionNext bs r rest
  symbol_wrong wants (w, is, next, none) = wrong (inr (inr (w, ws, is, wants, (mid, rest, begins, next), none)))
