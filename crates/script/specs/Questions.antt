-- What the words of a question say. Assumes nothing.
use Rattle.std.specs.Prelude.{◌≡◌, ℕ, ◌⊎◌, List, [], ◌∷◌, Some, None, Ok, Err, IfSome, codes, Option, Result, ◌≢◌}
use Rattle.std.specs.Borrow.{Bor}
use Rattle.parts.specs.declared.symbols.SymbolSet.{SymbolSet}
use Rattle.script.specs.Reads.{number_read, set_read}
use Rattle.script.specs.Reader.{ReadNext}
use Rattle.script.specs.Words.{Begins, Comes}
use Rattle.script.specs.declared.error.LineError.{LineError}
use Rattle.script.specs.declared.error.LineError.TheVariants.{NoSuchQuestion, NotSet, NotSymbol, NotColon}
use Rattle.script.specs.declared.question.Question.{Question}
use Rattle.script.specs.declared.question.Question.TheVariants.{Every, Occurs, Brings, After}

-- the words ws ask the question
abbrev pub Asks : List (List ℕ) → Question → Type 0
Asks ws (Every set) = (w : List ℕ) × (ws ≡ codes "every" ∷ w ∷ []) × (set_read w ≡ Some set)
Asks ws (Occurs symbol) = (w : List ℕ) × (ws ≡ codes "occurs" ∷ w ∷ []) × (number_read w ≡ Some symbol)
Asks ws (Brings first second) =
    (v : List ℕ) × (w : List ℕ) × (ws ≡ codes "brings" ∷ v ∷ w ∷ []) × (set_read v ≡ Some first) × (set_read w ≡ Some second)
Asks ws (After first second) =
    (v : List ℕ) × (w : List ℕ) × (ws ≡ codes "after" ∷ v ∷ w ∷ []) × (number_read v ≡ Some first) × (number_read w ≡ Some second)

-- bs begins with the words of the question, and rest follows them
abbrev pub Asked : List ℕ → Question → List ℕ → Type 0
Asked bs q rest = (ws : List (List ℕ)) × Asks ws q × Begins bs ws rest

-- no question has this name
abbrev pub Unnamed : List ℕ → Type 0
Unnamed name =
    (name ≢ codes "every") × (name ≢ codes "occurs") × (name ≢ codes "brings") × (name ≢ codes "after")

-- after the words ws of a question a set has to stand
abbrev pub WantsSet : List (List ℕ) → Type 0
WantsSet ws =
    (ws ≡ codes "every" ∷ []) ⊎
    ((ws ≡ codes "brings" ∷ []) ⊎ ((v : List ℕ) × (set : SymbolSet) × (ws ≡ codes "brings" ∷ v ∷ []) × (set_read v ≡ Some set)))

-- after the words ws of a question a symbol has to stand
abbrev pub WantsSymbol : List (List ℕ) → Type 0
WantsSymbol ws =
    (ws ≡ codes "occurs" ∷ []) ⊎
    ((ws ≡ codes "after" ∷ []) ⊎ ((v : List ℕ) × (symbol : ℕ) × (ws ≡ codes "after" ∷ v ∷ []) × (number_read v ≡ Some symbol)))

-- e tells what is wrong with bs as a question: the name, or what comes in the place of a set or a symbol
abbrev pub NoQuestion : List ℕ → LineError → Type 0
NoQuestion bs e =
    ((w : Option (Bor (List ℕ))) × (e ≡ NoSuchQuestion w) × Comes bs [] w × IfSome w (λ v. Unnamed v.now)) ⊎
    (((w : Option (Bor (List ℕ))) × (ws : List (List ℕ)) × (e ≡ NotSet w) × WantsSet ws × Comes bs ws w × IfSome w (λ v. set_read v.now ≡ None)) ⊎
    ((w : Option (Bor (List ℕ))) × (ws : List (List ℕ)) × (e ≡ NotSymbol w) × WantsSymbol ws × Comes bs ws w × IfSome w (λ v. number_read v.now ≡ None)))

-- e tells what comes in the place of the colon
abbrev pub NoColon : List ℕ → LineError → Type 0
NoColon bs e = (w : Option (Bor (List ℕ))) × (e ≡ NotColon w) × Comes bs [] w × IfSome w (λ v. v.now ≢ codes ":")

-- what comes of bs where a set has to stand, and where a symbol has
abbrev pub SetNext : List ℕ → Result SymbolSet LineError → List ℕ → Type 0
SetNext = ReadNext (λ w o. set_read w.now ≡ o) (λ w e. e ≡ NotSet w)

abbrev pub SymbolNext : List ℕ → Result ℕ LineError → List ℕ → Type 0
SymbolNext = ReadNext (λ w o. number_read w.now ≡ o) (λ w e. e ≡ NotSymbol w)

-- what comes of bs where a question has to stand
abbrev pub QuestionNext : List ℕ → Result Question LineError → List ℕ → Type 0
QuestionNext bs (Ok q) rest = Asked bs q rest
QuestionNext bs (Err e) rest = NoQuestion bs e
