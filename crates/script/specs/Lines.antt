-- What a line of a script says, by its words. Assumes nothing.
use Rattle.std.specs.Prelude.{◌≡◌, ℕ, ◌+◌, ◌⊎◌, List, [], ◌∷◌, ◌++◌, map, length, Some, None, Ok, Err, IfSome, vec_items, codes, Option, Result, ◌≢◌, slice_index}
use Rattle.std.specs.Borrow.{Bor}
use Rattle.parts.specs.declared.part.Part.{Part}
use Rattle.script.specs.declared.call.Call.{Call}
use Rattle.script.specs.declared.call.Call.TheVariants.{Table, Ask, Declare, Withdraw, Issue, Recall, Compare, Judge}
use Rattle.script.specs.declared.error.LineError.{LineError}
use Rattle.script.specs.declared.error.LineError.TheVariants.{NoSuchCall, NotSymbol, NotPart, NotNumber, NotEnd, Memory}
use Rattle.script.specs.declared.question.Question.{Question}
use Rattle.script.specs.Questions.{Asked, NoQuestion, NoColon}
use Rattle.script.specs.Reads.{number_read, part_read}
use Rattle.script.specs.Words.{First, Begins, NoWord, Comes}

-- each of the words ws is read as that of xs at its place
abbrev pub Write : {X : Type 0} → (List ℕ → Option X) → List (List ℕ) → List X → Type 0
Write read ws xs = map read ws ≡ map Some xs

-- all the words of bs are read as xs
abbrev pub AllWrite : {X : Type 0} → (List ℕ → Option X) → List ℕ → List X → Type 0
AllWrite read bs xs = (ws : List (List ℕ)) × (rest : List ℕ) × Begins bs ws rest × NoWord rest × Write read ws xs

-- e tells which word of bs is the first that is not read, or that memory ran out
abbrev pub NotAllWrite : {X : Type 0} → (List ℕ → Option X) → (ℕ → Bor (List ℕ) → LineError) → List ℕ → LineError → Type 0
NotAllWrite {X} read unread bs e =
    (e ≡ Memory) ⊎
    ((w : Bor (List ℕ)) ×
    (ws : List (List ℕ)) ×
    (xs : List X) ×
    (rest : List ℕ) ×
    (e ≡ unread (length ws + 1) w) ×
    Begins bs (ws ++ (w.now ∷ [])) rest ×
    Write read ws xs ×
    (read w.now ≡ None))

-- what is wrong with a word that writes no part, and with one that writes no symbol
abbrev pub no_part : ℕ → Bor (List ℕ) → LineError
no_part count w = NotPart count w

abbrev pub no_symbol : ℕ → Bor (List ℕ) → LineError
no_symbol count w = NotSymbol (Some w)

-- all the words of bs write the parts ps
abbrev pub AllParts : List ℕ → List Part → Type 0
AllParts = AllWrite part_read

-- e tells which word of bs is the first that writes no part, or that memory ran out
abbrev pub NotParts : List ℕ → LineError → Type 0
NotParts = NotAllWrite part_read no_part

-- all the words of bs write the symbols ss
abbrev pub AllSymbols : List ℕ → List ℕ → Type 0
AllSymbols = AllWrite number_read

-- e tells which word of bs is the first that writes no symbol, or that memory ran out
abbrev pub NotSymbols : List ℕ → LineError → Type 0
NotSymbols = NotAllWrite number_read no_symbol

-- bs begins with a question and a colon, and rest follows them
abbrev pub Put : List ℕ → Question → List ℕ → Type 0
Put bs q rest = (mid : List ℕ) × Asked bs q mid × First mid (codes ":") rest

-- all of bs is the question q, a colon and the words of the parts ps
abbrev pub AllAsk : List ℕ → Question → List Part → Type 0
AllAsk bs q ps = (rest : List ℕ) × Put bs q rest × AllParts rest ps

-- e tells what is wrong with bs after `ask`: the question, then the colon, then the parts
abbrev pub NotAsk : List ℕ → LineError → Type 0
NotAsk bs e =
    NoQuestion bs e ⊎
    (((q : Question) × (mid : List ℕ) × Asked bs q mid × NoColon mid e) ⊎ ((q : Question) × (rest : List ℕ) × Put bs q rest × NotParts rest e))

-- bs begins with a word that writes the number n, and rest follows it
abbrev pub Numbered : List ℕ → ℕ → List ℕ → Type 0
Numbered bs n rest = (w : List ℕ) × First bs w rest × (number_read w ≡ Some n)

-- e tells what comes in the place of a number
abbrev pub NoNumber : List ℕ → LineError → Type 0
NoNumber bs e = (w : Option (Bor (List ℕ))) × (e ≡ NotNumber w) × Comes bs [] w × IfSome w (λ v. number_read v.now ≡ None)

-- e tells the word that comes in the place of the end
abbrev pub NotEnded : List ℕ → LineError → Type 0
NotEnded bs e = (w : Bor (List ℕ)) × (rest : List ℕ) × (e ≡ NotEnd w) × First bs w.now rest

-- bs begins with the number n, and what follows it is as Right says
abbrev pub NumberThen : List ℕ → ℕ → (List ℕ → Type 0) → Type 0
NumberThen bs n Right = (rest : List ℕ) × Numbered bs n rest × Right rest

-- e tells what comes in the place of a number, or by Wrong what is wrong with what follows the number
abbrev pub NotNumberThen : (List ℕ → LineError → Type 0) → List ℕ → LineError → Type 0
NotNumberThen Wrong bs e = NoNumber bs e ⊎ ((n : ℕ) × (rest : List ℕ) × Numbered bs n rest × Wrong rest e)

-- no call has this name
abbrev pub Uncalled : List ℕ → Type 0
Uncalled name =
    (name ≢ codes "table") ×
    (name ≢ codes "ask") ×
    (name ≢ codes "declare") ×
    (name ≢ codes "withdraw") ×
    (name ≢ codes "issue") ×
    (name ≢ codes "recall") ×
    (name ≢ codes "compare") ×
    (name ≢ codes "judge")

-- the call that a name and the words of bs after it say, or what is wrong with them
abbrev pub CallRead : List ℕ → List ℕ → Result Call LineError → Type 0
CallRead name bs (Ok (Table parts)) = (name ≡ codes "table") × AllParts bs (vec_items parts)
CallRead name bs (Ok (Ask q parts)) = (name ≡ codes "ask") × AllAsk bs q (vec_items parts)
CallRead name bs (Ok (Declare number parts)) = (name ≡ codes "declare") × NumberThen bs number (λ rest. AllParts rest (vec_items parts))
CallRead name bs (Ok (Withdraw number)) = (name ≡ codes "withdraw") × NumberThen bs number NoWord
CallRead name bs (Ok Issue) = (name ≡ codes "issue") × NoWord bs
CallRead name bs (Ok Recall) = (name ≡ codes "recall") × NoWord bs
CallRead name bs (Ok (Compare sent expected)) = (name ≡ codes "compare") × NumberThen bs sent (λ rest. NumberThen rest expected NoWord)
CallRead name bs (Ok (Judge number message)) = (name ≡ codes "judge") × NumberThen bs number (λ rest. AllSymbols rest (vec_items message))
CallRead name bs (Err e) =
    (name ≡ codes "table") × NotParts bs e ⊎
    (name ≡ codes "ask") × NotAsk bs e ⊎
    (name ≡ codes "declare") × NotNumberThen NotParts bs e ⊎
    (name ≡ codes "withdraw") × NotNumberThen NotEnded bs e ⊎
    (name ≡ codes "issue") × NotEnded bs e ⊎
    (name ≡ codes "recall") × NotEnded bs e ⊎
    (name ≡ codes "compare") × NotNumberThen (NotNumberThen NotEnded) bs e ⊎
    (name ≡ codes "judge") × NotNumberThen NotSymbols bs e ⊎
    ((w : Bor (List ℕ)) × (e ≡ NoSuchCall w) × (name ≡ w.now) × Uncalled name)

-- bs is no comment, and its first word and the words after it say r; 35 is '#'
abbrev pub Called : List ℕ → Result Call LineError → Type 0
Called bs r = (slice_index bs 0 ≢ 35) × ((name : List ℕ) × (rest : List ℕ) × First bs name rest × CallRead name rest r)

-- what a line says: nothing, if it is a comment or has no word
abbrev pub LineRead : List ℕ → Result (Option Call) LineError → Type 0
LineRead bs (Ok None) = (slice_index bs 0 ≡ 35) ⊎ NoWord bs
LineRead bs (Ok (Some call)) = Called bs (Ok call)
LineRead bs (Err e) = Called bs (Err e)
