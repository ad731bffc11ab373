-- What is said of a line that is no call. Assumes nothing.
use Rattle.std.specs.Prelude.{ℕ, List, ◌++◌, Some, None, codes, decimal, Option}
use Rattle.std.specs.Borrow.{Bor}
use Rattle.script.specs.declared.error.LineError.{LineError}
use Rattle.script.specs.declared.error.LineError.TheVariants.{NoSuchCall, NoSuchQuestion, NotSet, NotSymbol, NotColon, NotPart, NotNumber, NotEnd, Memory}

-- a word, or what stands in its place where the line ends before it
abbrev pub word_or_end : Option (Bor (List ℕ)) → List ℕ
word_or_end None = codes "the end of the line"
word_or_end (Some word) = word.now

abbrev pub complaint : LineError → List ℕ
complaint (NoSuchCall name) = codes "no such call: " ++ (name.now ++ codes " (calls: table, ask, declare, withdraw, issue, recall, compare, judge)")
complaint (NoSuchQuestion name) = codes "expected a question (every, occurs, brings, after), and not: " ++ word_or_end name
complaint (NotSet word) = codes "expected a set of symbols, as 0,1 or -, and not: " ++ word_or_end word
complaint (NotSymbol word) = codes "expected a symbol, and not: " ++ word_or_end word
complaint (NotColon word) = codes "expected : before the parts, and not: " ++ word_or_end word
complaint (NotPart count word) = codes "part " ++ (decimal count ++ (codes " is not kind:symbol:low:high: " ++ word.now))
complaint (NotNumber word) = codes "expected a number of a model, and not: " ++ word_or_end word
complaint (NotEnd word) = codes "expected the end of the line, and not: " ++ word.now
complaint Memory = codes "out of memory"
