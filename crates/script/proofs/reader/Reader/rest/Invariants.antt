use Rattle.std.proofs.Common.{vec_items}
use Rattle.std.specs.Str.Iter.{split_whitespace_rest}
use Rattle.script.proofs.Words.{Sofar}
use Rattle.script.proofs.reader.Reader.rest.Given as goal

abbrev pub invariant-loop-word : goal.invariant-loop-word
invariant-loop-word g l = Sofar g.T.Written.written l.fn.self (split_whitespace_rest l.word-iterator) (vec_items l.row)
