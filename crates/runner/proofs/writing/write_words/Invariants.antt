use denote.Text.{Utf8}
use denote.Shadow.{shadow}
use Rattle.std.specs.Str.Iter.{split_whitespace_rest}
use Rattle.runner.proofs.Sofar.{Spaced}
use Rattle.runner.proofs.writing.write_words.Given as goal

-- what stands before the next word is text
abbrev pub invariant-loop-word : goal.invariant-loop-word
invariant-loop-word g l =
    record {
      next : (goal.iterator-loop-word g).can_next l.word-iterator;
      finite : (goal.iterator-loop-word g).is_finite l.word-iterator;
      text : shadow (Utf8 l.gap);
      spaced : Spaced l.line (split_whitespace_rest l.word-iterator) (g.W.Write.contents l.initial.out) (g.W.Write.contents l.out) l.gap;
    }
