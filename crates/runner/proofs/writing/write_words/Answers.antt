use Rattle.std.proofs.Common.{rules}
use Rattle.script.proofs.Words.{first_of}
use Rattle.runner.proofs.Sofar.{spaced_more}
use Rattle.runner.proofs.writing.write_words.Goals as goal

pub loop-word-preserved : goal.loop-word-preserved
loop-word-preserved g c =
    let first = first_of _ c.in-Some.word.now _ c.in-Some.ensures.steps in
    record {
      next = tt;
      finite = tt;
      text = search rules;
      spaced = spaced_more c.loop-word.invariant.spaced first c.in_ok-write.ensures.bytes;
    }
