use Rattle.std.proofs.Common.{◌-◌, length}
use Rattle.grammar.specs.Bytes.{is_blank}
use Rattle.text.specs.Cursors.{rest_of}
use Rattle.text.specs.Fronts.{Past}
use Rattle.text.specs.Progress.{NamesGrow}
use Rattle.text.proofs.Mixed.{MatesRead}
use Rattle.text.proofs.dtd.mixed.mixed.Given as goal

abbrev pub invariant-loop-cursor : goal.invariant-loop-cursor
invariant-loop-cursor l = record {
  read : MatesRead l.fn.cursor l.fn.elements l.fn.made l.cursor l.elements l.made l.alone;
  past : Past is_blank (rest_of l.cursor);
  grow : NamesGrow l.fn.elements l.elements;
}

abbrev pub decreases-loop-cursor : goal.decreases-loop-cursor
decreases-loop-cursor l = length l.cursor.text.now - l.cursor.at
