use Rattle.text.proofs.Bits.{within_more, read_more}
use Rattle.text.proofs.cursor.bytes.comment_inside.Goals as goal

pub loop-bytes-preserved : goal.loop-bytes-preserved
loop-bytes-preserved c = record {
  within = within_more c.args.text.now c.loop-bytes.at c.in-Inner.bytes c.loop-bytes.invariant.within c.in-Inner.ensures;
  read = read_more c.args.text.now c.loop-bytes.at c.in-Inner.bytes c.loop-bytes.invariant.read c.in-Inner.ensures;
}
