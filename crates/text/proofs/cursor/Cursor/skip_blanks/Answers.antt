use Rattle.text.proofs.CursorLemmas.{blanks_le, blanks_read}
use Rattle.text.proofs.cursor.Cursor.skip_blanks.Goals as goal

pub advance-requires : goal.advance-requires
advance-requires c = blanks_le c.args.self.now _ _ c.rest.ensures c.blanks-count.ensures

pub returns : goal.returns
returns c = blanks_read c.args.self.now c.advance.new.self _ _ c.rest.ensures c.blanks-count.ensures c.advance.ensures
