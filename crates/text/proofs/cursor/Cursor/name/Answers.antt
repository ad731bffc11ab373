use Rattle.text.proofs.CursorLemmas.{name_read}
use Rattle.text.proofs.cursor.Cursor.name.Goals as goal

pub returns-in-len1-up : goal.returns-in-len1-up
returns-in-len1-up c = name_read c.args.self.now c.advance.new.self c.rest-rest.result.now c.name_bytes.result c.rest-rest.ensures c.in-len1-up.len_at_least (c.begins_name.ensures) c.if-begins_name.true c.name_bytes.ensures c.advance.ensures
