use Rattle.std.proofs.Common.{rules}
use Rattle.text.proofs.CursorLemmas.{agreed_le, word_differs}
use Rattle.text.proofs.cursor.Cursor.word.Goals as goal

pub overflow_add-result : goal.overflow_add-result
overflow_add-result c = let a = agreed_le c.args.self.now _ _ _ c.rest-rest.ensures c.common.ensures in search rules

pub returns : goal.returns
returns c = word_differs c.args.self.now c.args.word.now c.rest-rest.result.now c.common.result c.rest-rest.ensures c.starts_with.ensures.value c.if-starts_with.false c.common.ensures
