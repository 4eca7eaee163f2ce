use Rattle.std.proofs.Common.{◌*◌, arith}
use Rattle.pv_words.proofs.list_words.ListWordsWords.frames.Goals as goal

pub overflow_cast-result : goal.overflow_cast-result
overflow_cast-result c = omega (arith, c.args.self.now.small (2 * c.args.dom.0) (omega arith))
