use Rattle.std.proofs.Common.{length, ap, ◌∙◌}
use Rattle.st_parser.proofs.Words.{length_words}
use Rattle.st_parser.proofs.reader.Reader.left.Goals as goal

pub returns : goal.returns
returns c = length_words c.self.inside.end c.self.inside.text.now c.self.inside.tokens.now ∙ ap length c.self.view_is
