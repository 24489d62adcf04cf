use Rattle.std.proofs.Common.{◌∙◌}
use Rattle.std.specs.Fmt.{decimal}
use Rattle.texts.specs.Lines.{text_of_lines}
use Rattle.load_maker.specs.Scripts.{round_lines}
use Rattle.load_maker.proofs.Left.{wrote, round_pieces}
use Rattle.load_maker.proofs.scripts.push_round.Goals as goal

pub returns : goal.returns
returns c = wrote c.push_text.result c.args.script.now.items c.push_text.new.script.items
    (text_of_lines (round_lines c.args.number)) c.as_str.result.now
    (c.as_str.ensures.value ∙ c.in_ok-round.ensures.ok ∙ round_pieces (decimal c.args.number)) c.push_text.ensures
