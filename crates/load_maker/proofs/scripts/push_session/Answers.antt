use Rattle.std.proofs.Common.{◌++◌, ◌∷◌, [], codes}
use Rattle.std.specs.List.{flat_map}
use Rattle.texts.specs.Lines.{text_of_lines}
use Rattle.load_maker.specs.Numbers.{round_numbers}
use Rattle.load_maker.specs.Scripts.{round_lines}
use Rattle.load_maker.proofs.Left.{went_on}
use Rattle.load_maker.proofs.scripts.push_session.Goals as goal

pub returns-clause-text : goal.returns-clause-text
returns-clause-text c = went_on c.push_rounds.result c.args.script.now.items c.push_text.new.script.items
    c.push_rounds.new.script.items (codes "session DataCurator" ++ 10 ∷ [])
    (text_of_lines (flat_map round_lines (round_numbers c.args.rounds c.args.generator.now.state)))
    c.in_ok-push_text.ensures c.push_rounds.ensures.text
