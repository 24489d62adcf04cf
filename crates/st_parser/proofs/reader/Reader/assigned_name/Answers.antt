use Rattle.std.proofs.Common.{◌≡◌, ◌∷◌, drop, rules}
use Rattle.st_lexer.specs.Views.{kind_seen}
use Rattle.st_grammar.specs.Tokens.{identifier, assign}
use Rattle.st_parser.proofs.Words.{assigned_words}
use Rattle.st_parser.proofs.reader.Reader.assigned_name.Goals as goal

pub returns-in-Identifier-Assign : goal.returns-in-Identifier-Assign
returns-in-Identifier-Assign c =
    let front : c.self.inside.tokens.now ≡ c.in_ok-name.name.now
    ∷ (c.in_ok-assign.assign.now ∷ drop 1 c.in_ok-name.rest.now) = search rules in
    let first : kind_seen c.in_ok-name.name.now.kind ≡ identifier = search rules in
    let second : kind_seen c.in_ok-assign.assign.now.kind ≡ assign = search rules in
    assigned_words c.self.inside.end c.self.inside.text.now c.self.inside.tokens.now c.in_ok-name.name.now
    c.in_ok-assign.assign.now (drop 1 c.in_ok-name.rest.now) c.args.self.now front first second c.self.view_is
