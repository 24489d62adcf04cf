use Rattle.std.proofs.Common.{◌≡◌, ◌∷◌, ◌++◌, [], sym, ap, ◌∙◌, rules}
use Rattle.st_tree.specs.Trees.{expression, sends, no_sends}
use Rattle.st_grammar.specs.Tokens.{identifier}
use Rattle.st_grammar.specs.Grammar.{word, any_message}
use Rattle.st_grammar.specs.Fails.{every}
use Rattle.st_grammar_laws.specs.Machine.{have, machine_run, unary}
use Rattle.st_parser.proofs.Messages.{unary_step, sends_more}
use Rattle.st_parser.proofs.expressions.unary_messages.Goals as goal

pub unary-preserved : goal.unary-preserved
unary-preserved c =
    let shown : c.unary.r ≡ word identifier c.in-Some-Identifier.bytes.now c.in-Some-Identifier.field-0.touches
    ∷ c.skip.new.self = search rules in
    let pushed : c.push.new.self.items ≡ c.unary.messages.items ++ unary c.in-Some-Identifier.bytes.now
    ∷ [] = search rules in
    record {
      runs = λ k names h. c.unary.invariant.runs k names h
          ∙ unary_step k (expression names h
          (sends c.unary.messages.items) no_sends) c.in-Some-Identifier.bytes.now _ c.unary.r c.skip.new.self shown
          ∙ ap (λ ms. machine_run every (have k (expression names h ms no_sends) any_message) c.skip.new.self)
          (sym (ap sends pushed ∙ sends_more c.unary.messages.items (unary c.in-Some-Identifier.bytes.now)));
      shorter = search rules;
    }
