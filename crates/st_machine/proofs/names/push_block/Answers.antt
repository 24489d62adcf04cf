use Rattle.std.proofs.Common.{◌≡◌, ◌∙◌, ap, ℕ, ◌++◌, ◌∷◌, [], rules}
use Rattle.gem_object.specs.declared.value.Value.TheVariants as value
use Rattle.tree_meaning.specs.Place.{MadeBlock}
use Rattle.st_compiler.specs.Emitted.{body_of}
use Rattle.st_machine.specs.Parts.{framed}
use Rattle.st_machine.proofs.Pieces.{there, within, params_are}
use Rattle.st_machine.proofs.Sent.{block_led, made_same}
use Rattle.st_machine.proofs.names.push_block.Goals as goal

pub returns-clause-led : goal.returns-clause-led
returns-clause-led g c =
    let tree = c.args.code.now in
    let body = body_of c.in-Some.block.now in
    let items : c.in_ok-scopes.scopes.items ≡ c.own.result.now = search rules in
    let made = made_same tree c.in_ok-share.field-0 c.args.number c.in_ok-scopes.scopes.items c.args.chain.now.own
    c.in_ok-clone.field-0 c.args.frame.now c.in_ok-share.ensures (items ∙ c.own.ensures) c.in_ok-clone.ensures.cases in
    block_led c.args.depth tree c.args.number c.args.place c.in_ok-next_of.field-0 c.args.stack.now.own
    c.push.new.self.own (framed c.args.chain.now.own c.args.frame.now) (g.O.Objects.seen c.args.objects.now)
    c.args.locals.now c.add_block.new.self c.in_ok-params.params
    (there tree c.args.number (within tree c.args.number body c.in-Some.ensures))
    (c.in_ok-params.ensures ∙ params_are tree c.args.number body c.in-Some.ensures)
    c.in_ok-next_of.ensures.place
    (c.in_ok-push.ensures.pushed ∙ ap (λ (n : ℕ). value.Block (record { number = n; params = c.in_ok-params.params })
    ∷ c.args.stack.now.own) c.in_ok-number.ensures.number)
    (c.in_ok-number.ensures.added ∙ ap (λ (one : MadeBlock).
    record c.args.locals.now { blocks = c.args.locals.now.blocks ++ one ∷ [] }) (c.of-made.ensures ∙ made))
