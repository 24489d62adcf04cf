use Rattle.std.proofs.Common.{◌∙◌, ap, ℕ}
use Rattle.object_guard.specs.Parts.{new_object}
use Rattle.object_guard.proofs.Beside.{seen_new, seen_old}
use Rattle.object_guard.proofs.together.TogetherSees.object.Goals as goal

pub returns-in-Some : goal.returns-in-Some
returns-in-Some g c = seen_new (g.S.Sees.parts c.args.self.now.state.now) c.args.oid c.args.self.now.first
    c.args.self.now.objects.now c.in-Some.object.now (c.in-Some.ensures
    ∙ ap (λ (n : ℕ). new_object c.args.self.now.first c.args.self.now.objects.now n) c.number.ensures.number)

pub returns-in-None : goal.returns-in-None
returns-in-None g c = c.object.ensures
    ∙ seen_old (g.S.Sees.parts c.args.self.now.state.now) c.args.oid c.args.self.now.first
    c.args.self.now.objects.now (c.in-None.ensures
    ∙ ap (λ (n : ℕ). new_object c.args.self.now.first c.args.self.now.objects.now n) c.number.ensures.number)
