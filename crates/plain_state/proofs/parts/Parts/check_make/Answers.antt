use Rattle.std.proofs.Common.{◌≡◌, ◌+◌, ◌≤◌, sym, ap, true, length, map, arith, rules}
use Rattle.std.specs.List.{list_all}
use Rattle.std.proofs.lemmas.List.{length-map}
use Rattle.gem_image.specs.Image.{contents_of}
use Rattle.object_programs.specs.Budget.{is_within_limits}
use Rattle.object_programs.specs.Atom.{objects_cost}
use Rattle.object_programs.specs.declared.limits.TheConstants.{COUNTER_LIMIT}
use Rattle.plain_state.specs.Room.{SeenWithRoom}
use Rattle.plain_state.proofs.Costs.{cost_bound}
use Rattle.plain_state.proofs.NewObjects.{passes_by}
use Rattle.plain_state.proofs.parts.Parts.check_make.Goals as goal

pub returns : goal.returns
returns c =
    let within : list_all is_within_limits (map contents_of c.args.objects.now) ≡ true = search rules in
    let few : c.args.self.now.seen.world.next + length c.args.objects.now ≤ COUNTER_LIMIT = search rules in
    let bound = cost_bound (map contents_of c.args.objects.now) within in
    let count = length-map c.args.objects.now contents_of in
    let slots : c.self.inside.slots ≡ c.args.self.now.seen.budget.slots = ap (λ (x : SeenWithRoom). x.seen.budget.slots) c.self.view_is in
    let little : objects_cost (map contents_of c.args.objects.now) ≤ c.args.self.now.seen.budget.slots =
    omega (arith, few, bound, count, slots, c.objects_cost.ensures, c.if-objects_cost-self.false) in
    sym (passes_by c.args.objects.now c.args.self.now.seen within few little)
