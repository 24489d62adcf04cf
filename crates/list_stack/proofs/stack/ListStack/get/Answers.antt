use Rattle.std.proofs.Common.{None, Some, refl, sym, length, rules}
use Rattle.list_stack.specs.Places.{IsPlace}
use Rattle.list_stack.proofs.Cuts.{none_there, item_there, place_within}
use Rattle.list_stack.proofs.stack.ListStack.get.Goals as goal

pub returns-in_err-place : goal.returns-in_err-place
returns-in_err-place g c =
    let place : IsPlace c.self.inside.starts.items (length c.self.inside.items.items) c.args.list c.args.at None = search rules in
    rw (c.from_residual.ensures, sym c.self.view_is) (sym (none_there (length c.self.inside.items.items) c.self.inside.items.items c.self.inside.starts.items c.args.list c.args.at place))

pub index-requires : goal.index-requires
index-requires g c =
    let place : IsPlace c.self.inside.starts.items (length c.self.inside.items.items) c.args.list c.args.at (Some c.in_ok-place.place) = search rules in
    let within = place_within (length c.self.inside.items.items) c.self.inside.items.items c.self.inside.starts.items c.args.list c.args.at refl c.self.invariant.ascend c.in_ok-place.place place in
    search rules

pub returns : goal.returns
returns g c =
    let place : IsPlace c.self.inside.starts.items (length c.self.inside.items.items) c.args.list c.args.at (Some c.in_ok-place.place) = search rules in
    rw (sym c.self.view_is) (sym (item_there (length c.self.inside.items.items) c.self.inside.items.items c.self.inside.starts.items c.args.list c.args.at refl c.self.invariant.ascend c.in_ok-place.place _ place c.index.ensures))
