use Rattle.std.proofs.Common.{ℕ, None, Some, refl, sym, ap, ◌∙◌, set, length, rules}
use Rattle.std.proofs.lemmas.List.{length-set}
use Rattle.list_stack.specs.Places.{IsPlace}
use Rattle.list_stack.specs.Lists.{lists_of}
use Rattle.list_stack.proofs.Cuts.{none_set, lists_set, place_within}
use Rattle.list_stack.proofs.stack.ListStack.set.Goals as goal

pub index_mut-requires : goal.index_mut-requires
index_mut-requires g c =
    let place : IsPlace c.self.inside.starts.items (length c.self.inside.items.items) c.args.list c.args.at (Some c.in-Some.place) = search rules in
    let within = place_within (length c.self.inside.items.items) c.self.inside.items.items c.self.inside.starts.items c.args.list c.args.at refl c.self.invariant.ascend c.in-Some.place place in
    search rules

pub returns-in-Some : goal.returns-in-Some
returns-in-Some g c =
    let items = c.self.inside.items.items in
    let starts = c.self.inside.starts.items in
    let place : IsPlace starts (length items) c.args.list c.args.at (Some c.in-Some.place) = search rules in
    rw (sym c.self.view_is) (ap (λ (n : ℕ). lists_of n (set items c.in-Some.place c.args.item) starts) (length-set items c.in-Some.place c.args.item)
    ∙ lists_set (length items) items starts c.args.list c.args.at c.in-Some.place c.args.item c.self.invariant.ascend place.0 place.1 place.2)

pub returns-in_default : goal.returns-in_default
returns-in_default g c =
    let place : IsPlace c.self.inside.starts.items (length c.self.inside.items.items) c.args.list c.args.at None = search rules in
    rw (sym c.self.view_is) (none_set (length c.self.inside.items.items) c.self.inside.items.items c.self.inside.starts.items c.args.list c.args.at c.args.item place)
