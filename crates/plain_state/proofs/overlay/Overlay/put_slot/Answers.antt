use Rattle.std.proofs.Common.{◌≡◌, sym, nat_eq, position, None, arith}
use Rattle.std.specs.Map.{keys_of}
use Rattle.plain_state.specs.Edit.{with_slot_put}
use Rattle.plain_state.proofs.Changes.{absent_by_name}
use Rattle.plain_state.proofs.EntryPlaces.{none_without_place, place_within, edited_at_place}
use Rattle.plain_state.proofs.overlay.Overlay.put_slot.Goals as goal

pub returns-in_default : goal.returns-in_default
returns-in_default c =
    let none : position (nat_eq c.args.number) (keys_of c.self.inside.entries.entries) ≡ None =
    grind (arith, c.place_near.ensures, c.in_default.not-Some, c.in_default.is) in
    rw (← c.self.view_is) (sym (absent_by_name c.self.inside.entries.entries c.args.number
    (with_slot_put c.args.at c.args.value) (none_without_place c.self.inside.entries.entries c.args.number none)))

pub index_mut-requires : goal.index_mut-requires
index_mut-requires c = place_within c.self.inside.entries.entries c.args.number c.in-Some.place (sym c.in-Some.ensures)

pub returns : goal.returns
returns c = rw (← c.self.view_is)
    (edited_at_place c.self.inside.entries.entries c.args.number c.in-Some.place (sym c.in-Some.ensures)
    c.index_mut.result.now c.put_slot.new.self c.index_mut.ensures.value (with_slot_put c.args.at c.args.value)
    c.put_slot.ensures)
