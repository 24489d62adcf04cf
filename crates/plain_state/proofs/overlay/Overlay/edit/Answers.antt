use Rattle.std.proofs.Common.{◌≡◌, sym, nat_eq, position, None, arith}
use Rattle.std.proofs.lemmas.Result.{on_ok_weaker, on_err_weaker}
use Rattle.std.specs.Map.{keys_of}
use Rattle.plain_state.specs.Edit.{edited_by}
use Rattle.plain_state.proofs.Changes.{absent_by_name}
use Rattle.plain_state.proofs.EntryPlaces.{none_without_place, place_within, edited_at_place, same_at_place}
use Rattle.plain_state.proofs.overlay.Overlay.edit.Goals as goal

pub returns-in_default-clause-edited : goal.returns-in_default-clause-edited
returns-in_default-clause-edited c =
    let none : position (nat_eq c.args.number) (keys_of c.self.inside.entries.entries) ≡ None =
    grind (arith, c.place_near.ensures, c.in_default.not-Some, c.in_default.is) in
    rw (← c.self.view_is) (sym (absent_by_name c.self.inside.entries.entries c.args.number (edited_by c.args.edit)
    (none_without_place c.self.inside.entries.entries c.args.number none)))

pub index_mut-requires : goal.index_mut-requires
index_mut-requires c = place_within c.self.inside.entries.entries c.args.number c.in-Some.place (sym c.in-Some.ensures)

pub returns-clause-edited : goal.returns-clause-edited
returns-clause-edited c = on_ok_weaker c.edit.result (λ edited. rw (← c.self.view_is)
    (edited_at_place c.self.inside.entries.entries c.args.number c.in-Some.place (sym c.in-Some.ensures)
    c.index_mut.result.now c.edit.new.self c.index_mut.ensures.value (edited_by c.args.edit) edited))
    c.edit.ensures.edited

pub returns-clause-unchanged : goal.returns-clause-unchanged
returns-clause-unchanged c = on_err_weaker c.edit.result (λ same. rw (← c.self.view_is)
    (same_at_place c.self.inside.entries.entries c.args.number c.in-Some.place (sym c.in-Some.ensures)
    c.index_mut.result.now c.edit.new.self c.index_mut.ensures.value same)) c.edit.ensures.unchanged
