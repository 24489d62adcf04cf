use Rattle.std.proofs.Common.{◌≡◌, ◌∙◌, sym, ap, nat_eq, Some, option_map}
use Rattle.std.proofs.lemmas.Result.{on_ok_weaker, on_err_weaker}
use Rattle.std.specs.FinMap.{get}
use Rattle.std.specs.Map.{lookup}
use Rattle.gem_image.specs.Image.{contents_of}
use Rattle.object_programs.specs.Guard.{holds_of}
use Rattle.plain_state.specs.Edit.{with_slot_put, takes_value}
use Rattle.plain_state.specs.Overlay.{contents_by_name}
use Rattle.plain_state.proofs.Changes.{get_by_name}
use Rattle.plain_state.proofs.EntryPlaces.{place_within, found_at_place, edited_at_place, same_at_place}
use Rattle.plain_state.proofs.overlay.Overlay.put_slot_within.Goals as goal

pub index_mut-requires : goal.index_mut-requires
index_mut-requires c = place_within c.self.inside.entries.entries c.args.number c.in-Some.place (sym c.in-Some.ensures)

pub returns-clause-put : goal.returns-clause-put
returns-clause-put c = on_ok_weaker c.put_slot_within.result (λ put. rw (← c.self.view_is)
    (edited_at_place c.self.inside.entries.entries c.args.number c.in-Some.place (sym c.in-Some.ensures)
    c.index_mut.result.now c.put_slot_within.new.self c.index_mut.ensures.value (with_slot_put c.args.at c.args.value) put))
    c.put_slot_within.ensures.put

pub returns-clause-takes : goal.returns-clause-takes
returns-clause-takes c =
    let there : lookup (nat_eq c.args.number) c.self.inside.entries.entries ≡ Some c.index_mut.result.now =
    found_at_place c.self.inside.entries.entries c.args.number c.in-Some.place (sym c.in-Some.ensures)
    c.index_mut.result.now c.index_mut.ensures.value in
    let same : holds_of (takes_value c.args.at c.args.value) (get (contents_by_name c.self.inside.entries.entries) c.args.number)
    ≡ takes_value c.args.at c.args.value (contents_of c.index_mut.result.now) = ap (holds_of (takes_value c.args.at c.args.value))
    (get_by_name c.self.inside.entries.entries c.args.number ∙ ap (option_map contents_of) there) in
    on_ok_weaker c.put_slot_within.result (λ takes. rw (← c.self.view_is) (same ∙ takes)) c.put_slot_within.ensures.takes

pub returns-clause-unchanged : goal.returns-clause-unchanged
returns-clause-unchanged c = on_err_weaker c.put_slot_within.result (λ same. rw (← c.self.view_is)
    (same_at_place c.self.inside.entries.entries c.args.number c.in-Some.place (sym c.in-Some.ensures)
    c.index_mut.result.now c.put_slot_within.new.self c.index_mut.ensures.value same)) c.put_slot_within.ensures.unchanged
