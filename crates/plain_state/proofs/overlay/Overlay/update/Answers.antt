use Rattle.std.proofs.Common.{◌≡◌, ◌∙◌, sym, ap, subst, nat_eq, position, Bool, None, Some, IfOk, option_map, arith}
use Rattle.std.proofs.lemmas.Result.{on_ok_weaker, on_err_weaker}
use Rattle.std.specs.FinMap.{get}
use Rattle.std.specs.Map.{keys_of, lookup}
use Rattle.gem_image.specs.Image.{contents_of}
use Rattle.object_programs.specs.Guard.{holds_of}
use Rattle.plain_state.specs.Overlay.{contents_by_name}
use Rattle.plain_state.specs.Updates.{takes, with_update}
use Rattle.plain_state.proofs.Changes.{get_by_name, absent_by_name}
use Rattle.plain_state.proofs.EntryPlaces.{none_without_place, place_within, found_at_place, edited_at_place, same_at_place}
use Rattle.plain_state.proofs.overlay.Overlay.update.Goals as goal

pub returns-in_default-clause-taken : goal.returns-in_default-clause-taken
returns-in_default-clause-taken c =
    let none : position (nat_eq c.args.number) (keys_of c.self.inside.entries.entries) ≡ None =
    grind (arith, c.place_near.ensures, c.in_default.not-Some, c.in_default.is) in
    rw (← c.self.view_is) (sym (ap (holds_of (takes c.args.update))
    (get_by_name c.self.inside.entries.entries c.args.number
    ∙ ap (option_map contents_of) (none_without_place c.self.inside.entries.entries c.args.number none))))

pub returns-in_default-clause-updated : goal.returns-in_default-clause-updated
returns-in_default-clause-updated c =
    let none : position (nat_eq c.args.number) (keys_of c.self.inside.entries.entries) ≡ None =
    grind (arith, c.place_near.ensures, c.in_default.not-Some, c.in_default.is) in
    rw (← c.self.view_is) (sym (absent_by_name c.self.inside.entries.entries c.args.number (with_update c.args.update)
    (none_without_place c.self.inside.entries.entries c.args.number none)))

pub index_mut-requires : goal.index_mut-requires
index_mut-requires c = place_within c.self.inside.entries.entries c.args.number c.in-Some.place (sym c.in-Some.ensures)

pub returns-clause-taken : goal.returns-clause-taken
returns-clause-taken c =
    let there : lookup (nat_eq c.args.number) c.self.inside.entries.entries ≡ Some c.index_mut.result.now =
    found_at_place c.self.inside.entries.entries c.args.number c.in-Some.place (sym c.in-Some.ensures)
    c.index_mut.result.now c.index_mut.ensures.value in
    let same : holds_of (takes c.args.update) (get (contents_by_name c.self.inside.entries.entries) c.args.number)
    ≡ takes c.args.update (contents_of c.index_mut.result.now) = ap (holds_of (takes c.args.update))
    (get_by_name c.self.inside.entries.entries c.args.number ∙ ap (option_map contents_of) there) in
    rw (← c.self.view_is) (subst (λ (b : Bool). IfOk c.update.result (λ taken. taken ≡ b)) (sym same) c.update.ensures.taken)

pub returns-clause-updated : goal.returns-clause-updated
returns-clause-updated c = on_ok_weaker c.update.result (λ updated. rw (← c.self.view_is)
    (edited_at_place c.self.inside.entries.entries c.args.number c.in-Some.place (sym c.in-Some.ensures)
    c.index_mut.result.now c.update.new.self c.index_mut.ensures.value (with_update c.args.update) updated))
    c.update.ensures.updated

pub returns-clause-unchanged : goal.returns-clause-unchanged
returns-clause-unchanged c = on_err_weaker c.update.result (λ same. rw (← c.self.view_is)
    (same_at_place c.self.inside.entries.entries c.args.number c.in-Some.place (sym c.in-Some.ensures)
    c.index_mut.result.now c.update.new.self c.index_mut.ensures.value same)) c.update.ensures.unchanged
