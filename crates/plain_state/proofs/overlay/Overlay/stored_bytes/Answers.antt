use Rattle.std.proofs.Common.{◌≡◌, ◌∙◌, sym, ap, nat_eq, position, Some, None, option_map}
use Rattle.std.specs.Map.{keys_of, lookup}
use Rattle.gem_image.specs.Image.{contents_of}
use Rattle.running_objects.specs.Acted.{stored_bytes}
use Rattle.plain_state.proofs.Changes.{get_by_name}
use Rattle.plain_state.proofs.EntryPlaces.{none_without_place, place_within, found_at_place}
use Rattle.plain_state.proofs.overlay.Overlay.stored_bytes.Goals as goal

pub returns-in_err-place : goal.returns-in_err-place
returns-in_err-place c =
    let none : position (nat_eq c.args.number) (keys_of c.self.inside.entries.entries) ≡ None =
    sym c.in_err-place.ensures in
    rw (← c.self.view_is) (c.from_residual.ensures
    ∙ sym (ap (option_map stored_bytes) (get_by_name c.self.inside.entries.entries c.args.number
    ∙ ap (option_map contents_of) (none_without_place c.self.inside.entries.entries c.args.number none))))

pub index-requires : goal.index-requires
index-requires c =
    place_within c.self.inside.entries.entries c.args.number c.in_ok-place.place (sym c.in_ok-place.ensures)

pub returns : goal.returns
returns c =
    let there : lookup (nat_eq c.args.number) c.self.inside.entries.entries ≡ Some c.index.result.now =
    found_at_place c.self.inside.entries.entries c.args.number c.in_ok-place.place (sym c.in_ok-place.ensures)
    c.index.result.now c.index.ensures in
    rw (← c.self.view_is) (ap Some c.stored_bytes.ensures
    ∙ sym (ap (option_map stored_bytes) (get_by_name c.self.inside.entries.entries c.args.number ∙ ap (option_map contents_of) there)))
