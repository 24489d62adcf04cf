use Rattle.std.proofs.Common.{◌≡◌, ◌∙◌, sym, ap, nat_eq, Some, None, option_map}
use Rattle.std.specs.Map.{lookup}
use Rattle.gem_object.specs.declared.object.Object.{Object}
use Rattle.gem_image.specs.Image.{contents_of}
use Rattle.plain_state.proofs.Changes.{get_by_name}
use Rattle.plain_state.proofs.overlay.Overlay.look.Goals as goal

pub returns-in_err-get : goal.returns-in_err-get
returns-in_err-get c =
    let absent : lookup (nat_eq c.args.number) c.self.inside.entries.entries ≡ None = sym c.in_err-get.ensures.value in
    rw (← c.self.view_is, c.from_residual.ensures)
    (sym (get_by_name c.self.inside.entries.entries c.args.number ∙ ap (option_map contents_of) absent))

pub returns : goal.returns
returns c =
    let there : lookup (nat_eq c.args.number) c.self.inside.entries.entries ≡ Some c.in_ok-get.field-0.now = sym c.in_ok-get.ensures.value in
    rw (← c.self.view_is) (ap (λ (object : Object). Some (contents_of object)) c.object.ensures
    ∙ sym (get_by_name c.self.inside.entries.entries c.args.number ∙ ap (option_map contents_of) there))
