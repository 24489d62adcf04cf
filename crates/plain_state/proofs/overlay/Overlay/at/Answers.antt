use Rattle.std.proofs.Common.{◌≡◌, ◌∙◌, sym, ap, subst, nat_eq, ℕ, Some, option_map}
use Rattle.std.specs.Map.{lookup}
use Rattle.gem_object.specs.declared.object.Object.{Object}
use Rattle.gem_image.specs.Image.{contents_of}
use Rattle.plain_state.proofs.Changes.{get_by_name}
use Rattle.plain_state.proofs.overlay.Overlay.at.Goals as goal

pub returns-then-key-number : goal.returns-then-key-number
returns-then-key-number c =
    let there : lookup (nat_eq c.args.number) c.self.inside.entries.entries ≡ Some c.in_ok-key.entry.now =
    subst (λ (k : ℕ). lookup (nat_eq k) c.self.inside.entries.entries ≡ Some c.in_ok-key.entry.now)
    c.if-key-number.true c.in_ok-key.ensures.value in
    rw (← c.self.view_is) (get_by_name c.self.inside.entries.entries c.args.number ∙ ap (option_map contents_of) there
    ∙ ap (λ (object : Object). Some (contents_of object)) (sym c.object.ensures))
