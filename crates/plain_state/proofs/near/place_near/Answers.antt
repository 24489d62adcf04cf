use Rattle.std.proofs.Common.{◌≡◌, ◌∙◌, sym, ap, subst, ℕ, Some, List, slice_get}
use Rattle.gem_object.specs.declared.object.Object.{Object}
use Rattle.plain_state.proofs.EntryPlaces.{place_is}
use Rattle.plain_state.proofs.near.place_near.Goals as goal

pub returns-then-key-number : goal.returns-then-key-number
returns-then-key-number c =
    let entries = c.args.entries.now.entries in
    let object = c.in-Some.field-0-1.now in
    let there : slice_get entries c.args.at ≡ Some (c.in-Some.key.now, object) =
    ap (λ (es : List (ℕ × Object)). slice_get es c.args.at) (sym c.as_slice-slice.ensures.entries)
    ∙ sym c.in-Some.ensures.entry in
    sym (place_is entries c.args.at c.args.number object c.as_slice-slice.ensures.unique
    (subst (λ (key : ℕ). slice_get entries c.args.at ≡ Some (key, object)) c.if-key-number.true there))
