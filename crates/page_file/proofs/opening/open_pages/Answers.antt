use Rattle.std.proofs.Common.{List, refl, sym, ap, subst, ◌∙◌}
use Rattle.gem_disk.specs.declared.disk.Which.TheVariants.{Extent as OfExtent}
use Rattle.gem_disk.specs.Disk.{Past, reads}
use Rattle.extent_pages.specs.Extent.{Leaf, Extent, selected}
use Rattle.page_file.specs.Opening.{AreTaken}
use Rattle.page_file.proofs.Opened.{found_some, stored_of, some_found}
use Rattle.page_file.proofs.Unchanged.{taken_unchanged}
use Rattle.page_file.proofs.opening.open_pages.Goals as goal

pub take_leaves-requires : goal.take_leaves-requires
take_leaves-requires g c =
    (stored_of c.in_ok-extent.field-0 c.in-Some.extent c.extent.inside.leaves.items c.in-Some.is
    (ap (λ (e : Extent). e.leaves) c.extent.view_is) c.in_ok-extent.ensures.stored).1

pub returns-clause-opens : goal.returns-clause-opens
returns-clause-opens g c tells =
    let old = g.D.Disk.past c.args.disk.now in
    let new = g.D.Disk.past c.read_selected.new.disk in
    let same = c.in_ok-page.ensures.past tells in
    let leaves_are = ap (λ (e : Extent). e.leaves) c.extent.view_is in
    some_found old new (same ∙ c.in_ok-extent.ensures.past tells) c.in-Some.extent
    (found_some old c.in_ok-extent.field-0 c.in-Some.extent (c.in_ok-extent.ensures.extent tells) c.in-Some.is)
    (stored_of c.in_ok-extent.field-0 c.in-Some.extent c.extent.inside.leaves.items c.in-Some.is leaves_are c.in_ok-extent.ensures.stored).0
    _ _ c.in_ok-image.image c.extent.inside.number c.in_ok-image.leaves.items refl
    (subst (λ (l : List Leaf). AreTaken l c.in_ok-image.image c.in_ok-image.leaves.items) leaves_are c.in_ok-image.ensures)
    (c.in_ok-page.ensures.page tells ∙ sym (ap (λ (p : Past). selected (reads p OfExtent)) same))
    refl (ap (λ (e : Extent). e.directory) c.extent.view_is) refl (ap (λ (e : Extent). e.number) c.extent.view_is)

pub returns-clause-unchanged : goal.returns-clause-unchanged
returns-clause-unchanged g c =
    taken_unchanged c.extent.inside.leaves.items c.in_ok-image.image c.in_ok-image.leaves.items
    (stored_of c.in_ok-extent.field-0 c.in-Some.extent c.extent.inside.leaves.items c.in-Some.is
    (ap (λ (e : Extent). e.leaves) c.extent.view_is) c.in_ok-extent.ensures.stored).1
    c.in_ok-image.ensures
