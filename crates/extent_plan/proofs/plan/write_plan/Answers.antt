use Rattle.std.proofs.Common.{List, ap, ◌∙◌, refl}
use Rattle.extent_pages.specs.Spelled.{spelled_directory}
use Rattle.extent_plan.specs.declared.place.LeafPlace.{LeafPlace}
use Rattle.extent_plan.specs.Totals.{entries_at}
use Rattle.extent_plan.proofs.Assembling.{directory_fills, written_is}
use Rattle.extent_plan.proofs.plan.write_plan.Goals as goal

pub put_chain-requires : goal.put_chain-requires
put_chain-requires c = directory_fills c.args.directory.now c.args.laid.0.items c.deref-3.result.now
    (c.deref-3.ensures.value ∙ c.in_ok-payload.ensures ∙ ap (λ (l : List LeafPlace). spelled_directory (entries_at l)) c.deref.ensures.value)
    c.requires

pub returns : goal.returns
returns c = record {
  directory_is = c.in_ok-to_vec.ensures.items_if_clones_equal (λ x y e. e);
  leaves_are = refl;
  pieces_are = written_is c.args.number c.args.page c.args.directory.now c.args.laid.0.items c.deref-2.result.now c.args.laid.1.items
      c.args.around.0.items c.args.around.1.items c.deref-3.result.now c.root_with-root.result c.in_ok-piece_of_root.field-0 _ _ _ _
      c.deref-2.ensures.value c.root_with-root.ensures.number c.root_with-root.ensures.serial c.root_with-root.ensures.objects
      c.root_with-root.ensures.directory c.root_with-root.ensures.pages c.in_ok-piece_of_root.ensures
      (c.deref-3.ensures.value ∙ c.in_ok-payload.ensures ∙ ap (λ (l : List LeafPlace). spelled_directory (entries_at l)) c.deref.ensures.value)
      c.in_ok-push.ensures.items c.in_ok-append.ensures.items c.in_ok-put_chain.ensures c.in_ok-append-2.ensures.items;
}
