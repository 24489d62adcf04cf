use Rattle.std.proofs.Common.{◌≡◌, ◌∷◌, ◌++◌, [], List, ℕ, sym, ap, ◌∙◌, arith}
use Rattle.gem_object.specs.declared.object.Object.{Object}
use Rattle.page_file.specs.Opening.{objects_put}
use Rattle.page_file.proofs.Taking.{put_last, front_spelled}
use Rattle.page_file.proofs.opening.put_objects.Goals as goal

pub loop-entry-preserved : goal.loop-entry-preserved
loop-entry-preserved g c =
    let was : c.loop-entry.objects.items ≡ c.pop.new.self.items ++ c.in-Some.entry ∷ [] = grind arith in (
      ap (objects_put c.pop.new.self.items) c.in_ok-insert.ensures.ok
          ∙ sym (put_last c.pop.new.self.items c.in-Some.entry c.loop-entry.image)
          ∙ ap (λ (l : List (ℕ × Object)). objects_put l c.loop-entry.image) (sym was)
          ∙ c.loop-entry.invariant.0,
      front_spelled c.loop-entry.objects.items c.pop.new.self.items c.in-Some.entry was c.loop-entry.invariant.1,
    )
