use Rattle.std.proofs.Common.{◌≡◌, ◌++◌, ◌∷◌, [], Ok, subst}
use Rattle.std.proofs.lemmas.Result.{err_from_is_err_and}
use Rattle.extent_pages.specs.Contents.{leaf_object_at, objects_after}
use Rattle.extent_pages.specs.Reads.{IsPartError}
use Rattle.extent_pages.proofs.Loops.{object_more, object_fails, objects_done}
use Rattle.extent_pages.proofs.leaf.read_objects.Goals as goal

pub returns-in_err-object : goal.returns-in_err-object
returns-in_err-object c =
    let whole = objects_after c.args.leaf c.args.count [] c.args.bytes.now in
    let p = err_from_is_err_and c.from_residual.result c.from_residual.ensures.1 in
    let failed = subst (λ before. IsPartError c.in_err-object.field-0.0 (leaf_object_at c.args.leaf before c.loop.rest.now))
    c.as_slice.ensures.value c.in_err-object.ensures in
    rw (p.1, p.2) (object_fails c.args.leaf c.loop.objects.items c.args.count c.loop.counter c.loop.rest.now whole
    c.loop.invariant c.in_err-object.field-0.0 c.loop-test.true failed)

pub returns : goal.returns
returns c = objects_done c.args.leaf c.loop.objects.items c.args.count c.loop.counter c.loop.rest.now _ c.loop.invariant c.loop-test.false

pub loop-preserved : goal.loop-preserved
loop-preserved c =
    let whole = objects_after c.args.leaf c.args.count [] c.args.bytes.now in
    let object = c.in_ok-object.object in
    let more : c.push.new.self.items ≡ c.loop.objects.items ++ object ∷ [] = c.in_ok-push.ensures.items in
    let read = subst (λ before. leaf_object_at c.args.leaf before c.loop.rest.now ≡ Ok (object, c.in_ok-object.after.now))
    c.as_slice.ensures.value c.in_ok-object.ensures in
    rw more (object_more c.args.leaf c.loop.objects.items c.args.count c.loop.counter c.loop.rest.now whole
    c.loop.invariant object c.in_ok-object.after.now c.loop-test.true read)
