use Rattle.std.proofs.Common.{◌≡◌, ◌++◌, ◌∷◌, [], Ok, subst}
use Rattle.std.proofs.lemmas.Result.{err_from_is_err_and}
use Rattle.body_codec.specs.Reading.{Fails, items_after}
use Rattle.body_codec.proofs.Loop.{goes_on, ends, is_done}
use Rattle.body_codec.proofs.read_items.read_items.Goals as goal

pub returns-in_err-item : goal.returns-in_err-item
returns-in_err-item g c =
    let item_at = g.R.ItemReader.item_at c.args.reader.now in
    let whole = items_after item_at c.args.count [] c.args.bytes.now in
    let p = err_from_is_err_and c.from_residual.result c.from_residual.ensures.1 in
    let failed = subst (λ before. Fails c.in_err-item.field-0.0 (item_at before c.loop.rest.now))
    c.as_slice.ensures.value c.in_err-item.ensures in
    rw (p.1, p.2) (ends item_at c.loop.items.items c.args.count c.loop.counter c.loop.rest.now whole
    c.loop.invariant c.in_err-item.field-0.0 c.loop-test.true failed)

pub returns : goal.returns
returns g c = is_done (g.R.ItemReader.item_at c.args.reader.now) c.loop.items.items c.args.count
    c.loop.counter c.loop.rest.now _ c.loop.invariant c.loop-test.false

pub loop-preserved : goal.loop-preserved
loop-preserved g c =
    let item_at = g.R.ItemReader.item_at c.args.reader.now in
    let whole = items_after item_at c.args.count [] c.args.bytes.now in
    let item = c.in_ok-item.item in
    let more : c.push.new.self.items ≡ c.loop.items.items ++ item ∷ [] = c.in_ok-push.ensures.items in
    let read = subst (λ before. item_at before c.loop.rest.now ≡ Ok (item, c.in_ok-item.after.now))
    c.as_slice.ensures.value c.in_ok-item.ensures in
    rw more (goes_on item_at c.loop.items.items c.args.count c.loop.counter c.loop.rest.now whole
    c.loop.invariant item c.in_ok-item.after.now c.loop-test.true read)
