use Rattle.std.proofs.Common.{◌≡◌, ◌++◌, ◌∷◌, [], Ok, Err, subst}
use Rattle.std.proofs.lemmas.Result.{err_from_is_err_and}
use Rattle.body_codec.specs.Reading.{items_after}
use Rattle.extent_pages.specs.Contents.{entry_at}
use Rattle.extent_pages.proofs.Loops.{entry_more, entry_fails, entries_done}
use Rattle.extent_pages.proofs.directory.read_entries.Goals as goal

pub returns-in_err-entry : goal.returns-in_err-entry
returns-in_err-entry c =
    let whole = items_after entry_at c.args.count [] c.args.bytes.now in
    let p = err_from_is_err_and c.from_residual.result c.from_residual.ensures.1 in
    let failed = subst (λ before. entry_at before c.loop.rest.now ≡ Err c.in_err-entry.field-0.0)
    c.as_slice.ensures.value c.in_err-entry.ensures in
    rw (p.1, p.2) (entry_fails c.loop.entries.items c.args.count c.loop.counter c.loop.rest.now whole
    c.loop.invariant c.in_err-entry.field-0.0 c.loop-test.true failed)

pub returns : goal.returns
returns c = entries_done c.loop.entries.items c.args.count c.loop.counter c.loop.rest.now _ c.loop.invariant c.loop-test.false

pub loop-preserved : goal.loop-preserved
loop-preserved c =
    let whole = items_after entry_at c.args.count [] c.args.bytes.now in
    let entry = c.in_ok-entry.entry in
    let more : c.push.new.self.items ≡ c.loop.entries.items ++ entry ∷ [] = c.in_ok-push.ensures.items in
    let read = subst (λ before. entry_at before c.loop.rest.now ≡ Ok (entry, c.in_ok-entry.after.now))
    c.as_slice.ensures.value c.in_ok-entry.ensures in
    rw more (entry_more c.loop.entries.items c.args.count c.loop.counter c.loop.rest.now whole
    c.loop.invariant entry c.in_ok-entry.after.now c.loop-test.true read)
