use Rattle.std.proofs.Common.{◌≡◌, sym, get_or, length, rules, arith}
use Rattle.std.proofs.lemmas.List.{take_all, get_or_read}
use Rattle.list_stack.proofs.Cuts.{starts_cut, lists_cut, length-lists_of}
use Rattle.list_stack.proofs.stack.ListStack.truncate.Goals as goal

pub invariant_of-self : goal.invariant_of-self
invariant_of-self g c =
    let items = c.self.inside.items.items in
    let starts = c.self.inside.starts.items in
    let size : c.len.result ≡ length starts = search rules in
    let place : c.index-start.result.now ≡ get_or starts c.args.count (length items) = get_or_read starts c.args.count c.index-start.result.now (omega (arith, size, c.if-count-len.true)) c.index-start.ensures (length items) in
    rw (c.cut.ensures, c.truncate.ensures.items) (starts_cut items starts c.args.count c.index-start.result.now place c.self.invariant)

pub returns-then-count-len : goal.returns-then-count-len
returns-then-count-len g c =
    let items = c.self.inside.items.items in
    let starts = c.self.inside.starts.items in
    let size : c.len.result ≡ length starts = search rules in
    let place : c.index-start.result.now ≡ get_or starts c.args.count (length items) = get_or_read starts c.args.count c.index-start.result.now (omega (arith, size, c.if-count-len.true)) c.index-start.ensures (length items) in
    rw (c.cut.ensures, c.truncate.ensures.items, sym c.self.view_is) (lists_cut items starts c.args.count c.index-start.result.now place c.self.invariant.ascend)

pub returns-else-count-len : goal.returns-else-count-len
returns-else-count-len g c =
    let items = c.self.inside.items.items in
    let starts = c.self.inside.starts.items in
    let size : c.len.result ≡ length starts = search rules in
    rw (sym c.self.view_is) (sym (take_all c.args.count _ (omega (arith, length-lists_of (length items) items starts, size, c.if-count-len.false))))
