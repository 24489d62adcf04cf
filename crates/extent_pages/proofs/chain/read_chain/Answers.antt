use Rattle.std.proofs.Common.{◌≡◌, ◌++◌, ℕ, List, suc, ◌-◌, ◌+◌, ◌<◌, IsTrue, refl, ap, ◌∙◌, arith}
use Rattle.std.proofs.lemmas.Result.{err_from_is_err_and}
use Rattle.extent_pages.specs.Pages.{most_pages, next_in, payload_in}
use Rattle.extent_pages.proofs.Filled.{is_used, more_full, all_filled}
use Rattle.extent_pages.proofs.Chains.{runs_first, runs_breaks, runs_end, runs_marked, runs_more, runs_over}
use Rattle.extent_pages.proofs.chain.read_chain.Goals as goal

pub loop-init : goal.loop-init
loop-init g c =
    let past = g.D.Disk.past c.args.disk.now in
    let faults = g.D.Disk.faults c.args.disk.now in
    rw (c.new-pages.ensures.items, c.new-payload.ensures.items) (
      refl,
      runs_first (IsTrue g.D.Disk.tells) past past faults faults c.args.marks.now.items c.args.first 262144 refl
          (λ tell. refl) refl c.requires.marks,
    )

pub returns-in_err-bytes-clause-chain : goal.returns-in_err-bytes-clause-chain
returns-in_err-bytes-clause-chain g c taken tell marked =
    let p = err_from_is_err_and c.from_residual.result c.from_residual.ensures.1 in
    let one : most_pages - c.loop.counter ≡ suc (most_pages - (c.loop.counter + 1)) = omega (arith, c.loop-test.true) in
    rw (p.1, p.2) (runs_breaks (IsTrue g.D.Disk.tells) (g.D.Disk.past c.args.disk.now) (g.D.Disk.past c.loop.disk)
    (g.D.Disk.faults c.args.disk.now) (g.D.Disk.faults c.loop.disk) c.args.marks.now.items c.loop.marks.items c.args.first
    c.loop.pages.items c.loop.payload.items c.loop.page (most_pages - c.loop.counter) (most_pages - (c.loop.counter + 1)) one
    c.loop.invariant.1 c.in_err-bytes.field-0.0 c.in_err-bytes.ensures.page taken tell marked)

pub returns-then-next-eq0-clause-chain : goal.returns-then-next-eq0-clause-chain
returns-then-next-eq0-clause-chain g c taken tell marked =
    let one : most_pages - c.loop.counter ≡ suc (most_pages - (c.loop.counter + 1)) = omega (arith, c.loop-test.true) in
    let bytes = c.in_ok-bytes.bytes.items in
    let payload_is : c.extend_from_slice.new.self.items ≡ c.loop.payload.items ++ payload_in bytes =
    c.in_ok-extend_from_slice.ensures.items
    ∙ ap (λ (l : List ℕ). c.loop.payload.items ++ l) (c.payload_in.ensures ∙ ap payload_in c.deref.ensures.value) in
    runs_end (IsTrue g.D.Disk.tells) (g.D.Disk.past c.args.disk.now) (g.D.Disk.past c.loop.disk)
    (g.D.Disk.faults c.args.disk.now) (g.D.Disk.faults c.loop.disk) c.args.marks.now.items c.loop.marks.items c.args.first
    c.loop.pages.items c.loop.payload.items c.loop.page (most_pages - c.loop.counter) (most_pages - (c.loop.counter + 1)) one
    c.loop.invariant.1 bytes c.enter_page.new.marks.items c.next_in-next.result
    (c.next_in-next.ensures ∙ ap next_in c.deref-in-loop.ensures.value)
    c.in_ok-bytes.ensures.page c.in_ok-bytes.ensures.marked c.push.new.self.items c.extend_from_slice.new.self.items
    c.in_ok-push.ensures.items payload_is c.if-next-eq0.true taken tell marked

pub returns-then-next-eq0-clause-marked : goal.returns-then-next-eq0-clause-marked
returns-then-next-eq0-clause-marked g c taken tell marked =
    let one : most_pages - c.loop.counter ≡ suc (most_pages - (c.loop.counter + 1)) = omega (arith, c.loop-test.true) in
    let bytes = c.in_ok-bytes.bytes.items in
    let payload_is : c.extend_from_slice.new.self.items ≡ c.loop.payload.items ++ payload_in bytes =
    c.in_ok-extend_from_slice.ensures.items
    ∙ ap (λ (l : List ℕ). c.loop.payload.items ++ l) (c.payload_in.ensures ∙ ap payload_in c.deref.ensures.value) in
    runs_marked (IsTrue g.D.Disk.tells) (g.D.Disk.past c.args.disk.now) (g.D.Disk.past c.loop.disk)
    (g.D.Disk.faults c.args.disk.now) (g.D.Disk.faults c.loop.disk) c.args.marks.now.items c.loop.marks.items c.args.first
    c.loop.pages.items c.loop.payload.items c.loop.page (most_pages - c.loop.counter) (most_pages - (c.loop.counter + 1)) one
    c.loop.invariant.1 bytes c.enter_page.new.marks.items c.next_in-next.result
    (c.next_in-next.ensures ∙ ap next_in c.deref-in-loop.ensures.value)
    c.in_ok-bytes.ensures.page c.in_ok-bytes.ensures.marked c.push.new.self.items c.extend_from_slice.new.self.items
    c.in_ok-push.ensures.items payload_is taken tell marked

pub loop-preserved : goal.loop-preserved
loop-preserved g c =
    let one : most_pages - c.loop.counter ≡ suc (most_pages - (c.loop.counter + 1)) = omega (arith, c.loop-test.true) in
    let bytes = c.in_ok-bytes.bytes.items in
    let payload_is : c.extend_from_slice.new.self.items ≡ c.loop.payload.items ++ payload_in bytes =
    c.in_ok-extend_from_slice.ensures.items
    ∙ ap (λ (l : List ℕ). c.loop.payload.items ++ l) (c.payload_in.ensures ∙ ap payload_in c.deref.ensures.value) in
    let used = is_used bytes c.in_ok-bytes.ensures.size c.in_ok-bytes.ensures.filled in
    let next_is : c.next_in-next.result ≡ next_in bytes = c.next_in-next.ensures ∙ ap next_in c.deref-in-loop.ensures.value in
    let more : 0 < next_in bytes = omega (arith, next_is, c.if-next-eq0.false) in (
      rw (c.in_ok-push.ensures.items, payload_is) (more_full c.loop.pages.items c.loop.payload.items bytes c.loop.page c.loop.invariant.0 used more),
      runs_more (IsTrue g.D.Disk.tells) (g.D.Disk.past c.args.disk.now) (g.D.Disk.past c.loop.disk)
          (g.D.Disk.faults c.args.disk.now) (g.D.Disk.faults c.loop.disk) c.args.marks.now.items c.loop.marks.items c.args.first
          c.loop.pages.items c.loop.payload.items c.loop.page (most_pages - c.loop.counter) (most_pages - (c.loop.counter + 1)) one
          c.loop.invariant.1 bytes c.enter_page.new.marks.items c.next_in-next.result
          (c.next_in-next.ensures ∙ ap next_in c.deref-in-loop.ensures.value)
          c.in_ok-bytes.ensures.page c.in_ok-bytes.ensures.marked c.push.new.self.items c.extend_from_slice.new.self.items
          c.in_ok-push.ensures.items payload_is c.if-next-eq0.false
          (g.D.Disk.past c.enter_page.new.disk) (g.D.Disk.faults c.enter_page.new.disk)
          c.in_ok-bytes.ensures.past c.in_ok-bytes.ensures.quiet c.in_ok-bytes.ensures.marks,
    )

pub returns-then-next-eq0-clause-filled : goal.returns-then-next-eq0-clause-filled
returns-then-next-eq0-clause-filled g c =
    let bytes = c.in_ok-bytes.bytes.items in
    let payload_is : c.extend_from_slice.new.self.items ≡ c.loop.payload.items ++ payload_in bytes =
    c.in_ok-extend_from_slice.ensures.items
    ∙ ap (λ (l : List ℕ). c.loop.payload.items ++ l) (c.payload_in.ensures ∙ ap payload_in c.deref.ensures.value) in
    rw (c.in_ok-push.ensures.items, payload_is)
    (all_filled c.loop.pages.items c.loop.payload.items bytes c.loop.page c.loop.invariant.0 (is_used bytes c.in_ok-bytes.ensures.size c.in_ok-bytes.ensures.filled))

pub returns-clause-chain : goal.returns-clause-chain
returns-clause-chain g c taken tell marked =
    let none : most_pages - c.loop.counter ≡ 0 = omega (arith, c.loop-test.false) in (
      c.loop.page,
      omega arith,
      runs_over (IsTrue g.D.Disk.tells) (g.D.Disk.past c.args.disk.now) (g.D.Disk.past c.loop.disk)
          (g.D.Disk.faults c.args.disk.now) (g.D.Disk.faults c.loop.disk) c.args.marks.now.items c.loop.marks.items c.args.first
          c.loop.pages.items c.loop.payload.items c.loop.page (most_pages - c.loop.counter) none c.loop.invariant.1 taken tell marked,
    )
