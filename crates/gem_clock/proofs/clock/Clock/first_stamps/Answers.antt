use Rattle.std.proofs.Common.{◌≡◌, ◌+◌, List, ap, ◌∙◌, arith}
use Rattle.gem_clock.specs.Shown.{PenView, first_stamp}
use Rattle.gem_clock.proofs.Firsts.{next_held, next_given, more_first}
use Rattle.gem_clock.proofs.clock.Clock.first_stamps.Goals as goal

pub stamp-requires-clause-held : goal.stamp-requires-clause-held
stamp-requires-clause-held g c = next_held c.loop-index.index c.args.authors c.loop-index.pen.held c.loop-index.invariant.held (omega arith)

pub loop-index-preserved : goal.loop-index-preserved
loop-index-preserved g c =
    let old = c.loop-index.invariant in
    let pen = c.stamp.ensures.pen in
    let stamp : c.stamp.result ≡ first_stamp {E = g.row.E.Denot} c.args.self.now (c.loop-index.index + 1) =
    c.stamp.ensures.stamp ∙ ap (λ (xs : List _). record { clock = c.args.self.now; author = c.loop-index.index + 1; list = xs }) old.list in record {
      clock = ap (λ (p : PenView g.row.E.Denot). p.clock) pen ∙ old.clock;
      held = ap (λ (p : PenView g.row.E.Denot). p.held) pen ∙ next_given c.loop-index.index c.args.authors c.loop-index.pen.held old.held (omega arith);
      list = ap (λ (p : PenView g.row.E.Denot). p.list) pen ∙ old.list;
      stamps = rw c.in_ok-push.ensures.items
          (more_first c.args.self.now c.loop-index.index c.loop-index.stamps.items c.stamp.result stamp old.stamps);
    }
