use Rattle.std.proofs.Common.{◌≡◌, ◌∙◌, ◌∷◌, ◌++◌, List, sym, ap, subst, length, length-append, ℕ, arith}
use Rattle.std.specs.Vec.{vec_capacity}
use Rattle.gem_meaning.specs.Events.{Event}
use Rattle.script_run.specs.declared.session.SessionEnd.{SessionEnd}
use Rattle.script_run.specs.Workers.{HasEndedAt, HasToldAt, told_all}
use Rattle.script_run.proofs.Filling.{Filling, filling_more, each_at, item_there}
use Rattle.script_run.proofs.Telling.{all_told}
use Rattle.script_run.proofs.together.gather.Goals as goal

pub tell-requires : goal.tell-requires
tell-requires g c =
    let l = c.loop-end in
    let rest = c.next.new.self.rest.items in
    let sessions = c.args.sessions.now in
    let steps : l.yielded ++ (c.in-Some.end ∷ rest) ≡ c.args.ended.items =
    subst (λ (left : List SessionEnd). l.yielded ++ left ≡ c.args.ended.items) c.in-Some.ensures.steps.0 l.invariant.filling.steps in
    let ended = each_at (HasEndedAt g.N.Named.clock g.N.Named.opened sessions) c.args.ended.items l.yielded c.in-Some.end rest c.requires.ended steps in
    let count = c.requires.count in
    let there = item_there sessions (length l.yielded) (omega (arith, ap length steps, length-append l.yielded (c.in-Some.end ∷ rest), count)) in
    (ended there.0 there.1).clock_is

pub loop-end-preserved : goal.loop-end-preserved
loop-end-preserved g c =
    let o = g.N.Named.opened in
    let l = c.loop-end in
    let rest = c.next.new.self.rest.items in
    let sessions = c.args.sessions.now in
    let IsTold = HasToldAt (told_all o c.args.settled.now) sessions in
    let so : Filling IsTold c.args.ended.items l.yielded (c.in-Some.end ∷ rest) l.transcripts.items (vec_capacity l.transcripts) =
    subst (λ (left : List SessionEnd). Filling IsTold c.args.ended.items l.yielded left l.transcripts.items (vec_capacity l.transcripts))
    c.in-Some.ensures.steps.0 l.invariant.filling in
    let ended : HasEndedAt g.N.Named.clock o sessions (length l.transcripts.items) c.in-Some.end =
    subst (λ (n : ℕ). HasEndedAt g.N.Named.clock o sessions n c.in-Some.end) (sym so.counted)
    (each_at (HasEndedAt g.N.Named.clock o sessions) c.args.ended.items l.yielded c.in-Some.end rest c.requires.ended so.steps) in
    let told : HasToldAt (told_all o c.args.settled.now) sessions (length l.transcripts.items) c.in_ok-transcript.transcript =
    subst (λ (all : List Event). HasToldAt (told_all o all) sessions (length l.transcripts.items) c.in_ok-transcript.transcript) l.invariant.same
    (c.in_ok-transcript.ensures.told (length l.transcripts.items) sessions ended) in
    record {
      same = c.tell.ensures.same ∙ l.invariant.same;
      filling = rw c.in-Ok.ensures.items
          (filling_more IsTold c.args.ended.items l.yielded c.in-Some.end rest l.transcripts.items c.in_ok-transcript.transcript
          (vec_capacity l.transcripts) (vec_capacity c.push.new.self) c.in-Ok.ensures.capacity so told);
    }

pub returns-clause-told : goal.returns-clause-told
returns-clause-told g c =
    let l = c.loop-end in
    let filled = l.invariant.filling in
    let rest = l.end-iterator.rest in
    let counted = filled.counted in
    let count = c.requires.count in
    all_told (told_all g.N.Named.opened c.args.settled.now) c.args.sessions.now l.transcripts.items
    (omega (arith, counted, count, ap length filled.steps, length-append l.yielded rest.items, rest.ok, c.in-None.ensures.steps.0))
    filled.each
