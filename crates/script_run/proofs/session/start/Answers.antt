use denote.Param.Send.{sendable}
use Rattle.std.proofs.Crossing
use Rattle.std.proofs.MapsCrossing
use Rattle.gem_clock.proofs.clock.Stamp.TheSendSync as StampSends
use Rattle.shell_words.proofs.script.SessionScript.TheSendSync as ScriptSends
use Rattle.stone_shared.proofs.Sent.{shared_sync}
use Rattle.script_run.proofs.session.start.Goals as goal

pub spawn_scoped_with-requires-send-F : goal.spawn_scoped_with-requires-send-F
spawn_scoped_with-requires-send-F g c κs within =
    let k = c.type_bounds.send-K in
    let n = c.type_bounds.send-N in
    let m = c.type_bounds.sync-N in
    let r = c.type_bounds.sync-R in
    let h = c.type_bounds.sync-G in
    search (shared_sync, StampSends.the_send, ScriptSends.the_sync, Crossing.crosses, MapsCrossing.crosses, sendable) depth 60 fits 20000
