-- A shared Stone may be used by several threads where its keeper may go to another thread.
use denote.RattleType.{RattleType}
use denote.Param.Send.{IsSend, IsSync, sendable}
use Rattle.std.proofs.Crossing
use Rattle.std.proofs.sync.Mutex.TheSendSync as MutexSends
use Rattle.gem_keeper.specs.declared.keeper.Keeper.{Ghosts as KeeperGhosts}
use Rattle.gem_clock.proofs.clock.Clock.TheSendSync as ClockSends
use Rattle.gem_clock.proofs.clock.Pen.TheSendSync as PenSends
use Rattle.stone_core.proofs.Sent.{stone_send}
use Rattle.stone_shared.specs.declared.named.Named.{Ghosts}
use Rattle.stone_shared.specs.contracts.shared.SharedStone as SharedStone

pub shared_sync : (K N : RattleType) (k : KeeperGhosts K.Denot) (g : Ghosts N.Denot K.Denot) → IsSend K → IsSend N → IsSync N
    → IsSync (SharedStone.the_row K N k g)
shared_sync K N k g keeper send sync =
    search (stone_send, MutexSends.the_sync, ClockSends.the_sync, PenSends.the_send, Crossing.crosses, sendable) depth 60 fits 20000
