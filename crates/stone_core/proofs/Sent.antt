-- A Stone may go to another thread where its keeper may: it has no fields but images, counts, a shared
-- script, locks, copies of what happened, and its keeper with a snapshot of it.
use denote.RattleType.{RattleType}
use denote.Struct.Declared.{shape}
use denote.Param.Send.{IsSend, sendable, struct_send, recorded_send, view_send}
use Rattle.std.proofs.Crossing.{crosses}
use Rattle.radix_pages.proofs.node.Node.TheLaws.TheKnot as knot
use Rattle.gem_object.proofs.object.Object.TheSendSync as object
use Rattle.gem_image.specs.contracts.image.Image as image
use Rattle.gem_record.proofs.record.Entry.TheSendSync as entry
use Rattle.gem_meaning.proofs.event.What.TheSendSync as what
use Rattle.lock_table.proofs.locks.Locks.TheSendSync as locks
use Rattle.shell_words.proofs.script.Script.TheSendSync as script
use Rattle.gem_keeper.specs.declared.keeper.Keeper.{Ghosts}
use Rattle.stone_core.specs.contracts.stone.Stone.{the_row}
use Rattle.stone_core.specs.contracts.stone.Stone.TheInside as inside

-- an image's nodes are shared by counted pointers
pub image_send : IsSend image.the_row
image_send = search (object.the_send, object.the_sync, crosses, knot.crosses, sendable) depth 60 fits 20000

-- the fields, in their order
inside_send : (K : RattleType) (g : Ghosts K.Denot) → IsSend K → IsSend (inside.the_row K g)
inside_send K g keeper =
    recorded_send (inside.the_field K g).row _ _ (inside.the_type K g).to_one (struct_send (shape (inside.the_type K g)) (
      image_send,
      (
        search sendable,
        (
          search (crosses, script.the_send, script.the_sync, sendable),
          (
            image_send,
            (
              search sendable,
              (
                locks.the_send,
                (
                  search (crosses, entry.the_send, sendable),
                  (
                    search (crosses, what.the_send, sendable) depth 20,
                    (
                      search sendable,
                      (
                        search (crosses, sendable),
                        (keeper, tt),
                      ),
                    ),
                  ),
                ),
              ),
            ),
          ),
        ),
      ),
    ))

pub stone_send : (K : RattleType) (g : Ghosts K.Denot) → IsSend K → IsSend (the_row K g)
stone_send K g keeper = view_send _ _ _ _ _ (inside_send K g keeper)
