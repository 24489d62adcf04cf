use Rattle.std.proofs.Common.{[], ◌∷◌, ◌++◌}
use Rattle.gem_disk.specs.declared.disk.Which.TheVariants.{Log}
use Rattle.gem_disk.specs.Disk.{reads}
use Rattle.tran_log.specs.Log.{logged_as}
use Rattle.store_tests.proofs.Twice.{second_next, two_found}
use Rattle.store_tests.proofs.again.add_two.Goals as goal

pub add-requires-2 : goal.add-requires-2
add-requires-2 g c tells =
    let mode = c.args.mode in
    let held = c.in_ok-opened.opened.1.items in
    let end = c.in_ok-opened.opened.0 in
    let are = c.requires tells held (c.in_ok-opened.ensures.records tells) in
    let rest = c.in_ok-add.ensures.added tells held (c.in_ok-opened.ensures.at_rest tells) are.0 in
    (held ++ logged_as end mode c.args.one.now ∷ [], rest, second_next held end mode c.args.one.now c.args.two.now are)

pub returns : goal.returns
returns g c tells logged given =
    let mode = c.args.mode in
    let one = c.args.one.now in
    let two = c.args.two.now in
    let held = c.in_ok-opened.opened.1.items in
    let end = c.in_ok-opened.opened.0 in
    let next = c.add.new.log in
    let read = c.in_ok-opened.ensures.records tells in
    let are = c.requires tells held read in
    let first = c.in_ok-add.ensures.added tells held (c.in_ok-opened.ensures.at_rest tells) are.0 in
    let rest = c.in_ok-add-2.ensures.added tells (held ++ logged_as end mode one ∷ []) first
    (second_next held end mode one two are) in (
      end,
      next,
      two_found (g.D.Disk.past c.add-2.new.disk) (reads (g.D.Disk.past c.args.disk.now) Log) logged held
          c.in_ok-found.found.1.items (logged_as end mode one) (logged_as next mode two) c.add-2.new.log given read rest
          (c.in_ok-found.ensures.records tells),
    )
