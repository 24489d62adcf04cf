use Rattle.std.proofs.Common.{[], ◌∷◌, subst, sym}
use Rattle.tran_log.specs.Log.{AreBodies}
use Rattle.store_tests.proofs.Twice.{may_chain}
use Rattle.store_tests.proofs.again.add_chain.Goals as goal

pub append_chain-requires-clause-bodies : goal.append_chain-requires-clause-bodies
append_chain-requires-clause-bodies g c tells =
    let mode = c.args.mode in
    let one = c.args.one.now in
    let two = c.args.two.now in
    let given = c.requires tells in
    let are = subst (AreBodies ((mode, one) ∷ (mode, two) ∷ [])) (sym c.deref.ensures.value) c.in_ok-chain.ensures in (
      given.0,
      (mode, one) ∷ (mode, two) ∷ [],
      may_chain (g.D.Disk.past c.args.disk.now) c.args.log.now c.deref.result.now
          given.0 mode one two given.1 given.2 are,
    )

pub returns : goal.returns
returns g c tells logged rest next =
    let mode = c.args.mode in
    let one = c.args.one.now in
    let two = c.args.two.now in
    let are = subst (AreBodies ((mode, one) ∷ (mode, two) ∷ [])) (sym c.deref.ensures.value) c.in_ok-chain.ensures in
    c.in_ok-append_chain.ensures.acknowledged logged ((mode, one) ∷ (mode, two) ∷ []) tells
    (may_chain (g.D.Disk.past c.args.disk.now) c.args.log.now c.deref.result.now logged mode one two rest next are)
