use Rattle.std.proofs.Common.{sym, ap, ◌∙◌}
use Rattle.std.proofs.lemmas.Bool.{false≢true}
use Rattle.stone_core.specs.Kept.{Kept}
use Rattle.stone_tests.proofs.Ready.{can_serve, first_ready}
use Rattle.stone_tests.proofs.setting.opened.Goals as goal

pub start-requires : goal.start-requires
start-requires g c = record {
  serves = can_serve _ _ c.in_ok-image.image c.args.number c.in_ok-script.script.value
      (record { spelled = c.invariant.ensures.spelled; named = c.invariant.ensures.named }) c.in_ok-check_sound.ensures
      c.requires.number c.in_ok-image.ensures.changed (sym c.largest_serial.ensures.serial ∙ c.if-largest_serial-ne-SERIAL.false)
      c.in_ok-script.ensures;
  ready = c.requires.ready;
  stands = λ told. absurd (false≢true (sym c.requires.silent ∙ told));
}

pub returns-in-Ok : goal.returns-in-Ok
returns-in-Ok g c = first_ready c.in-Ok.stone.told (g.K.Keeper.stored c.args.keeper) g.K.Keeper.counts_pages
    c.in_ok-image.image c.args.number c.in_ok-script.script.value
    (ap (λ (k : Kept _). k.told) c.in-Ok.ensures.stone)
    c.in_ok-script.ensures c.in_ok-image.ensures.boxes
