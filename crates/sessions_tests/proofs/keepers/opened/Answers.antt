use Rattle.std.proofs.Common.{◌≡◌, ◌∙◌, sym, ap, subst}
use Rattle.std.proofs.lemmas.Bool.{false≢true}
use Rattle.gem_meaning.specs.Opened.{Opened, base_serial}
use Rattle.gem_meaning.specs.Serial.{CanServe}
use Rattle.stone_core.specs.Kept.{Kept}
use Rattle.gem_server.proofs.Kernel.{can_serve}
use Rattle.sessions_tests.proofs.Beside.{kernel_base}
use Rattle.sessions_tests.proofs.keepers.opened.Goals as goal

pub start-requires : goal.start-requires
start-requires g c = record {
  serves = can_serve c.in_ok-image.image c.args.script.value _ _ c.in_ok-image.ensures.image
      (record { named = c.invariant.ensures.named; spelled = c.invariant.ensures.spelled }) c.requires.limit;
  ready = c.requires.ready;
  stands = λ told. absurd (false≢true (sym c.requires.silent ∙ told));
}

pub returns-clause-serves : goal.returns-clause-serves
returns-clause-serves g c = subst CanServe (sym (ap (λ (k : Kept _). k.told.opened) c.in-Ok.ensures.stone))
    (can_serve c.in_ok-image.image c.args.script.value _ _ c.in_ok-image.ensures.image
    (record { named = c.invariant.ensures.named; spelled = c.invariant.ensures.spelled }) c.requires.limit)

pub returns-clause-base : goal.returns-clause-base
returns-clause-base g c = subst (λ (o : Opened). base_serial o ≡ 1)
    (sym (ap (λ (k : Kept _). k.told.opened) c.in-Ok.ensures.stone))
    (kernel_base _ c.in_ok-image.ensures.image)
