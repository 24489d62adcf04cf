use Rattle.std.proofs.Common.{◌≤◌, ℕ, Some, Err, refl, sym, ap, subst}
use Rattle.gem_disk.proofs.Moments.{started}
use Rattle.gem_record.specs.declared.limits.TheConstants.{PAGE_LIMIT}
use Rattle.gem_keeper.specs.Found.{StandsFor}
use Rattle.stone_store.specs.Left.{FilesStandFor}
use Rattle.stone_store.specs.Whole.{RestsBy}
use Rattle.stone_store.proofs.Rests.{left_here}
use Rattle.stone_store.proofs.Keeps.{needed_is, count_fails, checkpoint_stored}
use Rattle.stone_store.proofs.checking.checkpoint_to.Goals as goal

pub returns-in-Err-clause-fault : goal.returns-in-Err-clause-fault
returns-in-Err-clause-fault g c = count_fails c.args.image.now c.in-Some.kept.root _ _ _ c.in-Err.fault c.in-Err.ensures
    (needed_is c.args.image.now c.args.parts.now c.in-Some.kept c.in-Some.ensures.value) (refl, c.in-Some.ensures.value)

pub returns-in-Err-clause-any_moment : goal.returns-in-Err-clause-any_moment
returns-in-Err-clause-any_moment g c tells =
    let past = g.D.Disk.past c.args.disk.now in
    let rest = subst (RestsBy past) (sym c.in-Some.ensures.value) (c.requires.rests tells) in
    started past (FilesStandFor c.args.image.now c.args.number)
    (left_here past c.in-Some.kept rest (StandsFor c.args.image.now c.args.number) (c.requires.stands tells))

pub returns-in-Ok-write_checkpoint-clause-stored : goal.returns-in-Ok-write_checkpoint-clause-stored
returns-in-Ok-write_checkpoint-clause-stored g c =
    checkpoint_stored (record {
      log = c.write_checkpoint.new.parts.log;
      pages = c.write_checkpoint.new.parts.pages;
      root = Some (record { number = c.args.number; pages = c.in-Ok.found.0.all });
    }) (record { number = c.args.number; pages = c.in-Ok.found.0.all }) c.args.image.now c.args.number c.in-Ok-write_checkpoint.ensures.emptied refl refl c.in-Ok.ensures.0

pub returns-in-Ok-write_checkpoint-clause-fits : goal.returns-in-Ok-write_checkpoint-clause-fits
returns-in-Ok-write_checkpoint-clause-fits g c = subst (λ (n : ℕ). n ≤ PAGE_LIMIT)
    (sym (needed_is c.args.image.now c.args.parts.now c.in-Some.kept c.in-Some.ensures.value)) c.in-Ok.ensures.1

pub returns-in-Err-Disk-clause-fault : goal.returns-in-Err-Disk-clause-fault
returns-in-Err-Disk-clause-fault g c = (
  subst (λ (n : ℕ). n ≤ PAGE_LIMIT)
      (sym (needed_is c.args.image.now c.args.parts.now c.in-Some.kept c.in-Some.ensures.value)) c.in-Ok.ensures.1,
  c.in-Err-Disk.ensures.failed (ap (λ f. Err f) c.in-Err-Disk.field-0-is),
)
