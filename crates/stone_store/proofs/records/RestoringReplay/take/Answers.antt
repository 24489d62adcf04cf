use Rattle.std.proofs.Common.{ℕ, Option, refl, ap₂}
use Rattle.stone_store.specs.declared.parts.FoundImage.{FoundImage}
use Rattle.stone_store.specs.declared.records.Restored.{Restored}
use Rattle.stone_store.proofs.Misfits.{stored_spelled}
use Rattle.stone_store.proofs.records.RestoringReplay.take.Goals as goal

restored_of : FoundImage → Option ℕ → Restored
restored_of found misfit = record { found = found; misfit = misfit }

pub add_record-requires : goal.add_record-requires
add_record-requires g c = stored_spelled c.args.one.effect.number c.args.one.effect c.requires

pub returns : goal.returns
unfolding restored_of
returns g c = (refl, ap₂ restored_of c.in_ok-add_record.ensures c.misfit_with-misfit.ensures)
