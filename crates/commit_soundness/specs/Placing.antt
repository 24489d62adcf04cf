-- A transaction, and what its commit makes at its place.
use Rattle.std.specs.Prelude.{◌≡◌, ◌≤◌, ◌<◌, ℕ, List}
use Rattle.commit_check.specs.gem_value.Oid.{oid_number}
use Rattle.commit_check.specs.gem_object.declared.object.Object.{Object}
use Rattle.commit_check.specs.gem_image.Image.{Image, IsImage, objects_in, with_objects}
use Rattle.commit_check.specs.gem_record.declared.record.Entry.{Entry}
use Rattle.commit_check.specs.gem_record.declared.record.TxnRecord.{TxnRecord}
use Rattle.gem_meaning.specs.gem_sound.Sound.{IsSoundFor}
use Rattle.commit_check.specs.gem_world.World.{Setting, World, untouched}
use Rattle.gem_meaning.specs.object_programs.Laws.{Stays, begun_at}
use Rattle.gem_meaning.specs.gem_language.Commands.{Command}
use Rattle.gem_meaning.specs.gem_language.Transaction.{transaction}
use Rattle.commit_check.specs.gem_record.Record.{record_of}
use Rattle.gem_meaning.specs.Effect.{effect_at}

-- Commands whose commit is placed, and the number of the commit there.
pub record Placing : Type 0 where
  -- the image at the place
  pub place : Image
  -- the image that ordinary objects are those of: that of the place, or one before it
  pub ordinary : Image
  -- the image of the view: reduced-conflict objects are those of it
  pub view : Image
  -- the name of the user, the serial in the names that are drawn, and the counter of the first one
  pub user : ℕ
  pub serial : ℕ
  pub first : ℕ
  pub commands : List Command
  -- who commits what, as the history has it
  pub entry : Entry
  pub number : ℕ

-- what the commands run on
abbrev pub run_setting : Placing → Setting
run_setting p = begun_at p.ordinary p.view p.user p.serial p.first

-- what they leave of the objects
abbrev pub left_by : Placing → World
left_by p = (transaction p.commands (run_setting p) (untouched p.first)).world

-- what the commit finds
abbrev pub setting_of : Placing → Setting
setting_of p = begun_at p.place p.view p.user p.serial p.first

abbrev pub record_placed : Placing → TxnRecord
record_placed p = record_of p.entry (setting_of p) (left_by p)

-- what the commit changes, and the image that it makes
abbrev pub effect_placed : Placing → List (ℕ × Object)
effect_placed p = effect_at p.place p.number (record_placed p)

abbrev pub image_made : Placing → Image
image_made p = with_objects p.place (effect_placed p)

-- The transaction can run there: all three are images that are sound for its user and its names,
-- every object of the view is in the image that ordinary objects are those of, with its fixed part,
-- and every object of this one is so at the place.
pub record CanRun (p : Placing) : Type 0 where
  pub place : IsImage p.place
  pub ordinary : IsImage p.ordinary
  pub view : IsImage p.view
  pub below : Stays p.view p.ordinary
  pub above : Stays p.ordinary p.place
  pub sound : IsSoundFor (objects_in p.place) p.user p.serial p.first
  pub sound_ordinary : IsSoundFor (objects_in p.ordinary) p.user p.serial p.first
  pub sound_view : IsSoundFor (objects_in p.view) p.user p.serial p.first

-- the name is one that the commands drew
pub record IsDrawnIn (p : Placing) (name : ℕ) : Type 0 where
  pub counter : ℕ
  pub from : p.first ≤ counter
  pub before : counter < (left_by p).next
  pub is : name ≡ oid_number p.serial counter
