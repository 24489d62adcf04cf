-- The record that a run leaves: what a session hands over when it commits.
use Rattle.std.specs.Prelude.{ℕ, List, map}
use Rattle.gem_object.specs.declared.object.Object.{Object}
use Rattle.gem_image.specs.Image.{Contents}
use Rattle.gem_world.specs.World.{Setting, World}
use Rattle.gem_world.specs.Changes.{written_objects, made_objects}
use Rattle.gem_record.specs.declared.record.TxnRecord.{TxnRecord}
use Rattle.gem_record.specs.declared.record.Entry.{Entry}
use Rattle.gem_record.specs.RunNames.{touched_names, updates_by_name}

-- an object that no commit has changed yet
abbrev pub uncommitted : Contents → Object
uncommitted object = record {
  class = object.class;
  segment = object.segment;
  changed = 0;
  body = object.body;
}

-- the same of objects with their names
abbrev pub all_uncommitted : List (ℕ × Contents) → List (ℕ × Object)
all_uncommitted objects = map (λ entry. (entry.0, uncommitted entry.1)) objects

-- The record of a run: who ran which commands, on which view and in which mode, as its entry has
-- it; the image of its view; and what became of the objects. Its lists ascend by name. The number of
-- the last commit of an object that was written or made stands at 0, until a commit gives it its own.
unfoldable pub record_of : Entry → Setting → World → TxnRecord
record_of entry setting world = record {
  session = entry.session;
  transaction = entry.transaction;
  user = entry.user;
  first_command = entry.first_command;
  last_command = entry.last_command;
  first_name = entry.first_name;
  view = entry.view;
  mode = entry.mode;
  base = setting.view;
  touched = touched_names world;
  written = all_uncommitted (written_objects setting world);
  made = all_uncommitted (made_objects setting world);
  updates = updates_by_name world;
}
