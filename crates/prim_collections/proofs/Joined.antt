-- What is seen stays the same where a fixed part is asked for.
use Rattle.std.proofs.Common.{sym, ap, ap₂, ℕ, Option, Result, Ok, Err, OnOk}
use Rattle.object_programs.specs.gem_world.World.{Setting, World, shown}
use Rattle.object_programs.specs.Atom.{Done, touch_missing}
use Rattle.object_programs.specs.Fixed.{Fixed}
use Rattle.running_objects.specs.Seen.{Seen}
use Rattle.running_objects.specs.Acted.{Known}
use Rattle.prim_collections.specs.Joins.{Shows}

pub known_same : {name : ℕ} {before after : Seen} → Known name before (Ok tt) after → Shows before after
unfolding touch_missing
known_same {name} {before} {after} known = λ other.
    ap₂ (λ (setting : Setting) (world : World). shown other setting world) known.keeps.setting
    (sym (ap (λ (did : Done (Option Fixed)). did.world) known.did))

-- what holds in any case
pub on_ok : {T E P : Type 0} (result : Result T E) → P → OnOk result P
on_ok (Ok answer) holds = holds
on_ok (Err ended) holds = tt
