use Rattle.std.proofs.Common.{ap}
use Rattle.gem_object.specs.declared.value.Value.{Value}
use Rattle.object_programs.specs.gem_world.Access.{a_read}
use Rattle.object_programs.specs.Run.{Outcome}
use Rattle.object_programs.specs.declared.fault.Fault.TheVariants as fault
use Rattle.prim_rules.specs.Parts.{default_segment, new_object_in, new_object}
use Rattle.prim_rules.specs.Worked.{NoBlocks, after}
use Rattle.prim_rules.proofs.Performed.{ends_there, no_segment}
use Rattle.prim_rules.proofs.laws.profiles_are_read_for_new_objects.Goals as goal

pub returns-clause-refused : goal.returns-clause-refused
unfolding new_object
returns-clause-refused c = λ class body setting state refused.
    ap (λ (out : Outcome NoBlocks Value). out.end)
    (ends_there default_segment (λ segment. new_object_in segment class body) setting state
    (after a_read setting.user setting state) (fault.NoReadRight setting.user)
    (no_segment setting state refused))
