-- Whether the objects are there to which pairs and items refer.
use Rattle.std.specs.Prelude.{ℕ, Bool, ◌&&◌}
use Rattle.gem_object.specs.declared.value.Value.{Value}
use Rattle.object_programs.specs.Guard.{Parts}
use Rattle.running_objects.specs.Fitting.{is_known_value}

abbrev pub is_known_pair : Parts → Value × Value → Bool
is_known_pair parts pair = is_known_value parts pair.0 && is_known_value parts pair.1

abbrev pub is_known_item : Parts → Value × ℕ → Bool
is_known_item parts pair = is_known_value parts pair.0
