-- Whether a value may come at a key of a dictionary.
use Rattle.std.specs.Prelude.{◌+◌, Bool, false, not, ◌&&◌, ◌||◌, length, is_some}
use Rattle.gem_object.specs.Edits.{value_at}
use Rattle.gem_object.specs.declared.value.Value.{Value}
use Rattle.gem_object.specs.declared.body.Body.{Body}
use Rattle.gem_object.specs.declared.body.Body.TheVariants.{Dict}
use Rattle.object_programs.specs.Guard.{Parts}
use Rattle.object_programs.specs.Spelled.{is_nil}
use Rattle.running_objects.specs.Fitting.{may_enter, can_count}

-- whether a dictionary has the key, or can count one more
abbrev pub has_room_for : (key : Value) → Body → Bool
has_room_for key (Dict pairs) = can_count (length pairs + 1) || is_some (value_at key (Dict pairs))
has_room_for key _ = false

-- whether a dictionary may have this value at this key
abbrev pub may_put : Parts → (key value : Value) → Body → Bool
may_put parts key value body = may_enter parts key
    && (may_enter parts value && (not (is_nil key) && has_room_for key body))
