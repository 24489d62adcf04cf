-- How many bytes an effect has where it is stored.
use Rattle.std.specs.Prelude.{ℕ, ◌+◌, sum_by}
use Rattle.gem_object.specs.Sizes.{object_size}
use Rattle.gem_object.specs.declared.object.Object.{Object}
use Rattle.gem_record.specs.declared.effect.Effect.{Effect}

-- a changed object: eight bytes for its name, and the object
abbrev pub changed_size : ℕ × Object → ℕ
changed_size changed = 8 + object_size changed.1

-- four bytes for the number of objects, and the objects; the number of the commit isn't in it
abbrev pub effect_size : Effect → ℕ
effect_size effect = 4 + sum_by changed_size effect.objects

-- the record of an effect in the log: fourteen bytes more than the effect
abbrev pub log_record_size : Effect → ℕ
log_record_size effect = 14 + effect_size effect
