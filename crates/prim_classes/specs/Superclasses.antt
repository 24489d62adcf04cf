-- The way up from a class.
use Rattle.std.specs.Prelude.{ℕ, Option}
use Rattle.gem_object.specs.declared.body.ClassBody.{ClassBody}
use Rattle.object_programs.specs.Run.{Run, give, and_then}
use Rattle.object_programs.specs.Programs.{need, read}
use Rattle.object_programs.specs.declared.fault.Fault.TheVariants as fault
use Rattle.prim_rules.specs.Parts.{class_in}

module _ {B : Type 0} where
  -- a class, which is read
  abbrev pub class_read : (class : ℕ) → Run B ClassBody
  class_read class =
      and_then (read class) (λ object. need fault.ArgumentKind (class_in object.body))

  -- its superclass
  abbrev pub superclass_read : (class : ℕ) → Run B (Option ℕ)
  superclass_read class = and_then (class_read class) (λ part. give part.superclass)
