-- Numbers as code holds them.
use Rattle.std.proofs.Common.{subst, ℕ, ℤ, FitsSigned, to_z, of_z, w64, Result}
use Rattle.std.proofs.lemmas.Int.{to_z-of_z}
use Rattle.object_programs.specs.Programs.{need}
use Rattle.object_programs.specs.declared.fault.Fault.TheVariants as fault
use Rattle.running_objects.specs.declared.stop.Stop.{Stop}
use Rattle.prim_rules.specs.New.{count_in}
use Rattle.prim_parts.specs.Does.{Computes}

pub count_same : {number : ℤ} {result : Result ℕ Stop} → FitsSigned w64 number
    → Computes (need fault.Index (count_in (to_z w64 (of_z w64 number)))) result → Computes (need fault.Index (count_in number)) result
count_same {number} {result} fits computes =
    let At : ℤ → Type 0 = λ one. Computes (need fault.Index (count_in one)) result in
    subst At (to_z-of_z w64 number fits) computes
