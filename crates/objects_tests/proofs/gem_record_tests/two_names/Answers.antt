use Rattle.std.proofs.Common.{◌≡◌, [], ◌∷◌, refl, rules}
use Rattle.std.specs.Ordering.{nat_cmp}
use Rattle.std.specs.declared.cmp.Ordering.TheVariants.{Less}
use Rattle.gem_object.specs.gem_value.Oid.{oid_number}
use Rattle.objects_tests.proofs.TwoNames.{two_ascend}
use Rattle.objects_tests.proofs.gem_record_tests.two_names.Goals as goal

pub of-requires : goal.of-requires
of-requires c =
    let is : c.in_ok-names.names.items ≡ oid_number 1 1 ∷ oid_number 1 3 ∷ [] = search rules in
    let below : nat_cmp (oid_number 1 1) (oid_number 1 3) ≡ Less = refl in
    two_ascend c.in_ok-names.names.items (oid_number 1 1) (oid_number 1 3) is below
