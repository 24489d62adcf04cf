-- What objects within the limits take: so little that the sum is exact.
use Rattle.std.proofs.Common.{◌≡◌, ◌+◌, ◌*◌, ◌≤◌, true, nat_le, List, [], ◌∷◌, length, arith}
use Rattle.std.specs.List.{list_all}
use Rattle.std.proofs.lemmas.Bool.{and_parts, leb-true}
use Rattle.std.proofs.lemmas.List.Sums.{sum_by-cons}
use Rattle.gem_object.specs.Slots.{slots_of}
use Rattle.gem_object.specs.Sizes.{fields_size}
use Rattle.gem_object.specs.declared.body.Body.{Body}
use Rattle.gem_object.specs.declared.body.Body.TheVariants as body
use Rattle.gem_image.specs.Image.{Contents}
use Rattle.object_programs.specs.Budget.{object_cost, is_within_limits}
use Rattle.object_programs.specs.Atom.{objects_cost}
use Rattle.object_programs.specs.declared.limits.TheConstants.{SLOTS_LIMIT, BYTES_LIMIT}

cost_one : (one : Body) → slots_of one ≤ SLOTS_LIMIT → 17 + fields_size one ≤ BYTES_LIMIT → object_cost one ≤ 200000
cost_one (body.Bytes bytes) slots size = omega (arith, size)
cost_one (body.Plain values) slots size = omega (arith, slots)
cost_one (body.Dict pairs) slots size = omega (arith, slots)
cost_one (body.Class class) slots size = omega arith
cost_one (body.Segment rights) slots size = omega arith
cost_one (body.User user) slots size = omega arith
cost_one (body.Counter counter) slots size = omega (arith, slots)
cost_one (body.Bag pairs) slots size = omega (arith, slots)
cost_one (body.RcDict pairs) slots size = omega (arith, slots)
cost_one (body.Queue queue) slots size = omega (arith, slots)

pub cost_bound : (objects : List Contents) → list_all is_within_limits objects ≡ true
    → objects_cost objects ≤ 200000 * length objects
cost_bound [] within = omega arith
cost_bound (object ∷ rest) within =
    let both = and_parts (is_within_limits object) (list_all is_within_limits rest) within in
    let limits = and_parts (nat_le (slots_of object.body) SLOTS_LIMIT) (nat_le (17 + fields_size object.body) BYTES_LIMIT) both.0 in
    let one = cost_one object.body (leb-true (slots_of object.body) SLOTS_LIMIT limits.0)
    (leb-true (17 + fields_size object.body) BYTES_LIMIT limits.1) in
    let more = cost_bound rest both.1 in
    let all = sum_by-cons (λ (some : Contents). object_cost some.body) object rest in
    omega (arith, one, more, all)
