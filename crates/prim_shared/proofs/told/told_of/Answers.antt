use Rattle.std.proofs.Common.{refl, w64, rules}
use Rattle.std.specs.Prelude.{FitsSigned}
use Rattle.std.proofs.lemmas.Int.{to_z-of_z}
use Rattle.prim_shared.proofs.Tells.{told_so, told_at, none_of_counter, none_of_others, owner_spelled}
use Rattle.prim_shared.proofs.told.told_of.Goals as goal

pub told_of_segment-requires : goal.told_of_segment-requires
told_of_segment-requires c = owner_spelled c.args.body.now _ c.in-Segment.is c.requires

pub returns-in-Count : goal.returns-in-Count
returns-in-Count c =
    let fits : FitsSigned w64 c.in-Counter.counter.value = search rules in
    rw (to_z-of_z w64 c.in-Counter.counter.value fits) (told_at c.args.fact c.in-Counter.is (told_so _ c.in-Count.is refl))

pub returns-in_default-fact : goal.returns-in_default-fact
returns-in_default-fact c = told_at c.args.fact c.in-Counter.is (none_of_counter c.args.fact _ c.in_default-fact.not-Count)

pub returns-in_default : goal.returns-in_default
returns-in_default c = none_of_others c.args.fact c.args.body.now c.in_default.not-Segment c.in_default.not-User
    c.in_default.not-Counter
