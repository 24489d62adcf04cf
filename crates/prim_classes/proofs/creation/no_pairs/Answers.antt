use Rattle.std.proofs.Common.{List, [], sym, subst}
use Rattle.std.proofs.lemmas.Bool.{false≢true}
use Rattle.std.specs.List.Sorted.{IsStrictlySortedBy}
use Rattle.gem_object.specs.contracts.value.ValueOrd.TheImpl as order
use Rattle.gem_object.specs.declared.value.Value.{Value}
use Rattle.gem_object.specs.rc_dict.Dict.{IsDict}
use Rattle.prim_classes.proofs.creation.no_pairs.Goals as goal

pub returns-in-None : goal.returns-in-None
unfolding IsStrictlySortedBy
returns-in-None c =
    let At : List (Value × Value) → Type 0 = λ pairs. IsDict order.ghosts.cmp pairs in
    let none : At [] = tt in
    absurd (false≢true (c.in-None.ensures.dict.1 (subst At (sym c.new.ensures.items) none)))
