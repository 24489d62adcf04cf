use Rattle.std.proofs.Common.{ℕ, List, [], sym, subst}
use Rattle.std.proofs.lemmas.Bool.{false≢true}
use Rattle.std.specs.List.Sorted.{IsStrictlySortedBy}
use Rattle.gem_object.specs.contracts.value.ValueOrd.TheImpl as order
use Rattle.gem_object.specs.declared.value.Value.{Value}
use Rattle.gem_object.specs.rc_counter_bag.Bag.{IsBag}
use Rattle.prim_classes.proofs.creation.no_items.Goals as goal

pub returns-in-None : goal.returns-in-None
unfolding IsStrictlySortedBy
returns-in-None c =
    let At : List (Value × ℕ) → Type 0 = λ pairs. IsBag order.ghosts.cmp pairs in
    let none : At [] = record { ascends = tt; occur = tt } in
    absurd (false≢true (c.in-None.ensures.bag.1 (subst At (sym c.new.ensures.items) none)))
