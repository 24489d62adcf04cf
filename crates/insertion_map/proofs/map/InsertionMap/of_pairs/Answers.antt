use Rattle.std.proofs.Common.{◌≡◌, true, [], ◌∷◌, ◌++◌, length, None, is_some, refl, sym, ap, subst, ◌∙◌, append_assoc, append-nil, arith}
use Rattle.std.proofs.lemmas.Bool.{false≢true}
use Rattle.std.specs.Vec.Iter.{into_iter_items}
use Rattle.insertion_map.specs.Pairs.{AreDistinct, entry_of}
use Rattle.insertion_map.proofs.Cases.{none_from_test, nothing_left}
use Rattle.insertion_map.proofs.Puts.{new_last, distinct_put, stands_twice}
use Rattle.insertion_map.proofs.map.InsertionMap.of_pairs.Goals as goal

pub returns-then-is_some-clause-distinct : goal.returns-then-is_some-clause-distinct
returns-then-is_some-clause-distinct g c =
    let at = c.loop-key in
    let steps = c.in-Some.ensures.steps.0 in
    let whole : at.map ++ (c.in-Some.key, c.in-Some.value) ∷ into_iter_items c.next.new.self ≡ c.args.pairs.items =
    ap (λ l. at.map ++ l) (sym steps) ∙ (at.invariant.0 ∙ c.into_iter-key-iterator.ensures.into_iter_gives.0) in
    let there : is_some (entry_of g.K.PartialEq.eq c.in-Some.key at.map) ≡ true =
    ap is_some (sym c.in_ok-put.ensures.before) ∙ (sym c.is_some.ensures ∙ c.if-is_some.true) in (
      λ no. absurd (false≢true no),
      λ distinct. absurd (stands_twice g.K.PartialEq.eq g.met.K.Eq.laws at.map (into_iter_items c.next.new.self) (c.in-Some.key, c.in-Some.value) there
          (subst (AreDistinct g.K.PartialEq.eq) (sym whole) distinct)),
    )

pub loop-key-preserved : goal.loop-key-preserved
loop-key-preserved g c =
    let at = c.loop-key in
    let steps = c.in-Some.ensures.steps.0 in
    let none : entry_of g.K.PartialEq.eq c.in-Some.key at.map ≡ None =
    none_from_test _ (ap is_some (sym c.in_ok-put.ensures.before) ∙ (sym c.is_some.ensures ∙ c.if-is_some.false)) in
    let longer : c.put.new.self ≡ at.map ++ (c.in-Some.key, c.in-Some.value) ∷ [] =
    c.in_ok-put.ensures.put ∙ new_last g.K.PartialEq.eq c.in-Some.key c.in-Some.value at.map none in (
      ap (λ l. l ++ into_iter_items c.next.new.self) longer
          ∙ (append_assoc at.map ((c.in-Some.key, c.in-Some.value) ∷ []) (into_iter_items c.next.new.self) ∙ (ap (λ l. at.map ++ l) (sym steps) ∙ at.invariant.0)),
      (let was = at.invariant.1 in
          let gone = c.in-Some.ensures.steps.1 in
          let short = ap length steps in
          omega arith),
      subst (AreDistinct g.K.PartialEq.eq) (sym c.in_ok-put.ensures.put) (distinct_put g.K.PartialEq.eq g.met.K.Eq.laws c.in-Some.key c.in-Some.value at.map at.invariant.2),
    )

pub returns-clause-distinct : goal.returns-clause-distinct
returns-clause-distinct g c =
    let at = c.loop-key in
    let none = c.in-None.ensures.steps in
    let empty : into_iter_items at.key-iterator ≡ [] = nothing_left _ (sym at.invariant.1 ∙ none.0) in
    let all : at.map ≡ c.args.pairs.items =
    sym (append-nil at.map) ∙ (ap (λ l. at.map ++ l) (sym empty) ∙ (at.invariant.0 ∙ c.into_iter-key-iterator.ensures.into_iter_gives.0)) in
    (λ _. subst (AreDistinct g.K.PartialEq.eq) all at.invariant.2, λ _. refl)

pub returns-clause-pairs : goal.returns-clause-pairs
returns-clause-pairs g c =
    let at = c.loop-key in
    let none = c.in-None.ensures.steps in
    let empty : into_iter_items at.key-iterator ≡ [] = nothing_left _ (sym at.invariant.1 ∙ none.0) in
    sym (append-nil at.map) ∙ (ap (λ l. at.map ++ l) (sym empty) ∙ (at.invariant.0 ∙ c.into_iter-key-iterator.ensures.into_iter_gives.0))
