-- What reduced-conflict bodies and updates refer to, by their values; and which updates can be stored.
use Rattle.std.proofs.Common.{◌≡◌, sym, subst, ℕ, true, IsTrue, List, [], ◌∷◌, Some, is_some}
use Rattle.std.specs.List.{AllByRecursion}
use Rattle.std.specs.Option.{IfSome}
use Rattle.std.proofs.lemmas.Bool.{false≢true}
use Rattle.std.proofs.lemmas.List.Elements.{All-from_recursion, recursion_from_All}
use Rattle.std.proofs.lemmas.Option.{none-some, same_Some}
use Rattle.commit_check.specs.gem_object.Kinds.{is_shared}
use Rattle.commit_check.specs.gem_object.Order.{value_order}
use Rattle.commit_check.specs.gem_object.References.{reference_of, names_in, names_in_body}
use Rattle.commit_check.specs.gem_object.Spelling.{IsStorable, IsStorablePair, is_key, IsSpelledBody}
use Rattle.commit_check.specs.gem_object.declared.value.Value.{Value}
use Rattle.commit_check.specs.gem_object.declared.body.Body.{Body}
use Rattle.commit_check.specs.gem_object.declared.body.Body.TheVariants as body
use Rattle.commit_check.specs.rc_dict.Dict as dicts
use Rattle.commit_check.specs.rc_dict.declared.update.DictUpdate.{DictUpdate}
use Rattle.commit_check.specs.rc_dict.declared.update.DictUpdate.TheVariants as dict
use Rattle.commit_check.specs.rc_dict.declared.update.DictFault.TheVariants as dict_fault
use Rattle.gem_update.specs.References.{values_in_update, names_in_update}
use Rattle.gem_update.specs.Spelling.{HasKey, IsStorableUpdate}
use Rattle.gem_update.specs.Update.{updated}
use Rattle.gem_update.specs.declared.update.Update.{Update}
use Rattle.gem_update.specs.declared.update.Update.TheVariants as change
use Rattle.commit_soundness.proofs.Lists.{to_each, from_each, all_weaker, each_given, all_given}
use Rattle.commit_soundness.proofs.Values.{EachValue, update_left, from_put, from_entry, removed_some, update_brought}

-- ---- references

module _ (Q : ℕ → Type 0) where
  -- this holds of what the value refers to
  abbrev pub Refers : Value → Type 0
  Refers value = IfSome (reference_of value) Q

  pub names_each : (values : List Value) → AllByRecursion Q (names_in values) → AllByRecursion Refers values
  names_each values all = to_each reference_of Q values all

  pub names_all : (values : List Value) → AllByRecursion Refers values → AllByRecursion Q (names_in values)
  names_all values all = from_each reference_of Q values all

  abbrev two : Value × Value → List Value
  two pair = pair.0 ∷ pair.1 ∷ []

  pair_each : (pair : Value × Value) → AllByRecursion Q (names_in (two pair)) → Refers pair.0 × Refers pair.1
  pair_each pair all = let both = names_each (two pair) all in (both.0, both.1.0)

  pair_all : (pair : Value × Value) → Refers pair.0 × Refers pair.1 → AllByRecursion Q (names_in (two pair))
  pair_all pair both = names_all (two pair) (both.0, (both.1, tt))

  pub body_each : (of : Body) → AllByRecursion Q (names_in_body of) → EachValue Refers of
  body_each (body.Bag pairs) all = to_each (λ pair. reference_of pair.0) Q pairs all
  body_each (body.RcDict pairs) all = all_weaker (λ pair. AllByRecursion Q (names_in (two pair)))
      (λ pair. Refers pair.0 × Refers pair.1) pair_each pairs (each_given Q (λ pair. names_in (two pair)) pairs all)
  body_each (body.Queue line) all = names_each line.items all
  body_each _ all = tt

  pub body_all : (of : Body) → is_shared of ≡ true → EachValue Refers of → AllByRecursion Q (names_in_body of)
  body_all (body.Counter counter) shared each = tt
  body_all (body.Bag pairs) shared each = from_each (λ pair. reference_of pair.0) Q pairs each
  body_all (body.RcDict pairs) shared each = all_given Q (λ pair. names_in (two pair)) pairs
      (all_weaker (λ pair. Refers pair.0 × Refers pair.1) (λ pair. AllByRecursion Q (names_in (two pair)))
      pair_all pairs each)
  body_all (body.Queue line) shared each = names_all line.items each
  body_all _ shared each = absurd (false≢true shared)

  -- what an update refers to was referred to by the body, or is by what the update leaves of it
  pub update_refers : (update : Update) (old new : Body) → updated update old ≡ Some new
      → AllByRecursion Q (names_in_body old) → AllByRecursion Q (names_in_body new)
      → AllByRecursion Q (names_in_update update)
  update_refers update old new is before after = names_all (values_in_update update)
      (update_brought Refers update old new is (body_each old before) (body_each new after))

-- ---- updates that can be stored

pub each_storable : (of : Body) → IsSpelledBody of → EachValue IsStorable of
each_storable (body.Bag pairs) is = recursion_from_All (λ pair. IsStorable pair.0) pairs is.each
each_storable (body.RcDict pairs) is = recursion_from_All IsStorablePair pairs is.each
each_storable (body.Queue line) is = recursion_from_All IsStorable line.items is.1.each
each_storable _ is = tt

abbrev IsKeyed : Value × Value → Type 0
IsKeyed pair = IsTrue (is_key pair.0)

-- a dictionary's update has a key that may be one
dict_key : (update : DictUpdate Value Value) (pairs after : List (Value × Value)) → AllByRecursion IsKeyed pairs
    → AllByRecursion IsKeyed after → dicts.updated value_order update pairs ≡ Some after
    → HasKey (change.RcDict update)
dict_key (dict.Put key value) pairs after old new is = from_put IsKeyed key value pairs
    (subst (AllByRecursion IsKeyed) (sym (same_Some (dicts.put value_order key value pairs) after is)) new)
dict_key (dict.Remove key) pairs after old new is = from_entry IsKeyed key (λ some. IsTrue (is_key some))
    (λ pair holds. holds) pairs old
    (removed_some key pairs after (is_some (dicts.entry value_order key pairs)) is)

update_key : (update : Update) (old new : Body) → updated update old ≡ Some new → IsSpelledBody old
    → IsSpelledBody new → HasKey update
update_key (change.Counter by) old new is before after = tt
update_key (change.Bag update) old new is before after = tt
update_key (change.Queue update) old new is before after = tt
update_key (change.RcDict update) (body.RcDict pairs) new is before after =
    let left = update_left body.RcDict (dicts.updated value_order update pairs) (dict_fault.Key 0) new is in
    let spelled = subst IsSpelledBody (sym left.2) after in
    dict_key update pairs left.0 (recursion_from_All IsKeyed pairs before.keys)
    (recursion_from_All IsKeyed left.0 spelled.keys) left.1
update_key (change.RcDict update) _ new is before after = absurd (none-some new is)

-- an update of a body that can be stored, which leaves one that can be
pub storable_update : (update : Update) (old new : Body) → updated update old ≡ Some new → IsSpelledBody old
    → IsSpelledBody new → IsStorableUpdate update
storable_update update old new is before after = record {
  values = All-from_recursion IsStorable (values_in_update update)
      (update_brought IsStorable update old new is (each_storable old before) (each_storable new after));
  key = update_key update old new is before after;
}
