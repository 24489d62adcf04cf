-- What is accepted is of one class, and stays of its kind.
use Rattle.std.proofs.Common.{◌≡◌, ℕ, ℤ, true, List, [], ◌∷◌, Option, Some, refl, sym, ap, ◌∙◌}
use Rattle.std.specs.List.{All}
use Rattle.std.proofs.lemmas.List.Elements.{All-nil, All-cons}
use Rattle.std.proofs.lemmas.Option.{option_and_then_some}
use Rattle.gem_object.specs.Kinds.{fits}
use Rattle.gem_object.specs.declared.kind.Kind.{Kind}
use Rattle.gem_object.specs.declared.kind.Kind.TheVariants as kind
use Rattle.gem_object.specs.declared.body.Body.{Body}
use Rattle.gem_object.specs.declared.body.Body.TheVariants as body
use Rattle.gem_object.specs.rc_counter_bag.declared.counter.Counter.{Counter}
use Rattle.gem_object.specs.rc_counter_bag.declared.update.BagUpdate.{BagUpdate}
use Rattle.gem_object.specs.rc_dict.declared.update.DictUpdate.{DictUpdate}
use Rattle.gem_object.specs.rc_queue.declared.update.QueueUpdate.{QueueUpdate}
use Rattle.gem_object.specs.rc_queue.Contents.{Contents}
use Rattle.gem_object.specs.declared.value.Value.{Value}
use Rattle.gem_update.specs.Outcomes.{counter_updated, counter_merged, bag_updated, bag_merged, dict_updated, dict_merged, queue_updated, queue_merged}
use Rattle.gem_update.specs.Update.{fits_update, updated, merged, all_changes, counter_change, bag_change, dict_change, queue_change}
use Rattle.gem_update.specs.declared.update.Update.{Update}
use Rattle.gem_update.specs.declared.update.Update.TheVariants as change
use Rattle.gem_update.proofs.Accepted.{accepted, mapped_more}

pub updates_fit : (update : Update) (before after : Body) → updated update before ≡ Some after
    → fits_update update before ≡ true
updates_fit (change.Counter by) (body.Counter counter) after e = refl
updates_fit (change.Bag update) (body.Bag pairs) after e = refl
updates_fit (change.RcDict update) (body.RcDict pairs) after e = refl
updates_fit (change.Queue update) (body.Queue q) after e = refl
updates_fit _ _ after e = absurd (cc)

-- bodies of one of the classes, whatever they hold, are of its kind
pub counter_kind : (k : Kind) (x y : Counter) → fits k (body.Counter x) ≡ fits k (body.Counter y)
counter_kind kind.Counter x y = refl
counter_kind _ x y = refl

bag_kind : (k : Kind) (x y : List (Value × ℕ)) → fits k (body.Bag x) ≡ fits k (body.Bag y)
bag_kind kind.Bag x y = refl
bag_kind _ x y = refl

dict_kind : (k : Kind) (x y : List (Value × Value)) → fits k (body.RcDict x) ≡ fits k (body.RcDict y)
dict_kind kind.RcDict x y = refl
dict_kind _ x y = refl

queue_kind : (k : Kind) (x y : Contents Value) → fits k (body.Queue x) ≡ fits k (body.Queue y)
queue_kind kind.Queue x y = refl
queue_kind _ x y = refl

pub updated_kind : (update : Update) (before after : Body) (k : Kind)
    → updated update before ≡ Some after → fits k after ≡ fits k before
updated_kind (change.Counter by) (body.Counter c) after k e =
    accepted body.Counter (counter_updated by c) after e
    (λ x ok same. ap (fits k) (sym same) ∙ counter_kind k x c)
updated_kind (change.Bag update) (body.Bag pairs) after k e =
    accepted body.Bag (bag_updated update pairs) after e
    (λ x ok same. ap (fits k) (sym same) ∙ bag_kind k x pairs)
updated_kind (change.RcDict update) (body.RcDict pairs) after k e =
    accepted body.RcDict (dict_updated update pairs) after e
    (λ x ok same. ap (fits k) (sym same) ∙ dict_kind k x pairs)
updated_kind (change.Queue update) (body.Queue q) after k e =
    accepted body.Queue (queue_updated update q) after e
    (λ x ok same. ap (fits k) (sym same) ∙ queue_kind k x q)
updated_kind _ _ after k e = absurd (cc)

pub merged_kind : (view place after : Body) (updates : List Update) (k : Kind)
    → merged view place updates ≡ Some after → fits k after ≡ fits k place
merged_kind (body.Counter view) (body.Counter place) after updates k e =
    option_and_then_some _ (all_changes counter_change updates) after e (λ changes all made.
    accepted body.Counter (counter_merged view place changes) after made
    (λ x ok same. ap (fits k) (sym same) ∙ counter_kind k x place))
merged_kind (body.Bag view) (body.Bag place) after updates k e =
    option_and_then_some _ (all_changes bag_change updates) after e (λ changes all made.
    accepted body.Bag (bag_merged view place changes) after made
    (λ x ok same. ap (fits k) (sym same) ∙ bag_kind k x place))
merged_kind (body.RcDict view) (body.RcDict place) after updates k e =
    option_and_then_some _ (all_changes dict_change updates) after e (λ changes all made.
    accepted body.RcDict (dict_merged view place changes) after made
    (λ x ok same. ap (fits k) (sym same) ∙ dict_kind k x place))
merged_kind (body.Queue view) (body.Queue place) after updates k e =
    option_and_then_some _ (all_changes queue_change updates) after e (λ changes all made.
    accepted body.Queue (queue_merged view place changes) after made
    (λ x ok same. ap (fits k) (sym same) ∙ queue_kind k x place))
merged_kind _ _ after updates k e = absurd (cc)

-- updates that are all changes of one class fit whatever its changes fit
all_fit : {C : Type 0} (change_of : Update → Option C) (P : Update → Type 0)
    → ((update : Update) (c : C) → change_of update ≡ Some c → P update)
    → (updates : List Update) (changes : List C) → all_changes change_of updates ≡ Some changes
    → All P updates
all_fit change_of P fit [] changes e = All-nil P
all_fit change_of P fit (update ∷ rest) changes e =
    option_and_then_some _ (change_of update) changes e (λ first is others.
    mapped_more first (all_changes change_of rest) changes others (λ more are same.
    All-cons P update rest (fit update first is) (all_fit change_of P fit rest more are)))

abbrev FitsBoth : Body → Body → Update → Type 0
FitsBoth view place update = (fits_update update view ≡ true) × (fits_update update place ≡ true)

pub merged_fit : (view place after : Body) (updates : List Update)
    → merged view place updates ≡ Some after → All (FitsBoth view place) updates
merged_fit (body.Counter view) (body.Counter place) after updates e =
    option_and_then_some _ (all_changes counter_change updates) after e (λ changes all made.
    all_fit counter_change (FitsBoth (body.Counter view) (body.Counter place)) fit updates changes all)
  where
    fit : (update : Update) (c : ℤ) → counter_change update ≡ Some c
        → FitsBoth (body.Counter view) (body.Counter place) update
    fit (change.Counter by) c is = (refl, refl)
    fit _ c is = absurd (cc)
merged_fit (body.Bag view) (body.Bag place) after updates e =
    option_and_then_some _ (all_changes bag_change updates) after e (λ changes all made.
    all_fit bag_change (FitsBoth (body.Bag view) (body.Bag place)) fit updates changes all)
  where
    fit : (update : Update) (c : BagUpdate Value) → bag_change update ≡ Some c
        → FitsBoth (body.Bag view) (body.Bag place) update
    fit (change.Bag c) d is = (refl, refl)
    fit _ c is = absurd (cc)
merged_fit (body.RcDict view) (body.RcDict place) after updates e =
    option_and_then_some _ (all_changes dict_change updates) after e (λ changes all made.
    all_fit dict_change (FitsBoth (body.RcDict view) (body.RcDict place)) fit updates changes all)
  where
    fit : (update : Update) (c : DictUpdate Value Value) → dict_change update ≡ Some c
        → FitsBoth (body.RcDict view) (body.RcDict place) update
    fit (change.RcDict c) d is = (refl, refl)
    fit _ c is = absurd (cc)
merged_fit (body.Queue view) (body.Queue place) after updates e =
    option_and_then_some _ (all_changes queue_change updates) after e (λ changes all made.
    all_fit queue_change (FitsBoth (body.Queue view) (body.Queue place)) fit updates changes all)
  where
    fit : (update : Update) (c : QueueUpdate Value) → queue_change update ≡ Some c
        → FitsBoth (body.Queue view) (body.Queue place) update
    fit (change.Queue c) d is = (refl, refl)
    fit _ c is = absurd (cc)
merged_fit _ _ after updates e = absurd (cc)
