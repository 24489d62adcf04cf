-- What the calls of a class answer, told with the faults that they name.
use Rattle.std.proofs.Common.{◌≡◌, ℕ, Bool, true, false, Option, Some, None, Result, Ok, Err, refl, ap, sym, ◌∙◌}
use Rattle.std.specs.Option.{ok_or}
use Rattle.std.specs.Result.{OnOk, IfOk, IfErr, IsErrOf, MatchResult}
use Rattle.std.proofs.lemmas.Bool.{false≢true}
use Rattle.gem_object.specs.rc_counter_bag.declared.update.BagFault.{BagFault}
use Rattle.gem_object.specs.rc_counter_bag.declared.update.BagFault.TheVariants as bag_fault
use Rattle.gem_object.specs.rc_dict.declared.update.DictFault.{DictFault}
use Rattle.gem_object.specs.rc_dict.declared.update.DictFault.TheVariants as dict_fault
use Rattle.gem_object.specs.rc_queue.declared.update.QueueFault.{QueueFault}
use Rattle.gem_object.specs.rc_queue.declared.update.QueueFault.TheVariants as queue_fault
use Rattle.gem_update.specs.Outcomes.{by_fault, is_bag_memory, is_dict_memory, is_queue_memory}

-- each fault that isn't want of memory names an index, and else it is that one
module _ {F : Type 0} (is_memory : F → Bool) (fault : ℕ → F) (no_memory : F) where
  pub record Names : Type 0 where
    pub index : (f : F) → is_memory f ≡ false → (at : ℕ) × (f ≡ fault at)
    pub memory : (f : F) → is_memory f ≡ true → f ≡ no_memory

pub bag_names : Names is_bag_memory bag_fault.Missing bag_fault.NoMemory
bag_names = record { index = bag_index; memory = bag_memory }
  where
    bag_index : (f : BagFault) → is_bag_memory f ≡ false → (at : ℕ) × (f ≡ bag_fault.Missing at)
    bag_index (bag_fault.Missing at) unlike = (at, refl)
    bag_index bag_fault.NoMemory unlike = absurd (false≢true (sym unlike))

    bag_memory : (f : BagFault) → is_bag_memory f ≡ true → f ≡ bag_fault.NoMemory
    bag_memory (bag_fault.Missing at) like = absurd (false≢true like)
    bag_memory bag_fault.NoMemory like = refl

pub dict_names : Names is_dict_memory dict_fault.Key dict_fault.NoMemory
dict_names = record { index = dict_index; memory = dict_memory }
  where
    dict_index : (f : DictFault) → is_dict_memory f ≡ false → (at : ℕ) × (f ≡ dict_fault.Key at)
    dict_index (dict_fault.Key at) unlike = (at, refl)
    dict_index dict_fault.NoMemory unlike = absurd (false≢true (sym unlike))

    dict_memory : (f : DictFault) → is_dict_memory f ≡ true → f ≡ dict_fault.NoMemory
    dict_memory (dict_fault.Key at) like = absurd (false≢true like)
    dict_memory dict_fault.NoMemory like = refl

pub queue_names : Names is_queue_memory queue_fault.Remove queue_fault.NoMemory
queue_names = record { index = queue_index; memory = queue_memory }
  where
    queue_index : (f : QueueFault) → is_queue_memory f ≡ false
        → (at : ℕ) × (f ≡ queue_fault.Remove at)
    queue_index (queue_fault.Remove at) unlike = (at, refl)
    queue_index queue_fault.NoMemory unlike = absurd (false≢true (sym unlike))

    queue_memory : (f : QueueFault) → is_queue_memory f ≡ true → f ≡ queue_fault.NoMemory
    queue_memory (queue_fault.Remove at) like = absurd (false≢true like)
    queue_memory queue_fault.NoMemory like = refl

module _ {F : Type 0} {is_memory : F → Bool} {fault : ℕ → F} {no_memory : F}
    (names : Names is_memory fault no_memory) where
  module _ {T X : Type 0} where
    pub updated_ok : (r : Result T F) (after : Option X) (new : X) → OnOk r (after ≡ Some new)
        → OnOk r (ok_or after (fault 0) ≡ Ok new)
    updated_ok (Ok x) after new is = ap (λ o. ok_or o (fault 0)) is
    updated_ok (Err e) after new is = tt

    pub updated_refused : (r : Result T F) (after : Option X)
        → ((at : ℕ) → IsErrOf r (fault at) → at ≡ 0) → (IsErrOf r (fault 0) → after ≡ None)
        → IfErr r (λ f. is_memory f ≡ false → ok_or after (fault 0) ≡ Err f)
    updated_refused (Ok x) after first none = tt
    updated_refused (Err e) after first none = λ unlike.
        let named = names.index e unlike in
        let zeroth : e ≡ fault 0 = named.1 ∙ ap fault (first named.0 (ap Err named.1)) in
        ap (λ o. ok_or o (fault 0)) (none (ap Err zeroth)) ∙ ap Err (sym zeroth)

    pub updated_refuses : (r : Result T F) (after : Option X)
        → (after ≡ None → IsErrOf r (fault 0))
        → (f : F) → ok_or after (fault 0) ≡ Err f → IsErrOf r f
    updated_refuses r None refuses f is =
        let same : fault 0 ≡ f = cc in refuses refl ∙ ap Err same
    updated_refuses r (Some x) refuses f is = cc

  pub updated_memory : {T : Type 0} (r : Result T F) (needs : Type 0)
      → (IsErrOf r no_memory → needs) → IfErr r (λ f. is_memory f ≡ true → needs)
  updated_memory (Ok x) needs only = tt
  updated_memory (Err e) needs only = λ like. only (ap Err (names.memory e like))

  pub merged_says : {X : Type 0} (r : Result X F) (after : Result X ℕ)
      → IfOk r (λ x. after ≡ Ok x) → ((at : ℕ) → IsErrOf r (fault at) → after ≡ Err at)
      → MatchResult r (λ x. by_fault fault after ≡ Ok x)
      (λ f. is_memory f ≡ false → by_fault fault after ≡ Err f)
  merged_says (Ok x) after ok refused = ap (by_fault fault) ok
  merged_says (Err e) after ok refused = λ unlike.
      let named = names.index e unlike in
      ap (by_fault fault) (refused named.0 (ap Err named.1)) ∙ ap Err (sym named.1)
