-- A dictionary as the list of its pairs; what an update leaves of it, and what a merge of updates
-- does.
use Rattle.std.specs.Prelude.{ℕ, ◌+◌, Bool, true, false, if◌then◌else◌, List, [], ◌∷◌, Option, Some, None, is_some, is_none, Result, Ok, Err}
use Rattle.std.specs.declared.cmp.Ordering.{Ordering}
use Rattle.std.specs.Ordering.{is_eq, match_ordering}
use Rattle.sorted_pairs.specs.Place.{Ascends}
use Rattle.rc_dict.specs.declared.update.DictUpdate.{DictUpdate}
use Rattle.rc_dict.specs.declared.update.DictUpdate.TheVariants.{Put, Remove}

module _ {K T : Type 0} where
  -- the key that the update changes
  abbrev pub key_of : DictUpdate K T → K
  key_of (Put key value) = key
  key_of (Remove key) = key

  -- the value that the update leaves at its key
  abbrev pub value_of : DictUpdate K T → Option T
  value_of (Put key value) = Some value
  value_of (Remove key) = None

  -- the keys ascend strictly
  abbrev pub IsDict : (K → K → Ordering) → List (K × T) → Type 0
  IsDict cmp pairs = Ascends cmp pairs

  -- the dictionary, or a refusal at this index
  abbrev pub unless_changed : Option ℕ → List (K × T) → Result (List (K × T)) ℕ
  unless_changed None pairs = Ok pairs
  unless_changed (Some at) pairs = Err at

  module _ (cmp : K → K → Ordering) where
    -- the key's value, if it has one
    abbrev pub entry : K → List (K × T) → Option T
    entry key [] = None
    entry key (pair ∷ rest) = if is_eq (cmp pair.0 key) then Some pair.1 else entry key rest

    -- with this pair, in place of one of the same key or at its place in the order
    abbrev pub put : K → T → List (K × T) → List (K × T)
    put key value [] = (key, value) ∷ []
    put key value (pair ∷ rest) = match_ordering (cmp pair.0 key)
        (pair ∷ put key value rest)
        ((key, value) ∷ rest)
        ((key, value) ∷ pair ∷ rest)

    -- without the key's pair
    abbrev pub without : K → List (K × T) → List (K × T)
    without key [] = []
    without key (pair ∷ rest) = if is_eq (cmp pair.0 key) then rest else pair ∷ without key rest

    -- the dictionary after the update, which may remove a key that has no value
    abbrev pub settled : DictUpdate K T → List (K × T) → List (K × T)
    settled (Put key value) pairs = put key value pairs
    settled (Remove key) pairs = without key pairs

    -- the dictionary after the update, or None where it is refused: where it removes a key that has
    -- no value
    abbrev pub updated : DictUpdate K T → List (K × T) → Option (List (K × T))
    updated (Put key value) pairs = Some (put key value pairs)
    updated (Remove key) pairs =
        if is_some (entry key pairs) then Some (without key pairs) else None

    -- the update puts a key that has no value yet
    abbrev pub puts_new : DictUpdate K T → List (K × T) → Bool
    puts_new (Put key value) pairs = is_none (entry key pairs)
    puts_new (Remove key) pairs = false

    -- the dictionary after the updates, one after another
    abbrev pub all_settled : List (DictUpdate K T) → List (K × T) → List (K × T)
    all_settled [] pairs = pairs
    all_settled (update ∷ rest) pairs = all_settled rest (settled update pairs)

    -- what the updates leave at the key, where it had this entry: what the last update of the key
    -- leaves
    abbrev pub last_entry : K → List (DictUpdate K T) → Option T → Option T
    last_entry key [] before = before
    last_entry key (update ∷ rest) before = last_entry key rest
        (if is_eq (cmp (key_of update) key) then value_of update else before)

-- no value twice, or values that compare as equal
abbrev pub same_entry : {T : Type 0} → (T → T → Ordering) → Option T → Option T → Bool
same_entry cmp None None = true
same_entry cmp None (Some now) = false
same_entry cmp (Some before) None = false
same_entry cmp (Some before) (Some now) = is_eq (cmp before now)

module _ {K T : Type 0} (cmp : K → K → Ordering) (value_cmp : T → T → Ordering) where
  -- the key has the same entry in both
  abbrev pub is_same_at : K → List (K × T) → List (K × T) → Bool
  is_same_at key view place = same_entry value_cmp (entry cmp key view) (entry cmp key place)

  -- the index of the first update whose key's entry at the place isn't the one at the view, where
  -- the updates are numbered from `at`
  abbrev pub first_changed : List (K × T) → List (K × T) → ℕ → List (DictUpdate K T) → Option ℕ
  first_changed view place at [] = None
  first_changed view place at (update ∷ rest) =
      if is_same_at (key_of update) view place
      then first_changed view place (at + 1) rest
      else Some at

  -- What a commit makes of updates that were made at the view: the first whose key was changed
  -- since is refused, and else they are applied in order at the place, so that the last update of
  -- each key stands.
  abbrev pub merged : List (K × T) → List (K × T) → List (DictUpdate K T) → Result (List (K × T)) ℕ
  merged view place updates =
      unless_changed (first_changed view place 0 updates) (all_settled cmp updates place)
