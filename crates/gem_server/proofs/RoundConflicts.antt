-- No conflict stands against a round, whatever other rounds were committed since its view.
use Rattle.std.proofs.Common.{◌≡◌, ℕ, ℤ, pos, ◌+ℤ◌, ◌≤◌, Bool, true, false, ◌&&◌, ◌||◌, List, [], ◌∷◌, Option, Some, None, IfSome, option_map, refl, sym, ap, ap₂, subst, ◌∙◌}
use Rattle.std.proofs.lemmas.Bool.{le-ltb}
use Rattle.std.specs.declared.cmp.Ordering.{Ordering}
use Rattle.std.specs.declared.cmp.Ordering.TheVariants.{Less, Equal, Greater}
use Rattle.std.specs.Prelude.{nat_lt, is_some, option_and_then, if◌then◌else◌}
use Rattle.std.specs.Result.{result_ok}
use Rattle.std.specs.List.{AllByRecursion, list_any}
use Rattle.std.specs.Ordering.{nat_cmp, is_eq, eq_by_cmp}
use Rattle.std.specs.FinMap.{get, empty, nat_cmp-IsAntisymmetric}
use Rattle.gem_meaning.specs.texts.SmallInteger.{is_small_integer}
use Rattle.gem_meaning.specs.gem_value.declared.conflict.Conflict.{Conflict}
use Rattle.gem_meaning.specs.gem_value.declared.conflict.ConflictKind.{ConflictKind}
use Rattle.gem_meaning.specs.gem_object.declared.object.Object.{Object}
use Rattle.gem_meaning.specs.gem_object.declared.value.Value.{Value}
use Rattle.gem_meaning.specs.gem_object.declared.body.Body.{Body}
use Rattle.gem_meaning.specs.gem_object.declared.body.Body.TheVariants as body
use Rattle.gem_meaning.specs.rc_counter_bag.Counter.{total}
use Rattle.gem_meaning.specs.rc_counter_bag.declared.update.BagUpdate.TheVariants.{Add}
use Rattle.gem_meaning.specs.gem_image.Image.{Image, Contents, contents_of}
use Rattle.gem_meaning.specs.gem_update.Outcomes.{counter_or_range}
use Rattle.gem_meaning.specs.gem_update.Update.{merged}
use Rattle.gem_meaning.specs.gem_update.declared.update.Update.{Update}
use Rattle.gem_meaning.specs.gem_update.declared.update.Update.TheVariants as change
use Rattle.gem_meaning.specs.gem_record.declared.record.TxnRecord.{TxnRecord}
use Rattle.gem_meaning.specs.gem_record.declared.record.Entry.{Entry}
use Rattle.gem_meaning.specs.gem_record.Record.{record_of}
use Rattle.gem_meaning.specs.gem_world.World.{Setting, World}
use Rattle.gem_meaning.specs.gem_record.Names.{under}
use Rattle.gem_meaning.specs.commit_check.Conflicts.{changed_of, checks_reads, is_touched, is_checked, change_kind, later_change, on_change, made_or_refused, merge_of, merge_at, conflict_in, conflicts_of}
use Rattle.gem_server.specs.Rounds.{hits, names, hits_contents, names_contents, with_name, round_name, IsLoaded, IsRoundRecord, MeetsRound}
use Rattle.gem_server.proofs.NoConflicts.{no_change, no_conflicts}

is_same : (order : Ordering) → is_eq order ≡ true → order ≡ Equal
is_same Less same = absurd cc
is_same Equal same = refl
is_same Greater same = absurd cc

same_number : (a b : ℕ) → eq_by_cmp nat_cmp a b ≡ true → a ≡ b
same_number a b same = nat_cmp-IsAntisymmetric a b (is_same (nat_cmp a b) same)

second_true : (first second : Bool) → (first && second) ≡ true → second ≡ true
second_true true second both = both
second_true false second both = absurd cc

-- ---- what was touched

below_all : (oid : ℕ) (touched : List ℕ) → AllByRecursion (λ name. name ≤ 35) touched
    → list_any (eq_by_cmp nat_cmp oid) touched ≡ true → oid ≤ 35
below_all oid [] all among = absurd cc
below_all oid (name ∷ touched) all among = by (λ more. below_all oid touched all.1 more) (eq_by_cmp nat_cmp oid name) refl
  where
    by : (list_any (eq_by_cmp nat_cmp oid) touched ≡ true → oid ≤ 35) → (here : Bool) → eq_by_cmp nat_cmp oid name ≡ here → oid ≤ 35
    by further true is = subst (λ (n : ℕ). n ≤ 35) (sym (same_number oid name is)) all.0
    by further false is = further (sym (ap (λ (b : Bool). b || list_any (eq_by_cmp nat_cmp oid) touched) is) ∙ among)

none_kind : (object : Option Object) (view oid : ℕ) → option_and_then (later_change view oid None) object ≡ None
none_kind None view oid = refl
none_kind (Some object) view oid = by (nat_lt view object.changed)
  where
    by : (later : Bool) → (if later then option_map {U = Conflict} (λ (k : ConflictKind). record { oid = oid; kind = k; shown = object.changed }) None else None) ≡ None
    by true = refl
    by false = refl

not_later : (object : Option Object) (view : ℕ) → changed_of object ≤ view → IfSome object (λ o. nat_lt view o.changed ≡ false)
not_later None view below = tt
not_later (Some object) view below = le-ltb view object.changed below

-- ---- merges

pub counter_merged_is : (view place : ℤ) (number : ℕ) → is_small_integer (place +ℤ total (pos number ∷ [])) ≡ true
    → merged (hits_contents view).body (hits_contents place).body (change.Counter (pos number) ∷ [])
    ≡ Some (hits_contents (place +ℤ total (pos number ∷ []))).body
counter_merged_is view place number small = ap (λ (b : Bool). option_map body.Counter (result_ok (counter_or_range
    (if b then Some (place +ℤ total (pos number ∷ [])) else None)))) small

pub bag_merged_is : (view place : List (Value × ℕ)) (number : ℕ)
    → merged (names_contents view).body (names_contents place).body (change.Bag (Add (round_name number)) ∷ [])
    ≡ Some (names_contents (with_name number place)).body
bag_merged_is view place number = refl

pub some_is : {A : Type 0} (x y : A) → Some x ≡ Some y → x ≡ y
some_is x y same = cc

-- where the objects hold bodies that merge, there is no refusal
merges : (oid : ℕ) (updates : List Update) (view place : Option Object) (view_has place_has : Contents) (made : Body)
    → option_map contents_of view ≡ Some view_has → option_map contents_of place ≡ Some place_has
    → merged view_has.body place_has.body updates ≡ Some made → conflict_in (merge_of oid (Some updates) view place) ≡ []
merges oid updates None place view_has place_has made there found merges_so = absurd cc
merges oid updates (Some view) None view_has place_has made there found merges_so = absurd cc
merges oid updates (Some view) (Some place) view_has place_has made there found merges_so =
    let before : view.body ≡ view_has.body = ap (λ (c : Contents). c.body) (some_is (contents_of view) view_has there) in
    let here : place.body ≡ place_has.body = ap (λ (c : Contents). c.body) (some_is (contents_of place) place_has found) in
    ap (λ (after : Option Body). conflict_in (made_or_refused oid place after))
    (ap₂ (λ (v p : Body). merged v p updates) before here ∙ merges_so)

module _ (number : ℕ) (image place : Image) (value : ℤ) (pairs : List (Value × ℕ)) (loaded : IsLoaded image value pairs)
    (done : TxnRecord) (rec : IsRoundRecord number done) (base : done.base ≡ image) (meets : MeetsRound number done.view place) where
  changes_none : (oid : ℕ) → on_change place done oid ≡ None
  changes_none oid =
      ap (λ (written : Bool). option_and_then (later_change done.view oid (change_kind written (is_checked done oid))) (get place oid))
      (ap (λ (written : List (ℕ × Object)). is_some (under oid written)) rec.written) ∙ by (is_checked done oid) refl
    where
      by : (checked : Bool) → is_checked done oid ≡ checked
          → option_and_then (later_change done.view oid (change_kind false checked)) (get place oid) ≡ None
      by false is = none_kind (get place oid) done.view oid
      by true is = no_change (get place oid) oid done.view (change_kind false true) (not_later (get place oid) done.view
          (meets.unchanged oid (below_all oid done.touched rec.touched
          (second_true (checks_reads done.mode) (is_touched done oid) is))))

  abbrev raise : List Update
  raise = change.Counter (pos number) ∷ []

  abbrev add : List Update
  add = change.Bag (Add (round_name number)) ∷ []

  at_hits : (oid : ℕ) → oid ≡ hits → conflict_in (merge_of oid (Some raise) (get image oid) (get place oid)) ≡ []
  at_hits oid is = merges oid raise (get image oid) (get place oid) (hits_contents value) (hits_contents meets.value)
      (hits_contents (meets.value +ℤ total (pos number ∷ []))).body
      (subst (λ (n : ℕ). option_map contents_of (get image n) ≡ Some (hits_contents value)) (sym is) (loaded hits))
      (subst (λ (n : ℕ). option_map contents_of (get place n) ≡ Some (hits_contents meets.value)) (sym is) (meets.loaded hits))
      (counter_merged_is value meets.value number meets.small)

  at_names : (oid : ℕ) → oid ≡ names → conflict_in (merge_of oid (Some add) (get image oid) (get place oid)) ≡ []
  at_names oid is = merges oid add (get image oid) (get place oid) (names_contents pairs) (names_contents meets.pairs)
      (names_contents (with_name number meets.pairs)).body
      (subst (λ (n : ℕ). option_map contents_of (get image n) ≡ Some (names_contents pairs)) (sym is) (loaded names))
      (subst (λ (n : ℕ). option_map contents_of (get place n) ≡ Some (names_contents meets.pairs)) (sym is) (meets.loaded names))
      (bag_merged_is pairs meets.pairs number)

  by_entry : (oid : ℕ) → conflict_in (merge_of oid (under oid ((hits, raise) ∷ (names, add) ∷ [])) (get image oid) (get place oid)) ≡ []
  by_entry oid = first (is_eq (nat_cmp hits oid)) refl
    where
      second : (here : Bool) → is_eq (nat_cmp names oid) ≡ here
          → conflict_in (merge_of oid (if here then Some add else None) (get image oid) (get place oid)) ≡ []
      second true is = at_names oid (sym (same_number names oid is))
      second false is = refl

      first : (here : Bool) → is_eq (nat_cmp hits oid) ≡ here
          → conflict_in (merge_of oid (if here then Some raise else (if is_eq (nat_cmp names oid) then Some add else None)) (get image oid) (get place oid)) ≡ []
      first true is = at_hits oid (sym (same_number hits oid is))
      first false is = second (is_eq (nat_cmp names oid)) refl

  merges_all : (oid : ℕ) → conflict_in (merge_at place done oid) ≡ []
  merges_all oid =
      ap (λ (updates : List (ℕ × List Update)). conflict_in (merge_of oid (under oid updates) (get done.base oid) (get place oid))) rec.updates
      ∙ ap (λ (b : Image). conflict_in (merge_of oid (under oid ((hits, raise) ∷ (names, add) ∷ [])) (get b oid) (get place oid))) base
      ∙ by_entry oid

  pub no_round_conflict : conflicts_of (record { image = place; locks = empty }) done ≡ []
  no_round_conflict = no_conflicts place done changes_none merges_all

-- ---- the record of a run

pub record_base : (entry : Entry) (s : Setting) (w : World) → (record_of entry s w).base ≡ s.view
unfolding record_of
record_base entry s w = refl

record_view : (entry : Entry) (s : Setting) (w : World) → (record_of entry s w).view ≡ entry.view
unfolding record_of
record_view entry s w = refl

pub no_conflict_at : (number : ℕ) (image place : Image) (value : ℤ) (pairs : List (Value × ℕ)) → IsLoaded image value pairs
    → (entry : Entry) (s : Setting) (w : World) → s.view ≡ image → IsRoundRecord number (record_of entry s w)
    → MeetsRound number entry.view place
    → conflicts_of (record { image = place; locks = empty }) (record_of entry s w) ≡ []
no_conflict_at number image place value pairs loaded entry s w view rec meets =
    no_round_conflict number image place value pairs loaded (record_of entry s w) rec (record_base entry s w ∙ view)
    (subst (λ (n : ℕ). MeetsRound number n place) (sym (record_view entry s w)) meets)
