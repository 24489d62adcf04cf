-- An object that is put into another segment.
use Rattle.std.proofs.Common.{◌≡◌, ◌∙◌, refl, sym, ap, ap₂, ℕ, Bool, true, false, ◌&&◌, nat_lt, Option, Some, None, List, [], ◌∷◌, ◌++◌, fold, is_some, Ok, true≢false}
use Rattle.std.proofs.lemmas.Bool.{false≢true, and_parts, and_from}
use Rattle.std.proofs.lemmas.List.Sums.{fold-append}
use Rattle.std.specs.List.{list_all}
use Rattle.std.specs.FinMap.{get}
use Rattle.gem_object.specs.References.{names_in_body}
use Rattle.gem_object.specs.declared.value.Value.TheVariants as value
use Rattle.gem_image.specs.Image.{Contents}
use Rattle.gem_world.specs.World.{shown}
use Rattle.gem_world.specs.Changes.{in_segment, put}
use Rattle.object_programs.specs.gem_sound.Sound.{names_in}
use Rattle.object_programs.specs.Fixed.{class_part, Fixed, fixed_by}
use Rattle.object_programs.specs.Guard.{Parts, holds_of, is_there, is_segment, is_known, is_segment_at, asked_names, line_at, line_of_class, fits, may_change, may_replace}
use Rattle.object_programs.specs.Atom.{Move, with_missing, touch_missing, replaced_where, edited_at, edited}
use Rattle.object_programs.specs.Laws.{answered, lacking}
use Rattle.object_programs.proofs.Exact.{edited_apart}
use Rattle.running_objects.specs.Seen.{Seen, IsSoundState}
use Rattle.running_objects.specs.Acted.{Acted}
use Rattle.running_objects.proofs.Running.{acted_says}
use Rattle.running_objects.proofs.Edits.{parts_stay, replace_is}
use Rattle.running_objects.proofs.Puts.{none_missing, known_refs, rest_known}
use Rattle.plain_state.specs.Edit.{edited_by}
use Rattle.plain_state.specs.declared.edit.Edit.TheVariants.{MoveTo}
use Rattle.plain_state.specs.Overlay.{changed_at}
use Rattle.plain_state.specs.Parts.{missed_value, edited_in}
use Rattle.plain_state.proofs.Slots.{old_shown, value_missing, value_missed, missed_setting, missed_budget}

segment_by : (found : Option Fixed) → holds_of (λ fixed. is_segment fixed.kind) found ≡ true
    → holds_of is_there found ≡ true
segment_by None holds = absurd (false≢true holds)
segment_by (Some fixed) holds = refl

last_test : (known segment : Bool) → (segment ≡ true → known ≡ true) → ((known && true) && (segment && true)) ≡ segment
last_test true true implied = refl
last_test true false implied = refl
last_test false true implied = absurd (true≢false (sym (implied refl)))
last_test false false implied = refl

module _ (x : Seen) (name segment : ℕ) (sound : IsSoundState x) where
  pub move_fits : (old : Contents) → shown name x.setting x.world ≡ Some old
      → may_replace name old (in_segment segment old) x.setting x.world ≡ is_segment_at (fixed_by x.setting x.world) segment
  unfolding fits
  move_fits old there =
      let parts : Parts = fixed_by x.setting x.world in
      let one = and_parts (nat_lt 0 name) _ (sound.each name old there) in
      let two = and_parts (list_all (is_known parts) (names_in old)) _ one.1 in
      let class = and_parts (is_known parts old.class) _ two.0 in
      let lies = and_parts (is_known parts old.segment) _ class.1 in
      let three = and_parts (is_segment_at parts old.segment) _ two.1 in
      replace_is x.setting x.world name old sound there (in_segment segment old) refl
      ∙ rw (one.0, class.0, lies.1, three.1) (last_test (is_known parts segment) (is_segment_at parts segment)
      (segment_by (parts segment)))

  moved_by : (y : Seen) → y.setting ≡ x.setting → y.budget ≡ x.budget
      → edited name (in_segment segment) x.setting x.world ≡ y.world → Acted (Move name segment) x (Ok tt) y
  moved_by y setting budget left = acted_says (Move name segment) x y tt setting
      (ap₂ (λ world budget. answered tt world budget) left (sym budget))

  by_test : (old : Contents) (may : Bool) → get x.world.changes name ≡ Some old
      → (may_change name old x.setting x.world && is_segment_at (fixed_by x.setting x.world) segment) ≡ may
      → edited name (in_segment segment) x.setting x.world
      ≡ replaced_where may name None (in_segment segment old) x.setting x.world
  unfolding edited
  by_test old may written is =
      ap (λ found. edited_at name (in_segment segment) found x.setting x.world) written
      ∙ ap (λ b. replaced_where b name None (in_segment segment old) x.setting x.world)
      (ap (λ b. may_change name old x.setting x.world && b) (move_fits old (old_shown x name old written)) ∙ is)

  moved_apart : get x.world.changes name ≡ None → Acted (Move name segment) x (Ok tt) x
  moved_apart none = moved_by x refl refl (edited_apart name (in_segment segment) x.setting x.world none)

  apart_by : (found : Option Contents) → get x.world.changes name ≡ found → is_some found ≡ false
      → Acted (Move name segment) x (Ok tt) x
  apart_by None there none = moved_apart there
  apart_by (Some old) there none = absurd (true≢false none)

  pub move_apart : is_some (get x.world.changes name) ≡ false → Acted (Move name segment) x (Ok tt) x
  move_apart none = apart_by (get x.world.changes name) refl none

  done_by : (found : Option Contents) → get x.world.changes name ≡ found
      → holds_of (λ object. may_change name object x.setting x.world
      && is_segment_at (fixed_by x.setting x.world) segment) found ≡ true
      → Acted (Move name segment) x (Ok tt) (edited_in name (edited_by (MoveTo segment)) x)
  unfolding put
  done_by None there may = absurd (false≢true may)
  done_by (Some old) there may = moved_by (edited_in name (edited_by (MoveTo segment)) x) refl refl
      (by_test old true there may
      ∙ sym (ap (λ (found : Option Contents). record x.world { changes = changed_at name (edited_by (MoveTo segment)) found x.world.changes }) there))

  pub move_done : holds_of (λ object. may_change name object x.setting x.world
      && is_segment_at (fixed_by x.setting x.world) segment) (get x.world.changes name) ≡ true
      → Acted (Move name segment) x (Ok tt) (edited_in name (edited_by (MoveTo segment)) x)
  move_done may = done_by (get x.world.changes name) refl may

  move_lacking : (old : Contents) → shown name x.setting x.world ≡ Some old
      → lacking name (in_segment segment old) x.setting x.world ≡ (missed_value (value.Ref segment) x).world
  unfolding touch_missing value_missing
  move_lacking old there =
      let parts : Parts = fixed_by x.setting x.world in
      let refs = known_refs x.setting x.world sound name old there in
      let class = and_parts (is_known parts old.class) _ refs in
      let lies = and_parts (is_known parts old.segment) _ class.1 in
      let above : List ℕ = line_at parts old.class ++ line_of_class (class_part old.body) (line_at parts) in
      let head : list_all (is_known parts) (old.class ∷ []) ≡ true = and_from (is_known parts old.class) true class.0 refl in
      ap (λ (parts : Parts). touch_missing parts (asked_names parts (in_segment segment old)) x.world)
      (parts_stay x.setting x.world name old sound there (in_segment segment old) refl)
      ∙ ap (λ touched. record x.world { touched = touched })
      (fold-append (with_missing parts) x.world.touched (old.class ∷ segment ∷ names_in_body old.body) above
      ∙ none_missing parts above _ (rest_known x.setting x.world sound name old there)
      ∙ fold-append (with_missing parts) x.world.touched (old.class ∷ []) (segment ∷ names_in_body old.body)
      ∙ ap (λ begun. fold (with_missing parts) begun (segment ∷ names_in_body old.body))
      (none_missing parts (old.class ∷ []) x.world.touched head)
      ∙ none_missing parts (names_in_body old.body) _ lies.1)
      ∙ value_missed x (value.Ref segment)

  lacks_by : (found : Option Contents) → get x.world.changes name ≡ found → is_some found ≡ true
      → holds_of (λ object. may_change name object x.setting x.world
      && is_segment_at (fixed_by x.setting x.world) segment) found ≡ false
      → Acted (Move name segment) x (Ok tt) (missed_value (value.Ref segment) x)
  lacks_by None there some may = absurd (false≢true some)
  lacks_by (Some old) there some may = moved_by (missed_value (value.Ref segment) x)
      (missed_setting x (value.Ref segment)) (missed_budget x (value.Ref segment))
      (by_test old false there may ∙ move_lacking old (old_shown x name old there))

  pub move_lacks : is_some (get x.world.changes name) ≡ true
      → holds_of (λ object. may_change name object x.setting x.world
      && is_segment_at (fixed_by x.setting x.world) segment) (get x.world.changes name) ≡ false
      → Acted (Move name segment) x (Ok tt) (missed_value (value.Ref segment) x)
  move_lacks some may = lacks_by (get x.world.changes name) refl some may
