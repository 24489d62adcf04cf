-- A value that is put into a slot without a look whether there is that slot.
use Rattle.std.proofs.Common.{◌≡◌, ◌∙◌, refl, sym, ap, subst, ℕ, Bool, true, false, cond, nat_eq, nat_lt, Option, Some, None, Result, Ok, Err}
use Rattle.std.specs.Prelude.{OnOk}
use Rattle.std.proofs.lemmas.Bool.{false≢true, eqb-true, and_parts}
use Rattle.std.proofs.lemmas.Option.{none-some}
use Rattle.std.specs.Ordering.{nat_cmp}
use Rattle.std.specs.Option.{option_or}
use Rattle.std.specs.FinMap.{FinMap, get}
use Rattle.gem_object.specs.Edits.{plain_slots, with_slot}
use Rattle.gem_object.specs.declared.value.Value.{Value}
use Rattle.gem_object.specs.declared.body.Body.{Body}
use Rattle.gem_image.specs.Image.{Contents}
use Rattle.gem_image.proofs.radix_pages_lemmas.Tables.{same_keys}
use Rattle.gem_world.specs.World.{before_changes}
use Rattle.gem_world.specs.Changes.{with_body}
use Rattle.object_programs.specs.Budget.{is_small}
use Rattle.object_programs.specs.Fixed.{fixed_by}
use Rattle.object_programs.specs.Guard.{holds_of}
use Rattle.running_objects.specs.Seen.{Seen, object_at, IsSoundState}
use Rattle.running_objects.specs.Acted.{Edited, EditedWithin}
use Rattle.running_objects.specs.Fitting.{may_enter}
use Rattle.plain_state.specs.Edit.{with_slot_put, takes_value}
use Rattle.plain_state.specs.Overlay.{changed_at}
use Rattle.plain_state.specs.Parts.{edited_in}
use Rattle.plain_state.proofs.Changes.{get_either}
use Rattle.plain_state.proofs.Slots.{old_shown, slot_set, no_slot, no_slot_in, edited_as}

-- what is written at a name as it was changes nothing
changed_same : (changes : FinMap nat_cmp Contents) (name : ℕ) (edit : Contents → Contents) (found : Option Contents)
    → get changes name ≡ found → ((old : Contents) → found ≡ Some old → edit old ≡ old)
    → changed_at name edit found changes ≡ changes
changed_same changes name edit None there stays = refl
changed_same changes name edit (Some old) there stays = same_keys _ _ (λ q.
    get_either changes name q (edit old) ∙ by q (nat_eq q name) refl)
  where
    by : (q : ℕ) (b : Bool) → nat_eq q name ≡ b → cond b (Some (edit old)) (get changes q) ≡ get changes q
    by q true same = ap Some (stays old refl) ∙ sym (ap (get changes) (eqb-true q name same) ∙ there)
    by q false apart = refl

module _ (x : Seen) (name : ℕ) where
  edited_same : (edit : Contents → Contents) → ((old : Contents) → get x.world.changes name ≡ Some old → edit old ≡ old)
      → edited_in name edit x ≡ x
  edited_same edit stays =
      ap (λ (changes : FinMap nat_cmp Contents). record x { world = record x.world { changes = changes } })
      (changed_same x.world.changes name edit (get x.world.changes name) refl stays)

  -- where there is no object none was written
  pub unwritten : object_at name x ≡ None → get x.world.changes name ≡ None
  unwritten absent = by (get x.world.changes name) absent
    where
      by : (found : Option Contents) → option_or found (before_changes name x.setting) ≡ None → found ≡ None
      by None none = refl
      by (Some old) none = absurd (none-some old (sym none))

  pub edited_absent : (edit : Contents → Contents) → object_at name x ≡ None → edited_in name edit x ≡ x
  edited_absent edit absent = edited_same edit
      (λ old written. absurd (none-some old (sym (unwritten absent) ∙ written)))

  -- what is told of a written object isn't told where there is no object
  pub untold : (test : Contents → Bool) → holds_of test (get x.world.changes name) ≡ true → object_at name x ≡ None → ⊥
  untold test told absent = false≢true (sym (ap (holds_of test) (unwritten absent)) ∙ told)

  module _ (at : ℕ) (value : Value) (sound : IsSoundState x) where
    pub slot_put : may_enter (fixed_by x.setting x.world) value ≡ true
        → Edited name (with_slot at value) x (Ok tt) (edited_in name (with_slot_put at value) x)
    slot_put enters = by (holds_of (λ object. nat_lt at (plain_slots object.body)) (get x.world.changes name)) refl
      where
        by : (b : Bool) → holds_of (λ object. nat_lt at (plain_slots object.body)) (get x.world.changes name) ≡ b
            → Edited name (with_slot at value) x (Ok tt) (edited_in name (with_slot_put at value) x)
        by true has = slot_set x name at value sound has enters
        by false has = edited_as name (with_slot at value) (no_slot x name at value sound has)
            (edited_same (with_slot_put at value) (λ old written. ap (λ (one : Body). with_body one old)
            (no_slot_in x name at value sound old.body
            (sym (ap (holds_of (λ object. nat_lt at (plain_slots object.body))) written) ∙ has))))

    -- where the object takes the value, it is put within the limits
    put_where : holds_of (takes_value at value) (get x.world.changes name) ≡ true
        → may_enter (fixed_by x.setting x.world) value ≡ true
        → EditedWithin name (with_slot at value) x (edited_in name (with_slot_put at value) x)
    put_where takes enters = by (get x.world.changes name) refl takes
      where
        by : (found : Option Contents) → get x.world.changes name ≡ found → holds_of (takes_value at value) found ≡ true
            → EditedWithin name (with_slot at value) x (edited_in name (with_slot_put at value) x)
        by None written takes = absurd (false≢true takes)
        by (Some old) written takes =
            let both = and_parts (nat_lt at (plain_slots old.body)) (is_small (with_slot at value old.body)) takes in
            let there : object_at name x ≡ Some old = old_shown x name old written in
            record {
              object = old;
              there = there;
              small = both.1;
              acted = slot_set x name at value sound
                  (ap (holds_of (λ object. nat_lt at (plain_slots object.body))) written ∙ both.0) enters old there;
            }

    pub put_within : (y : Seen) → may_enter (fixed_by x.setting x.world) value ≡ true
        → (result : Result (Unit {0}) Value)
        → OnOk result (y ≡ edited_in name (with_slot_put at value) x)
        → OnOk result (holds_of (takes_value at value) (get x.world.changes name) ≡ true)
        → OnOk result (EditedWithin name (with_slot at value) x y)
    put_within y enters (Ok nothing) is takes =
        subst (EditedWithin name (with_slot at value) x) (sym is) (put_where takes enters)
    put_within y enters (Err given) is takes = tt
