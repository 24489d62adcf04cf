-- Names out of scope, by the slot of the instance variable of this name.
use Rattle.std.proofs.Common.{◌≡◌, sym, subst, ℕ, Bool, true, false, nat_lt, Option, Some, None, Result, Ok, Err}
use Rattle.std.specs.Result.{IsErrAnd}
use Rattle.gem_object.specs.texts.Bytes.{Bytes as Text}
use Rattle.gem_object.specs.Edits.{plain_slots, with_slot}
use Rattle.gem_object.specs.declared.value.Value.{Value}
use Rattle.gem_sound.specs.gem_image.Image.{Contents}
use Rattle.object_programs.specs.Run.{Run, give, fail, and_then}
use Rattle.object_programs.specs.Programs.{check, replace_body}
use Rattle.object_programs.specs.declared.fault.Fault.TheVariants as fault
use Rattle.gem_language.specs.prim_rules.Receivers.{check_stored}
use Rattle.gem_language.specs.tree_meaning.Place.{Frame, MadeBlock}
use Rattle.gem_language.specs.tree_meaning.Names.{index_of}
use Rattle.running_objects.specs.Seen.{Seen}
use Rattle.running_objects.specs.declared.stop.Stop.{Stop}
use Rattle.gem_language.specs.OutOfScope.{instance_names, slot_of, instance_value, set_instance_value, put_in_slot, global_value, value_of_name, read_out_of_scope, assign_name, write_out_of_scope}
use Rattle.prim_parts.specs.Does.{Does, Computes}
use Rattle.prim_parts.proofs.Does.{does_then, does_stop, does_give, does_assoc_back, computes_then}
use Rattle.prim_parts.proofs.Onward.{handed}
use Rattle.st_outside.proofs.Indexes.{IndexTold}

-- what is made of an answer, and what is done with that
with_given : {A C D : Type 0} {first : Run MadeBlock C} (given : C → D) {second : D → Run MadeBlock A}
    {before after : Seen} {result : Result A Stop}
    → Does (and_then (and_then first (λ answer. give (given answer))) second) before result after
    → Does (and_then first (λ answer. second (given answer))) before result after
with_given given does =
    let inner = does_assoc_back does in record { keeps = inner.keeps; ends = inner.ends }

module _ (name : Text) (frame : Frame) where
  -- it is told in which slot the value of the name is
  abbrev pub SlotTold : Seen → Result (Option ℕ) Stop → Seen → Type 0
  SlotTold before result after =
      Does (and_then (instance_names frame.holder) (λ names. give (slot_of frame.class_side name names))) before result after

  module _ (holder : ℕ) (of_holder : holder ≡ frame.holder) {before after : Seen} where
    at_holder : {result : Result (Option ℕ) Stop} → IndexTold name holder before result after
        → IndexTold name frame.holder before result after
    at_holder {result} told =
        let At : ℕ → Type 0 = λ holder. IndexTold name holder before result after in subst At of_holder told

    -- a method of the class side has none
    pub on_class_side : frame.class_side ≡ true → (found : Option ℕ) → IndexTold name holder before (Ok found) after
        → SlotTold before (Ok None) after
    on_class_side side found told =
        let At : Bool → Type 0 = λ side. Does (and_then (instance_names frame.holder) (λ names. give (slot_of side name names)))
        before (Ok None) after in
        let Of : Option ℕ → Run MadeBlock (Option ℕ) = λ (found : Option ℕ). give None in
        subst At (sym side)
        (with_given {first = instance_names frame.holder} (index_of name) {second = Of}
        (does_then (at_holder told) (does_give None after)))

    pub on_instance_side : frame.class_side ≡ false → (found : Option ℕ) → IndexTold name holder before (Ok found) after
        → SlotTold before (Ok found) after
    on_instance_side side found told =
        let At : Bool → Type 0 = λ side. Does (and_then (instance_names frame.holder) (λ names. give (slot_of side name names)))
        before (Ok found) after in
        subst At (sym side) (at_holder told)

    stopped_at : (side : Bool) {ended : Stop} → IndexTold name frame.holder before (Err ended) after
        → Does (and_then (instance_names frame.holder) (λ names. give (slot_of side name names))) before (Err ended) after
    stopped_at true told =
        let Of : Option ℕ → Run MadeBlock (Option ℕ) = λ (found : Option ℕ). give None in
        with_given {first = instance_names frame.holder} (index_of name) {second = Of} (does_stop told)
    stopped_at false told = told

    pub slot_stop : {ended : Stop} (result : Result (Option ℕ) Stop) → IsErrAnd result (λ given. given ≡ ended)
        → IndexTold name holder before (Err ended) after → SlotTold before result after
    slot_stop {ended} result exit told = handed (λ given. SlotTold before given after) result ended exit
        (stopped_at frame.class_side (at_holder told))

  -- what is read and written then
  module _ {before between after : Seen} {result : Result Value Stop} where
    pub read_then : (slot : Option ℕ) → SlotTold before (Ok slot) between
        → Does (value_of_name name frame slot) between result after → Does (read_out_of_scope name frame) before result after
    unfolding read_out_of_scope
    read_then slot told does = with_given {first = instance_names frame.holder} (slot_of frame.class_side name)
        {second = value_of_name name frame} (does_then told does)

    pub write_then : (slot : Option ℕ) (value : Value) → SlotTold before (Ok slot) between
        → Does (assign_name name frame slot value) between result after
        → Does (write_out_of_scope name frame value) before result after
    unfolding write_out_of_scope
    write_then slot value told does = with_given {first = instance_names frame.holder} (slot_of frame.class_side name)
        {second = λ slot. assign_name name frame slot value} (does_then told does)

  -- by the slot that was told
  module _ {before after : Seen} {result : Result Value Stop} where
    pub value_in_slot : (found : Option ℕ) (slot : ℕ) (receiver : Value) → found ≡ Some slot → receiver ≡ frame.receiver
        → Does (instance_value receiver slot) before result after → Does (value_of_name name frame found) before result after
    value_in_slot found slot receiver is own does =
        let At : Option ℕ → Type 0 = λ found. Does (value_of_name name frame found) before result after in
        let Of : Value → Type 0 = λ receiver. Does (instance_value receiver slot) before result after in
        subst At (sym is) (subst Of own does)

    pub value_of_global : (found : Option ℕ) → found ≡ None → Does (global_value name) before result after
        → Does (value_of_name name frame found) before result after
    value_of_global found is does =
        let At : Option ℕ → Type 0 = λ found. Does (value_of_name name frame found) before result after in
        subst At (sym is) does

    pub assigned_in_slot : (found : Option ℕ) (slot : ℕ) (value receiver : Value) → found ≡ Some slot
        → receiver ≡ frame.receiver → Does (set_instance_value receiver slot value) before result after
        → Does (assign_name name frame found value) before result after
    assigned_in_slot found slot value receiver is own does =
        let At : Option ℕ → Type 0 = λ found. Does (assign_name name frame found value) before result after in
        let Of : Value → Type 0 = λ receiver. Does (set_instance_value receiver slot value) before result after in
        subst At (sym is) (subst Of own does)

    pub assigned_to_none : (found : Option ℕ) (value : Value) → found ≡ None
        → Does (fail (fault.UndefinedVariable name)) before result after
        → Does (assign_name name frame found value) before result after
    assigned_to_none found value is does =
        let At : Option ℕ → Type 0 = λ found. Does (assign_name name frame found value) before result after in
        subst At (sym is) does

  module _ {before after : Seen} {ended : Stop} {result : Result Value Stop} where
    pub read_stop : SlotTold before (Err ended) after → IsErrAnd result (λ given. given ≡ ended)
        → Does (read_out_of_scope name frame) before result after
    unfolding read_out_of_scope
    read_stop told exit = handed (λ given. Does (read_out_of_scope name frame) before given after) result ended exit
        (with_given {first = instance_names frame.holder} (slot_of frame.class_side name)
        {second = value_of_name name frame} (does_stop told))

    pub write_stop : (value : Value) → SlotTold before (Err ended) after → IsErrAnd result (λ given. given ≡ ended)
        → Does (write_out_of_scope name frame value) before result after
    unfolding write_out_of_scope
    write_stop value told exit = handed (λ given. Does (write_out_of_scope name frame value) before given after) result ended exit
        (with_given {first = instance_names frame.holder} (slot_of frame.class_side name)
        {second = λ slot. assign_name name frame slot value} (does_stop told))

-- ---- a value comes into a slot

module _ (name : ℕ) (object : Contents) (slot : ℕ) (value : Value) {before after : Seen} {result : Result Value Stop} where
  -- where the value may be stored, and so many slots are counted
  pub put_where : (slots : ℕ) → slots ≡ plain_slots object.body → Computes (check_stored value) (Ok tt)
      → Does (and_then (check fault.Index (nat_lt slot slots)) (λ there.
      and_then (replace_body 0 name object (with_slot slot value object.body)) (λ replaced.
      give value))) before result after → Does (put_in_slot name object slot value) before result after
  put_where slots are stored does =
      let At : ℕ → Type 0 = λ slots. Does (and_then (check fault.Index (nat_lt slot slots)) (λ there.
      and_then (replace_body 0 name object (with_slot slot value object.body)) (λ replaced.
      give value))) before result after in
      computes_then stored (subst At are does)
