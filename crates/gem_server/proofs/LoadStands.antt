-- What stands after rounds of a load.
use Rattle.std.proofs.Common.{◌≡◌, ℕ, ℤ, zero, suc, pos, ◌+◌, ◌+ℤ◌, ◌-◌, ◌*◌, ◌≤◌, true, false, List, [], ◌∷◌, get_or, refl, sym, ap, ap₂, subst, ◌∙◌, arith}
use Rattle.std.specs.List.{AllByRecursion}
use Rattle.std.specs.FinMap.{empty}
use Rattle.std.proofs.lemmas.Bool.{le-leb}
use Rattle.gem_meaning.specs.texts.SmallInteger.{is_small_integer}
use Rattle.gem_meaning.specs.gem_object.declared.object.Object.{Object}
use Rattle.gem_meaning.specs.gem_object.declared.value.Value.{Value}
use Rattle.gem_meaning.specs.rc_counter_bag.Counter.{total}
use Rattle.gem_meaning.specs.gem_image.Image.{Image, with_objects}
use Rattle.gem_meaning.specs.gem_world.World.{Setting, World, untouched}
use Rattle.gem_meaning.specs.object_programs.Laws.{begun_at}
use Rattle.gem_meaning.specs.gem_language.Commands.{run_chunk}
use Rattle.gem_meaning.specs.gem_language.Transaction.{command_outcome, transaction}
use Rattle.gem_meaning.specs.gem_record.declared.record.Entry.{Entry}
use Rattle.gem_meaning.specs.gem_record.declared.record.TxnRecord.{TxnRecord}
use Rattle.gem_meaning.specs.gem_record.Effects.{log_record_size}
use Rattle.gem_meaning.specs.gem_record.Record.{record_of}
use Rattle.gem_meaning.specs.commit_check.Conflicts.{last_change, conflicts_of}
use Rattle.gem_meaning.specs.lock_table.Locks.{LockSet}
use Rattle.gem_meaning.specs.shell_words.declared.script.Command.{Command}
use Rattle.gem_meaning.specs.declared.event.What.TheVariants.{Placed}
use Rattle.gem_meaning.specs.Commands.{object_commands}
use Rattle.gem_meaning.specs.Opened.{Opened, session_serial, entry_commands, record_on}
use Rattle.gem_meaning.specs.Effect.{effect_at, IsUnchanged}
use Rattle.gem_meaning.specs.Events.{Standing, image_at, run_at_place, record_at_place, record_on_view, effect_of, after_event}
use Rattle.gem_meaning.specs.After.{record_size}
use Rattle.gem_server.specs.Rounds.{IsLoaded, HasRoom, IsRoundRecord, round_text, with_name}
use Rattle.gem_server.proofs.RoundBags.{items, with_number, occurrences, AscendAbove, with_name_is, ascend_with, occurrences_with, bag_size, small_bag}
use Rattle.gem_server.proofs.RoundRuns.{round_draws, round_record}
use Rattle.gem_server.proofs.RoundConflicts.{record_base, no_conflict_at}
use Rattle.gem_server.proofs.LoadImages.{load_effect, loaded_with, kernel_stays}
use Rattle.gem_server.proofs.RoundEffects.{round_effect, effect_bytes}
use Rattle.gem_server.proofs.LoadRounds.{round_commands, round_entry}

-- no more events come of a load than this
abbrev pub MOST_EVENTS : ℕ
MOST_EVENTS = 16016

-- The counter and the bag of an image have room for a round.
pub record IsRoomy (image : Image) : Type 0 where
  pub value : ℕ
  pub counts : List (ℕ × ℕ)
  pub loaded : IsLoaded image (pos value) (items counts)
  pub low : value ≤ 150000
  pub ascend : AscendAbove 0 counts
  pub few : occurrences counts ≤ 16016

small_integer : (n : ℕ) → n ≤ 200000 → is_small_integer (pos n) ≡ true
small_integer n low = le-leb n 1152921504606846975 (omega (arith, low))

pub room_for : (image : Image) (roomy : IsRoomy image) (number : ℕ) → 1 ≤ number → number ≤ 9
    → HasRoom number (pos roomy.value) (items roomy.counts)
room_for image roomy number from to =
    let value_low = roomy.low in
    let few = roomy.few in
    let before = small_bag roomy.counts roomy.ascend (omega (arith, few)) in
    let more = occurrences_with number roomy.counts (omega (arith, few)) in
    let after = small_bag (with_number number roomy.counts)
    (ascend_with 0 number roomy.counts roomy.ascend (omega (arith, from)) to (omega (arith, few))) (omega (arith, few, more)) in
    let is : with_name number (items roomy.counts) ≡ items (with_number number roomy.counts) =
    with_name_is 0 number roomy.counts roomy.ascend to in
    record {
      small = small_integer (roomy.value + number) (omega (arith, value_low, to));
      before = before.limits;
      after = rw is after.limits;
      refers = rw is after.refers;
      items = rw is after.stored;
    }

-- What stands after so many rounds, where the counter has come to this value.
pub record Stands (o : Opened) (s : Standing) (value count : ℕ) : Type 0 where
  pub counts : List (ℕ × ℕ)
  pub loaded : IsLoaded s.image (pos value) (items counts)
  pub ascend : AscendAbove 0 counts
  pub counted : occurrences counts ≡ count
  pub low : value ≤ 9 * count
  pub earlier : AllByRecursion IsRoomy s.earlier
  pub above : o.number ≤ s.number
  pub locks : s.locks ≡ empty
  pub unchanged : (name : ℕ) → name ≤ 35 → last_change s.image name ≤ o.number

one_of : {X : Type 0} (P : X → Type 0) (list : List X) (n : ℕ) (x : X) → AllByRecursion P list → P x → P (get_or list n x)
one_of P [] n x all is = is
one_of P (y ∷ list) zero x all is = all.0
one_of P (y ∷ list) (suc n) x all is = one_of P list n x all.1 is

module _ (o : Opened) (s : Standing) (value count : ℕ) (stands : Stands o s value count) (few : count ≤ MOST_EVENTS) where
  roomy_now : IsRoomy s.image
  roomy_now = record {
    value = value;
    counts = stands.counts;
    loaded = stands.loaded;
    low = let low = stands.low in omega (arith, low, few);
    ascend = stands.ascend;
    few = let counted = stands.counted in omega (arith, counted, few);
  }

  pub roomy_at : (view : ℕ) → IsRoomy (image_at s view)
  roomy_at view = one_of IsRoomy (s.image ∷ s.earlier) (s.number - view) s.image (roomy_now, stands.earlier) roomy_now

  module _ (session view transaction_number first number : ℕ) (from : 1 ≤ number) (to : number ≤ 9) where
    abbrev e : Entry
    e = round_entry session view transaction_number first

    abbrev viewed : Image
    viewed = image_at s view

    abbrev roomy : IsRoomy viewed
    roomy = roomy_at view

    abbrev setting_at : Image → Setting
    setting_at place = begun_at place viewed 32 (session_serial o session) 1

    abbrev world_at : Image → World
    world_at place = (command_outcome (run_chunk false (round_text number)) (setting_at place) (untouched 1)).state.world

    -- a round draws no name
    pub no_name_drawn : (world_at viewed).next ≡ 1
    no_name_drawn = round_draws number viewed (pos roomy.value) (items roomy.counts) viewed (pos roomy.value) (items roomy.counts)
        (session_serial o session) 1 from to roomy.loaded roomy.loaded (room_for viewed roomy number from to)

    abbrev done_at : Image → TxnRecord
    done_at place = record_of e (setting_at place) (world_at place)

    round_done : (place : Image) (placed : ℤ) (others : List (Value × ℕ)) → IsLoaded place placed others
        → IsRoundRecord number (done_at place)
    round_done place placed others there = round_record number viewed (pos roomy.value) (items roomy.counts) place placed others
        (session_serial o session) 1 from to roomy.loaded there (room_for viewed roomy number from to) e

    module _ (commands : entry_commands o.script e ≡ round_commands number) where
      view_record : record_on_view o s e ≡ done_at viewed
      unfolding record_on
      view_record = ap (λ (list : List Command). record_of e (setting_at viewed)
          (transaction (object_commands list) (setting_at viewed) (untouched 1)).world) commands

      place_record : record_at_place o s e ≡ done_at s.image
      unfolding record_at_place run_at_place
      place_record = ap (λ (list : List Command). record_of e (setting_at s.image)
          (transaction (object_commands list) (setting_at s.image) (untouched 1)).world) commands

      -- something is to be committed
      pub is_changed : IsUnchanged (record_on_view o s e) → ⊥
      is_changed unchanged =
          let done = round_done viewed (pos roomy.value) (items roomy.counts) roomy.loaded in
          let none = sym done.updates ∙ ap (λ (d : TxnRecord). d.updates) (sym view_record) ∙ unchanged.not_updated in absurd cc

      sum_small : is_small_integer (pos value +ℤ total (pos number ∷ [])) ≡ true
      sum_small = let low = stands.low in small_integer (value + (0 + number)) (omega (arith, low, few, to))

      pub no_conflicts : o.number ≤ view → conflicts_of (record { image = s.image; locks = s.locks }) (record_on_view o s e) ≡ []
      no_conflicts above =
          ap₂ (λ (locks : LockSet) (done : TxnRecord). conflicts_of (record { image = s.image; locks = locks }) done) stands.locks view_record
          ∙ no_conflict_at number viewed s.image (pos roomy.value) (items roomy.counts) roomy.loaded e (setting_at viewed) (world_at viewed) refl
          (round_done viewed (pos roomy.value) (items roomy.counts) roomy.loaded)
          (record {
            value = pos value;
            pairs = items stands.counts;
            loaded = stands.loaded;
            small = sum_small;
            unchanged = λ name kernel. let until = stands.unchanged name kernel in omega (arith, until, above);
          })

      abbrev longer : List (ℕ × ℕ)
      longer = with_number number stands.counts

      longer_ascends : AscendAbove 0 longer
      longer_ascends = let counted = stands.counted in
          ascend_with 0 number stands.counts stands.ascend (omega (arith, from)) to (omega (arith, counted, few))

      added_once : (a b : ℕ) → pos (a + (0 + b)) ≡ pos (a + b)
      added_once a b = let same : a + (0 + b) ≡ a + b = omega arith in ap (λ (n : ℕ). pos n) same

      effect_is : effect_of o s e ≡ load_effect (s.number + 1) (pos (value + number)) (items longer)
      unfolding effect_of
      effect_is = ap (effect_at s.image (s.number + 1)) place_record
          ∙ round_effect number viewed s.image (pos roomy.value) (pos value) (items roomy.counts) (items stands.counts) roomy.loaded
          stands.loaded (done_at s.image) (round_done s.image (pos value) (items stands.counts) stands.loaded)
          (record_base e (setting_at s.image) (world_at s.image)) sum_small (s.number + 1)
          ∙ ap₂ (load_effect (s.number + 1)) (added_once value number) (with_name_is 0 number stands.counts stands.ascend to)

      -- its record is short
      pub short_record : record_size o s e ≤ 200
      unfolding record_size
      short_record =
          let size : log_record_size (record { number = s.number + 1; objects = effect_of o s e }) ≡ _ =
          ap (λ (objects : List (ℕ × Object)). log_record_size (record { number = s.number + 1; objects = objects })) effect_is
          ∙ effect_bytes (s.number + 1) (s.number + 1) (pos (value + number)) (items longer) in
          let bytes = bag_size longer longer_ascends in omega (arith, size, bytes)

      -- what stands when it has been placed
      pub stands_on : Stands o (after_event o s (session, Placed e)) (value + number) (count + 1)
      stands_on = record {
        counts = longer;
        loaded = subst (λ (objects : List (ℕ × Object)). IsLoaded (with_objects s.image objects) (pos (value + number)) (items longer))
            (sym effect_is) (loaded_with s.image (pos value) (pos (value + number)) (items stands.counts) (items longer) (s.number + 1)
            stands.loaded);
        ascend = longer_ascends;
        counted = let counted = stands.counted in
            occurrences_with number stands.counts (omega (arith, counted, few)) ∙ omega (arith, counted);
        low = let low = stands.low in omega (arith, low, to);
        earlier = (roomy_now, stands.earlier);
        above = let above = stands.above in omega (arith, above);
        locks = stands.locks;
        unchanged = λ name kernel. let until = stands.unchanged name kernel in
            subst (λ (objects : List (ℕ × Object)). last_change (with_objects s.image objects) name ≤ o.number) (sym effect_is)
            (let same = kernel_stays s.image (pos (value + number)) (items longer) (s.number + 1) name kernel in omega (arith, same, until));
      }
