-- What a round does.
use Rattle.std.proofs.Common.{◌≡◌, ℕ, ℤ, ◌+ℤ◌, Bool, true, false, ◌&&◌, List, [], ◌∷◌, Option, Some, None, refl, sym, ap, subst, ◌∙◌, codes, option_map}
use Rattle.std.specs.Prelude.{if◌then◌else◌, filter}
use Rattle.std.specs.List.{list_all}
use Rattle.std.specs.Result.{result_ok}
use Rattle.gem_meaning.specs.gem_update.Outcomes.{counter_or_range}
use Rattle.gem_meaning.specs.gem_object.References.{names_in_body}
use Rattle.gem_meaning.specs.gem_object.Order.{value_order}
use Rattle.gem_meaning.specs.rc_counter_bag.Bag.{with_one_more}
use Rattle.gem_meaning.specs.rc_counter_bag.declared.update.BagUpdate.TheVariants.{Add}
use Rattle.gem_meaning.specs.object_programs.Budget.{is_within_limits}
use Rattle.gem_meaning.specs.object_programs.Guard.{Parts, is_known}
use Rattle.gem_meaning.specs.object_programs.Spelled.{are_items}
use Rattle.gem_meaning.specs.texts.Bytes.{Bytes as Text}
use Rattle.gem_meaning.specs.texts.SmallInteger.{is_small_integer}
use Rattle.gem_meaning.specs.gem_object.declared.value.Value.{Value}
use Rattle.gem_meaning.specs.gem_object.declared.value.Value.TheVariants.{Sym}
use Rattle.gem_meaning.specs.gem_object.declared.body.Body.{Body}
use Rattle.gem_meaning.specs.gem_object.declared.body.Body.TheVariants as body
use Rattle.gem_meaning.specs.gem_image.Image.{Contents}
use Rattle.gem_meaning.specs.object_programs.Run.{gives}
use Rattle.gem_meaning.specs.object_programs.Programs.{need, check}
use Rattle.gem_meaning.specs.object_programs.declared.fault.Fault.TheVariants as fault
use Rattle.gem_meaning.specs.gem_update.Update.{updated}
use Rattle.gem_meaning.specs.gem_update.declared.update.Update.{Update}
use Rattle.gem_meaning.specs.gem_update.declared.update.Update.TheVariants as change
use Rattle.gem_meaning.specs.st_tree.Trees.{Program, int, sym as symbol, constant, statement}
use Rattle.gem_meaning.specs.tree_meaning.Place.{MadeBlock}
use Rattle.gem_meaning.specs.gem_language.Commands.{Reply, ran, chunk_reply}
use Rattle.gem_server.proofs.ChunkWords.{chunk_words}
use Rattle.gem_server.proofs.LoadTrees.{a_chunk, alone, sent}
use Rattle.gem_server.proofs.PlainWorlds.{PlainSetting, PlainWorld, PlainOutcome, plain_with_touches, plain_put, plain_note, plain_parts_with, plain_after_update, plain_perform}
use Rattle.gem_server.proofs.RunRecords.{put_all, plain_made, plain_written}
use Rattle.gem_server.proofs.SameWorlds.{nothing_done, begin_plain}
use Rattle.gem_server.specs.Rounds.{hits, names, hits_contents, names_contents, load_objects}
use Rattle.gem_server.proofs.RunSteps.{last, Config, finish, steps, steps_are, popped, noted_is}
use Rattle.gem_server.proofs.NotedUpdates.{MayStand, is_updated}
use Rattle.gem_meaning.specs.gem_sound.Sound.{names_in}
use Rattle.gem_meaning.specs.object_programs.Guard.{fits}

-- The counter and the bag have the first value and pairs at the view, and the others at the place.
abbrev pub load_setting : (serial first : ℕ) → ℤ → List (Value × ℕ) → ℤ → List (Value × ℕ) → PlainSetting
load_setting serial first value pairs placed others = record {
  place = load_objects placed others;
  view = load_objects value pairs;
  user = 32;
  serial = serial;
  first = first;
}

-- the chunk of a round
abbrev pub round_tree : ℤ → Text → Program
round_tree by name = a_chunk (
    statement false (sent (codes "Hits") (codes "incrementBy:") (alone (constant (int by)) ∷ []))
    ∷ statement false (sent (codes "Names") (codes "add:") (alone (constant (symbol name)) ∷ []))
    ∷ [])

abbrev pub before_round : ℕ → ℤ → Text → Config MadeBlock Reply
before_round first by name = record {
  Answer = Reply;
  program = chunk_reply false (round_tree by name);
  stack = last;
  state = begin_plain (nothing_done first (λ name. false));
}

module _ (serial first : ℕ) (value by : ℤ) (pairs : List (Value × ℕ)) (placed : ℤ) (others : List (Value × ℕ)) (name : Text) where
  abbrev setting : PlainSetting
  setting = load_setting serial first value pairs placed others

  abbrev start : Config MadeBlock Reply
  start = before_round first by name

  -- ---- the counter

  abbrev raised : Contents
  raised = hits_contents (value +ℤ by)

  abbrev raise : Update
  raise = change.Counter by

  abbrev at_raise : Config MadeBlock Reply
  unfolding chunk_words
  at_raise = steps setting 62 start

  abbrev with_raise : Option Body → Config MadeBlock Reply
  unfolding chunk_words
  with_raise found = record {
    Answer = Body;
    program = need fault.IntegerRange found;
    stack = at_raise.stack;
    state = at_raise.state;
  }

  raise_at : finish setting at_raise ≡ finish setting (with_raise (updated raise (hits_contents value).body))
  unfolding chunk_words
  raise_at = refl

  is_raised : is_small_integer (value +ℤ by) ≡ true → updated raise (hits_contents value).body ≡ Some raised.body
  is_raised small = ap (λ (b : Bool). option_map body.Counter (result_ok (counter_or_range (if b then Some (value +ℤ by) else None)))) small

  -- the counter is ready to be raised
  abbrev before_raise : Config MadeBlock Reply
  unfolding chunk_words
  before_raise = steps setting 5 (with_raise (Some raised.body))

  abbrev raise_touched : PlainWorld
  unfolding chunk_words
  raise_touched = plain_with_touches hits setting before_raise.state.world

  abbrev raised_world : PlainWorld
  unfolding chunk_words
  raised_world = plain_put hits raised (plain_note hits raise setting raise_touched)

  abbrev raised_config : Config MadeBlock Reply
  unfolding chunk_words
  raised_config = popped setting before_raise.stack (gives tt)
      (record { world = raised_world; budget = before_raise.state.budget; local = before_raise.state.local })

  may_raise : is_small_integer (value +ℤ by) ≡ true
      → MayStand (plain_parts_with hits raised setting raise_touched) hits raised
  unfolding chunk_words raise_touched
  may_raise small = record {
    numbered = refl;
    known = refl;
    in_segment = refl;
    accepted = refl;
    named = refl;
    of_kernel = refl;
    placed = refl;
    methods = refl;
    spelled = small;
  }

  is_raised_world : is_small_integer (value +ℤ by) ≡ true
      → plain_after_update hits raise setting before_raise.state.world ≡ raised_world
  unfolding chunk_words raise_touched raised_world
  is_raised_world small = is_updated setting before_raise.state.world hits raise (hits_contents value) raised.body
      refl refl (is_raised small) refl (may_raise small)

  raise_noted : is_small_integer (value +ℤ by) ≡ true → finish setting before_raise ≡ finish setting raised_config
  unfolding chunk_words raised_config before_raise
  raise_noted small = noted_is setting hits raise before_raise.stack before_raise.state raised_world (is_raised_world small)

  -- ---- the bag

  abbrev added : Contents
  added = names_contents (with_one_more value_order (Sym name) pairs)

  abbrev addition : Update
  addition = change.Bag (Add (Sym name))

  abbrev at_check : Config MadeBlock Reply
  unfolding chunk_words raised_config
  at_check = steps setting 61 raised_config

  abbrev with_check : Bool → Config MadeBlock Reply
  unfolding chunk_words at_check
  with_check fits = record {
    Answer = Unit {0};
    program = check fault.ObjectTooLarge fits;
    stack = at_check.stack;
    state = at_check.state;
  }

  check_at : finish setting at_check
      ≡ finish setting (with_check (is_within_limits (names_contents pairs) && is_within_limits added))
  unfolding chunk_words at_check with_check raised_config before_raise raised_world raise_touched
  check_at = refl

  abbrev before_add : Config MadeBlock Reply
  unfolding chunk_words with_check
  before_add = steps setting 3 (with_check true)

  abbrev add_touched : PlainWorld
  unfolding chunk_words before_add
  add_touched = plain_with_touches names setting before_add.state.world

  abbrev added_world : PlainWorld
  unfolding chunk_words add_touched
  added_world = plain_put names added (plain_note names addition setting add_touched)

  abbrev added_config : Config MadeBlock Reply
  unfolding chunk_words before_add
  added_config = popped setting before_add.stack (gives tt)
      (record { world = added_world; budget = before_add.state.budget; local = before_add.state.local })

  abbrev add_parts : Parts
  unfolding chunk_words add_touched
  add_parts = plain_parts_with names added setting add_touched

  all_known : names_in_body added.body ≡ [] → list_all (is_known add_parts) (names_in added) ≡ true
  unfolding chunk_words raise_touched raised_world raised_config before_raise at_check with_check before_add add_touched added_world added_config add_parts
  all_known refers = ap (λ (refs : List ℕ). list_all (is_known add_parts) (20 ∷ 30 ∷ refs)) refers

  may_add : names_in_body added.body ≡ [] → are_items (with_one_more value_order (Sym name) pairs) ≡ true
      → MayStand add_parts names added
  unfolding chunk_words raise_touched raised_world raised_config before_raise at_check with_check before_add add_touched added_world added_config add_parts
  may_add refers items = record {
    numbered = refl;
    known = all_known refers;
    in_segment = refl;
    accepted = refl;
    named = refl;
    of_kernel = refl;
    placed = refl;
    methods = refl;
    spelled = items;
  }

  is_added_world : names_in_body added.body ≡ [] → are_items (with_one_more value_order (Sym name) pairs) ≡ true
      → plain_after_update names addition setting before_add.state.world ≡ added_world
  unfolding chunk_words raise_touched raised_world raised_config before_raise at_check with_check before_add add_touched added_world added_config add_parts
  is_added_world refers items = is_updated setting before_add.state.world names addition (names_contents pairs) added.body
      refl refl refl refl (may_add refers items)

  add_noted : names_in_body added.body ≡ [] → are_items (with_one_more value_order (Sym name) pairs) ≡ true
      → finish setting before_add ≡ finish setting added_config
  unfolding chunk_words raise_touched raised_world raised_config before_raise at_check with_check before_add add_touched added_world added_config add_parts
  add_noted refers items = noted_is setting names addition before_add.stack before_add.state added_world (is_added_world refers items)

  -- ---- all of it

  abbrev pub after_round : PlainOutcome MadeBlock Reply
  after_round = plain_perform (chunk_reply false (round_tree by name)) setting (begin_plain (nothing_done first (λ name. false)))

  -- what the counter and the bag have to let the round do
  pub record MayRun : Type 0 where
    pub small : is_small_integer (value +ℤ by) ≡ true
    pub fits : is_within_limits (names_contents pairs) && is_within_limits added ≡ true
    pub refers : names_in_body added.body ≡ []
    pub items : are_items (with_one_more value_order (Sym name) pairs) ≡ true

  whole : MayRun → after_round ≡ finish setting added_config
  unfolding at_raise with_raise before_raise raise_touched raised_world raised_config at_check with_check before_add add_touched added_world added_config
  whole may = sym (steps_are setting 62 start) ∙ raise_at
      ∙ ap (λ (found : Option Body). finish setting (with_raise found)) (is_raised may.small)
      ∙ sym (steps_are setting 5 (with_raise (Some raised.body))) ∙ raise_noted may.small
      ∙ sym (steps_are setting 61 raised_config) ∙ check_at
      ∙ ap (λ (fits : Bool). finish setting (with_check fits)) may.fits
      ∙ sym (steps_are setting 3 (with_check true)) ∙ add_noted may.refers may.items

  -- What a round leaves: it writes and makes nothing, notes one update of each of the two objects, and touches these.
  pub record IsRound (after : PlainOutcome MadeBlock Reply) : Type 0 where
    pub end : after.end ≡ gives ran
    pub next : after.state.world.next ≡ first
    pub written : filter (plain_written after.state.world) (put_all after.state.world.log) ≡ []
    pub made : filter (plain_made after.state.world) (put_all after.state.world.log) ≡ []
    pub updates : after.state.world.updates ≡ (hits, raise) ∷ (names, addition) ∷ []
    pub touched : after.state.world.touched ≡ 3 ∷ 29 ∷ 32 ∷ 1 ∷ 34 ∷ 30 ∷ 27 ∷ 19 ∷ 20 ∷ []

  left : IsRound (finish setting added_config)
  unfolding chunk_words raise_touched raised_world raised_config before_raise at_check with_check before_add add_touched added_world added_config add_parts
  left = record { end = refl; next = refl; written = refl; made = refl; updates = refl; touched = refl }

  pub round_is : MayRun → IsRound after_round
  round_is may = subst IsRound (sym (whole may)) left
