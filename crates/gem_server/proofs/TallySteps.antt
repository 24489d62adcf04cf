-- What the two chunks of the tally do.
use Rattle.std.proofs.Common.{◌≡◌, ℕ, ℤ, pos, Bool, true, List, [], ◌∷◌, cond, ◌&&◌, ◌||◌, arith, refl, sym, ap, subst, ◌∙◌}
use Rattle.std.proofs.lemmas.Bool.{le-leb}
use Rattle.std.specs.Prelude.{nat_le, length}
use Rattle.std.specs.List.{list_all}
use Rattle.gem_meaning.specs.gem_object.declared.value.Value.{Value}
use Rattle.gem_meaning.specs.gem_object.declared.value.Value.TheVariants.{Int}
use Rattle.gem_meaning.specs.gem_object.declared.body.Body.TheVariants as body
use Rattle.gem_meaning.specs.gem_object.References.{names_in}
use Rattle.gem_meaning.specs.gem_image.Image.{Contents}
use Rattle.gem_meaning.specs.object_programs.Atom.{too_large, no_space, no_fault, objects_cost}
use Rattle.gem_meaning.specs.object_programs.declared.limits.TheConstants.{SPACE_LIMIT}
use Rattle.gem_meaning.specs.object_programs.Guard.{Parts, is_known, is_class_object, is_transcript, accepts}
use Rattle.gem_meaning.specs.object_programs.Budget.{is_within_limits}
use Rattle.gem_meaning.specs.object_programs.Run.{gives}
use Rattle.gem_meaning.specs.object_programs.Spelled.{are_storable}
use Rattle.gem_meaning.specs.prim_rules.Bags.{items_of}
use Rattle.gem_meaning.specs.st_grammar.Lexed.{tokens_of}
use Rattle.gem_meaning.specs.st_grammar_laws.TreeOf.{tree_of}
use Rattle.gem_meaning.specs.tree_meaning.Bodies.{method_body}
use Rattle.gem_meaning.specs.tree_meaning.Place.{MadeBlock}
use Rattle.gem_meaning.specs.gem_language.Sends.{chunk_value}
use Rattle.kernel_image.specs.Methods.{methods_of_array}
use Rattle.gem_server.proofs.ChunkWords.{chunk_words}
use Rattle.gem_server.proofs.TallyTrees.{value_tree, size_tree}
use Rattle.gem_server.proofs.PlainWorlds.{PlainSetting, PlainWorld, PlainOutcome, plain_drawn, plain_perform, plain_make_check, plain_parts_with_new, plain_may_make}
use Rattle.gem_server.proofs.SameWorlds.{nothing_done, begin_plain}
use Rattle.gem_server.proofs.RunSteps.{last, Config, finish, steps, steps_are, popped}
use Rattle.gem_server.proofs.NotedUpdates.{MayStand}
use Rattle.gem_server.proofs.NewObjects.{may_make_one, with_made, made_is}
use Rattle.gem_server.specs.Rounds.{load_objects}

-- what the tally's transaction runs on
abbrev pub tally_setting : ℤ → List (Value × ℕ) → PlainSetting
tally_setting value pairs = record {
  place = load_objects value pairs;
  view = load_objects value pairs;
  user = 32;
  serial = 2;
  first = 1;
}

-- the Array of these items
abbrev array_of : List Value → Contents
array_of items = record { class = 13; segment = 30; body = body.Plain items }

-- the items may be put into an Array
pub record MayBeListed (items : List Value) : Type 0 where
  pub fits : is_within_limits (array_of items) ≡ true
  pub space : nat_le (objects_cost (array_of items ∷ [])) SPACE_LIMIT ≡ true
  pub refers : names_in items ≡ []
  pub storable : are_storable items ≡ true

module _ (value : ℤ) (pairs : List (Value × ℕ)) where
  abbrev setting : PlainSetting
  setting = tally_setting value pairs

  abbrev none_drawn : ℕ → Bool
  none_drawn = plain_drawn setting 1

  -- ---- the counter's value

  abbrev pub value_asked : PlainOutcome MadeBlock Value
  value_asked = plain_perform (chunk_value value_tree) setting (begin_plain (nothing_done 1 none_drawn))

  pub value_end : value_asked.end ≡ gives (Int value)
  unfolding chunk_words
  value_end = refl

  pub value_shows : value_asked.state.budget.text ≡ []
  unfolding chunk_words
  value_shows = refl

  -- ---- the bag's size

  abbrev pub after_value : PlainWorld
  after_value = record (nothing_done 1 none_drawn) { touched = 3 ∷ 29 ∷ 32 ∷ 1 ∷ 34 ∷ 30 ∷ 27 ∷ 19 ∷ [] }

  pub value_world : value_asked.state.world ≡ after_value
  unfolding chunk_words
  value_world = refl

  abbrev before_size : Config MadeBlock Value
  before_size = record {
    Answer = Value;
    program = chunk_value size_tree;
    stack = last;
    state = begin_plain after_value;
  }

  abbrev at_make : Config MadeBlock Value
  unfolding chunk_words tree_of tokens_of method_body
  at_make = steps setting 80 before_size

  abbrev items : List Value
  items = items_of pairs

  abbrev array : Contents
  array = array_of items

  -- the Array is made
  checked : MayBeListed items → plain_make_check (array ∷ []) at_make.state.world at_make.state.budget ≡ no_fault
  unfolding chunk_words tree_of tokens_of method_body at_make
  checked may = ap (λ (b : Bool). cond (b && true)
      (cond (nat_le (objects_cost (array ∷ [])) SPACE_LIMIT) no_fault no_space) too_large) may.fits
      ∙ ap (λ (b : Bool). cond b no_fault no_space) may.space

  abbrev array_parts : Parts
  unfolding chunk_words tree_of tokens_of method_body at_make
  array_parts = plain_parts_with_new (array ∷ []) setting at_make.state.world

  array_known : names_in items ≡ [] → list_all (is_known array_parts) (13 ∷ 30 ∷ names_in items) ≡ true
  unfolding chunk_words tree_of tokens_of method_body at_make array_parts
  array_known refers = ap (λ (refs : List ℕ). list_all (is_known array_parts) (13 ∷ 30 ∷ refs)) refers

  array_accepted : accepts array_parts 13 array.body ≡ true
  unfolding chunk_words tree_of tokens_of method_body at_make array_parts
  array_accepted = ap (λ (b : Bool). b || (is_class_object 13 array.body || is_transcript 13 array.body))
      (le-leb 0 (length items) (omega arith))

  array_stands : MayBeListed items → MayStand array_parts 33554433 array
  unfolding chunk_words tree_of tokens_of method_body at_make array_parts
  array_stands may = record {
    numbered = refl;
    known = array_known may.refers;
    in_segment = refl;
    accepted = array_accepted;
    named = refl;
    of_kernel = refl;
    placed = refl;
    methods = refl;
    spelled = may.storable;
  }

  may_be_made : MayBeListed items → plain_may_make (array ∷ []) setting at_make.state.world ≡ true
  unfolding chunk_words tree_of tokens_of method_body at_make array_parts
  may_be_made may = may_make_one array_parts 33554433 array (array_stands may)

  abbrev with_array : Config MadeBlock Value
  unfolding chunk_words tree_of tokens_of method_body at_make
  with_array = popped setting at_make.stack (gives 33554433) (with_made setting (array ∷ []) at_make.state)

  array_made : MayBeListed items → finish setting at_make ≡ finish setting with_array
  unfolding chunk_words tree_of tokens_of method_body at_make with_array
  array_made may = made_is setting (λ name. array ∷ []) at_make.stack at_make.state (checked may) (may_be_made may)

  abbrev pub size_asked : PlainOutcome MadeBlock Value
  size_asked = plain_perform (chunk_value size_tree) setting (begin_plain after_value)

  -- the chunk answers how many items there are
  pub record IsSized (after : PlainOutcome MadeBlock Value) : Type 0 where
    pub end : after.end ≡ gives (Int (pos (length items)))
    pub shows : after.state.budget.text ≡ []

  left : IsSized (finish setting with_array)
  unfolding chunk_words tree_of tokens_of method_body methods_of_array at_make with_array
  left = record { end = refl; shows = refl }

  pub size_is : MayBeListed items → IsSized size_asked
  unfolding at_make
  size_is may = subst IsSized (sym (sym (steps_are setting 80 before_size) ∙ array_made may)) left
