-- What the set-up of a load leaves, and what a round does to it.
use Rattle.std.specs.Prelude.{◌≡◌, ℕ, ℤ, pos, ◌+ℤ◌, ◌≤◌, cond, nat_eq, codes, true, List, [], ◌∷◌, ◌++◌, Some, option_map}
use Rattle.std.specs.Fmt.{decimal}
use Rattle.std.specs.List.{AllByRecursion}
use Rattle.gem_meaning.specs.texts.Bytes.{Bytes}
use Rattle.gem_meaning.specs.texts.Lines.{text_of_lines}
use Rattle.gem_meaning.specs.texts.SmallInteger.{is_small_integer}
use Rattle.gem_meaning.specs.gem_object.References.{names_in_body}
use Rattle.gem_meaning.specs.gem_object.Order.{value_order}
use Rattle.gem_meaning.specs.gem_object.declared.value.Value.{Value}
use Rattle.gem_meaning.specs.gem_object.declared.value.Value.TheVariants.{Sym, Ref}
use Rattle.gem_meaning.specs.gem_object.declared.body.Body.TheVariants as body
use Rattle.gem_meaning.specs.rc_counter_bag.Bag.{with_one_more}
use Rattle.gem_meaning.specs.rc_counter_bag.Counter.{total}
use Rattle.gem_meaning.specs.commit_check.Conflicts.{last_change}
use Rattle.gem_meaning.specs.rc_counter_bag.declared.update.BagUpdate.TheVariants.{Add}
use Rattle.gem_meaning.specs.gem_image.Image.{Image, Contents, Objects, contents_of, objects_in}
use Rattle.gem_meaning.specs.gem_update.declared.update.Update.TheVariants as change
use Rattle.gem_meaning.specs.object_programs.Budget.{is_within_limits}
use Rattle.gem_meaning.specs.object_programs.Spelled.{are_items}
use Rattle.gem_meaning.specs.gem_record.declared.record.TxnRecord.{TxnRecord}
use Rattle.gem_meaning.specs.Opened.{Opened}
use Rattle.kernel_image.specs.Objects.{globals_entries, kernel_objects}

-- the names of the counter `Hits` and of the bag `Names`: 1:1 and 1:2
abbrev pub hits : ℕ
hits = 16777217

abbrev pub names : ℕ
names = 16777218

-- the counter with this value, and the bag with these items, which lie in the segment of DataCurator
abbrev pub hits_contents : ℤ → Contents
hits_contents value =
    record { class = 19; segment = 30; body = body.Counter (record { value = value }) }

abbrev pub names_contents : List (Value × ℕ) → Contents
names_contents pairs = record { class = 20; segment = 30; body = body.Bag pairs }

-- Globals with both
abbrev pub globals_contents : Contents
globals_contents = record {
  class = 18;
  segment = 30;
  body = body.Dict (globals_entries
      ++ (Sym (codes "Hits"), Ref hits) ∷ (Sym (codes "Names"), Ref names) ∷ []);
}

-- the kernel with the counter and the bag
abbrev pub load_objects : ℤ → List (Value × ℕ) → Objects
load_objects value pairs name =
    cond (nat_eq name hits) (Some (hits_contents value))
    (cond (nat_eq name names) (Some (names_contents pairs))
    (cond (nat_eq name 27) (Some globals_contents) (option_map contents_of (kernel_objects name))))

-- what stands in the image is the kernel with the counter and the bag
abbrev pub IsLoaded : Image → ℤ → List (Value × ℕ) → Type 0
IsLoaded image value pairs = (name : ℕ) → objects_in image name ≡ load_objects value pairs name

-- A Stone was opened with what a set-up left: the kernel with a counter at 0 and an empty bag, and a
-- short log.
pub record IsSetUp (o : Opened) : Type 0 where
  pub loaded : IsLoaded o.image (pos 0) []
  pub unchanged : (name : ℕ) → last_change o.image name ≤ o.number
  pub short : o.stored.log_length ≤ 2000

-- the chunk of a round with this number, and the name that it adds to the bag
abbrev pub round_text : ℕ → Bytes
round_text number = text_of_lines (
    (codes "Hits incrementBy: " ++ decimal number ++ codes ". Names add: #n" ++ decimal number) ∷ [])

abbrev pub round_name : ℕ → Value
round_name number = Sym (codes "n" ++ decimal number)

-- the bag with the name once more
abbrev pub with_name : ℕ → List (Value × ℕ) → List (Value × ℕ)
with_name number pairs = with_one_more value_order (round_name number) pairs

-- The counter and the bag have room for a round with this number: the sum is an integer of the
-- language, and the bag is within the limits of objects, refers to no object and can be stored.
pub record HasRoom (number : ℕ) (value : ℤ) (pairs : List (Value × ℕ)) : Type 0 where
  pub small : is_small_integer (value +ℤ pos number) ≡ true
  pub before : is_within_limits (names_contents pairs) ≡ true
  pub after : is_within_limits (names_contents (with_name number pairs)) ≡ true
  pub refers : names_in_body (names_contents (with_name number pairs)).body ≡ []
  pub items : are_items (with_name number pairs) ≡ true

-- The record of a round with this number: it wrote and made nothing, it updated the counter and the
-- bag, and touched objects of the kernel alone.
pub record IsRoundRecord (number : ℕ) (done : TxnRecord) : Type 0 where
  pub written : done.written ≡ []
  pub made : done.made ≡ []
  pub updates : done.updates ≡ (hits, change.Counter (pos number) ∷ [])
      ∷ (names, change.Bag (Add (round_name number)) ∷ []) ∷ []
  pub touched : AllByRecursion (λ name. name ≤ 35) done.touched

-- A round with this number is committed here, with this view: the counter and the bag stand here,
-- too, whatever they have come to, the sum is an integer of the language, and no commit after the
-- view has changed an object of the kernel.
pub record MeetsRound (number view : ℕ) (place : Image) : Type 0 where
  pub value : ℤ
  pub pairs : List (Value × ℕ)
  pub loaded : IsLoaded place value pairs
  pub small : is_small_integer (value +ℤ total (pos number ∷ [])) ≡ true
  pub unchanged : (name : ℕ) → name ≤ 35 → last_change place name ≤ view
