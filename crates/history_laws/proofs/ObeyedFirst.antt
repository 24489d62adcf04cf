-- The rules of the primitives 1 to 53 obey: nothing follows on an access that isn't allowed.
use Rattle.std.proofs.Common.{ℕ, zero, suc, nat_eq, Bool, true, false, cond, ◌||◌, ℤ, Option, Some, None, List, [], ◌∷◌, ◌++◌}
use Rattle.gem_meaning.specs.texts.Bytes.{Bytes as Text}
use Rattle.gem_meaning.specs.gem_object.declared.kind.Kind.{Kind}
use Rattle.gem_meaning.specs.gem_object.declared.kind.Kind.TheVariants as kind
use Rattle.gem_meaning.specs.gem_object.declared.value.Value.{Value}
use Rattle.gem_meaning.specs.gem_object.declared.value.Value.TheVariants.{Sym, Ref, Block}
use Rattle.gem_meaning.specs.gem_image.Image.{Contents}
use Rattle.gem_meaning.specs.object_programs.Guard.{chain_limit}
use Rattle.gem_meaning.specs.object_programs.Run.{Run}
use Rattle.gem_meaning.specs.object_programs.declared.fault.Fault.TheVariants as fault
use Rattle.gem_meaning.specs.prim_rules.Any.{row_3, row_4, row_5, row_6, row_7, row_8, row_9, same_row, superclass_reads, reads_up, copy_rule, segment_rule, segment_argument, check_segment, assign_rule}
use Rattle.gem_meaning.specs.prim_rules.Numbers.{integers_row, row_10, row_11, row_12, row_13, row_14, row_15, row_16, row_17, row_18, row_19, row_20, row_21, row_22, row_23, row_24, row_25, row_26, row_27}
use Rattle.gem_meaning.specs.prim_rules.Blocks.{value_row, row_32}
use Rattle.gem_meaning.specs.prim_rules.Sequences.{Sequence, without_first, without_last, sequence_in, read_sequence, written_sequence, sequence_row, sequence_row_with, sequence_row_with_two, with_value_rule, without_rule, sequence_argument, row_33, row_34, row_35, row_36, row_37, row_38, row_39, row_40, row_41}
use Rattle.gem_meaning.specs.prim_rules.Strings.{text_row, text_row_with, texts_row, equal_string, equal_rule, row_42, row_43, row_44, row_45, row_46, row_47, row_48, row_49, row_50, row_51}
use Rattle.gem_meaning.specs.prim_rules.New.{new_body, new_segment, new_of_kind, row_52, row_53}
use Rattle.gem_meaning.specs.prim_rules.FirstRules.{Rule, rule_in, no_rule, first_rules, first_rule}
use Rattle.history_laws.proofs.Obeys.{Obeys, gives_so, fails_so, then, asks, owns, mades, whos, moves, makes, chooses, needs, checks, replaces}
use Rattle.history_laws.proofs.ObeyedParts.{knows, classes, kind_told, kind_checked, slots_counted, segments, made_in, made, answers_so, bytes_read, own_text, given_text, strings, whole_so}

infixr 10 ◌also◌
-- what holds of a first one, and what holds of all others
pub ◌also◌ : {First Rest : Type 0} → First → Rest → First × Rest
first also rest = (first, rest)

module _ {B : Type 0} where
  -- a rule obeys, whatever it is given
  abbrev pub RuleObeys : Rule B → Type 0
  RuleObeys rule = (receiver : Value) (arguments : List Value) → Obeys (rule receiver arguments)

  abbrev pub RulesObey : List (ℕ × Rule B) → Type 0
  RulesObey [] = Unit {0}
  RulesObey (entry ∷ rest) = RuleObeys entry.1 × RulesObey rest

  pub one_so : (is : Bool) (first second : Rule B) (receiver : Value) (arguments : List Value)
      → Obeys (first receiver arguments) → Obeys (second receiver arguments)
      → Obeys (cond is first second receiver arguments)
  one_so true first second receiver arguments here there = here
  one_so false first second receiver arguments here there = there

  pub rule_so : (otherwise : Rule B) (entries : List (ℕ × Rule B)) (number : ℕ) → RuleObeys otherwise
      → RulesObey entries → RuleObeys (rule_in otherwise entries number)
  rule_so otherwise [] number last each receiver arguments = last receiver arguments
  rule_so otherwise (entry ∷ rest) number last each receiver arguments = one_so (nat_eq number entry.0)
      entry.1 (rule_in otherwise rest number) receiver arguments (each.0 receiver arguments)
      (rule_so otherwise rest number last each.1 receiver arguments)

  pub no_rule_so : RuleObeys no_rule
  no_rule_so receiver arguments = fails_so

  -- ---- what any receiver understands

  same_so : RuleObeys same_row
  same_so receiver arguments = then (needs _ _) (λ argument. answers_so (then (checks _ _) (λ no_block.
      gives_so)))

  so_3 : RuleObeys row_3
  so_3 receiver arguments = then (checks _ _) (λ none. answers_so (then (classes receiver) (λ class.
      gives_so)))

  so_4 : RuleObeys row_4
  so_4 receiver arguments = then (checks _ _) (λ none. answers_so
      (then (whole_so _) (λ text. then segments (λ segment. then (checks _ _) (λ short. made_in _ _ _)))))

  so_5 : RuleObeys row_5
  so_5 receiver arguments = then (needs _ _) (λ argument. then (given_text argument) (λ text. fails_so))

  reads_on : (found : Bool) (superclass : Option ℕ) (on : ℕ → Run B Bool) → ((name : ℕ) → Obeys (on name))
      → Obeys (superclass_reads found superclass on)
  reads_on found None on each = gives_so
  reads_on found (Some superclass) on each = each superclass

  reads_so : (limit ancestor : ℕ) (found : Bool) (class : ℕ)
      → Obeys {B = B} (reads_up limit ancestor found class)
  reads_so zero ancestor found class = gives_so
  reads_so (suc more) ancestor found class = then asks (λ object. then (needs _ _) (λ part.
      let now = found || nat_eq class ancestor in
      reads_on now part.superclass (reads_up more ancestor now) (reads_so more ancestor now)))

  so_6 : RuleObeys row_6
  so_6 receiver arguments = then (needs _ _) (λ argument. answers_so
      (then (then (needs _ _) (λ name. then (knows _ _) (λ fixed. then (checks _ _) (λ is.
      gives_so)))) (λ ancestor.
      then (classes receiver) (λ class. then (reads_so chain_limit ancestor false class) (λ found.
      gives_so)))))

  copy_so : (value : Value) → Obeys {B = B} (copy_rule value)
  copy_so (Ref name) = then asks (λ object. then (checks _ _) (λ copied. made _ _))
  copy_so (Block block) = fails_so
  copy_so value = gives_so

  so_7 : RuleObeys row_7
  so_7 receiver arguments = then (checks _ _) (λ none. answers_so (copy_so receiver))

  lies_so : (value : Value) → Obeys {B = B} (segment_rule value)
  lies_so (Ref name) = then asks (λ object. gives_so)
  lies_so value = gives_so

  so_8 : RuleObeys row_8
  so_8 receiver arguments = then (checks _ _) (λ none. answers_so (lies_so receiver))

  named_segment : (value : Value) → Obeys {B = B} (segment_argument value)
  named_segment value = then (needs _ _) (λ name. then (kind_checked _ _) (λ is. gives_so))

  checked_segment : (name : ℕ) → Obeys {B = B} (check_segment name)
  checked_segment name = then asks (λ object. then (needs _ _) (λ rights. then whos (λ user.
      then owns (λ profile.
      checks _ _))))

  assigned_so : (value argument : Value) → Obeys {B = B} (assign_rule value argument)
  assigned_so (Ref name) argument = then asks (λ object. then (named_segment argument) (λ segment.
      then (checked_segment segment) (λ writable. then mades (λ made. then (checks _ _) (λ moved. moves)))))
  assigned_so value argument = then (named_segment argument) checked_segment

  so_9 : RuleObeys row_9
  so_9 receiver arguments = then (needs _ _) (λ argument.
      answers_so (then (assigned_so receiver argument) (λ assigned. gives_so)))

  -- ---- numbers

  integers_so : (rule : ℤ → ℤ → Run B Value) → ((number other : ℤ) → Obeys (rule number other))
      → RuleObeys (integers_row rule)
  integers_so rule each receiver arguments = then (needs _ _) (λ number. then (needs _ _) (λ argument.
      then (needs _ _) (λ other.
      answers_so (each number other))))

  so_10 : RuleObeys row_10
  so_10 = integers_so _ (λ number other. then (checks _ _) (λ small. gives_so))

  so_11 : RuleObeys row_11
  so_11 = integers_so _ (λ number other. then (checks _ _) (λ small. gives_so))

  so_12 : RuleObeys row_12
  so_12 = integers_so _ (λ number other. then (checks _ _) (λ small. gives_so))

  so_13 : RuleObeys row_13
  so_13 = integers_so _ (λ number other. then (checks _ _) (λ divides. then (checks _ _) (λ small.
      gives_so)))

  so_14 : RuleObeys row_14
  so_14 = integers_so _ (λ number other. then (checks _ _) (λ divides. then (checks _ _) (λ small.
      gives_so)))

  so_15 : RuleObeys row_15
  so_15 = integers_so _ (λ number other. then (checks _ _) (λ divides. then (checks _ _) (λ small.
      gives_so)))

  so_16 : RuleObeys row_16
  so_16 = integers_so _ (λ number other. then (checks _ _) (λ divides. then (checks _ _) (λ small.
      gives_so)))

  so_17 : RuleObeys row_17
  so_17 = integers_so _ (λ number other. gives_so)

  so_18 : RuleObeys row_18
  so_18 = integers_so _ (λ number other. gives_so)

  so_19 : RuleObeys row_19
  so_19 = integers_so _ (λ number other. gives_so)

  so_20 : RuleObeys row_20
  so_20 = integers_so _ (λ number other. gives_so)

  so_21 : RuleObeys row_21
  so_21 = integers_so _ (λ number other. gives_so)

  so_22 : RuleObeys row_22
  so_22 = integers_so _ (λ number other. gives_so)

  so_23 : RuleObeys row_23
  so_23 = integers_so _ (λ number other. gives_so)

  so_24 : RuleObeys row_24
  so_24 = integers_so _ (λ number other. then (checks _ _) (λ small. gives_so))

  so_25 : RuleObeys row_25
  so_25 receiver arguments = then (needs _ _) (λ number. then (checks _ _) (λ none.
      answers_so (then (checks _ _) (λ fits. gives_so))))

  so_26 : RuleObeys row_26
  so_26 = integers_so _ (λ number other. then (checks _ _) (λ fits. strings _))

  so_27 : RuleObeys row_27
  so_27 receiver arguments = then (needs _ _) (λ code. then (checks _ _) (λ none. answers_so gives_so))

  -- ---- blocks

  values_so : (count : ℕ) → RuleObeys (value_row count)
  values_so count receiver arguments = then (needs _ _) (λ block. then (checks _ _) (λ counted.
      then (checks _ _) (λ fits.
      gives_so)))

  so_32 : RuleObeys row_32
  so_32 receiver arguments = then (needs _ _) (λ block. then (checks _ _) (λ none. answers_so gives_so))

  -- ---- sequences

  sequence_so : (object : Contents) → Obeys {B = B} (sequence_in object)
  sequence_so object = then (needs _ _) (λ slots. then (slots_counted _) (λ named. gives_so))

  sequence_read : {name : ℕ} → Obeys {B = B} (read_sequence name)
  sequence_read = then asks sequence_so

  sequence_written : (name : ℕ) (rule : Contents → Sequence → Run B Value)
      → ((object : Contents) (sequence : Sequence) → Obeys (rule object sequence))
      → Obeys (written_sequence name rule)
  sequence_written name rule each = then asks (λ object. then (sequence_so object) (each object))

  sequences_so : (rule : ℕ → Run B Value) → ((name : ℕ) → Obeys (rule name)) → RuleObeys (sequence_row rule)
  sequences_so rule each receiver arguments = then (needs _ _) (λ name. then (checks _ _) (λ none.
      answers_so (each name)))

  sequences_with : (rule : ℕ → Value → Run B Value) → ((name : ℕ) (one : Value) → Obeys (rule name one))
      → RuleObeys (sequence_row_with rule)
  sequences_with rule each receiver arguments = then (needs _ _) (λ name. then (needs _ _) (λ argument.
      answers_so (each name argument)))

  sequences_with_two : (rule : ℕ → Value → Value → Run B Value)
      → ((name : ℕ) (one other : Value) → Obeys (rule name one other))
      → RuleObeys (sequence_row_with_two rule)
  sequences_with_two rule each receiver arguments = then (needs _ _) (λ name. then (needs _ _) (λ both.
      answers_so (each name both.0 both.1)))

  so_33 : RuleObeys row_33
  so_33 = sequences_so _ (λ name. then sequence_read (λ sequence. gives_so))

  so_34 : RuleObeys row_34
  so_34 = sequences_with _ (λ name index. then sequence_read (λ sequence. then (needs _ _) (λ number.
      then (needs _ _) (λ place. needs _ _))))

  so_35 : RuleObeys row_35
  so_35 = sequences_with_two _ (λ name index value. sequence_written name _ (λ object sequence.
      then (needs _ _) (λ number. then (checks _ _) (λ stored. then (needs _ _) (λ place.
      then (replaces _ _ _ _) (λ put. gives_so))))))

  added_so : (with_value : List Value → Value → List Value) (name : ℕ) (value : Value) (object : Contents)
      (sequence : Sequence) → Obeys {B = B} (with_value_rule with_value name value object sequence)
  added_so with_value name value object sequence = then (checks _ _) (λ stored.
      then (replaces _ _ _ _) (λ put. gives_so))

  so_36 : RuleObeys row_36
  so_36 = sequences_with _ (λ name value. sequence_written name _
      (added_so (λ elements value. elements ++ value ∷ []) name value))

  so_37 : RuleObeys row_37
  so_37 = sequences_with _ (λ name value. sequence_written name _
      (added_so (λ elements value. value ∷ elements) name value))

  removed_so : (without : List Value → Option (Value × List Value)) (name : ℕ) (object : Contents)
      (sequence : Sequence) → Obeys {B = B} (without_rule without name object sequence)
  removed_so without name object sequence = then (needs _ _) (λ removed. then (replaces _ _ _ _) (λ put.
      gives_so))

  so_38 : RuleObeys row_38
  so_38 = sequences_so _ (λ name. sequence_written name _ (removed_so without_first name))

  so_39 : RuleObeys row_39
  so_39 = sequences_so _ (λ name. sequence_written name _ (removed_so without_last name))

  so_40 : RuleObeys row_40
  so_40 = sequences_with_two _ (λ name from to. then asks (λ object. then (sequence_so object) (λ sequence.
      then (needs _ _) (λ first. then (needs _ _) (λ last. then (needs _ _) (λ part.
      then (slots_counted _) (λ named. made _ _)))))))

  sequence_named : (value : Value) → Obeys {B = B} (sequence_argument value)
  sequence_named value = then (needs _ _) (λ name. then (knows _ _) (λ fixed. then (knows _ _) (λ class.
      then (needs _ _) (λ part.
      then (checks _ _) (λ indexed. gives_so)))))

  so_41 : RuleObeys row_41
  so_41 = sequences_with _ (λ name argument. then asks (λ object. then (sequence_so object) (λ sequence.
      then (sequence_named argument) (λ other_name. then sequence_read (λ other.
      then (slots_counted _) (λ named. made _ _))))))

  -- ---- strings

  texts_so : (rule : Text → Run B Value) → ((text : Text) → Obeys (rule text)) → RuleObeys (text_row rule)
  texts_so rule each receiver arguments = then (checks _ _) (λ none. then (own_text receiver) (λ text.
      answers_so (each text)))

  texts_with : (rule : Text → Value → Run B Value) → ((text : Text) (one : Value) → Obeys (rule text one))
      → RuleObeys (text_row_with rule)
  texts_with rule each receiver arguments = then (needs _ _) (λ argument. then (own_text receiver) (λ text.
      answers_so (each text argument)))

  two_texts : (rule : Text → Text → Run B Value) → ((text other : Text) → Obeys (rule text other))
      → RuleObeys (texts_row rule)
  two_texts rule each = texts_with _ (λ text argument. then (given_text argument) (each text))

  so_42 : RuleObeys row_42
  so_42 = texts_so _ (λ text. gives_so)

  so_43 : RuleObeys row_43
  so_43 = texts_with _ (λ text index. then (needs _ _) (λ number. then (needs _ _) (λ place.
      then (needs _ _) (λ byte.
      gives_so))))

  so_44 : RuleObeys row_44
  so_44 receiver arguments = then (needs _ _) (λ name. then (needs _ _) (λ both. answers_so
      (then asks (λ object. then (needs _ _) (λ text. then (needs _ _) (λ number.
      then (needs _ _) (λ code. then (needs _ _) (λ place.
      then (replaces _ _ _ _) (λ put. gives_so)))))))))

  so_45 : RuleObeys row_45
  so_45 = two_texts _ (λ text other. strings _)

  so_46 : RuleObeys row_46
  so_46 receiver arguments = then (needs _ _) (λ both. then (own_text receiver) (λ text. answers_so
      (then (needs _ _) (λ first. then (needs _ _) (λ last. then (needs _ _) (λ part. strings _))))))

  so_47 : RuleObeys row_47
  so_47 = texts_so _ (λ text. then (checks _ _) (λ short. gives_so))

  so_48 : RuleObeys row_48
  so_48 = texts_so _ (λ text. strings _)

  equal_to : (text : Text) (value : Value) → Obeys {B = B} (equal_string text value)
  equal_to text (Ref name) = then (kind_told _ _) (λ is. chooses _ (then bytes_read (λ other.
      gives_so)) gives_so)
  equal_to text value = gives_so

  equal_so : (value argument : Value) → Obeys {B = B} (equal_rule value argument)
  equal_so (Sym name) argument = gives_so
  equal_so (Ref name) argument = then bytes_read (λ text. equal_to text argument)
  equal_so value argument = fails_so

  so_49 : RuleObeys row_49
  so_49 receiver arguments = then (needs _ _) (λ argument. answers_so (equal_so receiver argument))

  so_50 : RuleObeys row_50
  so_50 = two_texts _ (λ text other. gives_so)

  so_51 : RuleObeys row_51
  so_51 receiver arguments = then (needs _ _) (λ name. then (checks _ _) (λ none. then bytes_read (λ text.
      answers_so gives_so)))

  -- ---- new objects

  segment_new : (class : ℕ) → Obeys {B = B} (new_segment class)
  segment_new class = then whos (λ user. then makes (λ name. gives_so))

  new_so : (of : Kind) (class : ℕ) → Obeys {B = B} (new_of_kind of class)
  new_so kind.Segment class = segment_new class
  new_so of class = then (needs fault.ArgumentKind (new_body of)) (λ body_of.
      then (slots_counted class) (λ named.
      made class (body_of named)))

  so_52 : RuleObeys row_52
  so_52 receiver arguments = then (needs _ _) (λ class. then (checks _ _) (λ none. answers_so
      (then asks (λ object. then (needs _ _) (λ found. new_so found.kind class)))))

  so_53 : RuleObeys row_53
  so_53 receiver arguments = then (needs _ _) (λ class. then (needs _ _) (λ argument. answers_so
      (then asks (λ object. then (needs _ _) (λ found. then (needs _ _) (λ body_of.
      then (needs _ _) (λ number.
      then (needs _ _) (λ count. then (slots_counted _) (λ named. made _ _)))))))))

  -- ---- all of them

  all_first : RulesObey first_rules
  all_first =
      same_so also same_so also so_3 also so_4 also so_5 also so_6 also so_7 also so_8 also
      so_9 also so_10 also so_11 also so_12 also so_13 also so_14 also so_15 also so_16 also
      so_17 also so_18 also so_19 also so_20 also so_21 also so_22 also so_23 also so_24 also
      so_25 also so_26 also so_27 also values_so 0 also values_so 1 also values_so 2 also
      values_so 3 also so_32 also so_33 also so_34 also so_35 also so_36 also so_37 also so_38 also
      so_39 also so_40 also so_41 also so_42 also so_43 also so_44 also so_45 also so_46 also
      so_47 also so_48 also so_49 also so_50 also so_51 also so_52 also so_53 also tt

  pub first_so : (number : ℕ) → RuleObeys (first_rule number)
  unfolding first_rule
  first_so number = rule_so no_rule first_rules number no_rule_so all_first
