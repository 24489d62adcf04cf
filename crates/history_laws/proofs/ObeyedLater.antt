-- The rules of the primitives 54 to 96 obey, and so do all rules: nothing follows on an access that
-- isn't allowed.
use Rattle.std.proofs.Common.{ℕ, nat_le, List, [], ◌∷◌}
use Rattle.gem_meaning.specs.texts.Bytes.{Bytes as Text}
use Rattle.gem_meaning.specs.seg_rights.declared.right.Right.{Right}
use Rattle.gem_meaning.specs.seg_rights.declared.rights.Rights.{Rights}
use Rattle.gem_meaning.specs.gem_object.rc_queue.Contents.{Contents as QueueContents}
use Rattle.gem_meaning.specs.gem_object.declared.kind.Kind.{Kind}
use Rattle.gem_meaning.specs.gem_object.declared.value.Value.{Value}
use Rattle.gem_meaning.specs.gem_object.declared.value.Value.TheVariants.{Ref}
use Rattle.gem_meaning.specs.gem_sound.declared.names.TheConstants.{ALL_USERS}
use Rattle.gem_meaning.specs.prim_rules.Parts.{int_in, symbol_in, slots_in, pairs_in, class_in, segment_in, user_in}
use Rattle.gem_meaning.specs.prim_rules.Receivers.{counter_in, occurrences_in, shared_pairs_in, queue_in, Receiver}
use Rattle.gem_meaning.specs.prim_rules.Making.{Entered, make_and_enter}
use Rattle.gem_meaning.specs.prim_rules.Classes.{kind_to_inherit, elements_of, names_to_add, wanted_class, row_54, row_55, row_56, row_57, row_58, row_59, row_60}
use Rattle.gem_meaning.specs.prim_rules.Dictionaries.{check_key, key_argument, row_61, row_62, row_63, row_64, row_65, row_66, row_67}
use Rattle.gem_meaning.specs.prim_rules.Segments.{right_in, with_owner_right, with_world_right, sets_right, row_68, row_69, row_70, row_71, row_72, row_73}
use Rattle.gem_meaning.specs.prim_rules.Users.{user_name_in, row_74, row_75, row_76, row_77, row_78, row_79, row_80}
use Rattle.gem_meaning.specs.prim_rules.Transcript.{row_81, row_82}
use Rattle.gem_meaning.specs.prim_rules.Counters.{row_83, row_84}
use Rattle.gem_meaning.specs.prim_rules.Bags.{row_85, row_86, row_87, row_88}
use Rattle.gem_meaning.specs.prim_rules.RcDicts.{shared_key_argument, row_89, row_90, row_91, row_92, row_93}
use Rattle.gem_meaning.specs.prim_rules.Queues.{front_removed, row_94, row_95, row_96}
use Rattle.gem_meaning.specs.prim_rules.FirstRules.{no_rule, first_rule}
use Rattle.gem_meaning.specs.prim_rules.LaterRules.{later_rules, later_rule}
use Rattle.gem_meaning.specs.prim_rules.Rules.{rule_of}
use Rattle.history_laws.proofs.Obeys.{Obeys, gives_so, then, asks, whos, puts, counts_names, makes, takes_room, shows, needs, checks, goes_up, replaces}
use Rattle.history_laws.proofs.ObeyedNotes.{ObeysIf, Leaves, gives_left, needs_left, checks_left, then_left, then_if, obeys_if, updates, argument_left, argument_so, written_so, writes}
use Rattle.history_laws.proofs.ObeyedParts.{knows, kind_checked, slots_counted, segments, answers_so, arrays, read_so, given_text}
use Rattle.history_laws.proofs.ObeyedFirst.{◌also◌, RuleObeys, RulesObey, one_so, rule_so, no_rule_so, first_so}

module _ {B : Type 0} where
  -- ---- classes

  enters : {A : Type 0} (entered : Entered) (dictionary : Receiver A)
      → Obeys {B = B} (make_and_enter entered dictionary)
  unfolding make_and_enter
  enters entered dictionary = then (checks _ _) (λ objects_small. then (checks _ _) (λ dictionary_small.
      then counts_names (λ named.
      then takes_room (λ room. then makes (λ first. then puts (λ entry. gives_so))))))

  inherits : (superclass : ℕ) → Obeys {B = B} (kind_to_inherit superclass)
  inherits superclass = then (knows _ _) (λ fixed. then (needs _ _) (λ part. then (checks _ _) (λ may.
      gives_so)))

  elements_so : (value : Value) → Obeys {B = B} (elements_of value)
  elements_so value = then (needs _ _) (λ name. then asks (λ object. then (needs _ _) (λ slots.
      then (slots_counted _) (λ named.
      gives_so))))

  adds_names : (superclass : ℕ) (of : Kind) (value : Value)
      → Obeys {B = B} (names_to_add superclass of value)
  adds_names superclass of value = then (elements_so value) (λ elements. then (needs _ _) (λ names.
      then (then (goes_up _) (λ all. gives_so))
      (λ inherited. then (checks _ _) (λ may. gives_so))))

  wants : (superclass : ℕ) (wanted : Value × (Value × Value))
      → Obeys {B = B} (wanted_class superclass wanted)
  wants superclass wanted = then (needs _ _) (λ name. then (kind_checked _ _) (λ is_array.
      then (kind_checked _ _) (λ is_dictionary.
      then (inherits _) (λ of. then (adds_names superclass of wanted.1.0) (λ names. gives_so)))))

  so_54 : RuleObeys {B = B} row_54
  so_54 receiver arguments = then (needs _ _) (λ superclass. then (needs _ _) (λ three.
      then (wants superclass three) (λ wanted.
      then (written_so pairs_in wanted.dictionary) (λ dictionary. then segments (λ segment.
      answers_so (enters _ _))))))

  so_55 : RuleObeys {B = B} row_55
  so_55 receiver arguments = then (read_so class_in receiver) (λ known. then (checks _ _) (λ none.
      gives_so))

  so_56 : RuleObeys {B = B} row_56
  so_56 receiver arguments = then (read_so class_in receiver) (λ known. then (checks _ _) (λ none.
      gives_so))

  so_57 : RuleObeys {B = B} row_57
  so_57 receiver arguments = then (read_so class_in receiver) (λ known. then (checks _ _) (λ none.
      arrays _))

  so_58 : RuleObeys {B = B} row_58
  so_58 receiver arguments = then (read_so class_in receiver) (λ known. then (checks _ _) (λ none.
      arrays _))

  so_59 : RuleObeys {B = B} row_59
  so_59 receiver arguments = then (read_so class_in receiver) (λ class.
      then (argument_so symbol_in arguments) (λ selector. gives_so))

  so_60 : RuleObeys {B = B} row_60
  so_60 receiver arguments = then (written_so class_in receiver) (λ class.
      then (argument_so symbol_in arguments) (λ selector. then (checks _ _) (λ there.
      then (replaces _ _ _ _) (λ replaced. gives_so))))

  -- ---- dictionaries

  key_checked : (key : Value) → Obeys {B = B} (check_key key)
  key_checked key = then (checks _ _) (λ some. checks _ _)

  key_given : (arguments : List Value) → Obeys {B = B} (key_argument arguments)
  key_given arguments = then (needs _ _) (λ key. then (key_checked key) (λ fits. gives_so))

  so_61 : RuleObeys {B = B} row_61
  so_61 receiver arguments = then (read_so pairs_in receiver) (λ dictionary.
      then (key_given arguments) (λ key. then (needs _ _) (λ value.
      gives_so)))

  so_62 : RuleObeys {B = B} row_62
  so_62 receiver arguments = then (written_so pairs_in receiver) (λ dictionary.
      then (needs _ _) (λ pair. then (key_checked pair.0) (λ key_fits.
      then (checks _ _) (λ value_fits. then (replaces _ _ _ _) (λ replaced. gives_so)))))

  so_63 : RuleObeys {B = B} row_63
  so_63 receiver arguments = then (read_so pairs_in receiver) (λ dictionary.
      then (key_given arguments) (λ key. gives_so))

  so_64 : RuleObeys {B = B} row_64
  so_64 receiver arguments = then (written_so pairs_in receiver) (λ dictionary.
      then (key_given arguments) (λ key. then (needs _ _) (λ value.
      then (replaces _ _ _ _) (λ replaced. gives_so))))

  so_65 : RuleObeys {B = B} row_65
  so_65 receiver arguments = then (read_so pairs_in receiver) (λ known. then (checks _ _) (λ none.
      gives_so))

  so_66 : RuleObeys {B = B} row_66
  so_66 receiver arguments = then (read_so pairs_in receiver) (λ known. then (checks _ _) (λ none.
      arrays _))

  so_67 : RuleObeys {B = B} row_67
  so_67 receiver arguments = then (read_so pairs_in receiver) (λ known. then (checks _ _) (λ none.
      arrays _))

  -- ---- segments and users

  so_68 : RuleObeys {B = B} row_68
  so_68 receiver arguments = then (read_so segment_in receiver) (λ known. then (checks _ _) (λ none.
      gives_so))

  sets_so : (with_the : Right → Rights Text → Rights Text) → RuleObeys {B = B} (sets_right with_the)
  sets_so with_the receiver arguments = then (written_so segment_in receiver) (λ segment.
      then (argument_so right_in arguments) (λ right. then (replaces _ _ _ _) (λ replaced. gives_so)))

  so_69 : RuleObeys {B = B} row_69
  so_69 receiver arguments = sets_so with_owner_right receiver arguments

  so_70 : RuleObeys {B = B} row_70
  so_70 receiver arguments = sets_so with_world_right receiver arguments

  so_71 : RuleObeys {B = B} row_71
  so_71 receiver arguments = then (written_so segment_in receiver) (λ segment. then (needs _ _) (λ pair.
      then (needs _ _) (λ group.
      then (needs _ _) (λ right. then (checks _ _) (λ few. then (replaces _ _ _ _) (λ replaced.
      gives_so))))))

  so_72 : RuleObeys {B = B} row_72
  so_72 receiver arguments = then (read_so segment_in receiver) (λ known. then (checks _ _) (λ none.
      gives_so))

  so_73 : RuleObeys {B = B} row_73
  so_73 receiver arguments = then (read_so segment_in receiver) (λ known. then (checks _ _) (λ none.
      gives_so))

  so_74 : RuleObeys {B = B} row_74
  so_74 receiver arguments = then (read_so user_in receiver) (λ known. then (checks _ _) (λ none. gives_so))

  so_75 : RuleObeys {B = B} row_75
  so_75 receiver arguments = then (read_so user_in receiver) (λ known. then (checks _ _) (λ none. arrays _))

  so_76 : RuleObeys {B = B} row_76
  so_76 receiver arguments = then (written_so user_in receiver) (λ user.
      then (argument_so symbol_in arguments) (λ group. then (checks _ _) (λ few.
      then (replaces _ _ _ _) (λ replaced. gives_so))))

  so_77 : RuleObeys {B = B} row_77
  so_77 receiver arguments = then (written_so user_in receiver) (λ user.
      then (argument_so symbol_in arguments) (λ group. then (checks _ _) (λ there.
      then (checks _ _) (λ few. then (replaces _ _ _ _) (λ replaced. gives_so)))))

  so_78 : RuleObeys {B = B} row_78
  so_78 receiver arguments = then (read_so user_in receiver) (λ known. then (checks _ _) (λ none. gives_so))

  so_79 : RuleObeys {B = B} row_79
  so_79 receiver arguments = then (needs _ _) (λ class.
      then (argument_so user_name_in arguments) (λ name.
      then (written_so pairs_in (Ref ALL_USERS)) (λ users.
      then (checks _ _) (λ absent. answers_so (enters _ _)))))

  so_80 : RuleObeys {B = B} row_80
  so_80 receiver arguments = then (needs _ _) (λ class. then (checks _ _) (λ none. then whos (λ user.
      gives_so)))

  -- ---- the transcript

  so_81 : RuleObeys {B = B} row_81
  so_81 receiver arguments = then (read_so slots_in receiver) (λ transcript. then (needs _ _) (λ value.
      then (given_text value) (λ text.
      then shows (λ shown. gives_so))))

  so_82 : RuleObeys {B = B} row_82
  so_82 receiver arguments = then (read_so slots_in receiver) (λ transcript. then (checks _ _) (λ none.
      then shows (λ shown. gives_so)))

  -- ---- reduced-conflict objects

  so_83 : RuleObeys {B = B} row_83
  so_83 receiver arguments = then (read_so counter_in receiver) (λ known. then (checks _ _) (λ none.
      gives_so))

  so_84 : RuleObeys {B = B} row_84
  so_84 receiver arguments = writes counter_in receiver (λ counter.
      then_if (argument_so int_in arguments) (argument_left int_in arguments) (λ by. updates _ _ _ _ _ _))

  so_85 : RuleObeys {B = B} row_85
  so_85 receiver arguments = writes occurrences_in receiver (λ bag.
      then_if (needs _ _) (needs_left _ _) (λ item. then_if (checks _ _) (checks_left _ _) (λ fits.
      updates _ _ _ _ _ _)))

  so_86 : RuleObeys {B = B} row_86
  so_86 receiver arguments = writes occurrences_in receiver (λ bag.
      then_if (needs _ _) (needs_left _ _) (λ item. updates _ _ _ _ _ _))

  so_87 : RuleObeys {B = B} row_87
  so_87 receiver arguments = then (read_so occurrences_in receiver) (λ bag. then (needs _ _) (λ item.
      then (checks _ _) (λ fits. gives_so)))

  so_88 : RuleObeys {B = B} row_88
  so_88 receiver arguments = then (read_so occurrences_in receiver) (λ known. then (checks _ _) (λ none.
      arrays _))

  shared_key : (arguments : List Value) → Obeys {B = B} (shared_key_argument arguments)
  shared_key arguments = then (needs _ _) (λ key. then (checks _ _) (λ fits. gives_so))

  shared_key_left : (arguments : List Value) → Leaves {B = B} (shared_key_argument arguments)
  shared_key_left arguments = then_left (needs_left _ _) (λ key. then_left (checks_left _ _) (λ fits.
      gives_left))

  so_89 : RuleObeys {B = B} row_89
  so_89 receiver arguments = then (read_so shared_pairs_in receiver) (λ dictionary.
      then (shared_key arguments) (λ key. then (needs _ _) (λ value.
      gives_so)))

  so_90 : RuleObeys {B = B} row_90
  so_90 receiver arguments = writes shared_pairs_in receiver (λ dictionary.
      then_if (needs _ _) (needs_left _ _) (λ pair.
      then_if (checks _ _) (checks_left _ _) (λ key_fits.
      then_if (checks _ _) (checks_left _ _) (λ value_fits. updates _ _ _ _ _ _))))

  so_91 : RuleObeys {B = B} row_91
  so_91 receiver arguments = writes shared_pairs_in receiver (λ dictionary.
      then_if (shared_key arguments) (shared_key_left arguments) (λ key.
      then_if (needs _ _) (needs_left _ _) (λ value. updates _ _ _ _ _ _)))

  so_92 : RuleObeys {B = B} row_92
  so_92 receiver arguments = then (read_so shared_pairs_in receiver) (λ dictionary.
      then (shared_key arguments) (λ key. gives_so))

  so_93 : RuleObeys {B = B} row_93
  so_93 receiver arguments = then (read_so shared_pairs_in receiver) (λ known.
      then (checks _ _) (λ none. arrays _))

  so_94 : RuleObeys {B = B} row_94
  so_94 receiver arguments = writes queue_in receiver (λ queue.
      then_if (needs _ _) (needs_left _ _) (λ item. then_if (checks _ _) (checks_left _ _) (λ fits.
      updates _ _ _ _ _ _)))

  front_so : (queue : Receiver (QueueContents Value)) (items : List Value)
      → ObeysIf {B = B} queue.name (front_removed queue items)
  front_so queue [] = obeys_if gives_so
  front_so queue (front ∷ rest) = updates _ _ _ _ _ _

  so_95 : RuleObeys {B = B} row_95
  so_95 receiver arguments = writes queue_in receiver (λ queue.
      then_if (checks _ _) (checks_left _ _) (λ none.
      front_so queue queue.held.items))

  so_96 : RuleObeys {B = B} row_96
  so_96 receiver arguments = then (read_so queue_in receiver) (λ known. then (checks _ _) (λ none.
      arrays _))

  -- ---- all of them

  all_later : RulesObey {B = B} later_rules
  all_later =
      so_54 also so_55 also so_56 also so_57 also so_58 also so_59 also so_60 also so_61 also
      so_62 also so_63 also so_64 also so_65 also so_66 also so_67 also so_68 also so_69 also
      so_70 also so_71 also so_72 also so_73 also so_74 also so_75 also so_76 also so_77 also
      so_78 also so_79 also so_80 also so_81 also so_82 also so_83 also so_84 also so_85 also
      so_86 also so_87 also so_88 also so_89 also so_90 also so_91 also so_92 also so_93 also
      so_94 also so_95 also so_96 also tt

  later_so : (number : ℕ) → RuleObeys {B = B} (later_rule number)
  unfolding later_rule
  later_so number = rule_so no_rule later_rules number no_rule_so all_later

  -- every primitive
  pub primitives : (number : ℕ) (receiver : Value) (arguments : List Value)
      → Obeys {B = B} (rule_of number receiver arguments)
  unfolding rule_of
  primitives number receiver arguments = one_so (nat_le number 53) (first_rule number) (later_rule number)
      receiver arguments (first_so number receiver arguments) (later_so number receiver arguments)
