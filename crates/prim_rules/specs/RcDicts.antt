-- The rules of RcKeyValueDictionary. A key is an integer, a Character, a Symbol or a Boolean.
use Rattle.std.specs.Prelude.{ℕ, cond, List, map, is_some}
use Rattle.gem_object.specs.rc_dict.Dict.{entry}
use Rattle.gem_object.specs.rc_dict.declared.update.DictUpdate.TheVariants.{Put, Remove}
use Rattle.gem_object.specs.Order.{value_order}
use Rattle.gem_object.specs.Spelling.{is_key}
use Rattle.gem_object.specs.declared.value.Value.{Value}
use Rattle.object_programs.specs.gem_update.declared.update.Update.TheVariants as change
use Rattle.object_programs.specs.Run.{Run, give, and_then}
use Rattle.object_programs.specs.Programs.{need, check}
use Rattle.object_programs.specs.declared.fault.Fault.TheVariants as fault
use Rattle.prim_rules.specs.Parts.{one_of, two_of, truth}
use Rattle.prim_rules.specs.Receivers.{shared_pairs_in, read_receiver, write_receiver, check_stored, answer, updated_by, lists}
use Rattle.prim_rules.specs.declared.answer.PrimitiveAnswer.{PrimitiveAnswer}

-- the space that a put takes: two for a key that isn't there, none for one that is
abbrev pub entry_growth : Value → List (Value × Value) → ℕ
entry_growth key pairs = cond (is_some (entry value_order key pairs)) 0 2

module _ {B : Type 0} where
  -- the one argument, which is a key
  abbrev pub shared_key_argument : List Value → Run B Value
  shared_key_argument arguments =
      and_then (need fault.ArgumentKind (one_of arguments)) (λ key.
      and_then (check fault.ArgumentKind (is_key key)) (λ fits.
      give key))

  -- 89 `at:`
  abbrev pub row_89 : Value → List Value → Run B PrimitiveAnswer
  row_89 receiver arguments =
      and_then (read_receiver shared_pairs_in receiver) (λ dictionary.
      and_then (shared_key_argument arguments) (λ key.
      and_then (need fault.KeyAbsent (entry value_order key dictionary.held)) (λ value.
      answer value)))

  -- 90 `at:put:`, which answers the value; a put is never refused
  abbrev pub row_90 : Value → List Value → Run B PrimitiveAnswer
  row_90 receiver arguments =
      and_then (write_receiver shared_pairs_in receiver) (λ dictionary.
      and_then (need fault.ArgumentKind (two_of arguments)) (λ pair.
      and_then (check fault.ArgumentKind (is_key pair.0)) (λ key_fits.
      and_then (check_stored pair.1) (λ value_fits.
      updated_by dictionary (change.RcDict (Put pair.0 pair.1)) fault.ArgumentKind
      (entry_growth pair.0 dictionary.held) pair.1))))

  -- 91 `removeKey:`, which answers the value that was there
  abbrev pub row_91 : Value → List Value → Run B PrimitiveAnswer
  row_91 receiver arguments =
      and_then (write_receiver shared_pairs_in receiver) (λ dictionary.
      and_then (shared_key_argument arguments) (λ key.
      and_then (need fault.KeyAbsent (entry value_order key dictionary.held)) (λ value.
      updated_by dictionary (change.RcDict (Remove key)) fault.KeyAbsent 0 value)))

  -- 92 `includesKey:`
  abbrev pub row_92 : Value → List Value → Run B PrimitiveAnswer
  row_92 receiver arguments =
      and_then (read_receiver shared_pairs_in receiver) (λ dictionary.
      and_then (shared_key_argument arguments) (λ key.
      answer (truth (is_some (entry value_order key dictionary.held)))))

  -- 93 `keys`, ascending
  abbrev pub row_93 : Value → List Value → Run B PrimitiveAnswer
  row_93 receiver arguments = lists shared_pairs_in (map (λ pair. pair.0)) receiver arguments
