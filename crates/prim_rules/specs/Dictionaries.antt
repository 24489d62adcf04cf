-- The rules of IdentityDictionary. A key is any value but nil and a block; the pairs keep the order
-- in which their keys came.
use Rattle.std.specs.Prelude.{ℕ, pos, cond, not, length, List, map, is_some}
use Rattle.gem_object.specs.Edits.{value_at, with_value_at, without_value_at}
use Rattle.gem_object.specs.declared.value.Value.{Value}
use Rattle.gem_object.specs.declared.value.Value.TheVariants.{Int}
use Rattle.gem_object.specs.declared.body.Body.{Body}
use Rattle.object_programs.specs.Spelled.{is_nil}
use Rattle.object_programs.specs.Run.{Run, give, and_then}
use Rattle.object_programs.specs.Programs.{need, check}
use Rattle.object_programs.specs.declared.fault.Fault.TheVariants as fault
use Rattle.prim_rules.specs.Parts.{pairs_in, one_of, two_of, truth}
use Rattle.prim_rules.specs.Receivers.{read_receiver, write_receiver, check_stored, answer, replaced_by, tells, lists}
use Rattle.prim_rules.specs.declared.answer.PrimitiveAnswer.{PrimitiveAnswer}

-- the space that a put takes: two for a key that isn't there, none for one that is
abbrev pub pair_growth : Value → Body → ℕ
pair_growth key dictionary = cond (is_some (value_at key dictionary)) 0 2

module _ {B : Type 0} where
  -- E5 where a key is nil, E12 where it is a block
  abbrev pub check_key : Value → Run B (Unit {0})
  check_key key =
      and_then (check fault.ArgumentKind (not (is_nil key))) (λ some. check_stored key)

  -- the one argument, which is a key
  abbrev pub key_argument : List Value → Run B Value
  key_argument arguments =
      and_then (need fault.ArgumentKind (one_of arguments)) (λ key.
      and_then (check_key key) (λ fits.
      give key))

  -- 61 `at:`
  abbrev pub row_61 : Value → List Value → Run B PrimitiveAnswer
  row_61 receiver arguments =
      and_then (read_receiver pairs_in receiver) (λ dictionary.
      and_then (key_argument arguments) (λ key.
      and_then (need fault.KeyAbsent (value_at key dictionary.object.body)) (λ value.
      answer value)))

  -- 62 `at:put:`, which answers the value
  abbrev pub row_62 : Value → List Value → Run B PrimitiveAnswer
  row_62 receiver arguments =
      and_then (write_receiver pairs_in receiver) (λ dictionary.
      and_then (need fault.ArgumentKind (two_of arguments)) (λ pair.
      and_then (check_key pair.0) (λ key_fits.
      and_then (check_stored pair.1) (λ value_fits.
      replaced_by dictionary (with_value_at pair.0 pair.1 dictionary.object.body)
      (pair_growth pair.0 dictionary.object.body) pair.1))))

  -- 63 `includesKey:`
  abbrev pub row_63 : Value → List Value → Run B PrimitiveAnswer
  row_63 receiver arguments =
      and_then (read_receiver pairs_in receiver) (λ dictionary.
      and_then (key_argument arguments) (λ key.
      answer (truth (is_some (value_at key dictionary.object.body)))))

  -- 64 `removeKey:`, which answers the value that was there
  abbrev pub row_64 : Value → List Value → Run B PrimitiveAnswer
  row_64 receiver arguments =
      and_then (write_receiver pairs_in receiver) (λ dictionary.
      and_then (key_argument arguments) (λ key.
      and_then (need fault.KeyAbsent (value_at key dictionary.object.body)) (λ value.
      replaced_by dictionary (without_value_at key dictionary.object.body) 0 value)))

  -- 65 `size`, the number of pairs
  abbrev pub row_65 : Value → List Value → Run B PrimitiveAnswer
  row_65 receiver arguments = tells pairs_in (λ pairs. Int (pos (length pairs))) receiver arguments

  -- 66 `keys` and 67 `values`, in their order
  abbrev pub row_66 : Value → List Value → Run B PrimitiveAnswer
  row_66 receiver arguments = lists pairs_in (map (λ pair. pair.0)) receiver arguments

  abbrev pub row_67 : Value → List Value → Run B PrimitiveAnswer
  row_67 receiver arguments = lists pairs_in (map (λ pair. pair.1)) receiver arguments
