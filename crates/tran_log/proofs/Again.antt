-- A chain of records is read as it was written.
use Rattle.std.proofs.Common.{◌≡◌, ◌≢◌, ℕ, ◌+◌, ◌%◌, ◌^◌, ◌<◌, ◌≤◌, Bool, true, false, cond, eqb, ltb, leb, IsTrue, List, [], ◌∷◌, ◌++◌, length, take, drop, Option, Some, None, Result, Ok, refl, sym, ap, ap₂, subst, ◌∙◌, append_assoc, arith}
use Rattle.std.specs.Int.{w32, w64}
use Rattle.std.proofs.lemmas.Bool.{le-ltb, ltb-true, le-leb, lt-leb, and_parts}
use Rattle.std.proofs.lemmas.Bool.Decides.{nat_tests}
use Rattle.std.proofs.lemmas.List.{take_at, drop-drop, length-append}
use Rattle.gem_record.specs.declared.mode.Mode.{Mode}
use Rattle.gem_record.specs.declared.mode.Mode.TheVariants.{Full, NoRw}
use Rattle.gem_record.specs.declared.effect.Effect.{Effect}
use Rattle.body_codec.specs.Stored.{IsStoredEffect}
use Rattle.body_codec.specs.Spelled.{eight_bytes}
use Rattle.body_codec.specs.Reading.{number_at}
use Rattle.body_codec.proofs.Takes.{four_reads, eight_reads}
use Rattle.body_codec.proofs.Whole.{whole_again}
use Rattle.tran_log.specs.declared.fault.LogRule.{LogRule}
use Rattle.tran_log.specs.Log.{LogRecord, Format1, Format2, effect_of, mode_of, content, length_word, spelled, chain, follows, IsNext, AreRecords, logged_as, logged_from, word_in, number_in, is_format_2, length_in, parts_of, whole, whole_parts, record_at, before, joined, walk, log_of}
use Rattle.tran_log.proofs.Walks.{walk_skips, grouped_record, record_long, number_here, number_next}

same_pair : {A B F : Type 0} (p q : A × B) → ◌≡◌ {A = Result (A × B) F} (Ok p) (Ok q) → (p.0 ≡ q.0) × (p.1 ≡ q.1)
same_pair p q e = (ap (λ x. x.0) (ok_same p q e), ap (λ x. x.1) (ok_same p q e)) where
  ok_same : {X F : Type 0} (x y : X) → ◌≡◌ {A = Result X F} (Ok x) (Ok y) → x ≡ y
  ok_same x y e = cc

number_below : (last : Option ℕ) (number : ℕ) → IsTrue (follows last number) → number < 2 ^ 64
number_below None number follow = omega (arith, ltb-true _ _ follow)
number_below (Some n) number follow = omega (arith, ltb-true _ _ (and_parts (eqb number (n + 1)) (ltb number (2 ^ 63)) follow).1)

not_one : (gate : ℕ) → gate ≢ 1 → eqb gate 1 ≡ false
not_one gate closed = grind (arith, nat_tests, closed)

-- ---- length words

abbrev is_second : LogRecord → Bool
is_second (Format1 effect) = false
is_second (Format2 mode effect) = true

word_below : (one : LogRecord) → length (content one) < 2 ^ 31 → length_word one < 2 ^ 32
word_below (Format1 effect) short = omega (arith, short)
word_below (Format2 mode effect) short = omega (arith, short)

word_low : (one : LogRecord) → length (content one) < 2 ^ 31 → length_word one % 2 ^ 31 ≡ length (content one)
word_low (Format1 effect) short = omega (arith, short)
word_low (Format2 mode effect) short = omega (arith, short)

word_high : (one : LogRecord) → length (content one) < 2 ^ 31 → leb (2 ^ 31) (length_word one) ≡ is_second one
word_high (Format1 effect) short = lt-leb (2 ^ 31) _ short
word_high (Format2 mode effect) short = le-leb (2 ^ 31) _ (omega arith)

abbrev reads_so : LogRecord → Result (Mode × Effect) LogRule
reads_so one = Ok (mode_of one, effect_of one)

content_again : (one : LogRecord) → IsStoredEffect (effect_of one).number (effect_of one)
    → whole_parts (effect_of one).number (parts_of (is_second one) (content one)) ≡ reads_so one
content_again (Format1 effect) stored = ap (whole Full) (whole_again effect.number effect stored)
content_again (Format2 Full effect) stored = ap (whole Full) (whole_again effect.number effect stored)
content_again (Format2 NoRw effect) stored = ap (whole NoRw) (whole_again effect.number effect stored)

-- ---- a record

module _ (last : Option ℕ) (one : LogRecord) (next : IsNext last one) (rest : List ℕ) where
  abbrev bytes : List ℕ
  bytes = spelled one ++ rest

  abbrev size : ℕ
  size = length (content one)

  abbrev number : ℕ
  number = (effect_of one).number

  abbrev after_four : List ℕ
  after_four = eight_bytes number ++ (content one ++ rest)

  twelve : 12 ≤ length bytes
  twelve = omega (arith, record_long one, length-append (spelled one) rest)

  -- the length word, and the number behind it
  fields : (word_in bytes ≡ length_word one) × (drop 4 bytes ≡ after_four)
  fields =
      let read = four_reads.again (length_word one) after_four (word_below one next.short) in
      let same : number_at w32 bytes ≡ Ok (length_word one, after_four) =
      ap (number_at w32) (grouped_record one rest) ∙ read in
      same_pair (word_in bytes, drop 4 bytes) (length_word one, after_four) (sym (number_here bytes twelve) ∙ same)

  length_is : length_in bytes ≡ size
  length_is = ap (λ (n : ℕ). n % 2 ^ 31) fields.0 ∙ word_low one next.short

  format_is : is_format_2 bytes ≡ is_second one
  format_is = ap (leb (2 ^ 31)) fields.0 ∙ word_high one next.short

  fields_next : (number_in bytes ≡ number) × (drop 8 (drop 4 bytes) ≡ content one ++ rest)
  fields_next =
      let read = eight_reads.again number (content one ++ rest) (number_below last number next.number) in
      let same : number_at w64 (drop 4 bytes) ≡ Ok (number, content one ++ rest) =
      ap (number_at w64) fields.1 ∙ read in
      same_pair (number_in bytes, drop 8 (drop 4 bytes)) (number, content one ++ rest)
      (sym (number_next bytes twelve) ∙ same)

  body_is : drop 12 bytes ≡ content one ++ rest
  body_is = sym (drop-drop 8 4 bytes) ∙ fields_next.1

  pub record_again : record_at last bytes ≡ reads_so one
  unfolding record_at
  record_again =
      let long : ltb (length bytes) 12 ≡ false = le-ltb _ _ twelve in
      let enough : ltb (length (drop 12 bytes)) (length_in bytes) ≡ false =
      le-ltb _ _ (omega (arith, length_is, ap length body_is, length-append (content one) rest)) in
      let slice : take (length_in bytes) (drop 12 bytes) ≡ content one =
      ap₂ (λ (n : ℕ) (l : List ℕ). take n l) length_is body_is ∙ take_at (content one) rest size refl in
      let follow : follows last (number_in bytes) ≡ true = subst (λ (n : ℕ). follows last n ≡ true) (sym fields_next.0) next.number in
      let read : whole_parts (number_in bytes) (parts_of (is_format_2 bytes) (take (length_in bytes) (drop 12 bytes))) ≡ reads_so one =
      ap₂ (λ (b : Bool) (l : List ℕ). whole_parts (number_in bytes) (parts_of b l)) format_is slice
      ∙ ap (λ (n : ℕ). whole_parts n (parts_of (is_second one) (content one))) fields_next.0
      ∙ content_again one next.stored in
      rw (long, enough, follow) read

  -- one record of a walk
  pub one_record : (at : ℕ) → walk 0 at last (1 ∷ bytes)
      ≡ before (logged_as at (mode_of one) (effect_of one)) (walk 0 ((at + 1) + length (spelled one)) (Some number) rest)
  one_record at =
      let skip : 12 + length_in bytes ≡ length (spelled one) = omega (arith, length_is, record_long one) in
      let here = logged_as at (mode_of one) (effect_of one) in
      ap (λ r. joined at r (walk (12 + length_in bytes) (at + 1) (Some (number_in bytes)) bytes)) record_again
      ∙ ap₂ (λ (n : ℕ) (o : ℕ). before here (walk n (at + 1) (Some o) bytes)) skip fields_next.0
      ∙ ap (before here) (walk_skips (spelled one) rest (at + 1) (Some number))

-- ---- chains

pub walk_chain : (records : List LogRecord) (last : Option ℕ) (at gate : ℕ) (rest : List ℕ) → AreRecords last records
    → eqb gate 1 ≡ false → walk 0 at last (chain records ++ (gate ∷ rest)) ≡ Ok (logged_from at records)
walk_chain [] last at gate rest are closed = ap (λ b. cond b (joined at (record_at last rest)
    (walk (12 + length_in rest) (at + 1) (Some (number_in rest)) rest)) (Ok [])) closed
walk_chain (one ∷ records) last at gate rest are closed =
    let more = chain records ++ (gate ∷ rest) in
    let e : (at + 1) + length (spelled one) ≡ at + (1 + length (spelled one)) = omega arith in
    ap (λ (l : List ℕ). walk 0 at last (1 ∷ l)) (append_assoc (spelled one) (chain records) (gate ∷ rest))
    ∙ one_record last one are.0 more at
    ∙ ap (λ (n : ℕ). before (logged_as at (mode_of one) (effect_of one)) (walk 0 n (Some (effect_of one).number) more)) e
    ∙ ap (before (logged_as at (mode_of one) (effect_of one)))
    (walk_chain records (Some (effect_of one).number) (at + (1 + length (spelled one))) gate rest are.1 closed)

pub log_long : (bytes : List ℕ) → 2 ≤ length bytes → log_of bytes ≡ walk 0 0 None bytes
log_long [] long = absurd (omega (arith, long))
log_long (gate ∷ []) long = absurd (omega (arith, long))
log_long (gate ∷ byte ∷ rest) long = refl

pub small_log : (bytes : List ℕ) → length bytes ≤ 1 → log_of bytes ≡ Ok []
small_log [] small = refl
small_log (gate ∷ []) small = refl
small_log (gate ∷ byte ∷ rest) small = absurd (omega (arith, small))

-- a log that ends at a closed gate holds the records before it
pub log_is : (records : List LogRecord) (gate : ℕ) (rest : List ℕ) → AreRecords None records → gate ≢ 1
    → log_of (chain records ++ (gate ∷ rest)) ≡ Ok (logged_from 0 records)
log_is [] gate [] are closed = refl
log_is [] gate (byte ∷ rest) are closed = walk_chain [] None 0 gate (byte ∷ rest) are (not_one gate closed)
log_is (one ∷ records) gate rest are closed =
    let bytes = chain (one ∷ records) ++ (gate ∷ rest) in
    let long : 2 ≤ length bytes = omega (
      arith,
      length-append (chain (one ∷ records)) (gate ∷ rest),
      length-append (spelled one) (chain records),
      record_long one,
    ) in
    log_long bytes long ∙ walk_chain (one ∷ records) None 0 gate rest are (not_one gate closed)
