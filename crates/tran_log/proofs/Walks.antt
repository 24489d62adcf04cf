-- How a chain of records is walked over.
use Rattle.std.proofs.Common.{◌≡◌, ℕ, suc, ◌+◌, ◌%◌, ◌^◌, ◌<◌, ◌≤◌, Bool, true, false, cond, eqb, ltb, leb, IsTrue, List, [], ◌∷◌, ◌++◌, length, take, drop, Option, Some, None, option_map, Result, Ok, Err, refl, sym, ap, ap₂, subst, ◌∙◌, append_assoc, append-nil, arith}
use Rattle.std.specs.Int.{w32, w64}
use Rattle.std.proofs.lemmas.Bool.{ltb-false, le-ltb, eqb-true, leb-true, leb-false}
use Rattle.std.proofs.lemmas.List.{drop-drop, take-append-drop, length-append, length-take, length-drop}
use Rattle.gem_record.specs.declared.mode.Mode.{Mode}
use Rattle.gem_record.specs.declared.mode.Mode.TheVariants.{Full, NoRw}
use Rattle.gem_record.specs.declared.effect.Effect.{Effect}
use Rattle.body_codec.specs.Stored.{IsStoredEffect}
use Rattle.body_codec.specs.Spelled.{four_bytes, eight_bytes}
use Rattle.body_codec.specs.Reading.{number_at}
use Rattle.body_codec.specs.Whole.{whole_effect}
use Rattle.body_codec.proofs.Takes.{IsBytes, bytes_take, four_reads, eight_reads}
use Rattle.body_codec.proofs.Lengths.{four_long, eight_long}
use Rattle.body_codec.proofs.Whole.{whole_is}
use Rattle.tran_log.specs.declared.fault.LogRule.{LogRule}
use Rattle.tran_log.specs.declared.fault.LogRule.TheVariants as rule
use Rattle.tran_log.specs.declared.logged.Logged.{Logged}
use Rattle.tran_log.specs.Log.{LogRecord, Format1, Format2, effect_of, mode_of, mode_byte, content, length_word, spelled, chain, follows, IsNext, AreRecords, logged_as, logged_from, last_number, word_in, number_in, is_format_2, length_in, behind, byte_mode, parts_of, whole, whole_parts, record_at, Fault, before, walk}

-- ---- skipping

-- what is skipped doesn't matter
pub walk_skips : (xs ys : List ℕ) (at : ℕ) (last : Option ℕ)
    → walk (length xs) at last (xs ++ ys) ≡ walk 0 (at + length xs) last ys
walk_skips [] ys at last =
    let e : at ≡ at + 0 = omega arith in
    ap (λ (n : ℕ). walk 0 n last ys) e
walk_skips (x ∷ xs) ys at last =
    let e : (at + 1) + length xs ≡ at + length (x ∷ xs) = omega arith in
    walk_skips xs ys (at + 1) last ∙ ap (λ (n : ℕ). walk 0 n last ys) e

-- ---- what stands behind a number

abbrev pub done : {A : Type 0} → A → Result A LogRule
done x = Ok x

abbrev pub broke : {A : Type 0} → LogRule → Result A LogRule
broke r = Err r

done_is : {A : Type 0} (x y : A) → done x ≡ done y → x ≡ y
done_is x y e = cc

some_is : {A : Type 0} (x y : A) → ◌≡◌ {A = Option A} (Some x) (Some y) → x ≡ y
some_is x y e = cc

pub guard_ok : {A : Type 0} (b : Bool) (r : LogRule) (x : Result A LogRule) (y : A) → cond b (broke r) x ≡ done y
    → (b ≡ false) × (x ≡ done y)
guard_ok true r x y e = absurd cc
guard_ok false r x y e = (refl, e)

pub passed_ok : {A : Type 0} (b : Bool) (r : LogRule) (x : Result A LogRule) (y : A) → cond b x (broke r) ≡ done y
    → (b ≡ true) × (x ≡ done y)
passed_ok true r x y e = (refl, e)
passed_ok false r x y e = absurd cc

whole_ok : (mode : Mode) (o : Option Effect) (read : Mode × Effect) → whole mode o ≡ done read
    → (effect : Effect) × (o ≡ Some effect) × (mode ≡ read.0) × (effect ≡ read.1)
whole_ok mode None read e = absurd cc
whole_ok mode (Some effect) read e =
    let same = done_is (mode, effect) read e in
    (effect, refl, ap (λ (p : Mode × Effect). p.0) same, ap (λ (p : Mode × Effect). p.1) same)

pub byte_is : (byte : ℕ) (mode : Mode) → byte_mode byte ≡ Some mode → byte ≡ mode_byte mode
byte_is byte mode e = by (eqb byte 0) (eqb byte 1) refl refl e where
  by : (zero one : Bool) → eqb byte 0 ≡ zero → eqb byte 1 ≡ one
      → cond zero (Some Full) (cond one (Some NoRw) None) ≡ Some mode → byte ≡ mode_byte mode
  by true one is other e = eqb-true byte 0 is ∙ ap mode_byte (some_is Full mode e)
  by false true other is e = eqb-true byte 1 is ∙ ap mode_byte (some_is NoRw mode e)
  by false false other more e = absurd cc

-- the record of which these bytes are what stands behind its number
pub record IsContent (number : ℕ) (second : Bool) (bytes : List ℕ) (read : Mode × Effect) : Type 0 where
  pub one : LogRecord
  pub word : length_word one ≡ cond second (2 ^ 31 + length bytes) (length bytes)
  pub content_is : bytes ≡ content one
  pub stored : IsStoredEffect number (effect_of one)
  pub mode_is : mode_of one ≡ read.0
  pub effect_is : effect_of one ≡ read.1

with_mode : (number byte : ℕ) (bytes : List ℕ) (read : Mode × Effect) → IsBytes bytes → (o : Option Mode) → byte_mode byte ≡ o
    → whole_parts number (option_map (λ mode. (mode, bytes)) o) ≡ done read → IsContent number true (byte ∷ bytes) read
with_mode number byte bytes read fits None is e = absurd cc
with_mode number byte bytes read fits (Some mode) is e =
    let w = whole_ok mode (whole_effect number bytes) read e in
    let effect = whole_is number bytes w.0 fits w.1 in
    record {
      one = Format2 mode w.0;
      word = omega (arith, ap length effect.spelled);
      content_is = ap₂ (λ (n : ℕ) (l : List ℕ). n ∷ l) (byte_is byte mode is) effect.spelled;
      stored = effect.stored;
      mode_is = w.2;
      effect_is = w.3;
    }

content_of : (number : ℕ) (second : Bool) (bytes : List ℕ) (read : Mode × Effect) → IsBytes bytes
    → whole_parts number (parts_of second bytes) ≡ done read → IsContent number second bytes read
content_of number false bytes read fits e =
    let w = whole_ok Full (whole_effect number bytes) read e in
    let effect = whole_is number bytes w.0 fits w.1 in
    record {
      one = Format1 w.0;
      word = sym (ap length effect.spelled);
      content_is = effect.spelled;
      stored = effect.stored;
      mode_is = w.2;
      effect_is = w.3;
    }
content_of number true [] read fits e = absurd cc
content_of number true (byte ∷ bytes) read fits e =
    with_mode number byte bytes read (λ i. fits (suc i)) (byte_mode byte) refl e

-- ---- a record that was read

-- a length word is a length, with the bit of the format
word_split : (word : ℕ) → word < 2 ^ 32 → word ≡ cond (leb (2 ^ 31) word) (2 ^ 31 + word % 2 ^ 31) (word % 2 ^ 31)
word_split word below = by (leb (2 ^ 31) word) refl where
  by : (second : Bool) → leb (2 ^ 31) word ≡ second → word ≡ cond second (2 ^ 31 + word % 2 ^ 31) (word % 2 ^ 31)
  by true is = omega (arith, below, leb-true _ _ is)
  by false is = omega (arith, below, leb-false _ _ is)

pub record IsRecord (last : Option ℕ) (bytes : List ℕ) (read : Mode × Effect) : Type 0 where
  pub one : LogRecord
  pub mode_is : mode_of one ≡ read.0
  pub effect_is : effect_of one ≡ read.1
  pub parts : bytes ≡ spelled one ++ behind bytes
  pub next : IsNext last one
  pub long : 12 + length_in bytes ≡ length (spelled one)

pub number_here : (bytes : List ℕ) → 12 ≤ length bytes → number_at w32 bytes ≡ Ok (word_in bytes, drop 4 bytes)
number_here bytes long = rw (le-ltb (length bytes) 4 (omega (arith, long))) refl

pub number_next : (bytes : List ℕ) → 12 ≤ length bytes → number_at w64 (drop 4 bytes) ≡ Ok (number_in bytes, drop 8 (drop 4 bytes))
number_next bytes long = rw (le-ltb (length (drop 4 bytes)) 8 (omega (arith, long, length-drop 4 bytes))) refl

-- the parts of a record, in front of other bytes
pub grouped_record : (one : LogRecord) (rest : List ℕ) → spelled one ++ rest
    ≡ four_bytes (length_word one) ++ (eight_bytes (effect_of one).number ++ (content one ++ rest))
grouped_record one rest =
    append_assoc (four_bytes (length_word one)) (eight_bytes (effect_of one).number ++ content one) rest
    ∙ ap (λ (l : List ℕ). four_bytes (length_word one) ++ l) (append_assoc (eight_bytes (effect_of one).number) (content one) rest)

pub record_long : (one : LogRecord) → length (spelled one) ≡ 12 + length (content one)
record_long one =
    let all = length-append (four_bytes (length_word one)) (eight_bytes (effect_of one).number ++ content one) in
    let tail = length-append (eight_bytes (effect_of one).number) (content one) in
    omega (arith, four_long (length_word one), eight_long (effect_of one).number, all, tail)

pub record_is : (last : Option ℕ) (bytes : List ℕ) (read : Mode × Effect) → IsBytes bytes
    → record_at last bytes ≡ Ok read → IsRecord last bytes read
unfolding record_at
record_is last bytes read fits e =
    let size = length_in bytes in
    let number = number_in bytes in
    let a = guard_ok (ltb (length bytes) 12) rule.Length _ read e in
    let b = guard_ok (ltb (length (drop 12 bytes)) size) rule.Length _ read a.1 in
    let f = passed_ok (follows last number) rule.Number _ read b.1 in
    let twelve : 12 ≤ length bytes = ltb-false _ _ a.0 in
    let enough : size ≤ length (drop 12 bytes) = ltb-false _ _ b.0 in
    let inside : 12 + size ≤ length bytes = omega (arith, enough, twelve, length-drop 12 bytes) in
    let four = four_reads.takes bytes (word_in bytes) (drop 4 bytes) fits (number_here bytes twelve) in
    let eight = eight_reads.takes (drop 4 bytes) number (drop 8 (drop 4 bytes)) four.0.rest_fits (number_next bytes twelve) in
    let at_twelve : drop 8 (drop 4 bytes) ≡ drop 12 bytes = drop-drop 8 4 bytes in
    let body = drop 12 bytes in
    let body_fits : IsBytes body = subst IsBytes at_twelve eight.0.rest_fits in
    let slice = take size body in
    let slice_fits : IsBytes slice = bytes_take size body body_fits in
    let is = content_of number (is_format_2 bytes) slice read slice_fits f.1 in
    let slice_long : length slice ≡ size = omega (arith, length-take size body, length-drop 12 bytes, inside) in
    let long : size ≡ length (content is.one) = sym slice_long ∙ ap length is.content_is in
    let word : word_in bytes ≡ length_word is.one =
    word_split (word_in bytes) four.1
    ∙ ap (λ (n : ℕ). cond (is_format_2 bytes) (2 ^ 31 + n) n) (sym slice_long) ∙ sym is.word in
    let tail : body ≡ content is.one ++ behind bytes =
    sym (take-append-drop size body) ∙ ap (λ (x : List ℕ). x ++ behind bytes) is.content_is in
    let same : (effect_of is.one).number ≡ number = is.stored.number_is in
    let middle : drop 4 bytes ≡ eight_bytes (effect_of is.one).number ++ (content is.one ++ behind bytes) =
    eight.0.parts ∙ ap₂ (λ (n : ℕ) (l : List ℕ). eight_bytes n ++ l) (sym same) (at_twelve ∙ tail) in
    let front : bytes ≡ four_bytes (length_word is.one) ++ (eight_bytes (effect_of is.one).number ++ (content is.one ++ behind bytes)) =
    four.0.parts ∙ ap₂ (λ (n : ℕ) (l : List ℕ). four_bytes n ++ l) word middle in
    record {
      one = is.one;
      mode_is = is.mode_is;
      effect_is = is.effect_is;
      parts = front ∙ sym (grouped_record is.one (behind bytes));
      next = record {
        stored = subst (λ (n : ℕ). IsStoredEffect n (effect_of is.one)) (sym same) is.stored;
        short = omega (arith, long);
        number = subst (λ (n : ℕ). IsTrue (follows last n)) (sym same) f.0;
      };
      long = omega (arith, long, record_long is.one);
    }

-- ---- lists of records, one behind the other

unfoldable pub with_front : List Logged → Result (List Logged) Fault → Result (List Logged) Fault
with_front logged (Ok more) = Ok (logged ++ more)
with_front logged (Err fault) = Err fault

pub front_more : (logged : List Logged) (one : Logged) (more : Result (List Logged) Fault)
    → with_front logged (before one more) ≡ with_front (logged ++ one ∷ []) more
unfolding with_front
front_more logged one (Ok more) = ap (λ (l : List Logged). Ok l) (sym (append_assoc logged (one ∷ []) more))
front_more logged one (Err fault) = refl

pub front_nil : (more : Result (List Logged) Fault) → with_front [] more ≡ more
unfolding with_front
front_nil (Ok more) = refl
front_nil (Err fault) = refl

pub chain_joined : (xs ys : List LogRecord) → chain (xs ++ ys) ≡ chain xs ++ chain ys
chain_joined [] ys = refl
chain_joined (x ∷ xs) ys = ap (λ (l : List ℕ). 1 ∷ l)
    (ap (λ (l : List ℕ). spelled x ++ l) (chain_joined xs ys)
    ∙ sym (append_assoc (spelled x) (chain xs) (chain ys)))

pub chain_more : (records : List LogRecord) (one : LogRecord) → chain (records ++ one ∷ []) ≡ chain records ++ (1 ∷ spelled one)
chain_more records one = chain_joined records (one ∷ [])
    ∙ ap (λ (l : List ℕ). chain records ++ (1 ∷ l)) (append-nil (spelled one))

pub logged_joined : (at : ℕ) (xs ys : List LogRecord)
    → logged_from at (xs ++ ys) ≡ logged_from at xs ++ logged_from (at + length (chain xs)) ys
logged_joined at [] ys =
    let e : at ≡ at + 0 = omega arith in
    ap (λ (n : ℕ). logged_from n ys) e
logged_joined at (x ∷ xs) ys =
    let next = at + (1 + length (spelled x)) in
    let e : next + length (chain xs) ≡ at + length (chain (x ∷ xs)) = omega (arith, length-append (spelled x) (chain xs)) in
    ap (λ (l : List Logged). logged_as at (mode_of x) (effect_of x) ∷ l)
    (logged_joined next xs ys ∙ ap (λ (n : ℕ). logged_from next xs ++ logged_from n ys) e)

pub logged_first : (xs ys : List LogRecord)
    → logged_from 0 (xs ++ ys) ≡ logged_from 0 xs ++ logged_from (length (chain xs)) ys
logged_first xs ys =
    let e : 0 + length (chain xs) ≡ length (chain xs) = omega arith in
    logged_joined 0 xs ys ∙ ap (λ (n : ℕ). logged_from 0 xs ++ logged_from n ys) e

pub records_joined : (last : Option ℕ) (at : ℕ) (xs ys : List LogRecord) → AreRecords last xs
    → AreRecords (last_number last (logged_from at xs)) ys → AreRecords last (xs ++ ys)
records_joined last at [] ys are more = more
records_joined last at (x ∷ xs) ys are more =
    (are.0, records_joined (Some (effect_of x).number) (at + (1 + length (spelled x))) xs ys are.1 more)

pub last_more : (last : Option ℕ) (logged : List Logged) (one : Logged)
    → last_number last (logged ++ one ∷ []) ≡ Some one.effect.number
last_more last [] one = refl
last_more last (first ∷ logged) one = last_more (Some first.effect.number) logged one
