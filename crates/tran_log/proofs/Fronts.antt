-- A record of a log by a piece of the log that begins with its gate.
use Rattle.std.proofs.Common.{◌≡◌, ℕ, ◌+◌, ◌-◌, ◌%◌, ◌^◌, ◌<◌, ◌≤◌, min, Bool, true, false, cond, eqb, ltb, leb, IsTrue, List, [], ◌∷◌, ◌++◌, length, take, drop, Option, Some, None, Result, Ok, Err, refl, sym, ap, ap₂, subst, ◌∙◌, append_assoc, inl, inr, arith}
use Rattle.std.specs.Int.{w32, w64, from_le_bytes}
use Rattle.std.proofs.lemmas.Bool.{cases_lt, le-ltb, lt-ltb, eqb-true}
use Rattle.std.proofs.lemmas.Bool.Decides.{nat_tests}
use Rattle.std.proofs.lemmas.List.{take-take, drop-take, drop-drop, drop_at, take-append-drop, length-append, length-take, length-drop}
use Rattle.gem_record.specs.declared.mode.Mode.{Mode}
use Rattle.gem_record.specs.declared.effect.Effect.{Effect}
use Rattle.tran_log.specs.declared.fault.LogRule.{LogRule}
use Rattle.tran_log.specs.declared.fault.LogRule.TheVariants as rule
use Rattle.tran_log.specs.declared.fault.LogFault.{LogFault}
use Rattle.tran_log.specs.declared.fault.LogFault.TheVariants.{NotLog, Disk, NoMemory}
use Rattle.tran_log.specs.declared.read.Next.{Next}
use Rattle.body_codec.proofs.Takes.{IsBytes}
use Rattle.tran_log.specs.Log.{spelled, follows, logged_as, word_in, number_in, is_format_2, length_in, behind, parts_of, whole_parts, record_at}
use Rattle.tran_log.specs.Reads.{NextFails, bytes_due, IsFront, IsPiece, IsClosedAt, IsOpenAt, IsNextAt, IsBrokenAt, BreaksAt}
use Rattle.tran_log.proofs.Walks.{record_is}

-- ---- lists

pub take_joined : (n m : ℕ) (l : List ℕ) → take n l ++ take m (drop n l) ≡ take (n + m) l
take_joined n m l =
    ap (λ (x : List ℕ). x ++ take m (drop n l)) (sym (take-take n (n + m) l (omega arith)))
    ∙ ap (λ (x : List ℕ). take n (take (n + m) l) ++ x) (sym (drop-take n m l))
    ∙ take-append-drop n (take (n + m) l)

drop_front : (n m : ℕ) (l : List ℕ) → n ≤ m → drop n (take m l) ≡ take (m - n) (drop n l)
drop_front n m l less =
    let e : m ≡ n + (m - n) = omega (arith, less) in
    ap (λ (k : ℕ). drop n (take k l)) e ∙ drop-take n (m - n) l

-- what a piece begins with is what the whole begins with
starts : (x : ℕ) (xs l : List ℕ) → x ∷ xs ≡ take (length (x ∷ xs)) l
    → (rest : List ℕ) × (l ≡ x ∷ rest) × (xs ≡ take (length xs) rest)
starts x xs [] e = absurd cc
starts x xs (y ∷ l) e = (l, ap (λ (n : ℕ). n ∷ l) (sym (heads x y xs (take (length xs) l) e)), tails x y xs (take (length xs) l) e) where
  heads : (a b : ℕ) (one other : List ℕ) → a ∷ one ≡ b ∷ other → a ≡ b
  heads a b one other same = cc

  tails : (a b : ℕ) (one other : List ℕ) → a ∷ one ≡ b ∷ other → one ≡ other
  tails a b one other same = cc

behind_gate : (gate : ℕ) (rest : List ℕ) (at k : ℕ) (file : List ℕ) → drop at file ≡ gate ∷ rest
    → drop (at + (1 + k)) file ≡ drop k rest
behind_gate gate rest at k file is =
    let e : drop (1 + k) (drop at file) ≡ drop (at + (1 + k)) file = drop-drop (1 + k) at file in
    let two : drop k (drop 1 (drop at file)) ≡ drop (1 + k) (drop at file) = drop-drop k 1 (drop at file) in
    sym e ∙ sym two ∙ ap (λ (l : List ℕ). drop k (drop 1 l)) is

-- ---- a record, by the bytes that belong to it

abbrev judged : Option ℕ → Bool → Bool → ℕ → Bool → List ℕ → Result (Mode × Effect) LogRule
judged last short cut number of_format_2 content =
    cond short (Err rule.Length) (cond cut (Err rule.Length)
    (cond (follows last number) (whole_parts number (parts_of of_format_2 content)) (Err rule.Number)))

same_test : (a b c : ℕ) → (a < c → b < c) → (b < c → a < c) → ltb a c ≡ ltb b c
same_test a b c to back = elim (cases_lt a c) [
  | inl less ↦ lt-ltb a c less ∙ sym (lt-ltb b c (to less))
  | inr most ↦ le-ltb a c most ∙ sym (le-ltb b c (other most))
] where
  other : c ≤ a → c ≤ b
  other most = elim (cases_lt b c) [
    | inl less ↦ absurd (omega (arith, most, back less))
    | inr more ↦ more
  ]

module _ (m : ℕ) (rest : List ℕ) (enough : 12 ≤ m) where
  abbrev piece : List ℕ
  piece = take m rest

  word_same : word_in piece ≡ word_in rest
  word_same = ap (from_le_bytes w32) (take-take 4 m rest (omega (arith, enough)))

  pub length_same : length_in piece ≡ length_in rest
  length_same = ap (λ (n : ℕ). n % 2 ^ 31) word_same

  number_same : number_in piece ≡ number_in rest
  number_same = ap (from_le_bytes w64)
      (ap (take 8) (drop_front 4 m rest (omega (arith, enough)))
      ∙ take-take 8 (m - 4) (drop 4 rest) (omega (arith, enough)))

  module _ (last : Option ℕ) (long : 12 + length_in rest ≤ m) where
    -- a record goes by the bytes that belong to it
    pub record_taken : record_at last piece ≡ record_at last rest
    unfolding record_at
    record_taken =
        let taken = length-take m rest in
        let short : ltb (length piece) 12 ≡ ltb (length rest) 12 =
        same_test (length piece) (length rest) 12 (λ less. omega (arith, less, taken, enough)) (λ less. omega (arith, less, taken, enough)) in
        let body : drop 12 piece ≡ take (m - 12) (drop 12 rest) = drop_front 12 m rest enough in
        let cut_by : ltb (length (drop 12 piece)) (length_in rest) ≡ ltb (length (drop 12 rest)) (length_in rest) =
        same_test (length (drop 12 piece)) (length (drop 12 rest)) (length_in rest)
        (λ less. omega (arith, less, taken, long, length-drop 12 piece, length-drop 12 rest))
        (λ less. omega (arith, less, taken, long, length-drop 12 piece, length-drop 12 rest)) in
        let cut : ltb (length (drop 12 piece)) (length_in piece) ≡ ltb (length (drop 12 rest)) (length_in rest) =
        ap (ltb (length (drop 12 piece))) length_same ∙ cut_by in
        let content : take (length_in piece) (drop 12 piece) ≡ take (length_in rest) (drop 12 rest) =
        ap (λ (n : ℕ). take n (drop 12 piece)) length_same ∙ ap (take (length_in rest)) body
        ∙ take-take (length_in rest) (m - 12) (drop 12 rest) (omega (arith, long)) in
        ap (λ (b : Bool). judged last b (ltb (length (drop 12 piece)) (length_in piece)) (number_in piece) (is_format_2 piece)
        (take (length_in piece) (drop 12 piece))) short
        ∙ ap (λ (b : Bool). judged last (ltb (length rest) 12) b (number_in piece) (is_format_2 piece)
        (take (length_in piece) (drop 12 piece))) cut
        ∙ ap (λ (n : ℕ). judged last (ltb (length rest) 12) (ltb (length (drop 12 rest)) (length_in rest)) n (is_format_2 piece)
        (take (length_in piece) (drop 12 piece))) number_same
        ∙ ap (λ (n : ℕ). judged last (ltb (length rest) 12) (ltb (length (drop 12 rest)) (length_in rest)) (number_in rest)
        (leb (2 ^ 31) n) (take (length_in piece) (drop 12 piece))) word_same
        ∙ ap (judged last (ltb (length rest) 12) (ltb (length (drop 12 rest)) (length_in rest)) (number_in rest) (is_format_2 rest)) content

-- a record that isn't whole
record_short : (last : Option ℕ) (rest : List ℕ) → length rest < 12 → record_at last rest ≡ Err rule.Length
unfolding record_at
record_short last rest short = rw (lt-ltb (length rest) 12 short) refl

record_cut : (last : Option ℕ) (rest : List ℕ) → 12 ≤ length rest → length rest < 12 + length_in rest
    → record_at last rest ≡ Err rule.Length
unfolding record_at
record_cut last rest long cut =
    rw (le-ltb (length rest) 12 long, lt-ltb (length (drop 12 rest)) (length_in rest) (omega (arith, cut, long, length-drop 12 rest))) refl

-- ---- what stands at a gate, by a piece

-- the gate is open, and so many bytes are due
record IsDue (piece : List ℕ) (due : ℕ) : Type 0 where
  pub bytes : List ℕ
  pub piece_is : piece ≡ 1 ∷ bytes
  pub due_is : due ≡ cond (ltb (length bytes) 12) 13 (13 + length_in bytes)

some_due : (x y : ℕ) → ◌≡◌ {A = Option ℕ} (Some x) (Some y) → x ≡ y
some_due x y e = cc

is_due : (piece : List ℕ) (due : ℕ) → bytes_due piece ≡ Some due → IsDue piece due
is_due [] due e = absurd cc
is_due (gate ∷ bytes) due e = by (eqb gate 1) refl e where
  count : ℕ
  count = cond (ltb (length bytes) 12) 13 (13 + length_in bytes)

  by : (b : Bool) → eqb gate 1 ≡ b → cond b (Some count) None ≡ Some due → IsDue (gate ∷ bytes) due
  by true is some = record {
    bytes = bytes;
    piece_is = ap (λ (n : ℕ). n ∷ bytes) (eqb-true gate 1 is);
    due_is = sym (some_due count due some);
  }
  by false is some = absurd cc

pub due_long : (piece : List ℕ) (due : ℕ) → bytes_due piece ≡ Some due → 13 ≤ due
due_long piece due some = by (is_due piece due some) where
  by : IsDue piece due → 13 ≤ due
  by is = elim (cases_lt (length is.bytes) 12) [
    | inl less ↦ omega (arith, is.due_is ∙ ap (λ (b : Bool). cond b 13 (13 + length_in is.bytes)) (lt-ltb _ _ less))
    | inr most ↦ omega (arith, is.due_is ∙ ap (λ (b : Bool). cond b 13 (13 + length_in is.bytes)) (le-ltb _ _ most))
  ]

module _ (file : List ℕ) (at : ℕ) (piece : List ℕ) (is_front : piece ≡ take (length piece) (drop at file)) where
  pub closed_at : 0 < length piece → bytes_due piece ≡ None → IsClosedAt file at
  closed_at some none = by piece is_front some none where
    by : (bytes : List ℕ) → bytes ≡ take (length bytes) (drop at file) → 0 < length bytes → bytes_due bytes ≡ None
        → IsClosedAt file at
    by [] is some none = absurd (omega (arith, some))
    by (gate ∷ bytes) is some none = test (eqb gate 1) refl none where
      test : (b : Bool) → eqb gate 1 ≡ b
          → cond b (Some (cond (ltb (length bytes) 12) 13 (13 + length_in bytes))) None ≡ None → IsClosedAt file at
      test true is_one none_is = absurd cc
      test false is_one none_is =
          let s = starts gate bytes (drop at file) is in
          record { gate = gate; rest = s.0; file_is = s.1; closed = grind (arith, nat_tests, is_one) }

  module _ (size due : ℕ) (size_is : size ≡ length file) (inside : at < size) (filled : min (at + 13) size ≤ at + length piece)
      (some : bytes_due piece ≡ Some due) where
    is : IsDue piece due
    is = is_due piece due some

    opened : (rest : List ℕ) × (drop at file ≡ 1 ∷ rest) × (is.bytes ≡ take (length is.bytes) rest)
    opened = starts 1 is.bytes (drop at file)
        (sym is.piece_is ∙ is_front ∙ ap (λ (l : List ℕ). take (length l) (drop at file)) is.piece_is)

    left : 1 + length opened.0 ≡ size - at
    left = omega (arith, ap length opened.1, length-drop at file, size_is)

    here : length piece ≡ 1 + length is.bytes
    here = omega (arith, ap length is.piece_is)

    enough : 12 ≤ length is.bytes → due ≡ 13 + length_in opened.0
    enough most = is.due_is ∙ ap (λ (b : Bool). cond b 13 (13 + length_in is.bytes)) (le-ltb _ _ most)
        ∙ ap (λ (n : ℕ). 13 + n) (ap length_in opened.2 ∙ length_same (length is.bytes) opened.0 most)

    few : length is.bytes < 12 → due ≡ 13
    few less = is.due_is ∙ ap (λ (b : Bool). cond b 13 (13 + length_in is.bytes)) (lt-ltb _ _ less)

    pub broken_short : (last : Option ℕ) → size - at < due → IsBrokenAt file at last rule.Length
    broken_short last less = record { rest = opened.0; file_is = opened.1; breaks = breaks } where
      breaks : record_at last opened.0 ≡ Err rule.Length
      breaks = elim (cases_lt (length is.bytes) 12) [
        | inl small ↦ record_short last opened.0 (omega (arith, few small, less, left))
        | inr most ↦ record_cut last opened.0 (omega (arith, most, ap length opened.2, length-take (length is.bytes) opened.0))
            (omega (arith, enough most, less, left))
      ]

    pub open_at : due ≤ size - at → IsOpenAt file at due
    open_at most = record { rest = opened.0; file_is = opened.1; due_is = due_is } where
      due_is : due ≡ 13 + length_in opened.0
      due_is = elim (cases_lt (length is.bytes) 12) [
        | inl small ↦ absurd (omega (arith, few small, most, filled, here, small))
        | inr large ↦ enough large
      ]

-- ---- the record that begins a piece

module _ (tells : Bool) (file : List ℕ) (size at due : ℕ) (last : Option ℕ) (piece : List ℕ)
    (is : IsPiece tells file size at piece) (opens : IsTrue tells → IsOpenAt file at due)
    (long : 13 ≤ due) (inside : at + due ≤ size) (filled : min (at + due) size ≤ at + length piece) where
  pub whole : due ≤ length piece
  whole = omega (arith, inside, filled)

  module _ (tell : IsTrue tells) where
    open_here : IsOpenAt file at due
    open_here = opens tell

    bytes_is : drop 1 piece ≡ take (length piece - 1) open_here.rest
    bytes_is = ap (drop 1) (is.bytes_are tell) ∙ drop_front 1 (length piece) (drop at file) (omega (arith, whole, long))
        ∙ ap (λ (l : List ℕ). take (length piece - 1) (drop 1 l)) open_here.file_is

    same_record : record_at last (drop 1 piece) ≡ record_at last open_here.rest
    same_record = ap (record_at last) bytes_is
        ∙ record_taken (length piece - 1) open_here.rest (omega (arith, whole, long)) last (omega (arith, whole, open_here.due_is))

    pub breaks_here : (fault : LogFault) → NextFails at (record_at last (drop 1 piece)) fault → BreaksAt file at last fault
    breaks_here (NotLog place broken) fails = (
      fails.0,
      record { rest = open_here.rest; file_is = open_here.file_is; breaks = sym same_record ∙ fails.1 },
    )
    breaks_here Disk fails = absurd fails
    breaks_here NoMemory fails = tt

  module _ (next : Next) (front : IsFront at last (drop 1 piece) next) where
    pub next_inside : next.bytes ≤ length piece
    next_inside = omega (
      arith,
      whole,
      long,
      front.bytes_are,
      ap length front.parts,
      length-append (spelled front.written) front.rest,
      length-drop 1 piece,
    )

    behind_is : (tell : IsTrue tells) → drop (at + next.bytes) file ≡ drop (length (spelled front.written)) (open_here tell).rest
    behind_is tell = ap (λ (n : ℕ). drop (at + n) file) front.bytes_are
        ∙ behind_gate 1 (open_here tell).rest at (length (spelled front.written)) file (open_here tell).file_is

    -- all that stands behind the gate
    rest_is : (tell : IsTrue tells)
        → (open_here tell).rest ≡ spelled front.written ++ drop (length (spelled front.written)) (open_here tell).rest
    rest_is tell =
        let rest = (open_here tell).rest in
        let k = length piece - 1 in
        let parts : take k rest ≡ spelled front.written ++ front.rest = sym (bytes_is tell) ∙ front.parts in
        let all : rest ≡ (spelled front.written ++ front.rest) ++ drop k rest =
        sym (take-append-drop k rest) ∙ ap (λ (l : List ℕ). l ++ drop k rest) parts in
        let grouped : rest ≡ spelled front.written ++ (front.rest ++ drop k rest) =
        all ∙ append_assoc (spelled front.written) front.rest (drop k rest) in
        grouped ∙ ap (λ (l : List ℕ). spelled front.written ++ l)
        (sym (ap (drop (length (spelled front.written))) grouped ∙ drop_at (spelled front.written) (front.rest ++ drop k rest) _ refl))

    pub next_at : IsNextAt tells file at last next
    next_at = record {
      written = front.written;
      next_is = front.next_is;
      one_is = front.one_is;
      bytes_are = front.bytes_are;
      file_is = λ tell. (open_here tell).file_is
          ∙ ap (λ (l : List ℕ). 1 ∷ l) (rest_is tell ∙ ap (λ (l : List ℕ). spelled front.written ++ l) (sym (behind_is tell)));
    }

    pub piece_behind : IsPiece tells file size (at + next.bytes) (drop next.bytes piece)
    piece_behind = record {
      inside = omega (arith, is.inside, next_inside, length-drop next.bytes piece);
      bytes_are = λ tell.
          let count : length piece - next.bytes ≡ length (drop next.bytes piece) = omega (arith, length-drop next.bytes piece) in
          ap (drop next.bytes) (is.bytes_are tell) ∙ drop_front next.bytes (length piece) (drop at file) next_inside
          ∙ ap (λ (l : List ℕ). take (length piece - next.bytes) l) (drop-drop next.bytes at file)
          ∙ ap (λ (n : ℕ). take n (drop (at + next.bytes) file)) count;
    }

-- a record that was read of the bytes that begin with it
pub front_is : (at : ℕ) (last : Option ℕ) (bytes : List ℕ) (read : Mode × Effect) (size : ℕ) (next : Next) → IsBytes bytes
    → record_at last bytes ≡ Ok read → size ≡ length_in bytes → next.one ≡ logged_as at read.0 read.1 → next.bytes ≡ 13 + size
    → IsFront at last bytes next
front_is at last bytes read size next fits read_is size_is one_is bytes_are =
    let is = record_is last bytes read fits read_is in
    record {
      written = is.one;
      rest = behind bytes;
      parts = is.parts;
      next_is = is.next;
      one_is = one_is ∙ ap₂ (logged_as at) (sym is.mode_is) (sym is.effect_is);
      bytes_are = omega (arith, bytes_are, size_is, is.long);
    }

-- a piece with more behind it
pub piece_more : (tells : Bool) (file : List ℕ) (size at : ℕ) (piece more : List ℕ) → IsPiece tells file size at piece
    → at + length piece + length more ≤ size
    → (IsTrue tells → more ≡ take (length more) (drop (at + length piece) file))
    → IsPiece tells file size at (piece ++ more)
piece_more tells file size at piece more is inside more_is = record {
  inside = omega (arith, inside, length-append piece more);
  bytes_are = λ tell.
      ap (λ (l : List ℕ). l ++ more) (is.bytes_are tell)
      ∙ ap (λ (l : List ℕ). take (length piece) (drop at file) ++ l)
      (more_is tell ∙ ap (take (length more)) (sym (drop-drop (length piece) at file)))
      ∙ take_joined (length piece) (length more) (drop at file)
      ∙ ap (λ (n : ℕ). take n (drop at file)) (sym (length-append piece more));
}

pub piece_first : (tells : Bool) (file : List ℕ) (size : ℕ) → IsPiece tells file size 0 []
piece_first tells file size = record { inside = omega arith; bytes_are = λ tell. refl }

-- the same of a disk that reads as before
module _ (tells : Bool) (old new : List ℕ) (same : IsTrue tells → old ≡ new) (at : ℕ) where
  pub piece_along : (size : ℕ) (piece : List ℕ) → IsPiece tells old size at piece → IsPiece tells new size at piece
  piece_along size piece is = record {
    inside = is.inside;
    bytes_are = λ tell. is.bytes_are tell ∙ ap (λ (l : List ℕ). take (length piece) (drop at l)) (same tell);
  }

  pub next_along : (last : Option ℕ) (next : Next) → IsNextAt tells old at last next → IsNextAt tells new at last next
  next_along last next is = record {
    written = is.written;
    next_is = is.next_is;
    one_is = is.one_is;
    bytes_are = is.bytes_are;
    file_is = λ tell. subst (λ (l : List ℕ). drop at l ≡ 1 ∷ (spelled is.written ++ drop (at + next.bytes) l)) (same tell)
        (is.file_is tell);
  }
