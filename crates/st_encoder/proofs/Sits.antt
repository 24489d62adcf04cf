-- Parts of code that sit between two heights, with the blocks that they push.
use Rattle.std.proofs.Common.{◌≡◌, refl, ap, subst, ℕ, suc, ◌+◌, ◌≤◌, Bool, List, [], ◌∷◌, ◌++◌, length, length-append, slice_get, Some, arith}
use Rattle.st_code.specs.Held.{Held}
use Rattle.st_tree.specs.Trees.{Closure}
use Rattle.tree_meaning.specs.Place.{Place}
use Rattle.st_compiler.specs.Instruction.{Instruction, Pop, PushBlock, Jump, TakeUnit, Leave, LoopStep, JumpBack, PushNil}
use Rattle.st_compiler.specs.Code.{Piece, Gen, only, seq, prefixed, in_scope_code, jump_unless, choice, while_code, count_code}
use Rattle.st_compiler.specs.TreeCode.{pushed}
use Rattle.st_compiler.proofs.Steps.{HasAt, first_has, then_has}
use Rattle.st_encoder.proofs.Marks.{sizes, mark, start_mark, Does, Lies, then_lies, one_lies, choice_lies, while_lies, count_lies, scope_lies, Whole}
use Rattle.st_encoder.proofs.Pushes.{pushes, pushes_by, piece_pushes, within, pushes_append, piece_append, within_sum, unless_pushes}

module _ (table : List Piece) where
  -- A block that is pushed: its code goes from its start to a return, and pushes later blocks alone.
  pub record Stands (number : ℕ) (piece : Piece) : Type 0 where
    pub whole : Whole table piece.code (start_mark piece)
    pub later : (block : ℕ) → block ≤ number → pushes block piece.code ≡ 0

  abbrev pub AllStand : (number : ℕ) → List Piece → Type 0
  AllStand number [] = Unit {0}
  AllStand number (piece ∷ rest) = Stands number piece × AllStand (suc number) rest

  all_append : (number : ℕ) (xs ys : List Piece) → AllStand number xs → AllStand (number + length xs) ys
      → AllStand number (xs ++ ys)
  all_append number [] ys first second =
      let same : number + 0 ≡ number = omega arith in subst (λ (n : ℕ). AllStand n ys) same second
  all_append number (x ∷ xs) ys first second =
      let same : number + suc (length xs) ≡ suc number + length xs = omega arith in
      (first.0, all_append (suc number) xs ys first.1 (subst (λ (n : ℕ). AllStand n ys) same second))

  -- Wherever the part stands, it goes from this to that; so do its blocks; and each of these is
  -- pushed once.
  pub record Sits (part : Gen) (before after : Held) : Type 0 where
    pub lies : (number : ℕ) → HasAt table number (part number).pieces → Lies table (part number).code before after
    pub stand : (number : ℕ) → HasAt table number (part number).pieces → AllStand number (part number).pieces
    pub once : (number block : ℕ) → pushes block (part number).code + piece_pushes block (part number).pieces
        ≡ within number (length (part number).pieces) block

  pub only_sits : (code : List Instruction) (before after : Held) → Lies table code before after
      → ((block : ℕ) → pushes block code ≡ 0) → Sits (only code) before after
  only_sits code before after lies none = record {
    lies = λ number has. lies;
    stand = λ number has. tt;
    once = λ number block. omega (arith, none block);
  }

  pub one_sits : (one : Instruction) (before after : Held)
      → ((all : List Held) (number : ℕ) → slice_get all (suc number) ≡ Some after → Does table all number one before)
      → ((block : ℕ) → pushes_by block one ≡ 0) → Sits (only (one ∷ [])) before after
  one_sits one before after does none =
      only_sits (one ∷ []) before after (one_lies table one before after does)
      (λ block. omega (arith, none block))

  two_once : (number block : ℕ) (first second : List Piece) (one two : ℕ)
      → one + piece_pushes block first ≡ within number (length first) block
      → two + piece_pushes block second ≡ within (number + length first) (length second) block
      → one + two + piece_pushes block (first ++ second) ≡ within number (length (first ++ second)) block
  two_once number block first second one two is also =
      let count : within number (length (first ++ second)) block ≡ within number (length first + length second) block =
      ap (λ (n : ℕ). within number n block) (length-append first second) in
      omega (arith, is, also, count, within_sum number (length first) (length second) block, piece_append block first second)

  both_stand : (number : ℕ) (first second : List Piece) → (HasAt table number first → AllStand number first)
      → (HasAt table (number + length first) second → AllStand (number + length first) second)
      → HasAt table number (first ++ second) → AllStand number (first ++ second)
  both_stand number first second one two has =
      all_append number first second (one (first_has table number first second has))
      (two (then_has table number first second has))

  pub seq_sits : (one two : Gen) (before middle after : Held) → Sits one before middle → Sits two middle after
      → Sits (seq one two) before after
  seq_sits one two before middle after first second = record {
    lies = λ number has.
        let part = one number in
        let next = number + length part.pieces in
        then_lies table part.code (two next).code before middle after
        (first.lies number (first_has table number part.pieces (two next).pieces has))
        (second.lies next (then_has table number part.pieces (two next).pieces has));
    stand = λ number has.
        let next = number + length (one number).pieces in
        both_stand number (one number).pieces (two next).pieces (first.stand number) (second.stand next) has;
    once = λ number block.
        let part = one number in
        let next = number + length part.pieces in
        omega (
          arith,
          pushes_append block part.code (two next).code,
          two_once number block part.pieces (two next).pieces (pushes block part.code) (pushes block (two next).code)
              (first.once number block) (second.once next block),
        );
  }

  pub prefixed_sits : (code : List Instruction) (part : Gen) (before middle after : Held)
      → Lies table code before middle → ((block : ℕ) → pushes block code ≡ 0) → Sits part middle after
      → Sits (prefixed code part) before after
  prefixed_sits code part before middle after lies none sits = record {
    lies = λ number has. then_lies table code (part number).code before middle after lies (sits.lies number has);
    stand = λ number has. sits.stand number has;
    once = λ number block.
        omega (arith, pushes_append block code (part number).code, none block, sits.once number block);
  }

  pub choice_sits : (when : Bool) (one two : Gen) (under : ℕ) (scopes : List ℕ) (around : ℕ) (after : Held)
      → Sits one (mark under scopes around) after → Sits two (mark under scopes around) after
      → Sits (choice when one two) (mark (suc under) scopes around) after
  choice_sits when one two under scopes around after first second = record {
    lies = λ number has.
        let part = one number in
        let next = number + length part.pieces in
        choice_lies table when part.code (two next).code under scopes around after
        (first.lies number (first_has table number part.pieces (two next).pieces has))
        (second.lies next (then_has table number part.pieces (two next).pieces has));
    stand = λ number has.
        let next = number + length (one number).pieces in
        both_stand number (one number).pieces (two next).pieces (first.stand number) (second.stand next) has;
    once = λ number block.
        let part = one number in
        let next = number + length part.pieces in
        omega (
          arith,
          pushes_append block part.code (Jump (length (two next).code) ∷ (two next).code),
          unless_pushes block when (suc (length part.code)),
          two_once number block part.pieces (two next).pieces (pushes block part.code) (pushes block (two next).code)
              (first.once number block) (second.once next block),
        );
  }

  pub while_sits : (when : Bool) (one two : Gen) (under : ℕ) (scopes : List ℕ) (around : ℕ)
      → Sits one (mark under scopes around) (mark (suc under) scopes around)
      → Sits two (mark under scopes around) (mark (suc under) scopes around)
      → Sits (while_code when one two) (mark under scopes around) (mark (suc under) scopes around)
  while_sits when one two under scopes around first second = record {
    lies = λ number has.
        let part = one number in
        let next = number + length part.pieces in
        while_lies table when part.code (two next).code under scopes around
        (first.lies number (first_has table number part.pieces (two next).pieces has))
        (second.lies next (then_has table number part.pieces (two next).pieces has));
    stand = λ number has.
        let next = number + length (one number).pieces in
        both_stand number (one number).pieces (two next).pieces (first.stand number) (second.stand next) has;
    once = λ number block.
        let part = one number in
        let next = number + length part.pieces in
        let tail = Pop ∷ JumpBack (length part.code + length (two next).code + 3) ∷ PushNil ∷ [] in
        let turn = jump_unless when (length (two next).code + 3) ∷ TakeUnit ∷ ((two next).code ++ tail) in
        omega (
          arith,
          pushes_append block part.code turn,
          pushes_append block (two next).code tail,
          unless_pushes block when (length (two next).code + 3),
          two_once number block part.pieces (two next).pieces (pushes block part.code) (pushes block (two next).code)
              (first.once number block) (second.once next block),
        );
  }

  pub count_sits : (body : Gen) (under : ℕ) (scopes : List ℕ) (around : ℕ)
      → Sits body (mark (suc (suc (suc under))) scopes around) (mark (suc (suc (suc under))) scopes around)
      → Sits (count_code body) (mark (suc (suc under)) scopes around) (mark under scopes around)
  count_sits body under scopes around sits = record {
    lies = λ number has. count_lies table (body number).code under scopes around (sits.lies number has);
    stand = λ number has. sits.stand number has;
    once = λ number block.
        omega (
          arith,
          pushes_append block (body number).code (Pop ∷ LoopStep (length (body number).code + 3) ∷ []),
          sits.once number block,
        );
  }

  pub scope_sits : (count : ℕ) (body : Gen) (height later : ℕ) (scopes : List ℕ) (around : ℕ)
      → around ≤ length scopes
      → Sits body (mark height (suc count ∷ scopes) around) (mark later (suc count ∷ scopes) around)
      → Sits (in_scope_code (suc count) body) (mark height scopes around) (mark later scopes around)
  scope_sits count body height later scopes around outer sits = record {
    lies = λ number has.
        scope_lies table (suc count) (body number).code height later scopes around outer (sits.lies number has);
    stand = λ number has. sits.stand number has;
    once = λ number block. omega (arith, pushes_append block (body number).code (Leave ∷ []), sits.once number block);
  }

  -- a block that is pushed
  pub pushed_sits : (tree : Closure) (place : Place) (own : Gen) (height around : ℕ)
      → ((number : ℕ) → HasAt table (suc number) (own (suc number)).pieces
      → Stands number (record { tree = tree; place = place; code = (own (suc number)).code }))
      → ((number : ℕ) → HasAt table number (own number).pieces → AllStand number (own number).pieces)
      → ((number block : ℕ) → pushes block (own number).code + piece_pushes block (own number).pieces
      ≡ within number (length (own number).pieces) block)
      → Sits (λ number. pushed number tree place (own (suc number))) (mark height (sizes place.names) around)
      (mark (suc height) (sizes place.names) around)
  pushed_sits tree place own height around stands stand once = record {
    lies = λ number has.
        one_lies table (PushBlock number) (mark height (sizes place.names) around)
        (mark (suc height) (sizes place.names) around)
        (λ all at next. (record { tree = tree; place = place; code = (own (suc number)).code }, has.0, refl, next));
    stand = λ number has. (stands number has.1, stand (suc number) has.1);
    once = λ number block. omega (arith, once (suc number) block);
  }
