-- Code with what every way brings to each of its instructions: put together of parts.
use Rattle.std.proofs.Common.{◌≡◌, refl, subst, ℕ, zero, suc, ◌+◌, ◌-◌, ◌<◌, ◌≤◌, Bool, true, false, List, [], ◌∷◌, ◌++◌, length, length-append, append_assoc, replicate, drop, slice_get, Some, arith}
use Rattle.gem_object.specs.texts.Bytes.{Bytes as Text}
use Rattle.tree_meaning.specs.Bodies.{params_count, temps_count}
use Rattle.st_code.specs.Held.{Held}
use Rattle.st_code.specs.Faults.{is_variable}
use Rattle.st_code.specs.Operands.{is_new}
use Rattle.st_encoder.specs.Bytes.{constant_literal, value_literal}
use Rattle.st_encoder.specs.Decoded.{value_in}
use Rattle.st_compiler.specs.Instruction.{Instruction, PushSelf, PushNil, PushTrue, PushFalse, PushLit, MakeLit, PushLocal, StoreLocal, PushName, StoreName, Pop, Dup, Send, SuperSend, PushBlock, ReturnMethod, ReturnHome, ReturnBlock, Jump, JumpBack, JumpTrue, JumpFalse, TakeUnit, Enter, Leave, LoopStart, LoopNext, LoopStep}
use Rattle.st_compiler.specs.Code.{Piece, jump_unless}
use Rattle.st_compiler.proofs.Steps.{HasAt, first_has, then_has}

-- the numbers of variables of these scopes
abbrev pub sizes : List (List Text) → List ℕ
sizes [] = []
sizes (names ∷ around) = length names ∷ sizes around

abbrev pub mark : (height : ℕ) → (scopes : List ℕ) → (around : ℕ) → Held
mark height scopes around = record { height = height; scopes = scopes; around = around }

-- what a block begins with
abbrev pub start_mark : Piece → Held
start_mark piece = mark 0 ((params_count piece.tree + temps_count piece.tree) ∷ sizes piece.place.names)
    (suc (length (sizes piece.place.names)))

-- the height above one value more
abbrev pub Above : (height : ℕ) → (under : ℕ) → Type 0
Above height under = height ≡ suc under

module _ (table : List Piece) where
  -- An instruction finds what it takes, and where it leads stands what it brings there.
  abbrev pub Does : List Held → (number : ℕ) → Instruction → Held → Type 0
  Does marks number PushSelf m = slice_get marks (suc number) ≡ Some (mark (suc m.height) m.scopes m.around)
  Does marks number PushNil m = slice_get marks (suc number) ≡ Some (mark (suc m.height) m.scopes m.around)
  Does marks number PushTrue m = slice_get marks (suc number) ≡ Some (mark (suc m.height) m.scopes m.around)
  Does marks number PushFalse m = slice_get marks (suc number) ≡ Some (mark (suc m.height) m.scopes m.around)
  Does marks number (PushLit answer) m =
      (value_in (value_literal answer) ≡ Some answer)
      × (slice_get marks (suc number) ≡ Some (mark (suc m.height) m.scopes m.around))
  Does marks number (MakeLit tree) m =
      (is_new (constant_literal tree) ≡ true)
      × (slice_get marks (suc number) ≡ Some (mark (suc m.height) m.scopes m.around))
  Does marks number (PushLocal depth index) m =
      (is_variable (slice_get m.scopes depth) index ≡ true)
      × (slice_get marks (suc number) ≡ Some (mark (suc m.height) m.scopes m.around))
  Does marks number (StoreLocal depth index) m =
      (is_variable (slice_get m.scopes depth) index ≡ true)
      × (under : ℕ) × (m.height ≡ suc under)
      × (slice_get marks (suc number) ≡ Some (mark (suc under) m.scopes m.around))
  Does marks number (PushName name) m = slice_get marks (suc number) ≡ Some (mark (suc m.height) m.scopes m.around)
  Does marks number (StoreName name) m =
      (under : ℕ) × (m.height ≡ suc under)
      × (slice_get marks (suc number) ≡ Some (mark (suc under) m.scopes m.around))
  Does marks number Pop m =
      (under : ℕ) × (m.height ≡ suc under)
      × (slice_get marks (suc number) ≡ Some (mark under m.scopes m.around))
  Does marks number Dup m =
      (under : ℕ) × (m.height ≡ suc under)
      × (slice_get marks (suc number) ≡ Some (mark (suc (suc under)) m.scopes m.around))
  Does marks number (Send selector count) m =
      (under : ℕ) × (m.height ≡ suc (under + count))
      × (slice_get marks (suc number) ≡ Some (mark (suc under) m.scopes m.around))
  Does marks number (SuperSend selector count) m =
      (under : ℕ) × (m.height ≡ suc (under + count))
      × (slice_get marks (suc number) ≡ Some (mark (suc under) m.scopes m.around))
  Does marks number (PushBlock block) m =
      (piece : Piece) × (slice_get table block ≡ Some piece) × (sizes piece.place.names ≡ m.scopes)
      × (slice_get marks (suc number) ≡ Some (mark (suc m.height) m.scopes m.around))
  Does marks number ReturnMethod m = m.height ≡ 1
  Does marks number ReturnHome m = m.height ≡ 1
  Does marks number ReturnBlock m = m.height ≡ 1
  Does marks number (Jump ahead) m = slice_get marks (suc number + ahead) ≡ Some (mark m.height m.scopes m.around)
  Does marks number (JumpBack behind) m =
      (behind ≤ number) × (slice_get marks (number - behind) ≡ Some (mark m.height m.scopes m.around))
  Does marks number (JumpTrue ahead) m =
      (under : ℕ) × (m.height ≡ suc under)
      × (slice_get marks (suc number) ≡ Some (mark under m.scopes m.around))
      × (slice_get marks (suc number + ahead) ≡ Some (mark under m.scopes m.around))
  Does marks number (JumpFalse ahead) m =
      (under : ℕ) × (m.height ≡ suc under)
      × (slice_get marks (suc number) ≡ Some (mark under m.scopes m.around))
      × (slice_get marks (suc number + ahead) ≡ Some (mark under m.scopes m.around))
  Does marks number TakeUnit m = slice_get marks (suc number) ≡ Some (mark m.height m.scopes m.around)
  Does marks number (Enter count) m =
      slice_get marks (suc number) ≡ Some (mark m.height (count ∷ m.scopes) m.around)
  Does marks number Leave m =
      (m.around < length m.scopes)
      × (slice_get marks (suc number) ≡ Some (mark m.height (drop 1 m.scopes) m.around))
  Does marks number LoopStart m =
      (under : ℕ) × (m.height ≡ suc (suc under))
      × (slice_get marks (suc number) ≡ Some (mark (suc (suc under)) m.scopes m.around))
  Does marks number (LoopNext ahead) m =
      (under : ℕ) × (m.height ≡ suc (suc under))
      × (slice_get marks (suc number) ≡ Some (mark (suc (suc (suc under))) m.scopes m.around))
      × (slice_get marks (suc number + ahead) ≡ Some (mark under m.scopes m.around))
  Does marks number (LoopStep behind) m =
      (behind ≤ number) × (under : ℕ) × (m.height ≡ suc (suc under))
      × (slice_get marks (suc number) ≡ Some (mark under m.scopes m.around))
      × (slice_get marks (number - behind) ≡ Some (mark (suc (suc under)) m.scopes m.around))

  pub record Fits (marks : List Held) (number : ℕ) (one : Instruction) : Type 0 where
    pub own : Held
    pub here : slice_get marks number ≡ Some own
    pub does : Does marks number one own

  -- these instructions, the first of which has this number
  abbrev pub Goes : List Held → (number : ℕ) → List Instruction → Type 0
  Goes marks number [] = Unit {0}
  Goes marks number (one ∷ rest) = Fits marks number one × Goes marks (suc number) rest

  goes_append : (marks : List Held) (number : ℕ) (xs ys : List Instruction) → Goes marks number xs
      → Goes marks (number + length xs) ys → Goes marks number (xs ++ ys)
  goes_append marks number [] ys first second =
      let same : number + 0 ≡ number = omega arith in subst (λ (n : ℕ). Goes marks n ys) same second
  goes_append marks number (x ∷ xs) ys first second =
      let same : number + suc (length xs) ≡ suc number + length xs = omega arith in
      (first.0, goes_append marks (suc number) xs ys first.1 (subst (λ (n : ℕ). Goes marks n ys) same second))

  -- Wherever the code stands among others, it goes from this to that.
  pub record Lies (code : List Instruction) (before after : Held) : Type 0 where
    pub marks : List Held
    pub count : length marks ≡ length code
    pub goes : (all : List Held) (number : ℕ) → HasAt all number marks
        → slice_get all (number + length code) ≡ Some after
        → (slice_get all number ≡ Some before) × Goes all number code

  at_same : (all : List Held) (one two : ℕ) (m : Held) → one ≡ two → slice_get all one ≡ Some m
      → slice_get all two ≡ Some m
  at_same all one two m same = subst (λ (n : ℕ). slice_get all n ≡ Some m) same

  has_same : (all : List Held) (one two : ℕ) (marks : List Held) → one ≡ two → HasAt all one marks
      → HasAt all two marks
  has_same all one two marks same = subst (λ (n : ℕ). HasAt all n marks) same

  pub none_lies : (before : Held) → Lies [] before before
  none_lies before = record {
    marks = [];
    count = refl;
    goes = λ all number has end. (at_same all (number + 0) number before (omega arith) end, tt);
  }

  pub then_lies : (one two : List Instruction) (before middle after : Held) → Lies one before middle
      → Lies two middle after → Lies (one ++ two) before after
  then_lies one two before middle after first second = record {
    marks = first.marks ++ second.marks;
    count = omega (arith, length-append first.marks second.marks, length-append one two, first.count, second.count);
    goes = λ all number has end.
        let later = second.goes all (number + length one)
        (has_same all (number + length first.marks) (number + length one) second.marks (omega (arith, first.count))
        (then_has all number first.marks second.marks has))
        (at_same all (number + length (one ++ two)) (number + length one + length two) after
        (omega (arith, length-append one two)) end) in
        let earlier = first.goes all number (first_has all number first.marks second.marks has) later.0 in
        (earlier.0, goes_append all number one two earlier.1 later.1);
  }

  pub one_lies : (one : Instruction) (before after : Held)
      → ((all : List Held) (number : ℕ) → slice_get all (suc number) ≡ Some after → Does all number one before)
      → Lies (one ∷ []) before after
  one_lies one before after does = record {
    marks = before ∷ [];
    count = refl;
    goes = λ all number has end. (
      has.0,
      (
        record {
          own = before;
          here = has.0;
          does = does all number (at_same all (number + 1) (suc number) after (omega arith) end);
        },
        tt,
      ),
    );
  }

  pub after_one : (one : Instruction) (rest : List Instruction) (before middle after : Held)
      → Lies (one ∷ []) before middle → Lies rest middle after → Lies (one ∷ rest) before after
  after_one one rest before middle after first second =
      then_lies (one ∷ []) rest before middle after first second

  -- ---- choices and loops

  unless_does : (when : Bool) (ahead : ℕ) (all : List Held) (number under : ℕ) (scopes : List ℕ) (around : ℕ)
      → slice_get all (suc number) ≡ Some (mark under scopes around)
      → slice_get all (suc number + ahead) ≡ Some (mark under scopes around)
      → Does all number (jump_unless when ahead) (mark (suc under) scopes around)
  unless_does true ahead all number under scopes around next target = (under, refl, next, target)
  unless_does false ahead all number under scopes around next target = (under, refl, next, target)

  pub choice_lies : (when : Bool) (one two : List Instruction) (under : ℕ) (scopes : List ℕ) (around : ℕ)
      (after : Held) → Lies one (mark under scopes around) after
      → Lies two (mark under scopes around) after
      → Lies (jump_unless when (suc (length one)) ∷ (one ++ Jump (length two) ∷ two))
      (mark (suc under) scopes around) after
  choice_lies when one two under scopes around after first second = record {
    marks = mark (suc under) scopes around ∷ (first.marks ++ after ∷ second.marks);
    count = omega (
      arith,
      length-append first.marks (after ∷ second.marks),
      length-append one (Jump (length two) ∷ two),
      first.count,
      second.count,
    );
    goes = λ all number has end.
        let here = suc number + length one in
        let rest : HasAt all here (after ∷ second.marks) =
        has_same all (suc number + length first.marks) here (after ∷ second.marks) (omega (arith, first.count))
        (then_has all (suc number) first.marks (after ∷ second.marks) has.1) in
        let last : slice_get all (suc here + length two) ≡ Some after =
        at_same all (number + suc (length (one ++ Jump (length two) ∷ two))) (suc here + length two) after
        (omega (arith, length-append one (Jump (length two) ∷ two))) end in
        let later = second.goes all (suc here) rest.1 last in
        let earlier = first.goes all (suc number) (first_has all (suc number) first.marks (after ∷ second.marks) has.1)
        rest.0 in (
          has.0,
          (
            record {
              own = mark (suc under) scopes around;
              here = has.0;
              does = unless_does when (suc (length one)) all number under scopes around earlier.0
                  (at_same all (suc here) (suc number + suc (length one)) (mark under scopes around) (omega arith) later.0);
            },
            goes_append all (suc number) one (Jump (length two) ∷ two) earlier.1
                (record { own = after; here = rest.0; does = last }, later.1),
          ),
        );
  }

  pub while_lies : (when : Bool) (one two : List Instruction) (under : ℕ) (scopes : List ℕ) (around : ℕ)
      → Lies one (mark under scopes around) (mark (suc under) scopes around)
      → Lies two (mark under scopes around) (mark (suc under) scopes around)
      → Lies
      (one ++ jump_unless when (length two + 3) ∷ TakeUnit
      ∷ (two ++ Pop ∷ JumpBack (length one + length two + 3) ∷ PushNil ∷ []))
      (mark under scopes around) (mark (suc under) scopes around)
  while_lies when one two under scopes around first second = record {
    marks = first.marks ++ turn;
    count = omega (
      arith,
      length-append first.marks turn,
      length-append second.marks (more ∷ less ∷ less ∷ []),
      length-append one turn_code,
      length-append two tail,
      first.count,
      second.count,
    );
    goes = λ all number has end.
        let here = number + length one in
        let there = suc (suc here) + length two in
        let rest : HasAt all here turn =
        has_same all (number + length first.marks) here turn (omega (arith, first.count))
        (then_has all number first.marks turn has) in
        let ends : HasAt all there (more ∷ less ∷ less ∷ []) =
        has_same all (suc (suc here) + length second.marks) there (more ∷ less ∷ less ∷ []) (omega (arith, second.count))
        (then_has all (suc (suc here)) second.marks (more ∷ less ∷ less ∷ []) rest.1.1) in
        let earlier = first.goes all number (first_has all number first.marks turn has) rest.0 in
        let later = second.goes all (suc (suc here))
        (first_has all (suc (suc here)) second.marks (more ∷ less ∷ less ∷ []) rest.1.1) ends.0 in
        let last : slice_get all (suc (suc (suc there))) ≡ Some more =
        at_same all (number + length (one ++ turn_code)) (suc (suc (suc there))) more
        (omega (arith, length-append one turn_code, length-append two tail)) end in
        let jumps : Fits all here (jump_unless when (length two + 3)) =
        record {
          own = more;
          here = rest.0;
          does = unless_does when (length two + 3) all here under scopes around rest.1.0
              (at_same all (suc (suc there)) (suc here + (length two + 3)) less (omega arith) ends.1.1.0);
        } in
        let unit : Fits all (suc here) TakeUnit = record { own = less; here = rest.1.0; does = later.0 } in
        let pops : Fits all there Pop = record { own = more; here = ends.0; does = (under, refl, ends.1.0) } in
        let back : Fits all (suc there) (JumpBack (length one + length two + 3)) =
        record {
          own = less;
          here = ends.1.0;
          does = (
            omega arith,
            at_same all number (suc there - (length one + length two + 3)) less (omega arith) earlier.0,
          );
        } in
        let nil : Fits all (suc (suc there)) PushNil = record { own = less; here = ends.1.1.0; does = last } in (
          earlier.0,
          goes_append all number one turn_code earlier.1
              (jumps, (unit, goes_append all (suc (suc here)) two tail later.1 (pops, (back, (nil, tt))))),
        );
  }
    where
      less : Held
      less = mark under scopes around

      more : Held
      more = mark (suc under) scopes around

      turn : List Held
      turn = more ∷ less ∷ (second.marks ++ more ∷ less ∷ less ∷ [])

      tail : List Instruction
      tail = Pop ∷ JumpBack (length one + length two + 3) ∷ PushNil ∷ []

      turn_code : List Instruction
      turn_code = jump_unless when (length two + 3) ∷ TakeUnit ∷ (two ++ tail)

  pub count_lies : (body : List Instruction) (under : ℕ) (scopes : List ℕ) (around : ℕ)
      → Lies body (mark (suc (suc (suc under))) scopes around) (mark (suc (suc (suc under))) scopes around)
      → Lies
      (LoopStart ∷ LoopNext (length body + 3) ∷ TakeUnit ∷ (body ++ Pop ∷ LoopStep (length body + 3) ∷ []))
      (mark (suc (suc under)) scopes around) (mark under scopes around)
  count_lies body under scopes around lies = record {
    marks = two ∷ two ∷ three ∷ (lies.marks ++ three ∷ two ∷ []);
    count = omega (
      arith,
      length-append lies.marks (three ∷ two ∷ []),
      length-append body (Pop ∷ LoopStep (length body + 3) ∷ []),
      lies.count,
    );
    goes = λ all number has end.
        let here = suc (suc (suc number)) in
        let there = here + length body in
        let ends : HasAt all there (three ∷ two ∷ []) =
        has_same all (here + length lies.marks) there (three ∷ two ∷ []) (omega (arith, lies.count))
        (then_has all here lies.marks (three ∷ two ∷ []) has.1.1.1) in
        let inner = lies.goes all here (first_has all here lies.marks (three ∷ two ∷ []) has.1.1.1) ends.0 in
        let last : slice_get all (suc (suc there)) ≡ Some (mark under scopes around) =
        at_same all
        (number + suc (suc (suc (length (body ++ Pop ∷ LoopStep (length body + 3) ∷ [])))))
        (suc (suc there)) (mark under scopes around)
        (omega (arith, length-append body (Pop ∷ LoopStep (length body + 3) ∷ []))) end in
        let start : Fits all number LoopStart = record { own = two; here = has.0; does = (under, refl, has.1.0) } in
        let next : Fits all (suc number) (LoopNext (length body + 3)) =
        record {
          own = two;
          here = has.1.0;
          does = (
            under,
            refl,
            has.1.1.0,
            at_same all (suc (suc there)) (suc (suc number) + (length body + 3)) (mark under scopes around)
                (omega arith) last,
          );
        } in
        let unit : Fits all (suc (suc number)) TakeUnit = record { own = three; here = has.1.1.0; does = inner.0 } in
        let pops : Fits all there Pop = record { own = three; here = ends.0; does = (suc (suc under), refl, ends.1.0) } in
        let step : Fits all (suc there) (LoopStep (length body + 3)) =
        record {
          own = two;
          here = ends.1.0;
          does = (
            omega arith,
            under,
            refl,
            last,
            at_same all (suc number) (suc there - (length body + 3)) two (omega arith) has.1.0,
          );
        } in (
          has.0,
          (
            start,
            (
              next,
              (
                unit,
                goes_append all here body (Pop ∷ LoopStep (length body + 3) ∷ []) inner.1
                    (pops, (step, tt)),
              ),
            ),
          ),
        );
  }
    where
      two : Held
      two = mark (suc (suc under)) scopes around

      three : Held
      three = mark (suc (suc (suc under))) scopes around

  pub scope_lies : (count : ℕ) (body : List Instruction) (height later : ℕ) (scopes : List ℕ) (around : ℕ)
      → around ≤ length scopes
      → Lies body (mark height (count ∷ scopes) around) (mark later (count ∷ scopes) around)
      → Lies (Enter count ∷ (body ++ Leave ∷ [])) (mark height scopes around) (mark later scopes around)
  scope_lies count body height later scopes around outer lies =
      after_one (Enter count) (body ++ Leave ∷ []) (mark height scopes around) (mark height (count ∷ scopes) around)
      (mark later scopes around)
      (one_lies (Enter count) (mark height scopes around) (mark height (count ∷ scopes) around) (λ all number next. next))
      (then_lies body (Leave ∷ []) (mark height (count ∷ scopes) around) (mark later (count ∷ scopes) around)
      (mark later scopes around) lies
      (one_lies Leave (mark later (count ∷ scopes) around) (mark later scopes around)
      (λ all number next. (omega (arith, outer), next))))

  pub pops_lie : (height : ℕ) (scopes : List ℕ) (around : ℕ)
      → Lies (replicate height Pop) (mark height scopes around) (mark 0 scopes around)
  pops_lie zero scopes around = none_lies (mark 0 scopes around)
  pops_lie (suc height) scopes around =
      after_one Pop (replicate height Pop) (mark (suc height) scopes around) (mark height scopes around)
      (mark 0 scopes around)
      (one_lies Pop (mark (suc height) scopes around) (mark height scopes around)
      (λ all number next. (height, refl, next)))
      (pops_lie height scopes around)

  -- ---- the code of a whole block

  pub record Whole (code : List Instruction) (before : Held) : Type 0 where
    pub marks : List Held
    pub count : length marks ≡ length code
    pub first : slice_get marks 0 ≡ Some before
    pub goes : Goes marks 0 code

  has_first : (front xs back : List Held) → HasAt (front ++ (xs ++ back)) (length front) xs
  has_first front [] back = tt
  has_first front (x ∷ xs) back =
      let moved : (front ++ x ∷ []) ++ (xs ++ back) ≡ front ++ (x ∷ (xs ++ back)) =
      append_assoc front (x ∷ []) (xs ++ back) in
      let count : length (front ++ x ∷ []) ≡ suc (length front) = omega (arith, length-append front (x ∷ [])) in (
        at_end front x (xs ++ back),
        subst (λ (n : ℕ). HasAt (front ++ (x ∷ (xs ++ back))) n xs) count
            (subst (λ all. HasAt all (length (front ++ x ∷ [])) xs) moved (has_first (front ++ x ∷ []) xs back)),
      )
    where
      at_end : (before : List Held) (one : Held) (after : List Held)
          → slice_get (before ++ (one ∷ after)) (length before) ≡ Some one
      at_end [] one after = refl
      at_end (first ∷ before) one after = at_end before one after

  get_last : (front : List Held) (x : Held) → slice_get (front ++ x ∷ []) (length front) ≡ Some x
  get_last [] x = refl
  get_last (first ∷ front) x = get_last front x

  -- ended by a return
  pub ends_whole : (body : List Instruction) (last : Instruction) (before own : Held) → Lies body before own
      → ((marks : List Held) (number : ℕ) → Does marks number last own) → Whole (body ++ last ∷ []) before
  ends_whole body last before own lies does =
      record {
        marks = all;
        count = omega (arith, length-append lies.marks (own ∷ []), length-append body (last ∷ []), lies.count);
        first = goes.0;
        goes = goes_append all 0 body (last ∷ []) goes.1 (
          record {
            own = own;
            here = at_same all (length body) (0 + length body) own (omega arith) here;
            does = does all (0 + length body);
          },
          tt,
        );
      }
    where
      all : List Held
      all = lies.marks ++ own ∷ []

      here : slice_get all (length body) ≡ Some own
      here = subst (λ (n : ℕ). slice_get all n ≡ Some own) lies.count (get_last lies.marks own)

      goes : (slice_get all 0 ≡ Some before) × Goes all 0 body
      goes = lies.goes all 0 (has_first [] lies.marks (own ∷ []))
          (at_same all (length body) (0 + length body) own (omega arith) here)
