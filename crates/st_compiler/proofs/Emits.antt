-- What is put out, part by part.
use Rattle.std.proofs.Common.{◌≡◌, refl, sym, ap, subst, ◌∙◌, ℕ, zero, suc, ◌+◌, ◌<◌, Bool, false, List, [], ◌∷◌, ◌++◌, length, map, ◌==◌, arith, append_assoc, length-append}
use Rattle.std.specs.Prelude.{slice_set}
use Rattle.std.proofs.lemmas.List.{append-nil, map-append, length-map, map-set, set_at}
use Rattle.st_tree.specs.Trees.{Closure, Expression, expressions, Send, sends, Statement, statements}
use Rattle.tree_meaning.specs.Names.{where_is}
use Rattle.tree_meaning.specs.Place.{Place}
use Rattle.st_compiler.specs.Instruction.{Instruction, Pop, Dup, PushNil, PushBlock, Jump, JumpBack, TakeUnit, Enter, Leave, LoopStart, LoopNext, LoopStep}
use Rattle.st_compiler.specs.Code.{Piece, Part, Gen, only, seq, prefixed, between, in_scope_code, jump_unless, choice, while_code, count_code}
use Rattle.st_compiler.specs.TreeCode.{ArgumentCode, MessageCode, argument_values_code, argument_codes, closure_code, pushed, store_op, assign_code, send_op, cascade_code, messages_in_turn_code, message_codes, message_code_of, statements_in_turn_code, statement_code, statement_codes}
use Rattle.st_compiler.specs.declared.instr.Instr.{Instr}
use Rattle.st_compiler.specs.declared.instr.BlockBody.{BlockBody}
use Rattle.st_compiler.specs.Emitted.{instruction_of, instructions, Body, body_of, bodies, tree_body, piece_body, Puts, Adds, AreOf, assigned}

-- ---- instructions

pub puts_nothing : {code : List Instr} → Puts [] code code
puts_nothing {code} = record { code = sym (append-nil (instructions code)) }

pub puts_cons : {one : Instruction} {more : List Instruction} {first second third : List Instr}
    → Puts (one ∷ []) first second → Puts more second third → Puts (one ∷ more) first third
puts_cons {one} {more} {first} {second} {third} here later = record {
  code = later.code ∙ ap (λ l. l ++ more) here.code ∙ append_assoc (instructions first) (one ∷ []) more;
}

pub puts_append : {some more : List Instruction} {first second third : List Instr}
    → Puts some first second → Puts more second third → Puts (some ++ more) first third
puts_append {some} {more} {first} {second} {third} here later = record {
  code = later.code ∙ ap (λ l. l ++ more) here.code ∙ append_assoc (instructions first) some more;
}

-- ---- parts

length_instructions : (code : List Instr) → length (instructions code) ≡ length code
length_instructions code = length-map code instruction_of

-- how many blocks there are behind a part
number_behind : (part : Part) (blocks later : List BlockBody)
    → bodies later ≡ bodies blocks ++ map piece_body part.pieces
    → length later ≡ length blocks + length part.pieces
number_behind part blocks later is =
    let sizes : length (bodies later) ≡ length (bodies blocks ++ map piece_body part.pieces) = ap length is in
    omega (
      arith,
      sizes,
      length-append (bodies blocks) (map piece_body part.pieces),
      length-map later body_of,
      length-map blocks body_of,
      length-map part.pieces piece_body,
    )

-- the blocks of two parts
blocks_of_two : (first second : Gen) (blocks between later : List BlockBody)
    → bodies between ≡ bodies blocks ++ map piece_body (first (length blocks)).pieces
    → bodies later ≡ bodies between ++ map piece_body (second (length between)).pieces
    → bodies later ≡ bodies blocks ++ map piece_body ((first (length blocks)).pieces
    ++ (second (length blocks + length (first (length blocks)).pieces)).pieces)
blocks_of_two first second blocks between later one two =
    let part = first (length blocks) in
    let number = number_behind part blocks between one in
    two
    ∙ ap (λ (l : List Body). l ++ map piece_body (second (length between)).pieces) one
    ∙ append_assoc (bodies blocks) (map piece_body part.pieces) (map piece_body (second (length between)).pieces)
    ∙ ap (λ (n : ℕ). bodies blocks ++ (map piece_body part.pieces ++ map piece_body (second n).pieces)) number
    ∙ ap (λ (l : List Body). bodies blocks ++ l)
    (sym (map-append piece_body part.pieces (second (length blocks + length part.pieces)).pieces))

pub adds_nothing : {code : List Instr} {blocks : List BlockBody} → Adds (only []) code blocks code blocks
adds_nothing {code} {blocks} = record {
  code_is = sym (append-nil (instructions code));
  blocks_are = sym (append-nil (bodies blocks));
}

pub adds_only : {more : List Instruction} {code later : List Instr} {blocks : List BlockBody}
    → Puts more code later → Adds (only more) code blocks later blocks
adds_only {more} {code} {later} {blocks} puts = record {
  code_is = puts.code;
  blocks_are = sym (append-nil (bodies blocks));
}

pub adds_seq : {first second : Gen} {code middle later : List Instr} {blocks between after : List BlockBody}
    → Adds first code blocks middle between → Adds second middle between later after
    → Adds (seq first second) code blocks later after
adds_seq {first} {second} {code} {middle} {later} {blocks} {between} {after} one two =
    let part = first (length blocks) in
    let number = number_behind part blocks between one.blocks_are in
    record {
      code_is = two.code_is
          ∙ ap (λ (l : List Instruction). l ++ (second (length between)).code) one.code_is
          ∙ append_assoc (instructions code) part.code (second (length between)).code
          ∙ ap (λ (n : ℕ). instructions code ++ (part.code ++ (second n).code)) number;
      blocks_are = blocks_of_two first second blocks between after one.blocks_are two.blocks_are;
    }

pub adds_after : {more : List Instruction} {part : Gen} {code middle later : List Instr}
    {blocks after : List BlockBody} → Puts more code middle → Adds part middle blocks later after
    → Adds (prefixed more part) code blocks later after
adds_after {more} {part} {code} {middle} {later} {blocks} {after} puts adds = record {
  code_is = adds.code_is ∙ ap (λ (l : List Instruction). l ++ (part (length blocks)).code) puts.code
      ∙ append_assoc (instructions code) more (part (length blocks)).code;
  blocks_are = adds.blocks_are;
}

pub adds_then : {more : List Instruction} {part : Gen} {code middle later : List Instr}
    {blocks after : List BlockBody} → Adds part code blocks middle after → Puts more middle later
    → Adds (seq part (only more)) code blocks later after
adds_then adds puts = adds_seq adds (adds_only puts)

pub adds_between : {before behind : List Instruction} {part : Gen} {code first second third : List Instr}
    {blocks after : List BlockBody} → Puts before code first → Adds part first blocks second after
    → Puts behind second third → Adds (between before part behind) code blocks third after
adds_between {before} {behind} {part} {code} {first} {second} {third} {blocks} {after} puts adds last =
    let own = (part (length blocks)).code in
    record {
      code_is = last.code
          ∙ ap (λ (l : List Instruction). l ++ behind) (adds.code_is ∙ ap (λ (l : List Instruction). l ++ own) puts.code)
          ∙ append_assoc (instructions code ++ before) own behind
          ∙ append_assoc (instructions code) before (own ++ behind);
      blocks_are = adds.blocks_are;
    }

pub in_no_scope : {part : Gen} {code later : List Instr} {blocks after : List BlockBody} (variables : ℕ)
    → variables ≡ 0 → Adds part code blocks later after
    → Adds (in_scope_code variables part) code blocks later after
in_no_scope zero is adds = adds
in_no_scope (suc others) is adds = absurd (omega arith)

pub in_a_scope : {part : Gen} {code first second third : List Instr} {blocks after : List BlockBody}
    (variables count : ℕ) → variables ≡ count → 0 < count → Puts (Enter count ∷ []) code first
    → Adds part first blocks second after → Puts (Leave ∷ []) second third
    → Adds (in_scope_code variables part) code blocks third after
in_a_scope zero count is some puts adds last = absurd (omega arith)
in_a_scope {part} {code} {first} {second} {third} {blocks} {after} (suc others) count is some puts adds last =
    adds_between (subst (λ (n : ℕ). Puts (Enter n ∷ []) code first) (sym is) puts) adds last

-- a part that was put out apart
pub adds_from_nothing : {part : Gen} {empty code : List Instr} {blocks after : List BlockBody} → empty ≡ []
    → Adds part empty blocks code after → Adds part [] blocks code after
adds_from_nothing {part} {empty} {code} {blocks} {after} none adds =
    subst (λ (l : List Instr). Adds part l blocks code after) none adds

pub puts_from_nothing : {more : List Instruction} {empty code : List Instr} → empty ≡ []
    → Puts more empty code → Puts more [] code
puts_from_nothing {more} {empty} {code} none puts =
    subst (λ (l : List Instr). Puts more l code) none puts

-- what stands alone is the part's code, and as long
own_code : {part : Gen} {code : List Instr} {blocks after : List BlockBody} → Adds part [] blocks code after
    → instructions code ≡ (part (length blocks)).code
own_code adds = adds.code_is

pub adds_choice : (when : Bool) {first second : Gen} {one two code later : List Instr}
    {blocks between after : List BlockBody} → Adds first [] blocks one between
    → Adds second [] between two after
    → Puts (jump_unless when (suc (length one))
    ∷ (instructions one ++ Jump (length two) ∷ instructions two)) code later
    → Adds (choice when first second) code blocks later after
adds_choice when {first} {second} {one} {two} {code} {later} {blocks} {between} {after} here there puts =
    let part = first (length blocks) in
    let number = number_behind part blocks between here.blocks_are in
    let second_code : instructions two ≡ (second (length blocks + length part.pieces)).code =
    there.code_is ∙ ap (λ (n : ℕ). (second n).code) number in
    let Both : List Instruction → List Instruction → List Instruction = λ xs ys.
    jump_unless when (suc (length xs)) ∷ (xs ++ Jump (length ys) ∷ ys) in
    record {
      code_is = puts.code
          ∙ ap (λ (n : ℕ). instructions code ++ (jump_unless when (suc n)
          ∷ (instructions one ++ Jump (length two) ∷ instructions two))) (sym (length_instructions one))
          ∙ ap (λ (n : ℕ). instructions code ++ (jump_unless when (suc (length (instructions one)))
          ∷ (instructions one ++ Jump n ∷ instructions two))) (sym (length_instructions two))
          ∙ ap (λ (l : List Instruction). instructions code ++ Both l (instructions two)) here.code_is
          ∙ ap (λ (l : List Instruction). instructions code ++ Both part.code l) second_code;
      blocks_are = blocks_of_two first second blocks between after here.blocks_are there.blocks_are;
    }

pub adds_while : (when : Bool) {condition body : Gen} {one two code later : List Instr}
    {blocks between after : List BlockBody} → Adds condition [] blocks one between
    → Adds body [] between two after
    → Puts (instructions one ++ jump_unless when (length two + 3) ∷ TakeUnit
    ∷ (instructions two ++ Pop ∷ JumpBack (length one + length two + 3) ∷ PushNil ∷ [])) code later
    → Adds (while_code when condition body) code blocks later after
adds_while when {condition} {body} {one} {two} {code} {later} {blocks} {between} {after} here there puts =
    let part = condition (length blocks) in
    let number = number_behind part blocks between here.blocks_are in
    let second_code : instructions two ≡ (body (length blocks + length part.pieces)).code =
    there.code_is ∙ ap (λ (n : ℕ). (body n).code) number in
    let Both : List Instruction → List Instruction → ℕ → ℕ → List Instruction = λ xs ys n m.
    xs ++ jump_unless when (m + 3) ∷ TakeUnit ∷ (ys ++ Pop ∷ JumpBack (n + m + 3) ∷ PushNil ∷ []) in
    record {
      code_is = puts.code
          ∙ ap (λ (n : ℕ). instructions code ++ Both (instructions one) (instructions two) n (length two))
          (sym (length_instructions one))
          ∙ ap (λ (m : ℕ). instructions code ++ Both (instructions one) (instructions two)
          (length (instructions one)) m) (sym (length_instructions two))
          ∙ ap (λ (l : List Instruction). instructions code ++ Both l (instructions two) (length l)
          (length (instructions two))) here.code_is
          ∙ ap (λ (l : List Instruction). instructions code ++ Both part.code l (length part.code)
          (length l)) second_code;
      blocks_are = blocks_of_two condition body blocks between after here.blocks_are there.blocks_are;
    }

pub adds_count : {body : Gen} {one code later : List Instr} {blocks after : List BlockBody}
    → Adds body [] blocks one after
    → Puts (LoopStart ∷ LoopNext (length one + 3) ∷ TakeUnit
    ∷ (instructions one ++ Pop ∷ LoopStep (length one + 3) ∷ [])) code later
    → Adds (count_code body) code blocks later after
adds_count {body} {one} {code} {later} {blocks} {after} adds puts =
    let Whole : List Instruction → ℕ → List Instruction = λ xs n.
    LoopStart ∷ LoopNext (n + 3) ∷ TakeUnit ∷ (xs ++ Pop ∷ LoopStep (n + 3) ∷ []) in
    record {
      code_is = puts.code
          ∙ ap (λ (n : ℕ). instructions code ++ Whole (instructions one) n) (sym (length_instructions one))
          ∙ ap (λ (l : List Instruction). instructions code ++ Whole l (length l)) adds.code_is;
      blocks_are = adds.blocks_are;
    }

-- ---- arguments

-- two parts are the same, whatever number their first block has
abbrev pub Same : Gen → Gen → Type 0
Same first second = (number : ℕ) → first number ≡ second number

pub adds_same : {first second : Gen} {code later : List Instr} {blocks after : List BlockBody}
    → Same first second → Adds first code blocks later after → Adds second code blocks later after
adds_same {first} {second} {code} {later} {blocks} {after} same adds =
    let is = same (length blocks) in
    record {
      code_is = adds.code_is ∙ ap (λ (part : Part). instructions code ++ part.code) is;
      blocks_are = adds.blocks_are ∙ ap (λ (part : Part). bodies blocks ++ map piece_body part.pieces) is;
    }

part_is : (code code' : List Instruction) (pieces pieces' : List Piece) → code ≡ code' → pieces ≡ pieces'
    → let first : Part = record { code = code; pieces = pieces } in
    let second : Part = record { code = code'; pieces = pieces' } in first ≡ second
part_is code code' pieces pieces' same also = λ i. record { code = same i; pieces = also i }

nothing_first : (next : Gen) → Same (seq (only []) next) next
nothing_first next number =
    let none : number + 0 ≡ number = omega arith in ap next none

seq_in_turn : (first second third : Gen) → Same (seq first (seq second third)) (seq (seq first second) third)
seq_in_turn first second third number =
    let a = first number in
    let b = second (number + length a.pieces) in
    let c = third (number + length a.pieces + length b.pieces) in
    let same_number : number + length a.pieces + length b.pieces ≡ number + length (a.pieces ++ b.pieces)
    = omega (arith, length-append a.pieces b.pieces) in
    part_is (a.code ++ (b.code ++ c.code)) ((a.code ++ b.code) ++ c.code)
    (a.pieces ++ (b.pieces ++ c.pieces)) ((a.pieces ++ b.pieces) ++ c.pieces)
    (sym (append_assoc a.code b.code c.code)) (sym (append_assoc a.pieces b.pieces c.pieces))
    ∙ ap (λ (n : ℕ). let d = third n in let whole : Part = record {
      code = (a.code ++ b.code) ++ d.code;
      pieces = (a.pieces ++ b.pieces) ++ d.pieces;
    } in whole) same_number

seq_same : (first second other : Gen) → Same second other → Same (seq first second) (seq first other)
seq_same first second other same number =
    let a = first number in
    ap (λ (b : Part). let whole : Part = record {
      code = a.code ++ b.code;
      pieces = a.pieces ++ b.pieces;
    } in whole) (same (number + length a.pieces))

-- the values of arguments, and then what follows
arguments_then : (arguments : List ArgumentCode) (place : Place) (height : ℕ) (next : Gen)
    → Same (seq (argument_values_code arguments place height (only [])) next)
    (argument_values_code arguments place height next)
arguments_then [] place height next number = nothing_first next number
arguments_then (first ∷ rest) place height next number =
    sym (seq_in_turn (first.value place height) (argument_values_code rest place (suc height) (only [])) next number)
    ∙ seq_same (first.value place height)
    (seq (argument_values_code rest place (suc height) (only [])) next)
    (argument_values_code rest place (suc height) next) (arguments_then rest place (suc height) next) number

pub adds_arguments : {more : List Instruction} {code middle later : List Instr} {blocks after : List BlockBody}
    (arguments : List ArgumentCode) (place : Place) (height : ℕ)
    → Adds (argument_values_code arguments place height (only [])) code blocks middle after
    → Puts more middle later
    → Adds (argument_values_code arguments place height (only more)) code blocks later after
adds_arguments {more} arguments place height adds puts =
    adds_same (arguments_then arguments place height (only more)) (adds_then adds puts)

pub count_arguments : (items : List Expression) → length (argument_codes (expressions items)) ≡ length items
count_arguments [] = refl
count_arguments (first ∷ rest) = ap (λ (n : ℕ). suc n) (count_arguments rest)

-- ---- assignments

assigns_are : (names : List (List ℕ)) (place : Place) → Same (only (assigned names place)) (assign_code names place)
assigns_are [] place number = refl
assigns_are (name ∷ rest) place number =
    let store = store_op (where_is name place.names) name in
    ap (λ (part : Part). let whole : Part = record {
      code = part.code ++ store ∷ [];
      pieces = part.pieces ++ [];
    } in whole) (assigns_are rest place number)

pub adds_assigned : (names : List (List ℕ)) (place : Place) {part : Gen} {code middle later : List Instr}
    {blocks after : List BlockBody} → Adds part code blocks middle after
    → Puts (assigned names place) middle later
    → Adds (seq part (assign_code names place)) code blocks later after
adds_assigned names place {part} adds puts =
    adds_same (seq_same part (only (assigned names place)) (assign_code names place) (assigns_are names place))
    (adds_then adds puts)

-- ---- blocks

-- how a number that was taken is filled in
filled : (before inner : List Body) (reserved own : Body) → slice_set ((before ++ reserved ∷ []) ++ inner) (length before) own
    ≡ before ++ own ∷ inner
filled before inner reserved own =
    ap (λ (l : List Body). slice_set l (length before) own) (append_assoc before (reserved ∷ []) inner)
    ∙ set_at before reserved inner own (length before) refl

pub grows : {part : Gen} {code later : List Instr} {blocks after : List BlockBody}
    → Adds part code blocks later after → (number : ℕ) → number < length blocks → number < length after
grows {part} {code} {later} {blocks} {after} adds number less =
    omega (arith, number_behind (part (length blocks)) blocks after adds.blocks_are)

pub adds_block : (tree : Closure) (place : Place) (reserved own : BlockBody) (blocks taken after : List BlockBody)
    (code later : List Instr) → taken ≡ blocks ++ reserved ∷ []
    → Adds (closure_code tree place) [] taken own.code.items after
    → body_of own ≡ tree_body tree (instructions own.code.items)
    → Puts (PushBlock (length blocks) ∷ []) code later
    → Adds (λ number. pushed number tree place (closure_code tree place (suc number)))
    code blocks later (slice_set after (length blocks) own)
adds_block tree place reserved own blocks taken after code later is adds body puts =
    let number = length blocks in
    let sizes : length taken ≡ length (blocks ++ reserved ∷ []) = ap length is in
    let size : length taken ≡ suc number = omega (arith, sizes, length-append blocks (reserved ∷ [])) in
    let part = closure_code tree place (suc number) in
    let inner = map piece_body part.pieces in
    let taken_bodies : bodies taken ≡ bodies blocks ++ body_of reserved ∷ [] =
    ap bodies is ∙ map-append body_of blocks (reserved ∷ []) in
    let after_bodies : bodies after ≡ (bodies blocks ++ body_of reserved ∷ []) ++ inner =
    adds.blocks_are ∙ ap (λ (l : List Body). l ++ map piece_body (closure_code tree place (length taken)).pieces) taken_bodies
    ∙ ap (λ (n : ℕ). (bodies blocks ++ body_of reserved ∷ []) ++ map piece_body (closure_code tree place n).pieces) size in
    let own_body : body_of own ≡ tree_body tree part.code =
    body ∙ ap (λ (l : List Instruction). tree_body tree l) (adds.code_is ∙ ap (λ (n : ℕ). (closure_code tree place n).code) size) in
    record {
      code_is = puts.code;
      blocks_are = map-set body_of after number own
          ∙ ap (λ (l : List Body). slice_set l number (body_of own)) after_bodies
          ∙ ap (λ (n : ℕ). slice_set ((bodies blocks ++ body_of reserved ∷ []) ++ inner) n (body_of own)) (sym (length-map blocks body_of))
          ∙ filled (bodies blocks) inner (body_of reserved) (body_of own)
          ∙ ap (λ (one : Body). bodies blocks ++ one ∷ inner) own_body;
    }

pub block_added : (tree : Closure) (place : Place) (reserved own : BlockBody) (own_code : List Instr)
    (blocks taken after final : List BlockBody) (number : ℕ) (code later : List Instr) → number ≡ length blocks
    → taken ≡ blocks ++ reserved ∷ [] → own.code.items ≡ own_code
    → Adds (closure_code tree place) [] taken own_code after
    → body_of own ≡ tree_body tree (instructions own_code) → final ≡ slice_set after number own
    → Puts (PushBlock number ∷ []) code later
    → Adds (λ first. pushed first tree place (closure_code tree place (suc first))) code blocks later final
block_added tree place reserved own own_code blocks taken after final number code later is more own_is adds body all puts =
    let whole : final ≡ slice_set after (length blocks) own = all ∙ ap (λ (n : ℕ). slice_set after n own) is in
    subst (λ (l : List BlockBody). Adds (λ first. pushed first tree place (closure_code tree place (suc first))) code blocks later l)
    (sym whole)
    (adds_block tree place reserved own blocks taken after code later more
    (subst (λ (l : List Instr). Adds (closure_code tree place) [] taken l after) (sym own_is) adds)
    (body ∙ ap (λ (l : List Instr). tree_body tree (instructions l)) (sym own_is))
    (subst (λ (n : ℕ). Puts (PushBlock n ∷ []) code later) is puts))

-- ---- messages and statements

pub sent_added : (items : List Expression) (place : Place) (height above : ℕ) (to_super : Bool) (selector : List ℕ)
    (one : Instr) {code middle later : List Instr} {blocks after : List BlockBody} → above ≡ suc height
    → instruction_of one ≡ send_op to_super selector (length items)
    → Adds (argument_values_code (argument_codes (expressions items)) place above (only [])) code blocks middle after
    → Puts (instruction_of one ∷ []) middle later
    → Adds (argument_values_code (argument_codes (expressions items)) place (suc height)
    (only (send_op to_super selector (length (argument_codes (expressions items))) ∷ []))) code blocks later after
sent_added items place height above to_super selector one {code} {middle} {later} {blocks} {after} is op adds puts =
    let arguments = argument_codes (expressions items) in
    let here : Adds (argument_values_code arguments place (suc height) (only [])) code blocks middle after =
    subst (λ (h : ℕ). Adds (argument_values_code arguments place h (only [])) code blocks middle after) is adds in
    let one_is : instruction_of one ≡ send_op to_super selector (length arguments) =
    op ∙ ap (λ (n : ℕ). send_op to_super selector n) (sym (count_arguments items)) in
    let last : Puts (send_op to_super selector (length arguments) ∷ []) middle later =
    subst (λ (i : Instruction). Puts (i ∷ []) middle later) one_is puts in
    adds_arguments arguments place (suc height) here last

pub counting_added : (value body : ℕ → Gen) (height two three : ℕ) {code first second third later own : List Instr}
    {blocks between after : List BlockBody} → two ≡ suc (suc height) → three ≡ suc (suc (suc height))
    → Puts (Dup ∷ []) code first → Adds (value two) first blocks second between
    → Puts (TakeUnit ∷ []) second third → Adds (body three) [] between own after
    → Puts (LoopStart ∷ LoopNext (length own + 3) ∷ TakeUnit
    ∷ (instructions own ++ Pop ∷ LoopStep (length own + 3) ∷ [])) third later
    → Adds (prefixed (Dup ∷ []) (seq (value (suc (suc height)))
    (prefixed (TakeUnit ∷ []) (count_code (body (suc (suc (suc height)))))))) code blocks later after
counting_added value body height two three {code} {first} {second} {third} {later} {own} {blocks} {between} {after}
    is also dup adds unit apart puts =
    let value_adds : Adds (value (suc (suc height))) first blocks second between =
    subst (λ (h : ℕ). Adds (value h) first blocks second between) is adds in
    let body_adds : Adds (body (suc (suc (suc height)))) [] between own after =
    subst (λ (h : ℕ). Adds (body h) [] between own after) also apart in
    adds_after dup (adds_seq value_adds (adds_after unit (adds_count body_adds puts)))

pub while_added : (when : Bool) {condition body : Gen} {one two code middle later : List Instr}
    {blocks between after : List BlockBody} → Puts (TakeUnit ∷ []) code middle
    → Adds condition [] blocks one between → Adds body [] between two after
    → Puts (instructions one ++ jump_unless when (length two + 3) ∷ TakeUnit
    ∷ (instructions two ++ Pop ∷ JumpBack (length one + length two + 3) ∷ PushNil ∷ [])) middle later
    → Adds (prefixed (TakeUnit ∷ []) (while_code when condition body)) code blocks later after
while_added when unit condition body puts = adds_after unit (adds_while when condition body puts)

pub last_added : (message : MessageCode) (cascade : List Send) (to_super : Bool) (place : Place) (height : ℕ)
    {code later : List Instr} {blocks after : List BlockBody} → (length cascade == 0) ≡ false
    → Adds (cascade_code message (message_codes (sends cascade)) to_super place height) code blocks later after
    → Adds (messages_in_turn_code (message ∷ []) (message_codes (sends cascade)) to_super place height)
    code blocks later after
last_added message [] to_super place height none adds = absurd (cc)
last_added message (next ∷ more) to_super place height none adds = adds

messages_split : (message : Send) (rest : List Send) (cascade : List MessageCode) (to_super : Bool) (place : Place)
    (height : ℕ) {code middle later : List Instr} {blocks between after : List BlockBody}
    → (length rest == 0) ≡ false
    → Adds ((message_code_of message).by_form to_super place height) code blocks middle between
    → Adds (messages_in_turn_code (message_codes (sends rest)) cascade false place height) middle between later after
    → Adds (messages_in_turn_code (message_codes (sends (message ∷ rest))) cascade to_super place height)
    code blocks later after
messages_split message [] cascade to_super place height none first more = absurd (cc)
messages_split message (next ∷ rest) [] to_super place height none first more = adds_seq first more
messages_split message (next ∷ rest) (one ∷ others) to_super place height none first more = adds_seq first more

pub messages_added : (messages rest : List Send) (message : Send) (cascade : List MessageCode) (to_super : Bool)
    (place : Place) (height : ℕ) {code middle later : List Instr} {blocks between after : List BlockBody}
    → messages ≡ message ∷ rest → (length rest == 0) ≡ false
    → Adds ((message_code_of message).by_form to_super place height) code blocks middle between
    → Adds (messages_in_turn_code (message_codes (sends rest)) cascade false place height) middle between later after
    → Adds (messages_in_turn_code (message_codes (sends messages)) cascade to_super place height)
    code blocks later after
messages_added messages rest message cascade to_super place height {code} {middle} {later} {blocks} {between} {after}
    is none first more =
    subst (λ (l : List Send). Adds (messages_in_turn_code (message_codes (sends l)) cascade to_super place height)
    code blocks later after) (sym is)
    (messages_split message rest cascade to_super place height none first more)

statements_split : (first : Statement) (rest : List Statement) (place : Place) (height : ℕ)
    {code middle next later : List Instr} {blocks between after : List BlockBody} → (length rest == 0) ≡ false
    → Adds (statement_code first place height) code blocks middle between → Puts (Pop ∷ []) middle next
    → Adds (statements_in_turn_code (statement_codes (statements rest)) place height) next between later after
    → Adds (statements_in_turn_code (statement_codes (statements (first ∷ rest))) place height)
    code blocks later after
statements_split first [] place height none here pop more = absurd (cc)
statements_split first (second ∷ rest) place height none here pop more = adds_seq here (adds_after pop more)

pub statements_added : (body rest : List Statement) (first : Statement) (place : Place) (height : ℕ)
    {code middle next later : List Instr} {blocks between after : List BlockBody} → body ≡ first ∷ rest
    → (length rest == 0) ≡ false → Adds (statement_code first place height) code blocks middle between
    → Puts (Pop ∷ []) middle next
    → Adds (statements_in_turn_code (statement_codes (statements rest)) place height) next between later after
    → Adds (statements_in_turn_code (statement_codes (statements body)) place height) code blocks later after
statements_added body rest first place height {code} {middle} {next} {later} {blocks} {between} {after}
    is none here pop more =
    subst (λ (l : List Statement). Adds (statements_in_turn_code (statement_codes (statements l)) place height)
    code blocks later after) (sym is) (statements_split first rest place height none here pop more)

-- ---- whole texts

pub are_of : {part : Gen} {code later : List Instr} {blocks after : List BlockBody} → code ≡ [] → blocks ≡ []
    → Adds part code blocks later after → AreOf part later after
are_of {part} {code} {later} {blocks} {after} no_code no_blocks adds =
    let from : Adds part [] [] later after =
    subst (λ (l : List Instr). Adds part l [] later after) no_code
    (subst (λ (l : List BlockBody). Adds part code l later after) no_blocks adds) in
    record { code_is = from.code_is; blocks_are = from.blocks_are }

pub are_of_then : {part : Gen} {more : List Instruction} {code later : List Instr} {blocks : List BlockBody}
    → AreOf part code blocks → Puts more code later → AreOf (seq part (only more)) later blocks
are_of_then {part} {more} {code} {later} {blocks} are puts = record {
  code_is = puts.code ∙ ap (λ (l : List Instruction). l ++ more) are.code_is;
  blocks_are = are.blocks_are ∙ ap (λ (l : List Piece). map piece_body l) (sym (append-nil (part 0).pieces));
}

-- for `using`
pub ruleset emits = (puts_nothing, puts_cons, puts_append, adds_nothing, adds_only, adds_seq, adds_after, adds_then, adds_assigned, adds_between, adds_choice, adds_while, adds_count, adds_from_nothing, puts_from_nothing, are_of, are_of_then)
