-- A method that answers by one push ran as its activation does, where what that puts was found.
use Rattle.std.proofs.Common.{◌≡◌, ◌∙◌, refl, sym, ap, ap₂, subst, ℕ, Bool, true, false, nat_eq, cond, List, [], ◌∷◌, ◌++◌, length, take, set, replicate, slice_get, get_or, ◌<◌, Some, Result, Ok, Err, arith}
use Rattle.std.proofs.lemmas.List.{take_at}
use Rattle.std.proofs.lemmas.Bool.{false≢true}
use Rattle.std.proofs.lemmas.Option.{same_Some, slice_get-get_or}
use Rattle.st_tree.specs.Trees.{Program}
use Rattle.gem_object.specs.declared.value.Value.{Value}
use Rattle.gem_object.specs.declared.value.Value.TheVariants as value
use Rattle.tree_meaning.specs.object_programs.Local.{Local}
use Rattle.tree_meaning.specs.object_programs.Run.{give, return_to, become, and_then, Ending, returns, fails}
use Rattle.tree_meaning.specs.object_programs.Programs.{choose}
use Rattle.tree_meaning.specs.Place.{Frame, MadeBlock}
use Rattle.tree_meaning.specs.Scopes.{mark, begin_method, end_living, give_back, give_back_where, ending_at_home, leave_method}
use Rattle.tree_meaning.specs.Bodies.{method_body}
use Rattle.tree_meaning.specs.declared.place.Mark.{Mark}
use Rattle.tree_meaning.specs.Calls.{method_frame, activation}
use Rattle.gem_language.specs.OutOfScope.{read_out_of_scope}
use Rattle.gem_language.specs.Commands.{selector_of}
use Rattle.gem_language.specs.Sends.{outside}
use Rattle.prim_parts.specs.Does.{Does}
use Rattle.prim_parts.proofs.Does.{does_ran}
use Rattle.running_objects.specs.Seen.{Seen}
use Rattle.running_objects.specs.Ran.{Ran}
use Rattle.running_objects.specs.declared.stop.Stop.{Stop}
use Rattle.running_objects.specs.declared.stop.Stop.TheVariants as stop
use Rattle.running_objects.proofs.Running.{keeps_same, ran_give, ran_fail, ran_return, ran_become, ran_seeing, ran_then}
use Rattle.st_compiler.specs.Instruction.{Instruction, PushSelf, PushNil, PushTrue, PushFalse, PushLit, MakeLit, PushLocal, StoreLocal, PushName, StoreName, Pop, Dup, Send, SuperSend, PushBlock, ReturnMethod, ReturnHome, ReturnBlock, Jump, JumpBack, JumpTrue, JumpFalse, TakeUnit, Enter, Leave, LoopStart, LoopNext, LoopStep}
use Rattle.st_compiler.specs.Code.{Piece}
use Rattle.st_commands.specs.Leaving.{LeftSo}
use Rattle.st_commands.proofs.Activations.{activation_ran}
use Rattle.st_machine.specs.Led.{AskedBy}
use Rattle.st_machine.specs.Parts.{table_of, part_code, part_run}
use Rattle.look_up_cache.specs.Variables.{bare_frame}
use Rattle.st_machine.specs.Quick.{IsPut, put_value, IsQuick, at_home}
use Rattle.st_machine.specs.declared.shared_code.Part.TheVariants.{Whole}
use Rattle.st_machine.specs.declared.flow.Asked.TheVariants as asked
use Rattle.st_machine.proofs.Outlines.{read_ran, method_ran_by}
use Rattle.st_machine.proofs.PartRuns.{part_runs}
use Rattle.st_machine.proofs.Sent.{pushed_led, stopped}
use Rattle.st_machine.proofs.Standing.{Standing, stands_first, stands_next, stands_stop}

-- What holds of each instruction that puts such a value holds of one that does.
by_put : (P : Instruction → Type 0) → P PushSelf → P PushNil → P PushTrue → P PushFalse
    → ((answer : Value) → P (PushLit answer)) → ((name : List ℕ) → P (PushName name))
    → (one : Instruction) → IsPut one → P one
by_put P self nil on_true on_false lit name PushSelf is = self
by_put P self nil on_true on_false lit name PushNil is = nil
by_put P self nil on_true on_false lit name PushTrue is = on_true
by_put P self nil on_true on_false lit name PushFalse is = on_false
by_put P self nil on_true on_false lit name (PushLit answer) is = lit answer
by_put P self nil on_true on_false lit name (PushName text) is = name text
by_put P self nil on_true on_false lit name (MakeLit tree) is = absurd is
by_put P self nil on_true on_false lit name (PushLocal depth index) is = absurd is
by_put P self nil on_true on_false lit name (StoreLocal depth index) is = absurd is
by_put P self nil on_true on_false lit name (StoreName text) is = absurd is
by_put P self nil on_true on_false lit name Pop is = absurd is
by_put P self nil on_true on_false lit name Dup is = absurd is
by_put P self nil on_true on_false lit name (Send selector count) is = absurd is
by_put P self nil on_true on_false lit name (SuperSend selector count) is = absurd is
by_put P self nil on_true on_false lit name (PushBlock number) is = absurd is
by_put P self nil on_true on_false lit name ReturnMethod is = absurd is
by_put P self nil on_true on_false lit name ReturnHome is = absurd is
by_put P self nil on_true on_false lit name ReturnBlock is = absurd is
by_put P self nil on_true on_false lit name (Jump ahead) is = absurd is
by_put P self nil on_true on_false lit name (JumpBack back) is = absurd is
by_put P self nil on_true on_false lit name (JumpTrue ahead) is = absurd is
by_put P self nil on_true on_false lit name (JumpFalse ahead) is = absurd is
by_put P self nil on_true on_false lit name TakeUnit is = absurd is
by_put P self nil on_true on_false lit name (Enter count) is = absurd is
by_put P self nil on_true on_false lit name Leave is = absurd is
by_put P self nil on_true on_false lit name LoopStart is = absurd is
by_put P self nil on_true on_false lit name (LoopNext ahead) is = absurd is
by_put P self nil on_true on_false lit name (LoopStep back) is = absurd is

module _ (depth : ℕ) (table : List Piece) (frame : Frame) {before now : Seen} {local : Local MadeBlock} where
  -- The instruction put the value, or it stopped.
  put_led : (answer : Value) (one : Instruction) → IsPut one
      → Ran (put_value one frame) before local (Ok answer) now local
      → AskedBy (outside depth) table one 0 [] frame.scopes frame before local (Ok (asked.Goes 1)) (answer ∷ [])
      frame.scopes now local
  unfolding outside
  put_led answer one is =
      by_put (λ (at : Instruction). Ran (put_value at frame) before local (Ok answer) now local
      → AskedBy (outside depth) table at 0 [] frame.scopes frame before local (Ok (asked.Goes 1)) (answer ∷ [])
      frame.scopes now local)
      (λ ran. pushed_led (give frame.receiver) 0 1 [] (answer ∷ []) frame answer refl refl ran)
      (λ ran. pushed_led (give value.Nil) 0 1 [] (answer ∷ []) frame answer refl refl ran)
      (λ ran. pushed_led (give value.True) 0 1 [] (answer ∷ []) frame answer refl refl ran)
      (λ ran. pushed_led (give value.False) 0 1 [] (answer ∷ []) frame answer refl refl ran)
      (λ given ran. pushed_led (give given) 0 1 [] (answer ∷ []) frame answer refl refl ran)
      (λ name ran. pushed_led (read_out_of_scope name frame) 0 1 [] (answer ∷ []) frame answer refl refl ran)
      one is

  put_stops : (ended : Stop) (one : Instruction) → IsPut one
      → Ran (put_value one frame) before local (Err ended) now local
      → AskedBy (outside depth) table one 0 [] frame.scopes frame before local (Err ended) [] frame.scopes now local
  unfolding outside
  put_stops ended one is =
      by_put (λ (at : Instruction). Ran (put_value at frame) before local (Err ended) now local
      → AskedBy (outside depth) table at 0 [] frame.scopes frame before local (Err ended) [] frame.scopes now local)
      (λ ran. stopped (give frame.receiver) ended (λ next back given state. next 1 (given ∷ []) frame state) [] frame ran)
      (λ ran. stopped (give value.Nil) ended (λ next back given state. next 1 (given ∷ []) frame state) [] frame ran)
      (λ ran. stopped (give value.True) ended (λ next back given state. next 1 (given ∷ []) frame state) [] frame ran)
      (λ ran. stopped (give value.False) ended (λ next back given state. next 1 (given ∷ []) frame state) [] frame ran)
      (λ given ran. stopped (give given) ended (λ next back given state. next 1 (given ∷ []) frame state) [] frame ran)
      (λ name ran. stopped (read_out_of_scope name frame) ended (λ next back given state. next 1 (given ∷ []) frame state)
      [] frame ran)
      one is

-- how the code of such a method ends, where this was put
abbrev quick_end : ℕ → Result Value Stop → Result Value Stop
quick_end home (Ok answer) = Err (stop.Returns answer home)
quick_end home (Err ended) = Err ended

module _ (depth : ℕ) (tree : Program) (one : Instruction) (quick : IsQuick tree one)
    (named : tree.selector ≡ Some (selector_of tree)) where
  module _ (frame : Frame) {before : Seen} {local : Local MadeBlock} where
    begins : Standing (outside depth) (table_of tree) (part_code tree Whole) (part_run (outside depth) tree Whole frame)
        before local 0 [] frame before local
    begins = stands_first (outside depth) (table_of tree) (part_code tree Whole) (part_run (outside depth) tree Whole)
        frame before local (part_runs (outside depth) before.setting tree Whole tt)

    code_ran : {now : Seen} (ended : Result Value Stop) → Ran (put_value one frame) before local ended now local
        → Ran (part_run (outside depth) tree Whole frame) before local (quick_end frame.home ended) now local
    code_ran {now} (Err ended) ran =
        stands_stop (outside depth) (table_of tree) (part_code tree Whole) (part_run (outside depth) tree Whole frame)
        before before now local local local 0 [] [] frame.scopes frame.scopes frame begins one quick.first ran.keeps ended
        (put_stops depth (table_of tree) frame ended one quick.puts ran)
    code_ran {now} (Ok answer) ran =
        stands_stop (outside depth) (table_of tree) (part_code tree Whole) (part_run (outside depth) tree Whole frame)
        before now now local local local 1 (answer ∷ []) [] frame.scopes frame.scopes frame
        (stands_next (outside depth) (table_of tree) (part_code tree Whole) (part_run (outside depth) tree Whole frame)
        before before now local local local 0 [] (answer ∷ []) frame.scopes frame.scopes frame begins one quick.first ran.keeps 1
        (put_led depth (table_of tree) frame answer one quick.puts ran))
        ReturnMethod quick.second (keeps_same now) (stop.Returns answer frame.home) (λ next back. refl)

    body_ran : {now : Seen} (ended : Result Value Stop) → Ran (put_value one frame) before local ended now local
        → Ran (method_body (outside depth) tree frame) before local (quick_end frame.home ended) now local
    body_ran ended ran = method_ran_by (outside depth) tree (selector_of tree) frame named (code_ran ended ran)

-- What a method began is given back at its end.
same_bool : (count : ℕ) → nat_eq count count ≡ true
same_bool count = grind arith

living_back : (living : List Bool) → take (length living) (set (living ++ true ∷ []) (length living) false) ≡ living
living_back [] = refl
living_back (first ∷ rest) = ap (λ (others : List Bool). first ∷ others) (living_back rest)

given_back : (values : List Value) (local : Local MadeBlock)
    → give_back (mark local) (end_living (length local.living) (begin_method values local)) ≡ local
given_back values local =
    ap (λ (same : Bool). give_back_where same (mark local) (end_living (length local.living) (begin_method values local)))
    (same_bool (length local.blocks))
    ∙ ap₂ (λ (scopes : List (List Value)) (living : List Bool).
    record { scopes = scopes; blocks = local.blocks; living = living })
    (take_at local.scopes (values ∷ []) (length local.scopes) refl) (living_back local.living)

-- How a method ends to which this returns.
module _ (values : List Value) (seen : Seen) (local : Local MadeBlock) where
  abbrev home : ℕ
  home = length local.living

  ends_so : (end : Ending Value) (result : Result Value Stop)
      → Ran (ending_at_home home end) seen local result seen local
      → Ran (leave_method (mark local) end) seen (begin_method values local) result seen local
  ends_so end result ran =
      let Left : Local MadeBlock → Type 0 = λ one. Ran (ending_at_home home end) seen one result seen local in
      ran_seeing (λ budget outer. and_then (become (give_back (mark local) (end_living home outer)))
      (λ left. ending_at_home home end))
      (ran_then (λ left. ending_at_home home end)
      (ran_become seen (begin_method values local) (give_back (mark local) (end_living home (begin_method values local))))
      (subst Left (sym (given_back values local)) ran))

  home_is : (same : Bool) (answer : Value) (number : ℕ)
      → Ran (choose same (give answer) (return_to answer number)) seen local
      (cond same (Ok answer) (Err (stop.Returns answer number))) seen local
  home_is true answer number = ran_give answer seen local
  home_is false answer number = ran_return answer number seen local

  same_home : (same : Bool) (answer : Value) → same ≡ true
      → Ran (choose same (give answer) (return_to answer home)) seen local (Ok answer) seen local
  same_home true answer is = ran_give answer seen local
  same_home false answer is = absurd (false≢true is)

  left_so : (ended : Result Value Stop)
      → LeftSo (leave_method (mark local)) (quick_end home ended) seen (begin_method values local) (at_home home ended) local
  left_so (Ok answer) = ends_so (returns answer home) (Ok answer) (same_home (nat_eq home home) answer (same_bool home))
  left_so (Err (stop.Fails fault)) = ends_so (fails fault) (Err (stop.Fails fault)) (ran_fail fault seen local)
  left_so (Err (stop.Returns answer number)) =
      ends_so (returns answer number) (at_home home (Err (stop.Returns answer number)))
      (home_is (nat_eq number home) answer number)
  left_so (Err stop.NoMemory) = refl

-- What is put is the same in two frames of one method.
put_ran : (first second : Frame)
    → first.receiver ≡ second.receiver → first.holder ≡ second.holder → first.class_side ≡ second.class_side
    → {before now : Seen} {local : Local MadeBlock} {ended : Result Value Stop} (one : Instruction) → IsPut one
    → Ran (put_value one first) before local ended now local → Ran (put_value one second) before local ended now local
put_ran first second same_receiver same_holder same_side {before} {now} {local} {ended} one is =
    by_put (λ (at : Instruction). Ran (put_value at first) before local ended now local
    → Ran (put_value at second) before local ended now local)
    (λ ran. subst (λ (self : Value). Ran (give self) before local ended now local) same_receiver ran)
    (λ ran. ran) (λ ran. ran) (λ ran. ran) (λ given ran. ran)
    (λ name ran. read_ran first second same_receiver same_holder same_side name ran)
    one is

-- The whole activation.
pub quick_ran : (depth : ℕ) (tree : Program) (one : Instruction) → IsQuick tree one → tree.selector ≡ Some (selector_of tree)
    → (holder : ℕ) (class_side : Bool) (receiver : Value) (arguments : List Value) {before now : Seen}
    (local : Local MadeBlock) (ended : Result Value Stop)
    → Does (put_value one (bare_frame receiver holder class_side)) before ended now
    → Ran (activation (method_body (outside depth) tree) (length tree.temps) holder class_side receiver arguments) before local
    (at_home (length local.living) ended) now local
quick_ran depth tree one quick named holder class_side receiver arguments {before} {now} local ended does =
    let values = arguments ++ replicate (length tree.temps) value.Nil in
    let begun = begin_method values local in
    let frame = method_frame holder class_side receiver local in
    activation_ran (method_body (outside depth) tree) (length tree.temps) holder class_side receiver arguments
    (quick_end (length local.living) ended) (mark local) receiver frame values (length tree.temps)
    refl refl refl refl refl refl
    (body_ran depth tree one quick named frame ended
    (put_ran (bare_frame receiver holder class_side) frame refl refl refl one quick.puts
    (does_ran does begun)))
    (left_so values now local ended)

-- What a name out of scope stands for, in any frame of the method.
pub name_put : (one : Instruction) (name : List ℕ) (first second : Frame) → one ≡ PushName name
    → first.receiver ≡ second.receiver → first.holder ≡ second.holder → first.class_side ≡ second.class_side
    → {before now : Seen} {ended : Result Value Stop} → Does (read_out_of_scope name first) before ended now
    → Does (put_value one second) before ended now
name_put one name first second is same_receiver same_holder same_side {before} {now} {ended} does =
    subst (λ (at : Instruction). Does (put_value at second) before ended now) (sym is) (record {
      keeps = does.keeps;
      ends = λ local. (read_ran first second same_receiver same_holder same_side name (does_ran does local)).ends;
    })

-- The answer of a method that is called, whose receiver stands on the stack.
pub quick_answered : (depth : ℕ) (tree : Program) (one : Instruction) → IsQuick tree one
    → tree.selector ≡ Some (selector_of tree) → (holder : ℕ) (class_side : Bool) (own : List Value) (count : ℕ)
    (copy : Value) → count < length own → Some copy ≡ slice_get own count → (arguments : List Value) {before now : Seen}
    (local : Local MadeBlock) (here : Mark) → here ≡ mark local → (ended result : Result Value Stop)
    → result ≡ at_home here.living ended → Does (put_value one (bare_frame copy holder class_side)) before ended now
    → Ran (activation (method_body (outside depth) tree) (length tree.temps) holder class_side (get_or own count value.Nil)
    arguments) before local result now local
quick_answered depth tree one quick named holder class_side own count copy within there arguments {before} {now} local here
    is_here ended result is does =
    let receiver : copy ≡ get_or own count value.Nil =
    same_Some copy (get_or own count value.Nil) (there ∙ slice_get-get_or own count value.Nil within) in
    let AtReceiver : Value → Type 0 = λ at. Ran (activation (method_body (outside depth) tree) (length tree.temps) holder
    class_side at arguments) before local result now local in
    let AtResult : Result Value Stop → Type 0 = λ at. Ran (activation (method_body (outside depth) tree) (length tree.temps)
    holder class_side copy arguments) before local at now local in
    let home : at_home (length local.living) ended ≡ result =
    ap (λ (at : Mark). at_home at.living ended) (sym is_here) ∙ sym is in
    subst AtReceiver receiver
    (subst AtResult home (quick_ran depth tree one quick named holder class_side copy arguments local ended does))
