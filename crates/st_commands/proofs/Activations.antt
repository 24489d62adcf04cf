-- Activations of methods and of made blocks.
use Rattle.std.proofs.Common.{◌≡◌, subst, ℕ, suc, ◌-◌, ◌<◌, ◌++◌, List, Bool, replicate, length, Result, arith}
use Rattle.st_tree.specs.Trees.{Program}
use Rattle.gem_object.specs.declared.value.Value.{Value}
use Rattle.gem_object.specs.declared.value.Value.TheVariants.{Nil}
use Rattle.object_programs.specs.Local.{Local}
use Rattle.object_programs.specs.Run.{become, and_then, ending}
use Rattle.running_objects.specs.Seen.{Seen}
use Rattle.running_objects.specs.Ran.{Ran}
use Rattle.running_objects.specs.declared.stop.Stop.{Stop}
use Rattle.running_objects.proofs.Running.{ran_become, ran_seeing, ran_then}
use Rattle.gem_language.specs.tree_meaning.Place.{Frame, MadeBlock}
use Rattle.gem_language.specs.tree_meaning.Operands.{ValueRun}
use Rattle.gem_language.specs.tree_meaning.Scopes.{mark, with_scope, open_scope, begin_method, leave_method, leave_block}
use Rattle.gem_language.specs.tree_meaning.Bodies.{method_body, block_body, temps_count}
use Rattle.gem_language.specs.tree_meaning.Calls.{method_frame, activation, evaluation}
use Rattle.gem_language.specs.tree_meaning.declared.place.Mark.{Mark}
use Rattle.gem_language.specs.Sends.{outside, callee}
use Rattle.st_commands.specs.Leaving.{LeftSo}
use Rattle.st_commands.proofs.Endings.{ending_ran}

-- The variables of a method or a block: the arguments, and so many temporaries.
variables_are : (arguments values : List Value) (count temps : ℕ) → values ≡ arguments ++ replicate count Nil → count ≡ temps
    → values ≡ arguments ++ replicate temps Nil
variables_are arguments values count temps is same =
    let At : ℕ → Type 0 = λ one. values ≡ arguments ++ replicate one Nil in subst At same is

-- An activation ran whose body ran in its frame, with its variables, and was then left.
pub activation_ran : (body : Frame → ValueRun) (temps holder : ℕ) (class_side : Bool) (receiver : Value) (arguments : List Value)
    {before between : Seen} {local begun middle later : Local MadeBlock} (ended : Result Value Stop) {result : Result Value Stop}
    (here : Mark) (copy : Value) (frame : Frame) (values : List Value) (count : ℕ)
    → here ≡ mark local → copy ≡ receiver → frame ≡ method_frame holder class_side copy local
    → values ≡ arguments ++ replicate count Nil → count ≡ temps → begun ≡ begin_method values local
    → Ran (body frame) before begun ended between middle → LeftSo (leave_method here) ended between middle result later
    → Ran (activation body temps holder class_side receiver arguments) before local result between later
unfolding activation
activation_ran body temps holder class_side receiver arguments {before} {between} {local} {begun} {middle} {later} ended {result} here copy
    frame values count is_mark is_copy is_frame are_values is_count is_begun ran left =
    let AtCopy : Value → Type 0 = λ one. frame ≡ method_frame holder class_side one local in
    let AtValues : List Value → Type 0 = λ one. begun ≡ begin_method one local in
    let AtMark : Mark → Type 0 = λ one. LeftSo (leave_method one) ended between middle result later in
    let AtFrame : Frame → Type 0 = λ one. Ran (body one) before begun ended between middle in
    let AtBegun : Local MadeBlock → Type 0 =
    λ one. Ran (body (method_frame holder class_side receiver local)) before one ended between middle in
    ran_seeing (λ budget outer.
    and_then (become (begin_method (arguments ++ replicate temps Nil) outer)) (λ done.
    ending (body (method_frame holder class_side receiver outer)) (λ end. leave_method (mark outer) end)))
    (ran_then (λ done. ending (body (method_frame holder class_side receiver local)) (λ end. leave_method (mark local) end))
    (ran_become before local (begin_method (arguments ++ replicate temps Nil) local))
    (ending_ran (λ end. leave_method (mark local) end) ended
    (subst AtBegun (subst AtValues (variables_are arguments values count temps are_values is_count) is_begun)
    (subst AtFrame (subst AtCopy is_copy is_frame) ran)) (subst AtMark is_mark left)))

-- The same of the evaluation of a made block.
pub evaluation_ran : (body : Frame → ValueRun) (temps : ℕ) (frame : Frame) (arguments : List Value)
    {before between : Seen} {local opened middle later : Local MadeBlock} (ended : Result Value Stop) {result : Result Value Stop}
    (here : Mark) (inner : Frame) (values : List Value) (count : ℕ) → here ≡ mark local → inner ≡ with_scope here frame
    → values ≡ arguments ++ replicate count Nil → count ≡ temps → opened ≡ open_scope values local
    → Ran (body inner) before opened ended between middle → LeftSo (leave_block here) ended between middle result later
    → Ran (evaluation body temps frame arguments) before local result between later
unfolding evaluation
evaluation_ran body temps frame arguments {before} {between} {local} {opened} {middle} {later} ended {result} here inner values count
    is_mark is_inner are_values is_count is_opened ran left =
    let AtValues : List Value → Type 0 = λ one. opened ≡ open_scope one local in
    let AtMark : Mark → Type 0 = λ one. LeftSo (leave_block one) ended between middle result later in
    let AtInner : Frame → Type 0 = λ one. Ran (body one) before opened ended between middle in
    let InMark : Mark → Type 0 = λ one. Ran (body (with_scope one frame)) before opened ended between middle in
    let AtOpened : Local MadeBlock → Type 0 = λ one. Ran (body (with_scope (mark local) frame)) before one ended between middle in
    ran_seeing (λ budget outer.
    and_then (become (open_scope (arguments ++ replicate temps Nil) outer)) (λ done.
    ending (body (with_scope (mark outer) frame)) (λ end. leave_block (mark outer) end)))
    (ran_then (λ done. ending (body (with_scope (mark local) frame)) (λ end. leave_block (mark local) end))
    (ran_become before local (open_scope (arguments ++ replicate temps Nil) local))
    (ending_ran (λ end. leave_block (mark local) end) ended
    (subst AtOpened (subst AtValues (variables_are arguments values count temps are_values is_count) is_opened)
    (subst InMark is_mark (subst AtInner is_inner ran))) (subst AtMark is_mark left)))

-- where an activation more may begin
depth_less : (depth : ℕ) → 0 < depth → suc (depth - 1) ≡ depth
depth_less depth some = omega arith

-- A method that is called is an activation, in which one activation less may begin.
pub method_ran : (depth : ℕ) → 0 < depth → (tree : Program) (holder : ℕ) (class_side : Bool) (receiver : Value) (arguments : List Value)
    {before after : Seen} {local later : Local MadeBlock} {result : Result Value Stop}
    → Ran (activation (method_body (outside (depth - 1)) tree) (length tree.temps) holder class_side receiver arguments)
    before local result after later
    → Ran ((callee depth).method tree holder class_side receiver arguments) before local result after later
unfolding outside
method_ran depth some tree holder class_side receiver arguments {before} {after} {local} {later} {result} ran =
    let At : ℕ → Type 0 = λ number. Ran ((callee number).method tree holder class_side receiver arguments) before local result after later in
    subst At (depth_less depth some) ran

-- A made block that is called is an evaluation, in which one activation less may begin.
pub made_ran : (depth : ℕ) → 0 < depth → (made : MadeBlock) (arguments : List Value)
    {before after : Seen} {local later : Local MadeBlock} {result : Result Value Stop}
    → Ran (evaluation (block_body (outside (depth - 1)) made.tree made.place) (temps_count made.tree) made.frame arguments)
    before local result after later
    → Ran ((callee depth).block made arguments) before local result after later
unfolding outside
made_ran depth some made arguments {before} {after} {local} {later} {result} ran =
    let At : ℕ → Type 0 = λ number. Ran ((callee number).block made arguments) before local result after later in
    subst At (depth_less depth some) ran
