-- A primitive that evaluates its receiver.
use Rattle.std.proofs.Common.{◌≡◌, ◌∙◌, sym, ap, subst, ℕ, ◌<◌, Bool, true, nat_eq, List, length, reverse, take, get_or, slice_get, Option, Some, Result, Ok, Err, arith}
use Rattle.std.proofs.lemmas.List.{length-reverse, length-take-le}
use Rattle.std.proofs.lemmas.Option.{same_Some, slice_get-get_or}
use Rattle.gem_object.specs.declared.value.Value.{Value}
use Rattle.gem_object.specs.declared.value.Value.TheVariants.{Nil}
use Rattle.gem_object.specs.declared.value.BlockRef.{BlockRef}
use Rattle.tree_meaning.specs.object_programs.Local.{Local}
use Rattle.tree_meaning.specs.object_programs.Run.{and_then}
use Rattle.tree_meaning.specs.object_programs.Programs.{check}
use Rattle.tree_meaning.specs.object_programs.declared.fault.Fault.TheVariants as fault
use Rattle.tree_meaning.specs.Bodies.{params_count}
use Rattle.tree_meaning.specs.Operands.{ValueRun}
use Rattle.tree_meaning.specs.Calls.{call_block, call_block_at}
use Rattle.tree_meaning.specs.Place.{MadeBlock}
use Rattle.prim_parts.specs.prim_rules.declared.answer.PrimitiveAnswer.{PrimitiveAnswer}
use Rattle.prim_parts.specs.prim_rules.declared.answer.PrimitiveAnswer.TheVariants.{Evaluates}
use Rattle.gem_language.specs.prim_rules.Rules.{rule_of}
use Rattle.gem_language.specs.Sends.{callee, primitive_value}
use Rattle.running_objects.specs.Seen.{Seen}
use Rattle.running_objects.specs.Ran.{Ran}
use Rattle.running_objects.specs.declared.stop.Stop.{Stop}
use Rattle.running_objects.proofs.Running.{ran_give, ran_seeing, ran_then, ran_stop}
use Rattle.prim_parts.specs.Does.{Computes}
use Rattle.prim_parts.proofs.Does.{does_compute, does_ran}

-- so many arguments stand on a stack
pub so_many : {A : Type 0} (own : List A) (count : ℕ) → count < length own → length (reverse (take count own)) ≡ count
so_many own count within = length-reverse (take count own) ∙ length-take-le count own (omega (arith, within))

-- Where the primitive evaluates its receiver with so many arguments, its call is that of the block.
pub called_ran : (depth number : ℕ) (own : List Value) (count : ℕ) → count < length own → (receiver : Value)
    → Some receiver ≡ slice_get own count → (block : BlockRef)
    → ((arguments : List Value) → length arguments ≡ count
    → Computes (rule_of number receiver arguments) (Ok (Evaluates block arguments)))
    → {before after : Seen} {local later : Local MadeBlock} {result : Result Value Stop}
    → Ran (call_block_at (callee depth).block block.number (reverse (take count own))) before local result after later
    → Ran (and_then (rule_of number (get_or own count Nil) (reverse (take count own)))
    (λ answer. primitive_value (callee depth) answer)) before local result after later
called_ran depth number own count within receiver there block evaluates {before} {after} {local} {later} {result} ran =
    let receiver_is : receiver ≡ get_or own count Nil =
    same_Some receiver (get_or own count Nil) (there ∙ slice_get-get_or own count Nil within) in
    let AtReceiver : Value → Type 0 = λ one. Computes (rule_of number one (reverse (take count own)))
    (Ok (Evaluates block (reverse (take count own)))) in
    ran_then (λ (answer : PrimitiveAnswer). primitive_value (callee depth) answer)
    (does_ran (does_compute before (subst AtReceiver receiver_is
    (evaluates (reverse (take count own)) (so_many own count within)))) local) ran

-- The primitive stopped.
pub primitive_stops : (depth number : ℕ) (own : List Value) (count : ℕ) → count < length own → (receiver : Value)
    → Some receiver ≡ slice_get own count → (arguments : List Value) → arguments ≡ reverse (take count own)
    → {before after : Seen} {local later : Local MadeBlock} {ended : Stop}
    → Ran (rule_of number receiver arguments) before local (Err ended) after later
    → Ran (and_then (rule_of number (get_or own count Nil) (reverse (take count own)))
    (λ answer. primitive_value (callee depth) answer)) before local (Err ended) after later
primitive_stops depth number own count within receiver there arguments are {before} {after} {local} {later} {ended} ran =
    let receiver_is : receiver ≡ get_or own count Nil =
    same_Some receiver (get_or own count Nil) (there ∙ slice_get-get_or own count Nil within) in
    let AtReceiver : Value → Type 0 = λ one. Ran (rule_of number one (reverse (take count own))) before local (Err ended) after later in
    let AtArguments : List Value → Type 0 = λ all. Ran (rule_of number receiver all) before local (Err ended) after later in
    ran_stop (λ (answer : PrimitiveAnswer). primitive_value (callee depth) answer)
    (subst AtReceiver receiver_is (subst AtArguments are ran))

-- The block of a number was called with so many arguments as it takes.
pub block_ran : (call : MadeBlock → List Value → ValueRun) (number : ℕ) (arguments : List Value)
    (there made : MadeBlock) {before after : Seen} {local later : Local MadeBlock} {result : Result Value Stop}
    → Some there ≡ slice_get local.blocks number → made ≡ there → (given : List Value) → given ≡ arguments
    → (takes : Bool) → takes ≡ nat_eq (length given) (params_count made.tree) → takes ≡ true
    → Ran (call made arguments) before local result after later
    → Ran (call_block_at call number arguments) before local result after later
unfolding call_block_at
block_ran call number arguments there made {before} {after} {local} {later} {result} is_there is_made given are takes
    tested passed ran =
    let AtBlock : Option MadeBlock → Type 0 =
    λ one. Ran (call_block call one arguments) before local result after later in
    let AtMade : MadeBlock → Type 0 =
    λ one. Ran (call_block call (Some one) arguments) before local result after later in
    let AtTest : Bool → Type 0 =
    λ test. Ran (and_then (check fault.BlockArgumentCount test) (λ checked. call made arguments))
    before local result after later in
    let fits : true ≡ nat_eq (length arguments) (params_count made.tree) =
    sym passed ∙ (tested ∙ ap (λ (items : List Value). nat_eq (length items) (params_count made.tree)) are) in
    ran_seeing (λ budget outer. call_block call (slice_get outer.blocks number) arguments)
    (subst AtBlock is_there (subst AtMade is_made (subst AtTest fits
    (ran_then (λ checked. call made arguments) (ran_give tt before local) ran))))
