-- What a call or a part left on the stack, and how an activation ends by it.
use Rattle.std.proofs.Common.{◌≡◌, ◌∙◌, sym, ap, subst, ◌<◌, List, [], ◌∷◌, length, drop, set, Result, Ok, Err, arith}
use Rattle.gem_object.specs.declared.value.Value.{Value}
use Rattle.tree_meaning.specs.object_programs.Local.{Local}
use Rattle.tree_meaning.specs.object_programs.Run.{Ending, fails, returns, become, and_then}
use Rattle.tree_meaning.specs.Operands.{ValueRun}
use Rattle.tree_meaning.specs.Place.{MadeBlock}
use Rattle.tree_meaning.specs.Scopes.{ending_at_home, end_living, give_back, leave_method}
use Rattle.tree_meaning.specs.declared.place.Mark.{Mark}
use Rattle.running_objects.specs.Seen.{Seen}
use Rattle.running_objects.specs.Ran.{Ran}
use Rattle.running_objects.specs.declared.stop.Stop.{Stop}
use Rattle.running_objects.specs.declared.stop.Stop.TheVariants as stop
use Rattle.running_objects.proofs.Running.{ran_become, ran_seeing, ran_then}
use Rattle.st_commands.specs.Leaving.{LeftSo}
use Rattle.st_machine.specs.Called.{top, IsAbove, LeftAs, AnsweredAs, IfAnswers}
use Rattle.st_machine.specs.declared.ended.Called.{Called}
use Rattle.st_machine.specs.declared.ended.Called.TheVariants as called
use Rattle.st_machine.specs.declared.ended.Ended.{Ended}
use Rattle.st_machine.specs.declared.ended.Ended.TheVariants as ended

pub above : {answer : Value} {below stack : List Value} → stack ≡ answer ∷ below → IsAbove below stack
above {answer} {below} {stack} is = is ∙ ap (λ (value : Value). value ∷ below) (sym (ap top is))

pub ran_on_top : {program : ValueRun} {before after : Seen} {local later : Local MadeBlock} {answer : Value}
    {below stack : List Value} → stack ≡ answer ∷ below → Ran program before local (Ok answer) after later
    → Ran program before local (Ok (top stack)) after later
ran_on_top {program} {before} {after} {local} {later} is ran =
    let At : Value → Type 0 = λ value. Ran program before local (Ok value) after later in
    subst At (sym (ap top is)) ran

-- the same of one that was taken from there
pub ran_taken : {program : ValueRun} {before after : Seen} {local later : Local MadeBlock} {answer : Value}
    {below stack : List Value} → stack ≡ answer ∷ below → Ran program before local (Ok (top stack)) after later
    → Ran program before local (Ok answer) after later
ran_taken {program} {before} {after} {local} {later} is ran =
    let At : Value → Type 0 = λ value. Ran program before local (Ok value) after later in
    subst At (ap top is) ran

-- what stands above these stands above the same in other words
pub above_same : {below other stack : List Value} → below ≡ other → IsAbove below stack → IsAbove other stack
above_same {below} {other} {stack} same is =
    is ∙ ap (λ (items : List Value). top stack ∷ items) same

pub answers_same : (result : Called) (stack : List Value) {below other : List Value} → below ≡ other
    → IfAnswers result (IsAbove below stack) → IfAnswers result (IsAbove other stack)
answers_same called.Answers stack same is = above_same same is
answers_same called.Stopped stack same is = tt

-- A value was put in place of the uppermost one.
pub put_on_top : (own left : List Value) (value : Value) → 0 < length own → left ≡ set own 0 value
    → left ≡ value ∷ drop 1 own
put_on_top [] left value some is = absurd (omega (arith, some))
put_on_top (first ∷ rest) left value some is = is

-- After a part the answer stands above what stood before it.
pub answers_above : (ended : Ended) (result : Called) (before middle after : List Value) → LeftAs ended before middle
    → IfAnswers result (AnsweredAs ended middle after) → IfAnswers result (IsAbove before after)
answers_above ended.Answers called.Answers before middle after is same = subst (IsAbove before) (sym same) is
answers_above ended.Returns called.Answers before middle after is same = subst (IsAbove before) (sym same) is
answers_above ended.Stopped called.Answers before middle after is same = above_same is same
answers_above ended called.Stopped before middle after is same = tt

-- A method's end, once its activation lives no more.
left_ran : (mark : Mark) (end : Ending Value) (seen : Seen) (local later : Local MadeBlock) (result : Result Value Stop)
    → later ≡ give_back mark (end_living mark.living local)
    → Ran (ending_at_home mark.living end) seen later result seen later
    → Ran (leave_method mark end) seen local result seen later
left_ran mark end seen local later result is ran =
    let At : Local MadeBlock → Type 0 = λ one. Ran (ending_at_home mark.living end) seen one result seen later in
    ran_seeing (λ budget outer. and_then (become (give_back mark (end_living mark.living outer)))
    (λ left. ending_at_home mark.living end))
    (ran_then (λ left. ending_at_home mark.living end)
    (ran_become seen local (give_back mark (end_living mark.living local))) (subst At is ran))

pub left_stopped : (mark : Mark) (why : Stop) (seen : Seen) (local later : Local MadeBlock) (result : Result Value Stop)
    → later ≡ give_back mark (end_living mark.living local)
    → LeftSo (ending_at_home mark.living) (Err why) seen later result later
    → LeftSo (leave_method mark) (Err why) seen local result later
left_stopped mark (stop.Fails fault) seen local later result is left =
    left_ran mark (fails fault) seen local later result is left
left_stopped mark (stop.Returns answer home) seen local later result is left =
    left_ran mark (returns answer home) seen local later result is left
left_stopped mark stop.NoMemory seen local later result is left = left
