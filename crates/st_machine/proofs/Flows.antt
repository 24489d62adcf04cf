-- What was asked, as what an instruction leads to.
use Rattle.std.proofs.Common.{sym, subst, ℕ, List, Result, Ok, Err, IfOk}
use Rattle.gem_object.specs.declared.value.Value.{Value}
use Rattle.tree_meaning.specs.object_programs.Run.{State}
use Rattle.tree_meaning.specs.Place.{Frame, MadeBlock}
use Rattle.running_objects.specs.declared.stop.Stop.{Stop}
use Rattle.st_compiler.specs.Machine.{CodeEnd, Next}
use Rattle.st_machine.specs.Led.{StopsTo, AskedTo, IsAhead, LedTo, IsForward, FlowOf}
use Rattle.st_machine.specs.declared.flow.Asked.{Asked}
use Rattle.st_machine.specs.declared.flow.Asked.TheVariants as asked
use Rattle.st_machine.specs.declared.flow.Flow.{Flow}

pub flow_led : (end : Next → Next → CodeEnd) (asked : Result Asked Stop) (led : Flow) (why : Stop) (stack : List Value)
    (frame : Frame) (state : State MadeBlock) → FlowOf asked led why → AskedTo end asked stack frame state
    → LedTo end led why stack frame state
flow_led end (Ok (asked.Goes place)) led why stack frame state is to =
    let At : Flow → Type 0 = λ one. LedTo end one why stack frame state in subst At (sym is) to
flow_led end (Ok asked.Stuck) led why stack frame state is to =
    let At : Flow → Type 0 = λ one. LedTo end one why stack frame state in subst At (sym is) to
flow_led end (Err stopped) led why stack frame state (is, same) to =
    let At : Flow → Type 0 = λ one. LedTo end one why stack frame state in
    subst At (sym is) (subst (λ (one : Stop). StopsTo end one state) (sym same) to)

pub flow_forward : (place : ℕ) (asked : Result Asked Stop) (led : Flow) (why : Stop) → FlowOf asked led why
    → IfOk asked (IsAhead place) → IsForward place led
flow_forward place (Ok (asked.Goes next)) led why is ahead = subst (IsForward place) (sym is) ahead
flow_forward place (Ok asked.Stuck) led why is ahead = subst (IsForward place) (sym is) tt
flow_forward place (Err stopped) led why (is, same) ahead = subst (IsForward place) (sym is) tt
