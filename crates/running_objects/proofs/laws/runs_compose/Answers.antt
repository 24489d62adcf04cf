use Rattle.object_programs.specs.Steps.{steps_program}
use Rattle.running_objects.proofs.Running.{keeps_perform, acted_ran, ran_then, ran_stop}
use Rattle.running_objects.proofs.laws.runs_compose.Goals as goal

pub returns : goal.returns
returns c = record {
  in_turn = λ step rest before between after local middle later result first second.
      ran_then (λ done. steps_program rest) first second;
  stops = λ step rest before after local later ended first. ran_stop (λ done. steps_program rest) first;
  atom = λ before after local result acted. acted_ran acted local;
  keeps = λ steps before after local later end same ends.
      keeps_perform (steps_program steps) before after local later end same ends;
}
