-- For `using`.
use Rattle.running_objects.proofs.Running.{ran_give, ran_fail, ran_return, ran_then, ran_stop}

pub ruleset runs = (ran_then, ran_stop, ran_give, ran_fail, ran_return)
