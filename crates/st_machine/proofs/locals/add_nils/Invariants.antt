use Rattle.std.proofs.Common.{◌≡◌}
use Rattle.st_machine.specs.Variables.{more_nils}
use Rattle.st_machine.proofs.locals.add_nils.Given as goal

abbrev pub invariant-loop-nil : goal.invariant-loop-nil
invariant-loop-nil l = l.scopes ≡ more_nils l._nil l.initial.scopes
