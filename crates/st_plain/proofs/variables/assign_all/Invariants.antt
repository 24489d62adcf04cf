use Rattle.std.proofs.Common.{length}
use Rattle.gem_language.specs.Sends.{outside}
use Rattle.tree_meaning.specs.Meaning.{assign_all}
use Rattle.running_objects.specs.Ran.{Leads}
use Rattle.st_plain.proofs.variables.assign_all.Given as goal

-- the assignments that are left come to what all of them come to from the start
abbrev pub invariant-loop-last : goal.invariant-loop-last
invariant-loop-last g l =
    Leads (assign_all (outside l.depth) l.names l.place l.frame l.fn.value) (g.O.Objects.seen l.fn.objects) l.fn.locals
    (assign_all (outside l.depth) l.rest l.place l.frame l.value) (g.O.Objects.seen l.objects) l.locals

abbrev pub decreases-loop-last : goal.decreases-loop-last
decreases-loop-last g l = length l.rest
