use Rattle.std.proofs.Common.{sym, subst}
use Rattle.running_objects.specs.gem_image.Image.{contents_of}
use Rattle.gem_language.specs.LookUp.{Start}
use Rattle.running_objects.specs.Seen.{Seen}
use Rattle.look_up_cache.specs.Calm.{Begins}
use Rattle.look_up_cache.proofs.AfterReads.{reached_begins}
use Rattle.look_up_cache.proofs.finding.remember_object_read.Goals as goal

pub returns-in-Some : goal.returns-in-Some
returns-in-Some g c before reached all =
    let seen : Seen = g.O.Objects.seen c.args.objects.now in
    c.remember_object.ensures seen
    (subst (λ (start : Start). Begins c.args.name start seen.setting seen.world) (sym c.start_by-start.ensures)
    (reached_begins c.args.name before seen reached (contents_of c.in-Some.object.now) (sym c.in-Some.ensures))) all
