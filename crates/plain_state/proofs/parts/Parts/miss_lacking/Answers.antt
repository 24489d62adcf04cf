use Rattle.std.proofs.Common.{◌∙◌, map}
use Rattle.std.proofs.lemmas.Result.{on_ok_weaker}
use Rattle.gem_image.specs.Image.{contents_of}
use Rattle.object_programs.specs.Atom.{asked_by_all}
use Rattle.object_programs.specs.Fixed.{fixed_by}
use Rattle.object_programs.specs.Guard.{Parts}
use Rattle.object_guard.specs.Parts.{with_objects}
use Rattle.plain_state.proofs.Replaced.{seen_named, missed_is}
use Rattle.plain_state.proofs.parts.Parts.miss_lacking.Goals as goal

pub missing_names-requires-clause-there : goal.missing_names-requires-clause-there
missing_names-requires-clause-there c = seen_named c.args.self.now.seen c.requires.sound

pub returns-clause-lacked : goal.returns-clause-lacked
returns-clause-lacked c =
    let parts : Parts = with_objects c.args.first c.args.objects.now
    (fixed_by c.args.self.now.seen.setting c.args.self.now.seen.world) in
    on_ok_weaker c.miss_all.result (λ is. is
    ∙ missed_is parts (asked_by_all parts (map contents_of c.args.objects.now)) c.deref.result.now c.args.self.now.seen
    (c.deref.ensures.value ∙ c.in_ok-missing.ensures)) c.miss_all.ensures.missed
