use Rattle.std.proofs.Common.{◌+◌, ◌<◌, ◌≤◌, length, Option, Some, Err, refl, sym, ap, subst, ◌∙◌, inl}
use Rattle.gem_disk.specs.Runs.{LeavesOnly}
use Rattle.gem_disk.proofs.Moments.{started}
use Rattle.gem_record.specs.declared.limits.TheConstants.{LOG_LIMIT}
use Rattle.gem_keeper.specs.Crashes.{StandsForEither}
use Rattle.stone_store.specs.declared.parts.Parts.{Parts}
use Rattle.stone_store.specs.Store.{found_of}
use Rattle.stone_store.specs.Resting.{stored_by}
use Rattle.stone_store.specs.Whole.{RestsBy}
use Rattle.stone_store.proofs.Rests.{left_here, may_append, append_leaves, append_rests, append_stands}
use Rattle.stone_store.proofs.Keeps.{may_or_full, ok_room, disk_room, full_over}
use Rattle.stone_store.proofs.adding.append_to.Goals as goal

pub append-requires : goal.append-requires
append-requires g c tells =
    let past = g.D.Disk.past c.args.disk.now in
    let rest = subst (RestsBy past) (sym c.in-Some.ensures.value) (c.requires.rests tells) in
    let given = c.requires.next tells in
    may_or_full past c.in-Some.kept rest given.0 given.1 given.2 c.args.body.now given.4 given.3

pub returns-in-Ok-clause-rests : goal.returns-in-Ok-clause-rests
returns-in-Ok-clause-rests g c tells =
    let past = g.D.Disk.past c.args.disk.now in
    let new = g.D.Disk.past c.append.new.disk in
    let kept = c.in-Some.kept in
    let rest = subst (RestsBy past) (sym c.in-Some.ensures.value) (c.requires.rests tells) in
    let given = c.requires.next tells in
    let short = ok_room c.in-Ok.field-0 kept.log (length c.args.body.now) c.in-Ok.ensures.full in
    let may = may_append past kept rest given.0 given.1 given.2 c.args.body.now given.4 given.3 short in
    append_rests past kept rest given.0 given.1 given.2 c.args.body.now given.4 given.3 short new
    (record { log = c.append.new.self; pages = kept.pages; root = kept.root })
    (c.in-Ok.ensures.any_moment rest.logged given.4.mode given.2 tells may) (c.in-Ok.ensures.extent tells)
    (c.in-Ok.ensures.acknowledged rest.logged given.4.mode given.2 tells may) refl refl

pub returns-in-Ok-clause-fits : goal.returns-in-Ok-clause-fits
returns-in-Ok-clause-fits g c =
    subst (λ (o : Option Parts). (stored_by o).log_length + length c.args.body.now ≤ LOG_LIMIT) c.in-Some.ensures.value
    (ok_room c.in-Ok.field-0 c.in-Some.kept.log (length c.args.body.now) c.in-Ok.ensures.full)

pub returns-in-Ok-clause-any_moment : goal.returns-in-Ok-clause-any_moment
returns-in-Ok-clause-any_moment g c image number effect tells stands next =
    let past = g.D.Disk.past c.args.disk.now in
    let kept = c.in-Some.kept in
    let rest = subst (RestsBy past) (sym c.in-Some.ensures.value) (c.requires.rests tells) in
    let short = ok_room c.in-Ok.field-0 kept.log (length c.args.body.now) c.in-Ok.ensures.full in
    append_leaves past kept rest image number effect c.args.body.now next stands short (g.D.Disk.past c.append.new.disk)
    (c.in-Ok.ensures.any_moment rest.logged next.mode effect tells
    (may_append past kept rest image number effect c.args.body.now next stands short))

pub returns-in-Ok-clause-acknowledged : goal.returns-in-Ok-clause-acknowledged
returns-in-Ok-clause-acknowledged g c image number effect tells stands next =
    let past = g.D.Disk.past c.args.disk.now in
    let kept = c.in-Some.kept in
    let rest = subst (RestsBy past) (sym c.in-Some.ensures.value) (c.requires.rests tells) in
    let short = ok_room c.in-Ok.field-0 kept.log (length c.args.body.now) c.in-Ok.ensures.full in
    let may = may_append past kept rest image number effect c.args.body.now next stands short in
    append_stands past kept rest image number effect c.args.body.now next stands short (g.D.Disk.past c.append.new.disk)
    (record { log = c.append.new.self; pages = kept.pages; root = kept.root })
    (c.in-Ok.ensures.any_moment rest.logged next.mode effect tells may) (c.in-Ok.ensures.extent tells)
    (c.in-Ok.ensures.acknowledged rest.logged next.mode effect tells may) refl refl

pub returns-in-Err-Disk-clause-fault : goal.returns-in-Err-Disk-clause-fault
returns-in-Err-Disk-clause-fault g c = (
  subst (λ (o : Option Parts). (stored_by o).log_length + length c.args.body.now ≤ LOG_LIMIT) c.in-Some.ensures.value
      (disk_room c.in-Err-Disk.field-0 c.in-Some.kept.log (length c.args.body.now) c.in-Err-Disk.field-0-is c.in-Err-Disk.ensures.full),
  c.in-Err-Disk.ensures.failed (ap (λ f. Err f) c.in-Err-Disk.field-0-is),
)

pub returns-in-Err-Disk-clause-any_moment : goal.returns-in-Err-Disk-clause-any_moment
returns-in-Err-Disk-clause-any_moment g c image number effect tells stands next =
    let past = g.D.Disk.past c.args.disk.now in
    let kept = c.in-Some.kept in
    let rest = subst (RestsBy past) (sym c.in-Some.ensures.value) (c.requires.rests tells) in
    let short = disk_room c.in-Err-Disk.field-0 kept.log (length c.args.body.now) c.in-Err-Disk.field-0-is c.in-Err-Disk.ensures.full in
    append_leaves past kept rest image number effect c.args.body.now next stands short (g.D.Disk.past c.append.new.disk)
    (c.in-Err-Disk.ensures.any_moment rest.logged next.mode effect tells
    (may_append past kept rest image number effect c.args.body.now next stands short))

pub returns-in-Err-Full-clause-fault : goal.returns-in-Err-Full-clause-fault
returns-in-Err-Full-clause-fault g c =
    let kept = c.in-Some.kept in
    let over = full_over c.in-Err-Full.field-0 c.in-Err-Full.length c.in-Err-Full.size kept.log (length c.args.body.now)
    c.in-Err-Full.field-0-is c.in-Err-Full.ensures.full in
    let log_length = ap (λ (o : Option Parts). (stored_by o).log_length) c.in-Some.ensures.value in (
      subst (λ n. LOG_LIMIT < n + length c.args.body.now) log_length over.0,
      over.1 ∙ log_length,
      over.2,
      (
        c.in-Err-Full.ensures.untouched c.in-Err-Full.length c.in-Err-Full.size (ap (λ f. Err f) c.in-Err-Full.field-0-is),
        ap (λ n. Some (record { log = n; pages = kept.pages; root = kept.root })) c.in-Err-Full.ensures.kept
            ∙ c.in-Some.ensures.value,
      ),
    )

pub returns-in-Err-Full-clause-any_moment : goal.returns-in-Err-Full-clause-any_moment
returns-in-Err-Full-clause-any_moment g c image number effect tells stands next =
    let past = g.D.Disk.past c.args.disk.now in
    let rest = subst (RestsBy past) (sym c.in-Some.ensures.value) (c.requires.rests tells) in
    let same = c.in-Err-Full.ensures.untouched c.in-Err-Full.length c.in-Err-Full.size (ap (λ f. Err f) c.in-Err-Full.field-0-is) in
    subst (λ d. LeavesOnly past (g.D.Disk.past d) (λ files. StandsForEither image number effect (found_of files))) (sym same)
    (started past (λ files. StandsForEither image number effect (found_of files))
    (left_here past c.in-Some.kept rest (StandsForEither image number effect) (inl stands)))
