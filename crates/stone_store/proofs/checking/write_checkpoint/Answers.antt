use Rattle.std.proofs.Common.{refl}
use Rattle.gem_record.specs.Stored.{pages_counted}
use Rattle.stone_store.proofs.Checkpoints.{may_change, extent_leaves, log_rests, both_leave, is_emptied, emptied_reads}
use Rattle.stone_store.proofs.checking.write_checkpoint.Goals as goal

pub write_changed-requires-clause-may : goal.write_changed-requires-clause-may
write_changed-requires-clause-may g c tells =
    let rest = c.requires.rests tells in
    (rest.root, may_change (g.D.Disk.past c.args.disk.now) c.args.parts.now rest c.args.image.now c.args.number (c.requires.stands tells) c.args.changed.now c.requires.changed.are)

pub write_changed-requires-clause-low : goal.write_changed-requires-clause-low
write_changed-requires-clause-low g c = c.requires.changed.low

pub returns-in_err-write_changed-clause-any_moment :
    goal.returns-in_err-write_changed-clause-any_moment
returns-in_err-write_changed-clause-any_moment g c tells =
    let past = g.D.Disk.past c.args.disk.now in
    let rest = c.requires.rests tells in
    let stands = c.requires.stands tells in
    extent_leaves past c.args.parts.now rest c.args.image.now c.args.number stands (g.D.Disk.past c.write_changed.new.disk)
    (c.in_err-write_changed.ensures.any_moment rest.root tells
    (may_change past c.args.parts.now rest c.args.image.now c.args.number stands c.args.changed.now c.requires.changed.are))

pub restart_empty-requires : goal.restart_empty-requires
restart_empty-requires g c tells =
    let past = g.D.Disk.past c.args.disk.now in
    let mid = g.D.Disk.past c.write_changed.new.disk in
    let rest = c.requires.rests tells in
    let stands = c.requires.stands tells in
    let may = may_change past c.args.parts.now rest c.args.image.now c.args.number stands c.args.changed.now c.requires.changed.are in (
      rest.logged,
      log_rests past c.args.parts.now rest c.args.image.now c.args.number stands mid
          (c.in_ok-write_changed.ensures.any_moment rest.root tells may) c.write_changed.new.self
          (c.in_ok-write_changed.ensures.made rest.root tells may),
    )

pub returns-in-Ok-clause-any_moment : goal.returns-in-Ok-clause-any_moment
returns-in-Ok-clause-any_moment g c tells =
    let past = g.D.Disk.past c.args.disk.now in
    let mid = g.D.Disk.past c.write_changed.new.disk in
    let rest = c.requires.rests tells in
    let stands = c.requires.stands tells in
    let may = may_change past c.args.parts.now rest c.args.image.now c.args.number stands c.args.changed.now c.requires.changed.are in
    let only = c.in_ok-write_changed.ensures.any_moment rest.root tells may in
    let changed = c.in_ok-write_changed.ensures.made rest.root tells may in
    let log = log_rests past c.args.parts.now rest c.args.image.now c.args.number stands mid only c.write_changed.new.self changed in
    both_leave past c.args.parts.now rest c.args.image.now c.args.number stands mid only c.write_changed.new.self changed
    (g.D.Disk.past c.restart_empty.new.disk) (c.in-Ok.ensures.any_moment rest.logged tells log)

pub returns-in-Ok-clause-made : goal.returns-in-Ok-clause-made
unfolding pages_counted
returns-in-Ok-clause-made g c tells =
    let past = g.D.Disk.past c.args.disk.now in
    let mid = g.D.Disk.past c.write_changed.new.disk in
    let rest = c.requires.rests tells in
    let stands = c.requires.stands tells in
    let may = may_change past c.args.parts.now rest c.args.image.now c.args.number stands c.args.changed.now c.requires.changed.are in
    let only = c.in_ok-write_changed.ensures.any_moment rest.root tells may in
    let changed = c.in_ok-write_changed.ensures.made rest.root tells may in
    let log = log_rests past c.args.parts.now rest c.args.image.now c.args.number stands mid only c.write_changed.new.self changed in
    is_emptied past c.args.parts.now rest c.args.image.now c.args.number stands mid only c.write_changed.new.self changed
    (g.D.Disk.past c.restart_empty.new.disk)
    (record { log = c.restart_empty.new.self; pages = c.write_changed.new.self; root = c.args.parts.now.root })
    (c.in-Ok.ensures.any_moment rest.logged tells log) (c.in-Ok.ensures.extent tells)
    (c.in-Ok.ensures.emptied rest.logged tells log) refl
    (c.pages_are_those_of_the_image.ensures.changed mid c.write_changed.new.self c.args.image.now c.args.number changed)

pub returns-in-Ok-clause-reads : goal.returns-in-Ok-clause-reads
unfolding pages_counted
returns-in-Ok-clause-reads g c tells =
    let past = g.D.Disk.past c.args.disk.now in
    let mid = g.D.Disk.past c.write_changed.new.disk in
    let rest = c.requires.rests tells in
    let stands = c.requires.stands tells in
    let may = may_change past c.args.parts.now rest c.args.image.now c.args.number stands c.args.changed.now c.requires.changed.are in
    let only = c.in_ok-write_changed.ensures.any_moment rest.root tells may in
    let changed = c.in_ok-write_changed.ensures.made rest.root tells may in
    let log = log_rests past c.args.parts.now rest c.args.image.now c.args.number stands mid only c.write_changed.new.self changed in
    emptied_reads past c.args.parts.now rest c.args.image.now c.args.number stands mid only c.write_changed.new.self changed
    (g.D.Disk.past c.restart_empty.new.disk)
    (record { log = c.restart_empty.new.self; pages = c.write_changed.new.self; root = c.args.parts.now.root })
    (c.in-Ok.ensures.any_moment rest.logged tells log) (c.in-Ok.ensures.extent tells)
    (c.in-Ok.ensures.emptied rest.logged tells log) refl
    (c.pages_are_those_of_the_image.ensures.changed mid c.write_changed.new.self c.args.image.now c.args.number changed)

pub returns-in-Err-clause-any_moment : goal.returns-in-Err-clause-any_moment
returns-in-Err-clause-any_moment g c tells =
    let past = g.D.Disk.past c.args.disk.now in
    let mid = g.D.Disk.past c.write_changed.new.disk in
    let rest = c.requires.rests tells in
    let stands = c.requires.stands tells in
    let may = may_change past c.args.parts.now rest c.args.image.now c.args.number stands c.args.changed.now c.requires.changed.are in
    let only = c.in_ok-write_changed.ensures.any_moment rest.root tells may in
    let changed = c.in_ok-write_changed.ensures.made rest.root tells may in
    let log = log_rests past c.args.parts.now rest c.args.image.now c.args.number stands mid only c.write_changed.new.self changed in
    both_leave past c.args.parts.now rest c.args.image.now c.args.number stands mid only c.write_changed.new.self changed
    (g.D.Disk.past c.restart_empty.new.disk) (c.in-Err.ensures.any_moment rest.logged tells log)
