use Rattle.gem_session.proofs.session.start_view.Goals as goal

pub start-requires : goal.start-requires
start-requires c =
    c.begins_on_sound_images.ensures.image c.args.standing.image c.args.user c.args.serial c.args.next
    (record { named = c.invariant.ensures.named; spelled = c.invariant.ensures.spelled }) c.requires
