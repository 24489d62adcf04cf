use Rattle.std.proofs.Common.{◌∙◌, refl, sym, ap, subst}
use Rattle.session_view.specs.declared.view.View.{View}
use Rattle.running_objects.specs.Seen.{IsSoundState}
use Rattle.gem_session.proofs.Beginnings.{sound_for_next, begins_next}
use Rattle.gem_session.proofs.CutShort.{gave_up}
use Rattle.gem_session.proofs.session.Session.begin_next.Goals as goal

pub start_view-requires : goal.start_view-requires
start_view-requires g c =
    rw (c.user-user.ensures, c.next_counter-next.ensures)
    (sound_for_next c.images_are_sound.ensures.stays (g.P.StonePort.state c.args.port.now) (g.P.StonePort.state c.begin.new.self) c.args.number c.args.self.now c.in_ok-begun.begun.image c.in_ok-begun.begun.number
    c.requires.ended c.begin.ensures.port c.in_ok-begun.ensures.begun)

pub returns-clause-begins : goal.returns-clause-begins
returns-clause-begins g c =
    begins_next c.images_are_sound.ensures.stays (g.P.StonePort.state c.args.port.now) (g.P.StonePort.state c.begin.new.self) c.args.number c.args.self.now _ c.in_ok-begun.begun.image c.in_ok-begun.begun.number
    c.requires.ended c.begin.ensures.port c.in_ok-begun.ensures.begun
    (subst (λ (view : View). IsSoundState view.state.seen) (sym c.go_on.ensures) c.in_ok-started.ensures.sound)
    (ap (λ (view : View). view.state.seen) c.go_on.ensures
    ∙ (rw (c.user-user.ensures, c.next_counter-next.ensures) at c.in_ok-started.ensures.seen)) c.in_ok-image.ensures refl

pub returns-in_err-begun-clause-starved : goal.returns-in_err-begun-clause-starved
returns-in_err-begun-clause-starved g c = gave_up _ c.in_err-begun.ensures.starved

pub returns-in_err-image-clause-starved : goal.returns-in_err-image-clause-starved
returns-in_err-image-clause-starved g c = gave_up _ c.in_ok-begun.ensures.begun.others_came

pub returns-in_err-started-clause-starved : goal.returns-in_err-started-clause-starved
returns-in_err-started-clause-starved g c = gave_up _ c.in_ok-begun.ensures.begun.others_came
