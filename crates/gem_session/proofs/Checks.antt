-- A session's checkpoints.
use Rattle.std.proofs.Common.{◌≡◌, ◌∙◌, refl, sym, ap, subst, ℕ, ◌+◌, ◌-◌, Some, None, List, [], ◌∷◌, ◌++◌, append-nil}
use Rattle.std.specs.List.{slice_get}
use Rattle.shell_words.specs.declared.script.Command.TheVariants.{Checkpoint as Store}
use Rattle.gem_replies.specs.declared.reply.Line.TheVariants.{NoMemory, Halted as HaltedLine, DiskFault as DiskFaultLine, ExtentFull, Checkpoint}
use Rattle.gem_meaning.specs.declared.event.What.TheVariants.{Checked, Halted}
use Rattle.gem_meaning.specs.Opened.{Opened, commands_of}
use Rattle.gem_meaning.specs.Events.{Event, after_events, OthersCame, IsRunning, HasHaltedAt}
use Rattle.gem_meaning.specs.After.{pages_after}
use Rattle.stone_core.specs.Port.{PortState, CheckSays, event_of_check}
use Rattle.stone_core.specs.declared.port.CheckAnswer.{CheckAnswer}
use Rattle.stone_core.specs.declared.port.CheckAnswer.TheVariants.{Halted as HaltedAt, Full, DiskFault, Made, NoMemory as ShortOfMemory}
use Rattle.gem_session.specs.declared.session.Session.{Session}
use Rattle.gem_session.specs.Running.{check_line, StandsBefore, ComesTo, Replied}
use Rattle.gem_session.proofs.Passing.{Passes, pass_others, pass_twice, pass_checked, pass_halted}
use Rattle.gem_session.proofs.Steps.{stands_kept}

module _ (o : Opened) (es : List Event) (number : ℕ) (s : Session) (stands : StandsBefore (record { opened = o; events = es }) number s)
    (is : slice_get (commands_of o.script s.session) (number - 1) ≡ Some Store) (es' : List Event) where
  stands_then : Passes o s.session es es' → StandsBefore (record { opened = o; events = es' }) (number + 1) s
  stands_then passes = stands_kept o es es' number s Store is tt refl (λ m. refl) stands passes

  -- an answer that is no event
  others_before : (answer : CheckAnswer) → ((stood : ℕ) → event_of_check s.session stood answer ≡ []) →
      (says : CheckSays o es es' s.session answer) → OthersCame s.session es es' × (es' ≡ es ++ says.others)
  others_before answer none says =
      let end : es' ≡ es ++ says.others =
      says.events ∙ ap (λ x. (es ++ says.others) ++ x) (none (after_events o (es ++ says.others)).number) ∙ append-nil (es ++ says.others) in
      ((says.others, says.are_others, end), end)

  pub check_at : (answer : CheckAnswer) → CheckSays o es es' s.session answer → Replied o number es es' s Store (check_line answer ∷ []) s
  check_at (HaltedAt at) says =
      let before = others_before (HaltedAt at) (λ stood. refl) says in
      record {
        of_session = refl;
        says = (HaltedLine at, refl, (before.0, subst (λ x. HasHaltedAt x at) (sym before.1) says.fits, refl));
        stands = stands_then (pass_others o s.session es es' before.0);
      }
  check_at (Full pages) says =
      let before = others_before (Full pages) (λ stood. refl) says in
      record {
        of_session = refl;
        says = (
          ExtentFull pages,
          refl,
          (
            record {
              came = before.0;
              running = subst IsRunning (sym before.1) says.fits.0;
              pages_are = says.fits.1 ∙ ap (pages_after o) (sym before.1);
              over = says.fits.2;
            },
            refl,
          ),
        );
        stands = stands_then (pass_others o s.session es es' before.0);
      }
  check_at DiskFault says =
      let number_is = (after_events o (es ++ says.others)).number in
      record {
        of_session = refl;
        says = (
          DiskFaultLine,
          refl,
          (
            (
              number_is,
              record {
                others = says.others;
                are_others = says.are_others;
                may = says.fits;
                number_is = refl;
                after = says.events;
              },
            ),
            refl,
          ),
        );
        stands = stands_then (subst (Passes o s.session es) (sym says.events)
            (pass_twice o s.session es (es ++ says.others) ((es ++ says.others) ++ (s.session, Halted number_is None) ∷ [])
            (pass_others o s.session es (es ++ says.others) (says.others, says.are_others, refl))
            (pass_halted o s.session (es ++ says.others) s.session number_is None)));
      }
  check_at (Made at) says = record {
    of_session = refl;
    says = (
      Checkpoint at,
      refl,
      (
        record {
          others = says.others;
          are_others = says.are_others;
          may = says.fits.0;
          number_is = says.fits.1;
          after = says.events;
        },
        refl,
      ),
    );
    stands = stands_then (subst (Passes o s.session es) (sym says.events)
        (pass_twice o s.session es (es ++ says.others) ((es ++ says.others) ++ (s.session, Checked) ∷ [])
        (pass_others o s.session es (es ++ says.others) (says.others, says.are_others, refl))
        (pass_checked o s.session (es ++ says.others) s.session)));
  }
  check_at ShortOfMemory says =
      let before = others_before ShortOfMemory (λ stood. refl) says in
      record {
        of_session = refl;
        says = (NoMemory, refl, (before.0, refl));
        stands = stands_then (pass_others o s.session es es' before.0);
      }

-- a checkpoint that the Stone answered
pub checked : (p q : PortState) (number : ℕ) (s : Session) → ComesTo p number s Store → (answer : CheckAnswer)
    → CheckSays p.told.opened p.told.events q.told.events s.session answer
    → Replied p.told.opened number p.told.events q.told.events s Store (check_line answer ∷ []) s
checked p q number s comes answer says =
    check_at p.told.opened p.told.events number s comes.stands comes.command q.told.events answer says
