use Rattle.std.proofs.Common.{rules, ◌≡◌, true, [], ◌∷◌, ◌++◌, None, sym, ap, subst, ◌∙◌, arith}
use Rattle.gem_meaning.specs.declared.event.What.TheVariants.{Checked, Halted}
use Rattle.stone_core.specs.Stone.{is_session}
use Rattle.stone_core.specs.Kept.{Kept}
use Rattle.stone_core.specs.Inside.{told_by}
use Rattle.stone_core.proofs.Crashes.{fits_less, stands_back}
use Rattle.stone_core.proofs.Keeps.{runs, kept_checked, kept_halted}
use Rattle.stone_core.proofs.OneMore.{checked_stone, check_halted_stone}
use Rattle.stone_core.proofs.stone.Stone.check.Goals as goal

pub checkpoint-requires-clause-stands : goal.checkpoint-requires-clause-stands
checkpoint-requires-clause-stands g c =
    let inside = c.self.inside in
    let t = told_by g.K.Keeper.counts_pages g.K.Keeper.stored inside in
    let stone = c.self.invariant.0 in
    let none : inside.halted ≡ None = search rules in
    let running = runs t inside.halted inside.started.value inside.keeper c.self.invariant.1 none in
    λ told. fits_less inside.keeper _ _ (stands_back t.opened t.events inside.image inside.number stone.image_is stone.number_is)
    (c.self.invariant.1.kept.now told running)

pub invariant_of-self-in-Ok-checkpoint : goal.invariant_of-self-in-Ok-checkpoint
invariant_of-self-in-Ok-checkpoint g c =
    let inside = c.self.inside in
    let t = told_by g.K.Keeper.counts_pages g.K.Keeper.stored inside in
    let stone = c.self.invariant.0 in
    let none : inside.halted ≡ None = search rules in
    let running = runs t inside.halted inside.started.value inside.keeper c.self.invariant.1 none in
    let serves = subst (λ (k : Kept _). is_session k.told.opened.script c.args.session ≡ true) (sym c.self.view_is) c.requires.serves in
    let more = c.in-Ok-push.ensures.items ∙ ap (λ es. es ++ (c.args.session, Checked) ∷ []) c.in-Ok.ensures.items in
    let counted = c.count-room.ensures in
    let length_is = inside.events.ok.0 in
    let reserved = c.in-Ok.ensures.ok in
    let kept = c.in-Ok.ensures.len in
    let grown = c.in-Ok-push.ensures.capacity in (
      checked_stone t inside.image inside.number inside.locks inside.history.items _ stone c.args.session _ _ serves running more
          (omega (arith, counted, length_is, reserved, kept, grown)),
      kept_checked t inside.halted inside.started.value inside.keeper c.self.invariant.1 _ c.args.session _ inside.image inside.number
          more running c.in-Ok-checkpoint.ensures.later c.in-Ok-checkpoint.ensures.ready c.in-Ok-checkpoint.ensures.stored
          stone.image_is stone.number_is
          c.in-Ok-checkpoint.ensures.acknowledged c.in-Ok-checkpoint.ensures.any_moment,
    )

pub invariant_of-self-in-Err-Disk : goal.invariant_of-self-in-Err-Disk
invariant_of-self-in-Err-Disk g c =
    let inside = c.self.inside in
    let t = told_by g.K.Keeper.counts_pages g.K.Keeper.stored inside in
    let stone = c.self.invariant.0 in
    let none : inside.halted ≡ None = search rules in
    let running = runs t inside.halted inside.started.value inside.keeper c.self.invariant.1 none in
    let serves = subst (λ (k : Kept _). is_session k.told.opened.script c.args.session ≡ true) (sym c.self.view_is) c.requires.serves in
    let more = c.in-Ok-push-2.ensures.items ∙ ap (λ es. es ++ (c.args.session, Halted inside.number None) ∷ []) c.in-Ok.ensures.items in
    let counted = c.count-room.ensures in
    let length_is = inside.events.ok.0 in
    let reserved = c.in-Ok.ensures.ok in
    let kept = c.in-Ok.ensures.len in
    let fault = rw c.in-Err-Disk.field-0-is at c.in-Err-Disk.ensures.fault in
    let grown = c.in-Ok-push-2.ensures.capacity in (
      check_halted_stone t inside.image inside.number inside.locks inside.history.items _ stone c.args.session _ _ serves running more
          (omega (arith, counted, length_is, reserved, kept, grown)),
      kept_halted t inside.halted inside.started.value inside.keeper c.self.invariant.1 _ c.args.session inside.number inside.image inside.number _
          more running c.in-Err-Disk.ensures.later fault.1 stone.image_is stone.number_is c.in-Err-Disk.ensures.any_moment,
    )
