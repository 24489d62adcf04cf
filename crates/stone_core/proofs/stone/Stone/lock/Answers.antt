use Rattle.std.proofs.Common.{◌≡◌, ℕ, true, [], ◌∷◌, ◌++◌, IsSome, refl, ap, sym, subst, ◌∙◌, arith}
use Rattle.std.specs.FinMap.{get}
use Rattle.lock_table.specs.Asked.{Answers}
use Rattle.lock_table.specs.declared.lock.Asked.TheVariants.{Granted}
use Rattle.gem_meaning.specs.declared.event.What.TheVariants.{Held}
use Rattle.gem_meaning.specs.Events.{standing}
use Rattle.stone_core.specs.Stone.{is_session}
use Rattle.stone_core.specs.Kept.{Kept}
use Rattle.stone_core.specs.Inside.{told_by}
use Rattle.stone_core.proofs.Keeps.{kept_quiet}
use Rattle.stone_core.proofs.OneMore.{held_stone}
use Rattle.stone_core.proofs.stone.Stone.lock.Goals as goal

pub invariant_of-self-in-Granted : goal.invariant_of-self-in-Granted
invariant_of-self-in-Granted g c =
    let inside = c.self.inside in
    let events = inside.events in
    let answer = subst (λ (n : ℕ). Answers inside.locks c.args.session n c.args.kind (Granted c.in-Granted.now) c.request.new.self)
    c.number-2.ensures.number c.in-Granted.ensures.answer in
    let counted = c.count-room.ensures in
    let length_is = events.ok.0 in
    let reserved = c.in-Ok.ensures.ok in
    let kept = c.in-Ok.ensures.len in
    let grown = c.in-Ok-push.ensures.capacity in
    let more = c.in-Ok-push.ensures.items ∙ ap (λ es. es ++ (c.args.session, Held c.args.oid c.in-Granted.now) ∷ []) c.in-Ok.ensures.items in (
      held_stone (told_by g.K.Keeper.counts_pages g.K.Keeper.stored inside) inside.image inside.number inside.locks inside.history.items _ c.self.invariant.0
          c.args.session c.args.oid c.args.kind c.in-Granted.now _ _ _
          (subst (λ (k : Kept _). is_session k.told.opened.script c.args.session ≡ true) (sym c.self.view_is) c.requires.serves)
          (subst (λ (k : Kept _). IsSome (get (standing k.told).image c.args.oid)) (sym c.self.view_is) c.requires.there)
          answer.0 answer.1 answer.2
          more
          (omega (arith, counted, length_is, reserved, kept, grown)),
      kept_quiet (told_by g.K.Keeper.counts_pages g.K.Keeper.stored inside) inside.halted inside.started.value inside.keeper
          c.self.invariant.1 (c.args.session, Held c.args.oid c.in-Granted.now) refl _ more (λ s x. refl) (λ s. (refl, refl)),
    )
