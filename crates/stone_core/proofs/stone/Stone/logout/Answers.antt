use Rattle.std.proofs.Common.{◌≡◌, true, refl, ◌∙◌, sym, subst, arith}
use Rattle.lock_table.proofs.Counts.{left_none}
use Rattle.gem_meaning.specs.declared.event.What.TheVariants.{Left}
use Rattle.stone_core.specs.Stone.{is_session}
use Rattle.stone_core.specs.Kept.{Kept}
use Rattle.stone_core.specs.Inside.{told_by}
use Rattle.stone_core.proofs.Keeps.{kept_quiet}
use Rattle.stone_core.proofs.OneMore.{same_locks, left_stone, room_to_drop, nothing_held}
use Rattle.stone_core.proofs.stone.Stone.logout.Goals as goal

pub invariant_of-self : goal.invariant_of-self
invariant_of-self g c =
    let inside = c.self.inside in (
      same_locks (told_by g.K.Keeper.counts_pages g.K.Keeper.stored inside) inside.image inside.number inside.locks inside.history.items _ c.self.invariant.0 _
          (c.release_all.ensures.locks ∙ left_none inside.locks c.args.session
          (nothing_held inside.locks c.args.session _ c.release_all.ensures.held c.if-not-release_all.true)),
      c.self.invariant.1,
    )

pub unreachable-requires : goal.unreachable-requires
unreachable-requires g c =
    let inside = c.self.inside in
    let held = c.release_all.ensures.held.0 c.if-not-release_all.false in
    let room = room_to_drop (told_by g.K.Keeper.counts_pages g.K.Keeper.stored inside) inside.image inside.number inside.locks inside.history.items _ c.self.invariant.0
    c.args.session held.0 held.1 in
    let full = c.in_default.ensures.full in
    let length_is = inside.events.ok.0 in
    omega (arith, room, full, length_is)

pub invariant_of-self-2 : goal.invariant_of-self-2
invariant_of-self-2 g c =
    let inside = c.self.inside in (
      left_stone (told_by g.K.Keeper.counts_pages g.K.Keeper.stored inside) inside.image inside.number inside.locks inside.history.items _ c.self.invariant.0
          c.args.session _ _ _
          (subst (λ (k : Kept _). is_session k.told.opened.script c.args.session ≡ true) (sym c.self.view_is) c.requires.serves)
          (c.release_all.ensures.held.0 c.if-not-release_all.false)
          c.release_all.ensures.locks c.in-Ok.ensures.items c.in-Ok.ensures.capacity,
      kept_quiet (told_by g.K.Keeper.counts_pages g.K.Keeper.stored inside) inside.halted inside.started.value inside.keeper
          c.self.invariant.1 (c.args.session, Left) refl _ c.in-Ok.ensures.items (λ s x. refl) (λ s. (refl, refl)),
    )
