use Rattle.std.proofs.Common.{refl, sym, subst}
use Rattle.gem_image.specs.Image.{Image}
use Rattle.gem_meaning.specs.Opened.{Opened}
use Rattle.gem_meaning.specs.Serial.{CanServe}
use Rattle.gem_keeper.specs.Found.{StandsFor}
use Rattle.gem_keeper.specs.Crashes.{FitsNow}
use Rattle.stone_core.proofs.Keeps.{first_kept}
use Rattle.stone_core.proofs.OneMore.{first_stone}
use Rattle.stone_core.proofs.stone.Stone.start.Goals as goal

pub invariant_of-result : goal.invariant_of-result
invariant_of-result g c =
    let opened = c.in-Ok.opened_image in
    let at_start : _ → _ → Opened = λ i k. record {
      image = i;
      number = c.args.number;
      script = c.args.script.value;
      stored = g.K.Keeper.stored k;
      counts_pages = g.K.Keeper.counts_pages;
    } in (
      first_stone (at_start opened c.of.result.value) _ c.args.image _ _ _
          (subst (λ k. CanServe (at_start opened k)) (sym c.of.ensures)
          (subst (λ (i : Image). CanServe (at_start i c.args.keeper)) (sym c.in-Ok.ensures) c.requires.serves))
          c.in-Ok.ensures c.new.ensures c.new-2.ensures.items c.new-3.ensures.items,
      first_kept (at_start opened c.of.result.value) _
          c.of.result.value c.args.keeper c.of.ensures refl c.requires.ready
          (λ told. subst (λ (i : Image). FitsNow g.K.Keeper.moment g.K.Keeper.stands g.K.Keeper.left_since c.args.keeper (StandsFor i c.args.number))
          (sym c.in-Ok.ensures) (c.requires.stands told)) c.new-3.ensures.items,
    )
