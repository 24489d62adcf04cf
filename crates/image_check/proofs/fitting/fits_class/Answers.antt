use Rattle.std.proofs.Common.{sym, subst, ◌∙◌}
use Rattle.std.proofs.lemmas.Bool.{false≢true}
use Rattle.gem_image.specs.Image.{objects_in}
use Rattle.image_check.specs.Chains.{IsCountOf}
use Rattle.image_check.proofs.Places.{fit_special, fit_count}
use Rattle.image_check.proofs.fitting.fits_class.Goals as goal

pub returns-then-is_special-clause-fits : goal.returns-then-is_special-clause-fits
returns-then-is_special-clause-fits c = fit_special _ _ _ (c.is_special.ensures.0 c.if-is_special.true)

pub returns-in-Some-2-clause-fits : goal.returns-in-Some-2-clause-fits
returns-in-Some-2-clause-fits c =
    fit_count (objects_in c.args.image.now) c.args.name c.args.body.now
    (λ special. false≢true (sym c.if-is_special.false ∙ c.is_special.ensures.1 special))
    c.in-Some.class.now c.in-Some-2.count c.plain_slots.result (sym c.in-Some.ensures) (sym c.fits.ensures ∙ c.if-not-fits.false)
    (subst (IsCountOf (objects_in c.args.image.now) c.args.name) c.in-Some-2.is c.in_ok-count.ensures.count)
    c.plain_slots.ensures c.requires.slots
