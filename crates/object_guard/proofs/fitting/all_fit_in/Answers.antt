use Rattle.std.proofs.Common.{◌∙◌, sym, ap, length, arith}
use Rattle.object_programs.specs.gem_image.Image.{contents_of}
use Rattle.std.proofs.Common.{map}
use Rattle.object_programs.specs.Guard.{all_fit}
use Rattle.object_guard.proofs.Pieces.{method_first, methods_left, others_left}
use Rattle.object_guard.proofs.fitting.all_fit_in.Goals as goal

pub fits_in-requires : goal.fits_in-requires
fits_in-requires g c = method_first c.in-Some-of.name c.loop-object.rest.now c.in-Some.object.now c.in-Some.others.now
    c.in-Some.ensures.cases.0 c.loop-object.invariant.methods

pub loop-object-preserved : goal.loop-object-preserved
loop-object-preserved g c = record {
  rest = others_left (g.S.Sees.parts c.args.state.now) c.in-Some-of.name c.loop-object.number c.loop-object.rest.now
      c.in-Some.object.now c.in-Some.others.now
      (all_fit (g.S.Sees.parts c.args.state.now) c.args.first (map contents_of c.args.objects.now))
      c.in-Some-of.ensures.1 c.in-Some.ensures.cases.0 (sym c.fits_in.ensures ∙ c.if-not-fits_in.false)
      c.loop-object.invariant.rest;
  methods = methods_left c.loop-object.rest.now c.in-Some.object.now c.in-Some.others.now c.in-Some.ensures.cases.0
      c.loop-object.invariant.methods;
  names = omega (arith, c.loop-object.invariant.names, ap length c.in-Some.ensures.cases.0);
}
