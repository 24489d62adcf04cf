use Rattle.std.proofs.Common.{◌≡◌, ◌∙◌, ◌<◌, sym, subst, List, length, get_or, arith}
use Rattle.std.specs.Ordering.{nat_cmp}
use Rattle.std.specs.Cmp.Lexicographic.{slice_cmp}
use Rattle.std.specs.declared.cmp.Ordering.TheVariants.{Equal}
use Rattle.gem_object.specs.declared.body.Method.{Method}
use Rattle.st_outside.proofs.Placing.{placed_on}
use Rattle.st_outside.proofs.methods.insert_method.Goals as goal

pub returns-in-Equal : goal.returns-in-Equal
returns-in-Equal c =
    let within : c.loop-at.at < length c.loop-at.methods = omega (arith, c.loop-at-test.true, c.len.ensures) in
    let At : List Method → Type 0 =
    λ methods. c.index-as_slice-at.result ≡ get_or methods c.loop-at.at c.index-as_slice-at.result in
    let Tied : Method → Type 0 = λ first. slice_cmp nat_cmp c.args.method.selector first.selector ≡ Equal in
    c.set.ensures ∙ placed_on c.args.method c.args.methods.now c.loop-at.methods c.loop-at.at c.index-as_slice-at.result
    c.loop-at.invariant.0 c.loop-at.invariant.1 within (subst At c.as_slice.ensures c.index-as_slice-at.is)
    (subst Tied (sym c.index-as_slice-at.is) (sym c.in-Equal.ensures))
