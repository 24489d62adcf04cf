use Rattle.std.proofs.Common.{◌≡◌, ◌∙◌, sym, ap, None, option_map, arith}
use Rattle.std.proofs.lemmas.Result.{err_from_is_err_and}
use Rattle.std.specs.FinMap.{get}
use Rattle.gem_image.specs.Image.{contents_of}
use Rattle.gem_world.specs.Changes.{with_body}
use Rattle.plain_state.specs.Puts.{lacked}
use Rattle.plain_state.proofs.Touched.{acted_by}
use Rattle.plain_state.proofs.Replaced.{put_absent, put_done, put_lacks, put_nothing, new_methods, unchanged_same}
use Rattle.plain_state.proofs.parts.Parts.put.Goals as goal

pub returns-in_default : goal.returns-in_default
returns-in_default c =
    let none : None ≡ option_map (with_body c.args.body) (get c.args.self.now.seen.world.changes c.args.oid) =
    grind (arith, c.with_body.ensures.object, c.in_default.is, c.in_default.not-Some) in
    put_absent c.args.self.now.seen c.args.oid c.args.body c.requires.sound none

pub may_put_body-requires : goal.may_put_body-requires
may_put_body-requires c = new_methods c.args.oid c.in-Some.new c.args.body (get c.args.self.now.seen.world.changes c.args.oid)
    c.in-Some.ensures.object c.requires.methods

pub returns-then-may_put_body : goal.returns-then-may_put_body
returns-then-may_put_body c = acted_by (put_done c.args.self.now.seen c.args.oid c.args.body c.requires.sound (contents_of c.in-Some.new)
    c.in-Some.ensures.object (sym c.may_put_body.ensures ∙ c.if-may_put_body.true)) c.in_ok-change.ensures.edited

pub returns-in_err-change : goal.returns-in_err-change
returns-in_err-change c =
    let p = err_from_is_err_and c.from_residual.result c.from_residual.ensures.1 in
    rw (p.1, p.2) (put_nothing c.args.oid c.args.body (unchanged_same c.in_err-change.ensures.unchanged))

pub miss_lacking-requires-clause-names : goal.miss_lacking-requires-clause-names
miss_lacking-requires-clause-names c = omega (arith, c.in-Some.ensures.name, c.from_ref.ensures.len)

pub returns-in_err-miss_lacking : goal.returns-in_err-miss_lacking
returns-in_err-miss_lacking c =
    let p = err_from_is_err_and c.from_residual-in_err-miss_lacking.result c.from_residual-in_err-miss_lacking.ensures.1 in
    rw (p.1, p.2) (put_nothing c.args.oid c.args.body c.in_err-miss_lacking.ensures.same)

pub returns : goal.returns
returns c = acted_by (put_lacks c.args.self.now.seen c.args.oid c.args.body c.requires.sound c.in-Some.new
    c.in-Some.ensures.object (sym c.may_put_body.ensures ∙ c.if-may_put_body.false))
    (c.in_ok-miss_lacking.ensures.lacked ∙ ap (λ objects. lacked c.args.oid objects c.args.self.now.seen) c.from_ref.ensures.value)
