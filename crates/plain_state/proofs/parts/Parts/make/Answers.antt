use Rattle.std.proofs.Common.{◌≡◌, ◌∙◌, sym, ap, map, List, Ok, rules}
use Rattle.std.proofs.lemmas.Result.{err_from_is_err_and}
use Rattle.gem_object.specs.declared.object.Object.{Object}
use Rattle.gem_image.specs.Image.{contents_of}
use Rattle.gem_world.specs.World.{next_name}
use Rattle.object_programs.specs.Atom.{make_check}
use Rattle.plain_state.specs.Puts.{check_result, lacked}
use Rattle.plain_state.proofs.NewObjects.{make_done, make_lacks, make_nothing, may_by, made_by_same}
use Rattle.plain_state.proofs.parts.Parts.make.Goals as goal

pub returns-then-all_fit : goal.returns-then-all_fit
returns-then-all_fit c =
    let x = c.args.self.now.seen in
    let objects = c.args.objects.items in
    let at : c.in-Some.first ≡ next_name c.args.self.now.seen.setting c.args.self.now.seen.world = search rules in
    let passes : check_result (make_check (map contents_of c.args.objects.items) c.args.self.now.seen.world c.args.self.now.seen.budget) ≡ Ok tt =
    ap (λ (some : List Object). check_result (make_check (map contents_of some) c.args.self.now.seen.world c.args.self.now.seen.budget)) (sym c.deref.ensures.value)
    ∙ sym c.check_make.ensures ∙ c.in_ok-check_make.was in
    made_by_same objects (Ok c.in-Some.first) (make_done objects x passes c.in-Some.first at
    (may_by x objects c.deref-2.result.now c.in-Some.first c.all_fit.result c.deref-2.ensures.value at c.all_fit.ensures ∙ c.if-all_fit.true))
    c.in_ok-add_all.ensures.made

pub returns-in_err-miss_lacking : goal.returns-in_err-miss_lacking
returns-in_err-miss_lacking c =
    let p = err_from_is_err_and c.from_residual-in_err-miss_lacking.result c.from_residual-in_err-miss_lacking.ensures.1 in
    rw (p.1, p.2) (make_nothing c.args.objects.items c.in_err-miss_lacking.ensures.same)

pub returns : goal.returns
returns c =
    let x = c.args.self.now.seen in
    let objects = c.args.objects.items in
    let at : c.in-Some.first ≡ next_name c.args.self.now.seen.setting c.args.self.now.seen.world = search rules in
    let passes : check_result (make_check (map contents_of c.args.objects.items) c.args.self.now.seen.world c.args.self.now.seen.budget) ≡ Ok tt =
    ap (λ (some : List Object). check_result (make_check (map contents_of some) c.args.self.now.seen.world c.args.self.now.seen.budget)) (sym c.deref.ensures.value)
    ∙ sym c.check_make.ensures ∙ c.in_ok-check_make.was in
    made_by_same objects _ (make_lacks objects x passes c.in-Some.first at
    (may_by x objects c.deref-2.result.now c.in-Some.first c.all_fit.result c.deref-2.ensures.value at c.all_fit.ensures ∙ c.if-all_fit.false))
    (c.in_ok-miss_lacking.ensures.lacked ∙ ap (λ (some : List Object). lacked c.in-Some.first some c.args.self.now.seen) c.deref-3.ensures.value)
