use Rattle.std.proofs.Common.{◌≡◌, ◌∙◌, ◌≤◌, ◌-◌, refl, sym, ap, subst, ℕ, length, List, [], Option, None, option_and_then, Result, Ok, Err, arith}
use Rattle.gem_object.specs.texts.Bytes.{Bytes as Text}
use Rattle.gem_sound.specs.Parts.{class_of}
use Rattle.object_programs.specs.declared.fault.Fault.TheVariants as fault
use Rattle.running_objects.specs.Seen.{Seen, object_at}
use Rattle.running_objects.specs.declared.stop.Stop.{Stop}
use Rattle.running_objects.specs.declared.stop.Stop.TheVariants as stop
use Rattle.st_outside.specs.Names.{first_in}
use Rattle.prim_parts.proofs.Onward.{handed}
use Rattle.st_outside.proofs.Indexes.{IndexTold, IsReached, first_of_none, reached_more, few_own, goes_indexed, names_end, names_stop, names_none, names_last, names_above}
use Rattle.st_outside.proofs.instances.variable_index.Goals as goal

pub loop-limit-init : goal.loop-limit-init
loop-limit-init g c = (
  (omega arith, tt),
  λ names after does.
      goes_indexed c.args.name.now c.args.class 281474976710657 names refl does,
)

pub returns-in_err-read : goal.returns-in_err-read
returns-in_err-read g c =
    let after : Seen = g.O.Objects.seen c.read.new.self in
    handed (λ given. IndexTold c.args.name.now c.args.class (g.O.Objects.seen c.args.objects.now) given after)
    c.from_residual.result c.in_err-read.field-0.0 c.from_residual.ensures.1
    (c.loop-limit.invariant.1 (Err c.in_err-read.field-0.0) after
    (names_stop c.loop-limit.limit c.loop-limit.class c.loop-limit-test.true c.in_err-read.ensures))

pub returns-in_default : goal.returns-in_default
returns-in_default g c =
    let after : Seen = g.O.Objects.seen c.read.new.self in
    let none : option_and_then (λ object. class_of object.body) (object_at c.loop-limit.class after) ≡ None =
    grind (arith, c.class_at.ensures, c.in_default.is, c.in_default.not-Some) in
    let At : Option ℕ → Type 0 =
    λ found. IndexTold c.args.name.now c.args.class (g.O.Objects.seen c.args.objects.now) (Ok found) after in
    subst At (first_of_none c.args.name.now c.loop-limit.found) (c.loop-limit.invariant.1 (Ok []) after
    (names_none c.loop-limit.limit c.loop-limit.class c.loop-limit-test.true c.in_ok-read.ensures none))

pub first_in-found-requires-clause-few : goal.first_in-found-requires-clause-few
first_in-found-requires-clause-few g c =
    let few : length c.in-Some.body.now.names ≤ 200 = few_own (g.O.Objects.seen c.read.new.self) c.sound.ensures
    c.loop-limit.class c.in-Some.body.now (sym c.in-Some.ensures) in
    let same : length c.as_slice.result.now ≡ length c.in-Some.body.now.names = ap length c.as_slice.ensures in
    omega (arith, few, same)

pub returns-in_default-superclass : goal.returns-in_default-superclass
returns-in_default-superclass g c =
    let after : Seen = g.O.Objects.seen c.read.new.self in
    let top : c.in-Some.body.now.superclass ≡ None =
    grind (arith, c.in_default-superclass.is, c.in_default-superclass.not-Some) in
    let found : c.first_in-found.result ≡ first_in c.args.name.now c.in-Some.body.now.names c.loop-limit.found =
    c.first_in-found.ensures ∙ ap (λ (names : List Text). first_in c.args.name.now names c.loop-limit.found) c.as_slice.ensures in
    let At : Option ℕ → Type 0 =
    λ found. IndexTold c.args.name.now c.args.class (g.O.Objects.seen c.args.objects.now) (Ok found) after in
    subst At (sym found) (c.loop-limit.invariant.1 (Ok c.in-Some.body.now.names) after
    (names_last c.loop-limit.limit c.loop-limit.class c.loop-limit-test.true c.in_ok-read.ensures
    c.in-Some.body.now (sym c.in-Some.ensures) top))

pub loop-limit-preserved : goal.loop-limit-preserved
loop-limit-preserved g c =
    let few : length c.in-Some.body.now.names ≤ 200 = few_own (g.O.Objects.seen c.read.new.self) c.sound.ensures
    c.loop-limit.class c.in-Some.body.now (sym c.in-Some.ensures) in
    let found : c.first_in-found.result ≡ first_in c.args.name.now c.in-Some.body.now.names c.loop-limit.found =
    c.first_in-found.ensures ∙ ap (λ (names : List Text). first_in c.args.name.now names c.loop-limit.found) c.as_slice.ensures in
    let within = c.loop-limit.invariant.0.0 in
    let Whole : Result (Option ℕ) Stop → Seen → Type 0 =
    IndexTold c.args.name.now c.args.class (g.O.Objects.seen c.args.objects.now) in (
      (
        omega (arith, within),
        subst (IsReached (c.loop-limit.limit - 1)) (sym found)
            (reached_more c.loop-limit.limit c.args.name.now c.in-Some.body.now.names c.loop-limit.found few
            c.loop-limit-test.true within c.loop-limit.invariant.0.1),
      ),
      rw found (names_above c.loop-limit.limit c.loop-limit.class c.loop-limit-test.true c.in_ok-read.ensures
          c.in-Some.body.now (sym c.in-Some.ensures) Whole c.args.name.now c.loop-limit.found
          c.loop-limit.invariant.1 c.in-Some-superclass.superclass c.in-Some-superclass.is),
    )

pub returns : goal.returns
returns g c =
    let after : Seen = g.O.Objects.seen c.loop-limit.objects in
    c.loop-limit.invariant.1 (Err (stop.Fails fault.ArgumentKind)) after
    (names_end c.loop-limit.class c.loop-limit.limit after (omega (arith, c.loop-limit-test.false)))
