use Rattle.std.proofs.Common.{Ok}
use Rattle.std.specs.Prelude.{ℕ, List, bytes_eq}
use Rattle.std.proofs.lemmas.Result.{err_from_is_err_and}
use Rattle.gem_object.specs.declared.value.Value.TheVariants as value
use Rattle.object_programs.specs.Run.{give}
use Rattle.prim_rules.specs.Parts.{truth}
use Rattle.prim_rules.specs.Texts.{string_bytes}
use Rattle.prim_parts.proofs.Does.{does_stop, does_give, does_atom}
use Rattle.prim_collections.proofs.TextsRead.{object_read, first_missed, second_missed, both_read}
use Rattle.prim_collections.proofs.strings.has_bytes.Goals as goal

pub returns-in_err-read : goal.returns-in_err-read
returns-in_err-read g c = λ text is.
    let p = err_from_is_err_and c.from_residual.result c.from_residual.ensures.1 in
    rw (p.1, p.2) (does_stop (does_stop (does_atom c.in_err-read.ensures)))

pub returns-in_err-first : goal.returns-in_err-first
returns-in_err-first g c = λ text is.
    first_missed (value.Ref c.args.name) (value.Ref c.args.other) (g.O.Objects.seen c.args.objects.now)
    (g.O.Objects.seen c.read.new.self) text is (string_bytes c.args.other)
    (object_read c.args.other (g.O.Objects.seen c.args.objects.now) (g.O.Objects.seen c.read.new.self) (Ok tt)
    c.in_ok-read.ensures) _ c.in_err-first.ensures

pub returns-in_err-second : goal.returns-in_err-second
returns-in_err-second g c = λ text is.
    let p = err_from_is_err_and c.from_residual-in_err-second.result c.from_residual-in_err-second.ensures.1 in
    rw (p.1, p.2) (second_missed (value.Ref c.args.name) (value.Ref c.args.other) (g.O.Objects.seen c.args.objects.now)
    (g.O.Objects.seen c.read.new.self) text is (string_bytes c.args.other)
    (object_read c.args.other (g.O.Objects.seen c.args.objects.now) (g.O.Objects.seen c.read.new.self) (Ok tt)
    c.in_ok-read.ensures) (λ (other : List ℕ). give (truth (bytes_eq text other))) _ c.in_err-second.ensures)

pub returns : goal.returns
returns g c = λ text is.
    both_read (value.Ref c.args.name) (value.Ref c.args.other) (g.O.Objects.seen c.args.objects.now)
    (g.O.Objects.seen c.read.new.self) text is (string_bytes c.args.other)
    (object_read c.args.other (g.O.Objects.seen c.args.objects.now) (g.O.Objects.seen c.read.new.self) (Ok tt)
    c.in_ok-read.ensures) (λ (one other : List ℕ). give (truth (bytes_eq one other))) c.in_ok-first.first.now
    c.in_ok-second.second.now c.in_ok-first.ensures c.in_ok-second.ensures
    (rw (c.truth.ensures, c.same_bytes.ensures) (does_give _ _))
