use Rattle.std.specs.Prelude.{ℕ, List, ◌++◌}
use Rattle.std.proofs.lemmas.Result.{err_from_is_err_and}
use Rattle.prim_rules.specs.Texts.{text_of_argument, new_string}
use Rattle.prim_parts.proofs.Does.{does_stop, does_nothing}
use Rattle.prim_collections.specs.Texts.{join_rule}
use Rattle.prim_collections.proofs.TextsRead.{first_missed, second_missed, both_read}
use Rattle.prim_collections.proofs.strings.joined.Goals as goal

pub returns-in_err-read_argument : goal.returns-in_err-read_argument
returns-in_err-read_argument g c = λ text is.
    let p = err_from_is_err_and c.from_residual.result c.from_residual.ensures.1 in
    rw (p.1, p.2) (does_stop c.in_err-read_argument.ensures)

pub returns-in_err-first : goal.returns-in_err-first
returns-in_err-first g c = λ text is.
    first_missed c.args.receiver.now c.args.argument.now (g.O.Objects.seen c.args.objects.now)
    (g.O.Objects.seen c.read_argument.new.objects) text is (text_of_argument c.args.argument.now)
    c.in_ok-read_argument.ensures _ c.in_err-first.ensures

pub returns-in_err-second : goal.returns-in_err-second
returns-in_err-second g c = λ text is.
    let p = err_from_is_err_and c.from_residual-in_err-second.result c.from_residual-in_err-second.ensures.1 in
    rw (p.1, p.2) (second_missed c.args.receiver.now c.args.argument.now (g.O.Objects.seen c.args.objects.now)
    (g.O.Objects.seen c.read_argument.new.objects) text is (text_of_argument c.args.argument.now)
    c.in_ok-read_argument.ensures
    (λ (other : List ℕ). new_string (text ++ other)) _ c.in_err-second.ensures)

pub returns-in_err-both : goal.returns-in_err-both
returns-in_err-both g c = λ text is.
    let p = err_from_is_err_and c.from_residual-in_err-both.result c.from_residual-in_err-both.ensures.1 in
    rw (p.1, p.2) (does_nothing (join_rule text c.args.argument.now) c.in_ok-read_argument.ensures.0.keeps)

pub returns : goal.returns
returns g c = λ text is.
    both_read c.args.receiver.now c.args.argument.now (g.O.Objects.seen c.args.objects.now)
    (g.O.Objects.seen c.read_argument.new.objects) text is (text_of_argument c.args.argument.now)
    c.in_ok-read_argument.ensures
    (λ (one other : List ℕ). new_string (one ++ other)) c.in_ok-first.first.now c.in_ok-second.second.now
    c.in_ok-first.ensures c.in_ok-second.ensures (rw c.in_ok-both.ensures at c.new_string_of.ensures)
