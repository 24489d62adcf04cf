use Rattle.std.proofs.Common.{◌≡◌, None, map, string_bytes, is_some, sym, ap, ◌∙◌, refl, rules}
use Rattle.program_words.proofs.Empty.{empty_if, filled_if}
use Rattle.program_words.proofs.Spelled.{shorter}
use Rattle.program_words.proofs.Choices.{begins, stuck, given_twice, next_passed, ends, some_mapped}
use Rattle.program_words.proofs.demo.read_settings.Goals as goal

pub loop-rest-init : goal.loop-rest-init
loop-rest-init c = begins (map string_bytes c.args.words.now) _ refl refl refl

pub returns-in_err-choice : goal.returns-in_err-choice
returns-in_err-choice c =
    let none : c.from_residual.result ≡ None = search rules in
    let some = some_mapped string_bytes c.loop-rest.rest.now
    (filled_if c.loop-rest.rest.now (sym c.is_empty.ensures ∙ c.loop-rest-test.true)) in
    rw none (stuck (map string_bytes c.args.words.now) (map string_bytes c.loop-rest.rest.now) c.loop-rest.settings
    c.loop-rest.invariant some c.in_err-choice.ensures)

pub returns-then-is_some : goal.returns-then-is_some
returns-then-is_some c =
    given_twice (map string_bytes c.args.words.now) (map string_bytes c.loop-rest.rest.now)
    (map string_bytes c.in_ok-choice.after.now) c.loop-rest.settings c.in_ok-choice.choice c.loop-rest.invariant
    c.in_ok-choice.ensures (sym (ap is_some c.number_at.ensures) ∙ sym c.is_some.ensures ∙ c.if-is_some.true)

pub loop-rest-smaller : goal.loop-rest-smaller
loop-rest-smaller c =
    shorter string_bytes c.loop-rest.rest.now c.in_ok-choice.after.now c.in_ok-choice.choice c.in_ok-choice.ensures

pub loop-rest-preserved : goal.loop-rest-preserved
loop-rest-preserved c =
    next_passed (map string_bytes c.args.words.now) (map string_bytes c.loop-rest.rest.now)
    (map string_bytes c.in_ok-choice.after.now) c.loop-rest.settings c.with-settings.result c.in_ok-choice.choice
    c.loop-rest.invariant c.in_ok-choice.ensures
    (sym (ap is_some c.number_at.ensures) ∙ sym c.is_some.ensures ∙ c.if-is_some.false) c.with-settings.ensures

pub returns : goal.returns
returns c =
    ends (map string_bytes c.args.words.now) (map string_bytes c.loop-rest.rest.now) c.loop-rest.settings
    c.loop-rest.invariant
    (ap (map string_bytes) (empty_if c.loop-rest.rest.now (sym c.is_empty.ensures ∙ c.loop-rest-test.false)))
