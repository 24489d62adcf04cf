use Rattle.std.proofs.Common.{◌≡◌, ◌∙◌, ◌⊎◌, inr, ◌≤◌, ◌+◌, ◌^◌, false, length, rules, refl, arith}
use Rattle.st_compiler.specs.Emitted.{instructions}
use Rattle.st_encoder.specs.Bytes.{code_size, fit_from}
use Rattle.st_encoder.specs.Written.{IsTooLarge}
use Rattle.st_encoder.proofs.Writes.{count_size, code_step, code_stops, too_large_by}
use Rattle.st_encoder.proofs.writer.put_code.Goals as goal

pub put_instruction-requires : goal.put_instruction-requires
put_instruction-requires c =
    omega (
      arith,
      c.loop-one.invariant.count,
      c.in-Some.ensures.cases.1,
      c.in_ok-places.ensures.small,
      count_size c.args.code.now,
    )

pub returns-in_err-put_instruction-clause-large : goal.returns-in_err-put_instruction-clause-large
returns-in_err-put_instruction-clause-large c =
    let start = length c.args.bytes.now.items in
    let code = instructions c.args.code.now in
    let why : IsTooLarge
    ((2 ^ 32 ≤ start + code_size code) ⊎ (fit_from start (length c.args.literals.now.items) code 0 code ≡ false))
    c.in_err-put_instruction.field-0.0 =
    too_large_by c.in_err-put_instruction.field-0.0
    (λ large. inr (code_stops c.len-start.result c.args.code.now c.loop-one.rest.now c.loop-one.number
    c.in-Some.one.now c.in-Some.later.now c.len.result c.deref.result.now c.loop-one.bytes.items
    c.loop-one.literals.items c.args.bytes.now.items c.args.literals.now.items c.in-Some.ensures.cases.0
    (c.len.ensures ∙ c.loop-one.literals.ok.0) (c.deref.ensures.value ∙ c.in_ok-places.ensures.places)
    (c.len-start.ensures ∙ c.args.bytes.now.ok.0) c.loop-one.invariant.left large))
    c.in_err-put_instruction.ensures.large in
    search rules

pub loop-one-preserved : goal.loop-one-preserved
loop-one-preserved c = record {
  count = omega (arith, c.loop-one.invariant.count, c.in-Some.ensures.cases.1);
  left = code_step c.len-start.result c.args.code.now c.loop-one.rest.now c.loop-one.number (c.loop-one.number + 1)
      c.in-Some.one.now c.in-Some.later.now c.len.result c.deref.result.now c.loop-one.bytes.items
      c.loop-one.literals.items c.args.bytes.now.items c.args.literals.now.items c.put_instruction.new.bytes.items
      c.put_literal.new.literals.items c.in-Some.ensures.cases.0 refl (c.len.ensures ∙ c.loop-one.literals.ok.0)
      (c.deref.ensures.value ∙ c.in_ok-places.ensures.places) c.loop-one.invariant.left
      c.in_ok-put_instruction.ensures.ok c.in_ok-put_literal.ensures;
}
