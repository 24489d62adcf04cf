use Rattle.std.proofs.Common.{ℕ, List, [], ◌∷◌, ◌++◌, ◌+◌, ◌^◌, length, ap, ◌∙◌}
use Rattle.std.proofs.lemmas.Result.{IfOk-weaker}
use Rattle.body_codec.specs.Spelled.{four_bytes, eight_bytes}
use Rattle.tran_log.specs.Log.{mode_byte}
use Rattle.stone_core.proofs.Spelled.{body_length}
use Rattle.stone_core.proofs.effect.body_of.Goals as goal

pub returns-clause-body : goal.returns-clause-body
returns-clause-body c =
    let number = c.args.effect.now.number in
    let spelled = ap (λ (l : List ℕ). (four_bytes (2 ^ 31 + (1 + length l))
    ++ (eight_bytes number ++ (mode_byte c.args.mode ∷ l))) ++ 0 ∷ [])
    (c.deref.ensures.value ∙ c.in_ok-spelled.ensures) in
    IfOk-weaker c.spell_body.result _ _ (λ body is. is ∙ spelled) c.spell_body.ensures.bytes

pub returns-clause-size : goal.returns-clause-size
returns-clause-size c =
    let number = c.args.effect.now.number in
    let spelled = ap (λ (l : List ℕ). (four_bytes (2 ^ 31 + (1 + length l))
    ++ (eight_bytes number ++ (mode_byte c.args.mode ∷ l))) ++ 0 ∷ [])
    (c.deref.ensures.value ∙ c.in_ok-spelled.ensures) in
    IfOk-weaker c.spell_body.result _ _
    (λ body is. body_length c.args.mode c.args.effect.now body.items (c.length_is_size.ensures.effects c.args.effect.now) (is ∙ spelled))
    c.spell_body.ensures.bytes
