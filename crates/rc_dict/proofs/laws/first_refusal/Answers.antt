use Rattle.std.proofs.Common.{◌≡◌, None, take, slice_get, ap, ◌∙◌, arith}
use Rattle.std.specs.Result.{is_ok}
use Rattle.rc_dict.specs.Dict.{all_settled, first_changed, unless_changed}
use Rattle.rc_dict.proofs.Merges.{first_refusal}
use Rattle.rc_dict.proofs.laws.first_refusal.Goals as goal

pub returns : goal.returns
returns g c = λ view place updates at e.
    let r = first_refusal g.K.Ord.cmp g.T.Ord.cmp view place updates at e in
    let here : at ≡ r.index = omega (arith, r.counted) in
    let none : first_changed g.K.Ord.cmp g.T.Ord.cmp view place 0 (take at updates) ≡ None = ap (λ k. first_changed g.K.Ord.cmp g.T.Ord.cmp view place 0 (take k updates)) here ∙ r.before in
    (r.update, ap (slice_get updates) here ∙ r.here, r.changed, ap (λ o. is_ok (unless_changed o (all_settled g.K.Ord.cmp (take at updates) place))) none)
