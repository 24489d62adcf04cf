use Rattle.std.proofs.Common.{ℕ, sym, subst}
use Rattle.plain_state.specs.AtHand.{Layers, over, IsSpot}
use Rattle.plain_state.proofs.AtHand.{spots_kept}
use Rattle.plain_state.proofs.shown.Shown.bring.Goals as goal

pub invariant_of-self : goal.invariant_of-self
invariant_of-self c =
    let layers = over c.self.inside.place c.self.inside.view c.self.inside.changes in
    spots_kept layers c.self.inside.hand c.keep.new.self c.number-in-Some.result c.in-Some.spot c.self.invariant
    (subst (λ (n : ℕ). IsSpot layers n c.in-Some.spot) (sym c.number-in-Some.ensures.number)
    (subst (λ (l : Layers). IsSpot l c.args.oid c.in-Some.spot) (sym c.self.view_is) c.in-Some.ensures)) c.keep.ensures
