-- Objects that are put one after the other.
use Rattle.std.proofs.Common.{◌≡◌, ◌∙◌, sym, ap, ℕ, ◌+◌, ◌≤◌, ◌^◌, nat_eq, List, ◌∷◌, length, arith}
use Rattle.gem_object.specs.declared.object.Object.{Object}
use Rattle.indexmap.specs.IndexMap.{insert_entry}
use Rattle.plain_state.specs.Overlay.{contents_by_name}
use Rattle.plain_state.specs.Puts.{with_all}
use Rattle.plain_state.proofs.Changes.{put_by_name}

-- What is left, put among these entries, gives what all gives among the first ones, and there is room for it.
pub record IsUnderWay (entries now : List (ℕ × Object)) (first number : ℕ) (all left : List Object) (spare : ℕ) : Type 0 where
  pub same : with_all number left (contents_by_name now) ≡ with_all first all (contents_by_name entries)
  pub room : length left ≤ spare
  pub names : number + length left ≤ 2 ^ 48

pub one_more : (entries now after : List (ℕ × Object)) (first number : ℕ) (all left : List Object) (object : Object) (rest : List Object)
    (room remains : ℕ) → IsUnderWay entries now first number all left room → left ≡ object ∷ rest
    → after ≡ insert_entry nat_eq now number object → room ≤ remains + 1
    → IsUnderWay entries after first (number + 1) all rest remains
one_more entries now after first number all left object rest room remains under steps is spent =
    let long : length left ≡ length (object ∷ rest) = ap length steps in
    record {
      same = ap (with_all (number + 1) rest) (ap contents_by_name is ∙ put_by_name now number object)
          ∙ sym (ap (λ (some : List Object). with_all number some (contents_by_name now)) steps)
          ∙ under.same;
      room = omega (arith, long, under.room, spent);
      names = omega (arith, long, under.names);
    }
