-- What a state shows, with the room that it has for touches.
use Rattle.std.specs.Prelude.{ℕ, refl}
use Rattle.std.specs.Coded.{Coded, code_by, coded×, coded_ℕ}
use Rattle.running_objects.specs.Seen.{Seen}

pub record SeenWithRoom : Type 0 where
  pub seen : Seen
  -- so many names can be touched for the first time without memory
  pub spare : ℕ

abbrev pub with_room_code : Coded Seen → Coded SeenWithRoom
with_room_code seen = code_by (Seen × ℕ) (coded× seen coded_ℕ)
    (λ state. (state.seen, state.spare))
    (λ parts. record { seen = parts.0; spare = parts.1 })
    (λ _. refl)
