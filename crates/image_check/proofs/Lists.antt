-- Items by number, and tests of all items.
use Rattle.std.proofs.Common.{◌≡◌, ◌<◌, ◌≤◌, ◌+◌, ℕ, zero, suc, true, false, List, length, map, take, get_or, Option, All, refl, ap, sym, subst, ◌∙◌}
use Rattle.std.specs.Bool.{Decides}
use Rattle.std.specs.Option.{option_map}
use Rattle.std.proofs.lemmas.Bool.{false≢true}
use Rattle.std.proofs.lemmas.Option.{slice_get-map}
use Rattle.std.proofs.lemmas.List.Elements.{All-more}
use Rattle.std.proofs.lemmas.List.{take_all}
use Rattle.gem_sound.specs.Kernel.{numbered}

-- the items that stand for others, by number
pub numbered_map : {X Y : Type 0} (f : X → Y) (items : List X) (number : ℕ)
    → option_map f (numbered items number) ≡ numbered (map f items) number
numbered_map f items zero = refl
numbered_map f items (suc before) = sym (slice_get-map f items before)

pub one_fails : {X : Type 0} (P : X → Type 0) (items : List X) (at : ℕ) (d : X) → at < length items
    → Decides false (P (get_or items at d)) → Decides false (All P items)
one_fails P items at d below fails = (λ same. absurd (false≢true same), λ all. fails.1 (all at d below))

pub one_more : {X : Type 0} (P : X → Type 0) (items : List X) (at : ℕ) (d : X) → at < length items
    → All P (take at items) → P (get_or items at d) → All P (take (at + 1) items)
one_more P items at d below before here = All-more P items at d below before here

pub none_left : {X : Type 0} (P : X → Type 0) (items : List X) (at : ℕ) → length items ≤ at
    → All P (take at items) → Decides true (All P items)
none_left P items at past all = (λ _. subst (All P) (take_all at items past) all, λ _. refl)
