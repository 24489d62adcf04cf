-- A map as the list of its pairs, in the order in which their keys came: what it has at a key, and
-- what a put or a removal leaves of it.
use Rattle.std.specs.Prelude.{◌≡◌, Bool, false, if◌then◌else◌, ⊤, List, [], ◌∷◌, Option, Some, None}
use Rattle.std.specs.List.{AllByRecursion}

module _ {K T : Type 0} (eq : K → K → Bool) where
  -- no key stands twice
  abbrev pub AreDistinct : List (K × T) → Type 0
  AreDistinct [] = ⊤
  AreDistinct (pair ∷ rest) =
      AllByRecursion (λ later. eq pair.0 later.0 ≡ false) rest × AreDistinct rest

  -- the key's value, if it has one
  abbrev pub entry_of : K → List (K × T) → Option T
  entry_of key [] = None
  entry_of key (pair ∷ rest) = if eq key pair.0 then Some pair.1 else entry_of key rest

  -- with this value at the key: a key that is there keeps its place, and a new one comes last
  abbrev pub with_pair : K → T → List (K × T) → List (K × T)
  with_pair key value [] = (key, value) ∷ []
  with_pair key value (pair ∷ rest) =
      if eq key pair.0 then (pair.0, value) ∷ rest else pair ∷ with_pair key value rest

  -- without the key's pair, if there is one; the others stay in their order
  abbrev pub without_key : K → List (K × T) → List (K × T)
  without_key key [] = []
  without_key key (pair ∷ rest) = if eq key pair.0 then rest else pair ∷ without_key key rest
