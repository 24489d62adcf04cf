-- The blocks that are pushed in a text, as they are found among what the compiler put out.
use Rattle.std.proofs.Common.{◌≡◌, ◌∙◌, refl, ap, subst, ℕ, ◌<◌, ◌≤◌, ◌⊎◌, inl, inr, List, length, get_or, slice_get, Option, None, Some, option_map, unwrap_or}
use Rattle.std.proofs.lemmas.Option.{slice_get-get_or, slice_get_cases}
use Rattle.st_tree.specs.Trees.{Closure, closure, Program}
use Rattle.tree_meaning.specs.Bodies.{params_count, temps_count}
use Rattle.st_compiler.specs.Instruction.{Instruction}
use Rattle.st_compiler.specs.Code.{Piece}
use Rattle.st_compiler.specs.Emitted.{Body, tree_body, piece_body}
use Rattle.st_machine.specs.Parts.{table_of, no_piece, piece_of}

abbrev IsSome : Option Body → Type 0
IsSome (Some body) = Unit {0}
IsSome None = ⊥

params_by : (tree : Closure) (code : List Instruction) → (tree_body tree code).params ≡ params_count tree
params_by (closure params temps body) code = refl

temps_by : (tree : Closure) (code : List Instruction) → (tree_body tree code).temps ≡ temps_count tree
temps_by (closure params temps body) code = refl

code_by : (tree : Closure) (code : List Instruction) → (tree_body tree code).code ≡ code
code_by (closure params temps body) code = refl

module _ (tree : Program) (number : ℕ) where
  pub there : number < length (table_of tree) → slice_get (table_of tree) number ≡ Some (piece_of tree number)
  there within = slice_get-get_or (table_of tree) number no_piece within

  module _ (body : Body) (is : Some body ≡ option_map piece_body (slice_get (table_of tree) number)) where
    within_by : ((piece : Piece) × (number < length (table_of tree))
        × (slice_get (table_of tree) number ≡ Some piece) × (get_or (table_of tree) number piece ≡ piece))
        ⊎ ((length (table_of tree) ≤ number) × (slice_get (table_of tree) number ≡ None))
        → number < length (table_of tree)
    within_by (inl found) = found.1
    within_by (inr past) =
        absurd (subst IsSome (is ∙ ap (λ (found : Option Piece). option_map piece_body found) past.1) tt)

    pub within : number < length (table_of tree)
    within = within_by (slice_get_cases (table_of tree) number).1

    body_is : body ≡ piece_body (piece_of tree number)
    body_is = ap (λ (found : Option Body). unwrap_or found body)
        (is ∙ ap (λ (found : Option Piece). option_map piece_body found) (there within))

    pub params_are : body.params ≡ params_count (piece_of tree number).tree
    params_are = ap (λ (one : Body). one.params) body_is
        ∙ params_by (piece_of tree number).tree (piece_of tree number).code

    pub temps_are : body.temps ≡ temps_count (piece_of tree number).tree
    temps_are = ap (λ (one : Body). one.temps) body_is
        ∙ temps_by (piece_of tree number).tree (piece_of tree number).code

    pub code_is : body.code ≡ (piece_of tree number).code
    code_is = ap (λ (one : Body). one.code) body_is
        ∙ code_by (piece_of tree number).tree (piece_of tree number).code
