-- Bodies, one behind the other.
use Rattle.std.proofs.Common.{◌≡◌, ℕ, ◌-◌, ◌+◌, ◌^◌, List, [], ◌∷◌, ◌++◌, length, set, sym, ap, ◌∙◌, append_assoc, arith}
use Rattle.std.proofs.lemmas.List.{set_at, length-append, map-append}
use Rattle.gem_record.specs.declared.mode.Mode.{Mode}
use Rattle.gem_record.specs.declared.effect.Effect.{Effect}
use Rattle.body_codec.specs.Spelled.{four_bytes, eight_bytes}
use Rattle.body_codec.proofs.Lengths.{four_long, eight_long}
use Rattle.tran_log.specs.Log.{Format2, mode_byte, spelled, spelled_record, chain, in_format_2, written, AreBodies}
use Rattle.tran_log.proofs.Walks.{chain_more}

tail_is : (x y : ℕ) (xs ys : List ℕ) → x ∷ xs ≡ y ∷ ys → xs ≡ ys
tail_is x y xs ys e = cc

head_is : (x y : ℕ) (xs ys : List ℕ) → x ∷ xs ≡ y ∷ ys → x ≡ y
head_is x y xs ys e = cc

chain_ends : (more : List (Mode × Effect)) (mode : Mode) (effect : Effect) (body : List ℕ) → body ≡ spelled_record mode effect ++ (0 ∷ [])
    → chain (written more) ++ (1 ∷ body) ≡ chain (written (more ++ (mode, effect) ∷ [])) ++ (0 ∷ [])
chain_ends more mode effect body is =
    let one = Format2 mode effect in
    ap (λ (l : List ℕ). chain (written more) ++ (1 ∷ l)) is
    ∙ sym (append_assoc (chain (written more)) (1 ∷ spelled one) (0 ∷ []))
    ∙ ap (λ (l : List ℕ). l ++ (0 ∷ [])) (sym (chain_more (written more) one)
    ∙ ap chain (sym (map-append in_format_2 more ((mode, effect) ∷ []))))

pub bodies_more : (more : List (Mode × Effect)) (mode : Mode) (effect : Effect) (old body new : List ℕ)
    → AreBodies more old → body ≡ spelled_record mode effect ++ (0 ∷ []) → new ≡ set (old ++ body) (length old - 1) 1
    → AreBodies (more ++ (mode, effect) ∷ []) new
bodies_more [] mode effect old body new are is made = absurd (omega (arith, head_is 1 0 old [] are))
bodies_more (first ∷ more) mode effect old body new are is made =
    let front = spelled (in_format_2 first) ++ chain (written more) in
    let old_is : old ≡ front ++ (0 ∷ []) = tail_is 1 1 old (front ++ (0 ∷ [])) are in
    let last : length front ≡ length old - 1 = omega (arith, ap length old_is, length-append front (0 ∷ [])) in
    let new_is : new ≡ front ++ (1 ∷ body) =
    made ∙ ap (λ (l : List ℕ). set (l ++ body) (length old - 1) 1) old_is
    ∙ ap (λ (l : List ℕ). set l (length old - 1) 1) (append_assoc front (0 ∷ []) body)
    ∙ set_at front 0 body 1 (length old - 1) last in
    ap (λ (l : List ℕ). 1 ∷ l) new_is ∙ chain_ends (first ∷ more) mode effect body is

-- no bodies end before their gate
pub some_bytes : (more : List (Mode × Effect)) → AreBodies more [] → ⊥
some_bytes [] are = absurd (omega (arith, head_is 1 0 [] [] are))
some_bytes (first ∷ more) are =
    let front = spelled (in_format_2 first) ++ chain (written more) in
    let none : [] ≡ front ++ (0 ∷ []) = tail_is 1 1 [] (front ++ (0 ∷ [])) are in
    absurd (omega (arith, ap length none, length-append front (0 ∷ [])))

pub body_long : (number : ℕ) (mode : Mode) (effect body : List ℕ)
    → body ≡ (four_bytes (2 ^ 31 + (1 + length effect)) ++ (eight_bytes number ++ (mode_byte mode ∷ effect))) ++ (0 ∷ [])
    → length body ≡ 14 + length effect
body_long number mode effect body is =
    let word = 2 ^ 31 + (1 + length effect) in
    let back = mode_byte mode ∷ effect in
    let whole = length-append (four_bytes word ++ (eight_bytes number ++ back)) (0 ∷ []) in
    let front = length-append (four_bytes word) (eight_bytes number ++ back) in
    let middle = length-append (eight_bytes number) back in
    ap length is ∙ omega (arith, whole, front, middle, four_long word, eight_long number)
