-- Touches: what one adds, and what it leaves.
use Rattle.std.proofs.Common.{◌≡◌, ◌⊎◌, ◌∙◌, ap, sym, inl, inr, ℕ, List, [], ◌∷◌, ◌++◌, true, false, Some, None, Option, nat_eq, ◌||◌, refl, rules}
use Rattle.std.proofs.lemmas.Bool.{cond_both}
use Rattle.std.proofs.lemmas.List.Folds.{list_any-append}
use Rattle.gem_image.specs.Image.{Contents}
use Rattle.gem_world.specs.World.{Setting, World, is_among, with_name, is_made, is_private, touch, shown}
use Rattle.gem_world.specs.Access.{IsTouched, touches_of, with_touches}

still_among : (names : List ℕ) (name other : ℕ) → is_among other names ≡ true
    → is_among other (with_name names name) ≡ true
still_among names name other here = cond_both (is_among name names) names (names ++ name ∷ [])
    (λ some. is_among other some ≡ true) (λ _. here)
    (λ _. list_any-append (nat_eq other) names (name ∷ [])
    ∙ ap (λ first. first || is_among other (name ∷ [])) here)

now_among : (names : List ℕ) (name : ℕ) → is_among name (with_name names name) ≡ true
now_among names name = cond_both (is_among name names) names (names ++ name ∷ [])
    (λ some. is_among name some ≡ true) (λ there. there) (λ _. search (list_any-append, rules))

pub recorded : (name : ℕ) (setting : Setting) (world : World) → is_private name setting world ≡ false
    → IsTouched name (touch name setting world)
unfolding touch
recorded name setting world apart = rw apart (now_among world.touched name)

pub unrecorded : (name : ℕ) (setting : Setting) (world : World) → is_private name setting world ≡ true
    → touch name setting world ≡ world
unfolding touch
unrecorded name setting world private = rw private refl

pub kept : (name other : ℕ) (setting : Setting) (world : World) → IsTouched other world
    → IsTouched other (touch name setting world)
unfolding touch
kept name other setting world here = cond_both (is_private name setting world) world.touched
    (with_name world.touched name) (λ some. is_among other some ≡ true) (λ _. here)
    (λ _. still_among world.touched name other here)

kept_of : (name other : ℕ) (there : Option Contents) (setting : Setting) (world : World)
    → IsTouched other world → IsTouched other (touches_of name there setting world)
kept_of name other None setting world here = kept name other setting world here
kept_of name other (Some object) setting world here =
    let once = kept name other setting world here in
    let twice = kept object.segment other setting (touch name setting world) once in
    kept setting.user other setting (touch object.segment setting (touch name setting world)) twice

pub kept_by_access : (name other : ℕ) (setting : Setting) (world : World)
    → IsTouched other world → IsTouched other (with_touches name setting world)
unfolding with_touches
kept_by_access name other setting world here =
    kept_of name other (shown name setting world) setting world here

next_of : (name : ℕ) (there : Option Contents) (setting : Setting) (world : World)
    → (touches_of name there setting world).next ≡ world.next
unfolding touch
next_of name None setting world = refl
next_of name (Some object) setting world = refl

-- an access draws no name
pub same_next : (name : ℕ) (setting : Setting) (world : World)
    → (with_touches name setting world).next ≡ world.next
unfolding with_touches
same_next name setting world = next_of name (shown name setting world) setting world

-- what is private stays so whatever is touched
same_private : (name other : ℕ) (setting : Setting) (world : World)
    → is_private other setting (touch name setting world) ≡ is_private other setting world
unfolding touch is_private is_made
same_private name other setting world = refl

three : (name other : ℕ) (object : Contents) (setting : Setting) (world : World)
    → is_private other setting world ≡ false
    → (other ≡ name) ⊎ ((other ≡ object.segment) ⊎ (other ≡ setting.user))
    → IsTouched other (touches_of name (Some object) setting world)
three name other object setting world apart (inl same) =
    let once = touch name setting world in
    let here : IsTouched other once = rw same (recorded name setting world (ap (λ n. is_private n setting world) (sym same) ∙ apart)) in
    kept setting.user other setting (touch object.segment setting once)
    (kept object.segment other setting once here)
three name other object setting world apart (inr (inl same)) =
    let once = touch name setting world in
    let free : is_private object.segment setting once ≡ false
    = ap (λ n. is_private n setting once) (sym same) ∙ (same_private name other setting world ∙ apart) in
    let here : IsTouched other (touch object.segment setting once)
    = rw same (recorded object.segment setting once free) in
    kept setting.user other setting (touch object.segment setting once) here
three name other object setting world apart (inr (inr same)) =
    let once = touch name setting world in
    let twice = touch object.segment setting once in
    let free : is_private setting.user setting twice ≡ false
    = ap (λ n. is_private n setting twice) (sym same)
    ∙ (same_private object.segment other setting once ∙ (same_private name other setting world ∙ apart)) in
    rw same (recorded setting.user setting twice free)

pub three_touched : (name other : ℕ) (object : Contents) (setting : Setting) (world : World)
    → shown name setting world ≡ Some object
    → (other ≡ name) ⊎ ((other ≡ object.segment) ⊎ (other ≡ setting.user))
    → is_private other setting world ≡ false → IsTouched other (with_touches name setting world)
unfolding with_touches
three_touched name other object setting world there one apart =
    rw there (three name other object setting world apart one)
