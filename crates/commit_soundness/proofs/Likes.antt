-- A body in place of one of the same reduced-conflict class: the fixed part stays, and the guard asks
-- no more than that what it refers to is there, and that it can be stored.
use Rattle.std.proofs.Common.{◌≡◌, ◌∙◌, refl, sym, ap, ap₂, ℕ, true, false, ◌&&◌, ◌||◌, Option, Some, None, []}
use Rattle.std.specs.List.{list_all}
use Rattle.std.proofs.lemmas.Bool.{false≢true, and_parts, and_from}
use Rattle.commit_check.specs.gem_object.Kinds as kinds
use Rattle.commit_check.specs.gem_object.Kinds.{is_shared}
use Rattle.commit_check.specs.gem_object.declared.kind.Kind.{Kind}
use Rattle.commit_check.specs.gem_object.declared.kind.Kind.TheVariants as kind
use Rattle.commit_check.specs.gem_object.declared.body.Body.{Body}
use Rattle.commit_check.specs.gem_object.declared.body.Body.TheVariants as body
use Rattle.commit_check.specs.gem_image.Image.{Contents}
use Rattle.commit_check.specs.gem_world.Changes.{with_body}
use Rattle.gem_meaning.specs.gem_sound.Kernel.{KernelBody, a_class, a_dictionary, a_segment, a_user, no_slots, kernel_body, has_kind}
use Rattle.gem_meaning.specs.gem_sound.Sound.{names_in}
use Rattle.gem_meaning.specs.object_programs.Fixed.{BodyKind, body_kind, ClassPart, class_part, Fixed, fixed_of}
use Rattle.gem_meaning.specs.object_programs.Guard.{Parts, holds_of, is_known, names_at, has_slots, accepts_by, named_fit, kernel_fits_by, place_fits, fits}
use Rattle.gem_meaning.specs.object_programs.Methods.{methods_fit}
use Rattle.gem_meaning.specs.object_programs.Spelled.{is_spelled}
use Rattle.commit_soundness.proofs.Values.{IsLike, counters, bags_both, dicts_both, queues_both}

-- both are reduced-conflict bodies
pub likes_shared : {one other : Body} → IsLike one other → (is_shared one ≡ true) × (is_shared other ≡ true)
likes_shared (counters one other) = (refl, refl)
likes_shared (bags_both one other) = (refl, refl)
likes_shared (dicts_both one other) = (refl, refl)
likes_shared (queues_both one other) = (refl, refl)

likes_kind : {one other : Body} → IsLike one other → body_kind other ≡ body_kind one
likes_kind (counters one other) = refl
likes_kind (bags_both one other) = refl
likes_kind (dicts_both one other) = refl
likes_kind (queues_both one other) = refl

likes_part : {one other : Body} → IsLike one other → class_part other ≡ class_part one
likes_part (counters one other) = refl
likes_part (bags_both one other) = refl
likes_part (dicts_both one other) = refl
likes_part (queues_both one other) = refl

-- the fixed part stays
pub likes_fixed : (old : Contents) (new : Body) → IsLike old.body new → fixed_of (with_body new old) ≡ fixed_of old
likes_fixed old new like = ap₂ (λ (kind : BodyKind) (part : Option ClassPart).
    record { class = old.class; kind = kind; as_class = part }) (likes_kind like) (likes_part like)

-- ---- the guard

kind_like : {one other : Body} → IsLike one other → (of : Kind) → kinds.fits of other ≡ kinds.fits of one
kind_like (counters one other) kind.Counter = refl
kind_like (counters one other) _ = refl
kind_like (bags_both one other) kind.Bag = refl
kind_like (bags_both one other) _ = refl
kind_like (dicts_both one other) kind.RcDict = refl
kind_like (dicts_both one other) _ = refl
kind_like (queues_both one other) kind.Queue = refl
kind_like (queues_both one other) _ = refl

-- no object of the kernel is a reduced-conflict one
not_of_kernel : (of : KernelBody) (some : Body) → is_shared some ≡ true → has_kind of some ≡ false
not_of_kernel a_class (body.Class class) shared = absurd (false≢true shared)
not_of_kernel a_dictionary (body.Dict pairs) shared = absurd (false≢true shared)
not_of_kernel a_segment (body.Segment rights) shared = absurd (false≢true shared)
not_of_kernel a_user (body.User user) shared = absurd (false≢true shared)
not_of_kernel no_slots (body.Plain []) shared = absurd (false≢true shared)
not_of_kernel _ _ shared = refl

kernel_like : (row : Option KernelBody) (one other : Body) → is_shared one ≡ true → is_shared other ≡ true
    → kernel_fits_by row other ≡ kernel_fits_by row one
kernel_like None one other first second = refl
kernel_like (Some of) one other first second = not_of_kernel of other second ∙ sym (not_of_kernel of one first)

module _ (parts : Parts) where
  part_like : {one other : Body} → IsLike one other → (class : ℕ) (part : ClassPart)
      → accepts_by parts class other (Some part) ≡ accepts_by parts class one (Some part)
  part_like (counters one other) class part =
      ap (λ b. (b && holds_of (has_slots (body.Counter one)) (names_at parts class)) || (false || false))
      (kind_like (counters one other) part.kind)
  part_like (bags_both one other) class part =
      ap (λ b. (b && holds_of (has_slots (body.Bag one)) (names_at parts class)) || (false || false))
      (kind_like (bags_both one other) part.kind)
  part_like (dicts_both one other) class part =
      ap (λ b. (b && holds_of (has_slots (body.RcDict one)) (names_at parts class)) || (false || false))
      (kind_like (dicts_both one other) part.kind)
  part_like (queues_both one other) class part =
      ap (λ b. (b && holds_of (has_slots (body.Queue one)) (names_at parts class)) || (false || false))
      (kind_like (queues_both one other) part.kind)

  accept_like : {one other : Body} → IsLike one other → (class : ℕ) (found : Option ClassPart)
      → accepts_by parts class other found ≡ accepts_by parts class one found
  accept_like like class None = refl
  accept_like like class (Some part) = part_like like class part

  found_like : {one other : Body} → IsLike one other → (class : ℕ) (found : Option Fixed)
      → holds_of (λ fixed. accepts_by parts class other fixed.as_class) found
      ≡ holds_of (λ fixed. accepts_by parts class one fixed.as_class) found
  found_like like class None = refl
  found_like like class (Some fixed) = accept_like like class fixed.as_class

  named_like : {one other : Body} → IsLike one other → named_fit parts other ≡ true
  named_like (counters one other) = refl
  named_like (bags_both one other) = refl
  named_like (dicts_both one other) = refl
  named_like (queues_both one other) = refl

  place_like : {one other : Body} → IsLike one other → (name : ℕ) → place_fits parts name (class_part other) ≡ true
  place_like (counters one other) name = refl
  place_like (bags_both one other) name = refl
  place_like (dicts_both one other) name = refl
  place_like (queues_both one other) name = refl

  methods_like : {one other : Body} → IsLike one other → (name : ℕ) → methods_fit name other ≡ true
  methods_like (counters one other) name = refl
  methods_like (bags_both one other) name = refl
  methods_like (dicts_both one other) name = refl
  methods_like (queues_both one other) name = refl

  -- where the object fits, it fits with the other body
  pub likes_fit : (name : ℕ) (old : Contents) (new : Body) → IsLike old.body new → fits parts name old ≡ true
      → list_all (is_known parts) (names_in (with_body new old)) ≡ true → is_spelled new ≡ true
      → fits parts name (with_body new old) ≡ true
  unfolding fits
  likes_fit name old new like fitting known spelled =
      let shared = likes_shared like in
      let first = and_parts _ _ fitting in
      let second = and_parts _ _ first.1 in
      let third = and_parts _ _ second.1 in
      let fourth = and_parts _ _ third.1 in
      let fifth = and_parts _ _ fourth.1 in
      let sixth = and_parts _ _ fifth.1 in
      and_from _ _ first.0
      (and_from _ _ known
      (and_from _ _ third.0
      (and_from _ _ (found_like like old.class (parts old.class) ∙ fourth.0)
      (and_from _ _ (named_like like)
      (and_from _ _ (kernel_like (kernel_body name) old.body new shared.0 shared.1 ∙ sixth.0)
      (and_from _ _ (place_like like name)
      (and_from _ _ (methods_like like name) spelled)))))))
