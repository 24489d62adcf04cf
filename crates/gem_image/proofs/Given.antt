-- The rights that are given.
use Rattle.std.proofs.Common.{◌≡◌, ◌≢◌, ℕ, List, Option, Some, None, cond, refl, sym, ap, ap₂, subst, ◌∙◌, eq-eqb}
use Rattle.std.proofs.lemmas.Bool.{ne_eqb}
use Rattle.gem_object.specs.texts.Bytes.{Bytes as Text}
use Rattle.gem_object.specs.seg_rights.Right.{IsAtMost}
use Rattle.gem_object.specs.seg_rights.Rights.{IsGreatestRight, as_anybody}
use Rattle.gem_object.specs.seg_rights.declared.right.Right.TheVariants as right
use Rattle.gem_object.specs.seg_rights.declared.rights.Rights.{Rights}
use Rattle.gem_object.proofs.seg_rights_lemmas.Greatest.{greatest_right-is}
use Rattle.gem_object.specs.declared.body.Body.{Body}
use Rattle.gem_object.specs.declared.body.Body.TheVariants.{Segment}
use Rattle.gem_image.specs.Image.{Contents, Objects}
use Rattle.gem_image.specs.Rights.{same_group, rights_of, rights_at, groups_at, right_by, right_in, right_on_segment, right_on_body, right_on_object, right_on}

-- the right on what stands at a name
on_found : (objects : Objects) (user number : ℕ) (object : Contents) → objects number ≡ Some object
    → right_on objects user number ≡ right_on_body objects user object.segment object.body
on_found objects user number object here = ap (right_on_object objects user) here

on_segment : (objects : Objects) (user segment : ℕ) (object : Contents) (rights : Rights Text)
    → objects segment ≡ Some object → object.body ≡ Segment rights
    → right_on objects user segment ≡ right_on_segment rights user
on_segment objects user segment object rights here body =
    on_found objects user segment object here ∙ ap (right_on_body objects user object.segment) body

pub owner_writes : (objects : Objects) (segment : ℕ) (object : Contents) (rights : Rights Text)
    → objects segment ≡ Some object → object.body ≡ Segment rights
    → right_on objects rights.owner segment ≡ right.Write
owner_writes objects segment object rights here body =
    on_segment objects rights.owner segment object rights here body
    ∙ ap (λ b. cond b right.Write right.Read) (eq-eqb rights.owner rights.owner refl)

pub others_read : (objects : Objects) (user segment : ℕ) (object : Contents) (rights : Rights Text)
    → objects segment ≡ Some object → object.body ≡ Segment rights → user ≢ rights.owner
    → right_on objects user segment ≡ right.Read
others_read objects user segment object rights here body other =
    on_segment objects user segment object rights here body
    ∙ ap (λ b. cond b right.Write right.Read) (ne_eqb user rights.owner other)

-- the right on an object that isn't a segment is that in its segment
in_segment : (objects : Objects) (user segment : ℕ) (body : Body) → rights_of body ≡ None
    → right_on_body objects user segment body ≡ right_in objects user segment
in_segment objects user segment (Segment rights) none = cc
in_segment objects user segment _ none = refl

pub greatest_given : (objects : Objects) (user number : ℕ) (object : Contents) (rights : Rights Text)
    (groups : List Text) → objects number ≡ Some object → rights_of object.body ≡ None
    → rights_at objects object.segment ≡ Some rights → groups_at objects user ≡ Some groups
    → IsGreatestRight same_group rights user groups (right_on objects user number)
greatest_given objects user number object rights groups here body given groups_are =
    subst (IsGreatestRight same_group rights user groups)
    (sym (on_found objects user number object here
    ∙ (in_segment objects user object.segment object.body body
    ∙ ap₂ (λ r g. right_by r user g) given groups_are)))
    (greatest_right-is same_group rights user groups)

pub world_given : (objects : Objects) (user number : ℕ) (object : Contents) (rights : Rights Text)
    (groups : List Text) → objects number ≡ Some object → rights_of object.body ≡ None
    → rights_at objects object.segment ≡ Some rights → groups_at objects user ≡ Some groups
    → IsAtMost rights.world_right (right_on objects user number)
world_given objects user number object rights groups here body given groups_are =
    let best = greatest_given objects user number object rights groups here body given groups_are in
    best.greatest rights.world_right as_anybody

-- no right is given by nothing, and none to nobody
by_nothing : (rights : Option (Rights Text)) (user : ℕ) (groups : Option (List Text))
    → rights ≡ None → right_by rights user groups ≡ right.None
by_nothing rights user groups none = ap (λ r. right_by r user groups) none

by_nobody : (rights : Option (Rights Text)) (user : ℕ) → right_by rights user None ≡ right.None
by_nobody None user = refl
by_nobody (Some rights) user = refl

pub none_without_object : (objects : Objects) (user number : ℕ) → objects number ≡ None
    → right_on objects user number ≡ right.None
none_without_object objects user number none = ap (right_on_object objects user) none

pub none_without_segment : (objects : Objects) (user segment : ℕ) → rights_at objects segment ≡ None
    → right_in objects user segment ≡ right.None
none_without_segment objects user segment none =
    by_nothing (rights_at objects segment) user (groups_at objects user) none

pub none_without_user : (objects : Objects) (user segment : ℕ) → groups_at objects user ≡ None
    → right_in objects user segment ≡ right.None
none_without_user objects user segment none =
    ap (right_by (rights_at objects segment) user) none ∙ by_nobody (rights_at objects segment) user
