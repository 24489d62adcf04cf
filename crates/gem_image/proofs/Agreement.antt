-- When images agree on a name, and that rights go by what they agree on.
use Rattle.std.proofs.Common.{◌≡◌, ◌↔◌, ℕ, Option, Some, None, refl, sym, ap, ap₂, ◌∙◌}
use Rattle.std.specs.Option.{option_map, option_and_then}
use Rattle.std.specs.FinMap.{get}
use Rattle.gem_object.specs.seg_rights.declared.right.Right.TheVariants as right
use Rattle.gem_object.specs.declared.body.Body.{Body}
use Rattle.gem_object.specs.declared.body.Body.TheVariants.{Segment}
use Rattle.gem_object.specs.declared.object.Object.{Object}
use Rattle.gem_image.specs.Image.{Image, Contents, Objects, contents_of, Agree}
use Rattle.gem_image.specs.Rights.{rights_of, groups_of, right_by, right_in, right_on_body, right_on_object, right_on}

-- two contents with the same parts are the same
same_contents : (object found : Object) → Some (contents_of object) ≡ Some (contents_of found)
    ↔ ((object.class ≡ found.class) × (object.segment ≡ found.segment) × (object.body ≡ found.body))
same_contents object found = (
  λ same.
      let one : contents_of object ≡ contents_of found = cc in
      (ap (λ (c : Contents). c.class) one, ap (λ (c : Contents). c.segment) one, ap (λ (c : Contents). c.body) one),
  λ parts i. Some record { class = parts.0 i; segment = parts.1 i; body = parts.2 i },
)

agree_by : (here there : Option Object) (object found : Object) → here ≡ Some object → there ≡ Some found
    → option_map contents_of here ≡ option_map contents_of there
    ↔ ((object.class ≡ found.class) × (object.segment ≡ found.segment) × (object.body ≡ found.body))
agree_by here there object found is stands = rw (is, stands) (same_contents object found)

pub agree_objects : (image other : Image) (number : ℕ) (object found : Object)
    → get image number ≡ Some object → get other number ≡ Some found
    → Agree image other number
    ↔ ((object.class ≡ found.class) × (object.segment ≡ found.segment) × (object.body ≡ found.body))
agree_objects image other number object found = agree_by (get image number) (get other number) object found

nothing_there : (there : Option Object) → None ≡ option_map contents_of there ↔ (there ≡ None)
nothing_there None = (λ _. refl, λ _. refl)
nothing_there (Some object) = (λ same. cc, λ same. cc)

none_by : (here there : Option Object) → here ≡ None
    → option_map contents_of here ≡ option_map contents_of there ↔ (there ≡ None)
none_by here there is = rw is (nothing_there there)

pub agree_none : (image other : Image) (number : ℕ) → get image number ≡ None
    → Agree image other number ↔ (get other number ≡ None)
agree_none image other number = none_by (get image number) (get other number)

-- a body has the same right where its segment gives the same
body_stays : (objects other : Objects) (user segment : ℕ) (body : Body)
    → right_in other user segment ≡ right_in objects user segment
    → right_on_body other user segment body ≡ right_on_body objects user segment body
body_stays objects other user segment (Segment rights) same = refl
body_stays objects other user segment _ same = same

pub right_stays : (objects other : Objects) (user number : ℕ) (object : Contents)
    → objects number ≡ Some object → other number ≡ objects number
    → other object.segment ≡ objects object.segment → other user ≡ objects user
    → right_on other user number ≡ right_on objects user number
right_stays objects other user number object here same same_segment same_user =
    let given = ap (option_and_then (λ (o : Contents). rights_of o.body)) same_segment in
    let groups = ap (option_and_then (λ (o : Contents). groups_of o.body)) same_user in
    ap (right_on_object other user) (same ∙ here)
    ∙ (body_stays objects other user object.segment object.body
    (ap₂ (λ r g. right_by r user g) given groups)
    ∙ sym (ap (right_on_object objects user) here))
