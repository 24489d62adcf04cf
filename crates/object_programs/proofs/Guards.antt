-- The guard: what it says of more objects, and which objects it asks for.
use Rattle.std.proofs.Common.{◌≡◌, ◌∙◌, refl, sym, ap, ap₂, subst, ℕ, zero, suc, ◌+◌, Bool, true, false, ◌&&◌, ◌||◌, nat_eq, nat_lt, Option, Some, None, List, [], ◌∷◌, ◌++◌, option_map}
use Rattle.std.specs.List.{list_all}
use Rattle.std.specs.Option.{option_to_list}
use Rattle.std.proofs.lemmas.Bool.{false≢true, and_parts, and_from, or_left, or_right, eq-eqb}
use Rattle.std.proofs.lemmas.List.Folds.{list_any-append}
use Rattle.gem_object.specs.texts.Bytes.{Bytes as Text}
use Rattle.gem_object.specs.Kinds as kinds
use Rattle.gem_object.specs.References.{names_in_body}
use Rattle.gem_sound.specs.Sound.{names_in}
use Rattle.gem_object.specs.declared.kind.Kind.{Kind}
use Rattle.gem_object.specs.declared.body.Body.{Body}
use Rattle.gem_object.specs.declared.body.Body.TheVariants.{Plain, Bytes, Dict, Class, Segment, User, Counter, Bag, RcDict, Queue}
use Rattle.gem_world.specs.gem_image.Image.{Contents}
use Rattle.gem_world.specs.World.{is_among}
use Rattle.gem_sound.specs.Kernel.{KernelClass, kernel_class}
use Rattle.gem_sound.specs.Sound.{has_named_slots}
use Rattle.object_programs.specs.Fixed.{ClassPart, class_part, Fixed, same_kind}
use Rattle.object_programs.specs.Guard.{Parts, holds_of, is_there, is_segment, is_user, is_dictionary, is_known, is_segment_at, is_dictionary_at, names_above, names_of_class, names_of_part, names_within, chain_limit, names_at, has_slots, is_class_object, is_transcript, accepts_by, accepts, named_fit, kernel_fits, kind_is_inherited, row_fits, has_none, are_few, place_fits, fits, line_above, line_of_class, line_of_part, line_within, line_at, asked_names, all_fit}
use Rattle.object_programs.specs.Methods.{methods_fit}
use Rattle.object_programs.specs.Spelled.{is_spelled}
use Rattle.object_programs.specs.Atom.{asked_by_all}
use Rattle.object_programs.specs.Laws.{KeepsParts}

-- two tests that hold after one another
both : (a b c d : Bool) → (a ≡ true → c ≡ true) → (b ≡ true → d ≡ true) → a && b ≡ true → c && d ≡ true
both a b c d first second holds =
    let parts = and_parts a b holds in and_from c d (first parts.0) (second parts.1)

either : (a b c : Bool) → (a ≡ true → b ≡ true) → a || c ≡ true → b || c ≡ true
either true b c first holds = or_left b c (first refl)
either false b c first holds = or_right b c holds

holds_more : {X : Type 0} (test more : X → Bool) (found later : Option X)
    → ((x : X) → found ≡ Some x → later ≡ Some x) → ((x : X) → test x ≡ true → more x ≡ true)
    → holds_of test found ≡ true → holds_of more later ≡ true
holds_more test more None later stays wider holds = absurd (false≢true holds)
holds_more test more (Some x) later stays wider holds =
    subst (λ found. holds_of more found ≡ true) (sym (stays x refl)) (wider x holds)

-- More objects: every test that held still holds.
mapped_more : (edit : List Text → List Text) (found later : Option (List Text)) (names : List Text)
    → ((inherited : List Text) → found ≡ Some inherited → later ≡ Some inherited)
    → option_map edit found ≡ Some names → option_map edit later ≡ Some names
mapped_more edit None later names stays is = cc
mapped_more edit (Some inherited) later names stays is = ap (option_map edit) (stays inherited refl) ∙ is

above_more : (name : ℕ) (superclass : Option ℕ) (above higher : ℕ → Option (List Text))
    → ((other : ℕ) (some : List Text) → above other ≡ Some some → higher other ≡ Some some)
    → (names : List Text) → names_above name superclass above ≡ Some names
    → names_above name superclass higher ≡ Some names
above_more name None above higher stays names is = is
above_more name (Some superclass) above higher stays names is = stays superclass names is

class_more : (name : ℕ) (as_class : Option ClassPart) (above higher : ℕ → Option (List Text)) (names : List Text)
    → ((other : ℕ) (some : List Text) → above other ≡ Some some → higher other ≡ Some some)
    → names_of_class name as_class above ≡ Some names → names_of_class name as_class higher ≡ Some names
class_more name None above higher names stays is = is
class_more name (Some part) above higher names stays is =
    mapped_more (λ inherited. inherited ++ part.names) (names_above name part.superclass above)
    (names_above name part.superclass higher) names (above_more name part.superclass above higher stays) is

module _ (parts later : Parts) (keeps : KeepsParts parts later) where
  pub found_more : (name : ℕ) (found : Option Fixed) (above higher : ℕ → Option (List Text)) (names : List Text)
      → parts name ≡ found
      → ((other : ℕ) (some : List Text) → above other ≡ Some some → higher other ≡ Some some)
      → names_of_part name found above ≡ Some names → names_of_part name (later name) higher ≡ Some names
  found_more name None above higher names at stays is = cc
  found_more name (Some fixed) above higher names at stays is =
      subst (λ found. names_of_part name found higher ≡ Some names) (sym (keeps name fixed at))
      (class_more name fixed.as_class above higher names stays is)

  names_more : (limit name : ℕ) (names : List Text) → names_within parts limit name ≡ Some names
      → names_within later limit name ≡ Some names
  names_more zero name names is = cc
  names_more (suc limit) name names is = found_more name (parts name) (names_within parts limit)
      (names_within later limit) names refl (names_more limit) is

  names_at_more : (name : ℕ) (names : List Text) → names_at parts name ≡ Some names → names_at later name ≡ Some names
  unfolding names_at
  names_at_more name names is = names_more chain_limit name names is

  pub known_more : (test : Fixed → Bool) (name : ℕ) → holds_of test (parts name) ≡ true
      → holds_of test (later name) ≡ true
  known_more test name holds = holds_more test test (parts name) (later name) (keeps name) (λ x same. same) holds

  all_more : (names : List ℕ) → list_all (is_known parts) names ≡ true → list_all (is_known later) names ≡ true
  all_more [] holds = holds
  all_more (name ∷ names) holds = both (is_known parts name) (list_all (is_known parts) names) (is_known later name)
      (list_all (is_known later) names) (known_more is_there name) (all_more names) holds

  accepts_by_more : (class : ℕ) (body : Body) (as_class : Option ClassPart)
      → accepts_by parts class body as_class ≡ true → accepts_by later class body as_class ≡ true
  accepts_by_more class body None holds = holds
  accepts_by_more class body (Some part) holds =
      either (kinds.fits part.kind body && holds_of (has_slots body) (names_at parts class))
      (kinds.fits part.kind body && holds_of (has_slots body) (names_at later class))
      (is_class_object class body || is_transcript class body)
      (both (kinds.fits part.kind body) (holds_of (has_slots body) (names_at parts class))
      (kinds.fits part.kind body) (holds_of (has_slots body) (names_at later class)) (λ same. same)
      (holds_more (has_slots body) (has_slots body) (names_at parts class) (names_at later class)
      (names_at_more class) (λ x same. same)))
      holds

  accepts_more : (class : ℕ) (body : Body) → accepts parts class body ≡ true → accepts later class body ≡ true
  accepts_more class body holds = holds_more (λ fixed. accepts_by parts class body fixed.as_class)
      (λ fixed. accepts_by later class body fixed.as_class) (parts class) (later class) (keeps class)
      (λ fixed. accepts_by_more class body fixed.as_class) holds

  named_more : (body : Body) → named_fit parts body ≡ true → named_fit later body ≡ true
  named_more (Segment rights) holds = known_more (λ fixed. is_user fixed.kind) rights.owner holds
  named_more (User user) holds = both (is_segment_at parts user.default_segment) (is_dictionary_at parts user.globals)
      (is_segment_at later user.default_segment) (is_dictionary_at later user.globals)
      (known_more (λ fixed. is_segment fixed.kind) user.default_segment)
      (known_more (λ fixed. is_dictionary fixed.kind) user.globals) holds
  named_more (Plain values) holds = holds
  named_more (Bytes bytes) holds = holds
  named_more (Dict pairs) holds = holds
  named_more (Class class) holds = holds
  named_more (Counter counter) holds = holds
  named_more (Bag pairs) holds = holds
  named_more (RcDict pairs) holds = holds
  named_more (Queue queue) holds = holds

  inherited_more : (superclass : Option ℕ) (kind : Kind) → kind_is_inherited parts superclass kind ≡ true
      → kind_is_inherited later superclass kind ≡ true
  inherited_more None kind holds = holds
  inherited_more (Some superclass) kind holds =
      known_more (λ fixed. holds_of (λ above. same_kind above.kind kind) fixed.as_class) superclass holds

  row_more : (row : Option KernelClass) (part : ClassPart) → row_fits parts row part ≡ true
      → row_fits later row part ≡ true
  row_more (Some row) part holds = holds
  row_more None part holds = inherited_more part.superclass part.kind holds

  place_more : (name : ℕ) (as_class : Option ClassPart) → place_fits parts name as_class ≡ true
      → place_fits later name as_class ≡ true
  place_more name None holds = holds
  place_more name (Some part) holds =
      let named = has_none part.names || has_named_slots part.kind in
      both (holds_of are_few (names_of_class name (Some part) (names_at parts)))
      (row_fits parts (kernel_class name) part && named)
      (holds_of are_few (names_of_class name (Some part) (names_at later)))
      (row_fits later (kernel_class name) part && named)
      (holds_more are_few are_few (names_of_class name (Some part) (names_at parts))
      (names_of_class name (Some part) (names_at later))
      (λ names. class_more name (Some part) (names_at parts) (names_at later) names names_at_more)
      (λ x same. same))
      (both (row_fits parts (kernel_class name) part) named (row_fits later (kernel_class name) part) named
      (row_more (kernel_class name) part) (λ same. same))
      holds

  pub fits_more : (name : ℕ) (object : Contents) → fits parts name object ≡ true → fits later name object ≡ true
  unfolding fits
  fits_more name object holds =
      let first = and_parts _ _ holds in
      let second = and_parts _ _ first.1 in
      let third = and_parts _ _ second.1 in
      let fourth = and_parts _ _ third.1 in
      let fifth = and_parts _ _ fourth.1 in
      let sixth = and_parts _ _ fifth.1 in
      let seventh = and_parts _ _ sixth.1 in
      and_from _ _ first.0
      (and_from _ _ (all_more (names_in object) second.0)
      (and_from _ _ (known_more (λ fixed. is_segment fixed.kind) object.segment third.0)
      (and_from _ _ (accepts_more object.class object.body fourth.0)
      (and_from _ _ (named_more object.body fifth.0)
      (and_from _ _ sixth.0
      (and_from _ _ (place_more name (class_part object.body) seventh.0) seventh.1))))))

  pub all_fit_more : (name : ℕ) (objects : List Contents) → all_fit parts name objects ≡ true
      → all_fit later name objects ≡ true
  all_fit_more name [] holds = holds
  all_fit_more name (object ∷ rest) holds = both (fits parts name object) (all_fit parts (name + 1) rest)
      (fits later name object) (all_fit later (name + 1) rest) (fits_more name object) (all_fit_more (name + 1) rest)
      holds

-- The same objects at the names that are asked for: the same answer.
abbrev pub SameOn : Parts → Parts → List ℕ → Type 0
SameOn parts later names = (name : ℕ) → is_among name names ≡ true → later name ≡ parts name

module _ (parts later : Parts) where
  same_first : (name : ℕ) (names : List ℕ) → SameOn parts later (name ∷ names) → later name ≡ parts name
  same_first name names same = same name (or_left _ _ (eq-eqb name name refl))

  same_rest : (name : ℕ) (names : List ℕ) → SameOn parts later (name ∷ names) → SameOn parts later names
  same_rest name names same other here = same other (or_right _ _ here)

  same_left : (names more : List ℕ) → SameOn parts later (names ++ more) → SameOn parts later names
  same_left names more same other here =
      same other (list_any-append (nat_eq other) names more ∙ or_left _ _ here)

  same_right : (names more : List ℕ) → SameOn parts later (names ++ more) → SameOn parts later more
  same_right names more same other here =
      same other (list_any-append (nat_eq other) names more ∙ or_right _ _ here)

  above_names_same : (name : ℕ) (superclass : Option ℕ) (limit : ℕ)
      → ((other : ℕ) → SameOn parts later (line_within parts limit other)
      → names_within later limit other ≡ names_within parts limit other)
      → SameOn parts later (line_above superclass (line_within parts limit))
      → names_above name superclass (names_within later limit)
      ≡ names_above name superclass (names_within parts limit)
  above_names_same name None limit above same = refl
  above_names_same name (Some superclass) limit above same = above superclass same

  class_names_same : (name : ℕ) (as_class : Option ClassPart) (limit : ℕ)
      → ((other : ℕ) → SameOn parts later (line_within parts limit other)
      → names_within later limit other ≡ names_within parts limit other)
      → SameOn parts later (line_of_class as_class (line_within parts limit))
      → names_of_class name as_class (names_within later limit)
      ≡ names_of_class name as_class (names_within parts limit)
  class_names_same name None limit above same = refl
  class_names_same name (Some part) limit above same = ap (option_map (λ inherited. inherited ++ part.names))
      (above_names_same name part.superclass limit above same)

  part_names_same : (name : ℕ) (found : Option Fixed) (limit : ℕ)
      → ((other : ℕ) → SameOn parts later (line_within parts limit other)
      → names_within later limit other ≡ names_within parts limit other)
      → SameOn parts later (line_of_part found (line_within parts limit))
      → names_of_part name found (names_within later limit) ≡ names_of_part name found (names_within parts limit)
  part_names_same name None limit above same = refl
  part_names_same name (Some fixed) limit above same = class_names_same name fixed.as_class limit above same

  names_same : (limit name : ℕ) → SameOn parts later (line_within parts limit name)
      → names_within later limit name ≡ names_within parts limit name
  names_same zero name same = refl
  names_same (suc limit) name same =
      let rest = line_of_part (parts name) (line_within parts limit) in
      ap (λ found. names_of_part name found (names_within later limit)) (same_first name rest same)
      ∙ part_names_same name (parts name) limit (names_same limit) (same_rest name rest same)

  above_line_same : (superclass : Option ℕ) (limit : ℕ)
      → ((other : ℕ) → SameOn parts later (line_within parts limit other)
      → line_within later limit other ≡ line_within parts limit other)
      → SameOn parts later (line_above superclass (line_within parts limit))
      → line_above superclass (line_within later limit) ≡ line_above superclass (line_within parts limit)
  above_line_same None limit above same = refl
  above_line_same (Some superclass) limit above same = above superclass same

  class_line_same : (as_class : Option ClassPart) (limit : ℕ)
      → ((other : ℕ) → SameOn parts later (line_within parts limit other)
      → line_within later limit other ≡ line_within parts limit other)
      → SameOn parts later (line_of_class as_class (line_within parts limit))
      → line_of_class as_class (line_within later limit) ≡ line_of_class as_class (line_within parts limit)
  class_line_same None limit above same = refl
  class_line_same (Some part) limit above same = above_line_same part.superclass limit above same

  part_line_same : (found : Option Fixed) (limit : ℕ)
      → ((other : ℕ) → SameOn parts later (line_within parts limit other)
      → line_within later limit other ≡ line_within parts limit other)
      → SameOn parts later (line_of_part found (line_within parts limit))
      → line_of_part found (line_within later limit) ≡ line_of_part found (line_within parts limit)
  part_line_same None limit above same = refl
  part_line_same (Some fixed) limit above same = class_line_same fixed.as_class limit above same

  line_same : (limit name : ℕ) → SameOn parts later (line_within parts limit name)
      → line_within later limit name ≡ line_within parts limit name
  line_same zero name same = refl
  line_same (suc limit) name same =
      let rest = line_of_part (parts name) (line_within parts limit) in
      ap (λ more. name ∷ more)
      (ap (λ found. line_of_part found (line_within later limit)) (same_first name rest same)
      ∙ part_line_same (parts name) limit (line_same limit) (same_rest name rest same))

  names_at_same : (name : ℕ) → SameOn parts later (line_at parts name) → names_at later name ≡ names_at parts name
  unfolding names_at line_at
  names_at_same name same = names_same chain_limit name same

  line_at_same : (name : ℕ) → SameOn parts later (line_at parts name) → line_at later name ≡ line_at parts name
  unfolding line_at
  line_at_same name same = line_same chain_limit name same

  all_same : (names : List ℕ) → SameOn parts later names
      → list_all (is_known later) names ≡ list_all (is_known parts) names
  all_same [] same = refl
  all_same (name ∷ names) same = ap₂ (λ first rest. holds_of is_there first && rest) (same_first name names same)
      (all_same names (same_rest name names same))

  accepts_same : (class : ℕ) (body : Body) → later class ≡ parts class → names_at later class ≡ names_at parts class
      → accepts later class body ≡ accepts parts class body
  accepts_same class body at names = accepts_found (later class) ∙ ap (holds_of (by parts)) at
    where
      by : Parts → Fixed → Bool
      by some fixed = accepts_by some class body fixed.as_class

      accepts_part : (as_class : Option ClassPart)
          → accepts_by later class body as_class ≡ accepts_by parts class body as_class
      accepts_part None = refl
      accepts_part (Some part) = ap (λ found. (kinds.fits part.kind body && holds_of (has_slots body) found)
          || (is_class_object class body || is_transcript class body)) names

      accepts_found : (found : Option Fixed) → holds_of (by later) found ≡ holds_of (by parts) found
      accepts_found None = refl
      accepts_found (Some fixed) = accepts_part fixed.as_class

  named_same : (body : Body) → SameOn parts later (names_in_body body) → named_fit later body ≡ named_fit parts body
  named_same (Segment rights) same = ap (holds_of (λ fixed. is_user fixed.kind)) (same_first rights.owner [] same)
  named_same (User user) same =
      ap₂ (λ segment globals. holds_of (λ fixed. is_segment fixed.kind) segment
      && holds_of (λ fixed. is_dictionary fixed.kind) globals)
      (same_first user.default_segment (user.globals ∷ []) same)
      (same_first user.globals [] (same_rest user.default_segment (user.globals ∷ []) same))
  named_same (Plain values) same = refl
  named_same (Bytes bytes) same = refl
  named_same (Dict pairs) same = refl
  named_same (Class class) same = refl
  named_same (Counter counter) same = refl
  named_same (Bag pairs) same = refl
  named_same (RcDict pairs) same = refl
  named_same (Queue queue) same = refl

  inherited_same : (superclass : Option ℕ) (kind : Kind) → SameOn parts later (option_to_list superclass)
      → kind_is_inherited later superclass kind ≡ kind_is_inherited parts superclass kind
  inherited_same None kind same = refl
  inherited_same (Some superclass) kind same =
      ap (holds_of (λ fixed. holds_of (λ above. same_kind above.kind kind) fixed.as_class))
      (same_first superclass [] same)

  row_same : (row : Option KernelClass) (part : ClassPart) → SameOn parts later (option_to_list part.superclass)
      → row_fits later row part ≡ row_fits parts row part
  row_same (Some row) part same = refl
  row_same None part same = inherited_same part.superclass part.kind same

  higher_same : (name : ℕ) (superclass : Option ℕ) → SameOn parts later (line_above superclass (line_at parts))
      → names_above name superclass (names_at later) ≡ names_above name superclass (names_at parts)
  higher_same name None same = refl
  higher_same name (Some superclass) same = names_at_same superclass same

  above_same : (name : ℕ) (part : ClassPart) → SameOn parts later (line_of_class (Some part) (line_at parts))
      → names_of_class name (Some part) (names_at later) ≡ names_of_class name (Some part) (names_at parts)
  above_same name part same =
      ap (option_map (λ inherited. inherited ++ part.names)) (higher_same name part.superclass same)

  part_same : (name : ℕ) (part : ClassPart) → SameOn parts later (option_to_list part.superclass)
      → SameOn parts later (line_of_class (Some part) (line_at parts))
      → place_fits later name (Some part) ≡ place_fits parts name (Some part)
  part_same name part same above = ap₂ (λ names row. holds_of are_few names
      && (row && (has_none part.names || has_named_slots part.kind)))
      (above_same name part above) (row_same (kernel_class name) part same)

  place_same : (name : ℕ) (body : Body) → SameOn parts later (names_in_body body)
      → SameOn parts later (line_of_class (class_part body) (line_at parts))
      → place_fits later name (class_part body) ≡ place_fits parts name (class_part body)
  place_same name (Class class) same above = part_same name
      (record { superclass = class.superclass; kind = class.kind; names = class.names }) same above
  place_same name (Segment rights) same above = refl
  place_same name (User user) same above = refl
  place_same name (Plain values) same above = refl
  place_same name (Bytes bytes) same above = refl
  place_same name (Dict pairs) same above = refl
  place_same name (Counter counter) same above = refl
  place_same name (Bag pairs) same above = refl
  place_same name (RcDict pairs) same above = refl
  place_same name (Queue queue) same above = refl

  above_of_same : (superclass : Option ℕ) → SameOn parts later (line_above superclass (line_at parts))
      → line_above superclass (line_at later) ≡ line_above superclass (line_at parts)
  above_of_same None same = refl
  above_of_same (Some superclass) same = line_at_same superclass same

  line_of_same : (as_class : Option ClassPart) → SameOn parts later (line_of_class as_class (line_at parts))
      → line_of_class as_class (line_at later) ≡ line_of_class as_class (line_at parts)
  line_of_same None same = refl
  line_of_same (Some part) same = above_of_same part.superclass same

  pub fits_same : (name : ℕ) (object : Contents) → SameOn parts later (asked_names parts object)
      → fits later name object ≡ fits parts name object
  unfolding fits
  fits_same name object same =
      let inner = names_in_body object.body in
      let class_line = line_at parts object.class in
      let line = line_of_class (class_part object.body) (line_at parts) in
      let refs = same_left (names_in object) (class_line ++ line) same in
      let lines = same_right (names_in object) (class_line ++ line) same in
      let more = same_rest object.class (object.segment ∷ inner) refs in
      let body = same_rest object.segment inner more in
      let known = all_same (names_in object) refs in
      let segment = ap (holds_of (λ fixed. is_segment fixed.kind)) (same_first object.segment inner more) in
      let accepted = accepts_same object.class object.body (same_first object.class (object.segment ∷ inner) refs)
      (names_at_same object.class (same_left class_line line lines)) in
      let named = named_same object.body body in
      let before_changes = place_same name object.body body (same_right class_line line lines) in
      ap (λ rest. nat_lt 0 name && rest)
      (ap₂ ◌&&◌ known (ap₂ ◌&&◌ segment (ap₂ ◌&&◌ accepted (ap₂ ◌&&◌ named
      (ap (λ place. kernel_fits name object.body
      && (place && (methods_fit name object.body && is_spelled object.body))) before_changes)))))

  pub asked_same : (object : Contents) → SameOn parts later (asked_names parts object)
      → asked_names later object ≡ asked_names parts object
  asked_same object same =
      let class_line = line_at parts object.class in
      let line = line_of_class (class_part object.body) (line_at parts) in
      let lines = same_right (names_in object) (class_line ++ line) same in
      ap (λ names. names_in object ++ names)
      (ap₂ ◌++◌ (line_at_same object.class (same_left class_line line lines))
      (line_of_same (class_part object.body) (same_right class_line line lines)))

  pub all_fit_same : (name : ℕ) (objects : List Contents) → SameOn parts later (asked_by_all parts objects)
      → all_fit later name objects ≡ all_fit parts name objects
  all_fit_same name [] same = refl
  all_fit_same name (object ∷ rest) same = ap₂ ◌&&◌
      (fits_same name object (same_left (asked_names parts object) (asked_by_all parts rest) same))
      (all_fit_same (name + 1) rest (same_right (asked_names parts object) (asked_by_all parts rest) same))

  pub all_asked_same : (objects : List Contents) → SameOn parts later (asked_by_all parts objects)
      → asked_by_all later objects ≡ asked_by_all parts objects
  all_asked_same [] same = refl
  all_asked_same (object ∷ rest) same = ap₂ ◌++◌
      (asked_same object (same_left (asked_names parts object) (asked_by_all parts rest) same))
      (all_asked_same rest (same_right (asked_names parts object) (asked_by_all parts rest) same))
