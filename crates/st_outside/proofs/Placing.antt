-- A method among those of a class.
use Rattle.std.proofs.Common.{◌≡◌, refl, sym, ap, ◌∙◌, subst, ℕ, suc, ◌+◌, ◌<◌, ◌≤◌, ◌^◌, ◌&&◌, Bool, true, false, nat_lt, nat_le, sum_by, length, List, [], ◌∷◌, ◌++◌, take, drop, get_or, slice_set, Option, Some, None, option_and_then, Ordering, Result, Err, arith}
use Rattle.std.specs.List.{list_all}
use Rattle.std.specs.Ordering.{nat_cmp, match_ordering}
use Rattle.std.specs.Cmp.Lexicographic.{slice_cmp}
use Rattle.std.specs.declared.cmp.Ordering.TheVariants.{Less, Equal, Greater}
use Rattle.std.proofs.lemmas.Bool.{and_parts, and_from}
use Rattle.std.proofs.lemmas.List.{drop_more, set_split}
use Rattle.std.proofs.lemmas.List.Sums.{sum_by-cons}
use Rattle.gem_object.specs.texts.Bytes.{Bytes as Text}
use Rattle.gem_object.specs.texts.declared.limits.TheConstants.{SYMBOL_LIMIT}
use Rattle.gem_object.specs.declared.body.MethodCode.TheVariants.{Source}
use Rattle.gem_object.specs.declared.body.Method.{Method}
use Rattle.gem_object.specs.declared.body.ClassBody.{ClassBody}
use Rattle.gem_object.specs.declared.body.Body.{Body}
use Rattle.gem_object.specs.declared.body.Body.TheVariants as body
use Rattle.gem_object.specs.Sizes.{method_size, fields_size}
use Rattle.gem_object.specs.Slots.{slots_of}
use Rattle.object_programs.specs.gem_world.Changes.{with_body}
use Rattle.gem_sound.specs.gem_image.Image.{Contents}
use Rattle.gem_sound.specs.Sound.{names_in}
use Rattle.gem_sound.specs.Parts.{class_of}
use Rattle.object_programs.specs.Budget.{bytes_cost, is_within_limits}
use Rattle.object_programs.specs.Fixed.{class_part}
use Rattle.object_programs.specs.Guard.{Parts, is_known, is_segment_at, accepts, named_fit, kernel_fits, place_fits, fits}
use Rattle.object_programs.specs.Methods.{answers_to, is_source_of, method_fits, methods_fit}
use Rattle.object_programs.specs.declared.limits.TheConstants.{SLOTS_LIMIT, BYTES_LIMIT}
use Rattle.object_programs.specs.Atom.{Room, Put}
use Rattle.object_programs.specs.Run.{Run, atom, and_then}
use Rattle.gem_language.specs.tree_meaning.Place.{MadeBlock}
use Rattle.object_programs.specs.Programs.{need, check, replace_body}
use Rattle.object_programs.specs.declared.fault.Fault.TheVariants as fault
use Rattle.running_objects.specs.Seen.{Seen, object_at, IsSoundState}
use Rattle.running_objects.specs.declared.stop.Stop.{Stop}
use Rattle.running_objects.specs.declared.stop.Stop.TheVariants as stop
use Rattle.gem_language.specs.Install.{with_method, class_with}
use Rattle.prim_parts.specs.Does.{Does}
use Rattle.prim_parts.specs.Walks.{parts_seen}
use Rattle.prim_parts.proofs.Does.{does_stop, does_fail, computes_then, computes_give}
use Rattle.st_outside.specs.Written.{put_in_class}
use Rattle.gem_sound.specs.st_grammar.Grammar.{method}
use Rattle.gem_sound.specs.st_grammar_laws.TreeOf.{tree_of}

-- ---- where it comes

-- in the place of the one with its selector
pub placed_on : (new : Method) (methods loop : List Method) (at : ℕ) (first : Method) → loop ≡ methods
    → with_method new methods ≡ take at methods ++ with_method new (drop at methods) → at < length loop
    → first ≡ get_or loop at first → slice_cmp nat_cmp new.selector first.selector ≡ Equal
    → slice_set loop at new ≡ with_method new methods
placed_on new methods loop at first same so_far within is tied =
    let inside : at < length methods = subst (λ (one : List Method). at < length one) same within in
    let there : first ≡ get_or methods at first = subst (λ (one : List Method). first ≡ get_or one at first) same is in
    let here : drop at methods ≡ first ∷ drop (at + 1) methods =
    drop_more methods at first inside ∙ ap (λ (one : Method). one ∷ drop (at + 1) methods) (sym there) in
    let next : suc at ≡ at + 1 = omega arith in
    ap (λ (one : List Method). slice_set one at new) same ∙ set_split methods at new inside
    ∙ ap (λ (behind : ℕ). take at methods ++ new ∷ drop behind methods) next
    ∙ sym (so_far ∙ ap (λ (rest : List Method). take at methods ++ with_method new rest) here
    ∙ ap (λ (order : Ordering). take at methods ++ match_ordering order (new ∷ first ∷ drop (at + 1) methods)
    (new ∷ drop (at + 1) methods) (first ∷ with_method new (drop (at + 1) methods))) tied)

-- ---- that it fits

module _ (name : ℕ) (class_side : Bool) (new : Method) (fits : method_fits name class_side new ≡ true) where
  fits_with : (methods : List Method) → list_all (method_fits name class_side) methods ≡ true
      → list_all (method_fits name class_side) (with_method new methods) ≡ true
  fits_with [] all = and_from (method_fits name class_side new) true fits refl
  fits_with (first ∷ rest) all =
      let parts = and_parts (method_fits name class_side first) (list_all (method_fits name class_side) rest) all in
      by (slice_cmp nat_cmp new.selector first.selector) all parts.0 parts.1 (fits_with rest parts.1)
    where
      by : (order : Ordering) → list_all (method_fits name class_side) (first ∷ rest) ≡ true
          → method_fits name class_side first ≡ true → list_all (method_fits name class_side) rest ≡ true
          → list_all (method_fits name class_side) (with_method new rest) ≡ true
          → list_all (method_fits name class_side)
          (match_ordering order (new ∷ first ∷ rest) (new ∷ rest) (first ∷ with_method new rest)) ≡ true
      by Less all one others more = and_from (method_fits name class_side new) _ fits all
      by Equal all one others more = and_from (method_fits name class_side new) _ fits others
      by Greater all one others more = and_from (method_fits name class_side first) _ one more

-- a class of which all methods fit, with the source of a method more
pub class_fits : (name : ℕ) (class_side : Bool) (selector source : Text) → is_source_of selector source ≡ true
    → (class : ClassBody) → methods_fit name (body.Class class) ≡ true
    → methods_fit name (body.Class (class_with class_side (record { selector = selector; code = Source source }) class)) ≡ true
class_fits name false selector source is class fit =
    let parts = and_parts (list_all (method_fits name false) class.methods) (list_all (method_fits name true) class.class_methods) fit in
    and_from _ (list_all (method_fits name true) class.class_methods)
    (fits_with name false (record { selector = selector; code = Source source }) is class.methods parts.0) parts.1
class_fits name true selector source is class fit =
    let parts = and_parts (list_all (method_fits name false) class.methods) (list_all (method_fits name true) class.class_methods) fit in
    and_from (list_all (method_fits name false) class.methods) _ parts.0
    (fits_with name true (record { selector = selector; code = Source source }) is class.class_methods parts.1)

-- the methods of an object that is seen fit
methods_seen : (seen : Seen) → IsSoundState seen → (name : ℕ) (object : Contents) → object_at name seen ≡ Some object
    → methods_fit name object.body ≡ true
unfolding fits
methods_seen seen sound name object there =
    let parts : Parts = parts_seen seen in
    let one = and_parts (nat_lt 0 name) _ (sound.each name object there) in
    let two = and_parts (list_all (is_known parts) (names_in object)) _ one.1 in
    let three = and_parts (is_segment_at parts object.segment) _ two.1 in
    let four = and_parts (accepts parts object.class object.body) _ three.1 in
    let five = and_parts (named_fit parts object.body) _ four.1 in
    let six = and_parts (kernel_fits name object.body) _ five.1 in
    let seven = and_parts (place_fits parts name (class_part object.body)) _ six.1 in
    (and_parts (methods_fit name object.body) _ seven.1).0

of_class : (name : ℕ) (one : Body) (class : ClassBody) → class_of one ≡ Some class → methods_fit name one ≡ true
    → methods_fit name (body.Class class) ≡ true
of_class name (body.Class own) class is fit =
    let same : own ≡ class = cc in
    ap (λ (class : ClassBody). methods_fit name (body.Class class)) (sym same) ∙ fit
of_class name other class is fit = cc

of_object : (seen : Seen) → IsSoundState seen → (name : ℕ) (found : Option Contents) (class : ClassBody)
    → object_at name seen ≡ found → option_and_then (λ object. class_of object.body) found ≡ Some class
    → methods_fit name (body.Class class) ≡ true
of_object seen sound name None class there is = cc
of_object seen sound name (Some object) class there is =
    of_class name object.body class is (methods_seen seen sound name object there)

-- a class that is seen, with the source of a method more
pub seen_fits : (seen : Seen) → IsSoundState seen → (name : ℕ) (class_side : Bool) (selector source : Text) (class : ClassBody)
    (new : Body) → is_source_of selector source ≡ true
    → option_and_then (λ object. class_of object.body) (object_at name seen) ≡ Some class
    → new ≡ body.Class (class_with class_side (record { selector = selector; code = Source source }) class)
    → methods_fit name new ≡ true
seen_fits seen sound name class_side selector source class new is of made =
    ap (methods_fit name) made
    ∙ class_fits name class_side selector source is class (of_object seen sound name (object_at name seen) class refl of)

-- ---- that it is put

-- the class that was written
written_class : (found : Option Contents) (object : Contents) (class : Option ClassBody) → found ≡ Some object
    → option_and_then (λ object. class_of object.body) found ≡ class → class_of object.body ≡ class
written_class found object class there is =
    ap (option_and_then (λ (object : Contents). class_of object.body)) (sym there) ∙ is

module _ (class_side : Bool) (new : Method) (source : Text) (name : ℕ) (object : Contents) {before after : Seen} where
  put_of : (found : Option ClassBody) → class_of object.body ≡ found → {result : Result (Unit {0}) Stop}
      → Does (and_then (need fault.ArgumentKind found) (λ class.
      and_then (check fault.ObjectTooLarge (nat_le (length new.selector) SYMBOL_LIMIT)) (λ short.
      replace_body (bytes_cost (length source)) name object (body.Class (class_with class_side new class)))))
      before result after → Does (put_in_class class_side new source name object) before result after
  put_of found is {result} does =
      let At : Option ClassBody → Type 0 = λ found. Does (and_then (need fault.ArgumentKind found) (λ class.
      and_then (check fault.ObjectTooLarge (nat_le (length new.selector) SYMBOL_LIMIT)) (λ short.
      replace_body (bytes_cost (length source)) name object (body.Class (class_with class_side new class)))))
      before result after in
      subst At (sym is) does

  -- where it is a class
  pub put_some : (class : ClassBody) → object_at name before ≡ Some object
      → option_and_then (λ object. class_of object.body) (object_at name before) ≡ Some class
      → {result : Result (Unit {0}) Stop}
      → Does (and_then (check fault.ObjectTooLarge (nat_le (length new.selector) SYMBOL_LIMIT)) (λ short.
      replace_body (bytes_cost (length source)) name object (body.Class (class_with class_side new class))))
      before result after → Does (put_in_class class_side new source name object) before result after
  put_some class there is does = put_of (Some class) (written_class (object_at name before) object (Some class) there is)
      (computes_then (computes_give class) does)

-- and where it isn't
pub put_none : (class_side : Bool) (new : Method) (source : Text) (name : ℕ) (object : Contents) (seen : Seen)
    → object_at name seen ≡ Some object → option_and_then (λ object. class_of object.body) (object_at name seen) ≡ None
    → Does (put_in_class class_side new source name object) seen (Err (stop.Fails fault.ArgumentKind)) seen
put_none class_side new source name object seen there is =
    put_of class_side new source name object None (written_class (object_at name seen) object None there is)
    (does_stop (does_fail fault.ArgumentKind seen))

-- whether the selector is short enough was told before
pub checked : {rest : Unit {0} → Run MadeBlock (Unit {0})} (new : Method) (short : Bool)
    → short ≡ nat_le (length new.selector) SYMBOL_LIMIT → {before after : Seen} {result : Result (Unit {0}) Stop}
    → Does (and_then (check fault.ObjectTooLarge short) rest) before result after
    → Does (and_then (check fault.ObjectTooLarge (nat_le (length new.selector) SYMBOL_LIMIT)) rest) before result after
checked {rest} new short is {before} {after} {result} does =
    let At : Bool → Type 0 = λ short. Does (and_then (check fault.ObjectTooLarge short) rest) before result after in
    subst At is does

-- a body of this size is put
pub put_so : (name : ℕ) (object : Contents) {growth cost : ℕ} {given new : Body} → given ≡ new → growth ≡ cost
    → {before after : Seen} {result : Result (Unit {0}) Stop} → Does (replace_body growth name object given) before result after
    → Does (replace_body cost name object new) before result after
put_so name object {growth} {cost} {given} {new} made costs {before} {after} {result} does =
    let At : Body → Type 0 = λ body. Does (replace_body growth name object body) before result after in
    let Of : ℕ → Type 0 = λ growth. Does (replace_body growth name object new) before result after in
    subst Of costs (subst At made does)

-- ---- a source that is too long

-- a source that an object can hold has fewer than 2^24 bytes
pub short_source : (selector source : Text) → answers_to selector (tree_of method source) ≡ true
    → nat_le (length source) BYTES_LIMIT ≡ true → is_source_of selector source ≡ true
unfolding is_source_of
short_source selector source answers short =
    and_from (nat_lt (length source) (2 ^ 24)) (answers_to selector (tree_of method source)) (search (arith, short)) answers

-- methods take what the one that comes among them takes
module _ (new : Method) where
  at_front : (rest : List Method) → method_size new ≤ sum_by method_size (new ∷ rest)
  at_front rest = omega (arith, sum_by-cons method_size new rest)

  behind : (first : Method) (others : List Method) → method_size new ≤ sum_by method_size others
      → method_size new ≤ sum_by method_size (first ∷ others)
  behind first others more = omega (arith, more, sum_by-cons method_size first others)

  size_with : (methods : List Method) → method_size new ≤ sum_by method_size (with_method new methods)
  size_with [] = at_front []
  size_with (first ∷ rest) = by (slice_cmp nat_cmp new.selector first.selector) (size_with rest)
    where
      by : (order : Ordering) → method_size new ≤ sum_by method_size (with_method new rest)
          → method_size new ≤ sum_by method_size
          (match_ordering order (new ∷ first ∷ rest) (new ∷ rest) (first ∷ with_method new rest))
      by Less more = at_front (first ∷ rest)
      by Equal more = at_front rest
      by Greater more = behind first (with_method new rest) more

class_holds : (class_side : Bool) (new : Method) (class : ClassBody)
    → method_size new ≤ fields_size (body.Class (class_with class_side new class))
class_holds false new class = omega (arith, size_with new class.methods)
class_holds true new class = omega (arith, size_with new class.class_methods)

on_false : (first second : Bool) → second ≡ false → (first && second) ≡ false
on_false true second is = is
on_false false second is = refl

-- a class with a source that is too long is above the limits
pub put_too_long : (class_side : Bool) (selector source : Text) (class : ClassBody) (growth name : ℕ) (object : Contents)
    (short : Bool) → short ≡ nat_le (length source) BYTES_LIMIT → short ≡ false → (seen : Seen)
    → Does (replace_body growth name object
    (body.Class (class_with class_side (record { selector = selector; code = Source source }) class)))
    seen (Err (stop.Fails fault.ObjectTooLarge)) seen
unfolding replace_body
put_too_long class_side selector source class growth name object short told not seen =
    let new : Method = record { selector = selector; code = Source source } in
    let one : Body = body.Class (class_with class_side new class) in
    let long : nat_le (length source) BYTES_LIMIT ≡ false = sym told ∙ not in
    let large : nat_le (17 + fields_size one) BYTES_LIMIT ≡ false =
    grind (arith, class_holds class_side new class, long) in
    let not_within : is_within_limits (with_body one object) ≡ false = on_false (nat_le (slots_of one) SLOTS_LIMIT) _ large in
    let At : Bool → Type 0 = λ small. Does (and_then (check fault.ObjectTooLarge small) (λ small.
    and_then (atom (Room growth)) (λ room. atom (Put name one)))) seen
    (Err (stop.Fails fault.ObjectTooLarge)) seen in
    subst At (sym not_within) (does_stop (does_fail fault.ObjectTooLarge seen))
