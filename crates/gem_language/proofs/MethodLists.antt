-- A method takes its place among those of a class.
use Rattle.std.proofs.Common.{◌≡◌, ◌∙◌, refl, sym, ap, Bool, true, false, cond, List, [], ◌∷◌, Option, Some, map}
use Rattle.std.specs.Ordering.{nat_cmp, is_lt, is_eq, ordering_reverse, match_ordering}
use Rattle.std.specs.declared.cmp.Ordering.{Ordering}
use Rattle.std.specs.declared.cmp.Ordering.TheVariants.{Less, Equal, Greater}
use Rattle.std.specs.Str.{bytes_eq}
use Rattle.std.specs.Cmp.Lexicographic.{slice_cmp}
use Rattle.std.proofs.lemmas.Cmp.{nat_list_cmp_total}
use Rattle.std.proofs.lemmas.Map.Text.{is_eq-slice_cmp}
use Rattle.std.proofs.lemmas.Bool.{and_parts, and_from}
use Rattle.gem_object.specs.texts.Bytes.{Bytes as Text}
use Rattle.gem_object.specs.declared.body.MethodCode.{MethodCode}
use Rattle.gem_object.specs.declared.body.Method.{Method}
use Rattle.object_programs.specs.Spelled.{ascends_after, texts_ascend}
use Rattle.gem_language.specs.LookUp.{code_of}
use Rattle.gem_language.specs.Install.{with_method}

-- the order of selectors, and the test whether two are the same
abbrev order : Text → Text → Ordering
order one other = slice_cmp nat_cmp one other

turned : (one other : Text) (is : Ordering) → order one other ≡ is → order other one ≡ ordering_reverse is
turned one other is here = nat_list_cmp_total.antisymm other one ∙ ap ordering_reverse here

own_turn : (is : Ordering) → is ≡ ordering_reverse is → is_eq is ≡ true
own_turn Less here = sym (ap is_lt here)
own_turn Equal here = refl
own_turn Greater here = ap is_lt here

same_self : (text : Text) → bytes_eq text text ≡ true
same_self text = sym (is_eq-slice_cmp text text)
    ∙ own_turn (order text text) (nat_list_cmp_total.antisymm text text)

same_by : (one other : Text) (is : Ordering) → order one other ≡ is → bytes_eq one other ≡ is_eq is
same_by one other is here = sym (is_eq-slice_cmp one other) ∙ ap is_eq here

-- a selector that is the same as another is as far from a third one
same_alike : (one other third : Text) → order one other ≡ Equal → bytes_eq one third ≡ bytes_eq other third
same_alike one other third here = sym (is_eq-slice_cmp one third)
    ∙ ap is_eq (nat_list_cmp_total.congr one other third here) ∙ is_eq-slice_cmp other third

abbrev selectors : List Method → List Text
selectors methods = map (λ (method : Method). method.selector) methods

abbrev after : Text → List Method → Bool
after bound methods = ascends_after (slice_cmp nat_cmp) bound (selectors methods)

below : (one other : Text) → order one other ≡ Less → is_lt (order one other) ≡ true
below one other here = ap is_lt here

-- what comes after a selector comes after the same one too
same_after : (one other : Text) (methods : List Method) → order one other ≡ Equal
    → after other methods ≡ true → after one methods ≡ true
same_after one other [] here holds = refl
same_after one other (first ∷ rest) here holds =
    let parts = and_parts (is_lt (order other first.selector)) (after first.selector rest) holds in
    and_from (is_lt (order one first.selector)) (after first.selector rest)
    (ap is_lt (nat_list_cmp_total.congr one other first.selector here) ∙ parts.0) parts.1

module _ (new : Method) where
  -- the methods with the new one, by the order of its selector and the first one
  abbrev placed : Ordering → Method → List Method → List Method
  placed is first rest = match_ordering is (new ∷ first ∷ rest) (new ∷ rest) (first ∷ with_method new rest)

  found_first : (rest : List Method) → code_of new.selector (new ∷ rest) ≡ Some new.code
  found_first rest = ap (λ (b : Bool). cond b (Some new.code) (code_of new.selector rest)) (same_self new.selector)

  own_by : (first : Method) (rest : List Method) (is : Ordering) → order new.selector first.selector ≡ is
      → code_of new.selector (with_method new rest) ≡ Some new.code
      → code_of new.selector (placed is first rest) ≡ Some new.code
  own_by first rest Less here more = found_first (first ∷ rest)
  own_by first rest Equal here more = found_first rest
  own_by first rest Greater here more =
      ap (λ (b : Bool). cond b (Some first.code) (code_of new.selector (with_method new rest)))
      (same_by first.selector new.selector Less (turned new.selector first.selector Greater here)) ∙ more

  pub finds_own : (methods : List Method) → code_of new.selector (with_method new methods) ≡ Some new.code
  finds_own [] = found_first []
  finds_own (first ∷ rest) = own_by first rest (order new.selector first.selector) refl (finds_own rest)

  module _ (selector : Text) (other : bytes_eq new.selector selector ≡ false) where
    passes : (rest : List Method) → code_of selector (new ∷ rest) ≡ code_of selector rest
    passes rest = ap (λ (b : Bool). cond b (Some new.code) (code_of selector rest)) other

    others_by : (first : Method) (rest : List Method) (is : Ordering) → order new.selector first.selector ≡ is
        → code_of selector (with_method new rest) ≡ code_of selector rest
        → code_of selector (placed is first rest) ≡ code_of selector (first ∷ rest)
    others_by first rest Less here more = passes (first ∷ rest)
    others_by first rest Equal here more = passes rest
        ∙ sym (ap (λ (b : Bool). cond b (Some first.code) (code_of selector rest))
        (sym (same_alike new.selector first.selector selector here) ∙ other))
    others_by first rest Greater here more =
        ap (λ (found : Option MethodCode). cond (bytes_eq first.selector selector) (Some first.code) found) more

    pub finds_others : (methods : List Method) → code_of selector (with_method new methods) ≡ code_of selector methods
    finds_others [] = passes []
    finds_others (first ∷ rest) =
        others_by first rest (order new.selector first.selector) refl (finds_others rest)

  after_by : (bound : Text) (first : Method) (rest : List Method) (is : Ordering)
      → order new.selector first.selector ≡ is → is_lt (order bound new.selector) ≡ true
      → after bound (first ∷ rest) ≡ true
      → (is_lt (order first.selector new.selector) ≡ true → after first.selector (with_method new rest) ≡ true)
      → after bound (placed is first rest) ≡ true
  after_by bound first rest Less here low holds more =
      let parts = and_parts (is_lt (order bound first.selector)) (after first.selector rest) holds in
      and_from (is_lt (order bound new.selector)) (after new.selector (first ∷ rest)) low
      (and_from (is_lt (order new.selector first.selector)) (after first.selector rest)
      (below new.selector first.selector here) parts.1)
  after_by bound first rest Equal here low holds more =
      let parts = and_parts (is_lt (order bound first.selector)) (after first.selector rest) holds in
      and_from (is_lt (order bound new.selector)) (after new.selector rest) low
      (same_after new.selector first.selector rest here parts.1)
  after_by bound first rest Greater here low holds more =
      let parts = and_parts (is_lt (order bound first.selector)) (after first.selector rest) holds in
      and_from (is_lt (order bound first.selector)) (after first.selector (with_method new rest)) parts.0
      (more (below first.selector new.selector (turned new.selector first.selector Greater here)))

  after_with : (bound : Text) (methods : List Method) → is_lt (order bound new.selector) ≡ true
      → after bound methods ≡ true → after bound (with_method new methods) ≡ true
  after_with bound [] low holds = and_from (is_lt (order bound new.selector)) true low refl
  after_with bound (first ∷ rest) low holds =
      let parts = and_parts (is_lt (order bound first.selector)) (after first.selector rest) holds in
      after_by bound first rest (order new.selector first.selector) refl low holds
      (λ lower. after_with first.selector rest lower parts.1)

  ascends_by : (first : Method) (rest : List Method) (is : Ordering) → order new.selector first.selector ≡ is
      → after first.selector rest ≡ true → texts_ascend (selectors (placed is first rest)) ≡ true
  ascends_by first rest Less here holds = and_from (is_lt (order new.selector first.selector))
      (after first.selector rest) (below new.selector first.selector here) holds
  ascends_by first rest Equal here holds = same_after new.selector first.selector rest here holds
  ascends_by first rest Greater here holds = after_with first.selector rest
      (below first.selector new.selector (turned new.selector first.selector Greater here)) holds

  pub ascends_with : (methods : List Method) → texts_ascend (selectors methods) ≡ true
      → texts_ascend (selectors (with_method new methods)) ≡ true
  ascends_with [] holds = refl
  ascends_with (first ∷ rest) holds = ascends_by first rest (order new.selector first.selector) refl holds
