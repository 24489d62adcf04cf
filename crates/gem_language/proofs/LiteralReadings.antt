-- Literals make what the relation says.
use Rattle.std.proofs.Common.{arith, ◌≡◌, ◌∙◌, refl, ap, ℕ, Bool, true, false, ◌&&◌, ◌<◌, nat_le, length, Option, Some, None, List, [], ◌∷◌}
use Rattle.std.proofs.lemmas.Bool.{leb-true}
use Rattle.gem_object.specs.texts.declared.limits.TheConstants.{SYMBOL_LIMIT}
use Rattle.object_programs.specs.st_tree.Trees.{Constant, int, char, str, sym as symbol, nothing, yes, no, array, Constants, no_constants, a_constant}
use Rattle.gem_object.specs.declared.value.Value.{Value}
use Rattle.gem_object.specs.declared.value.Value.TheVariants as value
use Rattle.gem_object.specs.declared.body.Body.TheVariants as body
use Rattle.object_programs.specs.gem_world.World.{Setting}
use Rattle.object_programs.specs.declared.fault.Fault.TheVariants as fault
use Rattle.object_programs.specs.Run.{give, and_then, gives, fails, State, Outcome, perform}
use Rattle.object_programs.specs.Programs.{check}
use Rattle.tree_meaning.specs.Place.{MadeBlock}
use Rattle.tree_meaning.specs.Meaning.{plain_constant}
use Rattle.prim_rules.specs.Parts.{new_object}
use Rattle.gem_language.specs.Literals.{has_symbols, have_symbols, constant_value, constant_values, literal_value}
use Rattle.gem_language.specs.Comes.{Comes}
use Rattle.gem_language.specs.ReadingLiterals.{HasLiteral, plain, a_string, an_array, HaveLiterals, no_elements, an_element, HasLongSymbol, long, within, HaveLongSymbol, in_first, in_rest}
use Rattle.gem_language.proofs.Ends.{fails_gives, both, then_comes}
use Rattle.gem_language.proofs.NameReadings.{given}
use Rattle.object_programs.specs.gem_sound.declared.names.TheConstants.{ARRAY_CLASS}

module _ (setting : Setting) where
  given_plain : (tree : Constant) (one : Value) (state : State MadeBlock) (answer : Value) (after : State MadeBlock)
      → HasLiteral setting tree state one state → Comes (give one) setting state (gives answer) after
      → HasLiteral setting tree state answer after
  given_plain tree one state answer after has comes =
      given setting (HasLiteral setting tree state) one state answer after has comes

  mutual
    made : (tree : Constant) (state : State MadeBlock) (answer : Value) (after : State MadeBlock)
        → Comes (constant_value tree) setting state (gives answer) after → HasLiteral setting tree state answer after
    made (int number) state answer after comes = given_plain (int number) (value.Int number) state answer after
        (plain (int number) state (value.Int number) refl) comes
    made (char code) state answer after comes = given_plain (char code) (value.Char code) state answer after
        (plain (char code) state (value.Char code) refl) comes
    made (symbol bytes) state answer after comes = given_plain (symbol bytes) (value.Sym bytes) state answer after
        (plain (symbol bytes) state (value.Sym bytes) refl) comes
    made nothing state answer after comes =
        given_plain nothing value.Nil state answer after (plain nothing state value.Nil refl) comes
    made yes state answer after comes =
        given_plain yes value.True state answer after (plain yes state value.True refl) comes
    made no state answer after comes =
        given_plain no value.False state answer after (plain no state value.False refl) comes
    made (str bytes) state answer after comes = a_string bytes state after answer comes
    made (array items) state answer after comes =
        let parts = both setting (constant_values items) (λ values. new_object ARRAY_CLASS (body.Plain values)) state
        answer after comes in
        an_array items parts.middle state parts.between after answer
        (all_made items state parts.middle parts.between parts.before) parts.then

    all_made : (items : Constants) (state : State MadeBlock) (values : List Value) (after : State MadeBlock)
        → Comes (constant_values items) setting state (gives values) after
        → HaveLiterals setting items state values after
    all_made no_constants state values after comes =
        given setting (HaveLiterals setting no_constants state) [] state values after (no_elements state) comes
    all_made (a_constant first rest) state values after comes =
        let whole = both setting (constant_value first)
        (λ answer. and_then (constant_values rest) (λ others. give (answer ∷ others))) state values after comes in
        let parts = both setting (constant_values rest) (λ others. give (whole.middle ∷ others)) whole.between values
        after whole.then in
        given setting (HaveLiterals setting (a_constant first rest) state) (whole.middle ∷ parts.middle) parts.between
        values after (an_element first rest whole.middle parts.middle state whole.between parts.between
        (made first state whole.middle whole.between whole.before)
        (all_made rest whole.between parts.middle parts.between parts.before)) parts.then

  some_of : Value → Option Value → Value
  some_of other None = other
  some_of other (Some one) = one

  same_some : (one other : Value) → Some one ≡ Some other → one ≡ other
  unfolding some_of
  same_some one other is = ap (some_of one) is

  gives_same : (one other : Value) (state : State MadeBlock) → Some one ≡ Some other
      → Comes (give one) setting state (gives other) state
  gives_same one other state is =
      ap (λ (v : Value). record { end = gives v; state = state }) (same_some one other is)

  plain_only : (tree : Constant) (state : State MadeBlock) (answer : Value)
      → plain_constant tree ≡ Some answer
      → Comes (constant_value tree) setting state (gives answer) state
  plain_only (int number) state answer is = gives_same (value.Int number) answer state is
  plain_only (char code) state answer is = gives_same (value.Char code) answer state is
  plain_only (symbol bytes) state answer is = gives_same (value.Sym bytes) answer state is
  plain_only nothing state answer is = gives_same value.Nil answer state is
  plain_only yes state answer is = gives_same value.True answer state is
  plain_only no state answer is = gives_same value.False answer state is
  plain_only (str bytes) state answer is = cc
  plain_only (array items) state answer is = cc

  mutual
    only_made : {tree : Constant} {state : State MadeBlock} {answer : Value} {after : State MadeBlock}
        → HasLiteral setting tree state answer after → Comes (constant_value tree) setting state (gives answer) after
    only_made (plain tree state answer is) = plain_only tree state answer is
    only_made (a_string bytes state after answer comes) = comes
    only_made (an_array items values state between after answer have comes) =
        then_comes setting (constant_values items) (λ values. new_object ARRAY_CLASS (body.Plain values)) state values
        between (only_all have) ∙ comes

    only_all : {items : Constants} {state : State MadeBlock} {values : List Value} {after : State MadeBlock}
        → HaveLiterals setting items state values after → Comes (constant_values items) setting state (gives values) after
    only_all (no_elements state) = refl
    only_all (an_element first rest answer others state between after has have) =
        then_comes setting (constant_value first)
        (λ answer. and_then (constant_values rest) (λ others. give (answer ∷ others))) state answer between
        (only_made has)
        ∙ then_comes setting (constant_values rest) (λ others. give (answer ∷ others)) between others after
        (only_all have)

  by_symbols : (short : Bool) (tree : Constant) (state : State MadeBlock) (answer : Value) (after : State MadeBlock)
      → Comes (and_then (check fault.ObjectTooLarge short) (λ short. constant_value tree)) setting state
      (gives answer) after → HasLiteral setting tree state answer after
  by_symbols true tree state answer after comes = made tree state answer after comes
  by_symbols false tree state answer after comes =
      absurd (fails_gives _ answer (ap (λ (o : Outcome MadeBlock Value). o.end) comes))

  pub has_literal : (tree : Constant) (state : State MadeBlock) (answer : Value) (after : State MadeBlock)
      → Comes (literal_value tree) setting state (gives answer) after → HasLiteral setting tree state answer after
  unfolding literal_value
  has_literal tree state answer after comes = by_symbols (has_symbols tree) tree state answer after comes

  at_symbols : (short : Bool) (tree : Constant) (state : State MadeBlock) → has_symbols tree ≡ short
      → perform (literal_value tree) setting state
      ≡ perform (and_then (check fault.ObjectTooLarge short) (λ short. constant_value tree)) setting state
  unfolding literal_value
  at_symbols short tree state is = ap (λ (b : Bool). perform
      (and_then (check fault.ObjectTooLarge b) (λ short. constant_value tree)) setting state) is

  pub only_literal : (tree : Constant) (state : State MadeBlock) (answer : Value) (after : State MadeBlock)
      → has_symbols tree ≡ true → HasLiteral setting tree state answer after
      → Comes (literal_value tree) setting state (gives answer) after
  only_literal tree state answer after short has = at_symbols true tree state short ∙ only_made has

not_le : (limit count : ℕ) → limit < count → (le : Bool) → nat_le count limit ≡ le → le ≡ false
not_le limit count above true is = absurd (omega (arith, above, leb-true count limit is))
not_le limit count above false is = refl

and_false : (one : Bool) → (one && false) ≡ false
and_false true = refl
and_false false = refl

mutual
  too_long : {tree : Constant} → HasLongSymbol tree → has_symbols tree ≡ false
  too_long (long bytes above) = not_le SYMBOL_LIMIT (length bytes) above (nat_le (length bytes) SYMBOL_LIMIT) refl
  too_long (within items have) = all_too_long have

  all_too_long : {items : Constants} → HaveLongSymbol items → have_symbols items ≡ false
  all_too_long (in_first first rest has) = ap (λ (b : Bool). b && have_symbols rest) (too_long has)
  all_too_long (in_rest first rest have) =
      ap (λ (b : Bool). has_symbols first && b) (all_too_long have) ∙ and_false (has_symbols first)

pub long_literal : (setting : Setting) (tree : Constant) (state : State MadeBlock) → HasLongSymbol tree
    → Comes (literal_value tree) setting state (fails fault.ObjectTooLarge) state
long_literal setting tree state has = at_symbols setting false tree state (too_long has)

above_limit : (limit count : ℕ) → nat_le count limit ≡ false → limit < count
above_limit limit count is = grind (arith, is)

by_first : (first : Constant) (rest : Constants) (short : Bool) → has_symbols first ≡ short
    → (short && have_symbols rest) ≡ false → (has_symbols first ≡ false → HasLongSymbol first)
    → (have_symbols rest ≡ false → HaveLongSymbol rest) → HaveLongSymbol (a_constant first rest)
by_first first rest false here is one more = in_first first rest (one here)
by_first first rest true here is one more = in_rest first rest (more is)

mutual
  pub has_long : (tree : Constant) → has_symbols tree ≡ false → HasLongSymbol tree
  has_long (symbol bytes) is = long bytes (above_limit SYMBOL_LIMIT (length bytes) is)
  has_long (array items) is = within items (have_long items is)
  has_long (int number) is = cc
  has_long (char code) is = cc
  has_long (str bytes) is = cc
  has_long nothing is = cc
  has_long yes is = cc
  has_long no is = cc

  have_long : (items : Constants) → have_symbols items ≡ false → HaveLongSymbol items
  have_long no_constants is = cc
  have_long (a_constant first rest) is = by_first first rest (has_symbols first) refl is
      (has_long first) (have_long rest)
