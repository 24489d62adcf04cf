-- Variables of the innermost scope.
use Rattle.std.specs.Prelude.{ℕ, zero, suc, List}
use Rattle.gem_object.specs.declared.value.Value.{Value}
use Rattle.gem_object.specs.declared.value.Value.TheVariants.{Nil}
use Rattle.list_stack.specs.Lists.{with_last}

-- so many more, which are nil
abbrev pub more_nils : ℕ → List (List Value) → List (List Value)
more_nils zero scopes = scopes
more_nils (suc count) scopes = with_last (more_nils count scopes) Nil
