-- What runs of parts make of a program of the meaning.
use Rattle.std.proofs.Common.{◌≡◌, sym, subst, ℕ, zero, suc, ◌<◌, replicate, Result, Ok, Err, arith}
use Rattle.gem_object.specs.declared.value.Value.{Value}
use Rattle.gem_object.specs.declared.value.Value.TheVariants.{Nil}
use Rattle.object_programs.specs.Local.{Local}
use Rattle.object_programs.specs.Run.{give, seeing, become, and_then}
use Rattle.running_objects.specs.Seen.{Seen}
use Rattle.running_objects.specs.Ran.{Ran}
use Rattle.running_objects.specs.declared.stop.Stop.{Stop}
use Rattle.running_objects.proofs.Running.{ran_give, ran_fail, ran_return, ran_become, ran_seeing, ran_then, ran_stop}
use Rattle.tree_meaning.specs.Place.{Frame, MadeBlock}
use Rattle.tree_meaning.specs.Operands.{ValueRun}
use Rattle.tree_meaning.specs.Scopes.{mark, with_scope, open_scope, give_back, close_scope, in_scope}
use Rattle.tree_meaning.specs.declared.place.Mark.{Mark}

-- for `using`
pub ruleset runs = (ran_then, ran_stop, ran_give, ran_fail, ran_return)

-- what is done in a new scope of so many variables
abbrev in_new_scope : Frame → (Frame → ValueRun) → ℕ → ValueRun
in_new_scope frame body count = seeing (λ budget outer.
    and_then (become (open_scope (replicate count Nil) outer)) (λ done.
    and_then (body (with_scope (mark outer) frame)) (λ answer. close_scope (mark outer) answer)))

module _ (frame : Frame) (body : Frame → ValueRun) {before after : Seen} {local opened middle : Local MadeBlock} (here : Mark)
    (inner : Frame) (is_mark : here ≡ mark local) (is_inner : inner ≡ with_scope here frame) where
  -- A body that ran in a new scope, which is then given back.
  scope_ran : (count : ℕ) (answer : Value) (later : Local MadeBlock) → opened ≡ open_scope (replicate count Nil) local
      → Ran (body inner) before opened (Ok answer) after middle → later ≡ give_back here middle
      → Ran (in_new_scope frame body count) before local (Ok answer) after later
  unfolding close_scope
  scope_ran count answer later is_opened ran is_later =
      let InMark : Mark → Type 0 = λ one. Ran (body (with_scope one frame)) before opened (Ok answer) after middle in
      let InFrame : Frame → Type 0 = λ one. Ran (body one) before opened (Ok answer) after middle in
      let first : Ran (body (with_scope (mark local) frame)) before opened (Ok answer) after middle =
      subst InMark is_mark (subst InFrame is_inner ran) in
      let InOpened : Local MadeBlock → Type 0 = λ one. Ran (body (with_scope (mark local) frame)) before one (Ok answer) after middle in
      let second : Ran (body (with_scope (mark local) frame)) before (open_scope (replicate count Nil) local) (Ok answer) after middle =
      subst InOpened is_opened first in
      let Back : Mark → Type 0 = λ one. later ≡ give_back one middle in
      let is_back : later ≡ give_back (mark local) middle = subst Back is_mark is_later in
      let Ends : Local MadeBlock → Type 0 = λ one. Ran (close_scope (mark local) answer) after middle (Ok answer) after one in
      let closes : Ran (close_scope (mark local) answer) after middle (Ok answer) after later =
      subst Ends (sym is_back)
      (ran_seeing (λ budget left. and_then (become (give_back (mark local) left)) (λ done. give answer))
      (ran_then (λ done. give answer) (ran_become after middle (give_back (mark local) middle))
      (ran_give answer after (give_back (mark local) middle)))) in
      ran_seeing (λ budget outer.
      and_then (become (open_scope (replicate count Nil) outer)) (λ done.
      and_then (body (with_scope (mark outer) frame)) (λ answer. close_scope (mark outer) answer)))
      (ran_then (λ done. and_then (body (with_scope (mark local) frame)) (λ answer. close_scope (mark local) answer))
      (ran_become before local (open_scope (replicate count Nil) local))
      (ran_then (λ answer. close_scope (mark local) answer) second closes))

  -- A body that stopped in a new scope.
  scope_stop : (count : ℕ) (ended : Stop) → opened ≡ open_scope (replicate count Nil) local
      → Ran (body inner) before opened (Err ended) after middle
      → Ran (in_new_scope frame body count) before local (Err ended) after middle
  scope_stop count ended is_opened ran =
      let InMark : Mark → Type 0 = λ one. Ran (body (with_scope one frame)) before opened (Err ended) after middle in
      let InFrame : Frame → Type 0 = λ one. Ran (body one) before opened (Err ended) after middle in
      let first : Ran (body (with_scope (mark local) frame)) before opened (Err ended) after middle =
      subst InMark is_mark (subst InFrame is_inner ran) in
      let InOpened : Local MadeBlock → Type 0 = λ one. Ran (body (with_scope (mark local) frame)) before one (Err ended) after middle in
      let second : Ran (body (with_scope (mark local) frame)) before (open_scope (replicate count Nil) local) (Err ended) after middle =
      subst InOpened is_opened first in
      ran_seeing (λ budget outer.
      and_then (become (open_scope (replicate count Nil) outer)) (λ done.
      and_then (body (with_scope (mark outer) frame)) (λ answer. close_scope (mark outer) answer)))
      (ran_then (λ done. and_then (body (with_scope (mark local) frame)) (λ answer. close_scope (mark local) answer))
      (ran_become before local (open_scope (replicate count Nil) local))
      (ran_stop (λ answer. close_scope (mark local) answer) second))

  -- The same of a scope that isn't opened where it has no variables.
  pub in_scope_ran : (count : ℕ) → 0 < count → (answer : Value) (later : Local MadeBlock)
      → opened ≡ open_scope (replicate count Nil) local → Ran (body inner) before opened (Ok answer) after middle
      → later ≡ give_back here middle → Ran (in_scope count frame body) before local (Ok answer) after later
  in_scope_ran zero some answer later is_opened ran is_later = absurd (omega (arith, some))
  in_scope_ran (suc others) some answer later is_opened ran is_later =
      scope_ran (suc others) answer later is_opened ran is_later

  pub in_scope_stop : (count : ℕ) → 0 < count → (ended : Stop) → opened ≡ open_scope (replicate count Nil) local
      → Ran (body inner) before opened (Err ended) after middle
      → Ran (in_scope count frame body) before local (Err ended) after middle
  in_scope_stop zero some ended is_opened ran = absurd (omega (arith, some))
  in_scope_stop (suc others) some ended is_opened ran = scope_stop (suc others) ended is_opened ran
