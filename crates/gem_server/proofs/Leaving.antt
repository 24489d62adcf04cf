-- The end of a session that holds no lock, and the replies behind those of one command.
use Rattle.std.proofs.Common.{◌≡◌, ℕ, Bool, true, false, IsTrue, IsSome, List, [], ◌∷◌, ◌++◌, None, refl, subst}
use Rattle.std.specs.List.{AllByRecursion}
use Rattle.std.specs.FinMap.{empty, get-empty}
use Rattle.gem_meaning.specs.lock_table.Locks.{LockSet, kind_held, holding_cmp, holding}
use Rattle.gem_meaning.specs.lock_table.declared.lock.LockKind.{LockKind}
use Rattle.gem_meaning.specs.gem_replies.declared.reply.Line.{Line}
use Rattle.gem_meaning.specs.gem_replies.declared.reply.Reply.{Reply}
use Rattle.gem_meaning.specs.Events.{Standing}
use Rattle.gem_meaning.specs.Serial.{HoldsSome}
use Rattle.gem_meaning.specs.Locks.{leaving}
use Rattle.gem_meaning.specs.Session.{replies_with}
use Rattle.gem_meaning.specs.Legal.{WasServed}

pub nobody_holds : (s : Standing) (session : ℕ) → s.locks ≡ empty → HoldsSome s session → ⊥
nobody_holds s session none holds =
    let held : IsSome (kind_held empty session holds.0) = subst (λ (locks : LockSet). IsSome (kind_held locks session holds.0)) none holds.1 in
    let never : IsSome {T = LockKind} None = subst IsSome (get-empty {X = LockKind} holding_cmp (holding session holds.0)) held in
    absurd cc

pub no_leaving : (holds : Bool) (session : ℕ) → (IsTrue holds → ⊥) → leaving holds session ≡ []
no_leaving true session never = absurd (never refl)
no_leaving false session never = refl

pub served_rest : (number : ℕ) (lines : List Line) (more : List Reply) → AllByRecursion WasServed (replies_with number lines ++ more)
    → AllByRecursion WasServed more
served_rest number [] more served = served
served_rest number (line ∷ lines) more served = served_rest number lines more served.1
