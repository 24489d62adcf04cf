-- How far the walk back over the calls has come.
use Rattle.std.proofs.Common.{◌≡◌, ℕ, ◌+◌, ◌≤◌, Bool, true, false, ◌&&◌, cond, List, [], ◌∷◌, ◌++◌, length, drop, reverse, refl, sym, ◌∙◌, ap, subst, arith, append_assoc, append-nil, length-append, drop_at, true≢false}
use Rattle.std.proofs.lemmas.List.{reverse-append}
use Rattle.gem_disk.specs.declared.disk.Which.{Which}
use Rattle.gem_disk.specs.Disk.{is_same, Change}
use Rattle.gem_disk.specs.declared.recorded.Call.{Call}
use Rattle.gem_disk.specs.Recorded.{change_of, undone, is_sync, back, done_anew}

-- The calls are those that are left and those that were undone, by which the file came from old to
-- now.
pub record Undoing (file : Which) (calls rest : List Call) (old now : List ℕ) : Type 0 where
  pub later : List Call
  pub split : calls ≡ rest ++ later
  pub same : (anew : Change → List ℕ → List ℕ) → back anew file (reverse calls) old ≡ done_anew anew file later (back anew file (reverse rest) now)

pub undoing_none : (file : Which) (calls : List Call) (old : List ℕ) → Undoing file calls calls old old
undoing_none file calls old = record { later = []; split = sym (append-nil calls); same = λ anew. refl }

module _ (file : Which) (calls rest older : List Call) (call : Call) (old now : List ℕ) (so_far : Undoing file calls rest old now) (is : rest ≡ older ++ call ∷ []) where
  split_on : calls ≡ older ++ (call ∷ so_far.later)
  split_on = so_far.split ∙ ap (λ (l : List Call). l ++ so_far.later) is ∙ append_assoc older (call ∷ []) so_far.later

  order : reverse rest ≡ call ∷ reverse older
  order = ap reverse is ∙ reverse-append older (call ∷ [])

  so_ordered : (anew : Change → List ℕ → List ℕ) → back anew file (reverse calls) old ≡ done_anew anew file so_far.later (back anew file (call ∷ reverse older) now)
  so_ordered anew = so_far.same anew ∙ ap (λ (l : List Call). done_anew anew file so_far.later (back anew file l now)) order

  -- one call more, which is no sync of this file
  pub undoing_on : (is_same call.file file && is_sync call.kind) ≡ false → (next : List ℕ) → next ≡ cond (is_same call.file file) (undone call now) now → Undoing file calls older old next
  undoing_on pending next becomes = subst (Undoing file calls older old) (sym becomes) record {
    later = call ∷ so_far.later;
    split = split_on;
    same = λ anew. so_ordered anew ∙ steps anew (is_same call.file file) (is_sync call.kind) pending;
  }
    where
      steps : (anew : Change → List ℕ → List ℕ) (b sync : Bool) → (b && sync) ≡ false → done_anew anew file so_far.later (elim b [
        | true ↦ elim sync [
          | true ↦ now
          | false ↦ anew (change_of call) (back anew file (reverse older) (undone call now))
        ]
        | false ↦ back anew file (reverse older) now
      ])
          ≡ done_anew anew file so_far.later
          (cond b (anew (change_of call) (back anew file (reverse older) (cond b (undone call now) now))) (back anew file (reverse older) (cond b (undone call now) now)))
      steps anew true true e = absurd (true≢false e)
      steps anew true false e = refl
      steps anew false sync e = refl

  -- a sync of this file, before which nothing is pending
  pub at_sync : (is_same call.file file && is_sync call.kind) ≡ true → (anew : Change → List ℕ → List ℕ) → back anew file (reverse rest) now ≡ now
  at_sync synced anew = ap (λ (l : List Call). back anew file l now) order ∙ stops (is_same call.file file) (is_sync call.kind) synced
    where
      stops : (b sync : Bool) → (b && sync) ≡ true → elim b [
        | true ↦ elim sync [
          | true ↦ now
          | false ↦ anew (change_of call) (back anew file (reverse older) (undone call now))
        ]
        | false ↦ back anew file (reverse older) now
      ]
          ≡ now
      stops true true e = refl
      stops true false e = absurd (true≢false (sym e))
      stops false sync e = absurd (true≢false (sym e))

-- where nothing is left to be undone
pub all_undone : (file : Which) (calls rest : List Call) (old now : List ℕ) → Undoing file calls rest old now → ((anew : Change → List ℕ → List ℕ) → back anew file (reverse rest) now ≡ now)
    → (anew : Change → List ℕ → List ℕ) → back anew file (reverse calls) old ≡ done_anew anew file (drop (length rest) calls) now
all_undone file calls rest old now so_far ends anew =
    so_far.same anew
    ∙ ap (done_anew anew file so_far.later) (ends anew)
    ∙ ap (λ (l : List Call). done_anew anew file l now) (sym (ap (drop (length rest)) so_far.split ∙ drop_at rest so_far.later (length rest) refl))

pub within : (file : Which) (calls rest : List Call) (old now : List ℕ) → Undoing file calls rest old now → length rest ≤ length calls
within file calls rest old now so_far =
    let size = ap length so_far.split ∙ length-append rest so_far.later in omega arith
