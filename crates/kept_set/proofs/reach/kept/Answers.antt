use Rattle.std.proofs.Common.{◌≡◌, ℕ, Vec, Global, ap, ◌∙◌}
use Rattle.std.proofs.lemmas.Result.{IfOk-weaker}
use Rattle.kept_set.specs.Kept.{roots_of, names_of, kept_of, dropped}
use Rattle.kept_set.specs.Worklist.{marked}
use Rattle.kept_set.proofs.Marks.{kept_marked}
use Rattle.kept_set.proofs.reach.kept.Goals as goal

pub returns : goal.returns
returns c =
    let made = c.args.made.now in
    let roots = roots_of c.args.written.now c.args.updates.now in
    IfOk-weaker c.names_seen.result
    (λ (names : Vec ℕ Global). names.items ≡ marked made c.deref.result.now)
    (λ (names : Vec ℕ Global). names.items ≡ names_of (kept_of roots made))
    (λ names is. is ∙ ap (marked made) c.deref.ensures.value
    ∙ kept_marked roots made _ c.in_ok-seen.ensures.0 c.requires (c.in_ok-seen.ensures.1 ∙ ap (λ r. dropped r made) c.in_ok-pile.ensures))
    c.names_seen.ensures
