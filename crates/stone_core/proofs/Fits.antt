-- Objects that can be stored, one after the other.
use Rattle.std.proofs.Common.{◌≡◌, ℕ, ◌+◌, ◌<◌, ◌^◌, List, [], ◌∷◌, ◌++◌, length, take, get_or, All, sym, ap, subst, ◌∙◌}
use Rattle.std.specs.List.{AllByRecursion}
use Rattle.std.proofs.Math.Seq.{take-length}
use Rattle.std.proofs.lemmas.List.{take_more}
use Rattle.std.proofs.lemmas.List.Elements.{All-from_recursion}
use Rattle.gem_object.specs.declared.object.Object.{Object}
use Rattle.gem_record.specs.gem_update.Spelling.{entries_of}
use Rattle.history_laws.proofs.OneMore.{all_one_more}

-- it has fewer pairs or items than can be counted in 32 bits
abbrev Fits : ℕ × Object → Type 0
Fits entry = entries_of entry.1.body < 2 ^ 32

pub fits_one_more : (objects : List (ℕ × Object)) (at : ℕ) (entry : ℕ × Object) → at < length objects
    → entry ≡ get_or objects at entry → AllByRecursion Fits (take at objects) → Fits entry
    → AllByRecursion Fits (take (at + 1) objects)
fits_one_more objects at entry below is all one =
    subst (AllByRecursion Fits) (sym (take_more objects at entry below ∙ ap (λ e. take at objects ++ e ∷ []) (sym is)))
    (all_one_more Fits (take at objects) entry all one)

pub all_fit : (objects : List (ℕ × Object)) (at : ℕ) → at ≡ length objects → AllByRecursion Fits (take at objects)
    → All Fits objects
all_fit objects at over all = All-from_recursion Fits objects
    (subst (AllByRecursion Fits) (ap (λ n. take n objects) over ∙ take-length objects) all)
