-- One object is in the order of names.
use Rattle.std.proofs.Common.{◌≡◌, ℕ, List, [], ◌∷◌, sym, subst}
use Rattle.std.specs.List.Sorted.{IsStrictlySortedBy}
use Rattle.gem_object.specs.declared.object.Object.{Object}
use Rattle.gem_record.specs.Names.{AscendByName}

alone : (entry : ℕ × Object) → AscendByName (entry ∷ [])
unfolding IsStrictlySortedBy
alone entry = (tt, tt)

pub alone_ascends : (entries : List (ℕ × Object)) (entry : ℕ × Object) → entries ≡ entry ∷ [] → AscendByName entries
alone_ascends entries entry is = subst AscendByName (sym is) (alone entry)
