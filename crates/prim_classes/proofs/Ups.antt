-- The classes from one up to the last, one after the other.
use Rattle.std.proofs.Common.{◌≡◌, sym, subst, ℕ, suc, ◌-◌, ◌<◌, Bool, ◌||◌, nat_eq, Option, Some, None, Result, Ok, Err, arith}
use Rattle.std.specs.Result.{IsErrAnd}
use Rattle.gem_object.specs.declared.body.ClassBody.{ClassBody}
use Rattle.prim_parts.specs.tree_meaning.Place.{MadeBlock}
use Rattle.object_programs.specs.Run.{Run, give}
use Rattle.running_objects.specs.Seen.{Seen}
use Rattle.running_objects.specs.declared.stop.Stop.{Stop}
use Rattle.prim_parts.specs.Does.{Does}
use Rattle.prim_parts.proofs.Does.{does_assoc_back, does_give}
use Rattle.prim_rules.specs.Any.{superclass_reads, reads_up}
use Rattle.prim_classes.specs.Superclasses.{superclass_read}
use Rattle.prim_classes.proofs.Shorts.{mapped_then, mapped_stop}

one_less : (left : ℕ) → 0 < left → suc (left - 1) ≡ left
one_less left more = omega arith

module _ (ancestor class left : ℕ) (found : Bool) (some : 0 < left) {now between : Seen} where
  pub up_stop : {result : Result Bool Stop} {ended : Stop} → Does (superclass_read class) now (Err ended) between
      → IsErrAnd result (λ given. given ≡ ended) → Does (reads_up left ancestor found class) now result between
  up_stop {result} {ended} does is =
      let At : ℕ → Type 0 = λ many. Does (reads_up many ancestor found class) now result between in
      subst At (one_less left some) (does_assoc_back (mapped_stop
      {rest = λ (part : ClassBody). superclass_reads (found || nat_eq class ancestor) part.superclass
      (reads_up (left - 1) ancestor (found || nat_eq class ancestor))} does is))

  pub up_last : (so : Bool) → so ≡ (found || nat_eq class ancestor) → Does (superclass_read class) now (Ok None) between
      → Does (reads_up left ancestor found class) now (Ok so) between
  up_last so is does =
      let At : ℕ → Type 0 = λ many. Does (reads_up many ancestor found class) now (Ok so) between in
      let on : ℕ → Run MadeBlock Bool = reads_up (left - 1) ancestor (found || nat_eq class ancestor) in
      let In : Option ℕ → Type 0 = λ above. Does (superclass_reads (found || nat_eq class ancestor) above on) between (Ok so) between in
      let To : Bool → Type 0 = λ one. Does (give one) between (Ok so) between in
      subst At (one_less left some) (does_assoc_back (mapped_then
      {rest = λ (part : ClassBody). superclass_reads (found || nat_eq class ancestor) part.superclass on} does
      (λ part none. subst In (sym none) (subst To is (does_give so between)))))

  pub up_more : (so : Bool) (above : ℕ) {after : Seen} {result : Result Bool Stop} → so ≡ (found || nat_eq class ancestor)
      → Does (superclass_read class) now (Ok (Some above)) between
      → Does (reads_up (left - 1) ancestor so above) between result after
      → Does (reads_up left ancestor found class) now result after
  up_more so above {after} {result} is does rest =
      let At : ℕ → Type 0 = λ many. Does (reads_up many ancestor found class) now result after in
      let on : ℕ → Run MadeBlock Bool = reads_up (left - 1) ancestor (found || nat_eq class ancestor) in
      let In : Option ℕ → Type 0 = λ next. Does (superclass_reads (found || nat_eq class ancestor) next on) between result after in
      let To : Bool → Type 0 = λ one. Does (reads_up (left - 1) ancestor one above) between result after in
      subst At (one_less left some) (does_assoc_back (mapped_then
      {rest = λ (part : ClassBody). superclass_reads (found || nat_eq class ancestor) part.superclass on} does
      (λ part there. subst In (sym there) (subst To is rest))))

pub up_zero : (ancestor class left : ℕ) (found : Bool) (seen : Seen) → left ≡ 0
    → Does (reads_up left ancestor found class) seen (Ok found) seen
up_zero ancestor class left found seen none =
    let At : ℕ → Type 0 = λ many. Does (reads_up many ancestor found class) seen (Ok found) seen in
    subst At (sym none) (does_give found seen)
