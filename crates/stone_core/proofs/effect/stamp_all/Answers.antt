use Rattle.std.proofs.Common.{◌≡◌, [], ◌∷◌, ◌++◌, map, sym, ap, ◌∙◌, arith}
use Rattle.std.proofs.lemmas.List.{nil_from_length}
use Rattle.gem_meaning.specs.Effect.{stamped}
use Rattle.stone_core.proofs.ByName.{put_on, one_put, all_put}
use Rattle.stone_core.proofs.effect.stamp_all.Goals as goal

pub loop-entry-preserved : goal.loop-entry-preserved
loop-entry-preserved c =
    let was : c.loop-entry.changed.items ≡ c.pop.new.self.items ++ c.in-Some.entry ∷ [] = grind arith in
    one_put (stamped c.args.number) c.loop-entry.changed.items c.pop.new.self.items c.in-Some.entry
    c.loop-entry.objects.entries _ was c.in_ok-stamp.ensures ∙ c.loop-entry.invariant

pub returns : goal.returns
returns c =
    let length_is = c.loop-entry.changed.ok.0 in
    let empty = c.in_default.ensures.cases.0 in
    let none : c.loop-entry.changed.items ≡ [] = nil_from_length _ (omega (arith, length_is, empty)) in
    ap (λ left. put_on (map (stamped c.args.number) left) c.loop-entry.objects.entries) (sym none)
    ∙ c.loop-entry.invariant ∙ all_put (map (stamped c.args.number) c.args.changed.items)
