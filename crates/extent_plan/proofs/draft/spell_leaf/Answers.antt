use Rattle.std.proofs.Common.{arith}
use Rattle.extent_plan.proofs.Gathers.{few_before}
use Rattle.extent_plan.proofs.draft.spell_leaf.Goals as goal

pub fresh_leaf-requires : goal.fresh_leaf-requires
fresh_leaf-requires c =
    let few = few_before c.args.image.now c.args.leaf 64 in
    omega (arith, c.in_ok-gathered.ensures.count, few)

pub returns : goal.returns
returns c = record {
  gathered = c.in_ok-gathered.gathered;
  are = c.in_ok-gathered.ensures;
  fresh = c.in_ok-fresh_leaf.field-0;
  is = c.in_ok-fresh_leaf.ensures;
  drafts = c.in_ok-push.ensures.items;
}
