use Rattle.std.proofs.Common.{◌≡◌, ◌++◌, ◌∷◌, [], refl, sym, length, rules, arith}
use Rattle.std.proofs.lemmas.List.{length_push}
use Rattle.list_stack.proofs.Cuts.{starts_pushed, lists_pushed, length-lists_of}
use Rattle.list_stack.proofs.stack.ListStack.push.Goals as goal

pub invariant_of-self-2 : goal.invariant_of-self-2
invariant_of-self-2 g c =
    let items : c.push.new.self.items ≡ c.self.inside.items.items ++ c.args.item ∷ [] = search rules in
    let some = rw (sym c.self.view_is) at c.requires in
    rw items (starts_pushed c.self.inside.starts.items (length c.self.inside.items.items) _ (omega (arith, length_push c.self.inside.items.items c.args.item))
    (omega (arith, length-lists_of (length c.self.inside.items.items) c.self.inside.items.items c.self.inside.starts.items, some)) c.self.invariant)

pub returns-clause-pushed : goal.returns-clause-pushed
returns-clause-pushed g c =
    let items : c.push.new.self.items ≡ c.self.inside.items.items ++ c.args.item ∷ [] = search rules in
    rw (items, sym c.self.view_is) (lists_pushed c.self.inside.items.items c.self.inside.starts.items c.args.item (length c.self.inside.items.items) _ refl (length_push c.self.inside.items.items c.args.item) c.self.invariant.ascend)
