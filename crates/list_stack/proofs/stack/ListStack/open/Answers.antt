use Rattle.std.proofs.Common.{◌≡◌, ◌++◌, ◌∷◌, [], sym, length, rules, arith}
use Rattle.list_stack.proofs.Cuts.{starts_opened, list_opened}
use Rattle.list_stack.proofs.stack.ListStack.open.Goals as goal

pub invariant_of-self-2 : goal.invariant_of-self-2
invariant_of-self-2 g c =
    let starts : c.push.new.self.items ≡ c.self.inside.starts.items ++ length c.self.inside.items.items ∷ [] = search rules in
    rw starts (starts_opened c.self.inside.starts.items (length c.self.inside.items.items) (length c.self.inside.items.items) (omega arith) c.self.invariant)

pub returns-clause-opened : goal.returns-clause-opened
returns-clause-opened g c =
    let starts : c.push.new.self.items ≡ c.self.inside.starts.items ++ length c.self.inside.items.items ∷ [] = search rules in
    rw (starts, sym c.self.view_is) (list_opened c.self.inside.items.items c.self.inside.starts.items c.self.invariant.ascend)
