use Rattle.std.proofs.Common.{◌≡◌, ◌++◌, ◌∷◌, [], refl, sym, length, rules, arith, length-append}
use Rattle.list_stack.proofs.Cuts.{starts_opened, lists_opened}
use Rattle.list_stack.proofs.stack.ListStack.open_with.Goals as goal

pub invariant_of-self-else-is_err : goal.invariant_of-self-else-is_err
invariant_of-self-else-is_err g c =
    let starts : c.push.new.self.items ≡ c.self.inside.starts.items ++ length c.self.inside.items.items ∷ [] = search rules in
    let items : c.append.new.self.items ≡ c.self.inside.items.items ++ c.args.items.items = search rules in
    rw (starts, items) (starts_opened c.self.inside.starts.items (length c.self.inside.items.items) _ (omega (arith, length-append c.self.inside.items.items c.args.items.items)) c.self.invariant)

pub returns-clause-opened : goal.returns-clause-opened
returns-clause-opened g c =
    let starts : c.push.new.self.items ≡ c.self.inside.starts.items ++ length c.self.inside.items.items ∷ [] = search rules in
    let items : c.append.new.self.items ≡ c.self.inside.items.items ++ c.args.items.items = search rules in
    rw (starts, items, sym c.self.view_is) (lists_opened c.self.inside.items.items c.args.items.items c.self.inside.starts.items _ _ refl refl c.self.invariant.ascend)
