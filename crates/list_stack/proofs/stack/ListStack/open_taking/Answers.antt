use Rattle.std.proofs.Common.{◌≡◌, ◌≤◌, ◌++◌, ◌∷◌, [], refl, sym, ap, length, rules, arith, length-append}
use Rattle.list_stack.specs.Moves.{MovedBy}
use Rattle.list_stack.proofs.Cuts.{starts_opened, lists_opened}
use Rattle.list_stack.proofs.stack.ListStack.open_taking.Goals as goal

pub invariant_of-self-else-is_err-2 : goal.invariant_of-self-else-is_err-2
invariant_of-self-else-is_err-2 g c =
    let starts : c.push.new.self.items ≡ c.self.inside.starts.items ++ length c.self.inside.items.items ∷ [] = search rules in
    let moved : MovedBy c.self.inside.items.items c.args.from.now.items c.args.count c.move_last.new.to.items c.move_last.new.from.items = search rules in
    let longer : length c.self.inside.items.items ≤ length c.move_last.new.to.items =
    omega (arith, ap length moved.new_is, length-append c.self.inside.items.items moved.taken) in
    rw starts (starts_opened c.self.inside.starts.items (length c.self.inside.items.items) (length c.move_last.new.to.items) longer c.self.invariant)

pub returns-else-is_err-2-clause-opened : goal.returns-else-is_err-2-clause-opened
returns-else-is_err-2-clause-opened g c =
    let starts : c.push.new.self.items ≡ c.self.inside.starts.items ++ length c.self.inside.items.items ∷ [] = search rules in
    let moved : MovedBy c.self.inside.items.items c.args.from.now.items c.args.count c.move_last.new.to.items c.move_last.new.from.items = search rules in
    record {
      taken = moved.taken;
      many = moved.many;
      whole_is = moved.whole_is;
      new_is = rw (starts, moved.new_is, sym c.self.view_is)
          (lists_opened c.self.inside.items.items moved.taken c.self.inside.starts.items _ _ refl refl c.self.invariant.ascend);
    }
