use Rattle.std.proofs.Common.{◌≡◌, sym, ◌∙◌, length, rules}
use Rattle.list_stack.proofs.Cuts.{length-lists_of}
use Rattle.list_stack.proofs.stack.ListStack.len.Goals as goal

pub returns : goal.returns
returns g c =
    let size : c.len.result ≡ length c.self.inside.starts.items = search rules in
    rw (sym c.self.view_is) (size ∙ sym (length-lists_of _ c.self.inside.items.items c.self.inside.starts.items))
