use Rattle.std.proofs.Common.{◌∙◌, sym, nat_eq}
use Rattle.std.proofs.lemmas.Result.{IfOk-weaker}
use Rattle.std.proofs.lemmas.List.Filters.{dedup_is}
use Rattle.plain_state.proofs.Listing.{sorted_once}
use Rattle.plain_state.proofs.lists.ascending_names.Goals as goal

pub returns : goal.returns
returns c = IfOk-weaker c.named.result _ _ (λ names is. is ∙ c.deref.ensures.value
    ∙ sym (sorted_once c.args.numbers.now c.in_ok-sorted.sorted.items c.sort.new.self.items c.dedup.new.self.items
    c.in_ok-sorted.ensures.items c.sort.ensures.permutation c.in_ok-sort.ensures.sorted
    (dedup_is nat_eq c.sort.new.self.items c.dedup.new.self.items c.dedup.ensures.filtered))) c.named.ensures
