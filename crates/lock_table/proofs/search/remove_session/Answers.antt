use Rattle.std.proofs.Common.{◌==◌, not, rules}
use Rattle.std.proofs.lemmas.Map.Made.{filter_same_pairs}
use Rattle.lock_table.specs.declared.lock.Holding.{Holding}
use Rattle.lock_table.specs.declared.lock.LockKind.{LockKind}
use Rattle.lock_table.proofs.search.remove_session.Goals as goal

pub returns : goal.returns
returns c = filter_same_pairs _ (λ (entry : Holding × LockKind). not (entry.0.session == c.args.session)) _ (λ k v b w f' t. search rules) _ _ c.retain.ensures.filtered
