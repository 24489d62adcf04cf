-- How long a log may be, by what it holds.
use Rattle.std.proofs.Common.{◌≡◌, inl, inr, ℕ, ◌+◌, ◌*◌, ◌≤◌, List, [], ◌∷◌, length, Ok, sym, ap, ◌∙◌, arith}
use Rattle.std.proofs.lemmas.List.{length-append}
use Rattle.gem_record.specs.declared.effect.Effect.{Effect}
use Rattle.tran_log.specs.declared.logged.Logged.{Logged}
use Rattle.tran_log.specs.Log.{LogRecord, Format1, Format2, effect_of, mode_of, content, spelled, chain, logged_as, logged_from, log_of}
use Rattle.tran_log.specs.Reads.{EndsAt}
use Rattle.tran_log.proofs.Again.{log_is}
use Rattle.tran_log.proofs.Walks.{record_long}
use Rattle.stone_store.specs.Resting.{IsLogLength}
use Rattle.stone_store.proofs.Opens.{no_record}
use Rattle.gem_server.proofs.StoreCompletes.{ok_is}

-- two records with one effect differ by the byte of the mode
one_longer : (one other : LogRecord) → effect_of one ≡ effect_of other → length (content other) ≤ length (content one) + 1
one_longer (Format1 effect) (Format1 same) is =
    let sizes = ap (λ (e : Effect). length (content (Format1 e))) is in omega (arith, sizes)
one_longer (Format1 effect) (Format2 mode same) is =
    let sizes = ap (λ (e : Effect). length (content (Format2 mode e))) is in omega (arith, sizes)
one_longer (Format2 mode effect) (Format1 same) is =
    let sizes = ap (λ (e : Effect). length (content (Format1 e))) is in omega (arith, sizes)
one_longer (Format2 mode effect) (Format2 second same) is =
    let sizes = ap (λ (e : Effect). length (content (Format1 e))) is in omega (arith, sizes)

twice_at_most : (records others : List LogRecord) (at from : ℕ) → logged_from at records ≡ logged_from from others
    → length (chain others) ≤ 2 * length (chain records)
twice_at_most [] [] at from same = omega arith
twice_at_most [] (other ∷ others) at from same = absurd cc
twice_at_most (one ∷ records) [] at from same = absurd cc
twice_at_most (one ∷ records) (other ∷ others) at from same =
    let first : logged_as at (mode_of one) (effect_of one) ≡ logged_as from (mode_of other) (effect_of other) = cc in
    let rest : logged_from (at + (1 + length (spelled one))) records ≡ logged_from (from + (1 + length (spelled other))) others = cc in
    let more = twice_at_most records others _ _ rest in
    let longer = one_longer one other (ap (λ (logged : Logged). logged.effect) first) in
    let long = record_long one in
    let other_long = record_long other in
    let size = length-append (spelled one) (chain records) in
    let other_size = length-append (spelled other) (chain others) in
    omega (arith, more, longer, long, other_long, size, other_size)

holds : (bytes : List ℕ) (logged : List Logged) (end : ℕ) → EndsAt bytes logged end → log_of bytes ≡ Ok logged
holds bytes logged end ends = ap log_of ends.file ∙ log_is ends.chained ends.gate ends.behind ends.records ends.closed
    ∙ ap (λ (l : List Logged). Ok l) (sym ends.logged_is)

-- two lengths of one log are much the same
pub log_lengths : (bytes : List ℕ) (n m : ℕ) → IsLogLength bytes n → IsLogLength bytes m → m ≤ 2 * n
log_lengths bytes n m (inl short) other =
    let one = short.1 in let same = no_record bytes m short.0 other in omega (arith, one, same)
log_lengths bytes n m (inr (logged, (end, (ends, is)))) (inl short) = let one = short.1 in omega (arith, one, is)
log_lengths bytes n m (inr (logged, (end, (ends, is)))) (inr (others, (other_end, (other_ends, other_is)))) =
    let same : logged ≡ others = ok_is logged others (sym (holds bytes logged end ends) ∙ holds bytes others other_end other_ends) in
    let most = twice_at_most ends.chained other_ends.chained 0 0 (sym ends.logged_is ∙ same ∙ other_ends.logged_is) in
    let here = ends.end_is in
    let there = other_ends.end_is in omega (arith, most, here, there, is, other_is)
