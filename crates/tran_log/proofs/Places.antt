-- Where records stand, and that calls on the other file leave them there.
use Rattle.std.proofs.Common.{◌≡◌, ℕ, ◌+◌, ◌^◌, ◌<◌, ◌≤◌, List, ◌∷◌, ◌++◌, length, drop, Result, Ok, Err, sum_by, refl, sym, ap, subst, ◌∙◌, inl, inr, arith}
use Rattle.std.proofs.lemmas.List.{drop_at, length-append}
use Rattle.std.proofs.lemmas.List.Recursion.{is_sum_by}
use Rattle.gem_io.specs.declared.device.Failed.{Failed}
use Rattle.gem_record.specs.declared.mode.Mode.{Mode}
use Rattle.gem_record.specs.declared.effect.Effect.{Effect}
use Rattle.gem_record.specs.declared.limits.TheConstants.{LOG_LIMIT}
use Rattle.gem_disk.specs.declared.disk.Which.TheVariants.{Extent}
use Rattle.gem_disk.specs.Disk.{Change, Past, stepped, Writes, Cuts, Syncs}
use Rattle.body_codec.proofs.Lengths.{effect_long}
use Rattle.tran_log.specs.declared.logged.Logged.{Logged}
use Rattle.tran_log.specs.Log.{LogRecord, Format1, Format2, content, spelled, record_size, chain, logged_from}
use Rattle.tran_log.specs.Resting.{IsAtRest}
use Rattle.tran_log.proofs.Walks.{record_long, chain_joined, logged_joined}

-- ---- sizes

pub size_is : (one : LogRecord) → 1 + length (spelled one) ≡ record_size one
size_is (Format1 effect) = omega (arith, record_long (Format1 effect), effect_long effect)
size_is (Format2 mode effect) = omega (arith, record_long (Format2 mode effect), effect_long effect)

chain_next : (one : LogRecord) (records : List LogRecord)
    → length (chain (one ∷ records)) ≡ record_size one + length (chain records)
chain_next one records = omega (arith, size_is one, length-append (spelled one) (chain records))

pub chain_size : (records : List LogRecord) → length (chain records) ≡ sum_by record_size records
chain_size = is_sum_by (λ (records : List LogRecord). length (chain records)) record_size refl chain_next

pub chain_places : (before after : List LogRecord)
    → drop (sum_by record_size before) (chain (before ++ after)) ≡ chain after
chain_places before after =
    ap (drop (sum_by record_size before)) (chain_joined before after)
    ∙ drop_at (chain before) (chain after) (sum_by record_size before) (chain_size before)

pub logged_places : (at : ℕ) (before after : List LogRecord) → logged_from at (before ++ after)
    ≡ logged_from at before ++ logged_from (at + sum_by record_size before) after
logged_places at before after = logged_joined at before after
    ∙ ap (λ (n : ℕ). logged_from at before ++ logged_from (at + n) after) (chain_size before)

pub end_place : (past : Past) (logged : List Logged) (end : ℕ) → IsAtRest past logged end
    → (records : List LogRecord) × (logged ≡ logged_from 0 records) × (end ≡ sum_by record_size records)
end_place past logged end rest =
    (rest.ends.chained, rest.ends.logged_is, rest.ends.end_is ∙ chain_size rest.ends.chained)

pub too_long : (mode : Mode) (effect : Effect) → 2 ^ 31 ≤ length (content (Format2 mode effect))
    → LOG_LIMIT < record_size (Format2 mode effect)
too_long mode effect long = omega (arith, long, effect_long effect)

-- ---- calls on the extent

pub step_stays : (past : Past) (change : Change) (bytes : List ℕ) (logged : List Logged) (end : ℕ)
    → IsAtRest past logged end → IsAtRest (stepped past Extent change bytes) logged end
step_stays past change bytes logged end rest = record { ends = rest.ends; durable = rest.durable }

module _ (old new : Past) (logged : List Logged) (end : ℕ) (rest : IsAtRest old logged end) where
  same_stays : new ≡ old → IsAtRest new logged end
  same_stays is = subst (λ (p : Past). IsAtRest p logged end) (sym is) rest

  next_stays : (change : Change) (bytes : List ℕ) → new ≡ stepped old Extent change bytes → IsAtRest new logged end
  next_stays change bytes is =
      subst (λ (p : Past). IsAtRest p logged end) (sym is) (step_stays old change bytes logged end rest)

pub write_stays : (at : ℕ) (bytes : List ℕ) (old new : Past) (outcome : Result (Unit {0}) Failed) (logged : List Logged) (end : ℕ)
    → Writes Extent at bytes old outcome new → IsAtRest old logged end → IsAtRest new logged end
write_stays at bytes old new (Ok x) logged end is rest = next_stays old new logged end rest _ _ is
write_stays at bytes old new (Err x) logged end (inl same) rest = same_stays old new logged end rest same
write_stays at bytes old new (Err x) logged end (inr (now, torn, is)) rest = next_stays old new logged end rest _ now is

pub cut_stays : (n : ℕ) (old new : Past) (outcome : Result (Unit {0}) Failed) (logged : List Logged) (end : ℕ)
    → Cuts Extent n old outcome new → IsAtRest old logged end → IsAtRest new logged end
cut_stays n old new (Ok x) logged end is rest = next_stays old new logged end rest _ _ is
cut_stays n old new (Err x) logged end (inl same) rest = same_stays old new logged end rest same
cut_stays n old new (Err x) logged end (inr (now, cut, is)) rest = next_stays old new logged end rest _ now is

pub sync_stays : (old new : Past) (outcome : Result (Unit {0}) Failed) (logged : List Logged) (end : ℕ)
    → Syncs Extent old outcome new → IsAtRest old logged end → IsAtRest new logged end
sync_stays old new (Ok x) logged end is rest = next_stays old new logged end rest _ _ is
sync_stays old new (Err x) logged end is rest = same_stays old new logged end rest is
