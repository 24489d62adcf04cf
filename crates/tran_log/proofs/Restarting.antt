-- What a crash leaves while a log is emptied.
use Rattle.std.proofs.Common.{◌≡◌, ◌≢◌, ◌⊎◌, ℕ, Bool, true, false, eqb, List, [], ◌∷◌, ◌++◌, length, Ok, refl, sym, ap, subst, ◌∙◌, inl, inr, arith}
use Rattle.std.proofs.lemmas.Bool.{eqb-true}
use Rattle.std.proofs.lemmas.Bool.Decides.{nat_tests}
use Rattle.gem_disk.specs.declared.disk.Which.TheVariants.{Log}
use Rattle.gem_disk.specs.Disk.{Files, Past, reads, Torn}
use Rattle.gem_disk.specs.Runs.{LeavesOnly}
use Rattle.gem_disk.proofs.Moments.{started, leaves_less}
use Rattle.tran_log.specs.declared.logged.Logged.{Logged}
use Rattle.tran_log.specs.Log.{LogRecord, spelled, chain, logged_from, log_of}
use Rattle.tran_log.specs.Resting.{IsAtRest, AllHold, HoldsOrNone, ReadsOrNone, IsTornAt, IsWritten}
use Rattle.tran_log.proofs.Again.{log_is}
use Rattle.tran_log.proofs.Appending.{torn_byte}
use Rattle.tran_log.proofs.Opening.{rests_empty}

module _ (past : Past) (logged : List Logged) (end : ℕ) (rest : IsAtRest past logged end) where
  holds : (c : List ℕ) → c ≡ reads past Log → log_of c ≡ Ok logged
  holds c is = ap log_of (is ∙ rest.ends.file) ∙ log_is rest.ends.chained rest.ends.gate rest.ends.behind rest.ends.records rest.ends.closed
      ∙ ap (λ (l : List Logged). Ok l) (sym rest.ends.logged_is)

  pub nothing_done : LeavesOnly past past (HoldsOrNone past logged)
  nothing_done = started past (HoldsOrNone past logged)
      (λ images now. inl (record { log = holds images.log (rest.durable images.log now.log); extent = now.extent }))

  pub reads_before : ReadsOrNone past logged
  reads_before = inl (holds (reads past Log) refl)

  none_there : (records : List LogRecord) → end ≡ length (chain records) → end ≡ 0 → records ≡ []
  none_there [] is zero = refl
  none_there (one ∷ records) is zero = absurd (omega (arith, is, zero))

  pub is_empty : end ≡ 0 → IsAtRest past [] end
  is_empty zero =
      let none = none_there rest.ends.chained rest.ends.end_is zero in
      subst (λ (l : List Logged). IsAtRest past l end) (rest.ends.logged_is ∙ ap (logged_from 0) none) rest

  -- behind the first gate
  first_gate : (records : List LogRecord) → reads past Log ≡ chain records ++ (rest.ends.gate ∷ rest.ends.behind)
      → end ≡ length (chain records) → end ≢ 0 → (more : List ℕ) × (reads past Log ≡ 1 ∷ more)
  first_gate [] file is some = absurd (some is)
  first_gate (one ∷ records) file is some = ((spelled one ++ chain records) ++ (rest.ends.gate ∷ rest.ends.behind), file)

  module _ (some : end ≢ 0) where
    opened : (more : List ℕ) × (reads past Log ≡ 1 ∷ more)
    opened = first_gate rest.ends.chained rest.ends.file rest.ends.end_is some

    by_byte : (more c : List ℕ) (b : ℕ) → reads past Log ≡ 1 ∷ more → c ≡ b ∷ more
        → (log_of c ≡ Ok logged) ⊎ (log_of c ≡ Ok [])
    by_byte more c b file is = by (eqb b 1) refl where
      by : (open_gate : Bool) → eqb b 1 ≡ open_gate → (log_of c ≡ Ok logged) ⊎ (log_of c ≡ Ok [])
      by true e = inl (holds c (is ∙ ap (λ (n : ℕ). n ∷ more) (eqb-true _ _ e) ∙ sym file))
      by false e = inr (ap log_of is ∙ log_is [] b more tt (grind (arith, nat_tests, e)))

    torn_gate : (c : List ℕ) → Torn 0 1 (reads past Log) c → (log_of c ≡ Ok logged) ⊎ (log_of c ≡ Ok [])
    torn_gate c torn =
        let byte = torn_byte 0 [] 1 opened.0 (reads past Log) c opened.1 refl torn in
        by_byte opened.0 c byte.0 opened.1 byte.1

    all_or_none : (images : Files) → IsTornAt past 0 1 images → HoldsOrNone past logged images
    all_or_none images torn = elim (torn_gate images.log torn.log) [
      | inl log ↦ inl (record { log = log; extent = torn.extent })
      | inr log ↦ inr (record { log = log; extent = torn.extent })
    ]

    pub gate_written : (new : Past) → LeavesOnly past new (IsTornAt past 0 1) → LeavesOnly past new (HoldsOrNone past logged)
    gate_written new run = leaves_less past new (IsTornAt past 0 1) (HoldsOrNone past logged) all_or_none run

    pub reads_gate : (new : Past) → Torn 0 1 (reads past Log) (reads new Log) → ReadsOrNone new logged
    reads_gate new torn = torn_gate (reads new Log) torn

  pub empty_again : (new : Past) → IsWritten 0 (0 ∷ []) past new → IsAtRest new [] 0
  empty_again new written = rests_empty past new [] 0 refl refl written

-- what a log at rest holds
pub rest_reads : (past : Past) (logged : List Logged) (end : ℕ) → IsAtRest past logged end → log_of (reads past Log) ≡ Ok logged
rest_reads past logged end rest = holds past logged end rest (reads past Log) refl

pub rest_holds : (past : Past) (logged : List Logged) (end : ℕ) → IsAtRest past logged end → AllHold past logged
rest_holds past logged end rest images now = holds past logged end rest images.log (rest.durable images.log now.log)
