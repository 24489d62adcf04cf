-- What a crash leaves while records are added.
use Rattle.std.proofs.Common.{◌≡◌, ◌≢◌, ◌⊎◌, ℕ, ◌+◌, ◌≤◌, Bool, true, false, eqb, List, [], ◌∷◌, ◌++◌, length, take, drop, None, Ok, refl, sym, ap, ap₂, ◌∙◌, subst, append_assoc, append-nil, inl, inr, arith}
use Rattle.std.proofs.lemmas.Bool.{eqb-true}
use Rattle.std.proofs.lemmas.Bool.Decides.{nat_tests}
use Rattle.std.proofs.lemmas.List.{take_at, drop_at, drop-drop, take-append-drop, length-append, length-drop}
use Rattle.gem_record.specs.declared.mode.Mode.{Mode}
use Rattle.gem_record.specs.declared.effect.Effect.{Effect}
use Rattle.gem_disk.specs.declared.disk.Which.TheVariants.{Log}
use Rattle.gem_disk.specs.Disk.{Files, Past, reads, placed, Torn}
use Rattle.gem_disk.specs.Runs.{LeavesOnly}
use Rattle.gem_disk.proofs.Moments.{started, and_then, leaves_less}
use Rattle.tran_log.specs.declared.logged.Logged.{Logged}
use Rattle.tran_log.specs.Log.{LogRecord, Format2, spelled, chain, AreRecords, logged_from, last_number, written, log_of}
use Rattle.tran_log.specs.Resting.{IsAtRest, HoldsEither, ReadsEither, IsTornAt, IsWritten, MayAppend, MayChain, added}
use Rattle.tran_log.proofs.Walks.{chain_joined, logged_first, records_joined}
use Rattle.tran_log.proofs.Again.{log_is}

-- ---- torn writes

-- a write behind a front leaves the front
pub torn_front : (at n : ℕ) (front rest d c : List ℕ) → d ≡ front ++ rest → at ≡ length front → Torn at n d c
    → c ≡ front ++ drop at c
torn_front at n front rest d c is place torn =
    let kept : take at c ≡ front = torn.before ∙ ap (take at) is ∙ take_at front rest at (sym place) in
    sym (take-append-drop at c) ∙ ap (λ (l : List ℕ). l ++ drop at c) kept

first_of : (l : List ℕ) → 1 ≤ length l → (b : ℕ) × (l ≡ b ∷ drop 1 l)
first_of [] some = absurd (omega (arith, some))
first_of (b ∷ l) some = (b, refl)

-- a write of one byte leaves some byte there, and the rest
pub torn_byte : (at : ℕ) (front : List ℕ) (old : ℕ) (rest d c : List ℕ) → d ≡ front ++ (old ∷ rest) → at ≡ length front
    → Torn at 1 d c → (b : ℕ) × (c ≡ front ++ (b ∷ rest))
torn_byte at front old rest d c is place torn =
    let whole = torn_front at 1 front (old ∷ rest) d c is place torn in
    let long : 1 ≤ length (drop at c) = omega (arith, torn.no_shorter, ap length is, length-append front (old ∷ rest), place, length-drop at c) in
    let first = first_of (drop at c) long in
    let back : drop 1 (drop at c) ≡ rest = drop-drop 1 at c ∙ torn.after ∙ sym (drop-drop 1 at d)
    ∙ ap (drop 1) (ap (drop at) is ∙ drop_at front (old ∷ rest) at (sym place)) in
    (first.0, whole ∙ ap (λ (l : List ℕ). front ++ l) (first.1 ∙ ap (λ (l : List ℕ). first.0 ∷ l) back))

-- what a write puts behind a front
placed_behind : (front rest bytes : List ℕ) (at : ℕ) → at ≡ length front
    → placed at bytes (front ++ rest) ≡ front ++ (bytes ++ drop (length bytes) rest)
placed_behind front rest bytes at place =
    let kept : take at (front ++ rest) ≡ front = take_at front rest at (sym place) in
    let back : drop (at + length bytes) (front ++ rest) ≡ drop (length bytes) rest =
    sym (drop-drop (length bytes) at (front ++ rest)) ∙ ap (drop (length bytes)) (drop_at front rest at (sym place)) in
    ap₂ (λ (x y : List ℕ). x ++ bytes ++ y) kept back ∙ append_assoc front bytes (drop (length bytes) rest)

-- ---- the two writes

-- one record is a chain
pub one_chain : (past : Past) (end : ℕ) (body : List ℕ) (logged : List Logged) (mode : Mode) (effect : Effect)
    → MayAppend past end body logged mode effect → MayChain past end body logged ((mode, effect) ∷ [])
one_chain past end body logged mode effect may = record {
  at_rest = may.at_rest;
  next = (may.next, tt);
  bytes_are = ap (λ (l : List ℕ). 1 ∷ l) (may.body_is
      ∙ ap (λ (l : List ℕ). l ++ (0 ∷ [])) (sym (append-nil (spelled (Format2 mode effect)))));
}

module _ (past : Past) (end : ℕ) (bytes : List ℕ) (logged : List Logged) (more : List (Mode × Effect))
    (may : MayChain past end bytes logged more) where
  abbrev records : List LogRecord
  records = may.at_rest.ends.chained

  abbrev front : List ℕ
  front = chain records

  -- the front with the gate behind it
  abbrev gated : List ℕ
  gated = front ++ (may.at_rest.ends.gate ∷ [])

  file_is : reads past Log ≡ gated ++ may.at_rest.ends.behind
  file_is = may.at_rest.ends.file ∙ sym (append_assoc front (may.at_rest.ends.gate ∷ []) may.at_rest.ends.behind)

  place : end ≡ length front
  place = may.at_rest.ends.end_is

  place_next : end + 1 ≡ length gated
  place_next = omega (arith, place, length-append front (may.at_rest.ends.gate ∷ []))

  pub inside_first : end + 1 ≤ length (reads past Log)
  inside_first = omega (arith, place_next, ap length file_is, length-append gated may.at_rest.ends.behind)

  holds_before : (c rest : List ℕ) (gate : ℕ) → c ≡ front ++ (gate ∷ rest) → gate ≢ 1 → log_of c ≡ Ok logged
  holds_before c rest gate is closed = ap log_of is ∙ log_is records gate rest may.at_rest.ends.records closed
      ∙ ap (λ (l : List Logged). Ok l) (sym may.at_rest.ends.logged_is)

  -- before it
  nothing_reads : (c : List ℕ) → c ≡ reads past Log → log_of c ≡ Ok logged
  nothing_reads c is = holds_before c may.at_rest.ends.behind may.at_rest.ends.gate (is ∙ may.at_rest.ends.file) may.at_rest.ends.closed

  pub nothing_added : LeavesOnly past past (HoldsEither past logged (added end more))
  nothing_added = started past (HoldsEither past logged (added end more)) (λ images now. inl (record {
    log = nothing_reads images.log (may.at_rest.durable images.log now.log);
    extent = now.extent;
  }))

  pub reads_nothing : ReadsEither past logged (added end more)
  reads_nothing = inl (nothing_reads (reads past Log) refl)

  -- during the first write
  torn_before : (c : List ℕ) → Torn (end + 1) (length bytes) (reads past Log) c → log_of c ≡ Ok logged
  torn_before c torn =
      let is = torn_front (end + 1) (length bytes) gated may.at_rest.ends.behind (reads past Log) c file_is place_next torn in
      holds_before c (drop (end + 1) c) may.at_rest.ends.gate (is ∙ append_assoc front (may.at_rest.ends.gate ∷ []) (drop (end + 1) c))
      may.at_rest.ends.closed

  either_first : (images : Files) → IsTornAt past (end + 1) (length bytes) images → HoldsEither past logged (added end more) images
  either_first images torn = inl (record { log = torn_before images.log torn.log; extent = torn.extent })

  pub first_write : (new : Past) → LeavesOnly past new (IsTornAt past (end + 1) (length bytes))
      → LeavesOnly past new (HoldsEither past logged (added end more))
  first_write new run =
      leaves_less past new (IsTornAt past (end + 1) (length bytes)) (HoldsEither past logged (added end more)) either_first run

  pub reads_first : (new : Past) → Torn (end + 1) (length bytes) (reads past Log) (reads new Log)
      → ReadsEither new logged (added end more)
  reads_first new torn = inl (torn_before (reads new Log) torn)

  module _ (mid : Past) (first : IsWritten (end + 1) bytes past mid) where
    -- what stands behind the records
    abbrev tail : List ℕ
    tail = drop (length bytes) may.at_rest.ends.behind

    mid_is : reads mid Log ≡ front ++ (may.at_rest.ends.gate ∷ (bytes ++ tail))
    mid_is = first.log ∙ ap (placed (end + 1) bytes) file_is
        ∙ placed_behind gated may.at_rest.ends.behind bytes (end + 1) place_next
        ∙ append_assoc front (may.at_rest.ends.gate ∷ []) (bytes ++ tail)

    pub inside_last : end ≤ length (reads mid Log)
    inside_last = omega (arith, place, ap length mid_is, length-append front (may.at_rest.ends.gate ∷ (bytes ++ tail)))

    abbrev all : List LogRecord
    all = records ++ written more

    opened_is : front ++ (1 ∷ (bytes ++ tail)) ≡ chain all ++ (0 ∷ tail)
    opened_is =
        ap (λ (l : List ℕ). front ++ (l ++ tail)) may.bytes_are
        ∙ ap (λ (l : List ℕ). front ++ l) (append_assoc (chain (written more)) (0 ∷ []) tail)
        ∙ sym (append_assoc front (chain (written more)) (0 ∷ tail))
        ∙ ap (λ (l : List ℕ). l ++ (0 ∷ tail)) (sym (chain_joined records (written more)))

    records_next : AreRecords None all
    records_next = records_joined None 0 records (written more) may.at_rest.ends.records
        (subst (λ (l : List Logged). AreRecords (last_number None l) (written more)) may.at_rest.ends.logged_is may.next)

    logged_next : logged ++ added end more ≡ logged_from 0 all
    logged_next = ap₂ (λ (l : List Logged) (n : ℕ). l ++ logged_from n (written more)) may.at_rest.ends.logged_is place
        ∙ sym (logged_first records (written more))

    holds_after : (c : List ℕ) → c ≡ front ++ (1 ∷ (bytes ++ tail)) → log_of c ≡ Ok (logged ++ added end more)
    holds_after c is = ap log_of (is ∙ opened_is) ∙ log_is all 0 tail records_next (λ e. absurd (omega (arith, e)))
        ∙ ap (λ (l : List Logged). Ok l) (sym logged_next)

    by_byte : (c : List ℕ) (b : ℕ) → c ≡ front ++ (b ∷ (bytes ++ tail))
        → (log_of c ≡ Ok logged) ⊎ (log_of c ≡ Ok (logged ++ added end more))
    by_byte c b is = by (eqb b 1) refl where
      by : (open_gate : Bool) → eqb b 1 ≡ open_gate → (log_of c ≡ Ok logged) ⊎ (log_of c ≡ Ok (logged ++ added end more))
      by true e = inr (holds_after c (is ∙ ap (λ (n : ℕ). front ++ (n ∷ (bytes ++ tail))) (eqb-true _ _ e)))
      by false e = inl (holds_before c (bytes ++ tail) b is (grind (arith, nat_tests, e)))

    -- during the second
    torn_last : (c : List ℕ) → Torn end 1 (reads mid Log) c → (log_of c ≡ Ok logged) ⊎ (log_of c ≡ Ok (logged ++ added end more))
    torn_last c torn =
        let byte = torn_byte end front may.at_rest.ends.gate (bytes ++ tail) (reads mid Log) c mid_is place torn in
        by_byte c byte.0 byte.1

    either_last : (images : Files) → IsTornAt mid end 1 images → HoldsEither past logged (added end more) images
    either_last images torn =
        let extent = first.extent images.extent torn.extent in
        elim (torn_last images.log torn.log) [
          | inl log ↦ inl (record { log = log; extent = extent })
          | inr log ↦ inr (record { log = log; extent = extent })
        ]

    last_is : placed end (1 ∷ []) (reads mid Log) ≡ front ++ (1 ∷ (bytes ++ tail))
    last_is = ap (placed end (1 ∷ [])) mid_is ∙ placed_behind front (may.at_rest.ends.gate ∷ (bytes ++ tail)) (1 ∷ []) end place

    pub reads_last : (new : Past) → Torn end 1 (reads mid Log) (reads new Log) → ReadsEither new logged (added end more)
    reads_last new torn = torn_last (reads new Log) torn

    pub rests_again : (new : Past) → IsWritten end (1 ∷ []) mid new → IsAtRest new (logged ++ added end more) (end + length bytes)
    rests_again new last = record {
      ends = record {
        chained = all;
        gate = 0;
        behind = tail;
        file = last.log ∙ last_is ∙ opened_is;
        closed = λ e. absurd (omega (arith, e));
        records = records_next;
        logged_is = logged_next;
        end_is = omega (
          arith,
          place,
          ap length (chain_joined records (written more)),
          length-append front (chain (written more)),
          ap length may.bytes_are,
          length-append (chain (written more)) (0 ∷ []),
        );
      };
      durable = last.durable;
    }

    pub both_writes : (new : Past) → LeavesOnly past mid (IsTornAt past (end + 1) (length bytes)) → LeavesOnly mid new (IsTornAt mid end 1)
        → LeavesOnly past new (HoldsEither past logged (added end more))
    both_writes new run last = and_then past mid new (HoldsEither past logged (added end more)) (first_write mid run)
        (leaves_less mid new (IsTornAt mid end 1) (HoldsEither past logged (added end more)) either_last last)
