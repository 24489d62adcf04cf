-- A log whose records are read from the front, one after the other.
use Rattle.std.proofs.Common.{◌≡◌, ℕ, ◌+◌, ◌≤◌, Bool, IsTrue, List, [], ◌∷◌, ◌++◌, length, drop, Option, Some, None, Result, Ok, Err, refl, sym, ap, ap₂, subst, ◌∙◌, append_assoc, append-nil, arith}
use Rattle.std.proofs.lemmas.List.{drop_all, length-append}
use Rattle.gem_record.specs.declared.effect.Effect.{Effect}
use Rattle.body_codec.specs.Stored.{IsStoredEffect}
use Rattle.tran_log.specs.declared.fault.LogRule.TheVariants as rule
use Rattle.tran_log.specs.declared.fault.LogFault.{LogFault}
use Rattle.tran_log.specs.declared.fault.LogFault.TheVariants.{NotLog, Disk, NoMemory}
use Rattle.tran_log.specs.declared.logged.Logged.{Logged}
use Rattle.tran_log.specs.declared.read.Next.{Next}
use Rattle.tran_log.specs.Log.{LogRecord, effect_of, mode_of, spelled, chain, IsNext, AreRecords, logged_as, logged_from, last_number, number_in, length_in, Fault, before, joined, walk}
use Rattle.tran_log.specs.Reads.{IsClosedAt, IsNextAt, BreaksAt, LogFails, TakesAll, IsReplayed}
use Rattle.tran_log.proofs.Walks.{with_front, front_nil, chain_more, logged_first, records_joined, last_more}
use Rattle.tran_log.proofs.Again.{one_record}

-- ---- walking over records

before_front : (one : Logged) (logged : List Logged) (more : Result (List Logged) Fault)
    → before one (with_front logged more) ≡ with_front (one ∷ logged) more
unfolding with_front
before_front one logged (Ok more) = refl
before_front one logged (Err fault) = refl

-- records at the front are read, and then what stands behind them
pub walk_front : (records : List LogRecord) (last : Option ℕ) (at : ℕ) (rest : List ℕ) → AreRecords last records
    → walk 0 at last (chain records ++ rest) ≡ with_front (logged_from at records)
    (walk 0 (at + length (chain records)) (last_number last (logged_from at records)) rest)
walk_front [] last at rest are =
    let e : at ≡ at + 0 = omega arith in
    ap (λ (n : ℕ). walk 0 n last rest) e ∙ sym (front_nil _)
walk_front (one ∷ records) last at rest are =
    let number = (effect_of one).number in
    let next = at + (1 + length (spelled one)) in
    let here = logged_as at (mode_of one) (effect_of one) in
    let e : (at + 1) + length (spelled one) ≡ next = omega arith in
    let place : next + length (chain records) ≡ at + length (chain (one ∷ records)) =
    omega (arith, length-append (spelled one) (chain records)) in
    let after = last_number (Some number) (logged_from next records) in
    ap (λ (l : List ℕ). walk 0 at last (1 ∷ l)) (append_assoc (spelled one) (chain records) rest)
    ∙ one_record last one are.0 (chain records ++ rest) at
    ∙ ap (λ (n : ℕ). before here (walk 0 n (Some number) (chain records ++ rest))) e
    ∙ ap (before here) (walk_front records (Some number) next rest are.1)
    ∙ before_front here (logged_from next records) (walk 0 (next + length (chain records)) after rest)
    ∙ ap (λ (n : ℕ). with_front (here ∷ logged_from next records) (walk 0 n after rest)) place

-- ---- what takes the records

taken_more : {T : Type 0} (takes : T → Logged → T → Type 0) (old mid new : T) (logged : List Logged) (one : Logged)
    → TakesAll takes old logged mid → takes mid one new → TakesAll takes old (logged ++ one ∷ []) new
taken_more takes old mid new [] one taken takes_one = (new, subst (λ t. takes t one new) taken takes_one, refl)
taken_more takes old mid new (first ∷ logged) one taken takes_one =
    (taken.0, taken.1, taken_more takes taken.0 mid new logged one taken.2 takes_one)

-- Records were read from the front of a log and taken; the offset and the number are those behind
-- them.
pub record IsUnderWay {T : Type 0} (takes : T → Logged → T → Type 0) (first now : T) (tells : Bool)
    (file : List ℕ) (at : ℕ) (last : Option ℕ) : Type 0 where
  pub chained : List LogRecord
  pub are : AreRecords None chained
  pub taken : TakesAll takes first (logged_from 0 chained) now
  pub at_is : at ≡ length (chain chained)
  pub last_is : last ≡ last_number None (logged_from 0 chained)
  pub file_is : IsTrue tells → file ≡ chain chained ++ drop at file

pub begun : {T : Type 0} (takes : T → Logged → T → Type 0) (first : T) (tells : Bool) (file : List ℕ)
    → IsUnderWay takes first first tells file 0 None
begun takes first tells file = record {
  chained = [];
  are = tt;
  taken = refl;
  at_is = refl;
  last_is = refl;
  file_is = λ tell. refl;
}

-- the effect of a record that was read
pub next_stored : (tells : Bool) (file : List ℕ) (at : ℕ) (last : Option ℕ) (next : Next) → IsNextAt tells file at last next
    → IsStoredEffect next.one.effect.number next.one.effect
next_stored tells file at last next is =
    let same : effect_of is.written ≡ next.one.effect = sym (ap (λ (one : Logged). one.effect) is.one_is) in
    subst (λ (e : Effect). IsStoredEffect e.number e) same is.next_is.stored

module _ {T : Type 0} (takes : T → Logged → T → Type 0) (first now : T) (tells : Bool) (file : List ℕ) (at : ℕ)
    (last : Option ℕ) (is : IsUnderWay takes first now tells file at last) where
  abbrev logged : List Logged
  logged = logged_from 0 is.chained

  pub one_more : (next : Next) → IsNextAt tells file at last next → (then : T) → takes now next.one then
      → IsUnderWay takes first then tells file (at + next.bytes) (Some next.one.effect.number)
  one_more next there then takes_one =
      let written = there.written in
      let all = is.chained ++ written ∷ [] in
      let one_is : logged_as (length (chain is.chained)) (mode_of written) (effect_of written) ≡ next.one =
      ap (λ (n : ℕ). logged_as n (mode_of written) (effect_of written)) (sym is.at_is) ∙ sym there.one_is in
      let all_logged : logged_from 0 all ≡ logged ++ next.one ∷ [] =
      logged_first is.chained (written ∷ []) ∙ ap (λ (one : Logged). logged ++ one ∷ []) one_is in
      record {
        chained = all;
        are = records_joined None 0 is.chained (written ∷ []) is.are
            (subst (λ o. IsNext o written) is.last_is there.next_is, tt);
        taken = subst (λ (l : List Logged). TakesAll takes first l then) (sym all_logged)
            (taken_more takes first now then logged next.one is.taken takes_one);
        at_is = omega (
          arith,
          is.at_is,
          there.bytes_are,
          ap length (chain_more is.chained written),
          length-append (chain is.chained) (1 ∷ spelled written),
        );
        last_is = sym (ap (last_number None) all_logged ∙ last_more None logged next.one);
        file_is = λ tell. is.file_is tell ∙ ap (λ (l : List ℕ). chain is.chained ++ l) (there.file_is tell)
            ∙ sym (append_assoc (chain is.chained) (1 ∷ spelled written) (drop (at + next.bytes) file))
            ∙ ap (λ (l : List ℕ). l ++ drop (at + next.bytes) file) (sym (chain_more is.chained written));
      }

  pub closed_here : (IsTrue tells → IsClosedAt file at) → IsReplayed takes first now tells file at
  closed_here closed = record {
    logged = logged;
    read = record { records = is.chained; follow = is.are; logged_is = refl };
    taken = is.taken;
    ends = λ tell. record {
      chained = is.chained;
      gate = (closed tell).gate;
      behind = (closed tell).rest;
      file = is.file_is tell ∙ ap (λ (l : List ℕ). chain is.chained ++ l) (closed tell).file_is;
      closed = (closed tell).closed;
      records = is.are;
      logged_is = refl;
      end_is = is.at_is;
    };
  }

  -- what is told of what stands here is what is told of the whole
  walked : IsTrue tells → walk 0 0 None file ≡ with_front logged (walk 0 at last (drop at file))
  walked tell =
      let e : 0 + length (chain is.chained) ≡ at = omega (arith, is.at_is) in
      ap (walk 0 0 None) (is.file_is tell) ∙ walk_front is.chained None 0 (drop at file) is.are
      ∙ ap₂ (λ (n : ℕ) (o : Option ℕ). with_front logged (walk 0 n o (drop at file))) e (sym is.last_is)

  pub broken_here : IsTrue tells → (fault : LogFault) → BreaksAt file at last fault → LogFails (walk 0 0 None file) fault
  unfolding with_front
  broken_here tell (NotLog place broken) (place_is, breaks) =
      walked tell ∙ ap (λ (l : List ℕ). with_front logged (walk 0 at last l)) breaks.file_is
      ∙ ap (λ r. with_front logged (joined at r
      (walk (12 + length_in breaks.rest) (at + 1) (Some (number_in breaks.rest)) breaks.rest))) breaks.breaks
      ∙ ap (λ (n : ℕ). Err (n, broken)) (sym place_is)
  broken_here tell Disk breaks = tt
  broken_here tell NoMemory breaks = tt

  pub missing_here : IsTrue tells → (size : ℕ) → size ≡ length file → size ≤ at → walk 0 0 None file ≡ Err (size, rule.Gate)
  unfolding with_front
  missing_here tell size size_is over =
      let none : drop at file ≡ [] = drop_all at file (omega (arith, size_is, over)) in
      let parts : length file ≡ length (chain is.chained) + length (drop at file) =
      ap length (is.file_is tell) ∙ length-append (chain is.chained) (drop at file) in
      let at_size : at ≡ size = omega (arith, parts, ap length none, is.at_is, size_is) in
      walked tell ∙ ap (λ (l : List ℕ). with_front logged (walk 0 at last l)) none
      ∙ ap (λ (n : ℕ). Err (n, rule.Gate)) at_size

-- ---- records that are put into a list

gathered : {T : Type 0} (items : T → List Logged) (old new : T) (logged : List Logged)
    → TakesAll (λ before one after. items after ≡ items before ++ one ∷ []) old logged new → items new ≡ items old ++ logged
gathered items old new [] taken = ap items taken ∙ sym (append-nil (items old))
gathered items old new (one ∷ logged) taken = gathered items taken.0 new logged taken.2
    ∙ ap (λ (l : List Logged). l ++ logged) taken.1 ∙ append_assoc (items old) (one ∷ []) logged

pub gathered_all : {T : Type 0} (old new : T) (logged : List Logged) (items : T → List Logged) → items old ≡ []
    → TakesAll (λ before one after. items after ≡ items before ++ one ∷ []) old logged new → logged ≡ items new
gathered_all old new logged items none taken =
    sym (gathered items old new logged taken ∙ ap (λ (l : List Logged). l ++ logged) none)
