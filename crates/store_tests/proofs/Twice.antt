-- What a log holds after two records were added.
use Rattle.std.proofs.Common.{◌≡◌, ℕ, List, [], ◌∷◌, ◌++◌, None, Result, Ok, sym, ap, subst, ◌∙◌, append_assoc, append-nil}
use Rattle.gem_record.specs.declared.mode.Mode.{Mode}
use Rattle.gem_record.specs.declared.effect.Effect.{Effect}
use Rattle.gem_disk.specs.declared.disk.Which.TheVariants.{Log}
use Rattle.gem_disk.specs.Disk.{Past, reads}
use Rattle.tran_log.specs.declared.logged.Logged.{Logged}
use Rattle.tran_log.specs.Log.{Fault, Format2, spelled_record, logged_as, log_of, last_number, IsNext, AreRecords, AreBodies}
use Rattle.tran_log.specs.Resting.{IsAtRest, MayChain}
use Rattle.tran_log.proofs.Walks.{last_more}
use Rattle.tran_log.proofs.Restarting.{rest_reads}

pub second_next : (logged : List Logged) (end : ℕ) (mode : Mode) (one two : Effect)
    → AreRecords (last_number None logged) (Format2 mode one ∷ Format2 mode two ∷ [])
    → IsNext (last_number None (logged ++ logged_as end mode one ∷ [])) (Format2 mode two)
second_next logged end mode one two are =
    subst (λ o. IsNext o (Format2 mode two)) (sym (last_more None logged (logged_as end mode one))) are.1.0

abbrev gives : List Logged → Result (List Logged) Fault
gives logged = Ok logged

same_records : (xs ys : List Logged) → gives xs ≡ gives ys → xs ≡ ys
same_records xs ys e = cc

pub two_found : (past : Past) (bytes : List ℕ) (logged held found : List Logged) (one two : Logged) (end : ℕ)
    → log_of bytes ≡ Ok logged → log_of bytes ≡ Ok held
    → IsAtRest past ((held ++ one ∷ []) ++ two ∷ []) end → log_of (reads past Log) ≡ Ok found
    → found ≡ logged ++ (one ∷ two ∷ [])
two_found past bytes logged held found one two end given read rest again =
    let all = (held ++ one ∷ []) ++ two ∷ [] in
    let found_is : found ≡ all = same_records found all (sym again ∙ rest_reads past all end rest) in
    let held_is : held ≡ logged = same_records held logged (sym read ∙ given) in
    found_is ∙ append_assoc held (one ∷ []) (two ∷ [])
    ∙ ap (λ (l : List Logged). l ++ (one ∷ two ∷ [])) held_is

-- ---- two at once

one_body : (mode : Mode) (effect : Effect) (body : List ℕ) → body ≡ spelled_record mode effect ++ (0 ∷ [])
    → AreBodies ((mode, effect) ∷ []) body
one_body mode effect body is = ap (λ (l : List ℕ). 1 ∷ l) (is
    ∙ ap (λ (l : List ℕ). l ++ (0 ∷ [])) (sym (append-nil (spelled_record mode effect))))

pub two_bodies : (mode : Mode) (one two : Effect) (first between both second : List ℕ)
    → first ≡ spelled_record mode one ++ (0 ∷ []) → between ≡ first
    → (AreBodies ((mode, one) ∷ []) between → second ≡ spelled_record mode two ++ (0 ∷ [])
    → AreBodies ((mode, one) ∷ (mode, two) ∷ []) both)
    → second ≡ spelled_record mode two ++ (0 ∷ []) → AreBodies ((mode, one) ∷ (mode, two) ∷ []) both
two_bodies mode one two first between both second first_is same further second_is =
    further (one_body mode one between (same ∙ first_is)) second_is

pub may_chain : (past : Past) (end : ℕ) (bytes : List ℕ) (logged : List Logged) (mode : Mode) (one two : Effect)
    → IsAtRest past logged end → AreRecords (last_number None logged) (Format2 mode one ∷ Format2 mode two ∷ [])
    → AreBodies ((mode, one) ∷ (mode, two) ∷ []) bytes
    → MayChain past end bytes logged ((mode, one) ∷ (mode, two) ∷ [])
may_chain past end bytes logged mode one two rest next are =
    record { at_rest = rest; next = next; bytes_are = are }
