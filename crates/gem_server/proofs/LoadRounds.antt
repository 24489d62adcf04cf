-- The rounds of a load, as commands of a session, and what a session carries between them.
use Rattle.std.proofs.Common.{◌≡◌, ℕ, zero, suc, ◌+◌, ◌-◌, false, List, [], ◌∷◌, ◌++◌, length, map, take, drop, get_or, refl, sym, ap, ◌∙◌, append_assoc, arith}
use Rattle.std.specs.List.{flat_map}
use Rattle.std.proofs.lemmas.List.{take_at, drop_at, length-append}
use Rattle.gem_meaning.specs.gem_record.declared.record.Entry.{Entry}
use Rattle.gem_meaning.specs.gem_record.declared.mode.Mode.TheVariants.{Full}
use Rattle.gem_meaning.specs.shell_words.Script.{SessionCommands}
use Rattle.gem_meaning.specs.shell_words.declared.script.Command.{Command}
use Rattle.gem_meaning.specs.shell_words.declared.script.Command.TheVariants.{Chunk, Commit}
use Rattle.gem_meaning.specs.declared.event.What.TheVariants.{Placed}
use Rattle.gem_meaning.specs.Events.{Event}
use Rattle.gem_meaning.specs.State.{SessionState, entry_to}
use Rattle.gem_server.specs.Rounds.{round_text}
use Rattle.gem_server.proofs.SetupScript.{curator}

-- ---- commands

abbrev pub round_commands : ℕ → List Command
round_commands number = Chunk false (round_text number) ∷ Commit ∷ []

abbrev pub session_of : List ℕ → SessionCommands
session_of numbers = record { user = curator; commands = flat_map round_commands numbers }

abbrev pub script_of : List (List ℕ) → List SessionCommands
script_of all = map session_of all

-- ---- what a session carries

abbrev pub round_state : (session view transaction first : ℕ) → SessionState
round_state session view transaction first = record {
  session = session;
  user = 32;
  view = view;
  mode = Full;
  transaction = transaction;
  first_command = first;
  first_name = 1;
  next_name = 1;
  spoiled = false;
}

abbrev pub round_entry : (session view transaction first : ℕ) → Entry
round_entry session view transaction first = entry_to (first + 1) (round_state session view transaction first)

-- the number of the round that is a session's transaction with this number
abbrev pub number_at : List (List ℕ) → (session transaction : ℕ) → ℕ
number_at all session transaction = get_or (get_or all (session - 1) []) (transaction - 1) 0

-- what the event adds to the counter
abbrev pub added_by : List (List ℕ) → Event → ℕ
added_by all (session, Placed e) = number_at all session e.transaction
added_by all (session, _) = 0

-- the sum of something over a list
abbrev pub sum_over : {X : Type 0} → (X → ℕ) → List X → ℕ
sum_over f [] = 0
sum_over f (x ∷ xs) = f x + sum_over f xs

pub sum_push : {X : Type 0} (f : X → ℕ) (xs : List X) (x : X) → sum_over f (xs ++ x ∷ []) ≡ sum_over f xs + f x
sum_push f [] x = omega arith
sum_push f (y ∷ xs) x = let rest = sum_push f xs x in omega (arith, rest)

-- ---- the commands of a transaction

pub cut_out : {X : Type 0} (front more : List X) (one other : X) (first : ℕ) → length front + 1 ≡ first
    → drop (first - 1) (take (first + 1) (front ++ one ∷ other ∷ more)) ≡ one ∷ other ∷ []
cut_out {X} front more one other first is =
    let pair : List X = one ∷ other ∷ [] in
    let size : length (front ++ pair) ≡ first + 1 = length-append front pair ∙ omega (arith, is) in
    let until : length front ≡ first - 1 = omega (arith, is) in
    ap (λ (list : List X). drop (first - 1) (take (first + 1) list)) (sym (append_assoc front pair more))
    ∙ ap (drop (first - 1)) (take_at (front ++ pair) more (first + 1) size) ∙ drop_at front pair (first - 1) until

pub nothing_yet : {X : Type 0} (n : ℕ) (list : List X) → drop n (take n list) ≡ []
nothing_yet zero list = refl
nothing_yet (suc n) [] = refl
nothing_yet (suc n) (x ∷ list) = nothing_yet n list
