-- The script of a load.
use Rattle.std.proofs.Common.{◌≡◌, ◌≢◌, ℕ, ◌+◌, ◌≤◌, Bool, true, false, ◌&&◌, not, List, [], ◌∷◌, ◌++◌, length, refl, sym, ap, subst, ◌∙◌, codes, append-nil, append_assoc, arith}
use Rattle.std.specs.Fmt.{decimal}
use Rattle.std.specs.List.{AllByRecursion, list_all, flat_map}
use Rattle.std.proofs.lemmas.List.{length-append}
use Rattle.gem_meaning.specs.texts.Bytes.{Bytes}
use Rattle.gem_meaning.specs.texts.Lines.{text_of_lines}
use Rattle.gem_meaning.specs.shell_words.declared.limits.TheConstants.{CHUNK_LIMIT}
use Rattle.gem_meaning.specs.shell_words.Script.{SessionCommands, is_logout, takes_commands, with_next_command}
use Rattle.gem_meaning.specs.shell_words.ScriptGrammar.{Leads, session_line, chunk_lines, command_line, at_once, after, ReadsScript}
use Rattle.gem_meaning.specs.shell_words.declared.script.Command.{Command}
use Rattle.gem_meaning.specs.shell_words.declared.script.Command.TheVariants.{Chunk, Commit}
use Rattle.shell_words.proofs.OneAnswer.{one_script}
use Rattle.load_maker.specs.Numbers.{load_numbers}
use Rattle.load_maker.specs.Scripts.{round_lines, session_lines, load_text}
use Rattle.gem_server.specs.Rounds.{round_text}
use Rattle.gem_server.proofs.SetupScript.{curator}
use Rattle.gem_server.proofs.LoadRounds.{round_commands, session_of, script_of}
use Rattle.gem_server.proofs.LoadWalk.{IsDigit}
use Rattle.gem_server.proofs.LoadNumbers.{AreNumbers, all_numbers, all_sessions}
use Rattle.gem_server.proofs.LoadLines.{lines_are, of_digit, round_line, sessions_flat}

-- ---- the last session of those that were read

abbrev with_commands : List SessionCommands → List Command → List SessionCommands
with_commands front commands = front ++ record { user = curator; commands = commands } ∷ []

takes_more : (front : List SessionCommands) (session : SessionCommands)
    → takes_commands (front ++ session ∷ []) ≡ list_all (λ command. not (is_logout command)) session.commands
takes_more [] session = refl
takes_more (first ∷ []) session = refl
takes_more (first ∷ next ∷ front) session = takes_more (next ∷ front) session

next_command : (front : List SessionCommands) (session : SessionCommands) (command : Command)
    → with_next_command (front ++ session ∷ []) command
    ≡ front ++ record { user = session.user; commands = session.commands ++ command ∷ [] } ∷ []
next_command [] session command = refl
next_command (first ∷ []) session command = refl
next_command (first ∷ next ∷ front) session command =
    ap (λ (rest : List SessionCommands). first ∷ rest) (next_command (next ∷ front) session command)

-- whether none of these ends its session
abbrev takes : List Command → Bool
takes commands = list_all (λ command. not (is_logout command)) commands

takes_both : (first second : List Command) → takes first ≡ true → takes second ≡ true → takes (first ++ second) ≡ true
takes_both [] second one other = other
takes_both (command ∷ first) second one other = by (λ rest. takes_both first second rest other) (is_logout command) one
  where
    by : (takes first ≡ true → takes (first ++ second) ≡ true) → (out : Bool) → (not out && takes first) ≡ true
        → (not out && takes (first ++ second)) ≡ true
    by onward true one = absurd cc
    by onward false one = onward one

-- ---- a round

first_byte : Bytes → ℕ
first_byte [] = 0
first_byte (b ∷ bytes) = b

no_end : (digits : Bytes) → round_line digits ≢ codes "%"
unfolding first_byte
no_end digits same = let heads : 72 ≡ 37 = ap first_byte same in absurd (omega (arith, heads))

short_round : (n : ℕ) → 1 ≤ n → n ≤ 9 → length (text_of_lines (round_line ((48 + n) ∷ []) ∷ [])) ≤ CHUNK_LIMIT
short_round n from to = omega arith

module _ (front reached : List SessionCommands) where
  round_leads : (commands : List Command) (number : ℕ) → takes commands ≡ true → IsDigit number
      → (lines : List Bytes) → Leads (with_commands front ((commands ++ Chunk false (round_text number) ∷ []) ++ Commit ∷ [])) lines reached []
      → Leads (with_commands front commands) (round_lines number ++ lines) reached []
  round_leads commands number ok digit lines onward =
      let chunk : Command = Chunk false (round_text number) in
      let line : Bytes = round_line (decimal number) in
      let longer : List Command = commands ++ chunk ∷ [] in
      after (chunk_lines (codes "run") chunk (line ∷ codes "%" ∷ codes "commit" ∷ lines) (line ∷ []) refl (refl, refl)
      (takes_more front (record { user = curator; commands = commands }) ∙ ok)
      (record { whole = refl; inner = (no_end (decimal number), tt) })
      (of_digit (λ text. length (text_of_lines (round_line text ∷ [])) ≤ CHUNK_LIMIT) short_round number digit)
      (sym (next_command front (record { user = curator; commands = commands }) chunk)))
      (after (command_line (codes "commit") Commit refl refl
      (takes_more front (record { user = curator; commands = longer }) ∙ takes_both commands (chunk ∷ []) ok refl)
      (sym (next_command front (record { user = curator; commands = longer }) Commit))) onward)

  rounds_lead : (numbers : List ℕ) (commands : List Command) → takes commands ≡ true → AllByRecursion IsDigit numbers
      → (lines : List Bytes) → Leads (with_commands front (commands ++ flat_map round_commands numbers)) lines reached []
      → Leads (with_commands front commands) (flat_map round_lines numbers ++ lines) reached []
  rounds_lead [] commands ok digits lines onward =
      subst (λ (c : List Command). Leads (with_commands front c) lines reached []) (append-nil commands) onward
  rounds_lead (number ∷ numbers) commands ok digits lines onward =
      let chunk : Command = Chunk false (round_text number) in
      round_leads commands number ok digits.0 (flat_map round_lines numbers ++ lines)
      (rounds_lead numbers ((commands ++ chunk ∷ []) ++ Commit ∷ [])
      (takes_both (commands ++ chunk ∷ []) (Commit ∷ []) (takes_both commands (chunk ∷ []) ok refl) refl) digits.1 lines
      (subst (λ (c : List Command). Leads (with_commands front c) lines reached [])
      (sym (append_assoc (commands ++ chunk ∷ []) (Commit ∷ []) (flat_map round_commands numbers)
      ∙ append_assoc commands (chunk ∷ []) (Commit ∷ flat_map round_commands numbers))) onward))

-- ---- all of it

sessions_lead : (all : List (List ℕ)) (front : List SessionCommands) → length front + length all ≤ 16
    → AllByRecursion (AllByRecursion IsDigit) all → Leads front (flat_map session_lines all) (front ++ script_of all) []
sessions_lead [] front few digits = at_once (sym (append-nil front)) refl
sessions_lead (numbers ∷ all) front few digits =
    let reached : List SessionCommands = front ++ script_of (numbers ∷ all) in
    let size : length (front ++ session_of numbers ∷ []) ≡ length front + 1 = length-append front (session_of numbers ∷ []) in
    after (session_line (codes "session DataCurator") curator refl (refl, λ same. absurd cc) refl (omega (arith, few)) refl)
    (rounds_lead front reached numbers [] refl digits.0 (flat_map session_lines all)
    (subst (λ (r : List SessionCommands). Leads (front ++ session_of numbers ∷ []) (flat_map session_lines all) r [])
    (append_assoc front (session_of numbers ∷ []) (script_of all))
    (sessions_lead all (front ++ session_of numbers ∷ []) (omega (arith, few, size)) digits.1)))

digits_of : (rounds : ℕ) (all : List (List ℕ)) → AllByRecursion (AreNumbers rounds) all → AllByRecursion (AllByRecursion IsDigit) all
digits_of rounds [] are = tt
digits_of rounds (numbers ∷ all) are = (are.0.digits, digits_of rounds all are.1)

-- the script of a load, where its text is a script
pub load_script_is : (seed sessions rounds : ℕ) (script : List SessionCommands) → sessions ≤ 16
    → ReadsScript (load_text seed sessions rounds) script → script ≡ script_of (load_numbers sessions rounds seed)
load_script_is seed sessions rounds script few reads =
    let all : List (List ℕ) = load_numbers sessions rounds seed in
    let digits = digits_of rounds all (all_numbers sessions rounds seed) in
    let size = all_sessions sessions rounds seed in
    one_script (load_text seed sessions rounds) script (script_of all) reads (record {
      short = reads.short;
      plain = reads.plain;
      read = subst (λ (lines : List Bytes). Leads [] lines (script_of all) []) (sym (lines_are (flat_map session_lines all) (sessions_flat all digits)))
          (sessions_lead all [] (omega (arith, size, few)) digits);
    })
