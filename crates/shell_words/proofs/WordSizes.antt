-- No word is longer than its line.
use Rattle.std.proofs.Common.{◌≡◌, ℕ, ◌+◌, ◌≤◌, Bool, true, false, cond, List, [], ◌∷◌, length, arith, subst}
use Rattle.std.specs.List.{AllByRecursion, onto_first}
use Rattle.texts.specs.Bytes.{Bytes}
use Rattle.shell_words.specs.declared.limits.TheConstants.{SCRIPT_LIMIT}
use Rattle.shell_words.specs.Lines.{is_space, line_words}
use Rattle.shell_words.specs.Script.{HasShortText}
use Rattle.shell_words.specs.ScriptGrammar.{SaysCommand}
use Rattle.shell_words.specs.Reading.{command_of, LineSays}
use Rattle.shell_words.specs.declared.script.Command.{Command}
use Rattle.shell_words.specs.declared.script.Command.TheVariants.{Chunk, Method, Commit, Abort, Logout, Lock, Unlock, Checkpoint, Mode}
use Rattle.shell_words.specs.declared.table.Opening.{Opening}
use Rattle.shell_words.specs.declared.table.Opening.TheVariants.{Chunk as OfChunk, Method as OfMethod}
use Rattle.shell_words.specs.declared.table.ScriptLine.TheVariants.{Opening as Opens}

-- the words have so many bytes at most
IsUpTo : ℕ → List Bytes → Type 0
IsUpTo n words = AllByRecursion (λ w. length w ≤ n) words

up_to_more : (n : ℕ) (words : List Bytes) → IsUpTo n words → IsUpTo (n + 1) words
unfolding IsUpTo
up_to_more n [] all = tt
up_to_more n (w ∷ ws) all = let first = all.0 in (omega (arith, first), up_to_more n ws all.1)

up_to_if : (space : Bool) (b n : ℕ) (words : List Bytes) → IsUpTo n words → IsUpTo (n + 1) (cond space ([] ∷ words) (onto_first b words))
unfolding IsUpTo
up_to_if true b n words all = (omega arith, up_to_more n words all)
up_to_if false b n [] all = (omega arith, tt)
up_to_if false b n (w ∷ ws) all = let first = all.0 in (omega (arith, first), up_to_more n ws all.1)

words_up_to : (line : Bytes) → IsUpTo (length line) (line_words line)
unfolding IsUpTo
words_up_to [] = (omega arith, tt)
words_up_to (b ∷ bs) =
    let size : length bs + 1 ≡ length (b ∷ bs) = omega arith in
    let P : ℕ → Type 0 = λ n. IsUpTo n (line_words (b ∷ bs)) in
    subst P size (up_to_if (is_space b) b (length bs) (line_words bs) (words_up_to bs))

second : (line w name : Bytes) → line_words line ≡ w ∷ name ∷ [] → length line ≤ SCRIPT_LIMIT → length name ≤ SCRIPT_LIMIT
unfolding IsUpTo
second line w name is size =
    let P : List Bytes → Type 0 = λ ws. AllByRecursion (λ v. length v ≤ length line) ws in
    let all = subst P is (words_up_to line) in
    let fits = all.1.0 in
    omega (arith, fits, size)

third : (line w m name : Bytes) → line_words line ≡ w ∷ m ∷ name ∷ [] → length line ≤ SCRIPT_LIMIT → length name ≤ SCRIPT_LIMIT
unfolding IsUpTo
third line w m name is size =
    let P : List Bytes → Type 0 = λ ws. AllByRecursion (λ v. length v ≤ length line) ws in
    let all = subst P is (words_up_to line) in
    let fits = all.1.1.0 in
    omega (arith, fits, size)

pub short_command : (line : Bytes) (command : Command) → SaysCommand line command → length line ≤ SCRIPT_LIMIT → HasShortText command
short_command line (Chunk prints text) says size = absurd says
short_command line (Method class_side class text) says size = absurd says
short_command line Commit says size = tt
short_command line Abort says size = tt
short_command line Logout says size = tt
short_command line (Lock true name) says size = third line _ _ name says.0 size
short_command line (Lock false name) says size = third line _ _ name says.0 size
short_command line (Unlock name) says size = second line _ name says.0 size
short_command line Checkpoint says size = tt
short_command line (Mode full) says size = tt

pub short_opening : (line : Bytes) (opening : Opening) → LineSays line (Opens opening) → length line ≤ SCRIPT_LIMIT → HasShortText (command_of opening [])
short_opening line (OfChunk true) says size = omega arith
short_opening line (OfChunk false) says size = omega arith
short_opening line (OfMethod true class) says size = (second line _ class says.0 size, omega arith)
short_opening line (OfMethod false class) says size = (second line _ class says.0 size, omega arith)
