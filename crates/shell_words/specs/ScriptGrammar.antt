-- Which texts are scripts, and at which line another text first breaks which rule.
use Rattle.std.specs.Prelude.{◌≡◌, ◌≢◌, ℕ, ◌+◌, ◌<◌, ◌≤◌, Bool, true, false, ◌&&◌, ◌||◌, ◌==◌, nat_le, codes, List, [], ◌∷◌, ◌++◌, length}
use Rattle.std.specs.List.{AllByRecursion, list_all}
use Rattle.texts.specs.Bytes.{Bytes}
use Rattle.texts.specs.Lines.{text_of_lines}
use Rattle.shell_words.specs.declared.limits.TheConstants.{SCRIPT_LIMIT, SESSION_LIMIT, CHUNK_LIMIT}
use Rattle.shell_words.specs.Lines.{lines_of, line_words, IsInner, IsBody}
use Rattle.texts.specs.Names.{is_name, is_user_name}
use Rattle.shell_words.specs.Script.{SessionCommands, takes_commands, with_next_command}
use Rattle.shell_words.specs.declared.script.Command.{Command}
use Rattle.shell_words.specs.declared.script.Command.TheVariants.{Chunk, Method, Commit, Abort, Logout, Lock, Unlock, Checkpoint, Mode}

-- the line of a session, which has a name
abbrev pub BeginsSession : Bytes → Bytes → Type 0
BeginsSession line name = (line_words line ≡ codes "session" ∷ name ∷ []) × (name ≢ [])

-- a command of one line
abbrev pub SaysCommand : Bytes → Command → Type 0
SaysCommand line Commit = line_words line ≡ codes "commit" ∷ []
SaysCommand line Abort = line_words line ≡ codes "abort" ∷ []
SaysCommand line Logout = line_words line ≡ codes "logout" ∷ []
SaysCommand line (Lock true name) =
    (line_words line ≡ codes "lock" ∷ codes "write" ∷ name ∷ []) × (is_name name ≡ true)
SaysCommand line (Lock false name) =
    (line_words line ≡ codes "lock" ∷ codes "read" ∷ name ∷ []) × (is_name name ≡ true)
SaysCommand line (Unlock name) =
    (line_words line ≡ codes "unlock" ∷ name ∷ []) × (is_name name ≡ true)
SaysCommand line Checkpoint = line_words line ≡ codes "checkpoint" ∷ []
SaysCommand line (Mode true) = line_words line ≡ codes "mode" ∷ codes "full_checks" ∷ []
SaysCommand line (Mode false) = line_words line ≡ codes "mode" ∷ codes "no_rw_checks" ∷ []
SaysCommand line _ = ⊥

-- The line begins a chunk or a method, and with this text that is this command. There is a case for
-- each kind of first line: `printit`, `run`, `classmethod: NAME` and `method: NAME`.
abbrev pub BeginsChunk : Bytes → Bytes → Command → Type 0
BeginsChunk line text (Chunk true chunk) = (line_words line ≡ codes "printit" ∷ []) × (chunk ≡ text)
BeginsChunk line text (Chunk false chunk) = (line_words line ≡ codes "run" ∷ []) × (chunk ≡ text)
BeginsChunk line text (Method true class source) =
    (line_words line ≡ codes "classmethod:" ∷ class ∷ []) × (is_name class ≡ true)
    × (source ≡ text)
BeginsChunk line text (Method false class source) =
    (line_words line ≡ codes "method:" ∷ class ∷ []) × (is_name class ≡ true)
    × (source ≡ text)
BeginsChunk line text _ = ⊥

-- the line begins a chunk or a method
abbrev pub IsChunkLine : Bytes → Type 0
IsChunkLine line = (text : Bytes) × (command : Command) × BeginsChunk line text command

-- The first of these lines make the sessions read so far longer, and the rest follows them.
pub data Adds (script : List SessionCommands) (lines : List Bytes) (longer : List SessionCommands)
    (rest : List Bytes) : Type 0 where
  -- an empty line is skipped
  empty_line : lines ≡ [] ∷ rest → longer ≡ script → Adds script lines longer rest
  -- a session of one of the 16 begins
  session_line : (line name : Bytes) → lines ≡ line ∷ rest → BeginsSession line name
      → is_user_name name ≡ true → length script < SESSION_LIMIT
      → longer ≡ script ++ record { user = name; commands = [] } ∷ []
      → Adds script lines longer rest
  -- a command of the session that was begun and has no logout yet
  command_line : (line : Bytes) (command : Command) → lines ≡ line ∷ rest → SaysCommand line command
      → takes_commands script ≡ true → longer ≡ with_next_command script command
      → Adds script lines longer rest
  -- a chunk of that session: its first line, the lines of its text, and a line %
  chunk_lines : (line : Bytes) (command : Command) (opened body : List Bytes)
      → lines ≡ line ∷ opened → BeginsChunk line (text_of_lines body) command
      → takes_commands script ≡ true
      → IsBody opened body rest → length (text_of_lines body) ≤ CHUNK_LIMIT
      → longer ≡ with_next_command script command → Adds script lines longer rest

-- Line by line one comes from the first two, sessions and lines, to the last two.
pub data Leads : (script : List SessionCommands) (lines : List Bytes)
    (reached : List SessionCommands) (left : List Bytes) → Type 0 where
  at_once : {script reached : List SessionCommands} {lines left : List Bytes} → script ≡ reached
      → lines ≡ left → Leads script lines reached left
  after : {script longer reached : List SessionCommands} {lines rest left : List Bytes}
      → Adds script lines longer rest → Leads longer rest reached left
      → Leads script lines reached left

-- The line breaks the rule of this number, where the lines before it are these sessions and the
-- rest follows it.
pub data BreaksAt (script : List SessionCommands) (line : Bytes) (rest : List Bytes) (rule : ℕ)
    : Type 0 where
  -- S1: a line that is none of the table's
  none_of_table : line ≢ [] → ((name : Bytes) → BeginsSession line name → ⊥)
      → ((command : Command) → SaysCommand line command → ⊥) → (IsChunkLine line → ⊥) → rule ≡ 1
      → BreaksAt script line rest rule
  -- S2: a command before a session or after its logout
  command_outside : (command : Command) → SaysCommand line command → takes_commands script ≡ false
      → rule ≡ 2 → BreaksAt script line rest rule
  chunk_outside : IsChunkLine line → takes_commands script ≡ false → rule ≡ 2
      → BreaksAt script line rest rule
  -- S3: a chunk without a line %
  chunk_without_end : IsChunkLine line → takes_commands script ≡ true → AllByRecursion IsInner rest
      → rule ≡ 3 → BreaksAt script line rest rule
  -- S4: a chunk over 65,536 bytes
  long_chunk : (body after : List Bytes) → IsChunkLine line → takes_commands script ≡ true
      → IsBody rest body after → CHUNK_LIMIT < length (text_of_lines body) → rule ≡ 4
      → BreaksAt script line rest rule
  -- S5: a seventeenth session, whose user name is one
  one_session_more : (name : Bytes) → BeginsSession line name → is_user_name name ≡ true
      → SESSION_LIMIT ≤ length script → rule ≡ 5 → BreaksAt script line rest rule
  -- S6: a user name that isn't a letter with letters and digits after it, at most 64 in all
  no_user_name : (name : Bytes) → BeginsSession line name → is_user_name name ≡ false → rule ≡ 6
      → BreaksAt script line rest rule

-- whether a script may have the byte: 32 to 126, tab, LF and CR
abbrev pub is_script_byte : ℕ → Bool
is_script_byte b = (nat_le 32 b && nat_le b 126) || ((b == 9) || ((b == 10) || (b == 13)))

-- the line has no other byte
abbrev pub IsPlain : Bytes → Type 0
IsPlain line = list_all is_script_byte line ≡ true

-- The text is a script of these sessions.
pub record ReadsScript (text : Bytes) (script : List SessionCommands) : Type 0 where
  pub short : length text ≤ SCRIPT_LIMIT
  pub plain : AllByRecursion IsPlain (lines_of text)
  pub read : Leads [] (lines_of text) script []

-- The first of these lines with another byte has this number.
pub record HasOtherByte (lines : List Bytes) (number : ℕ) : Type 0 where
  pub before : List Bytes
  pub line : Bytes
  pub rest : List Bytes
  pub whole : lines ≡ before ++ line ∷ rest
  pub numbered : number ≡ length before + 1
  pub plain : AllByRecursion IsPlain before
  pub other : list_all is_script_byte line ≡ false

-- The lines before the one of this number are sessions, and that line breaks the rule.
pub record StopsAtLine (lines : List Bytes) (number rule : ℕ) : Type 0 where
  pub before : List Bytes
  pub line : Bytes
  pub rest : List Bytes
  pub script : List SessionCommands
  pub whole : lines ≡ before ++ line ∷ rest
  pub numbered : number ≡ length before + 1
  pub read : Leads [] lines script (line ∷ rest)
  pub breaks : BreaksAt script line rest rule

-- The text is no script: this line is the first that breaks a rule, and this is the rule's number.
pub data BreaksRule (text : Bytes) (line rule : ℕ) : Type 0 where
  -- S7: a script over 1,048,576 bytes, which is tried first
  long_script : SCRIPT_LIMIT < length text → line ≡ 0 → rule ≡ 7 → BreaksRule text line rule
  -- S8: another byte, which is tried over the whole text before the other rules
  other_byte : length text ≤ SCRIPT_LIMIT → HasOtherByte (lines_of text) line → rule ≡ 8
      → BreaksRule text line rule
  -- S1 to S6, line by line
  at_line : length text ≤ SCRIPT_LIMIT → AllByRecursion IsPlain (lines_of text)
      → StopsAtLine (lines_of text) line rule → BreaksRule text line rule
