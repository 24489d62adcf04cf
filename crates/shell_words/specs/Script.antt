-- Scripts, as plain data, and their limits.
use Rattle.std.specs.Prelude.{◌≡◌, Bool, true, false, not, ◌&&◌, ◌<◌, ◌≤◌, List, [], ◌∷◌, ◌++◌, length}
use Rattle.std.specs.List.{AllByRecursion, list_all}
use Rattle.texts.specs.Bytes.{Bytes}
use Rattle.shell_words.specs.declared.limits.TheConstants.{SCRIPT_LIMIT, CHUNK_LIMIT, COMMAND_LIMIT}
use Rattle.texts.specs.Names.{is_user_name}
use Rattle.shell_words.specs.declared.script.Command.{Command}
use Rattle.shell_words.specs.declared.script.Command.TheVariants.{Chunk, Method, Logout, Lock, Unlock}

-- what a script asks of one session
pub record SessionCommands : Type 0 where
  pub user : Bytes
  pub commands : List Command

-- The command has no text that is too long. A name may be as long as a script.
abbrev pub HasShortText : Command → Type 0
HasShortText (Chunk prints text) = length text ≤ CHUNK_LIMIT
HasShortText (Method class_side class text) =
    (length class ≤ SCRIPT_LIMIT) × (length text ≤ CHUNK_LIMIT)
HasShortText (Lock write name) = length name ≤ SCRIPT_LIMIT
HasShortText (Unlock name) = length name ≤ SCRIPT_LIMIT
HasShortText _ = Unit {0}

-- whether the command ends its session
abbrev pub is_logout : Command → Bool
is_logout Logout = true
is_logout _ = false

-- whether no command follows a logout
abbrev pub logout_is_last : List Command → Bool
logout_is_last [] = true
logout_is_last (command ∷ []) = true
logout_is_last (command ∷ next ∷ commands) =
    not (is_logout command) && logout_is_last (next ∷ commands)

-- What a script's limits ask of each session.
pub record IsWithinLimits (session : SessionCommands) : Type 0 where
  pub user : is_user_name session.user ≡ true
  pub count : length session.commands < COMMAND_LIMIT
  pub texts : AllByRecursion HasShortText session.commands
  pub logout : logout_is_last session.commands ≡ true

-- whether the last of these sessions takes a command: there is one, and it has no logout yet
abbrev pub takes_commands : List SessionCommands → Bool
takes_commands [] = false
takes_commands (session ∷ []) = list_all (λ command. not (is_logout command)) session.commands
takes_commands (session ∷ next ∷ sessions) = takes_commands (next ∷ sessions)

-- the sessions with one more command of the last
abbrev pub with_next_command : List SessionCommands → Command → List SessionCommands
with_next_command [] command = []
with_next_command (session ∷ []) command =
    record { user = session.user; commands = session.commands ++ command ∷ [] } ∷ []
with_next_command (session ∷ next ∷ sessions) command =
    session ∷ with_next_command (next ∷ sessions) command
