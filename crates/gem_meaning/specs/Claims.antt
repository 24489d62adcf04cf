-- What a reader of a transcript knows of its session's events: what its replies claim.
use Rattle.std.specs.Prelude.{ℕ, ◌==◌, ◌+◌, not, nat_eq, List, [], ◌∷◌, ◌++◌, map}
use Rattle.std.specs.List.{filter}
use Rattle.lock_table.specs.declared.lock.LockKind.{LockKind}
use Rattle.gem_replies.specs.declared.reply.Line.{Line}
use Rattle.gem_replies.specs.declared.reply.Line.TheVariants.{Login, Unchanged, Committed, Aborted, Locked, Unlocked, Checkpoint, DiskFault, Logout}
use Rattle.gem_replies.specs.declared.reply.Reply.{Reply}
use Rattle.gem_meaning.specs.declared.event.What.TheVariants.{Placed, Held, Dropped, Left, Checked, Halted}
use Rattle.gem_meaning.specs.Events.{Event}

-- What a reply claims of the session's events. Of a commit it tells neither the user's object, nor the
-- mode, nor the names that were drawn, and of a failure of the disk not what was being stored.
pub data Claim : Type 0 where
  commits : (transaction first_command last_command view : ℕ) → Claim
  holds : (oid : ℕ) → LockKind → Claim
  drops : (oid : ℕ) → Claim
  leaves : Claim
  checks : Claim
  halts : Claim

-- what an event of the session is to a reader
abbrev pub claimed_by : Event → Claim
claimed_by (session, Placed e) = commits e.transaction e.first_command e.last_command e.view
claimed_by (session, Held oid kind) = holds oid kind
claimed_by (session, Dropped oid) = drops oid
claimed_by (session, Left) = leaves
claimed_by (session, Checked) = checks
claimed_by (session, Halted number entry) = halts

-- What a reader knows of the session after some replies: its transaction, and the objects on which
-- it holds locks.
pub record Reader : Type 0 where
  pub transaction : ℕ
  pub first_command : ℕ
  pub view : ℕ
  pub locked : List ℕ

abbrev pub at_login : (view : ℕ) → Reader
at_login view = record { transaction = 1; first_command = 1; view = view; locked = [] }

-- a commit or an abort begins the next transaction, at the view that it tells
abbrev pub begins_next : Reader → (command view : ℕ) → Reader
begins_next r command view = record r {
  transaction = r.transaction + 1;
  first_command = command + 1;
  view = view;
}

-- what the reader knows after this reply to the command with this number
abbrev pub read_on : Reader → (command : ℕ) → Line → Reader
read_on r command (Committed number view) = begins_next r command view
read_on r command (Unchanged number view) = begins_next r command view
read_on r command (Aborted view) = begins_next r command view
read_on r command (Locked kind oid clean) = record r { locked = oid ∷ r.locked }
read_on r command (Unlocked oid) =
    record r { locked = filter (λ other. not (nat_eq other oid)) r.locked }
read_on r command _ = r

-- a session leaves where it holds a lock
abbrev pub leaving_claim : (locked : List ℕ) → List Claim
leaving_claim [] = []
leaving_claim (oid ∷ oids) = leaves ∷ []

-- what a reply claims
abbrev pub claim_of : Reader → (command : ℕ) → Line → List Claim
claim_of r command (Committed number view) =
    commits r.transaction r.first_command command r.view ∷ []
claim_of r command (Locked kind oid clean) = holds oid kind ∷ []
claim_of r command (Unlocked oid) = drops oid ∷ []
claim_of r command (Checkpoint number) = checks ∷ []
claim_of r command DiskFault = halts ∷ []
claim_of r command Logout = leaving_claim r.locked
claim_of r command _ = []

-- what these replies claim, one after the other
abbrev pub claims_from : Reader → List Reply → List Claim
claims_from r [] = []
claims_from r (reply ∷ rest) = claim_of r reply.command reply.line
    ++ claims_from (read_on r reply.command reply.line) rest

-- the replies after this first one claim events where it is a login
abbrev pub claims_after : Line → List Reply → List Claim
claims_after (Login view) rest = claims_from (at_login view) rest
claims_after _ rest = []

-- what the replies of a session claim
abbrev pub claims_of : List Reply → List Claim
claims_of [] = []
claims_of (reply ∷ rest) = claims_after reply.line rest

-- the lines that a transcript has for the command with this number
abbrev pub lines_of : (command : ℕ) → List Reply → List Line
lines_of command rs = map (λ (r : Reply). r.line) (filter (λ (r : Reply). r.command == command) rs)
