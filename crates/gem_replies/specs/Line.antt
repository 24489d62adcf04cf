-- What a reply says after its number.
use Rattle.std.specs.Prelude.{Bool, true, false, codes, List, [], ◌++◌, length}
use Rattle.std.specs.Fmt.{decimal}
use Rattle.gem_object.specs.texts.Bytes.{Bytes}
use Rattle.gem_object.specs.gem_value.Oid.{oid_text}
use Rattle.gem_object.specs.gem_value.declared.conflict.Conflict.{Conflict}
use Rattle.lock_table.specs.declared.lock.LockKind.{LockKind}
use Rattle.lock_table.specs.declared.lock.LockKind.TheVariants.{Read, Write}
use Rattle.gem_replies.specs.Escapes.{escaped}
use Rattle.gem_replies.specs.declared.reply.Line.{Line}
use Rattle.gem_replies.specs.declared.reply.Line.TheVariants.{NoUser, NotLoggedIn, Login, NoMemory, Parse, Show, Error, Ran, Printed, Method, Spoiled, Unchanged, Refused, Committed, Aborted, Logout, NoName, NotObject, NotCommitted, NoRight, Denied, Locked, NotHeld, Unlocked, LogFull, DiskFault, Halted, Checkpoint, ExtentFull, Mode}

-- how a lock's kind is named
abbrev pub kind_name : LockKind → Bytes
kind_name Read = codes "read"
kind_name Write = codes "write"

-- how a locked object is, by whether it is clean
abbrev pub state_name : Bool → Bytes
state_name true = codes "clean"
state_name false = codes "dirty"

-- how the check of a session's commits is named: of what they read, too, or not
abbrev pub mode_words : (full : Bool) → Bytes
mode_words true = codes "mode full_checks"
mode_words false = codes "mode no_rw_checks"

-- its words, which end before the text at its end if it has one
abbrev pub reply_words : Line → Bytes
reply_words (NoUser view) = codes "no user at view " ++ decimal view
reply_words NotLoggedIn = codes "not logged in"
reply_words (Login view) = codes "login view " ++ decimal view
reply_words NoMemory = codes "no memory"
reply_words (Parse at rule) = codes "parse P" ++ decimal rule ++ codes " at " ++ decimal at
reply_words (Show text) = codes "show "
reply_words (Error kind detail) = codes "error E" ++ decimal kind ++ codes " "
reply_words Ran = codes "ok"
reply_words (Printed text) = []
reply_words (Method selector) = codes "method "
reply_words Spoiled = codes "spoiled"
reply_words (Unchanged at view) =
    codes "committed unchanged at " ++ decimal at ++ codes " view " ++ decimal view
reply_words (Refused conflicts) = codes "refused " ++ decimal (length conflicts)
reply_words (Committed number view) =
    codes "committed " ++ decimal number ++ codes " view " ++ decimal view
reply_words (Aborted view) = codes "aborted view " ++ decimal view
reply_words Logout = codes "logout"
reply_words (NoName name) = codes "no name "
reply_words (NotObject name) = codes "not an object "
reply_words (NotCommitted oid) = codes "not committed " ++ oid_text oid
reply_words (NoRight oid) = codes "no right " ++ oid_text oid
reply_words (Denied kind oid holder held) =
    codes "denied " ++ kind_name kind ++ codes " " ++ oid_text oid
    ++ codes " by session " ++ decimal holder ++ codes " " ++ kind_name held
reply_words (Locked kind oid clean) =
    codes "locked " ++ kind_name kind ++ codes " " ++ oid_text oid
    ++ codes " " ++ state_name clean
reply_words (NotHeld oid) = codes "not held " ++ oid_text oid
reply_words (Unlocked oid) = codes "unlocked " ++ oid_text oid
reply_words (LogFull length size) =
    codes "log full at " ++ decimal length ++ codes " by " ++ decimal size
reply_words DiskFault = codes "disk fault"
reply_words (Halted number) = codes "halted at " ++ decimal number
reply_words (Checkpoint number) = codes "checkpoint " ++ decimal number
reply_words (ExtentFull pages) = codes "extent full at " ++ decimal pages
reply_words (Mode full) = mode_words full

-- the text at its end, or nothing: from the image, or the name that the script gave
abbrev pub reply_ending : Line → Bytes
reply_ending (Show text) = text
reply_ending (Error kind detail) = detail
reply_ending (Printed text) = text
reply_ending (Method selector) = selector
reply_ending (NoName name) = name
reply_ending (NotObject name) = name
reply_ending _ = []

-- both, with the text at its end as it is shown
abbrev pub reply_text : Line → Bytes
reply_text line = reply_words line ++ escaped (reply_ending line)

-- the conflicts that it names
abbrev pub conflicts_of : Line → List Conflict
conflicts_of (Refused conflicts) = conflicts
conflicts_of _ = []
