-- A Stone that sessions share, as each of them sees it by its stamp.
use Rattle.std.specs.Prelude.{◌≡◌, ℕ, ◌==◌, ◌&&◌, Bool, false, [], Option, Some, None}
use Rattle.std.specs.FinMap.{empty}
use Rattle.gem_clock.specs.Shown.{StampView, no_clock}
use Rattle.gem_meaning.specs.declared.event.What.{What}
use Rattle.gem_meaning.specs.Opened.{Opened}
use Rattle.gem_meaning.specs.Events.{Told}
use Rattle.stone_core.specs.Port.{PortState}
use Rattle.stone_core.specs.Stone.{is_session}

-- an empty image, for no session. It stands where a Stone is picked at each call
abbrev pub nothing_opened : Opened
nothing_opened = record {
  image = empty;
  number = 0;
  script = [];
  stored = record { log_length = 1; root = None };
  counts_pages = false;
}

-- no session's stamp
abbrev pub no_stamp : StampView What
no_stamp = record { clock = no_clock; author = 0; list = [] }

abbrev pub stamp_in : Option (StampView What) → StampView What
stamp_in (Some stamp) = stamp
stamp_in None = no_stamp

-- what a session has seen of the Stone that was opened so
abbrev pub told_at : Opened → StampView What → Told
told_at opened stamp = record { opened = opened; events = stamp.list }

-- the session is this one, and one of the script
abbrev pub is_served : (author : ℕ) → Opened → (session : ℕ) → Bool
is_served author opened session = (session == author) && is_session opened.script session

-- the port of a session on its stamp: it serves this session alone, and others use the Stone, too
abbrev pub port_at : Opened → StampView What → PortState
port_at opened stamp = record {
  told = told_at opened stamp;
  serves = is_served stamp.author opened;
  alone = false;
}

-- a later stamp of the same author
pub record IsStampAfter (before after : StampView What) : Type 0 where
  pub clock : after.clock ≡ before.clock
  pub author : after.author ≡ before.author
