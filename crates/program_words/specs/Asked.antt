-- What the words of a command line ask for, as plain data.
use Rattle.std.specs.Prelude.{ℕ, Some, None}
use Rattle.texts.specs.Bytes.{Bytes}
use Rattle.program_words.specs.declared.words.Paths.{Paths}
use Rattle.program_words.specs.declared.words.Words.{Words}
use Rattle.program_words.specs.declared.words.Words.TheVariants.{Serve, Init, Check, Demo}

-- the names of the two files of a store
pub record Files : Type 0 where
  pub extent : Bytes
  pub log : Bytes

pub data Asked : Type 0 where
  -- to serve a script over no store
  serve_alone : Asked
  -- to serve a script over this store
  serve_store : (files : Files) → Asked
  -- to make this store
  init_store : (files : Files) → Asked
  -- to look at this store
  check_store : (files : Files) → Asked
  -- to serve a generated load
  serve_load : (seed sessions rounds : ℕ) → Asked

abbrev pub files_of : Paths → Files
files_of paths = record { extent = paths.extent.now; log = paths.log.now }

abbrev pub asked_of : Words → Asked
asked_of (Serve None) = serve_alone
asked_of (Serve (Some paths)) = serve_store (files_of paths)
asked_of (Init paths) = init_store (files_of paths)
asked_of (Check paths) = check_store (files_of paths)
asked_of (Demo seed sessions rounds) = serve_load seed sessions rounds
