-- What a tally prints that is served behind a load.
use Rattle.std.specs.Prelude.{◌≡◌, ◌++◌, ◌+◌, ℕ, codes, []}
use Rattle.std.specs.Fmt.{decimal}
use Rattle.gem_meaning.specs.texts.Bytes.{Bytes}
use Rattle.gem_meaning.specs.gem_replies.Report.{report_of}
use Rattle.gem_meaning.specs.gem_replies.declared.reply.RunBook.{RunBook}
use Rattle.gem_meaning.specs.Events.{Told}

-- the report of a tally that prints this counter and this size, at the view of a set-up's commit and
-- of one for each name in the bag
abbrev pub tallied : (counter bag : ℕ) → Bytes
tallied counter bag =
    codes "session 1 DataCurator\n[0] login view " ++ (decimal (1 + bag)
    ++ (codes "\n[1] " ++ (decimal counter
    ++ (codes "\n[2] " ++ (decimal bag
    ++ codes "\n[3] logout\ncommits 0\n")))))

-- The run's report is that of a tally that prints this counter and this size, and nothing happened.
pub record IsTallied (counter bag : ℕ) (t : Told) (book : RunBook) : Type 0 where
  pub report : report_of book ≡ tallied counter bag
  pub events : t.events ≡ []
