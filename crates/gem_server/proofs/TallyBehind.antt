-- A tally over the store that a load left.
use Rattle.std.proofs.Common.{◌≡◌, ℕ, ◌+◌, ◌≤◌, List, [], ◌∷◌, length, fold, refl, sym, subst, ◌∙◌, arith}
use Rattle.std.specs.List.{AllByRecursion}
use Rattle.std.proofs.lemmas.Nat.{mul-le}
use Rattle.gem_disk.specs.Disk.{Files}
use Rattle.gem_meaning.specs.gem_record.Stored.{Stored, longer_by}
use Rattle.gem_meaning.specs.gem_replies.declared.reply.RunBook.{RunBook}
use Rattle.gem_meaning.specs.declared.event.What.TheVariants.{Placed, Held, Dropped, Left, Checked, Halted}
use Rattle.gem_meaning.specs.Opened.{Opened}
use Rattle.gem_meaning.specs.Events.{Event, Told, Standing, before_events, after_event, after_events, standing}
use Rattle.gem_meaning.specs.After.{record_size, stored_from, stored_after}
use Rattle.load_maker.specs.Numbers.{load_sum}
use Rattle.load_maker.specs.Scripts.{tally_text}
use Rattle.gem_server.specs.AfterLoad.{IsCommit, HoldsLoad}
use Rattle.gem_server.specs.Demo.{IsLoad, commits_of, IsServedOver, IsLoadOver}
use Rattle.gem_server.specs.Tally.{IsTallied}
use Rattle.gem_server.proofs.LoadNumbers.{load_sum_most}
use Rattle.gem_server.proofs.StoreBehind.{opened_over}
use Rattle.gem_server.proofs.TallyTold.{tally_told}

-- ---- what commits store and number

-- all events are commits
abbrev AllCommits : List Event → Type 0
AllCommits events = AllByRecursion (λ (event : Event). IsCommit event.1) events

-- where each event is a commit, no checkpoint is made, and each is counted
record OnlyStores (o : Opened) (s : Standing) (stored : Stored) (events : List Event) : Type 0 where
  root : (stored_from o s stored events).root ≡ stored.root
  number : (fold (after_event o) s events).number ≡ s.number + length events

only_stores : (o : Opened) (s : Standing) (stored : Stored) (events : List Event) → AllCommits events
    → OnlyStores o s stored events
only_stores o s stored [] all = record { root = refl; number = omega arith }
only_stores o s stored ((session, Placed e) ∷ events) all =
    let rest = only_stores o (after_event o s (session, Placed e)) (longer_by (record_size o s e) stored) events all.1 in
    let number = rest.number in
    record { root = rest.root; number = omega (arith, number) }
only_stores o s stored ((session, Held oid kind) ∷ events) all = absurd all.0
only_stores o s stored ((session, Dropped oid) ∷ events) all = absurd all.0
only_stores o s stored ((session, Left) ∷ events) all = absurd all.0
only_stores o s stored ((session, Checked) ∷ events) all = absurd all.0
only_stores o s stored ((session, Halted number entry) ∷ events) all = absurd all.0

root_stays : (o : Opened) (events : List Event) → AllCommits events → (stored_after o events).root ≡ o.stored.root
unfolding stored_after
root_stays o events all = (only_stores o (before_events o) o.stored events all).root

numbered : (o : Opened) (events : List Event) → AllCommits events
    → (after_events o events).number ≡ o.number + length events
unfolding after_events
numbered o events all = (only_stores o (before_events o) o.stored events all).number

-- ---- the tally

pub few_commits : (seed sessions rounds : ℕ) → IsLoad seed sessions rounds → commits_of sessions rounds ≤ 16000
few_commits seed sessions rounds load = mul-le sessions rounds 16 1000 load.sessions_are.1 load.rounds_are.1

-- a tally that is served over what a load left prints it
pub printed_behind : (seed sessions rounds : ℕ) (setup : Told) (before files after : Files) (load tally : Told)
    (load_book book : RunBook) → IsLoad seed sessions rounds
    → IsLoadOver seed sessions rounds setup before files load load_book → IsServedOver tally_text files after tally book
    → IsTallied (load_sum seed sessions rounds) (commits_of sessions rounds) tally book
printed_behind seed sessions rounds setup before files after load tally load_book book is over behind =
    let counter : ℕ = load_sum seed sessions rounds in
    let bag : ℕ = commits_of sessions rounds in
    let all : AllCommits load.events = over.commits.only in
    let opened = opened_over files (stored_after load.opened load.events) (standing load).image (standing load).number
    tally.opened over.served.stored (root_stays load.opened load.events all ∙ over.no_root) over.served.stands
    behind.opened_on in
    let count = numbered load.opened load.events all in
    let first = over.number_is in
    let events = over.commits.count in
    let number : tally.opened.number ≡ bag + 1 = opened.number_is ∙ omega (arith, count, first, events) in
    let most = load_sum_most seed sessions rounds is.sessions_are.1 is.rounds_are.1 in
    tally_told tally book counter bag behind.legal behind.always behind.reads
    (subst (HoldsLoad counter bag) (sym opened.image_is) over.commits.after) number (omega (arith, most))
    (few_commits seed sessions rounds is)
