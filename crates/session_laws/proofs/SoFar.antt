-- What a session has said so far, by what its transaction does on its view.
use Rattle.std.proofs.Common.{◌≡◌, ◌≢◌, ◌⊎◌, inl, inr, ◌∙◌, refl, sym, ap, subst, ℕ, ◌+◌, ◌-◌, ◌≤◌, ◌<◌, zero, suc, Bool, true, false, true≢false, Option, Some, None, List, [], ◌∷◌, ◌++◌, length, take, drop, arith}
use Rattle.std.specs.List.{slice_get, cons_option}
use Rattle.std.proofs.lemmas.Bool.{cases_lt}
use Rattle.std.proofs.lemmas.Option.{none-some, same_Some, slice_get_within, get_or_from_slice_get}
use Rattle.std.proofs.lemmas.List.{take-append-drop, take-take, take_more, drop-append-le, length-take}
use Rattle.std.proofs.lemmas.List.Elements.{filter_map-append}
use Rattle.gem_meaning.specs.gem_image.Image.{Image}
use Rattle.gem_meaning.specs.gem_record.declared.record.Entry.{Entry}
use Rattle.gem_meaning.specs.gem_record.declared.mode.Mode.{Mode}
use Rattle.gem_meaning.specs.gem_world.World.{Setting, World, untouched}
use Rattle.gem_meaning.specs.gem_language.Commands.{Command as ObjectCommand, run_chunk, install_method}
use Rattle.gem_meaning.specs.gem_language.Transaction.{Said, Transaction, transaction, said_of, command_outcome, after_both}
use Rattle.gem_meaning.proofs.gem_language_lemmas.Lists.{goes_on as run_goes_on}
use Rattle.gem_meaning.specs.gem_replies.declared.reply.Line.{Line}
use Rattle.gem_meaning.specs.gem_replies.declared.reply.Line.TheVariants.{NoMemory, Login, Spoiled, Halted, Unchanged, Refused, LogFull, DiskFault, Committed, Aborted, ExtentFull, Checkpoint}
use Rattle.gem_meaning.specs.gem_replies.declared.reply.Reply.{Reply}
use Rattle.gem_meaning.specs.shell_words.declared.script.Command.{Command}
use Rattle.gem_meaning.specs.shell_words.declared.script.Command.TheVariants.{Chunk, Method, Commit, Abort, Logout, Lock, Unlock, Checkpoint as Store, Mode as SetMode}
use Rattle.gem_meaning.specs.Commands.{object_command, object_commands, mode_of}
use Rattle.gem_meaning.specs.Lines.{said_lines}
use Rattle.gem_meaning.specs.Opened.{commands_of, entry_commands, entry_setting, run_at}
use Rattle.gem_meaning.specs.Events.{Event, Told, image_at, run_on_view, after_events, standing}
use Rattle.gem_meaning.specs.State.{SessionState, CommandPlace, place_between, entry_to, first_transaction, next_transaction, run_so_far}
use Rattle.gem_meaning.specs.Runs.{setting_of, world_so_far, ObjectSays, lines_in, next_in}
use Rattle.gem_meaning.specs.Commits.{CommitReply, AbortReply}
use Rattle.gem_meaning.specs.Checkpoints.{CheckReply}
use Rattle.gem_meaning.specs.Session.{CommandSays, ModeReply, reply_with, replies_with}
use Rattle.gem_meaning.specs.Claims.{lines_of}
use Rattle.history_laws.proofs.Views.{views_stay, number_stays}
use Rattle.session_laws.specs.Places.{runs_before}
use Rattle.session_laws.proofs.Lines.{other_lines, lines_stay, lines_come}

-- ---- the transaction on its view

-- the image of a view that stands: it stays whatever comes
abbrev pub view_of : Told → ℕ → Image
view_of t view = image_at (standing t) view

view_is : (t : Told) (before more : List Event) (view : ℕ) → t.events ≡ before ++ more
    → t.opened.number ≤ view → view ≤ (after_events t.opened before).number
    → image_at (after_events t.opened before) view ≡ view_of t view
view_is t before more view is from to =
    sym (views_stay t.opened before more view from to)
    ∙ ap (λ (es : List Event). image_at (after_events t.opened es) view) (sym is)

-- the entry's transaction, run on its view
abbrev pub run_of : Told → Entry → Transaction
run_of t e = run_at t.opened e (view_of t e.view) (view_of t e.view)

pub on_view_is : (t : Told) (before more : List Event) (e : Entry) → t.events ≡ before ++ more
    → t.opened.number ≤ e.view → e.view ≤ (after_events t.opened before).number
    → run_on_view t.opened (after_events t.opened before) e ≡ run_of t e
unfolding run_on_view
on_view_is t before more e is from to =
    ap (λ (i : Image). run_at t.opened e i i) (view_is t before more e.view is from to)

-- what the session's transaction runs on
abbrev pub setting_at : Told → SessionState → Setting
setting_at t s =
    entry_setting t.opened (entry_to 0 s) (view_of t s.view) (view_of t s.view)

-- the commands of the session
abbrev pub own_commands : Told → SessionState → List Command
own_commands t s = commands_of t.opened.script s.session

-- what the transaction does up to the command with this number
abbrev pub run_to : Told → ℕ → SessionState → Transaction
run_to t number s = run_of t (entry_to number s)

-- the commands on objects up to this command
abbrev pub runs_to : Told → ℕ → SessionState → List ObjectCommand
runs_to t number s = object_commands (entry_commands t.opened.script (entry_to number s))

-- ---- one command more

one_more_command : (all : List Command) (first number : ℕ) (c : Command) → 1 ≤ first
    → first ≤ number → slice_get all (number - 1) ≡ Some c
    → drop (first - 1) (take number all) ≡ drop (first - 1) (take (number - 1) all) ++ c ∷ []
one_more_command all first number c from to is =
    let within = slice_get_within all (number - 1) c is in
    let short : first - 1 ≤ length (take (number - 1) all) = simp length-take (omega arith) in
    let one : number - 1 + 1 ≡ number = omega arith in
    ap (λ (n : ℕ). drop (first - 1) (take n all)) (sym one)
    ∙ ap (drop (first - 1)) (take_more all (number - 1) c within)
    ∙ ap (λ (x : Command). drop (first - 1) (take (number - 1) all ++ x ∷ []))
    (get_or_from_slice_get all (number - 1) c c is)
    ∙ drop-append-le (first - 1) (take (number - 1) all) (c ∷ []) short

-- each command on objects says one thing
said_each : (commands : List ObjectCommand) (setting : Setting) (world : World)
    → length (transaction commands setting world).said ≡ length commands
said_each [] setting world = refl
said_each (command ∷ rest) setting world =
    let later = said_each rest setting (command_outcome command setting world).state.world in
    omega (arith, later)

-- a place in the front of a list
item_stays : {A : Type 0} (xs ys : List A) (i : ℕ) (x : A) → slice_get xs i ≡ Some x
    → slice_get (xs ++ ys) i ≡ Some x
item_stays [] ys i x is = absurd (none-some x is)
item_stays (y ∷ xs) ys zero x is = is
item_stays (y ∷ xs) ys (suc i) x is = item_stays xs ys i x is

-- the first item after a list
item_comes : {A : Type 0} (xs ys : List A) (x : A) → slice_get (xs ++ x ∷ ys) (length xs) ≡ Some x
item_comes [] ys x = refl
item_comes (y ∷ xs) ys x = item_comes xs ys x

-- ---- how a session goes on after a command

-- where its lines are what it means
abbrev AsMeant : CommandPlace → SessionState → Command → List Line → Type 0
AsMeant at s c lines = s.spoiled ≡ false → (command : ObjectCommand)
    → object_command c ≡ Some command
    → lines ≡ lines_in command (setting_of at.opened at.before s) (world_so_far at s)

-- the transaction goes on with what it carried, but for the name that is drawn next, and the mode
record Continues (s s' : SessionState) : Type 0 where
  next_name : ℕ
  mode : Mode
  is : s' ≡ record s { next_name = next_name; mode = mode }

-- As it was, where the lines of a chunk or a method are what it means; or spoiled; or with the next
-- transaction, at the view that stands.
data GoesOn (at : CommandPlace) (s : SessionState) (c : Command) (lines : List Line)
    (s' : SessionState) : Type 0 where
  as_meant : Continues s s' → AsMeant at s c lines → GoesOn at s c lines s'
  is_spoiled : (next_name : ℕ) → s' ≡ record s { spoiled = true; next_name = next_name }
      → GoesOn at s c lines s'
  begins : (view : ℕ) → s' ≡ next_transaction s view at.number
      → view ≡ (after_events at.opened at.after).number → GoesOn at s c lines s'

same_command : (a b : ObjectCommand) → Some a ≡ Some b → a ≡ b
same_command a b is = same_Some a b is

said_goes : (command : ObjectCommand) (at : CommandPlace) (s : SessionState) (c : Command)
    (lines : List Line) (s' : SessionState) → object_command c ≡ Some command
    → ObjectSays command at s lines s' → GoesOn at s c lines s'
said_goes command at s c lines s' is (inl short) = is_spoiled s'.next_name short.state
said_goes command at s c lines s' is (inr (inl meant)) =
    as_meant (record {
      next_name = next_in command (setting_of at.opened at.before s) (world_so_far at s);
      mode = s.mode;
      is = meant.state;
    }) (λ clean other other_is.
    meant.lines_are ∙ ap (λ (x : ObjectCommand). lines_in x (setting_of at.opened at.before s)
    (world_so_far at s)) (same_command command other (sym is ∙ other_is)))
said_goes command at s c lines s' is (inr (inr meant)) =
    as_meant (record { next_name = s'.next_name; mode = s.mode; is = meant.state })
    (λ clean. absurd (true≢false (sym meant.spoiled ∙ clean)))

-- the same state
stays_so : (at : CommandPlace) (s : SessionState) (c : Command) (lines : List Line)
    (s' : SessionState) → object_command c ≡ None → s' ≡ s → GoesOn at s c lines s'
stays_so at s c lines s' none is =
    as_meant (record { next_name = s.next_name; mode = s.mode; is = is })
    (λ clean command some. absurd (none-some command (sym none ∙ some)))

-- the same state, in another mode
mode_goes : (at : CommandPlace) (s : SessionState) (full : Bool) (line : Line) (lines : List Line)
    (s' : SessionState) → ModeReply at s full line s' → GoesOn at s (SetMode full) lines s'
mode_goes at s full line lines s' says =
    as_meant (record { next_name = s.next_name; mode = mode_of full; is = says.2 })
    (λ clean command some. absurd (none-some command some))

commit_goes : (at : CommandPlace) (s : SessionState) (line : Line) (lines : List Line)
    (s' : SessionState) → CommitReply at s line s' → GoesOn at s Commit lines s'
commit_goes at s Spoiled lines s' says = stays_so at s Commit lines s' refl says.2
commit_goes at s NoMemory lines s' says = stays_so at s Commit lines s' refl says.2
commit_goes at s (Refused found) lines s' says = stays_so at s Commit lines s' refl says.5
commit_goes at s (Halted number) lines s' says = stays_so at s Commit lines s' refl says.3
commit_goes at s (LogFull size most) lines s' says = stays_so at s Commit lines s' refl says.2
commit_goes at s DiskFault lines s' says = stays_so at s Commit lines s' refl says.2
commit_goes at s (Unchanged number view) lines s' says = begins view says.4 says.2.1
commit_goes at s (Committed number view) lines s' says = begins view says.2 says.1.sees.1
commit_goes at s _ lines s' says = absurd says

abort_goes : (at : CommandPlace) (s : SessionState) (line : Line) (lines : List Line)
    (s' : SessionState) → AbortReply at s line s' → GoesOn at s Abort lines s'
abort_goes at s (Aborted view) lines s' says = begins view says.1 says.0.1
abort_goes at s _ lines s' says = absurd says

check_goes : (at : CommandPlace) (s : SessionState) (line : Line) (lines : List Line)
    (s' : SessionState) → CheckReply at s line s' → GoesOn at s Store lines s'
check_goes at s NoMemory lines s' says = stays_so at s Store lines s' refl says.1
check_goes at s (Halted number) lines s' says = stays_so at s Store lines s' refl says.2
check_goes at s (ExtentFull pages) lines s' says = stays_so at s Store lines s' refl says.1
check_goes at s DiskFault lines s' says = stays_so at s Store lines s' refl says.1
check_goes at s (Checkpoint number) lines s' says = stays_so at s Store lines s' refl says.1
check_goes at s _ lines s' says = absurd says

goes_on : (at : CommandPlace) (s : SessionState) (c : Command) (lines : List Line)
    (s' : SessionState) → CommandSays at s c lines s' → GoesOn at s c lines s'
goes_on at s (Chunk prints text) lines s' says =
    said_goes (run_chunk prints text) at s (Chunk prints text) lines s' refl says.1
goes_on at s (Method class_side class text) lines s' says =
    said_goes (install_method class_side class text) at s (Method class_side class text) lines s' refl
    says.1
goes_on at s Commit lines s' says = commit_goes at s says.0 lines s' says.2
goes_on at s Abort lines s' says = abort_goes at s says.0 lines s' says.2
goes_on at s Logout lines s' says = stays_so at s Logout lines s' refl says.2.2
goes_on at s (Lock write name) lines s' says =
    stays_so at s (Lock write name) lines s' refl says.2.stays
goes_on at s (Unlock name) lines s' says = stays_so at s (Unlock name) lines s' refl says.2.stays
goes_on at s Store lines s' says = check_goes at s says.0 lines s' says.2
goes_on at s (SetMode full) lines s' says = mode_goes at s full says.0 lines s' says.2

-- ---- what was said

-- The replies have, for the command with number n, what it says in the run of the entry on its view.
pub record IsPrinted (t : Told) (e : Entry) (n : ℕ) (said : List Reply) : Type 0 where
  pub here : Said
  pub is : slice_get (run_of t e).said (runs_before t.opened.script e n) ≡ Some here
  pub lines : lines_of n said ≡ said_lines here

-- the same of each chunk and method of the transaction up to the command with the number `last`
abbrev pub ArePrinted : Told → (last : ℕ) → SessionState → List Reply → Type 0
ArePrinted t last s said = (n : ℕ) (c : Command) (command : ObjectCommand)
    → s.first_command ≤ n → n ≤ last → slice_get (own_commands t s) (n - 1) ≡ Some c
    → object_command c ≡ Some command → IsPrinted t (entry_to last s) n said

-- Where a session stands before the command with this number, at point p of all events: what it has
-- said is of earlier commands, its transaction's view stands, and what it has said in its
-- transaction is what the commands say on that view, unless it is spoiled.
pub record SaidSoFar (t : Told) (number p : ℕ) (s : SessionState) (said : List Reply) : Type 0 where
  pub first_from : 1 ≤ s.first_command
  pub first_to : s.first_command ≤ number
  pub view_from : t.opened.number ≤ s.view
  pub view_to : s.view ≤ (after_events t.opened (take p t.events)).number
  pub earlier : (n : ℕ) → number ≤ n → lines_of n said ≡ []
  pub printed : s.spoiled ≡ false → ArePrinted t (number - 1) s said

-- what the command with this number says, if it is one on objects
abbrev said_by : Told → (number : ℕ) → SessionState → Command → Transaction
said_by t number s c =
    transaction (object_commands (c ∷ [])) (setting_at t s) (run_to t (number - 1) s).world

-- what is said of a command on objects with this number
abbrev said_at : Told → (number : ℕ) → SessionState → ObjectCommand → Said
said_at t number s command =
    said_of (command_outcome command (setting_at t s) (run_to t (number - 1) s).world)

-- What a command adds to the run of its transaction.
module _ (t : Told) (number p : ℕ) (s : SessionState) (c : Command) (said : List Reply)
    (so : SaidSoFar t number p s said)
    (is : slice_get (own_commands t s) (number - 1) ≡ Some c) where
  run_more : run_to t number s ≡ after_both (run_to t (number - 1) s) (said_by t number s c)
  run_more =
      let commands = own_commands t s in
      let before = drop (s.first_command - 1) (take (number - 1) commands) in
      ap (λ (cs : List Command).
      transaction (object_commands cs) (setting_at t s) (untouched s.first_name))
      (one_more_command commands s.first_command number c so.first_from so.first_to is)
      ∙ ap (λ (xs : List ObjectCommand).
      transaction xs (setting_at t s) (untouched s.first_name))
      (filter_map-append object_command before (c ∷ []))
      ∙ run_goes_on (object_commands before) (object_commands (c ∷ [])) (setting_at t s)
      (untouched s.first_name)

  -- what was said before stays
  pub printed_stays : (n : ℕ) (said' : List Reply) → IsPrinted t (entry_to (number - 1) s) n said'
      → IsPrinted t (entry_to number s) n said'
  printed_stays n said' printed = record {
    here = printed.here;
    is = ap (λ (r : Transaction). slice_get r.said (length (runs_to t (n - 1) s))) run_more
        ∙ item_stays (run_to t (number - 1) s).said (said_by t number s c).said (length (runs_to t (n - 1) s))
        printed.here printed.is;
    lines = printed.lines;
  }

  said_here : (command : ObjectCommand) → object_command c ≡ Some command
      → slice_get (run_to t number s).said (length (runs_to t (number - 1) s))
      ≡ Some (said_at t number s command)
  said_here command some =
      let before = run_to t (number - 1) s in
      let all : length before.said ≡ length (runs_to t (number - 1) s) =
      said_each (runs_to t (number - 1) s) (setting_at t s) (untouched s.first_name) in
      ap (λ (r : Transaction). slice_get r.said (length (runs_to t (number - 1) s))) run_more
      ∙ ap (λ (o : Option ObjectCommand). slice_get (before.said
      ++ (transaction (cons_option o []) (setting_at t s) before.world).said)
      (length (runs_to t (number - 1) s))) some
      ∙ ap (slice_get (before.said ++ said_at t number s command ∷ [])) (sym all)
      ∙ item_comes before.said [] (said_at t number s command)

  so_far_is : run_so_far t.opened (take p t.events) number s ≡ run_to t (number - 1) s
  so_far_is =
      on_view_is t (take p t.events) (drop p t.events) (entry_to (number - 1) s)
      (sym (take-append-drop p t.events)) so.view_from so.view_to

  setting_is : setting_of t.opened (take p t.events) s ≡ setting_at t s
  setting_is =
      ap (λ (i : Image). entry_setting t.opened (entry_to 0 s) i i)
      (view_is t (take p t.events) (drop p t.events) s.view (sym (take-append-drop p t.events))
      so.view_from so.view_to)

  meant_is : (command : ObjectCommand)
      → lines_in command (setting_of t.opened (take p t.events) s)
      (run_so_far t.opened (take p t.events) number s).world ≡ said_lines (said_at t number s command)
  meant_is command =
      ap (λ (setting : Setting). lines_in command setting
      (run_so_far t.opened (take p t.events) number s).world) setting_is
      ∙ ap (λ (r : Transaction). lines_in command (setting_at t s) r.world) so_far_is

  -- where its lines are what it means, what the transaction has said is what the run says
  printed_more : (lines : List Line) → s.spoiled ≡ false
      → AsMeant (place_between t number p p) s c lines
      → ArePrinted t number s (said ++ replies_with number lines)
  printed_more lines clean meant n d command from to here some = go (cases_lt n number)
    where
      go : (n < number) ⊎ (number ≤ n) → IsPrinted t (entry_to number s) n (said ++ replies_with number lines)
      go (inl below) =
          let apart : number ≢ n = λ same. omega (arith, same) in
          let old = so.printed clean n d command from (omega arith) here some in
          printed_stays n (said ++ replies_with number lines) (record {
            here = old.here;
            is = old.is;
            lines = lines_stay n number said lines apart ∙ old.lines;
          })
      go (inr above) =
          let same : number ≡ n = omega arith in
          let this : d ≡ c = same_Some d c (sym here
          ∙ ap (λ (m : ℕ). slice_get (own_commands t s) (m - 1)) (sym same) ∙ is) in
          let command_is : object_command c ≡ Some command =
          ap object_command (sym this) ∙ some in
          subst (λ (m : ℕ). IsPrinted t (entry_to number s) m (said ++ replies_with number lines)) same
          (record {
            here = said_at t number s command;
            is = said_here command command_is;
            lines = lines_come number said lines (so.earlier number (omega arith))
                ∙ meant clean command command_is ∙ meant_is command;
          })

-- the number at a later point isn't smaller
number_grows : (t : Told) (p q : ℕ) → p ≤ q → (after_events t.opened (take p t.events)).number
    ≤ (after_events t.opened (take q t.events)).number
number_grows t p q le =
    let o = t.opened in
    let later = take q t.events in
    let first = take p later in
    subst (λ (es : List Event). (after_events o es).number ≤ (after_events o later).number)
    (take-take p q t.events le)
    (subst (λ (es : List Event). (after_events o first).number ≤ (after_events o es).number)
    (take-append-drop p later) (number_stays o first (drop p later)))

number_opened : (t : Told) (p : ℕ)
    → t.opened.number ≤ (after_events t.opened (take p t.events)).number
unfolding after_events
number_opened t p = number_stays t.opened [] (take p t.events)

earlier_more : (number : ℕ) (said : List Reply) (lines : List Line)
    → ((n : ℕ) → number ≤ n → lines_of n said ≡ [])
    → (n : ℕ) → number + 1 ≤ n → lines_of n (said ++ replies_with number lines) ≡ []
earlier_more number said lines earlier n le =
    let apart : number ≢ n = λ is. omega (arith, is) in
    lines_stay n number said lines apart ∙ earlier n (omega arith)

-- What a session has said so far with one command more.
module _ (t : Told) (number p q : ℕ) (s : SessionState) (c : Command) (said : List Reply)
    (lines : List Line) (le : p ≤ q) (so : SaidSoFar t number p s said)
    (is : slice_get (own_commands t s) (number - 1) ≡ Some c) where
  abbrev said_then : List Reply
  said_then = said ++ replies_with number lines

  more_as_meant : (next_name : ℕ) (mode : Mode) → AsMeant (place_between t number p q) s c lines
      → SaidSoFar t (number + 1) q (record s { next_name = next_name; mode = mode }) said_then
  more_as_meant next_name mode meant = record {
    first_from = so.first_from;
    first_to = let to = so.first_to in omega (arith, to);
    view_from = so.view_from;
    view_to = let to = so.view_to in let grows = number_grows t p q le in omega (arith, to, grows);
    earlier = earlier_more number said lines so.earlier;
    printed = λ clean.
        let one : number ≡ number + 1 - 1 = omega arith in
        subst (λ (last : ℕ). ArePrinted t last (record s { next_name = next_name; mode = mode }) said_then) one
        (λ n d command from to here some.
        let old = printed_more t number p s c said so is lines clean meant n d command from to here some in
        record { here = old.here; is = old.is; lines = old.lines });
  }

  more_spoiled : (next_name : ℕ)
      → SaidSoFar t (number + 1) q (record s { spoiled = true; next_name = next_name }) said_then
  more_spoiled next_name = record {
    first_from = so.first_from;
    first_to = let to = so.first_to in omega (arith, to);
    view_from = so.view_from;
    view_to = let to = so.view_to in let grows = number_grows t p q le in omega (arith, to, grows);
    earlier = earlier_more number said lines so.earlier;
    printed = λ clean. absurd (true≢false clean);
  }

  more_next : (view : ℕ) → view ≡ (after_events t.opened (take q t.events)).number
      → SaidSoFar t (number + 1) q (next_transaction s view number) said_then
  more_next view stands = record {
    first_from = omega arith;
    first_to = omega arith;
    view_from = let opened = number_opened t q in omega (arith, opened, stands);
    view_to = omega (arith, stands);
    earlier = earlier_more number said lines so.earlier;
    printed = λ clean n d command from to here some. absurd (omega (arith, from, to));
  }

  more_goes : (s' : SessionState) → GoesOn (place_between t number p q) s c lines s'
      → SaidSoFar t (number + 1) q s' said_then
  more_goes s' (as_meant continues meant) =
      subst (λ (next : SessionState). SaidSoFar t (number + 1) q next said_then) (sym continues.is)
      (more_as_meant continues.next_name continues.mode meant)
  more_goes s' (is_spoiled next_name state) =
      subst (λ (next : SessionState). SaidSoFar t (number + 1) q next said_then) (sym state)
      (more_spoiled next_name)
  more_goes s' (begins view begun stands) =
      subst (λ (next : SessionState). SaidSoFar t (number + 1) q next said_then) (sym begun)
      (more_next view stands)

  pub said_more : (s' : SessionState) → CommandSays (place_between t number p q) s c lines s'
      → SaidSoFar t (number + 1) q s' said_then
  said_more s' says = more_goes s' (goes_on (place_between t number p q) s c lines s' says)

-- what a session has said at its login
pub said_login : (t : Told) (point session user view : ℕ)
    → view ≡ (after_events t.opened (take point t.events)).number
    → SaidSoFar t 1 point (first_transaction session user view) (reply_with 0 (Login view) ∷ [])
said_login t point session user view stands = record {
  first_from = omega arith;
  first_to = omega arith;
  view_from = let opened = number_opened t point in omega (arith, opened, stands);
  view_to = omega (arith, stands);
  earlier = λ n le. other_lines n 0 (Login view ∷ []) (λ is. omega (arith, is));
  printed = λ clean n d command from to here some. absurd (omega (arith, from, to));
}
