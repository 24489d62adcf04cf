-- What the session of the tally says.
use Rattle.std.proofs.Common.{◌≡◌, ℕ, zero, suc, pos, ◌+◌, ◌-◌, ◌<◌, ◌≤◌, inl, inr, Bool, true, false, List, [], ◌∷◌, ◌++◌, take, drop, get_or, Option, Some, refl, sym, ap, ap₂, subst, ◌∙◌}
use Rattle.std.proofs.Math.Path.{fun_ext}
use Rattle.std.proofs.lemmas.List.{append-nil, take-append-drop}
use Rattle.std.specs.Fmt.{decimal}
use Rattle.std.specs.List.{AllByRecursion}
use Rattle.gem_meaning.specs.texts.Bytes.{Bytes}
use Rattle.gem_meaning.specs.gem_object.declared.value.Value.{Value}
use Rattle.gem_meaning.specs.gem_image.Image.{Image, Objects}
use Rattle.gem_meaning.specs.gem_record.Stored.{Stored}
use Rattle.gem_meaning.specs.gem_world.World.{Setting, untouched}
use Rattle.gem_meaning.specs.object_programs.Laws.{begun_at}
use Rattle.gem_meaning.specs.gem_language.Commands.{Command as ObjectCommand, run_chunk}
use Rattle.gem_meaning.specs.gem_language.Transaction.{command_outcome}
use Rattle.gem_meaning.specs.shell_words.declared.script.Command.{Command}
use Rattle.gem_meaning.specs.shell_words.declared.script.Command.TheVariants.{Chunk, Logout}
use Rattle.gem_meaning.specs.gem_replies.declared.reply.Line.{Line}
use Rattle.gem_meaning.specs.gem_replies.declared.reply.Line.TheVariants.{NoMemory, Login, Printed, Logout as LoggedOut}
use Rattle.gem_meaning.specs.gem_replies.declared.reply.Reply.{Reply}
use Rattle.gem_meaning.specs.Opened.{Opened, base_serial}
use Rattle.gem_meaning.specs.Events.{Event, Told, image_at, after_events, events_of, run_on_view}
use Rattle.gem_meaning.specs.Serial.{HoldsSome}
use Rattle.gem_meaning.specs.State.{SessionState, CommandPlace, first_transaction}
use Rattle.gem_meaning.specs.Runs.{setting_of, world_so_far, lines_in, next_in, MeantSoFar, ObjectSays}
use Rattle.gem_meaning.specs.Locks.{leaving, LogsOut}
use Rattle.gem_meaning.specs.Names.{user_among, user_in}
use Rattle.gem_meaning.specs.Session.{reply_with, replies_with, CommandsSay, until_logout, SaysOfUser, SaysOf, Says}
use Rattle.gem_meaning.specs.Legal.{WasServed}
use Rattle.gem_meaning.specs.gem_sound.Kernel.{kernel_classes}
use Rattle.gem_server.specs.Rounds.{load_objects, IsLoaded}
use Rattle.gem_server.specs.AfterLoad.{HoldsLoad}
use Rattle.gem_server.proofs.Leaving.{nobody_holds, no_leaving}
use Rattle.gem_server.proofs.ChunkWords.{kernel_lists}
use Rattle.gem_server.proofs.SetupScript.{curator}
use Rattle.gem_server.proofs.SetupSays.{Own, own_take, own_drop, own_left, none_own, came_none}
use Rattle.gem_server.proofs.LoadSerials.{load_serial}
use Rattle.gem_server.proofs.TallyTrees.{value_chunk, size_chunk}
use Rattle.gem_server.proofs.TallyReport.{tally_replies}
use Rattle.gem_server.proofs.TallyScript.{tally_commands, tally_script}
use Rattle.gem_server.proofs.TallyRuns.{setting, value_said, size_said}

abbrev Served : List Reply → Type 0
Served replies = AllByRecursion WasServed replies

-- ---- replies to a chunk, where none is that memory ran out

meant_only : (command : ObjectCommand) (at : CommandPlace) (s next : SessionState) (number : ℕ) (lines : List Line)
    (more : List Reply) → s.spoiled ≡ false → Served (replies_with number lines ++ more)
    → ObjectSays command at s lines next → MeantSoFar command at s lines next
meant_only command at s next number lines more unspoiled served says = elim says [
  | inl short ↦
      let all : Served (replies_with number (NoMemory ∷ []) ++ more) =
      subst (λ (l : List Line). Served (replies_with number l ++ more)) short.lines_are served in
      absurd (all.0.0 refl)
  | inr ran ↦ elim ran [
    | inl meant ↦ meant
    | inr spoiled ↦ let is : false ≡ true = sym unspoiled ∙ spoiled.spoiled in absurd cc
  ]
]

-- ---- the user

user_shown : (counter : ℕ) (pairs : List (Value × ℕ)) → user_among (load_objects (pos counter) pairs) curator ≡ Some 32
unfolding kernel_lists kernel_classes
user_shown counter pairs = refl

pub user_is : (image : Image) (counter : ℕ) (pairs : List (Value × ℕ)) → IsLoaded image (pos counter) pairs
    → user_in image curator ≡ Some 32
unfolding user_in
user_is image counter pairs loaded =
    ap (λ (objects : Objects). user_among objects curator) (fun_ext loaded) ∙ user_shown counter pairs

-- ---- the only image there is

same_image : (image : Image) (back : ℕ) → get_or (image ∷ []) back image ≡ image
same_image image zero = refl
same_image image (suc back) = refl

-- ---- the tally as it is opened

abbrev pub tally_opened : Image → (bag : ℕ) → Stored → Bool → Opened
tally_opened image bag stored counts =
    record { image = image; number = bag + 1; script = tally_script; stored = stored; counts_pages = counts }

-- what its session says of all events, where the replies are those of a tally
pub record SaysTally (counter bag : ℕ) (events : List Event) (rs : List Reply) : Type 0 where
  pub replies : rs ≡ tally_replies counter bag
  pub events_are : events ≡ []

module _ (image : Image) (counter bag : ℕ) (holds : HoldsLoad counter bag image) (small : counter < 1000000)
    (few : bag ≤ 16000) (stored : Stored) (counts : Bool) where
  abbrev o : Opened
  o = tally_opened image bag stored counts

  abbrev at_first : SessionState
  at_first = first_transaction 1 32 (bag + 1)

  -- the same with another name to draw next
  abbrev at_next : ℕ → SessionState
  at_next next = record at_first { next_name = next }

  abbrev place_from : (number : ℕ) → (before after : List Event) → CommandPlace
  place_from number before after = record { opened = o; number = number; before = before; after = after }

  abbrev place : (number : ℕ) → List Event → CommandPlace
  place number after = place_from number [] after

  serial_is : base_serial o ≡ 2
  unfolding base_serial
  serial_is = ap (λ (serial : ℕ). serial + 1) (load_serial image (pos counter) holds.pairs holds.loaded)

  image_is : image_at (after_events o []) (bag + 1) ≡ image
  unfolding after_events
  image_is = same_image image (bag + 1 - (bag + 1))

  -- what the transaction runs on
  abbrev on : Image → ℕ → Setting
  on view serial = begun_at view view 32 (serial + (1 - 1)) 1

  setting_is : on (image_at (after_events o []) (bag + 1)) (base_serial o)
      ≡ setting image counter holds.pairs holds.loaded
  setting_is = ap₂ on image_is serial_is

  -- the lines of a chunk of this text, with this number and this name to draw next
  abbrev lines_of : (number next : ℕ) → Bytes → List Event → List Line
  lines_of number next text after =
      lines_in (run_chunk true text) (setting_of o [] (at_next next)) (world_so_far (place number after) (at_next next))

  value_lines : (after : List Event) → lines_of 1 1 value_chunk after ≡ Printed (decimal counter) ∷ []
  unfolding run_on_view
  value_lines after = ap (λ (s : Setting). lines_in (run_chunk true value_chunk) s (untouched 1)) setting_is
      ∙ value_said image counter holds.pairs holds.loaded small

  size_lines : (next : ℕ) (after : List Event) → lines_of 2 next size_chunk after ≡ Printed (decimal bag) ∷ []
  unfolding run_on_view
  size_lines next after = ap (λ (s : Setting). lines_in (run_chunk true size_chunk) s
      (command_outcome (run_chunk true value_chunk) s (untouched 1)).state.world) setting_is
      ∙ size_said image counter holds.pairs holds.loaded small bag holds.named holds.counted few

  -- ---- the end of the session

  none_held : (others : List Event) (session : ℕ) → others ≡ [] → HoldsSome (after_events o others) session → ⊥
  unfolding after_events
  none_held others session none held = nobody_holds (after_events o []) session refl
      (subst (λ (more : List Event). HoldsSome (after_events o more) session) none held)

  logout_at : (after : List Event) → Own after → (s : SessionState) → s.session ≡ 1 → LogsOut (place 3 after) s
      → after ≡ []
  logout_at after own s is out =
      let left : List Event = leaving out.holds s.session in
      let others : out.others ≡ [] = none_own out.others (own_left out.others left (subst Own out.after own))
      (subst (λ (n : ℕ). events_of n out.others ≡ []) is out.are_others) in
      let stays : leaving out.holds 1 ≡ [] = no_leaving out.holds 1
      (λ leaves. none_held out.others s.session others (out.exactly.0 leaves)) in
      out.after ∙ ap (λ (n : ℕ). out.others ++ leaving out.holds n) is
      ∙ ap (λ (more : List Event). out.others ++ more) stays ∙ append-nil out.others ∙ others

  -- ---- all that is said

  module _ (events : List Event) (own : Own events) where
    abbrev t : Told
    t = record { opened = o; events = events }

    -- what is left after a chunk with a reply of one line
    record Goes (number q : ℕ) (line : Line) (commands : List Command) (rs : List Reply) : Type 0 where
      point : ℕ
      next : ℕ
      more : List Reply
      before : take point events ≡ []
      replies : rs ≡ reply_with number line ∷ more
      rest : CommandsSay t (number + 1) point q (at_next next) commands more
      served : Served more

    chunk_step : (number p q next : ℕ) (text : Bytes) (line : Line) (commands : List Command) (rs : List Reply)
        → take p events ≡ [] → ((after : List Event) → lines_of number next text after ≡ line ∷ [])
        → CommandsSay t number p q (at_next next) (Chunk true text ∷ commands) rs → Served rs
        → Goes number q line commands rs
    chunk_step number p q next text line commands rs before lines_are says served =
        let command : ObjectCommand = run_chunk true text in
        let after : List Event = take says.point events in
        let none : after ≡ [] = says.says.0 ∙ before in
        let all : Served (replies_with number says.lines ++ says.more) = subst Served says.replies served in
        let meant : MeantSoFar command (place number after) (at_next next) says.lines says.next =
        meant_only command (place number after) (at_next next) says.next number says.lines says.more refl all
        (subst (λ (es : List Event). ObjectSays command (place_from number es after) (at_next next) says.lines
        says.next) before says.says.1) in
        let one : says.lines ≡ line ∷ [] = meant.lines_are ∙ lines_are after in
        let whole : replies_with number says.lines ++ says.more ≡ reply_with number line ∷ says.more =
        ap (λ (lines : List Line). replies_with number lines ++ says.more) one in
        let later : Served (reply_with number line ∷ says.more) = subst Served whole all in
        record {
          point = says.point;
          next = next_in command (setting_of o [] (at_next next)) (world_so_far (place number after) (at_next next));
          more = says.more;
          before = none;
          replies = says.replies ∙ whole;
          rest = subst (λ (s : SessionState). CommandsSay t (number + 1) says.point q s commands says.more)
              meant.state says.rest;
          served = later.1;
        }

    -- the logout is the last reply, and no event has come
    record Ends (q : ℕ) (rs : List Reply) : Type 0 where
      none : take q events ≡ []
      replies : rs ≡ reply_with 3 LoggedOut ∷ []

    logout_step : (p q next : ℕ) (rs : List Reply) → take p events ≡ []
        → CommandsSay t 3 p q (at_next next) (Logout ∷ []) rs → Ends q rs
    logout_step p q next rs before says =
        let one = says.says in
        let after : List Event = take says.point events in
        let said : says.lines ≡ LoggedOut ∷ [] = one.1 ∙ ap (λ (line : Line). line ∷ []) one.2.0 in
        let out : LogsOut (place 3 after) (at_next next) =
        subst (λ (es : List Event). LogsOut (place_from 3 es after) (at_next next)) before one.2.1 in
        let none : after ≡ [] = logout_at after (own_take says.point events own) (at_next next) refl out in
        record {
          none = subst (λ (n : ℕ). take n events ≡ []) says.rest.1 none;
          replies = says.replies ∙ ap (λ (lines : List Line). replies_with 3 lines ++ says.more) said
              ∙ ap (λ (more : List Reply). reply_with 3 LoggedOut ∷ more) says.rest.0;
        }

    all_at : (p q : ℕ) (rs : List Reply) → take p events ≡ []
        → CommandsSay t 1 p q at_first (until_logout tally_commands) rs → Served rs
        → (take q events ≡ []) × (reply_with 0 (Login (bag + 1)) ∷ rs ≡ tally_replies counter bag)
    all_at p q rs before says served =
        let login : Reply = reply_with 0 (Login (bag + 1)) in
        let value : Reply = reply_with 1 (Printed (decimal counter)) in
        let size : Reply = reply_with 2 (Printed (decimal bag)) in
        let first = chunk_step 1 p q 1 value_chunk (Printed (decimal counter)) (Chunk true size_chunk ∷ Logout ∷ []) rs
        before value_lines says served in
        let second = chunk_step 2 first.point q first.next size_chunk (Printed (decimal bag)) (Logout ∷ []) first.more
        first.before (size_lines first.next) first.rest first.served in
        let end = logout_step second.point q second.next second.more second.before second.rest in (
          end.none,
          ap (λ (more : List Reply). login ∷ more) (first.replies ∙ ap (λ (more : List Reply). value ∷ more)
              (second.replies ∙ ap (λ (more : List Reply). size ∷ more) end.replies)),
        )

    of_user : (p : ℕ) (rs : List Reply) → take p events ≡ []
        → SaysOfUser t 1 32 p (bag + 1) (until_logout tally_commands) rs → Served rs → SaysTally counter bag events rs
    of_user p rs before says served =
        let all : Served (reply_with 0 (Login (bag + 1)) ∷ says.replies) = subst Served says.login served in
        let upto = all_at p says.end says.replies before says.says all.1 in
        let no_more : drop says.end events ≡ [] =
        none_own (drop says.end events) (own_drop says.end events own) says.no_more in
        record {
          replies = says.login ∙ upto.1;
          events_are = sym (take-append-drop says.end events)
              ∙ ap (λ (more : List Event). take says.end events ++ more) no_more
              ∙ append-nil (take says.end events) ∙ upto.0;
        }

    stands_first : (after_events o []).image ≡ image
    unfolding after_events
    stands_first = refl

    none_placed : (after_events o []).number ≡ bag + 1
    unfolding after_events
    none_placed = refl

    pub says_tally : (seen : ℕ) (rs : List Reply)
        → Says t 1 seen (record { user = curator; commands = tally_commands }) rs → Served rs
        → SaysTally counter bag events rs
    says_tally seen rs says served =
        let commands : List Command = until_logout tally_commands in
        let before : take says.point events ≡ [] =
        came_none [] (take says.point events) (own_take says.point events own) says.sees.0 in
        let view : says.view ≡ bag + 1 =
        says.sees.1 ∙ ap (λ (es : List Event). (after_events o es).number) before ∙ none_placed in
        let user : user_in (after_events o (take says.point events)).image curator ≡ Some 32 =
        ap (λ (es : List Event). user_in (after_events o es).image curator) before
        ∙ ap (λ (i : Image). user_in i curator) stands_first ∙ user_is image counter holds.pairs holds.loaded in
        of_user says.point rs before
        (subst (λ (number : ℕ). SaysOfUser t 1 32 says.point number commands rs) view
        (subst (λ (found : Option ℕ). SaysOf found t 1 says.point says.view commands rs) user says.says))
        served
