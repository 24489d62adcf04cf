-- The commands of a transaction so far, and what they do.
use Rattle.std.proofs.Common.{◌≡◌, ◌∙◌, refl, sym, ap, subst, ℕ, ◌+◌, ◌-◌, ◌≤◌, ◌<◌, Option, Some, None, List, [], ◌∷◌, ◌++◌, take, drop, length, arith, append-nil}
use Rattle.std.specs.List.{AllByRecursion, slice_get, cons_option}
use Rattle.std.proofs.lemmas.List.{drop-append-le, drop_all, length-take, take_more}
use Rattle.std.proofs.lemmas.List.Elements.{filter_map-append}
use Rattle.std.proofs.lemmas.List.Sums.{fold_push}
use Rattle.std.proofs.lemmas.Option.{get_or_from_slice_get, slice_get_within}
use Rattle.gem_world.specs.World.{Setting, World, untouched}
use Rattle.gem_meaning.specs.gem_language.Commands.{Command as ObjectCommand}
use Rattle.gem_meaning.specs.gem_language.Transaction.{Transaction, command_outcome, transaction}
use Rattle.gem_meaning.proofs.gem_language_lemmas.Lists.{goes_on}
use Rattle.shell_words.specs.declared.script.Command.{Command}
use Rattle.gem_record.specs.declared.mode.Mode.{Mode}
use Rattle.gem_record.specs.declared.mode.Mode.TheVariants.{Full}
use Rattle.gem_meaning.specs.Commands.{object_command, object_commands, mode_with, mode_after}
use Rattle.gem_meaning.specs.Opened.{Opened, commands_of, entry_commands, mode_at}
use Rattle.gem_meaning.specs.Events.{Event, run_on_view, after_events}
use Rattle.gem_meaning.specs.Serial.{MayGoOn}
use Rattle.gem_meaning.specs.State.{SessionState, entry_to, run_so_far}
use Rattle.gem_meaning.specs.Runs.{setting_of}
use Rattle.gem_session.specs.Running.{commands_before}
use Rattle.gem_session.proofs.Apart.{all_one_more}

cut_more : (xs : List Command) (first k : ℕ) (c : Command) → slice_get xs k ≡ Some c → first ≤ k →
    drop first (take (k + 1) xs) ≡ drop first (take k xs) ++ c ∷ []
cut_more xs first k c is le =
    let within : k < length xs = slice_get_within xs k c is in
    let long : first ≤ length (take k xs) = omega (arith, length-take k xs) in
    ap (drop first) (take_more xs k c within ∙ ap (λ x. take k xs ++ x ∷ []) (get_or_from_slice_get xs k c c is))
    ∙ drop-append-le first (take k xs) (c ∷ []) long

-- the transaction's commands with the one that has this number
pub entry_more : (o : Opened) (number : ℕ) (s : SessionState) (c : Command) → slice_get (commands_of o.script s.session) (number - 1) ≡ Some c →
    1 ≤ s.first_command → s.first_command ≤ number → entry_commands o.script (entry_to number s) ≡ commands_before o number s ++ c ∷ []
entry_more o number s c is low le =
    let one : number ≡ number - 1 + 1 = omega arith in
    let commands = commands_of o.script s.session in
    ap (λ (n : ℕ). drop (s.first_command - 1) (take n commands)) one
    ∙ cut_more commands (s.first_command - 1) (number - 1) c is (omega arith)

next_before : (o : Opened) (number : ℕ) (s : SessionState) → commands_before o (number + 1) s ≡ entry_commands o.script (entry_to number s)
next_before o number s =
    let same : number + 1 - 1 ≡ number = omega arith in
    ap (λ (n : ℕ). entry_commands o.script (entry_to n s)) same

pub before_none : (o : Opened) (s : SessionState) → commands_before o s.first_command s ≡ []
before_none o s =
    let commands = commands_of o.script s.session in
    drop_all (s.first_command - 1) (take (s.first_command - 1) commands) (omega (arith, length-take (s.first_command - 1) commands))

-- the transaction may go on with the one command more
pub entry_whole : (o : Opened) (number : ℕ) (s : SessionState) (c : Command) → slice_get (commands_of o.script s.session) (number - 1) ≡ Some c →
    1 ≤ s.first_command → s.first_command ≤ number → MayGoOn c → AllByRecursion MayGoOn (commands_before o number s) →
    AllByRecursion MayGoOn (entry_commands o.script (entry_to number s))
entry_whole o number s c is low le one whole =
    subst (AllByRecursion MayGoOn) (sym (entry_more o number s c is low le))
    (all_one_more MayGoOn (commands_before o number s) c whole one)

pub whole_more : (o : Opened) (number : ℕ) (s : SessionState) (c : Command) → slice_get (commands_of o.script s.session) (number - 1) ≡ Some c →
    1 ≤ s.first_command → s.first_command ≤ number → MayGoOn c → AllByRecursion MayGoOn (commands_before o number s) →
    AllByRecursion MayGoOn (commands_before o (number + 1) s)
whole_more o number s c is low le one whole =
    subst (AllByRecursion MayGoOn) (sym (next_before o number s)) (entry_whole o number s c is low le one whole)

-- ---- the session's mode

-- its mode with the command that has this number
pub mode_next : (o : Opened) (session number : ℕ) (c : Command) → slice_get (commands_of o.script session) (number - 1) ≡ Some c → 1 ≤ number
    → mode_at o.script session (number + 1) ≡ mode_with (mode_at o.script session number) c
mode_next o session number c is low =
    let xs = commands_of o.script session in
    let within = slice_get_within xs (number - 1) c is in
    let one : number + 1 - 1 ≡ number - 1 + 1 = omega (arith, low) in
    ap (λ (n : ℕ). mode_after (take n xs)) one
    ∙ ap mode_after (take_more xs (number - 1) c within ∙ ap (λ x. take (number - 1) xs ++ x ∷ []) (get_or_from_slice_get xs (number - 1) c c is))
    ∙ fold_push mode_with Full (take (number - 1) xs) c

-- a command that isn't such a line leaves it
pub mode_still : (o : Opened) (session number : ℕ) (c : Command) → slice_get (commands_of o.script session) (number - 1) ≡ Some c → 1 ≤ number
    → ((m : Mode) → mode_with m c ≡ m) → mode_at o.script session (number + 1) ≡ mode_at o.script session number
mode_still o session number c is low still =
    mode_next o session number c is low ∙ still (mode_at o.script session number)

-- ---- what the transaction leaves

-- what the transaction leaves with one command more
abbrev pub world_after : Option ObjectCommand → Setting → World → World
world_after None setting world = world
world_after (Some command) setting world = (command_outcome command setting world).state.world

-- one command more on objects, if it is one
abbrev optional : Option ObjectCommand → List ObjectCommand
optional None = []
optional (Some command) = command ∷ []

one_object : (found : Option ObjectCommand) → cons_option found [] ≡ optional found
one_object None = refl
one_object (Some command) = refl

objects_more : (cs : List Command) (c : Command) → object_commands (cs ++ c ∷ []) ≡ object_commands cs ++ optional (object_command c)
objects_more cs c = filter_map-append object_command cs (c ∷ []) ∙ ap (λ xs. object_commands cs ++ xs) (one_object (object_command c))

world_more : (cs : List ObjectCommand) (c : Option ObjectCommand) (setting : Setting) (world : World)
    → (transaction (cs ++ optional c) setting world).world ≡ world_after c setting (transaction cs setting world).world
world_more cs None setting world = ap (λ xs. (transaction xs setting world).world) (append-nil cs)
world_more cs (Some command) setting world = ap (λ (t : Transaction). t.world) (goes_on cs (command ∷ []) setting world)

-- what the transaction leaves with the command that has this number
pub world_to : (o : Opened) (es : List Event) (number : ℕ) (s : SessionState) (c : Command) → slice_get (commands_of o.script s.session) (number - 1) ≡ Some c →
    1 ≤ s.first_command → s.first_command ≤ number →
    (run_on_view o (after_events o es) (entry_to number s)).world
    ≡ world_after (object_command c) (setting_of o es s) (run_so_far o es number s).world
unfolding run_on_view
world_to o es number s c is low le =
    let setting = setting_of o es s in
    let begun = untouched s.first_name in
    ap (λ cs. (transaction (object_commands cs) setting begun).world) (entry_more o number s c is low le)
    ∙ ap (λ cs. (transaction cs setting begun).world) (objects_more (commands_before o number s) c)
    ∙ world_more (object_commands (commands_before o number s)) (object_command c) setting begun

-- what the transaction so far leaves, when the one command more has been done
pub world_next : (o : Opened) (es : List Event) (number : ℕ) (s : SessionState) (c : Command) → slice_get (commands_of o.script s.session) (number - 1) ≡ Some c →
    1 ≤ s.first_command → s.first_command ≤ number →
    (run_so_far o es (number + 1) s).world ≡ world_after (object_command c) (setting_of o es s) (run_so_far o es number s).world
world_next o es number s c is low le =
    let same : number + 1 - 1 ≡ number = omega arith in
    ap (λ (n : ℕ). (run_on_view o (after_events o es) (entry_to n s)).world) same ∙ world_to o es number s c is low le

-- nothing is done yet
pub world_none : (o : Opened) (es : List Event) (s : SessionState) → (run_so_far o es s.first_command s).world ≡ untouched s.first_name
unfolding run_on_view
world_none o es s =
    ap (λ cs. (transaction (object_commands cs) (setting_of o es s) (untouched s.first_name)).world) (before_none o s)
