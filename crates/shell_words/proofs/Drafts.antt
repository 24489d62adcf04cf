-- What the reader keeps of the lines so far.
use Rattle.std.proofs.Common.{◌≡◌, ℕ, ◌+◌, ◌<◌, ◌≤◌, Bool, true, false, not, ◌&&◌, List, [], ◌∷◌, ◌++◌, length, Option, Some, None, subst, refl, arith, sym, ◌∙◌, ap, length-append, append-nil}
use Rattle.std.specs.List.{list_all}
use Rattle.std.proofs.lemmas.List.Folds.{list_all-append}
use Rattle.shell_words.specs.declared.limits.TheConstants.{SESSION_LIMIT}
use Rattle.shell_words.specs.Script.{SessionCommands, HasShortText, is_logout, logout_is_last, takes_commands, with_next_command}
use Rattle.std.proofs.lemmas.Bool.Decides.{nat_tests}
use Rattle.texts.specs.Names.{is_user_name}
use Rattle.shell_words.specs.Reading.{session_of, sessions_of, IsWithin, IsDraft, IsReading}
use Rattle.shell_words.specs.declared.script.Command.{Command}
use Rattle.shell_words.specs.declared.reading.Draft.{Draft}
use Rattle.shell_words.specs.declared.reading.Reading.{Reading}
use Rattle.shell_words.proofs.Bodies.{more_of_all}

pub takes-last : (sessions : List SessionCommands) (last : SessionCommands) → takes_commands (sessions ++ last ∷ []) ≡ list_all (λ c. not (is_logout c)) last.commands
takes-last [] last = refl
takes-last (s ∷ []) last = refl
takes-last (s ∷ t ∷ sessions) last = takes-last (t ∷ sessions) last

pub with-last : (sessions : List SessionCommands) (last : SessionCommands) (command : Command)
    → with_next_command (sessions ++ last ∷ []) command ≡ sessions ++ record { user = last.user; commands = last.commands ++ command ∷ [] } ∷ []
with-last [] last command = refl
with-last (s ∷ []) last command = refl
with-last (s ∷ t ∷ sessions) last command = ap (λ more. s ∷ more) (with-last (t ∷ sessions) last command)

first_if : (a b : Bool) → (a && b) ≡ true → a ≡ true
first_if true b is = refl
first_if false b is = is

second_if : (a b : Bool) → (a && b) ≡ true → b ≡ true
second_if true b is = is
second_if false b is = absurd (grind (arith, nat_tests))

both_if : (a b : Bool) → a ≡ true → b ≡ true → (a && b) ≡ true
both_if a b first second = rw (first, second) refl

-- where no command is a logout, one more is the last
last_logout : (commands : List Command) (c : Command) → list_all (λ x. not (is_logout x)) commands ≡ true → logout_is_last (commands ++ c ∷ []) ≡ true
last_logout [] c none = refl
last_logout (d ∷ []) c none = none
last_logout (d ∷ e ∷ commands) c none =
    both_if (not (is_logout d)) (logout_is_last (e ∷ (commands ++ c ∷ []))) (first_if (not (is_logout d)) _ none)
    (last_logout (e ∷ commands) c (second_if (not (is_logout d)) _ none))

-- no command of the current session is a logout
none_before : (r : Reading) (d : Draft) → IsReading r → r.current ≡ Some d → list_all (λ x. not (is_logout x)) d.commands.items ≡ true
none_before r d is current = sym (takes-last r.ended.items (session_of d)) ∙ rw current at is.takes

-- the current session with one more command
pub more_commands : (r : Reading) (d e : Draft) {lines : ℕ} (c : Command) → IsReading r → r.current ≡ Some d → e.user ≡ d.user
    → e.commands.items ≡ d.commands.items ++ c ∷ [] → HasShortText c → r.lines < lines → IsWithin lines e
more_commands r d e {lines = lines} c is current user more short later =
    let P : Option Draft → Type 0 = λ o. IsDraft r.lines o in
    let draft : IsWithin r.lines d = subst P current is.draft in
    let size : length e.commands.items ≡ length d.commands.items + 1 = ap length more ∙ (length-append d.commands.items (c ∷ []) ∙ omega arith) in
    let count = draft.count in
    record {
      user = rw user draft.user;
      count = omega (arith, size, count, later);
      texts = rw more (more_of_all HasShortText d.commands.items c draft.texts short);
      logout = rw more (last_logout d.commands.items c (none_before r d is current));
    }

pub sessions_with : (r : Reading) (d : Draft) {items : List Command} (c : Command) → r.current ≡ Some d → items ≡ d.commands.items ++ c ∷ []
    → r.ended.items ++ record { user = d.user; commands = items } ∷ [] ≡ with_next_command (sessions_of r) c
sessions_with r d c current more = rw (current, more) (sym (with-last r.ended.items (session_of d) c))

one_test : (b : Bool) → (true && (b && true)) ≡ b
one_test true = refl
one_test false = refl

-- whether the session takes commands after one more
pub takes_with : (r : Reading) (d : Draft) {items : List Command} (c : Command) → IsReading r → r.current ≡ Some d → items ≡ d.commands.items ++ c ∷ []
    → takes_commands (r.ended.items ++ record { user = d.user; commands = items } ∷ []) ≡ not (is_logout c)
takes_with r d {items = items} c is current more =
    let before = none_before r d is current in
    takes-last r.ended.items (record { user = d.user; commands = items }) ∙ rw (more, list_all-append, before) (one_test (not (is_logout c)))

pub ordered_reading : (r n : Reading) (d e : Draft) (c : Command) → IsReading r → r.current ≡ Some d → e.user ≡ d.user
    → e.commands.items ≡ d.commands.items ++ c ∷ [] → HasShortText c → r.lines < n.lines → is_logout c ≡ false → n.ended.items ≡ r.ended.items
    → n.current ≡ Some e → IsReading n
ordered_reading r n d e c is current user more short later goes_on ended now =
    let drafted = more_commands r d e c is current user more short later in
    let takes = takes_with r d c is current more in
    let P : Option Draft → Type 0 = λ o. IsDraft n.lines o in
    let sessions : sessions_of n ≡ r.ended.items ++ record { user = d.user; commands = e.commands.items } ∷ [] = rw (now, ended, user) refl in
    let before : length (r.ended.items ++ session_of d ∷ []) ≤ SESSION_LIMIT = rw current at is.sessions in
    let size = length-append r.ended.items (session_of d ∷ []) in
    let sized = length-append r.ended.items (record { user = d.user; commands = e.commands.items } ∷ []) in
    record {
      sessions = rw (sessions, sized) (omega (arith, before, size));
      draft = subst P (sym now) drafted;
      takes = rw sessions (takes ∙ rw (goes_on, now) refl);
    }

pub closed_sessions : (n : Reading) (xs : List SessionCommands) → n.ended.items ≡ xs → n.current ≡ None → sessions_of n ≡ xs
closed_sessions n xs ended now = rw (now, ended) (append-nil xs)

pub closed_reading : (n : Reading) (xs : List SessionCommands) → n.ended.items ≡ xs → n.current ≡ None → length xs ≤ SESSION_LIMIT
    → takes_commands xs ≡ false → IsReading n
closed_reading n xs ended now few takes =
    let sessions = closed_sessions n xs ended now in
    let P : Option Draft → Type 0 = λ o. IsDraft n.lines o in
    record { sessions = rw sessions few; draft = subst P (sym now) tt; takes = rw (sessions, now) takes }

-- the current session has ended by its logout
pub ended_reading : (r n : Reading) (d : Draft) {items : List Command} (c : Command) → IsReading r → r.current ≡ Some d
    → items ≡ d.commands.items ++ c ∷ [] → is_logout c ≡ true → n.ended.items ≡ r.ended.items ++ record { user = d.user; commands = items } ∷ []
    → n.current ≡ None → IsReading n
ended_reading r n d {items = items} c is current more ends ended now =
    let before : length (r.ended.items ++ session_of d ∷ []) ≤ SESSION_LIMIT = rw current at is.sessions in
    let size = length-append r.ended.items (session_of d ∷ []) in
    let sized = length-append r.ended.items (record { user = d.user; commands = items } ∷ []) in
    closed_reading n _ ended now (rw sized (omega (arith, before, size))) (takes_with r d c is current more ∙ rw ends refl)

pub begun_reading : (n : Reading) (e : Draft) (xs : List SessionCommands) → n.ended.items ≡ xs → n.current ≡ Some e → length xs < SESSION_LIMIT
    → is_user_name e.user ≡ true → e.commands.items ≡ [] → 0 < n.lines → IsReading n
begun_reading n e xs ended now few user none some =
    let sessions : sessions_of n ≡ xs ++ session_of e ∷ [] = rw (now, ended) refl in
    let size = length-append xs (session_of e ∷ []) in
    let P : Option Draft → Type 0 = λ o. IsDraft n.lines o in
    let drafted : IsWithin n.lines e = record { user = user; count = rw none some; texts = rw none tt; logout = rw none refl } in
    record {
      sessions = rw (sessions, size) (omega arith);
      draft = subst P (sym now) drafted;
      takes = rw (sessions, now) (takes-last xs (session_of e) ∙ rw none refl);
    }
