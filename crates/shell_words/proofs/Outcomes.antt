-- What comes of the first of the lines that are left, computed. It has one value, so what the grammar says has one.
use Rattle.std.proofs.Common.{◌≡◌, ◌≢◌, ℕ, ◌<◌, ◌≤◌, Bool, true, false, cond, ◌==◌, nat_lt, nat_le, List, [], ◌∷◌, ◌++◌, length, Option, Some, None, refl, arith, sym, ◌∙◌, ap, codes, ◌⊎◌, inl, inr}
use Rattle.std.specs.List.{AllByRecursion}
use Rattle.std.proofs.lemmas.Bool.Decides.{nat_tests}
use Rattle.texts.specs.Bytes.{Bytes}
use Rattle.texts.specs.Lines.{text_of_lines}
use Rattle.shell_words.specs.declared.limits.TheConstants.{SESSION_LIMIT, CHUNK_LIMIT}
use Rattle.shell_words.specs.Lines.{is_space, line_words, IsInner, IsBody}
use Rattle.texts.specs.Names.{is_name, is_user_name}
use Rattle.shell_words.specs.Script.{SessionCommands, takes_commands, with_next_command}
use Rattle.shell_words.specs.ScriptGrammar.{BeginsSession, SaysCommand, BeginsChunk, IsChunkLine, Adds, empty_line, session_line, command_line, chunk_lines, BreaksAt, none_of_table, command_outside, chunk_outside, chunk_without_end, long_chunk, one_session_more, no_user_name}
use Rattle.shell_words.specs.Reading.{command_of, LineSays, SaysNothing}
use Rattle.shell_words.proofs.LineFronts.{one_part}
use Rattle.shell_words.specs.declared.script.Command.{Command}
use Rattle.shell_words.specs.declared.script.Command.TheVariants.{Chunk, Method, Commit, Abort, Logout, Lock, Unlock, Checkpoint, Mode}
use Rattle.shell_words.specs.declared.table.Opening.{Opening}
use Rattle.shell_words.specs.declared.table.Opening.TheVariants.{Chunk as OfChunk, Method as OfMethod}
use Rattle.shell_words.specs.declared.table.ScriptLine.{ScriptLine}
use Rattle.shell_words.specs.declared.table.ScriptLine.TheVariants.{Session, Opening as Opens, Command as Orders}

-- whether two texts are the same
abbrev pub same : Bytes → Bytes → Bool
same [] [] = true
same [] (y ∷ ys) = false
same (x ∷ xs) [] = false
same (x ∷ xs) (y ∷ ys) = cond (x == y) (same xs ys) false

-- the line with these words
abbrev pub line_with : List Bytes → Option ScriptLine
line_with [] = None
line_with (w ∷ []) =
    cond (same w (codes "printit")) (Some (Opens (OfChunk true)))
    (cond (same w (codes "run")) (Some (Opens (OfChunk false)))
    (cond (same w (codes "commit")) (Some (Orders Commit))
    (cond (same w (codes "abort")) (Some (Orders Abort))
    (cond (same w (codes "logout")) (Some (Orders Logout))
    (cond (same w (codes "checkpoint")) (Some (Orders Checkpoint)) None)))))
line_with (w ∷ n ∷ []) =
    cond (same w (codes "session")) (cond (same n []) None (Some (Session n)))
    (cond (same w (codes "mode"))
    (cond (same n (codes "full_checks")) (Some (Orders (Mode true)))
    (cond (same n (codes "no_rw_checks")) (Some (Orders (Mode false))) None))
    (cond (is_name n)
    (cond (same w (codes "classmethod:")) (Some (Opens (OfMethod true n)))
    (cond (same w (codes "method:")) (Some (Opens (OfMethod false n)))
    (cond (same w (codes "unlock")) (Some (Orders (Unlock n))) None)))
    None))
line_with (w ∷ m ∷ n ∷ []) =
    cond (same w (codes "lock")) (cond (is_name n)
    (cond (same m (codes "write")) (Some (Orders (Lock true n)))
    (cond (same m (codes "read")) (Some (Orders (Lock false n))) None)) None) None
line_with (w ∷ m ∷ n ∷ o ∷ ws) = None

same_first : (x y : ℕ) (xs ys : Bytes) (b : Bool) → (x == y) ≡ b → cond b (same xs ys) false ≡ true → (same xs ys ≡ true → xs ≡ ys) → x ∷ xs ≡ y ∷ ys
same_first x y xs ys true is e more = let head : x ≡ y = grind (arith, nat_tests) in rw (head, more e) refl
same_first x y xs ys false is e more = absurd (grind (arith, nat_tests))

pub same-true : (xs ys : Bytes) → same xs ys ≡ true → xs ≡ ys
same-true [] [] e = refl
same-true [] (y ∷ ys) e = absurd (grind (arith, nat_tests))
same-true (x ∷ xs) [] e = absurd (grind (arith, nat_tests))
same-true (x ∷ xs) (y ∷ ys) e = same_first x y xs ys (x == y) refl e (λ more. same-true xs ys more)

same-self : (xs : Bytes) → same xs xs ≡ true
same-self [] = refl
same-self (x ∷ xs) = let e : (x == x) ≡ true = grind (arith, nat_tests) in rw e (same-self xs)

not_same : (n : Bytes) → n ≢ [] → same n [] ≡ false
not_same [] some = absurd (some refl)
not_same (x ∷ xs) some = refl

true_not_false : true ≡ false → ⊥
true_not_false e = grind (arith, nat_tests)

pub not_empty : (n : Bytes) → same n [] ≡ false → n ≢ []
not_empty [] e = absurd (true_not_false e)
not_empty (x ∷ xs) e = λ is. absurd (true_not_false (sym (ap (λ xs. same xs []) is) ∙ e))

some_not_none : {A : Type 0} (x : A) → Some x ≡ None → ⊥
some_not_none x e = cc

-- a line says what its words are
says_line : (line : Bytes) (x : ScriptLine) → LineSays line x → line_with (line_words line) ≡ Some x
says_line line (Session name) says = rw (says.0, not_same name says.1) refl
says_line line (Opens (OfChunk true)) says = rw says.0 refl
says_line line (Opens (OfChunk false)) says = rw says.0 refl
says_line line (Opens (OfMethod true class)) says = rw (says.0, says.1) refl
says_line line (Opens (OfMethod false class)) says = rw (says.0, says.1) refl
says_line line (Orders (Chunk prints text)) says = absurd says
says_line line (Orders (Method class_side class text)) says = absurd says
says_line line (Orders Commit) says = rw says refl
says_line line (Orders Abort) says = rw says refl
says_line line (Orders Logout) says = rw says refl
says_line line (Orders (Lock true name)) says = rw (says.0, says.1) refl
says_line line (Orders (Lock false name)) says = rw (says.0, says.1) refl
says_line line (Orders (Unlock name)) says = rw (says.0, says.1) refl
says_line line (Orders Checkpoint) says = rw says refl
says_line line (Orders (Mode true)) says = rw says refl
says_line line (Orders (Mode false)) says = rw says refl

pub none_says : (line : Bytes) → line_with (line_words line) ≡ None → (x : ScriptLine) → LineSays line x → ⊥
none_says line none x says = some_not_none x (sym (says_line line x says) ∙ none)

-- what begins a chunk is one of the openings
pub opening_of : (line text : Bytes) (command : Command) → BeginsChunk line text command
    → (opening : Opening) × LineSays line (Opens opening) × (command ≡ command_of opening text)
opening_of line text (Chunk true chunk) says = (OfChunk true, (says.0, refl), ap (λ t. Chunk true t) says.1)
opening_of line text (Chunk false chunk) says = (OfChunk false, (says.0, refl), ap (λ t. Chunk false t) says.1)
opening_of line text (Method true class source) says = (OfMethod true class, (says.0, says.1, refl), ap (λ t. Method true class t) says.2)
opening_of line text (Method false class source) says = (OfMethod false class, (says.0, says.1, refl), ap (λ t. Method false class t) says.2)
opening_of line text Commit says = absurd says
opening_of line text Abort says = absurd says
opening_of line text Logout says = absurd says
opening_of line text (Lock write name) says = absurd says
opening_of line text (Unlock name) says = absurd says
opening_of line text Checkpoint says = absurd says
opening_of line text (Mode full) says = absurd says

pub opening_in : (line : Bytes) → IsChunkLine line → (opening : Opening) × LineSays line (Opens opening)
opening_in line is = let found = opening_of line is.0 is.1 is.2 in (found.0, found.1)

-- an opening makes its command of any text
pub of_any_text : (line text : Bytes) (opening : Opening) → LineSays line (Opens opening) → BeginsChunk line text (command_of opening text)
of_any_text line text (OfChunk true) says = (says.0, refl)
of_any_text line text (OfChunk false) says = (says.0, refl)
of_any_text line text (OfMethod true class) says = (says.0, says.1, refl)
of_any_text line text (OfMethod false class) says = (says.0, says.1, refl)

pub is_chunk_line : (line : Bytes) (opening : Opening) → LineSays line (Opens opening) → IsChunkLine line
is_chunk_line line opening says = ([], command_of opening [], says)

-- a line that says nothing breaks the first rule
pub of_no_table : {script : List SessionCommands} {rest : List Bytes} (line : Bytes) → line ≢ [] → SaysNothing line → BreaksAt script line rest 1
of_no_table line some none =
    none_of_table some (λ name. none (Session name)) (λ command. none (Orders command))
    (λ chunk. let by = opening_in line chunk in none (Opens by.0) by.1) refl

-- a line that says something isn't empty
says_some : (line : Bytes) (x : ScriptLine) → LineSays line x → same line [] ≡ false
says_some [] x says = absurd (none_says [] refl x says)
says_some (b ∷ bs) x says = refl

-- Whether a line is one of the table's.
unfoldable pub Decision : Bytes → Type 0
Decision line = ((x : ScriptLine) × LineSays line x) ⊎ (line_with (line_words line) ≡ None)

one_word : (line w : Bytes) → line_words line ≡ w ∷ [] → (a b c d e f : Bool) → same w (codes "printit") ≡ a → same w (codes "run") ≡ b
    → same w (codes "commit") ≡ c → same w (codes "abort") ≡ d → same w (codes "logout") ≡ e
    → same w (codes "checkpoint") ≡ f → Decision line
unfolding Decision
one_word line w is true b c d e f p q r s t u = inl (Opens (OfChunk true), (is ∙ ap (λ v. v ∷ []) (same-true w (codes "printit") p), refl))
one_word line w is false true c d e f p q r s t u = inl (Opens (OfChunk false), (is ∙ ap (λ v. v ∷ []) (same-true w (codes "run") q), refl))
one_word line w is false false true d e f p q r s t u = inl (Orders Commit, is ∙ ap (λ v. v ∷ []) (same-true w (codes "commit") r))
one_word line w is false false false true e f p q r s t u = inl (Orders Abort, is ∙ ap (λ v. v ∷ []) (same-true w (codes "abort") s))
one_word line w is false false false false true f p q r s t u = inl (Orders Logout, is ∙ ap (λ v. v ∷ []) (same-true w (codes "logout") t))
one_word line w is false false false false false true p q r s t u = inl (Orders Checkpoint, is ∙ ap (λ v. v ∷ []) (same-true w (codes "checkpoint") u))
one_word line w is false false false false false false p q r s t u = inr ((ap line_with is ∙ rw (p, q, r, s, t, u) refl))

session_words : (line w n : Bytes) → line_words line ≡ w ∷ n ∷ [] → same w (codes "session") ≡ true → (e : Bool) → same n [] ≡ e → Decision line
unfolding Decision
session_words line w n is s true e = inr ((ap line_with is ∙ rw (s, e) refl))
session_words line w n is s false e = inl (Session n, (is ∙ ap (λ v. v ∷ n ∷ []) (same-true w (codes "session") s), not_empty n e))

mode_words : (line w n : Bytes) → line_words line ≡ w ∷ n ∷ [] → same w (codes "session") ≡ false → same w (codes "mode") ≡ true
    → (a b : Bool) → same n (codes "full_checks") ≡ a → same n (codes "no_rw_checks") ≡ b → Decision line
unfolding Decision
mode_words line w n is s o true b p q =
    let first = same-true w (codes "mode") o in
    let full = same-true n (codes "full_checks") p in
    inl (Orders (Mode true), is ∙ rw (first, full) refl)
mode_words line w n is s o false true p q =
    let first = same-true w (codes "mode") o in
    let other = same-true n (codes "no_rw_checks") q in
    inl (Orders (Mode false), is ∙ rw (first, other) refl)
mode_words line w n is s o false false p q = inr ((ap line_with is ∙ rw (s, o, p, q) refl))

name_words : (line w n : Bytes) → line_words line ≡ w ∷ n ∷ [] → same w (codes "session") ≡ false → same w (codes "mode") ≡ false
    → (i c m u : Bool) → is_name n ≡ i
    → same w (codes "classmethod:") ≡ c → same w (codes "method:") ≡ m → same w (codes "unlock") ≡ u → Decision line
unfolding Decision
name_words line w n is s o false c m u i p q r = inr ((ap line_with is ∙ rw (s, o, i) refl))
name_words line w n is s o true true m u i p q r = inl (Opens (OfMethod true n), (is ∙ ap (λ v. v ∷ n ∷ []) (same-true w (codes "classmethod:") p), i, refl))
name_words line w n is s o true false true u i p q r = inl (Opens (OfMethod false n), (is ∙ ap (λ v. v ∷ n ∷ []) (same-true w (codes "method:") q), i, refl))
name_words line w n is s o true false false true i p q r = inl (Orders (Unlock n), (is ∙ ap (λ v. v ∷ n ∷ []) (same-true w (codes "unlock") r), i))
name_words line w n is s o true false false false i p q r = inr ((ap line_with is ∙ rw (s, o, i, p, q, r) refl))

two_words : (line w n : Bytes) → line_words line ≡ w ∷ n ∷ [] → (s o : Bool) → same w (codes "session") ≡ s → same w (codes "mode") ≡ o
    → Decision line
two_words line w n is true o s e = session_words line w n is s (same n []) refl
two_words line w n is false true s e = mode_words line w n is s e (same n (codes "full_checks")) (same n (codes "no_rw_checks")) refl refl
two_words line w n is false false s e =
    name_words line w n is s e (is_name n) (same w (codes "classmethod:")) (same w (codes "method:")) (same w (codes "unlock")) refl refl refl refl

three_words : (line w m n : Bytes) → line_words line ≡ w ∷ m ∷ n ∷ [] → (l i a b : Bool) → same w (codes "lock") ≡ l → is_name n ≡ i
    → same m (codes "write") ≡ a → same m (codes "read") ≡ b → Decision line
unfolding Decision
three_words line w m n is false i a b l p q r = inr ((ap line_with is ∙ rw l refl))
three_words line w m n is true false a b l p q r = inr ((ap line_with is ∙ rw (l, p) refl))
three_words line w m n is true true true b l p q r =
    let lock = same-true w (codes "lock") l in
    let mode = same-true m (codes "write") q in
    inl (Orders (Lock true n), (is ∙ rw (lock, mode) refl, p))
three_words line w m n is true true false true l p q r =
    let lock = same-true w (codes "lock") l in
    let mode = same-true m (codes "read") r in
    inl (Orders (Lock false n), (is ∙ rw (lock, mode) refl, p))
three_words line w m n is true true false false l p q r = inr ((ap line_with is ∙ rw (l, p, q, r) refl))

with_words : (line : Bytes) (words : List Bytes) → line_words line ≡ words → Decision line
unfolding Decision
with_words line [] is = inr ((ap line_with is))
with_words line (w ∷ []) is = one_word line w is _ _ _ _ _ _ refl refl refl refl refl refl
with_words line (w ∷ n ∷ []) is = two_words line w n is _ _ refl refl
with_words line (w ∷ m ∷ n ∷ []) is = three_words line w m n is _ _ _ _ refl refl refl refl
with_words line (w ∷ m ∷ n ∷ o ∷ ws) is = inr ((ap line_with is))

pub decide_line : (line : Bytes) → Decision line
decide_line line = with_words line (line_words line) refl

-- four words say nothing
pub four_words : (line a b c rest : Bytes) → line_words line ≡ a ∷ b ∷ c ∷ line_words rest → (x : ScriptLine) → LineSays line x → ⊥
four_words line a b c rest is =
    let fourth = one_part is_space rest in
    none_says line (ap line_with (is ∙ ap (λ ws. a ∷ b ∷ c ∷ ws) fourth.2))

-- the first lines up to a line %, and those behind it
abbrev pub onto_body : Bytes → Option (List Bytes × List Bytes) → Option (List Bytes × List Bytes)
onto_body line None = None
onto_body line (Some found) = Some (line ∷ found.0, found.1)

abbrev pub body_in : List Bytes → Option (List Bytes × List Bytes)
body_in [] = None
body_in (line ∷ lines) = cond (same line (codes "%")) (Some ([], lines)) (onto_body line (body_in lines))

not_percent : (line : Bytes) → IsInner line → (b : Bool) → same line (codes "%") ≡ b → b ≡ false
not_percent line inner true e = absurd (inner (same-true line (codes "%") e))
not_percent line inner false e = refl

inner_if : (line : Bytes) → same line (codes "%") ≡ false → IsInner line
inner_if line e is = true_not_false (sym (ap (λ l. same l (codes "%")) is) ∙ e)

body_at : (body rest : List Bytes) → AllByRecursion IsInner body → body_in (body ++ codes "%" ∷ rest) ≡ Some (body, rest)
body_at [] rest inner = refl
body_at (line ∷ body) rest inner = rw (not_percent line inner.0 _ refl, body_at body rest inner.1) refl

is_body_in : {lines body rest : List Bytes} → IsBody lines body rest → body_in lines ≡ Some (body, rest)
is_body_in {body = body} {rest = rest} found = rw found.whole (body_at body rest found.inner)

no_body_in : (lines : List Bytes) → AllByRecursion IsInner lines → body_in lines ≡ None
no_body_in [] inner = refl
no_body_in (line ∷ lines) inner = rw (not_percent line inner.0 _ refl, no_body_in lines inner.1) refl

-- Whether there is a line % among the lines.
unfoldable pub BodyDecision : List Bytes → Type 0
BodyDecision lines = ((body : List Bytes) × (rest : List Bytes) × IsBody lines body rest × (length rest ≤ length lines)) ⊎ AllByRecursion IsInner lines

body_onto : (line : Bytes) (lines : List Bytes) → same line (codes "%") ≡ false → BodyDecision lines → BodyDecision (line ∷ lines)
unfolding BodyDecision
body_onto line lines e (inl (body, rest, found, size)) =
    inl (line ∷ body, rest, record { whole = ap (λ ls. line ∷ ls) found.whole; inner = (inner_if line e, found.inner) }, omega (arith, size))
body_onto line lines e (inr inner) = inr (inner_if line e, inner)

body_if : (line : Bytes) (lines : List Bytes) (b : Bool) → same line (codes "%") ≡ b → BodyDecision lines → BodyDecision (line ∷ lines)
unfolding BodyDecision
body_if line lines true e more =
    let is = same-true line (codes "%") e in
    inl ([], lines, record { whole = ap (λ l. l ∷ lines) is; inner = tt }, omega arith)
body_if line lines false e more = body_onto line lines e more

pub decide_body : (lines : List Bytes) → BodyDecision lines
unfolding BodyDecision
decide_body [] = inr tt
decide_body (line ∷ lines) = body_if line lines _ refl (decide_body lines)

unless_said : (line : Bytes) → ((x : ScriptLine) → LineSays line x → ⊥) → Decision line → line_with (line_words line) ≡ None
unfolding Decision
unless_said line none (inl (x, says)) = absurd (none x says)
unless_said line none (inr e) = e

says_none : (line : Bytes) → ((name : Bytes) → BeginsSession line name → ⊥) → ((command : Command) → SaysCommand line command → ⊥) → (IsChunkLine line → ⊥)
    → (x : ScriptLine) → LineSays line x → ⊥
says_none line session command chunk (Session name) says = session name says
says_none line session command chunk (Opens opening) says = chunk (is_chunk_line line opening says)
says_none line session command chunk (Orders c) says = command c says

no_line : (line : Bytes) → ((name : Bytes) → BeginsSession line name → ⊥) → ((command : Command) → SaysCommand line command → ⊥) → (IsChunkLine line → ⊥)
    → line_with (line_words line) ≡ None
no_line line session command chunk = unless_said line (says_none line session command chunk) (decide_line line)

-- What comes of lines: they are at their end, the first of them add to the sessions, or the first breaks a rule.
pub data Outcome : Type 0 where
  ends : Outcome
  goes_on : List SessionCommands → List Bytes → Outcome
  broken : ℕ → Outcome

abbrev pub chunk_outcome : List SessionCommands → Opening → Option (List Bytes × List Bytes) → Outcome
chunk_outcome script opening None = broken 3
chunk_outcome script opening (Some found) =
    cond (nat_le (length (text_of_lines found.0)) CHUNK_LIMIT) (goes_on (with_next_command script (command_of opening (text_of_lines found.0))) found.1) (broken 4)

abbrev pub line_outcome : List SessionCommands → Option ScriptLine → List Bytes → Outcome
line_outcome script None rest = broken 1
line_outcome script (Some (Session name)) rest =
    cond (is_user_name name) (cond (nat_lt (length script) SESSION_LIMIT) (goes_on (script ++ record { user = name; commands = [] } ∷ []) rest) (broken 5)) (broken 6)
line_outcome script (Some (Orders command)) rest = cond (takes_commands script) (goes_on (with_next_command script command) rest) (broken 2)
line_outcome script (Some (Opens opening)) rest = cond (takes_commands script) (chunk_outcome script opening (body_in rest)) (broken 2)

abbrev pub outcome : List SessionCommands → List Bytes → Outcome
outcome script [] = ends
outcome script (line ∷ rest) = cond (same line []) (goes_on script rest) (line_outcome script (line_with (line_words line)) rest)

lt_test : (m n : ℕ) → m < n → nat_lt m n ≡ true
lt_test m n h = grind (arith, nat_tests)

not_lt_test : (m n : ℕ) → n ≤ m → nat_lt m n ≡ false
not_lt_test m n h = grind (arith, nat_tests)

le_test : (m n : ℕ) → m ≤ n → nat_le m n ≡ true
le_test m n h = grind (arith, nat_tests)

not_le_test : (m n : ℕ) → n < m → nat_le m n ≡ false
not_le_test m n h = grind (arith, nat_tests)

-- a line that says something has this outcome
of_line : (script : List SessionCommands) (line : Bytes) (rest : List Bytes) (x : ScriptLine) → LineSays line x
    → outcome script (line ∷ rest) ≡ line_outcome script (Some x) rest
of_line script line rest x says = rw (says_some line x says, says_line line x says) refl

pub adds_outcome : {script longer : List SessionCommands} {lines rest : List Bytes} → Adds script lines longer rest → outcome script lines ≡ goes_on longer rest
adds_outcome (empty_line is same) = rw (is, same) refl
adds_outcome {script = script} {rest = rest} (session_line line name is says user few longer) =
    ap (outcome script) is ∙ (of_line script line rest (Session name) says ∙ rw (user, lt_test (length script) SESSION_LIMIT few, longer) refl)
adds_outcome {script = script} {rest = rest} (command_line line command is says takes longer) =
    ap (outcome script) is ∙ (of_line script line rest (Orders command) says ∙ rw (takes, longer) refl)
adds_outcome {script = script} {rest = rest} (chunk_lines line command opened body is says takes found short longer) =
    let by = opening_of line (text_of_lines body) command says in
    let size = le_test (length (text_of_lines body)) CHUNK_LIMIT short in
    let made = longer ∙ ap (with_next_command script) by.2 in
    ap (outcome script) is ∙ (of_line script line opened (Opens by.0) by.1 ∙ rw (takes, is_body_in found, size, made) refl)

pub breaks_outcome : {script : List SessionCommands} {line : Bytes} {rest : List Bytes} {rule : ℕ} → BreaksAt script line rest rule
    → outcome script (line ∷ rest) ≡ broken rule
breaks_outcome {script = script} {line = line} {rest = rest} (none_of_table some session command chunk is) =
    let o = no_line line session command chunk in
    rw (not_same line some, o, is) refl
breaks_outcome {script = script} {line = line} {rest = rest} (command_outside command says takes is) =
    of_line script line rest (Orders command) says ∙ rw (takes, is) refl
breaks_outcome {script = script} {line = line} {rest = rest} (chunk_outside says takes is) =
    let by = opening_in line says in
    of_line script line rest (Opens by.0) by.1 ∙ rw (takes, is) refl
breaks_outcome {script = script} {line = line} {rest = rest} (chunk_without_end says takes inner is) =
    let by = opening_in line says in
    of_line script line rest (Opens by.0) by.1 ∙ rw (takes, no_body_in rest inner, is) refl
breaks_outcome {script = script} {line = line} {rest = rest} (long_chunk body after says takes found long is) =
    let by = opening_in line says in
    let size = not_le_test (length (text_of_lines body)) CHUNK_LIMIT long in
    of_line script line rest (Opens by.0) by.1 ∙ rw (takes, is_body_in found, size, is) refl
breaks_outcome {script = script} {line = line} {rest = rest} (one_session_more name says user many is) =
    of_line script line rest (Session name) says ∙ rw (user, not_lt_test (length script) SESSION_LIMIT many, is) refl
breaks_outcome {script = script} {line = line} {rest = rest} (no_user_name name says user is) =
    of_line script line rest (Session name) says ∙ rw (user, is) refl
