-- A text is a script or breaks one rule first at one line.
use Rattle.std.proofs.Common.{◌≡◌, ℕ, zero, suc, ◌+◌, ◌<◌, ◌≤◌, Bool, true, false, nat_lt, nat_le, List, [], ◌∷◌, ◌++◌, length, refl, arith, sym, ◌∙◌, ap, length-append, ◌⊎◌, inl, inr}
use Rattle.std.specs.List.{AllByRecursion, list_all}
use Rattle.std.proofs.lemmas.Bool.Decides.{nat_tests}
use Rattle.texts.specs.Bytes.{Bytes}
use Rattle.texts.specs.Lines.{text_of_lines}
use Rattle.shell_words.specs.declared.limits.TheConstants.{SESSION_LIMIT, CHUNK_LIMIT, SCRIPT_LIMIT}
use Rattle.shell_words.specs.Lines.{lines_of, IsBody}
use Rattle.texts.specs.Names.{is_user_name}
use Rattle.shell_words.specs.Script.{SessionCommands, takes_commands}
use Rattle.shell_words.specs.ScriptGrammar.{BeginsSession, SaysCommand, Adds, empty_line, session_line, command_line, chunk_lines, Leads, at_once, after, BreaksAt, command_outside, chunk_outside, chunk_without_end, long_chunk, one_session_more, no_user_name, is_script_byte, IsPlain, ReadsScript, HasOtherByte, StopsAtLine, BreaksRule, long_script, other_byte, at_line}
use Rattle.shell_words.specs.Reading.{command_of, LineSays}
use Rattle.shell_words.specs.declared.script.Command.{Command}
use Rattle.shell_words.specs.declared.table.Opening.{Opening}
use Rattle.shell_words.specs.declared.table.ScriptLine.TheVariants.{Session, Opening as Opens, Command as Orders}
use Rattle.shell_words.proofs.Progress.{leads_front}
use Rattle.shell_words.proofs.Outcomes.{ends, goes_on, broken, outcome, adds_outcome, breaks_outcome, same, same-true, not_empty, Decision, decide_line, none_says, of_no_table, of_any_text, is_chunk_line, BodyDecision, decide_body}

-- nothing follows
Stuck : List SessionCommands → List Bytes → Type 0
Stuck script lines = (longer : List SessionCommands) (rest : List Bytes) → outcome script lines ≡ goes_on longer rest → ⊥

same_sessions : {a b : List SessionCommands} {c d : List Bytes} → goes_on a c ≡ goes_on b d → a ≡ b
same_sessions e = cc

same_lines : {a b : List SessionCommands} {c d : List Bytes} → goes_on a c ≡ goes_on b d → c ≡ d
same_lines e = cc

same_rule : {a b : ℕ} → broken a ≡ broken b → a ≡ b
same_rule e = cc

end_goes_on : {a : List SessionCommands} {c : List Bytes} → ends ≡ goes_on a c → ⊥
end_goes_on e = cc

broken_goes_on : {r : ℕ} {a : List SessionCommands} {c : List Bytes} → broken r ≡ goes_on a c → ⊥
broken_goes_on e = cc

end_broken : {r : ℕ} → ends ≡ broken r → ⊥
end_broken e = cc

stuck_at_end : (script : List SessionCommands) → Stuck script []
unfolding Stuck
stuck_at_end script longer rest e = end_goes_on e

stuck_where_broken : (script : List SessionCommands) (line : Bytes) (rest : List Bytes) (rule : ℕ) → BreaksAt script line rest rule → Stuck script (line ∷ rest)
unfolding Stuck
stuck_where_broken script line rest rule breaks longer left e = broken_goes_on (sym (breaks_outcome breaks) ∙ e)

there : {script a : List SessionCommands} {lines c : List Bytes} → script ≡ a → lines ≡ c → outcome a c ≡ outcome script lines
there {script = script} {c = c} s l = ap (λ x. outcome x c) (sym s) ∙ ap (λ ls. outcome script ls) (sym l)

-- where nothing follows is one place
one_place : {script a b : List SessionCommands} {lines c d : List Bytes} → Leads script lines a c → Leads script lines b d → Stuck a c → Stuck b d → (a ≡ b) × (c ≡ d)
unfolding Stuck
one_place (at_once s l) (at_once t m) p q = (sym s ∙ t, sym l ∙ m)
one_place (at_once s l) (after {longer = longer} {rest = rest} first more) p q = absurd (p longer rest (there s l ∙ adds_outcome first))
one_place (after {longer = longer} {rest = rest} first more) (at_once t m) p q = absurd (q longer rest (there t m ∙ adds_outcome first))
one_place (after first more) (after other others) p q =
    let e = sym (adds_outcome first) ∙ adds_outcome other in
    one_place more (rw (same_sessions e, same_lines e) others) p q

-- Whether the first of the lines adds to the sessions or breaks a rule.
Next : List SessionCommands → Bytes → List Bytes → Type 0
Next script line rest =
    ((longer : List SessionCommands) × (left : List Bytes) × Adds script (line ∷ rest) longer left × (length left ≤ length rest))
    ⊎ ((rule : ℕ) × BreaksAt script line rest rule)

next_session : (script : List SessionCommands) (line : Bytes) (rest : List Bytes) (name : Bytes) → BeginsSession line name → (a b : Bool) → is_user_name name ≡ a
    → nat_lt (length script) SESSION_LIMIT ≡ b → Next script line rest
unfolding Next
next_session script line rest name says false b user room = inr (6, no_user_name name says user refl)
next_session script line rest name says true true user room =
    let few : length script < SESSION_LIMIT = grind (arith, nat_tests) in
    inl (_, rest, session_line line name refl says user few refl, omega arith)
next_session script line rest name says true false user room =
    let many : SESSION_LIMIT ≤ length script = grind (arith, nat_tests) in
    inr (5, one_session_more name says user many refl)

next_command : (script : List SessionCommands) (line : Bytes) (rest : List Bytes) (command : Command) → SaysCommand line command → (a : Bool)
    → takes_commands script ≡ a → Next script line rest
unfolding Next
next_command script line rest command says true takes = inl (_, rest, command_line line command refl says takes refl, omega arith)
next_command script line rest command says false takes = inr (2, command_outside command says takes refl)

next_body : (script : List SessionCommands) (line : Bytes) (rest : List Bytes) (opening : Opening) → LineSays line (Opens opening) → takes_commands script ≡ true
    → (body left : List Bytes) → IsBody rest body left → length left ≤ length rest → (a : Bool) → nat_le (length (text_of_lines body)) CHUNK_LIMIT ≡ a
    → Next script line rest
unfolding Next
next_body script line rest opening says takes body left found less true size =
    let short : length (text_of_lines body) ≤ CHUNK_LIMIT = grind (arith, nat_tests) in
    inl (_, left, chunk_lines line (command_of opening (text_of_lines body)) rest body refl (of_any_text line (text_of_lines body) opening says) takes found short refl, less)
next_body script line rest opening says takes body left found less false size =
    let long : CHUNK_LIMIT < length (text_of_lines body) = grind (arith, nat_tests) in
    inr (4, long_chunk body left (is_chunk_line line opening says) takes found long refl)

next_chunk : (script : List SessionCommands) (line : Bytes) (rest : List Bytes) (opening : Opening) → LineSays line (Opens opening) → (a : Bool)
    → takes_commands script ≡ a → BodyDecision rest → Next script line rest
unfolding Next BodyDecision
next_chunk script line rest opening says false takes found = inr (2, chunk_outside (is_chunk_line line opening says) takes refl)
next_chunk script line rest opening says true takes (inl (body, left, found, less)) = next_body script line rest opening says takes body left found less _ refl
next_chunk script line rest opening says true takes (inr inner) = inr (3, chunk_without_end (is_chunk_line line opening says) takes inner refl)

next_said : (script : List SessionCommands) (line : Bytes) (rest : List Bytes) → same line [] ≡ false → Decision line → Next script line rest
unfolding Next Decision
next_said script line rest some (inl (Session name, says)) = next_session script line rest name says _ _ refl refl
next_said script line rest some (inl (Opens opening, says)) = next_chunk script line rest opening says _ refl (decide_body rest)
next_said script line rest some (inl (Orders command, says)) = next_command script line rest command says _ refl
next_said script line rest some (inr none) = inr (1, of_no_table line (not_empty line some) (none_says line none))

next_if : (script : List SessionCommands) (line : Bytes) (rest : List Bytes) (a : Bool) → same line [] ≡ a → Next script line rest
unfolding Next
next_if script line rest true empty =
    let is = same-true line [] empty in
    inl (script, rest, empty_line (ap (λ l. l ∷ rest) is) refl, omega arith)
next_if script line rest false some = next_said script line rest some (decide_line line)

next : (script : List SessionCommands) (line : Bytes) (rest : List Bytes) → Next script line rest
next script line rest = next_if script line rest _ refl

-- Where the lines lead: to their end, or to one that breaks a rule.
Last : List SessionCommands → List Bytes → Type 0
Last script lines =
    ((reached : List SessionCommands) × Leads script lines reached [])
    ⊎ ((reached : List SessionCommands) × (line : Bytes) × (rest : List Bytes) × (rule : ℕ) × Leads script lines reached (line ∷ rest) × BreaksAt reached line rest rule)

last_after : {script longer : List SessionCommands} {lines rest : List Bytes} → Adds script lines longer rest → Last longer rest → Last script lines
unfolding Last
last_after first (inl (reached, more)) = inl (reached, after first more)
last_after first (inr (reached, line, left, rule, more, breaks)) = inr (reached, line, left, rule, after first more, breaks)

last_next : (script : List SessionCommands) (line : Bytes) (rest : List Bytes) → Next script line rest
    → ((longer : List SessionCommands) (left : List Bytes) → length left ≤ length rest → Last longer left) → Last script (line ∷ rest)
unfolding Next Last
last_next script line rest (inl (longer, left, adds, less)) more = last_after adds (more longer left less)
last_next script line rest (inr (rule, breaks)) more = inr (script, line, rest, rule, at_once refl refl, breaks)

last_of : (fuel : ℕ) (script : List SessionCommands) (lines : List Bytes) → length lines ≤ fuel → Last script lines
unfolding Last
last_of fuel script [] fits = inl (script, at_once refl refl)
last_of zero script (line ∷ rest) fits = absurd (omega arith)
last_of (suc fuel) script (line ∷ rest) fits = last_next script line rest (next script line rest) (λ longer left less. last_of fuel longer left (omega (arith, less)))

-- Whether a line has another byte.
OtherDecision : List Bytes → Type 0
OtherDecision lines = AllByRecursion IsPlain lines ⊎ ((number : ℕ) × HasOtherByte lines number)

other_onto : (line : Bytes) (lines : List Bytes) → IsPlain line → OtherDecision lines → OtherDecision (line ∷ lines)
unfolding OtherDecision
other_onto line lines plain (inl all) = inl (plain, all)
other_onto line lines plain (inr (number, h)) =
    let numbered = h.numbered in
    inr (
      number + 1,
      record {
        before = line ∷ h.before;
        line = h.line;
        rest = h.rest;
        whole = ap (λ ls. line ∷ ls) h.whole;
        numbered = omega (arith, numbered);
        plain = (plain, h.plain);
        other = h.other;
      },
    )

other_if : (line : Bytes) (lines : List Bytes) (a : Bool) → list_all is_script_byte line ≡ a → OtherDecision lines → OtherDecision (line ∷ lines)
unfolding OtherDecision
other_if line lines true plain more = other_onto line lines plain more
other_if line lines false other more =
    inr (1, record { before = []; line = line; rest = lines; whole = refl; numbered = omega arith; plain = tt; other = other })

decide_other : (lines : List Bytes) → OtherDecision lines
unfolding OtherDecision
decide_other [] = inl tt
decide_other (line ∷ lines) = other_if line lines _ refl (decide_other lines)

not_both : (line : Bytes) → list_all is_script_byte line ≡ true → list_all is_script_byte line ≡ false → ⊥
not_both line plain other = let e : true ≡ false = sym plain ∙ other in grind (arith, nat_tests)

-- a line that is none of the lines before it
other_not_plain : (lines before rest : List Bytes) (line : Bytes) → lines ≡ before ++ line ∷ rest → AllByRecursion IsPlain lines
    → list_all is_script_byte line ≡ false → ⊥
other_not_plain [] [] rest line e all other = cc
other_not_plain [] (b ∷ before) rest line e all other = cc
other_not_plain (l ∷ lines) [] rest line e all other = let head : l ≡ line = cc in not_both line (rw (← head) all.0) other
other_not_plain (l ∷ lines) (b ∷ before) rest line e all other = let tail : lines ≡ before ++ line ∷ rest = cc in other_not_plain lines before rest line tail all.1 other

-- the lines before the first one with another byte are as many
first_other : (a b r s : List Bytes) (l m : Bytes) → a ++ l ∷ r ≡ b ++ m ∷ s → AllByRecursion IsPlain a → AllByRecursion IsPlain b
    → list_all is_script_byte l ≡ false → list_all is_script_byte m ≡ false → length a ≡ length b
first_other [] [] r s l m e p q x y = refl
first_other [] (c ∷ b) r s l m e p q x y = let head : l ≡ c = cc in absurd (not_both l (rw head q.0) x)
first_other (c ∷ a) [] r s l m e p q x y = let head : c ≡ m = cc in absurd (not_both m (rw (← head) p.0) y)
first_other (c ∷ a) (d ∷ b) r s l m e p q x y =
    let tail : a ++ l ∷ r ≡ b ++ m ∷ s = cc in
    let more = first_other a b r s l m tail p.1 q.1 x y in
    omega (arith, more)

one_other : {lines : List Bytes} {m n : ℕ} → HasOtherByte lines m → HasOtherByte lines n → m ≡ n
one_other h k =
    let count = first_other h.before k.before h.rest k.rest h.line k.line (sym h.whole ∙ k.whole) h.plain k.plain h.other k.other in
    let first = h.numbered in
    let second = k.numbered in
    omega (arith, count, first, second)

no_other : {lines : List Bytes} {n : ℕ} → AllByRecursion IsPlain lines → HasOtherByte lines n → ⊥
no_other all h = other_not_plain _ h.before h.rest h.line h.whole all h.other

-- a stop is at one place
one_stop : {lines : List Bytes} {m n rule broken_rule : ℕ} → StopsAtLine lines m rule → StopsAtLine lines n broken_rule → (m ≡ n) × (rule ≡ broken_rule)
one_stop {lines = lines} {rule = rule} {broken_rule = broken_rule} h k =
    let place = one_place h.read k.read (stuck_where_broken h.script h.line h.rest rule h.breaks) (stuck_where_broken k.script k.line k.rest broken_rule k.breaks) in
    let e : broken rule ≡ broken broken_rule = sym (breaks_outcome h.breaks) ∙ (there (sym place.0) (sym place.1) ∙ breaks_outcome k.breaks) in
    let left : length (h.line ∷ h.rest) ≡ length (k.line ∷ k.rest) = ap length place.1 in
    let first = ap length h.whole ∙ length-append h.before (h.line ∷ h.rest) in
    let second = ap length k.whole ∙ length-append k.before (k.line ∷ k.rest) in
    let m_is = h.numbered in
    let n_is = k.numbered in
    (omega (arith, left, first, second, m_is, n_is), same_rule e)

no_stop : {lines : List Bytes} {script : List SessionCommands} {n rule : ℕ} → Leads [] lines script [] → StopsAtLine lines n rule → ⊥
no_stop {script = script} {rule = rule} leads h =
    let place = one_place leads h.read (stuck_at_end script) (stuck_where_broken h.script h.line h.rest rule h.breaks) in
    let none : [] ≡ h.line ∷ h.rest = place.1 in
    cc

pub one_script : (text : Bytes) (script other : List SessionCommands) → ReadsScript text script → ReadsScript text other → script ≡ other
one_script text script other h k = (one_place h.read k.read (stuck_at_end script) (stuck_at_end other)).0

pub one_rule : (text : Bytes) (line number rule broken_rule : ℕ) → BreaksRule text line rule → BreaksRule text number broken_rule → (line ≡ number) × (rule ≡ broken_rule)
one_rule text line number rule broken_rule (long_script long is by) (long_script longer at of) = (is ∙ sym at, by ∙ sym of)
one_rule text line number rule broken_rule (long_script long is by) (other_byte short other of) = absurd (omega (arith, long, short))
one_rule text line number rule broken_rule (long_script long is by) (at_line short plain stops) = absurd (omega (arith, long, short))
one_rule text line number rule broken_rule (other_byte short other by) (long_script long at of) = absurd (omega (arith, long, short))
one_rule text line number rule broken_rule (other_byte short other by) (other_byte shorter another of) = (one_other other another, by ∙ sym of)
one_rule text line number rule broken_rule (other_byte short other by) (at_line shorter plain stops) = absurd (no_other plain other)
one_rule text line number rule broken_rule (at_line short plain stops) (long_script long at of) = absurd (omega (arith, long, short))
one_rule text line number rule broken_rule (at_line short plain stops) (other_byte shorter other of) = absurd (no_other plain other)
one_rule text line number rule broken_rule (at_line short plain stops) (at_line shorter plainer others) = one_stop stops others

pub never_both : (text : Bytes) (script : List SessionCommands) (line rule : ℕ) → ReadsScript text script → BreaksRule text line rule → ⊥
never_both text script line rule h (long_script long is by) = let short = h.short in omega (arith, long, short)
never_both text script line rule h (other_byte short other by) = no_other h.plain other
never_both text script line rule h (at_line short plain stops) = no_stop h.read stops

-- Whether a text is a script.
Answer : Bytes → Type 0
Answer text = ((script : List SessionCommands) × ReadsScript text script) ⊎ ((line rule : ℕ) × BreaksRule text line rule)

answer_last : (text : Bytes) → length text ≤ SCRIPT_LIMIT → AllByRecursion IsPlain (lines_of text) → Last [] (lines_of text) → Answer text
unfolding Last Answer
answer_last text short plain (inl (script, leads)) = inl (script, record { short = short; plain = plain; read = leads })
answer_last text short plain (inr (script, line, rest, rule, leads, breaks)) =
    let front = leads_front leads in
    inr (
      length front.0 + 1,
      rule,
      at_line short plain (record {
        before = front.0;
        line = line;
        rest = rest;
        script = script;
        whole = front.1;
        numbered = refl;
        read = leads;
        breaks = breaks;
      }),
    )

answer_plain : (text : Bytes) → length text ≤ SCRIPT_LIMIT → OtherDecision (lines_of text) → Answer text
unfolding OtherDecision Answer
answer_plain text short (inl plain) = answer_last text short plain (last_of (length (lines_of text)) [] (lines_of text) (omega arith))
answer_plain text short (inr (number, other)) = inr (number, 8, other_byte short other refl)

answer_if : (text : Bytes) (a : Bool) → nat_le (length text) SCRIPT_LIMIT ≡ a → Answer text
unfolding Answer
answer_if text true size = let short : length text ≤ SCRIPT_LIMIT = grind (arith, nat_tests) in answer_plain text short (decide_other (lines_of text))
answer_if text false size = let long : SCRIPT_LIMIT < length text = grind (arith, nat_tests) in inr (0, 7, long_script long refl refl)

pub always : (text : Bytes) → ((script : List SessionCommands) × ReadsScript text script) ⊎ ((line rule : ℕ) × BreaksRule text line rule)
unfolding Answer
always text = answer_if text _ refl
