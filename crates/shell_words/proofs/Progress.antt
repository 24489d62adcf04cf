-- Where the reader of lines stands.
use Rattle.std.proofs.Common.{◌≡◌, ◌+◌, ◌<◌, List, [], ◌∷◌, ◌++◌, length, None, refl, arith, sym, ◌∙◌, ap, subst, length-append, append_assoc}
use Rattle.texts.specs.Bytes.{Bytes}
use Rattle.shell_words.specs.Script.{SessionCommands}
use Rattle.shell_words.specs.ScriptGrammar.{Adds, empty_line, session_line, command_line, chunk_lines, Leads, at_once, after}
use Rattle.shell_words.specs.Reading.{sessions_of, IsReading, FaultAt, FaultIn}
use Rattle.shell_words.specs.declared.reading.Reading.{Reading}
use Rattle.shell_words.specs.declared.fault.ScriptFault.{ScriptFault}
use Rattle.shell_words.specs.declared.fault.ScriptFault.TheVariants.{Rule, NoMemory}

-- one more step at the end
pub one_more : {script reached longer : List SessionCommands} {lines left rest : List Bytes} → Leads script lines reached left → Adds reached left longer rest
    → Leads script lines longer rest
one_more {longer = longer} {rest = rest} (at_once same_script same_lines) adds =
    after (rw (same_script, same_lines) adds) (at_once refl refl)
one_more (after first more) adds = after first (one_more more adds)

-- the lines that a step takes stand in front
pub adds_front : {script longer : List SessionCommands} {lines rest : List Bytes} → Adds script lines longer rest → (front : List Bytes) × (lines ≡ front ++ rest)
adds_front (empty_line is same) = ([] ∷ [], is)
adds_front (session_line line name is says user few longer) = (line ∷ [], is)
adds_front (command_line line command is says takes longer) = (line ∷ [], is)
adds_front {rest = rest} (chunk_lines line opening opened body is says takes found short longer) =
    (line ∷ (body ++ (37 ∷ []) ∷ []), is ∙ (ap (λ ls. line ∷ ls) (found.whole ∙ sym (append_assoc body ((37 ∷ []) ∷ []) rest))))

pub leads_front : {script reached : List SessionCommands} {lines left : List Bytes} → Leads script lines reached left → (front : List Bytes) × (lines ≡ front ++ left)
leads_front (at_once same_script same_lines) = ([], same_lines)
leads_front {left = left} (after first more) =
    let one = adds_front first in
    let others = leads_front more in
    (one.0 ++ others.0, one.1 ∙ (ap (λ ls. one.0 ++ ls) others.1 ∙ sym (append_assoc one.0 others.0 left)))

-- The lines so far are the sessions of this reading, these lines are left, and together they are all.
pub record Standing (lines : List Bytes) (reading : Reading) (left : List Bytes) : Type 0 where
  pub leads : Leads [] lines (sessions_of reading) left
  pub counted : reading.lines + length left ≡ length lines
  pub is_reading : IsReading reading

pub standing_first : (lines : List Bytes) (r : Reading) → r.lines ≡ 0 → r.ended.items ≡ [] → r.current ≡ None → Standing lines r lines
standing_first lines r none ended now =
    let sessions : sessions_of r ≡ [] = rw (ended, now) refl in
    record {
      leads = at_once (sym sessions) refl;
      counted = rw none (omega arith);
      is_reading = record { sessions = rw sessions (omega arith); draft = rw now tt; takes = rw (sessions, now) refl };
    }

pub standing_next : {lines left rest after_these : List Bytes} {r n : Reading} {line : Bytes} → Standing lines r left → left ≡ line ∷ rest
    → Adds (sessions_of r) (line ∷ rest) (sessions_of n) after_these → IsReading n → n.lines + length after_these ≡ r.lines + 1 + length rest
    → Standing lines n after_these
standing_next {rest = rest} {line = line} here is adds reads count =
    let counted = here.counted in
    let size : length _ ≡ length rest + 1 = ap length is ∙ omega arith in
    record {
      leads = one_more here.leads (rw is adds);
      counted = omega (arith, counted, size, count);
      is_reading = reads;
    }

pub stops_here : {lines left rest : List Bytes} {r : Reading} {line : Bytes} (fault : ScriptFault) → Standing lines r left → left ≡ line ∷ rest
    → FaultAt (r.lines + 1) (sessions_of r) line rest fault → FaultIn lines fault
stops_here {lines = lines} {left = left} {rest = rest} {r = r} {line = line} (Rule at rule) here is fault =
    let front = leads_front here.leads in
    let counted = here.counted in
    let all : length lines ≡ length front.0 + length left = ap length front.1 ∙ length-append front.0 left in
    let P : List Bytes → Type 0 = λ ls. Leads [] lines (sessions_of r) ls in
    let number = fault.0 in
    record {
      before = front.0;
      line = line;
      rest = rest;
      script = sessions_of r;
      whole = front.1 ∙ ap (λ ls. front.0 ++ ls) is;
      numbered = omega (arith, counted, all, number);
      read = subst P is here.leads;
      breaks = fault.1;
    }
stops_here NoMemory here is fault = tt

-- there are as many lines to come as lines are left
pub line_numbers : {lines left rest : List Bytes} {r : Reading} {line : Bytes} → Standing lines r left → left ≡ line ∷ rest
    → r.lines + length rest < length lines
line_numbers {rest = rest} here is =
    let counted = here.counted in
    let size : length _ ≡ length rest + 1 = ap length is ∙ omega arith in
    omega (arith, counted, size)

-- where no line is left, the lines are a script
pub read_all : {lines left : List Bytes} {r : Reading} (all : List SessionCommands) → Standing lines r left → left ≡ [] → all ≡ sessions_of r
    → Leads [] lines all []
read_all {lines = lines} {r = r} all here none same =
    let P : List Bytes → Type 0 = λ ls. Leads [] lines (sessions_of r) ls in
    let Q : List SessionCommands → Type 0 = λ sessions. Leads [] lines sessions [] in
    subst Q (sym same) (subst P none here.leads)
