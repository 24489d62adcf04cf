-- What is written of the tally's replies.
use Rattle.std.proofs.Common.{◌≡◌, ℕ, ◌+◌, ◌^◌, ◌<◌, List, [], ◌∷◌, ◌++◌, ap, ◌∙◌, codes, append_assoc, arith}
use Rattle.std.proofs.lemmas.Fmt.{decimal_digit}
use Rattle.std.proofs.lemmas.List.{append-nil}
use Rattle.std.specs.Fmt.{decimal}
use Rattle.std.specs.List.{flat_map}
use Rattle.gem_meaning.specs.texts.Bytes.{Bytes}
use Rattle.gem_meaning.specs.texts.Lines.{text_of_lines}
use Rattle.gem_meaning.specs.gem_replies.Escapes.{escaped}
use Rattle.gem_meaning.specs.gem_replies.Report.{transcript_lines, commit_lines}
use Rattle.gem_meaning.specs.gem_replies.declared.reply.Line.TheVariants.{Login, Printed, Logout as LoggedOut}
use Rattle.gem_meaning.specs.gem_replies.declared.reply.Reply.{Reply}
use Rattle.gem_meaning.specs.gem_replies.declared.reply.Transcript.{Transcript}
use Rattle.gem_meaning.specs.Session.{reply_with}
use Rattle.gem_server.specs.Tally.{tallied}
use Rattle.gem_server.proofs.SetupScript.{curator}
use Rattle.gem_server.proofs.DecimalTexts.{decimal_shown}

-- a reply without conflicts, by the digits of its number and by its text
abbrev line_with : Bytes → Bytes → Bytes
line_with digits text = codes "[" ++ digits ++ codes "] " ++ text

-- the report, by the digits of the few numbers that it always has
abbrev text_with : (session first second third fourth commits : Bytes) → (view counter bag : Bytes) → Bytes
text_with session first second third fourth commits view counter bag = text_of_lines (
    (codes "session " ++ session ++ codes " " ++ curator)
    ∷ line_with first (codes "login view " ++ view) ∷ line_with second counter ∷ line_with third bag
    ∷ line_with fourth (codes "logout") ∷ (codes "commits " ++ commits) ∷ [])

regrouped : (view counter bag : Bytes)
    → text_with (49 ∷ []) (48 ∷ []) (49 ∷ []) (50 ∷ []) (51 ∷ []) (48 ∷ []) view counter bag
    ≡ codes "session 1 DataCurator\n[0] login view " ++ (view
    ++ (codes "\n[1] " ++ (counter ++ (codes "\n[2] " ++ (bag ++ codes "\n[3] logout\ncommits 0\n")))))
regrouped view counter bag =
    let end : Bytes = codes "[3] logout\ncommits 0\n" in
    let third : (bag ++ 10 ∷ []) ++ end ≡ bag ++ (10 ∷ end) = append_assoc bag (10 ∷ []) end in
    let second : (counter ++ 10 ∷ []) ++ (codes "[2] " ++ ((bag ++ 10 ∷ []) ++ end))
    ≡ counter ++ (codes "\n[2] " ++ (bag ++ (10 ∷ end))) =
    append_assoc counter (10 ∷ []) (codes "[2] " ++ ((bag ++ 10 ∷ []) ++ end))
    ∙ ap (λ (more : Bytes). counter ++ (codes "\n[2] " ++ more)) third in
    ap (λ (more : Bytes). codes "session 1 DataCurator\n[0] login view " ++ more)
    (append_assoc view (10 ∷ []) (codes "[1] " ++ ((counter ++ 10 ∷ []) ++ (codes "[2] " ++ ((bag ++ 10 ∷ []) ++ end))))
    ∙ ap (λ (more : Bytes). view ++ (codes "\n[1] " ++ more)) second)

-- the digits are as they are, and the numbers are shown as they are
shown : (counter bag : ℕ) → counter < 2 ^ 64 → bag < 2 ^ 64
    → text_with (decimal 1) (decimal 0) (decimal 1) (decimal 2) (decimal 3) (decimal 0)
    (decimal (bag + 1) ++ []) (escaped (decimal counter)) (escaped (decimal bag))
    ≡ text_with (49 ∷ []) (48 ∷ []) (49 ∷ []) (50 ∷ []) (51 ∷ []) (48 ∷ [])
    (decimal (1 + bag)) (decimal counter) (decimal bag)
shown counter bag counter_small bag_small =
    let none = decimal_digit 0 (omega arith) in
    let one = decimal_digit 1 (omega arith) in
    let two = decimal_digit 2 (omega arith) in
    let three = decimal_digit 3 (omega arith) in
    let swapped : bag + 1 ≡ 1 + bag = omega arith in
    let view : decimal (bag + 1) ++ [] ≡ decimal (1 + bag) = append-nil (decimal (bag + 1)) ∙ ap decimal swapped in
    let first = decimal_shown counter counter_small in
    let second = decimal_shown bag bag_small in
    λ i. text_with (one i) (none i) (one i) (two i) (three i) (none i) (view i) (first i) (second i)

-- the replies of a tally, and its transcript
abbrev pub tally_replies : (counter bag : ℕ) → List Reply
tally_replies counter bag = reply_with 0 (Login (bag + 1)) ∷ reply_with 1 (Printed (decimal counter))
    ∷ reply_with 2 (Printed (decimal bag)) ∷ reply_with 3 LoggedOut ∷ []

abbrev pub tally_transcript : (counter bag : ℕ) → Transcript
tally_transcript counter bag = record { session = 1; user = curator; replies = tally_replies counter bag }

pub written : (counter bag first : ℕ) → counter < 2 ^ 64 → bag < 2 ^ 64
    → text_of_lines (flat_map transcript_lines (tally_transcript counter bag ∷ []) ++ commit_lines first [])
    ≡ tallied counter bag
written counter bag first counter_small bag_small =
    shown counter bag counter_small bag_small ∙ regrouped (decimal (1 + bag)) (decimal counter) (decimal bag)
