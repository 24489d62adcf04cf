-- The lines of a transcript for a command.
use Rattle.std.proofs.Common.{◌≡◌, ◌≢◌, ◌∙◌, refl, sym, ap, ℕ, ◌+◌, ◌<◌, ◌==◌, Bool, true, false, true≢false, cond, eq-eqb, List, [], ◌∷◌, ◌++◌, map, append-nil, arith}
use Rattle.std.specs.List.{filter}
use Rattle.std.proofs.lemmas.Bool.{ne_eqb}
use Rattle.std.proofs.lemmas.List.{map-append}
use Rattle.std.proofs.lemmas.List.Elements.{filter-append}
use Rattle.gem_meaning.specs.gem_replies.declared.reply.Line.{Line}
use Rattle.gem_meaning.specs.gem_replies.declared.reply.Reply.{Reply}
use Rattle.gem_meaning.specs.shell_words.declared.script.Command.{Command}
use Rattle.gem_meaning.specs.Events.{Told}
use Rattle.gem_meaning.specs.State.{SessionState}
use Rattle.gem_meaning.specs.Session.{CommandsSay, reply_with, replies_with}
use Rattle.gem_meaning.specs.Claims.{lines_of}

pub lines_of_both : (n : ℕ) (xs ys : List Reply)
    → lines_of n (xs ++ ys) ≡ lines_of n xs ++ lines_of n ys
lines_of_both n xs ys =
    ap (map (λ (r : Reply). r.line)) (filter-append (λ (r : Reply). r.command == n) xs ys)
    ∙ map-append (λ (r : Reply). r.line) (filter (λ (r : Reply). r.command == n) xs)
    (filter (λ (r : Reply). r.command == n) ys)

kept_line : (b : Bool) (n : ℕ) (line : Line) (rs : List Reply) → b ≡ true
    → map (λ (r : Reply). r.line) (cond b (reply_with n line ∷ rs) rs)
    ≡ line ∷ map (λ (r : Reply). r.line) rs
kept_line true n line rs is = refl
kept_line false n line rs is = absurd (true≢false (sym is))

dropped_line : (b : Bool) (n : ℕ) (line : Line) (rs : List Reply) → b ≡ false
    → map (λ (r : Reply). r.line) (cond b (reply_with n line ∷ rs) rs)
    ≡ map (λ (r : Reply). r.line) rs
dropped_line true n line rs is = absurd (true≢false is)
dropped_line false n line rs is = refl

lines_back : (n : ℕ) (lines : List Line) → lines_of n (replies_with n lines) ≡ lines
lines_back n [] = refl
lines_back n (line ∷ lines) =
    kept_line (n == n) n line (filter (λ (r : Reply). r.command == n) (replies_with n lines))
    (eq-eqb n n refl)
    ∙ ap (λ ls. line ∷ ls) (lines_back n lines)

pub other_lines : (n m : ℕ) (lines : List Line) → m ≢ n → lines_of n (replies_with m lines) ≡ []
other_lines n m [] apart = refl
other_lines n m (line ∷ lines) apart =
    dropped_line (m == n) m line (filter (λ (r : Reply). r.command == n) (replies_with m lines))
    (ne_eqb m n apart)
    ∙ other_lines n m lines apart

-- replies to another command add no line of this one
pub lines_stay : (n m : ℕ) (said : List Reply) (lines : List Line) → m ≢ n
    → lines_of n (said ++ replies_with m lines) ≡ lines_of n said
lines_stay n m said lines apart =
    lines_of_both n said (replies_with m lines)
    ∙ ap (λ ls. lines_of n said ++ ls) (other_lines n m lines apart)
    ∙ append-nil (lines_of n said)

pub lines_come : (n : ℕ) (said : List Reply) (lines : List Line) → lines_of n said ≡ []
    → lines_of n (said ++ replies_with n lines) ≡ lines
lines_come n said lines none =
    lines_of_both n said (replies_with n lines)
    ∙ ap (λ ls. ls ++ lines_of n (replies_with n lines)) none
    ∙ lines_back n lines

-- the replies to later commands have no line of an earlier one
pub none_later : (t : Told) (number p q : ℕ) (s : SessionState) (cs : List Command)
    (rs : List Reply) (n : ℕ) → n < number → CommandsSay t number p q s cs rs → lines_of n rs ≡ []
none_later t number p q s [] rs n below says = ap (lines_of n) says.0
none_later t number p q s (c ∷ cs) rs n below says =
    let apart : number ≢ n = λ is. omega (arith, is) in
    ap (lines_of n) says.replies
    ∙ lines_of_both n (replies_with number says.lines) says.more
    ∙ ap (λ ls. ls ++ lines_of n says.more) (other_lines n number says.lines apart)
    ∙ none_later t (number + 1) says.point q says.next cs says.more n (omega arith) says.rest
