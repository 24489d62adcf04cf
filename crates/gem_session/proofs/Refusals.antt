-- The replies to commands where nobody is logged in.
use Rattle.std.proofs.Common.{◌≡◌, ◌∙◌, refl, sym, ap, subst, ℕ, zero, suc, ◌+◌, ◌-◌, ◌≤◌, Some, None, List, [], ◌∷◌, ◌++◌, length, take, arith, length-append}
use Rattle.std.specs.List.{slice_get}
use Rattle.std.proofs.Math.Seq.{take-length}
use Rattle.std.proofs.lemmas.List.{drop_all}
use Rattle.gem_replies.specs.declared.reply.Line.TheVariants.{NoUser, NotLoggedIn}
use Rattle.gem_replies.specs.declared.reply.Reply.{Reply}
use Rattle.shell_words.specs.declared.script.Command.{Command}
use Rattle.shell_words.specs.Script.{SessionCommands}
use Rattle.gem_meaning.specs.Events.{Told, after_events, standing, events_of}
use Rattle.gem_meaning.specs.Names.{user_in}
use Rattle.gem_meaning.specs.Commits.{SeesNumber}
use Rattle.gem_meaning.specs.Session.{until_logout, reply_with, not_logged_in, SaysOf, Says}

plus_zero : (n : ℕ) → n ≡ n + 0
plus_zero n = omega arith

counted : (number n : ℕ) → number + 1 + n ≡ number + suc n
counted number n = omega arith

-- one command more is refused
one_refusal : (number n : ℕ) → not_logged_in number (suc n) ≡ not_logged_in number n ++ reply_with (number + n) NotLoggedIn ∷ []
one_refusal number zero = ap (λ (k : ℕ). reply_with k NotLoggedIn ∷ []) (plus_zero number)
one_refusal number (suc n) =
    ap (λ rs. reply_with number NotLoggedIn ∷ rs) (one_refusal (number + 1) n
    ∙ ap (λ (k : ℕ). not_logged_in (number + 1) n ++ reply_with k NotLoggedIn ∷ []) (counted number n))

refusal_more : (n : ℕ) → not_logged_in 1 n ++ reply_with (n + 1) NotLoggedIn ∷ [] ≡ not_logged_in 1 (n + 1)
refusal_more n =
    let one : n + 1 ≡ 1 + n = omega arith in
    let next : suc n ≡ n + 1 = omega arith in
    ap (λ (k : ℕ). not_logged_in 1 n ++ reply_with k NotLoggedIn ∷ []) one ∙ sym (one_refusal 1 n) ∙ ap (not_logged_in 1) next

-- the replies of a session with one reply more to a command that is refused
pub refused_more : (view index : ℕ) (rs next : List Reply) → rs ≡ reply_with 0 (NoUser view) ∷ not_logged_in 1 index
    → next ≡ rs ++ reply_with (index + 1) NotLoggedIn ∷ [] → next ≡ reply_with 0 (NoUser view) ∷ not_logged_in 1 (index + 1)
refused_more view index rs next so_far more =
    more ∙ ap (λ xs. xs ++ reply_with (index + 1) NotLoggedIn ∷ []) so_far
    ∙ ap (λ xs. reply_with 0 (NoUser view) ∷ xs) (refusal_more index)

pub counted_commands : (cs body : List Command) (c : Command) → cs ≡ body ++ c ∷ [] → length body + 1 ≡ length cs
counted_commands cs body c is = sym (ap length is ∙ length-append body (c ∷ []))

-- what a session says whose user may not log in
pub refused : (t : Told) (session seen : ℕ) (script : SessionCommands) (view : ℕ) (rs : List Reply) → slice_get t.opened.script (session - 1) ≡ Some script → seen ≤ length t.events → events_of session t.events ≡ [] → view ≡ (standing t).number
    → user_in (standing t).image script.user ≡ None → rs ≡ reply_with 0 (NoUser view) ∷ not_logged_in 1 (length (until_logout script.commands))
    → Says t session seen script rs
refused t session seen script view rs of_script saw fresh view_is unknown is =
    let front : take (length t.events) t.events ≡ t.events = take-length t.events in
    record {
      of_script = of_script;
      point = length t.events;
      view = view;
      saw = saw;
      within = omega arith;
      sees = subst (λ x. SeesNumber t.opened session [] x view) (sym front) ((t.events, fresh, refl), view_is);
      says = subst (λ u. SaysOf u t session (length t.events) view (until_logout script.commands) rs)
          (sym (ap (λ x. user_in (after_events t.opened x).image script.user) front ∙ unknown))
          (record { refused = is; no_more = ap (events_of session) (drop_all (length t.events) t.events (omega arith)) });
    }
