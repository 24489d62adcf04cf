-- A session of a load, from its login on.
use Rattle.std.proofs.Common.{◌≡◌, inl, inr, ℕ, ℤ, ◌-◌, ◌≤◌, List, [], ◌∷◌, length, map, take, get_or, Option, Some, refl, ap, subst, ◌∙◌, codes, arith}
use Rattle.std.proofs.Math.Path.{fun_ext}
use Rattle.std.specs.List.{AllByRecursion, flat_map}
use Rattle.std.proofs.lemmas.Bool.{cases_lt}
use Rattle.gem_meaning.specs.gem_object.declared.value.Value.{Value}
use Rattle.gem_meaning.specs.gem_image.Image.{Image}
use Rattle.gem_meaning.specs.gem_replies.declared.reply.Line.TheVariants.{Login}
use Rattle.gem_meaning.specs.gem_replies.declared.reply.Reply.{Reply}
use Rattle.gem_meaning.specs.Opened.{commands_of}
use Rattle.gem_meaning.specs.Events.{Told, after_events, events_of}
use Rattle.gem_meaning.specs.Names.{user_among, user_in}
use Rattle.gem_meaning.specs.Session.{reply_with, until_logout, SaysOfUser, SaysOf, Says}
use Rattle.gem_meaning.specs.Legal.{WasServed}
use Rattle.gem_meaning.specs.gem_sound.Kernel.{kernel_classes}
use Rattle.kernel_image.specs.Objects.{protocols, other_entries, globals_entries, users_entries, class_list, shared_objects, profiles, last_objects, kernel_list}
use Rattle.gem_server.specs.Rounds.{load_objects, IsLoaded}
use Rattle.gem_server.proofs.SetupScript.{curator}
use Rattle.gem_server.proofs.OwnEvents.{came_others}
use Rattle.gem_server.proofs.LoadRounds.{round_commands, session_of, added_by}
use Rattle.gem_server.proofs.LoadStands.{MOST_EVENTS}
use Rattle.gem_server.proofs.LoadEvents.{StandsAt}
use Rattle.gem_server.proofs.LoadWalk.{IsDigit, Covers, behind_others, walk}

user_shown : (value : ℤ) (pairs : List (Value × ℕ)) → user_among (load_objects value pairs) (codes "DataCurator") ≡ Some 32
unfolding protocols other_entries globals_entries users_entries class_list shared_objects profiles last_objects kernel_list kernel_classes
user_shown value pairs = refl

user_loaded : (image : Image) (value : ℤ) (pairs : List (Value × ℕ)) → IsLoaded image value pairs → user_in image curator ≡ Some 32
unfolding user_in
user_loaded image value pairs loaded = ap (λ objects. user_among objects (codes "DataCurator")) (fun_ext loaded) ∙ user_shown value pairs

module _ (t : Told) (all : List (List ℕ)) (few : length t.events ≤ MOST_EVENTS) (session : ℕ) (numbers : List ℕ)
    (digits : AllByRecursion IsDigit numbers) (in_all : get_or all (session - 1) [] ≡ numbers)
    (in_script : commands_of t.opened.script session ≡ flat_map round_commands numbers) (k : ℕ) (k_within : k ≤ length t.events)
    (upto : (q : ℕ) → q ≤ k → StandsAt t.opened all (take q t.events)) where
  abbrev Covered : Type 0
  Covered = Covers t all few session numbers digits in_all in_script k k_within upto

  of_user : (p view : ℕ) (rs : List Reply) → p ≤ k → t.opened.number ≤ view → events_of session (take p t.events) ≡ []
      → SaysOfUser t session 32 p view (until_logout (flat_map round_commands numbers)) rs → AllByRecursion WasServed rs → Covered
  of_user p view rs p_upto above none says served =
      let each : AllByRecursion WasServed (reply_with 0 (Login view) ∷ says.replies) = subst (AllByRecursion WasServed) says.login served in
      walk t all few session numbers digits in_all in_script k k_within upto says.end says.within says.no_more numbers [] p view 1 1 says.replies
      (record {
        whole = refl;
        p_upto = p_upto;
        above = above;
        transaction_is = refl;
        first_is = refl;
        so_far = ap (map (added_by all)) none;
      }) says.says each.1

  pub covered : (seen : ℕ) (rs : List Reply) → Says t session seen (session_of numbers) rs → AllByRecursion WasServed rs → Covered
  covered seen rs says served =
      let p : ℕ = says.point in
      let within = says.within in
      let none : events_of session (take p t.events) ≡ [] = came_others session [] (take p t.events) says.sees.0 in
      elim (cases_lt k p) [
        | inl behind ↦ behind_others t all few session numbers digits in_all in_script k k_within upto 0 p (omega arith) (omega arith) within
            behind says.sees.0
        | inr before ↦
            let stands = upto p before in
            let user : user_in (after_events t.opened (take p t.events)).image curator ≡ Some 32 =
            user_loaded _ _ _ stands.stands.loaded in
            let above = stands.stands.above in
            let view_is = says.sees.1 in
            of_user p says.view rs before (omega (arith, above, view_is)) none
            (subst (λ (found : Option ℕ). SaysOf found t session p says.view (until_logout (flat_map round_commands numbers)) rs) user says.says)
            served
      ]
