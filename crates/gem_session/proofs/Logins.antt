-- What a login has seen.
use Rattle.std.proofs.Common.{◌≡◌, ◌∙◌, refl, sym, ap, subst, ℕ, ◌≤◌, Option, Some, None, IsSome, is_some, Bool, true, false, List, [], ◌∷◌, ◌-◌, length, inl, arith, if◌then◌else◌}
use Rattle.std.proofs.lemmas.Bool.{false≢true}
use Rattle.std.specs.List.{slice_get}
use Rattle.std.specs.Option.{option_and_then, unwrap_or}
use Rattle.gem_object.specs.References.{reference_of}
use Rattle.gem_meaning.specs.gem_language.OutOfScope.{global_in}
use Rattle.gem_sound.specs.declared.names.TheConstants.{ALL_USERS}
use Rattle.gem_object.specs.texts.Bytes.{Bytes as Text}
use Rattle.gem_image.specs.Image.{Image, objects_in}
use Rattle.gem_sound.specs.Parts.{user_at}
use Rattle.gem_sound.specs.Sound.{IsSoundFor}
use Rattle.gem_replies.specs.declared.reply.Reply.{Reply}
use Rattle.gem_replies.specs.declared.reply.Transcript.{Transcript}
use Rattle.gem_replies.specs.declared.reply.Line.TheVariants.{NoUser}
use Rattle.shell_words.specs.Script.{SessionCommands}
use Rattle.plain_state.specs.State.{begun}
use Rattle.running_objects.specs.Seen.{Seen, IsSoundState}
use Rattle.gem_record.specs.declared.mode.Mode.TheVariants.{Full}
use Rattle.gem_meaning.specs.Opened.{Opened, session_serial}
use Rattle.gem_meaning.specs.Names.{if_user, user_in}
use Rattle.gem_meaning.specs.Events.{Event, Told, events_of}
use Rattle.gem_meaning.specs.State.{first_transaction}
use Rattle.gem_meaning.specs.Session.{until_logout, reply_with, not_logged_in, Says}
use Rattle.gem_meaning.specs.Legal.{IsTranscript}
use Rattle.stone_core.specs.Port.{PortState, BeginSays, GoesOn}
use Rattle.gem_session.specs.declared.session.Session.{Session}
use Rattle.gem_session.specs.Running.{session_state, Arrives, HasLoggedIn, IsTranscriptSince}
use Rattle.gem_session.proofs.Apart.{none_of, apart_of_others}
use Rattle.gem_session.proofs.Counters.{next_of_fresh}
use Rattle.gem_session.proofs.Others.{longer}
use Rattle.gem_session.proofs.Beginnings.{IsFresh, fresh_begun, carries_next, sound_for, stands_at_first}
use Rattle.gem_session.proofs.Refusals.{refused}

-- the session has no event yet when its login has come to the Stone
pub fresh_still : (o : Opened) (session : ℕ) (before after : List Event) (image : Image) (number : ℕ) → events_of session before ≡ []
    → BeginSays o session before after image number → events_of session after ≡ []
fresh_still o session before after image number fresh says =
    ap (events_of session) says.others_came.2 ∙ none_of session before says.others_came.0 fresh says.others_came.1

-- what a session says that saw these events, it says also as one of which less is claimed
pub saw_less : (t : Told) (session seen less : ℕ) (script : SessionCommands) (rs : List Reply) → less ≤ seen → Says t session seen script rs
    → Says t session less script rs
saw_less t session seen less script rs few says = record {
  of_script = says.of_script;
  point = says.point;
  view = says.view;
  saw = let saw = says.saw in omega (arith, saw, few);
  within = says.within;
  sees = says.sees;
  says = says.says;
}

-- a transcript of a session that began when some events had come
pub since_any_event : (t : Told) (session seen : ℕ) (script : SessionCommands) (transcript : Transcript) → IsTranscriptSince t session seen script transcript
    → IsTranscript t session script transcript
since_any_event t session seen script transcript is = record {
  session_is = is.session_is;
  user_is = is.user_is;
  says = saw_less t session seen 0 script transcript.replies (omega arith) is.says;
}

-- a user who may log in is there
is_user : (is : Bool) (user name : ℕ) → (if is then Some name else None) ≡ Some user → (name ≡ user) × (is ≡ true)
is_user true user name found = (ap (λ (o : Option ℕ). unwrap_or o name) found, refl)
is_user false user name found = absurd (false≢true (ap (λ (o : Option ℕ). is_some o) found))

user_of_name : (image : Image) (user : ℕ) (named : Option ℕ) → option_and_then (if_user (objects_in image)) named ≡ Some user
    → IsSome (user_at (objects_in image) user)
user_of_name image user None found = absurd (false≢true (ap (λ (o : Option ℕ). is_some o) found))
user_of_name image user (Some name) found =
    let both = is_user (is_some (user_at (objects_in image) name)) user name found in
    subst (λ n. IsSome (user_at (objects_in image) n)) both.0 both.1

pub user_is_there : (image : Image) (name : Text) (user : ℕ) → user_in image name ≡ Some user → IsSome (user_at (objects_in image) user)
unfolding user_in
user_is_there image name user found =
    user_of_name image user (option_and_then reference_of (option_and_then (global_in name) (objects_in image ALL_USERS))) found

-- the first transaction may begin
pub sound_at_login : (p q : PortState) (session serial : ℕ) (image : Image) (number user : ℕ) (script : SessionCommands) → Arrives p session serial script
    → BeginSays p.told.opened session p.told.events q.told.events image number → user_in image script.user ≡ Some user
    → IsSoundFor (objects_in image) user serial 1
sound_at_login p q session serial image number user script arrives says found =
    let o = p.told.opened in
    let fresh = fresh_still o session p.told.events q.told.events image number arrives.fresh says in
    let names = next_of_fresh o q.told.events session fresh in
    sound_for o session p.told.events q.told.events image number user serial 1 says arrives.serial_is
    (user_is_there image script.user user found) (omega arith) (omega arith) (omega (arith, names))

-- the session of a user who is there
pub has_logged_in : (p q : PortState) (serial : ℕ) (image : Image) (number user : ℕ) (script : SessionCommands) (s : Session) → GoesOn s.session p q
    → Arrives p s.session serial script → BeginSays p.told.opened s.session p.told.events q.told.events image number
    → user_in image script.user ≡ Some user → s.view.state.seen ≡ begun image image user serial 1 → IsSoundState s.view.state.seen
    → s ≡ record { session = s.session; serial = serial; number = number; mode = Full; transaction = 1; first_command = 1; spoiled = false; image = image; view = s.view; cache = s.cache }
    → HasLoggedIn q.told script s
has_logged_in p q serial image number user script s goes arrives says found seen sound is =
    let o = q.told.opened in
    let here : BeginSays o s.session p.told.events q.told.events image number =
    subst (λ x. BeginSays x s.session p.told.events q.told.events image number) (sym goes.opened) says in
    let view : s.number ≡ number = ap (λ (x : Session). x.number) is in
    let held : s.image ≡ image = ap (λ (x : Session). x.image) is in
    let serial_is : s.serial ≡ serial = ap (λ (x : Session). x.serial) is in
    let first : s.first_command ≡ 1 = ap (λ (x : Session). x.first_command) is in
    let transaction : s.transaction ≡ 1 = ap (λ (x : Session). x.transaction) is in
    let user_is : s.view.state.seen.setting.user ≡ user = ap (λ (x : Seen). x.setting.user) seen in
    let first_name : s.view.state.seen.setting.first ≡ 1 = ap (λ (x : Seen). x.setting.first) seen in
    let fresh = fresh_still o s.session p.told.events q.told.events image number arrives.fresh here in
    let names = next_of_fresh o q.told.events s.session fresh in
    record {
      of_script = subst (λ (x : Opened). slice_get x.script (s.session - 1) ≡ Some script) (sym goes.opened) arrives.of_script;
      user = subst (λ i. user_in i script.user ≡ Some s.view.state.seen.setting.user) here.image_is (found ∙ ap Some (sym user_is));
      fresh = fresh;
      view = view ∙ here.number_is;
      carries = ap session_state is ∙ ap (carries_next 1 1 s.session number Full) seen
          ∙ ap (λ (u : ℕ). first_transaction s.session u number) (sym user_is)
          ∙ ap (λ (v : ℕ). first_transaction s.session s.view.state.seen.setting.user v) (sym view);
      stands = stands_at_first o p.told.events q.told.events image number 1 s here view held first
          (subst (λ n. IsFresh image n s.view.state.seen) (sym serial_is) (fresh_begun image user serial 1 s.view.state.seen seen))
          (serial_is ∙ arrives.serial_is ∙ ap (λ x. session_serial x s.session) (sym goes.opened))
          (subst (λ n. IsSome (user_at (objects_in image) n)) (sym user_is) (user_is_there image script.user user found)) sound
          (subst (λ (x : Opened). (1 ≤ s.session) × (s.session ≤ length x.script)) (sym goes.opened) arrives.range)
          (inl refl) (omega arith) (omega (arith, transaction)) (apart_of_others s.session 1 p.told.events arrives.fresh)
          (omega (arith, names, first_name)) (ap (λ (x : Session). x.mode) is);
    }

-- what a session says whose user isn't there
pub refused_when : (p q : PortState) (session serial : ℕ) (image : Image) (number : ℕ) (script : SessionCommands) (rs : List Reply) → GoesOn session p q
    → Arrives p session serial script → BeginSays p.told.opened session p.told.events q.told.events image number
    → user_in image script.user ≡ None → rs ≡ reply_with 0 (NoUser number) ∷ not_logged_in 1 (length (until_logout script.commands))
    → Says q.told session (length p.told.events) script rs
refused_when p q session serial image number script rs goes arrives says nobody is =
    let o = q.told.opened in
    let here : BeginSays o session p.told.events q.told.events image number = subst (λ x. BeginSays x session p.told.events q.told.events image number) (sym goes.opened) says in
    refused q.told session (length p.told.events) script number rs
    (subst (λ (x : Opened). slice_get x.script (session - 1) ≡ Some script) (sym goes.opened) arrives.of_script) (longer p.told.events q.told.events goes.extends)
    (fresh_still o session p.told.events q.told.events image number arrives.fresh here) here.number_is
    (subst (λ i. user_in i script.user ≡ None) here.image_is nobody) is
