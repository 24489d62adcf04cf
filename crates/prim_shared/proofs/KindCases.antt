-- Whether a body is of a kind.
use Rattle.std.proofs.Common.{◌≡◌, refl, sym, ap, ◌∙◌, ℕ, true, false, List, is_some}
use Rattle.gem_object.specs.texts.Bytes.{Bytes as Text}
use Rattle.gem_object.specs.seg_rights.declared.rights.Rights.{Rights}
use Rattle.gem_object.specs.rc_queue.Contents.{Contents as QueueContents}
use Rattle.gem_object.specs.rc_counter_bag.declared.counter.Counter.{Counter}
use Rattle.gem_object.specs.declared.value.Value.{Value}
use Rattle.gem_object.specs.declared.body.UserBody.{UserBody}
use Rattle.gem_object.specs.declared.body.Body.{Body}
use Rattle.gem_object.specs.declared.body.Body.TheVariants as body
use Rattle.prim_shared.specs.declared.receivers.ReceiverKind.{ReceiverKind}
use Rattle.prim_shared.specs.declared.receivers.ReceiverKind.TheVariants as kind
use Rattle.prim_shared.specs.Kinds.{held_in}

-- a body that is of the kind
pub of_kind : {one other : ReceiverKind} {found shape : Body} → one ≡ other → found ≡ shape
    → is_some (held_in other shape) ≡ true → true ≡ is_some (held_in one found)
of_kind {one} {other} {found} {shape} same shown is = sym is
    ∙ sym (ap (λ (some : ReceiverKind). is_some (held_in some shape)) same)
    ∙ sym (ap (λ (some : Body). is_some (held_in one some)) shown)

-- and one that isn't
pub not_of_kind : {one other : ReceiverKind} (found : Body) → one ≡ other → is_some (held_in other found) ≡ false
    → false ≡ is_some (held_in one found)
not_of_kind {one} {other} found same is =
    sym is ∙ sym (ap (λ (some : ReceiverKind). is_some (held_in some found)) same)

pub not_plain : (found : Body) → ((held : List Value) → found ≡ body.Plain held → ⊥)
    → is_some (held_in kind.Plain found) ≡ false
not_plain (body.Plain held) not = absurd (not held refl)
not_plain _ not = refl

pub not_dictionary : (found : Body) → ((held : List (Value × Value)) → found ≡ body.Dict held → ⊥)
    → is_some (held_in kind.Dictionary found) ≡ false
not_dictionary (body.Dict held) not = absurd (not held refl)
not_dictionary _ not = refl

pub not_segment : (found : Body) → ((held : Rights Text) → found ≡ body.Segment held → ⊥)
    → is_some (held_in kind.Segment found) ≡ false
not_segment (body.Segment held) not = absurd (not held refl)
not_segment _ not = refl

pub not_user : (found : Body) → ((held : UserBody) → found ≡ body.User held → ⊥)
    → is_some (held_in kind.User found) ≡ false
not_user (body.User held) not = absurd (not held refl)
not_user _ not = refl

pub not_counter : (found : Body) → ((held : Counter) → found ≡ body.Counter held → ⊥)
    → is_some (held_in kind.Counter found) ≡ false
not_counter (body.Counter held) not = absurd (not held refl)
not_counter _ not = refl

pub not_bag : (found : Body) → ((held : List (Value × ℕ)) → found ≡ body.Bag held → ⊥)
    → is_some (held_in kind.Bag found) ≡ false
not_bag (body.Bag held) not = absurd (not held refl)
not_bag _ not = refl

pub not_shared : (found : Body) → ((held : List (Value × Value)) → found ≡ body.RcDict held → ⊥)
    → is_some (held_in kind.SharedDictionary found) ≡ false
not_shared (body.RcDict held) not = absurd (not held refl)
not_shared _ not = refl

pub not_queue : (found : Body) → ((held : QueueContents Value) → found ≡ body.Queue held → ⊥)
    → is_some (held_in kind.Queue found) ≡ false
not_queue (body.Queue held) not = absurd (not held refl)
not_queue _ not = refl
