-- Events of others, one after the other, and calls one after the other.
use Rattle.std.proofs.Common.{◌∙◌, refl, sym, ap, subst, ℕ, ◌≤◌, List, [], ◌++◌, append_assoc, append-nil, length, length-append, arith}
use Rattle.gem_meaning.specs.Opened.{Opened}
use Rattle.gem_meaning.specs.Events.{Event, after_events, Extends, OthersCame}
use Rattle.gem_meaning.specs.Serial.{IsConsistent}
use Rattle.gem_session.proofs.Apart.{none_of}
use Rattle.history_laws.proofs.Views.{number_stays}
use Rattle.stone_core.specs.Port.{PortState, GoesOn}

pub nobody_came : (session : ℕ) (es : List Event) → OthersCame session es es
nobody_came session es = ([], refl, sym (append-nil es))

pub came_and_came : (session : ℕ) (xs ys zs : List Event) → OthersCame session xs ys → OthersCame session ys zs → OthersCame session xs zs
came_and_came session xs ys zs came more = (
  came.0 ++ more.0,
  none_of session came.0 more.0 came.1 more.1,
  more.2 ∙ ap (λ es. es ++ more.0) came.2 ∙ append_assoc xs came.0 more.0,
)

pub nothing_later : (es : List Event) → Extends es es
nothing_later es = ([], sym (append-nil es))

pub extends_by : (session : ℕ) (xs ys : List Event) → OthersCame session xs ys → Extends xs ys
extends_by session xs ys came = (came.0, came.2)

pub extends_twice : (xs ys zs : List Event) → Extends xs ys → Extends ys zs → Extends xs zs
extends_twice xs ys zs one two = (one.0 ++ two.0, two.1 ∙ ap (λ es. es ++ two.0) one.1 ∙ append_assoc xs one.0 two.0)

pub longer : (events all : List Event) → Extends events all → length events ≤ length all
longer events all more = omega (arith, ap length more.1, length-append events more.0)

pub number_on : (o : Opened) (es es' : List Event) → Extends es es' → (after_events o es).number ≤ (after_events o es').number
number_on o es es' more = subst (λ x. (after_events o es).number ≤ (after_events o x).number) (sym more.1) (number_stays o es more.0)

-- no call was made
pub goes_on_none : (session : ℕ) (p : PortState) → IsConsistent p.told → GoesOn session p p
goes_on_none session p consistent = record {
  opened = refl;
  extends = nothing_later p.told.events;
  serves = λ other served. served;
  alone = λ is. (is, λ other different. refl);
  consistent = consistent;
}

-- calls were made after calls
pub goes_on_twice : (session : ℕ) (p q r : PortState) → GoesOn session p q → GoesOn session q r → GoesOn session p r
goes_on_twice session p q r one two = record {
  opened = two.opened ∙ one.opened;
  extends = extends_twice p.told.events q.told.events r.told.events one.extends two.extends;
  serves = λ other served. two.serves other (one.serves other served);
  alone = λ is.
      let first = one.alone is in
      let second = two.alone first.0 in
      (second.0, λ other different. second.1 other different ∙ first.1 other different);
  consistent = two.consistent;
}
