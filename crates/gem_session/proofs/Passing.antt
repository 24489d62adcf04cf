-- Events after which a session stands as it stood: those of others, and its own about locks.
use Rattle.std.proofs.Common.{◌≡◌, ◌∙◌, refl, sym, ap, subst, ℕ, ◌≤◌, Option, List, [], ◌∷◌, ◌++◌}
use Rattle.std.specs.List.{AllByRecursion}
use Rattle.gem_record.specs.declared.record.Entry.{Entry}
use Rattle.lock_table.specs.declared.lock.LockKind.{LockKind}
use Rattle.gem_meaning.specs.declared.event.What.TheVariants.{Held, Dropped, Checked, Halted}
use Rattle.gem_meaning.specs.Opened.{Opened}
use Rattle.gem_meaning.specs.Events.{Event, Standing, image_at, next_counter, after_events, Extends, OthersCame}
use Rattle.gem_meaning.specs.Serial.{EndedBefore}
use Rattle.history_laws.proofs.Views.{after_one_more, views_stay}
use Rattle.gem_session.proofs.Others.{extends_by, extends_twice}
use Rattle.gem_session.proofs.Apart.{apart_of_others, apart_both}
use Rattle.gem_session.proofs.Counters.{next_of_others}

-- No commit of the session is among the further events.
pub record Passes (o : Opened) (session : ℕ) (before after : List Event) : Type 0 where
  pub extends : Extends before after
  pub counter : next_counter (after_events o after) session ≡ next_counter (after_events o before) session
  pub apart : (first : ℕ) → AllByRecursion (EndedBefore session first) before → AllByRecursion (EndedBefore session first) after

-- no earlier entry of the session names the commands, also when others' events come
pub apart_when : (session first : ℕ) (es es' : List Event) → AllByRecursion (EndedBefore session first) es → OthersCame session es es' →
    AllByRecursion (EndedBefore session first) es'
apart_when session first es es' apart came =
    subst (AllByRecursion (EndedBefore session first)) (sym came.2)
    (apart_both session first es came.0 apart (apart_of_others session first came.0 came.1))

pub counter_when : (o : Opened) (session : ℕ) (es es' : List Event) → OthersCame session es es'
    → next_counter (after_events o es') session ≡ next_counter (after_events o es) session
counter_when o session es es' came =
    ap (λ x. next_counter (after_events o x) session) came.2 ∙ next_of_others o es came.0 session came.1

pub pass_others : (o : Opened) (session : ℕ) (es es' : List Event) → OthersCame session es es' → Passes o session es es'
pass_others o session es es' came = record {
  extends = extends_by session es es' came;
  counter = counter_when o session es es' came;
  apart = λ first apart. apart_when session first es es' apart came;
}

pub pass_twice : (o : Opened) (session : ℕ) (es es' es'' : List Event) → Passes o session es es' → Passes o session es' es'' → Passes o session es es''
pass_twice o session es es' es'' one two = record {
  extends = extends_twice es es' es'' one.extends two.extends;
  counter = two.counter ∙ one.counter;
  apart = λ first apart. two.apart first (one.apart first apart);
}

-- an event about locks, whoever made it
pub pass_held : (o : Opened) (session : ℕ) (es : List Event) (author oid : ℕ) (kind : LockKind) → Passes o session es (es ++ (author, Held oid kind) ∷ [])
pass_held o session es author oid kind = record {
  extends = ((author, Held oid kind) ∷ [], refl);
  counter = ap (λ (s : Standing). next_counter s session) (after_one_more o es (author, Held oid kind));
  apart = λ first apart. apart_both session first es ((author, Held oid kind) ∷ []) apart (tt, tt);
}

pub pass_dropped : (o : Opened) (session : ℕ) (es : List Event) (author oid : ℕ) → Passes o session es (es ++ (author, Dropped oid) ∷ [])
pass_dropped o session es author oid = record {
  extends = ((author, Dropped oid) ∷ [], refl);
  counter = ap (λ (s : Standing). next_counter s session) (after_one_more o es (author, Dropped oid));
  apart = λ first apart. apart_both session first es ((author, Dropped oid) ∷ []) apart (tt, tt);
}

-- a checkpoint, or a failure of the disk
pub pass_checked : (o : Opened) (session : ℕ) (es : List Event) (author : ℕ) → Passes o session es (es ++ (author, Checked) ∷ [])
pass_checked o session es author = record {
  extends = ((author, Checked) ∷ [], refl);
  counter = ap (λ (s : Standing). next_counter s session) (after_one_more o es (author, Checked));
  apart = λ first apart. apart_both session first es ((author, Checked) ∷ []) apart (tt, tt);
}

pub pass_halted : (o : Opened) (session : ℕ) (es : List Event) (author number : ℕ) (entry : Option Entry)
    → Passes o session es (es ++ (author, Halted number entry) ∷ [])
pass_halted o session es author number entry = record {
  extends = ((author, Halted number entry) ∷ [], refl);
  counter = ap (λ (s : Standing). next_counter s session) (after_one_more o es (author, Halted number entry));
  apart = λ first apart. apart_both session first es ((author, Halted number entry) ∷ []) apart (tt, tt);
}

-- an image that there was stays
pub view_when : (o : Opened) (es es' : List Event) (view : ℕ) → Extends es es' → o.number ≤ view → view ≤ (after_events o es).number
    → image_at (after_events o es') view ≡ image_at (after_events o es) view
view_when o es es' view more from to =
    ap (λ x. image_at (after_events o x) view) more.1 ∙ views_stay o es more.0 view from to
