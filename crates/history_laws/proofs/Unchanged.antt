-- What no commit has changed since a view is as it was there.
use Rattle.std.proofs.Common.{◌≡◌, ℕ, ◌+◌, ◌≤◌, ◌⊎◌, inl, inr, List, [], ◌∷◌, Some, sym, ap, subst, ◌∙◌, arith}
use Rattle.std.specs.List.{fold}
use Rattle.std.specs.FinMap.{get}
use Rattle.std.proofs.lemmas.Bool.{cases_lt}
use Rattle.gem_meaning.specs.gem_object.declared.object.Object.{Object}
use Rattle.gem_meaning.specs.gem_image.Image.{with_objects}
use Rattle.gem_meaning.specs.gem_record.declared.record.Entry.{Entry}
use Rattle.gem_meaning.specs.commit_check.Conflicts.{changed_of, last_change}
use Rattle.gem_meaning.specs.declared.event.What.TheVariants.{Placed, Held, Dropped, Left, Checked, Halted}
use Rattle.gem_meaning.specs.Opened.{Opened}
use Rattle.gem_meaning.specs.Events.{Event, Standing, image_at, effect_of, record_at_place, after_event, before_events, after_events}
use Rattle.history_laws.proofs.Views.{IsGrown, grown_by, image_stays, image_now}
use Rattle.history_laws.proofs.Effects.{IsChangedBy, after_commit}

-- what stands at a name after a commit: what stood there, or an object that the commit changed
abbrev pub IsPlacedAt : Opened → Standing → Entry → ℕ → Type 0
IsPlacedAt o s e name =
    (get (with_objects s.image (effect_of o s e)) name ≡ get s.image name)
    ⊎ ((object : Object) × (get (with_objects s.image (effect_of o s e)) name ≡ Some object)
    × (object.changed ≡ s.number + 1) × IsChangedBy s.image (record_at_place o s e) name)

pub after_placed : (o : Opened) (s : Standing) (e : Entry) (name : ℕ) → IsPlacedAt o s e name
unfolding effect_of
after_placed o s e name = after_commit s.image (s.number + 1) (record_at_place o s e) name

-- An object whose last change is at most a number is the same in the image of that number.
abbrev pub IsUnchangedSince : Opened → Standing → Type 0
IsUnchangedSince o s = (view name : ℕ) → o.number ≤ view → view ≤ s.number
    → last_change s.image name ≤ view → get s.image name ≡ get (image_at s view) name

module _ (o : Opened) (s : Standing) (session : ℕ) (e : Entry) (grown : IsGrown o s)
    (since : IsUnchangedSince o s) (view name : ℕ) (from : o.number ≤ view) where
  abbrev next : Standing
  next = after_event o s (session, Placed e)

  before_commit : view ≤ s.number → last_change next.image name ≤ view → IsPlacedAt o s e name
      → get next.image name ≡ get (image_at next view) name
  before_commit to old (inl same) =
      same ∙ (since view name from to (subst (λ k. k ≤ view) (ap changed_of same) old)
      ∙ ap (λ image. get image name) (sym (image_stays o s (session, Placed e) view grown from to)))
  before_commit to old (inr found) =
      let changed = found.2 in
      let last : last_change next.image name ≡ found.0.changed = ap changed_of found.1 in
      absurd (omega (arith, changed, last, old, to))

  since_placed : view ≤ s.number + 1 → last_change next.image name ≤ view
      → get next.image name ≡ get (image_at next view) name
  since_placed to old = elim (cases_lt s.number view) [
    | inl later ↦ ap (λ image. get image name) (sym (image_now next view (omega (arith, later, to))))
    | inr older ↦ before_commit older old (after_placed o s e name)
  ]

since_event : (o : Opened) (s : Standing) (event : Event) → IsGrown o s → IsUnchangedSince o s
    → IsUnchangedSince o (after_event o s event)
since_event o s (session, Placed e) grown since view name from to old =
    since_placed o s session e grown since view name from to old
since_event o s (session, Held oid kind) grown since view name from to old =
    since view name from to old
since_event o s (session, Dropped oid) grown since view name from to old =
    since view name from to old
since_event o s (session, Left) grown since view name from to old =
    since view name from to old
since_event o s (session, Checked) grown since view name from to old =
    since view name from to old
since_event o s (session, Halted number entry) grown since view name from to old =
    since view name from to old

since_from : (o : Opened) (s : Standing) (events : List Event) → IsGrown o s → IsUnchangedSince o s
    → IsUnchangedSince o (fold (after_event o) s events)
since_from o s [] grown since = since
since_from o s (e ∷ es) grown since =
    since_from o (after_event o s e) es (grown_by o s e grown) (since_event o s e grown since)

pub unchanged_since : (o : Opened) (events : List Event) → IsUnchangedSince o (after_events o events)
unfolding after_events
unchanged_since o events = since_from o (before_events o) events (omega arith)
    (λ view name from to old. ap (λ image. get image name)
    (sym (image_now (before_events o) view (omega (arith, from, to)))))

-- ---- the numbers of last change

-- each object was last changed by one of the commits that stand
abbrev pub AreNumbered : Standing → Type 0
AreNumbered s = (oid : ℕ) → last_change s.image oid ≤ s.number

numbered_at : (o : Opened) (s : Standing) (e : Entry) (oid : ℕ) → AreNumbered s → IsPlacedAt o s e oid
    → last_change (with_objects s.image (effect_of o s e)) oid ≤ s.number + 1
numbered_at o s e oid old (inl same) =
    let last : last_change (with_objects s.image (effect_of o s e)) oid ≡ last_change s.image oid = ap changed_of same in
    let before = old oid in
    omega (arith, last, before)
numbered_at o s e oid old (inr found) =
    let changed = found.2 in
    let last : last_change (with_objects s.image (effect_of o s e)) oid ≡ found.0.changed = ap changed_of found.1 in
    omega (arith, changed, last)

numbered_event : (o : Opened) (s : Standing) (event : Event) → AreNumbered s
    → AreNumbered (after_event o s event)
numbered_event o s (session, Placed e) old oid = numbered_at o s e oid old (after_placed o s e oid)
numbered_event o s (session, Held name kind) old oid = old oid
numbered_event o s (session, Dropped name) old oid = old oid
numbered_event o s (session, Left) old oid = old oid
numbered_event o s (session, Checked) old oid = old oid
numbered_event o s (session, Halted number entry) old oid = old oid

numbered_from : (o : Opened) (s : Standing) (events : List Event) → AreNumbered s
    → AreNumbered (fold (after_event o) s events)
numbered_from o s [] old = old
numbered_from o s (e ∷ es) old = numbered_from o (after_event o s e) es (numbered_event o s e old)

pub are_numbered : (o : Opened) (events : List Event) → AreNumbered (before_events o)
    → AreNumbered (after_events o events)
unfolding after_events
are_numbered o events first = numbered_from o (before_events o) events first
