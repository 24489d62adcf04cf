-- What is stored after the events of a Stone, while the disk hasn't failed.
use Rattle.std.specs.Prelude.{ℕ, ◌+◌, List, [], ◌∷◌}
use Rattle.gem_record.specs.declared.record.Entry.{Entry}
use Rattle.gem_record.specs.declared.effect.Effect.{Effect}
use Rattle.gem_record.specs.Effects.{log_record_size}
use Rattle.gem_record.specs.Stored.{Stored, longer_by, pages_needed, after_checkpoint}
use Rattle.gem_meaning.specs.declared.event.What.TheVariants.{Placed, Checked}
use Rattle.gem_meaning.specs.Opened.{Opened}
use Rattle.gem_meaning.specs.Events.{Event, Standing, before_events, after_event, after_events, effect_of}

-- the bytes in the log of the commit that is placed here
unfoldable pub record_size : Opened → Standing → Entry → ℕ
record_size o s e = log_record_size (record { number = s.number + 1; objects = effect_of o s e })

-- what is stored after one event, where this stood before it
abbrev pub stored_with : Opened → Standing → Stored → Event → Stored
stored_with o s stored (session, Placed e) = longer_by (record_size o s e) stored
stored_with o s stored (session, Checked) = after_checkpoint o.counts_pages s.image s.number
stored_with o s stored (session, _) = stored

-- what is stored after these events, where this stood before them
abbrev pub stored_from : Opened → Standing → Stored → List Event → Stored
stored_from o s stored [] = stored
stored_from o s stored (event ∷ events) =
    stored_from o (after_event o s event) (stored_with o s stored event) events

-- what is stored after these events since the opening
unfoldable pub stored_after : Opened → List Event → Stored
stored_after o events = stored_from o (before_events o) o.stored events

-- the log's length after these events
abbrev pub log_after : Opened → List Event → ℕ
log_after o events = (stored_after o events).log_length

-- the pages of a checkpoint that is made after these events
abbrev pub pages_after : Opened → List Event → ℕ
pages_after o events =
    pages_needed o.counts_pages (stored_after o events) (after_events o events).image
