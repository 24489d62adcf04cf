use Rattle.std.proofs.Common.{IsTrue, ◌≡◌, ◌+◌, ◌<◌, ◌^◌, ℕ, List, [], ◌∷◌, ◌++◌, length, All, Some, sym, ap, ap₂, subst, ◌∙◌, le_refl, arith}
use Rattle.std.specs.Vec.{vec_capacity}
use Rattle.gem_object.specs.Spelling.{IsSpelled}
use Rattle.gem_object.specs.declared.object.Object.{Object}
use Rattle.gem_image.specs.Image.{Image, IsImage, with_objects}
use Rattle.commit_check.specs.Conflicts.{merged_objects}
use Rattle.gem_meaning.specs.declared.event.What.TheVariants.{Placed, Halted}
use Rattle.gem_meaning.specs.Effect.{MergesFit, effect_at}
use Rattle.gem_meaning.specs.Events.{told_more, standing, conflicts_at, IsRunning}
use Rattle.gem_meaning.specs.Serial.{IsRecorded}
use Rattle.gem_record.specs.History.{entry_of}
use Rattle.history_laws.proofs.Views.{number_at_least}
use Rattle.stone_core.specs.declared.port.CommitAnswer.TheVariants.{LogFull, Placed as PlacedAt}
use Rattle.stone_core.specs.Port.{MayPlace, AnswerFits}
use Rattle.stone_core.specs.Stone.{IsStone}
use Rattle.stone_core.specs.Kept.{Kept}
use Rattle.stone_core.specs.Inside.{told_by}
use Rattle.gem_keeper.specs.Crashes.{KeepsOnly}
use Rattle.stone_core.specs.Crashes.{MayBeLeftDuring}
use Rattle.stone_core.proofs.Keeps.{kept_placed, kept_flying, held_placed, held_flying, may_place, is_full}
use Rattle.stone_core.proofs.OneMore.{placed_stone, halted_stone, size_is, record_size_is, effect_is, commit_consistent, effect_has_spelling}
use Rattle.stone_core.proofs.Spelled.{effect_made, nodes_bound}
use Rattle.stone_core.proofs.StoredEffect.{next_body}
use Rattle.stone_core.proofs.stone.Stone.place.Goals as goal

pub overflow_add-number : goal.overflow_add-number
overflow_add-number g c = let small = c.self.invariant.0.small in omega (arith, small)

pub next_image-requires : goal.next_image-requires
next_image-requires g c =
    let inside = c.self.inside in
    let done = c.args.done.now in
    let merged_is = c.requires.merged ∙ ap (λ (k : Kept _). merged_objects (standing k.told).image done) (sym c.self.view_is)
    ∙ ap (λ (i : Image). merged_objects i done) (sym c.self.invariant.0.image_is) in
    let made = effect_made inside.image (inside.number + 1) done c.args.merged c.in_ok-effect.effect.objects merged_is c.in_ok-effect.ensures.objects in
    let t = told_by g.K.Keeper.counts_pages g.K.Keeper.stored inside in
    let stone = c.self.invariant.0 in
    let running = subst (λ (k : Kept _). IsRunning k.told.events) (sym c.self.view_is) c.requires.running in
    let recorded = subst (λ (k : Kept _). IsRecorded k.told done) (sym c.self.view_is) c.requires.recorded in
    let none = subst (λ (k : Kept _). conflicts_at (standing k.told) done ≡ []) (sym c.self.view_is) c.requires.no_conflict in
    let fit = subst (λ (k : Kept _). MergesFit (standing k.told).image done) (sym c.self.view_is) c.requires.fit in
    let placed = c.placed_as_recorded.ensures.placed t done stone.opening stone.consistent.serial running recorded none fit in
    let effect = c.placed_as_recorded.ensures.effect t done stone.opening stone.consistent.serial recorded none in
    let consistent = commit_consistent t inside.image inside.number inside.locks inside.history.items _ stone done recorded placed effect in
    let more = told_more t ((done.session, Placed (entry_of done)) ∷ []) in
    subst (λ (list : List (ℕ × Object)). All (λ entry. IsSpelled entry.1) list) (sym made)
    (effect_has_spelling t inside.image inside.number inside.locks inside.history.items _ stone done recorded placed effect
    (c.images_are_sound.ensures.image more (standing more).number stone.opening consistent.serial
    (number_at_least t.opened more.events) (le_refl (standing more).number)))

pub append-requires-clause-spelled : goal.append-requires-clause-spelled
append-requires-clause-spelled g c =
    (c.args.done.now.mode, c.in_ok-effect.effect, c.deref.ensures.value ∙ c.in_ok-body.ensures.body)

pub append-requires-clause-next : goal.append-requires-clause-next
append-requires-clause-next g c =
    let inside = c.self.inside in
    let done = c.args.done.now in
    let t = told_by g.K.Keeper.counts_pages g.K.Keeper.stored inside in
    let stone = c.self.invariant.0 in
    let merged_is = c.requires.merged ∙ ap (λ (k : Kept _). merged_objects (standing k.told).image done) (sym c.self.view_is)
    ∙ ap (λ (i : Image). merged_objects i done) (sym c.self.invariant.0.image_is) in
    let made = effect_made inside.image (inside.number + 1) done c.args.merged c.in_ok-effect.effect.objects merged_is c.in_ok-effect.ensures.objects in
    let running = subst (λ (k : Kept _). IsRunning k.told.events) (sym c.self.view_is) c.requires.running in
    let small : inside.number + 1 < 2 ^ 63 = let below = c.if-number-ge-NUMBER_LIMIT.false in omega (arith, below) in
    let is_image = subst IsImage (c.image.view_is ∙ c.in_ok-image.ensures.image ∙ ap (with_objects inside.image) made) c.image.invariant in
    let next = next_body t inside.image inside.number done c.in_ok-effect.effect c.deref.result.now stone.number_is small
    c.in_ok-effect.ensures.number made c.in_ok-body.ensures.some is_image (c.deref.ensures.value ∙ c.in_ok-body.ensures.body)
    (ap length c.deref.ensures.value ∙ c.in_ok-body.ensures.size) in
    λ told. ((standing t).image, (standing t).number, c.in_ok-effect.effect, c.self.invariant.1.kept.now told running, next)

pub returns-in_err-image-clause-nodes : goal.returns-in_err-image-clause-nodes
returns-in_err-image-clause-nodes g c =
    nodes_bound (told_by g.K.Keeper.counts_pages g.K.Keeper.stored c.self.inside) c.args.self.now.told c.self.inside.image c.self.inside.number c.args.done.now c.args.merged
    c.in_ok-effect.effect.objects _ _ (ap (λ (k : Kept _). k.told) c.self.view_is) c.self.invariant.0.image_is c.self.invariant.0.number_is c.requires.merged
    c.in_ok-effect.ensures.objects c.next_image.ensures.nodes

pub returns-in_err-reserve-clause-nodes : goal.returns-in_err-reserve-clause-nodes
returns-in_err-reserve-clause-nodes g c =
    nodes_bound (told_by g.K.Keeper.counts_pages g.K.Keeper.stored c.self.inside) c.args.self.now.told c.self.inside.image c.self.inside.number c.args.done.now c.args.merged
    c.in_ok-effect.effect.objects _ _ (ap (λ (k : Kept _). k.told) c.self.view_is) c.self.invariant.0.image_is c.self.invariant.0.number_is c.requires.merged
    c.in_ok-effect.ensures.objects c.next_image.ensures.nodes

pub returns-in_err-reserve-2-clause-nodes : goal.returns-in_err-reserve-2-clause-nodes
returns-in_err-reserve-2-clause-nodes g c =
    nodes_bound (told_by g.K.Keeper.counts_pages g.K.Keeper.stored c.self.inside) c.args.self.now.told c.self.inside.image c.self.inside.number c.args.done.now c.args.merged
    c.in_ok-effect.effect.objects _ _ (ap (λ (k : Kept _). k.told) c.self.view_is) c.self.invariant.0.image_is c.self.invariant.0.number_is c.requires.merged
    c.in_ok-effect.ensures.objects c.next_image.ensures.nodes

pub returns-clause-nodes : goal.returns-clause-nodes
returns-clause-nodes g c =
    nodes_bound (told_by g.K.Keeper.counts_pages g.K.Keeper.stored c.self.inside) c.args.self.now.told c.self.inside.image c.self.inside.number c.args.done.now c.args.merged
    c.in_ok-effect.effect.objects _ _ (ap (λ (k : Kept _). k.told) c.self.view_is) c.self.invariant.0.image_is c.self.invariant.0.number_is c.requires.merged
    c.in_ok-effect.ensures.objects c.next_image.ensures.nodes

pub invariant_of-self-in-Ok : goal.invariant_of-self-in-Ok
invariant_of-self-in-Ok g c =
    let inside = c.self.inside in
    let done = c.args.done.now in
    let t = told_by g.K.Keeper.counts_pages g.K.Keeper.stored inside in
    let stone = c.self.invariant.0 in
    let merged_is = c.requires.merged ∙ ap (λ (k : Kept _). merged_objects (standing k.told).image done) (sym c.self.view_is)
    ∙ ap (λ (i : Image). merged_objects i done) (sym c.self.invariant.0.image_is) in
    let made = effect_made inside.image (inside.number + 1) done c.args.merged c.in_ok-effect.effect.objects merged_is c.in_ok-effect.ensures.objects in
    let running = subst (λ (k : Kept _). IsRunning k.told.events) (sym c.self.view_is) c.requires.running in
    let recorded = subst (λ (k : Kept _). IsRecorded k.told done) (sym c.self.view_is) c.requires.recorded in
    let none = subst (λ (k : Kept _). conflicts_at (standing k.told) done ≡ []) (sym c.self.view_is) c.requires.no_conflict in
    let fit = subst (λ (k : Kept _). MergesFit (standing k.told).image done) (sym c.self.view_is) c.requires.fit in
    let placed = c.placed_as_recorded.ensures.placed t done stone.opening stone.consistent.serial running recorded none fit in
    let effect = c.placed_as_recorded.ensures.effect t done stone.opening stone.consistent.serial recorded none in
    let size = ap length c.deref.ensures.value
    ∙ size_is t inside.image inside.number inside.locks inside.history.items _ stone done c.in_ok-effect.effect _ made c.in_ok-body.ensures.size in
    let length_is = inside.events.ok.0 in
    let counted = c.count.ensures in
    let reserved = c.in_ok-reserve-2.ensures.ok in
    let kept = c.in_ok-reserve-2.ensures.len in
    let grown = c.in-Ok-push.ensures.capacity in
    let image_is : c.in_ok-image.image ≡ with_objects inside.image (effect_at inside.image (inside.number + 1) done) =
    c.in_ok-image.ensures.image ∙ ap (with_objects inside.image) made in
    let entries_are : c.push-in-Ok.new.self.items ≡ inside.history.items ++ entry_of done ∷ [] =
    c.in-Ok-push-2.ensures.items ∙ ap₂ (λ entries e. entries ++ e ∷ []) c.in_ok-reserve.ensures.items c.entry-in-Ok.ensures in
    let events_are : c.push.new.self.items ≡ inside.events.items ++ (done.session, Placed (entry_of done)) ∷ [] =
    c.in-Ok-push.ensures.items ∙ ap₂ (λ events e. events ++ (done.session, Placed e) ∷ []) c.in_ok-reserve-2.ensures.items c.entry.ensures in
    let small : inside.number + 1 < 2 ^ 63 = let below = c.if-number-ge-NUMBER_LIMIT.false in omega (arith, below) in
    let is_image = subst IsImage (c.image.view_is ∙ c.in_ok-image.ensures.image ∙ ap (with_objects inside.image) made) c.image.invariant in
    let next = next_body t inside.image inside.number done c.in_ok-effect.effect c.deref.result.now stone.number_is small
    c.in_ok-effect.ensures.number made c.in_ok-body.ensures.some is_image (c.deref.ensures.value ∙ c.in_ok-body.ensures.body)
    (ap length c.deref.ensures.value ∙ c.in_ok-body.ensures.size) in
    let objects_are = made ∙ effect_is t inside.image inside.number inside.locks inside.history.items _ stone done recorded placed effect in (
      placed_stone t inside.image inside.number inside.locks inside.history.items _ stone done recorded placed effect
          c.in_ok-image.image _ _ _ image_is small entries_are events_are
          (omega (arith, length_is, counted, reserved, kept, grown)),
      kept_placed t inside.halted inside.started.value inside.keeper c.self.invariant.1 _ done.session (entry_of done) c.in_ok-effect.effect _ _
          events_are running c.in-Ok.ensures.later c.in-Ok.ensures.ready c.in-Ok.ensures.stored
          (size ∙ sym (record_size_is t inside.image inside.number inside.locks inside.history.items _ stone done recorded placed effect))
          objects_are
          (λ told. c.in-Ok.ensures.acknowledged (standing t).image (standing t).number c.in_ok-effect.effect told
          (c.self.invariant.1.kept.now told running) next)
          (λ told. c.in-Ok.ensures.any_moment (standing t).image (standing t).number c.in_ok-effect.effect told
          (c.self.invariant.1.kept.now told running) next),
    )

pub returns-in-Ok-clause-events : goal.returns-in-Ok-clause-events
returns-in-Ok-clause-events g c =
    let inside = c.self.inside in
    let done = c.args.done.now in
    let t = told_by g.K.Keeper.counts_pages g.K.Keeper.stored inside in
    let events_are : c.push.new.self.items ≡ inside.events.items ++ (done.session, Placed (entry_of done)) ∷ [] =
    c.in-Ok-push.ensures.items ∙ ap₂ (λ events e. events ++ (done.session, Placed e) ∷ []) c.in_ok-reserve-2.ensures.items c.entry.ensures in
    ap (λ es. record t { events = es }) events_are
    ∙ ap (λ (k : Kept _). told_more k.told ((done.session, Placed (entry_of done)) ∷ [])) c.self.view_is

pub returns-in-Ok-clause-answer : goal.returns-in-Ok-clause-answer
returns-in-Ok-clause-answer g c =
    let inside = c.self.inside in
    let done = c.args.done.now in
    let t = told_by g.K.Keeper.counts_pages g.K.Keeper.stored inside in
    let stone = c.self.invariant.0 in
    let merged_is = c.requires.merged ∙ ap (λ (k : Kept _). merged_objects (standing k.told).image done) (sym c.self.view_is)
    ∙ ap (λ (i : Image). merged_objects i done) (sym c.self.invariant.0.image_is) in
    let made = effect_made inside.image (inside.number + 1) done c.args.merged c.in_ok-effect.effect.objects merged_is c.in_ok-effect.ensures.objects in
    let running = subst (λ (k : Kept _). IsRunning k.told.events) (sym c.self.view_is) c.requires.running in
    let none = subst (λ (k : Kept _). conflicts_at (standing k.told) done ≡ []) (sym c.self.view_is) c.requires.no_conflict in
    let size = ap length c.deref.ensures.value
    ∙ size_is t inside.image inside.number inside.locks inside.history.items _ stone done c.in_ok-effect.effect _ made c.in_ok-body.ensures.size in
    subst (λ (k : Kept _). AnswerFits k.told.opened k.told.events done (PlacedAt (inside.number + 1))) c.self.view_is (
      may_place t inside.halted inside.started.value inside.keeper c.self.invariant.1 done running c.requires.changed none _ size
          c.in-Ok.ensures.fits,
      ap (λ (n : ℕ). n + 1) stone.number_is,
    )

pub returns-in-Ok-clause-holding : goal.returns-in-Ok-clause-holding
returns-in-Ok-clause-holding g c =
    let inside = c.self.inside in
    let done = c.args.done.now in
    let t = told_by g.K.Keeper.counts_pages g.K.Keeper.stored inside in
    let stone = c.self.invariant.0 in
    let merged_is = c.requires.merged ∙ ap (λ (k : Kept _). merged_objects (standing k.told).image done) (sym c.self.view_is)
    ∙ ap (λ (i : Image). merged_objects i done) (sym c.self.invariant.0.image_is) in
    let made = effect_made inside.image (inside.number + 1) done c.args.merged c.in_ok-effect.effect.objects merged_is c.in_ok-effect.ensures.objects in
    let running = subst (λ (k : Kept _). IsRunning k.told.events) (sym c.self.view_is) c.requires.running in
    let recorded = subst (λ (k : Kept _). IsRecorded k.told done) (sym c.self.view_is) c.requires.recorded in
    let none = subst (λ (k : Kept _). conflicts_at (standing k.told) done ≡ []) (sym c.self.view_is) c.requires.no_conflict in
    let fit = subst (λ (k : Kept _). MergesFit (standing k.told).image done) (sym c.self.view_is) c.requires.fit in
    let placed = c.placed_as_recorded.ensures.placed t done stone.opening stone.consistent.serial running recorded none fit in
    let effect = c.placed_as_recorded.ensures.effect t done stone.opening stone.consistent.serial recorded none in
    let events_are : c.push.new.self.items ≡ inside.events.items ++ (done.session, Placed (entry_of done)) ∷ [] =
    c.in-Ok-push.ensures.items ∙ ap₂ (λ events e. events ++ (done.session, Placed e) ∷ []) c.in_ok-reserve-2.ensures.items c.entry.ensures in
    let small : inside.number + 1 < 2 ^ 63 = let below = c.if-number-ge-NUMBER_LIMIT.false in omega (arith, below) in
    let is_image = subst IsImage (c.image.view_is ∙ c.in_ok-image.ensures.image ∙ ap (with_objects inside.image) made) c.image.invariant in
    let next = next_body t inside.image inside.number done c.in_ok-effect.effect c.deref.result.now stone.number_is small
    c.in_ok-effect.ensures.number made c.in_ok-body.ensures.some is_image (c.deref.ensures.value ∙ c.in_ok-body.ensures.body)
    (ap length c.deref.ensures.value ∙ c.in_ok-body.ensures.size) in
    let objects_are = made ∙ effect_is t inside.image inside.number inside.locks inside.history.items _ stone done recorded placed effect in
    subst (λ (k : Kept _). IsTrue g.K.Keeper.tells → KeepsOnly g.K.Keeper.moment g.K.Keeper.left_since k.keeper c.append.new.self
    (MayBeLeftDuring k.told.opened k.told.events c.push.new.self.items)) c.self.view_is
    (λ told. held_placed t inside.halted inside.started.value inside.keeper c.self.invariant.1 _ done.session (entry_of done)
    c.in_ok-effect.effect _ events_are objects_are
    (c.in-Ok.ensures.any_moment (standing t).image (standing t).number c.in_ok-effect.effect told
    (c.self.invariant.1.kept.now told running) next))

pub returns-in-Ok-clause-nodes : goal.returns-in-Ok-clause-nodes
returns-in-Ok-clause-nodes g c = nodes_bound (told_by g.K.Keeper.counts_pages g.K.Keeper.stored c.self.inside) c.args.self.now.told c.self.inside.image c.self.inside.number c.args.done.now c.args.merged
    c.in_ok-effect.effect.objects _ _ (ap (λ (k : Kept _). k.told) c.self.view_is) c.self.invariant.0.image_is c.self.invariant.0.number_is c.requires.merged
    c.in_ok-effect.ensures.objects c.next_image.ensures.nodes

pub returns-in-Err-Full-clause-answer : goal.returns-in-Err-Full-clause-answer
returns-in-Err-Full-clause-answer g c =
    let inside = c.self.inside in
    let done = c.args.done.now in
    let t = told_by g.K.Keeper.counts_pages g.K.Keeper.stored inside in
    let stone = c.self.invariant.0 in
    let merged_is = c.requires.merged ∙ ap (λ (k : Kept _). merged_objects (standing k.told).image done) (sym c.self.view_is)
    ∙ ap (λ (i : Image). merged_objects i done) (sym c.self.invariant.0.image_is) in
    let made = effect_made inside.image (inside.number + 1) done c.args.merged c.in_ok-effect.effect.objects merged_is c.in_ok-effect.ensures.objects in
    let running = subst (λ (k : Kept _). IsRunning k.told.events) (sym c.self.view_is) c.requires.running in
    let none = subst (λ (k : Kept _). conflicts_at (standing k.told) done ≡ []) (sym c.self.view_is) c.requires.no_conflict in
    let size = ap length c.deref.ensures.value
    ∙ size_is t inside.image inside.number inside.locks inside.history.items _ stone done c.in_ok-effect.effect _ made c.in_ok-body.ensures.size in
    let fault = rw c.in-Err-Full.field-0-is at c.in-Err-Full.ensures.fault in
    subst (λ (k : Kept _). AnswerFits k.told.opened k.told.events done (LogFull c.in-Err-Full.length c.in-Err-Full.size)) c.self.view_is
    (is_full t inside.halted inside.started.value inside.keeper c.self.invariant.1 done running c.requires.changed none _
    c.in-Err-Full.length c.in-Err-Full.size size fault.0 fault.1 fault.2)

pub returns-in-Err-Full-clause-nodes : goal.returns-in-Err-Full-clause-nodes
returns-in-Err-Full-clause-nodes g c = nodes_bound (told_by g.K.Keeper.counts_pages g.K.Keeper.stored c.self.inside) c.args.self.now.told c.self.inside.image c.self.inside.number c.args.done.now c.args.merged
    c.in_ok-effect.effect.objects _ _ (ap (λ (k : Kept _). k.told) c.self.view_is) c.self.invariant.0.image_is c.self.invariant.0.number_is c.requires.merged
    c.in_ok-effect.ensures.objects c.next_image.ensures.nodes

pub invariant_of-self-in-Err-Disk : goal.invariant_of-self-in-Err-Disk
invariant_of-self-in-Err-Disk g c =
    let inside = c.self.inside in
    let done = c.args.done.now in
    let t = told_by g.K.Keeper.counts_pages g.K.Keeper.stored inside in
    let stone = c.self.invariant.0 in
    let merged_is = c.requires.merged ∙ ap (λ (k : Kept _). merged_objects (standing k.told).image done) (sym c.self.view_is)
    ∙ ap (λ (i : Image). merged_objects i done) (sym c.self.invariant.0.image_is) in
    let made = effect_made inside.image (inside.number + 1) done c.args.merged c.in_ok-effect.effect.objects merged_is c.in_ok-effect.ensures.objects in
    let running = subst (λ (k : Kept _). IsRunning k.told.events) (sym c.self.view_is) c.requires.running in
    let recorded = subst (λ (k : Kept _). IsRecorded k.told done) (sym c.self.view_is) c.requires.recorded in
    let none = subst (λ (k : Kept _). conflicts_at (standing k.told) done ≡ []) (sym c.self.view_is) c.requires.no_conflict in
    let fit = subst (λ (k : Kept _). MergesFit (standing k.told).image done) (sym c.self.view_is) c.requires.fit in
    let placed = c.placed_as_recorded.ensures.placed t done stone.opening stone.consistent.serial running recorded none fit in
    let effect = c.placed_as_recorded.ensures.effect t done stone.opening stone.consistent.serial recorded none in
    let length_is = inside.events.ok.0 in
    let counted = c.count.ensures in
    let reserved = c.in_ok-reserve-2.ensures.ok in
    let kept = c.in_ok-reserve-2.ensures.len in
    let grown = c.in-Ok-push-3.ensures.capacity in
    let events_are : c.push-in-Err-Disk.new.self.items
    ≡ inside.events.items ++ (done.session, Halted (inside.number + 1) (Some (entry_of done))) ∷ [] =
    c.in-Ok-push-3.ensures.items ∙ ap₂ (λ events e. events ++ (done.session, Halted (inside.number + 1) (Some e)) ∷ [])
    c.in_ok-reserve-2.ensures.items c.entry-in-Err-Disk.ensures in
    let small : inside.number + 1 < 2 ^ 63 = let below = c.if-number-ge-NUMBER_LIMIT.false in omega (arith, below) in
    let is_image = subst IsImage (c.image.view_is ∙ c.in_ok-image.ensures.image ∙ ap (with_objects inside.image) made) c.image.invariant in
    let next = next_body t inside.image inside.number done c.in_ok-effect.effect c.deref.result.now stone.number_is small
    c.in_ok-effect.ensures.number made c.in_ok-body.ensures.some is_image (c.deref.ensures.value ∙ c.in_ok-body.ensures.body)
    (ap length c.deref.ensures.value ∙ c.in_ok-body.ensures.size) in
    let objects_are = made ∙ effect_is t inside.image inside.number inside.locks inside.history.items _ stone done recorded placed effect in
    let fault = rw c.in-Err-Disk.field-0-is at c.in-Err-Disk.ensures.fault in (
      subst (λ entries. IsStone (record t { events = c.push-in-Err-Disk.new.self.items }) inside.image inside.number inside.locks
          entries (vec_capacity c.push-in-Err-Disk.new.self))
          (sym c.in_ok-reserve.ensures.items)
          (halted_stone t inside.image inside.number inside.locks inside.history.items _ stone done recorded placed effect _ _ events_are
          (omega (arith, length_is, counted, reserved, kept, grown))),
      kept_flying t inside.halted inside.started.value inside.keeper c.self.invariant.1 _ done.session (inside.number + 1) (entry_of done)
          c.in_ok-effect.effect _ events_are running c.in-Err-Disk.ensures.later fault.1 objects_are
          (λ told. c.in-Err-Disk.ensures.any_moment (standing t).image (standing t).number c.in_ok-effect.effect told
          (c.self.invariant.1.kept.now told running) next),
    )

pub returns-clause-events : goal.returns-clause-events
returns-clause-events g c =
    let inside = c.self.inside in
    let done = c.args.done.now in
    let t = told_by g.K.Keeper.counts_pages g.K.Keeper.stored inside in
    let events_are : c.push-in-Err-Disk.new.self.items
    ≡ inside.events.items ++ (done.session, Halted (inside.number + 1) (Some (entry_of done))) ∷ [] =
    c.in-Ok-push-3.ensures.items ∙ ap₂ (λ events e. events ++ (done.session, Halted (inside.number + 1) (Some e)) ∷ [])
    c.in_ok-reserve-2.ensures.items c.entry-in-Err-Disk.ensures in
    ap (λ es. record t { events = es }) events_are
    ∙ (ap (λ (n : ℕ). told_more t ((done.session, Halted (n + 1) (Some (entry_of done))) ∷ [])) c.self.invariant.0.number_is
    ∙ ap (λ (k : Kept _). told_more k.told ((done.session, Halted ((standing k.told).number + 1) (Some (entry_of done))) ∷ []))
    c.self.view_is)

pub returns-clause-answer : goal.returns-clause-answer
returns-clause-answer g c =
    let inside = c.self.inside in
    let done = c.args.done.now in
    let t = told_by g.K.Keeper.counts_pages g.K.Keeper.stored inside in
    let stone = c.self.invariant.0 in
    let merged_is = c.requires.merged ∙ ap (λ (k : Kept _). merged_objects (standing k.told).image done) (sym c.self.view_is)
    ∙ ap (λ (i : Image). merged_objects i done) (sym c.self.invariant.0.image_is) in
    let made = effect_made inside.image (inside.number + 1) done c.args.merged c.in_ok-effect.effect.objects merged_is c.in_ok-effect.ensures.objects in
    let running = subst (λ (k : Kept _). IsRunning k.told.events) (sym c.self.view_is) c.requires.running in
    let none = subst (λ (k : Kept _). conflicts_at (standing k.told) done ≡ []) (sym c.self.view_is) c.requires.no_conflict in
    let size = ap length c.deref.ensures.value
    ∙ size_is t inside.image inside.number inside.locks inside.history.items _ stone done c.in_ok-effect.effect _ made c.in_ok-body.ensures.size in
    let fault = rw c.in-Err-Disk.field-0-is at c.in-Err-Disk.ensures.fault in
    subst (λ (k : Kept _). MayPlace k.told.opened k.told.events done) c.self.view_is
    (may_place t inside.halted inside.started.value inside.keeper c.self.invariant.1 done running c.requires.changed none _ size fault.0)

pub returns-clause-holding : goal.returns-clause-holding
returns-clause-holding g c =
    let inside = c.self.inside in
    let done = c.args.done.now in
    let t = told_by g.K.Keeper.counts_pages g.K.Keeper.stored inside in
    let stone = c.self.invariant.0 in
    let merged_is = c.requires.merged ∙ ap (λ (k : Kept _). merged_objects (standing k.told).image done) (sym c.self.view_is)
    ∙ ap (λ (i : Image). merged_objects i done) (sym c.self.invariant.0.image_is) in
    let made = effect_made inside.image (inside.number + 1) done c.args.merged c.in_ok-effect.effect.objects merged_is c.in_ok-effect.ensures.objects in
    let running = subst (λ (k : Kept _). IsRunning k.told.events) (sym c.self.view_is) c.requires.running in
    let recorded = subst (λ (k : Kept _). IsRecorded k.told done) (sym c.self.view_is) c.requires.recorded in
    let none = subst (λ (k : Kept _). conflicts_at (standing k.told) done ≡ []) (sym c.self.view_is) c.requires.no_conflict in
    let fit = subst (λ (k : Kept _). MergesFit (standing k.told).image done) (sym c.self.view_is) c.requires.fit in
    let placed = c.placed_as_recorded.ensures.placed t done stone.opening stone.consistent.serial running recorded none fit in
    let effect = c.placed_as_recorded.ensures.effect t done stone.opening stone.consistent.serial recorded none in
    let events_are : c.push-in-Err-Disk.new.self.items
    ≡ inside.events.items ++ (done.session, Halted (inside.number + 1) (Some (entry_of done))) ∷ [] =
    c.in-Ok-push-3.ensures.items ∙ ap₂ (λ events e. events ++ (done.session, Halted (inside.number + 1) (Some e)) ∷ [])
    c.in_ok-reserve-2.ensures.items c.entry-in-Err-Disk.ensures in
    let small : inside.number + 1 < 2 ^ 63 = let below = c.if-number-ge-NUMBER_LIMIT.false in omega (arith, below) in
    let is_image = subst IsImage (c.image.view_is ∙ c.in_ok-image.ensures.image ∙ ap (with_objects inside.image) made) c.image.invariant in
    let next = next_body t inside.image inside.number done c.in_ok-effect.effect c.deref.result.now stone.number_is small
    c.in_ok-effect.ensures.number made c.in_ok-body.ensures.some is_image (c.deref.ensures.value ∙ c.in_ok-body.ensures.body)
    (ap length c.deref.ensures.value ∙ c.in_ok-body.ensures.size) in
    let objects_are = made ∙ effect_is t inside.image inside.number inside.locks inside.history.items _ stone done recorded placed effect in
    subst (λ (k : Kept _). IsTrue g.K.Keeper.tells → KeepsOnly g.K.Keeper.moment g.K.Keeper.left_since k.keeper c.append.new.self
    (MayBeLeftDuring k.told.opened k.told.events c.push-in-Err-Disk.new.self.items)) c.self.view_is
    (λ told. held_flying t inside.halted inside.started.value inside.keeper c.self.invariant.1 _ done.session (inside.number + 1)
    (entry_of done) c.in_ok-effect.effect _ events_are objects_are
    (c.in-Err-Disk.ensures.any_moment (standing t).image (standing t).number c.in_ok-effect.effect told
    (c.self.invariant.1.kept.now told running) next))
