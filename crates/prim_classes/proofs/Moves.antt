-- How an object is put into another segment.
use Rattle.std.proofs.Common.{◌≡◌, refl, sym, ap, ◌∙◌, subst, ℕ, Bool, Result, Ok, Err}
use Rattle.std.specs.Result.{IsErrAnd}
use Rattle.gem_object.specs.texts.Bytes.{Bytes as Text}
use Rattle.gem_object.specs.seg_rights.declared.rights.Rights.{Rights}
use Rattle.gem_object.specs.declared.body.Body.{Body}
use Rattle.gem_object.specs.declared.body.Body.TheVariants as body
use Rattle.gem_image.specs.Image.{Contents}
use Rattle.object_programs.specs.gem_world.World.{Setting, is_made}
use Rattle.prim_parts.specs.tree_meaning.Place.{MadeBlock}
use Rattle.object_programs.specs.Atom.{Made, Move}
use Rattle.object_programs.specs.Run.{Run, atom, and_then}
use Rattle.object_programs.specs.Programs.{check}
use Rattle.object_programs.specs.declared.fault.Fault.TheVariants as fault
use Rattle.running_objects.specs.Seen.{Seen, object_at}
use Rattle.running_objects.specs.Acted.{Acted, Owned}
use Rattle.running_objects.specs.declared.stop.Stop.{Stop}
use Rattle.running_objects.proofs.Running.{acted_says}
use Rattle.prim_parts.specs.Does.{Does, Computes}
use Rattle.prim_parts.proofs.Does.{does_then, does_atom, does_who, does_compute}
use Rattle.gem_object.specs.declared.value.Value.{Value}
use Rattle.gem_object.specs.declared.value.Value.TheVariants.{Nil, False, True, Int, Char, Sym, Ref, Block}
use Rattle.prim_rules.specs.Parts.{check_kind}
use Rattle.prim_rules.specs.Any.{gives_write, move_object, assign_value, assign_rule}
use Rattle.prim_classes.specs.Segments.{movable_by, may_move, check_writer, moved}
use Rattle.prim_classes.specs.declared.segments.Movable.{Movable}
use Rattle.prim_parts.proofs.Onward.{computes_stops}

-- after the profile was looked at
pub writer_then : (name user : ℕ) (rights : Rights Text) (may : Bool) {before between : Seen} {result : Result (Unit {0}) Stop}
    → Owned before (Ok tt) between → user ≡ before.setting.user → may ≡ gives_write rights user (object_at user between)
    → Computes (check (fault.NoWriteRight name) may) result → Does (check_writer name rights) before result between
writer_then name user rights may {before} {between} {result} owned user_is may_is checks =
    let here : user ≡ between.setting.user = user_is ∙ sym (ap (λ (setting : Setting). setting.user) owned.keeps.setting) in
    let At : Bool → Type 0 = λ test. Computes (check (fault.NoWriteRight name) test) result in
    let Of : ℕ → Type 0 = λ one. Does (check (fault.NoWriteRight name) (gives_write rights user (object_at one between))) between result between in
    does_who user user_is (does_then (does_atom owned) (subst Of here (does_compute between (subst At may_is checks))))

made_then : {A : Type 0} (name : ℕ) (made : Bool) (seen : Seen) {after : Seen} {result : Result A Stop} {rest : Bool → Run MadeBlock A}
    → made ≡ is_made name seen.setting seen.world → Does (rest made) seen result after
    → Does (and_then (atom (Made name)) rest) seen result after
made_then {A} name made seen {after} {result} {rest} is does =
    let At : Bool → Type 0 = λ one. Does (rest one) seen result after in
    does_then (does_atom (acted_says (Made name) seen seen (is_made name seen.setting seen.world) refl refl)) (subst At is does)

module _ (name segment : ℕ) (movable : Movable) (made may : Bool) (seen : Seen)
    (made_is : made ≡ is_made name seen.setting seen.world) (may_is : may ≡ may_move movable made) where
  pub moved_stops : {result : Result (Unit {0}) Stop} {ended : Stop} → Computes (check fault.SegmentChange may) (Err ended)
      → IsErrAnd result (λ given. given ≡ ended) → Does (moved name movable segment) seen result seen
  moved_stops {result} {ended} stops exit =
      let At : Bool → Type 0 = λ test. Computes (check fault.SegmentChange test) (Err ended) in
      made_then name made seen made_is (computes_stops (subst At may_is stops) exit)

  pub moved_then : {after : Seen} {result : Result (Unit {0}) Stop} → Computes (check fault.SegmentChange may) (Ok tt)
      → Acted (Move name segment) seen result after → Does (moved name movable segment) seen result after
  moved_then {after} {result} passes acted =
      let At : Bool → Type 0 = λ test. Computes (check fault.SegmentChange test) (Ok tt) in
      made_then name made seen made_is (does_then (does_compute seen (subst At may_is passes)) (does_atom acted))

by_body : (name segment class lies : ℕ) (one : Body) {before after : Seen} {result : Result (Unit {0}) Stop}
    → Does (moved name (movable_by one) segment) before result after
    → Does (move_object name (record { class = class; segment = lies; body = one }) segment) before result after
by_body name segment class lies (body.Plain slots) does = does
by_body name segment class lies (body.Bytes bytes) does = does
by_body name segment class lies (body.Dict pairs) does = does
by_body name segment class lies (body.Class found) does = does
by_body name segment class lies (body.Segment rights) does = does
by_body name segment class lies (body.User user) does = does
by_body name segment class lies (body.Counter counter) does = does
by_body name segment class lies (body.Bag items) does = does
by_body name segment class lies (body.RcDict pairs) does = does
by_body name segment class lies (body.Queue queue) does = does

pub move_then : (name segment : ℕ) (movable : Movable) (object : Contents) {before after : Seen}
    {result : Result (Unit {0}) Stop} → movable ≡ movable_by object.body
    → Does (moved name movable segment) before result after → Does (move_object name object segment) before result after
move_then name segment movable object {before} {after} {result} is does =
    let At : Movable → Type 0 = λ one. Does (moved name one segment) before result after in
    by_body name segment object.class object.segment object.body (subst At is does)

-- a value that is no reference lies in no segment
pub assign_other : (one argument : Value) {before after : Seen} {result : Result (Unit {0}) Stop} → ((name : ℕ) → one ≡ Ref name → ⊥)
    → Does (assign_value argument) before result after → Does (assign_rule one argument) before result after
assign_other Nil argument other does = does
assign_other False argument other does = does
assign_other True argument other does = does
assign_other (Int number) argument other does = does
assign_other (Char code) argument other does = does
assign_other (Sym name) argument other does = does
assign_other (Ref name) argument other does = absurd (other name refl)
assign_other (Block block) argument other does = does

pub kind_same : {class other : ℕ} (one : Value) {before after : Seen} {result : Result (Unit {0}) Stop} → class ≡ other
    → Does (check_kind one class) before result after → Does (check_kind one other) before result after
kind_same {class} {other} one {before} {after} {result} is does =
    let At : ℕ → Type 0 = λ this. Does (check_kind one this) before result after in subst At is does
