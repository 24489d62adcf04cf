-- What `assignToSegment:` asks of its argument.
use Rattle.std.specs.Prelude.{◌≡◌, ℕ, Bool, true, false, Option}
use Rattle.std.proofs.Common.{ap, ◌∙◌}
use Rattle.gem_object.specs.texts.Bytes.{Bytes as Text}
use Rattle.gem_object.specs.seg_rights.declared.rights.Rights.{Rights}
use Rattle.object_programs.specs.gem_image.Image.{Contents}
use Rattle.object_programs.specs.gem_world.World.{Setting, shown, touch}
use Rattle.object_programs.specs.gem_world.Access.{a_read, accessed}
use Rattle.object_programs.specs.Atom.{Own, Who}
use Rattle.object_programs.specs.Run.{atom, and_then, gives, fails, State, Outcome, perform}
use Rattle.object_programs.specs.Programs.{need, check, read}
use Rattle.object_programs.specs.declared.fault.Fault.TheVariants as fault
use Rattle.prim_rules.specs.Parts.{segment_in}
use Rattle.prim_rules.specs.Any.{gives_write, check_segment}
use Rattle.prim_rules.specs.Worked.{NoBlocks, after, MayAccess, segment_of}
use Rattle.prim_rules.proofs.Performed.{goes_on, access_gives}
use Rattle.prim_rules.proofs.Pairs.{shown_after_read}

-- the segment is read, and its rights decide with the user's profile
segment_asked : (name : ℕ) (rights : Rights Text) (setting : Setting) (state : State NoBlocks)
    → MayAccess a_read name (segment_of name rights) setting state.world
    → (may : Bool)
    → gives_write rights setting.user (shown setting.user setting state.world) ≡ may
    → perform (check_segment name) setting state
    ≡ perform (check (fault.NoWriteRight name) may) setting (record state {
      world = touch setting.user setting (accessed a_read name setting state.world);
    })
segment_asked name rights setting state access may given =
    goes_on (read name) (λ object.
    and_then (need fault.ArgumentKind (segment_in object.body)) (λ found.
    and_then (atom Who) (λ user.
    and_then (atom Own) (λ profile.
    check (fault.NoWriteRight name) (gives_write found user profile))))) setting state
    (after a_read name setting state) (segment_of name rights)
    (access_gives a_read name (segment_of name rights) setting state access.allowed
    access.there)
    ∙ ap (λ (profile : Option Contents).
    perform (check (fault.NoWriteRight name) (gives_write rights setting.user profile)) setting
    (record state {
      world = touch setting.user setting (accessed a_read name setting state.world);
    }))
    (shown_after_read name setting.user (segment_of name rights) setting state.world
    access.allowed access.there)
    ∙ ap (λ (right : Bool).
    perform (check (fault.NoWriteRight name) right) setting (record state {
      world = touch setting.user setting (accessed a_read name setting state.world);
    })) given

pub segment_taken : (name : ℕ) (rights : Rights Text) (setting : Setting) (state : State NoBlocks)
    → MayAccess a_read name (segment_of name rights) setting state.world
    → gives_write rights setting.user (shown setting.user setting state.world) ≡ true
    → (perform (check_segment name) setting state).end ≡ gives tt
segment_taken name rights setting state access given =
    ap (λ (out : Outcome NoBlocks (Unit {0})). out.end)
    (segment_asked name rights setting state access true given)

pub segment_refused : (name : ℕ) (rights : Rights Text) (setting : Setting)
    (state : State NoBlocks)
    → MayAccess a_read name (segment_of name rights) setting state.world
    → gives_write rights setting.user (shown setting.user setting state.world) ≡ false
    → (perform (check_segment name) setting state).end ≡ fails (fault.NoWriteRight name)
segment_refused name rights setting state access given =
    ap (λ (out : Outcome NoBlocks (Unit {0})). out.end)
    (segment_asked name rights setting state access false given)
