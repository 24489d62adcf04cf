-- Counting loops whose body may be handed the number.
use Rattle.std.proofs.Common.{◌≡◌, sym, subst, Bool, true, false, ℤ, pos, ◌+ℤ◌, Option, Ok}
use Rattle.std.specs.Prelude.{int_le}
use Rattle.gem_object.specs.declared.value.Value.{Value}
use Rattle.gem_object.specs.declared.value.Value.TheVariants.{Int}
use Rattle.gem_object.specs.texts.declared.integers.TheConstants.{LARGEST_INTEGER}
use Rattle.object_programs.specs.Atom.{Tick}
use Rattle.object_programs.specs.Local.{Local}
use Rattle.object_programs.specs.Run.{atom}
use Rattle.running_objects.specs.Seen.{Seen}
use Rattle.running_objects.specs.Ran.{Ran}
use Rattle.tree_meaning.specs.Place.{MadeBlock}
use Rattle.tree_meaning.specs.Operands.{ValueRun}
use Rattle.st_plain.specs.Choices.{handed_value}
use Rattle.st_plain.proofs.Turns.{Counting, counting_goes_on}

-- A turn whose body may be handed the number.
pub handed_goes_on : (run : Option Value → ValueRun) (hands : Bool) (first limit : ℤ) (answer : Value) (before : Seen)
    (local : Local MadeBlock) (at next : ℤ) (given : Option Value) (done : Value) {start between after : Seen}
    {middle later : Local MadeBlock} → next ≡ at +ℤ pos 1 → given ≡ handed_value hands (Int at)
    → Counting first limit (λ number. run (handed_value hands number)) answer before local at start middle
    → int_le at limit ≡ true → int_le LARGEST_INTEGER at ≡ false → Ran (atom Tick) start middle (Ok tt) between middle
    → Ran (run given) between middle (Ok done) after later
    → Counting first limit (λ number. run (handed_value hands number)) answer before local next after later
handed_goes_on run hands first limit answer before local at next given done {start} {between} {after} {middle} {later} is_next is_given
    here is is_less unit ran =
    let At : ℤ → Type 0 = λ one. Counting first limit (λ number. run (handed_value hands number)) answer before local one after later in
    let Body : Option Value → Type 0 = λ one. Ran (run one) between middle (Ok done) after later in
    subst At (sym is_next) (counting_goes_on first limit (λ number. run (handed_value hands number)) answer before local at done here is
    is_less unit (subst Body is_given ran))
