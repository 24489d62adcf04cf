-- The print text of an object, where the user may read it, and where not.
use Rattle.std.specs.Prelude.{◌≡◌, ℕ, Bool, false, [], ◌∷◌, ◌++◌, codes}
use Rattle.std.proofs.Common.{ap, ◌∙◌}
use Rattle.gem_object.specs.texts.Bytes.{Bytes as Text}
use Rattle.gem_object.specs.declared.value.Value.{Value}
use Rattle.gem_object.specs.declared.value.Value.TheVariants.{Ref}
use Rattle.gem_object.specs.declared.body.Body.TheVariants.{Bytes}
use Rattle.object_programs.specs.gem_image.Image.{Contents}
use Rattle.object_programs.specs.gem_world.World.{Setting}
use Rattle.object_programs.specs.gem_world.Access.{a_read, is_allowed}
use Rattle.object_programs.specs.Run.{Run, and_then, give, gives, fails, State, perform}
use Rattle.object_programs.specs.Programs.{need, check, read}
use Rattle.object_programs.specs.declared.fault.Fault.TheVariants as fault
use Rattle.prim_rules.specs.Parts.{class_in, default_segment, new_object_in}
use Rattle.prim_rules.specs.Texts.{with_article}
use Rattle.prim_rules.specs.Printing.{is_short, named_text, body_text, element_text, with_elements, elements_text, array_text, slots_text, whole_text, print_text}
use Rattle.prim_rules.specs.Any.{print_string_rule}
use Rattle.prim_rules.specs.Worked.{NoBlocks, after, MayAccess, array_in, class_called}
use Rattle.prim_rules.proofs.Performed.{goes_on, ends_there, access_gives, access_fails, no_segment}
use Rattle.object_programs.specs.gem_sound.declared.names.TheConstants.{ARRAY_CLASS, STRING_CLASS}

abbrev object_text : Contents → Run NoBlocks Text
object_text object = body_text slots_text object.class object.body

abbrev short_text : Text → Run NoBlocks Text
short_text text = and_then (check fault.ObjectTooLarge (is_short text)) (λ short. give text)

-- it goes on with the object's text
pub object_printed : (name : ℕ) (object : Contents) (text : Text) (setting : Setting)
    (state last : State NoBlocks) → MayAccess a_read name object setting state.world
    → perform (body_text slots_text object.class object.body) setting
    (after a_read name setting state) ≡ record { end = gives text; state = last }
    → perform (print_text (Ref name)) setting state
    ≡ perform (and_then (check fault.ObjectTooLarge (is_short text)) (λ short. give text))
    setting last
unfolding print_text whole_text
object_printed name object text setting state last may printed =
    goes_on (whole_text (Ref name)) short_text setting state last text
    (goes_on (read name) object_text setting state (after a_read name setting state) object
    (access_gives a_read name object setting state may.allowed may.there) ∙ printed)

pub not_printed : (name : ℕ) (setting : Setting) (state : State NoBlocks)
    → is_allowed a_read name setting state.world ≡ false
    → perform (print_text (Ref name)) setting state
    ≡ record { end = fails (fault.NoReadRight name); state = after a_read name setting state }
unfolding print_text whole_text
not_printed name setting state refused =
    ends_there (whole_text (Ref name)) short_text setting state (after a_read name setting state)
    (fault.NoReadRight name) (ends_there (read name) object_text setting state
    (after a_read name setting state) (fault.NoReadRight name)
    (access_fails a_read name setting state refused))

-- a text that is too long is refused after its accesses
pub too_long : (value : Value) (text : Text) (setting : Setting) (state last : State NoBlocks)
    → perform (whole_text value) setting state ≡ record { end = gives text; state = last }
    → is_short text ≡ false
    → perform (print_text value) setting state
    ≡ record { end = fails fault.ObjectTooLarge; state = last }
unfolding print_text
too_long value text setting state last printed long =
    goes_on (whole_text value) short_text setting state last text printed
    ∙ ends_there (check fault.ObjectTooLarge (is_short text)) (λ short. give text) setting last last
    fault.ObjectTooLarge
    (ap (λ (short : Bool). perform (check fault.ObjectTooLarge short) setting last) long)

-- an object by its class, which is read
class_named : (class segment : ℕ) (name : Text) (setting : Setting) (state : State NoBlocks)
    → MayAccess a_read class (class_called segment name) setting state.world
    → perform (named_text class) setting state
    ≡ record { end = gives (with_article name); state = after a_read class setting state }
class_named class segment name setting state may =
    goes_on (read class) (λ object.
    and_then (need fault.ArgumentKind (class_in object.body)) (λ found.
    give (with_article found.name))) setting state (after a_read class setting state)
    (class_called segment name)
    (access_gives a_read class (class_called segment name) setting state may.allowed may.there)

-- an Array with an Array in it, whose class is read
pub array_in_array : (inner segment : ℕ) (setting : Setting) (state : State NoBlocks)
    → MayAccess a_read inner (array_in segment []) setting state.world
    → MayAccess a_read ARRAY_CLASS (class_called segment (codes "Array")) setting
    (after a_read inner setting state).world
    → perform (array_text (Ref inner ∷ [])) setting state ≡ record {
      end = gives (codes "#(an Array)");
      state = after a_read ARRAY_CLASS setting (after a_read inner setting state);
    }
array_in_array inner segment setting state may known =
    let last = after a_read ARRAY_CLASS setting (after a_read inner setting state) in
    let element : perform (element_text (Ref inner)) setting state
    ≡ record { end = gives (codes "an Array"); state = last } =
    goes_on (read inner) (λ object.
    body_text (λ class slots. named_text class) object.class object.body) setting state
    (after a_read inner setting state) (array_in segment [])
    (access_gives a_read inner (array_in segment []) setting state may.allowed may.there)
    ∙ class_named ARRAY_CLASS segment (codes "Array") setting
    (after a_read inner setting state) known in
    goes_on (elements_text (Ref inner ∷ [])) (λ text. give (codes "#(" ++ (text ++ codes ")")))
    setting state last (codes "an Array")
    (goes_on (element_text (Ref inner)) (λ text. with_elements text []) setting state last
    (codes "an Array") element)

-- the profile is read before the text is found to be too long
pub profile_first : (value : Value) (text : Text) (setting : Setting)
    (state last : State NoBlocks)
    → perform (whole_text value) setting state ≡ record { end = gives text; state = last }
    → is_allowed a_read setting.user setting last.world ≡ false
    → perform (print_string_rule value) setting state ≡ record {
      end = fails (fault.NoReadRight setting.user);
      state = after a_read setting.user setting last;
    }
profile_first value text setting state last printed refused =
    goes_on (whole_text value) (λ some.
    and_then default_segment (λ segment.
    and_then (check fault.ObjectTooLarge (is_short some)) (λ short.
    new_object_in segment STRING_CLASS (Bytes some)))) setting state last text printed
    ∙ ends_there default_segment (λ segment.
    and_then (check fault.ObjectTooLarge (is_short text)) (λ short.
    new_object_in segment STRING_CLASS (Bytes text))) setting last
    (after a_read setting.user setting last) (fault.NoReadRight setting.user)
    (no_segment setting last refused)
