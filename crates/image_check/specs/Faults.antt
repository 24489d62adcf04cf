-- What is said of an image that isn't sound.
use Rattle.std.specs.Prelude.{◌<◌, ℕ, List, ◌++◌, codes, Option, None, Some}
use Rattle.std.specs.Fmt.{decimal}
use Rattle.gem_object.specs.gem_value.Oid.{oid_text}
use Rattle.gem_image.specs.Image.{Contents, Objects}
use Rattle.gem_sound.specs.Sound.{ImageRule, i1, i2, i3, i4, i5, rule_number, KeepsRule, KeepsRuleAt, BreaksFirst}
use Rattle.image_check.specs.declared.fault.Rule.{Rule}
use Rattle.image_check.specs.declared.fault.Rule.TheVariants.{I1, I2, I3, I4, I5}
use Rattle.image_check.specs.declared.fault.SoundFault.{SoundFault}
use Rattle.image_check.specs.declared.fault.SoundFault.TheVariants.{Broken, NoMemory}

-- the rule that is meant
abbrev pub rule_of : Rule → ImageRule
rule_of I1 = i1
rule_of I2 = i2
rule_of I3 = i3
rule_of I4 = i4
rule_of I5 = i5

-- a fault names the lowest name at which a rule is broken, and the first rule that is broken there;
-- or memory ran out
abbrev pub IsFault : Objects → SoundFault → Type 0
IsFault objects (Broken oid rule) = BreaksFirst objects oid (rule_of rule)
IsFault objects NoMemory = Unit {0}

-- a fault as text
abbrev pub fault_text : SoundFault → List ℕ
fault_text (Broken oid rule) =
    codes "I" ++ decimal (rule_number (rule_of rule)) ++ codes " at " ++ oid_text oid
fault_text NoMemory = codes "out of memory"

-- the rule is the first one that the object of this number breaks
pub record IsFirst (objects : Objects) (number : ℕ) (object : Contents) (rule : ImageRule)
    : Type 0 where
  pub before : (any : ImageRule) → rule_number any < rule_number rule
      → KeepsRule objects any number object
  pub broken : KeepsRule objects rule number object → ⊥

-- the object of this number keeps all rules, or this is the first one that it breaks
abbrev pub IsFirstBroken : Objects → ℕ → Contents → Option Rule → Type 0
IsFirstBroken objects number object None = (any : ImageRule) → KeepsRule objects any number object
IsFirstBroken objects number object (Some rule) = IsFirst objects number object (rule_of rule)

-- all rules are kept at the names below this number
abbrev pub AreKeptBelow : Objects → ℕ → Type 0
AreKeptBelow objects number = (other : ℕ) → other < number → (any : ImageRule)
    → KeepsRuleAt objects any other (objects other)

-- of the two rules on classes
abbrev pub IsFirstOfClass : Objects → ℕ → Contents → Option Rule → Type 0
IsFirstOfClass objects number object None =
    KeepsRule objects i2 number object × KeepsRule objects i3 number object
IsFirstOfClass objects number object (Some I2) = KeepsRule objects i2 number object → ⊥
IsFirstOfClass objects number object (Some I3) =
    KeepsRule objects i2 number object × (KeepsRule objects i3 number object → ⊥)
IsFirstOfClass objects number object (Some _) = ⊥
