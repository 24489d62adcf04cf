-- The rules of the primitives 54 to 96, by their numbers.
use Rattle.std.specs.Prelude.{ℕ, List, [], ◌∷◌}
use Rattle.prim_rules.specs.FirstRules.{Rule, rule_in, no_rule}
use Rattle.prim_rules.specs.Classes.{row_54, row_55, row_56, row_57, row_58, row_59, row_60}
use Rattle.prim_rules.specs.Dictionaries.{row_61, row_62, row_63, row_64, row_65, row_66, row_67}
use Rattle.prim_rules.specs.Segments.{row_68, row_69, row_70, row_71, row_72, row_73}
use Rattle.prim_rules.specs.Users.{row_74, row_75, row_76, row_77, row_78, row_79, row_80}
use Rattle.prim_rules.specs.Transcript.{row_81, row_82}
use Rattle.prim_rules.specs.Counters.{row_83, row_84}
use Rattle.prim_rules.specs.Bags.{row_85, row_86, row_87, row_88}
use Rattle.prim_rules.specs.RcDicts.{row_89, row_90, row_91, row_92, row_93}
use Rattle.prim_rules.specs.Queues.{row_94, row_95, row_96}

module _ {B : Type 0} where
  -- the rules of the primitives 54 to 96
  abbrev pub later_rules : List (ℕ × Rule B)
  later_rules =
      (54, row_54)
      ∷ (55, row_55)
      ∷ (56, row_56)
      ∷ (57, row_57)
      ∷ (58, row_58)
      ∷ (59, row_59)
      ∷ (60, row_60)
      ∷ (61, row_61)
      ∷ (62, row_62)
      ∷ (63, row_63)
      ∷ (64, row_64)
      ∷ (65, row_65)
      ∷ (66, row_66)
      ∷ (67, row_67)
      ∷ (68, row_68)
      ∷ (69, row_69)
      ∷ (70, row_70)
      ∷ (71, row_71)
      ∷ (72, row_72)
      ∷ (73, row_73)
      ∷ (74, row_74)
      ∷ (75, row_75)
      ∷ (76, row_76)
      ∷ (77, row_77)
      ∷ (78, row_78)
      ∷ (79, row_79)
      ∷ (80, row_80)
      ∷ (81, row_81)
      ∷ (82, row_82)
      ∷ (83, row_83)
      ∷ (84, row_84)
      ∷ (85, row_85)
      ∷ (86, row_86)
      ∷ (87, row_87)
      ∷ (88, row_88)
      ∷ (89, row_89)
      ∷ (90, row_90)
      ∷ (91, row_91)
      ∷ (92, row_92)
      ∷ (93, row_93)
      ∷ (94, row_94)
      ∷ (95, row_95)
      ∷ (96, row_96)
      ∷ []

  -- the rule of the primitive with this number, which is from 54 to 96
  unfoldable pub later_rule : ℕ → Rule B
  later_rule number = rule_in no_rule later_rules number
