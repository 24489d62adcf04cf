-- The rules of the primitives 1 to 53, by their numbers.
use Rattle.std.specs.Prelude.{ℕ, nat_eq, cond, List, [], ◌∷◌}
use Rattle.gem_object.specs.declared.value.Value.{Value}
use Rattle.object_programs.specs.Run.{Run, fail}
use Rattle.object_programs.specs.declared.fault.Fault.TheVariants as fault
use Rattle.prim_rules.specs.declared.answer.PrimitiveAnswer.{PrimitiveAnswer}
use Rattle.prim_rules.specs.Any.{row_1, row_2, row_3, row_4, row_5, row_6, row_7, row_8, row_9}
use Rattle.prim_rules.specs.Numbers.{row_10, row_11, row_12, row_13, row_14, row_15, row_16, row_17, row_18, row_19, row_20, row_21, row_22, row_23, row_24, row_25, row_26, row_27}
use Rattle.prim_rules.specs.Blocks.{row_28, row_29, row_30, row_31, row_32}
use Rattle.prim_rules.specs.Sequences.{row_33, row_34, row_35, row_36, row_37, row_38, row_39, row_40, row_41}
use Rattle.prim_rules.specs.Strings.{row_42, row_43, row_44, row_45, row_46, row_47, row_48, row_49, row_50, row_51}
use Rattle.prim_rules.specs.New.{row_52, row_53}

-- A rule: what a primitive does with a receiver and arguments.
abbrev pub Rule : (B : Type 0) → Type 1
Rule B = Value → List Value → Run B PrimitiveAnswer

module _ {B : Type 0} where
  -- the rule with the number among these; where there is none, the other one
  abbrev pub rule_in : (otherwise : Rule B) → List (ℕ × Rule B) → ℕ → Rule B
  rule_in otherwise [] number = otherwise
  rule_in otherwise (entry ∷ rest) number =
      cond (nat_eq number entry.0) entry.1 (rule_in otherwise rest number)

  -- a number without a rule: E5
  abbrev pub no_rule : Rule B
  no_rule receiver arguments = fail fault.ArgumentKind

  -- the rules of the primitives 1 to 53
  abbrev pub first_rules : List (ℕ × Rule B)
  first_rules =
      (1, row_1)
      ∷ (2, row_2)
      ∷ (3, row_3)
      ∷ (4, row_4)
      ∷ (5, row_5)
      ∷ (6, row_6)
      ∷ (7, row_7)
      ∷ (8, row_8)
      ∷ (9, row_9)
      ∷ (10, row_10)
      ∷ (11, row_11)
      ∷ (12, row_12)
      ∷ (13, row_13)
      ∷ (14, row_14)
      ∷ (15, row_15)
      ∷ (16, row_16)
      ∷ (17, row_17)
      ∷ (18, row_18)
      ∷ (19, row_19)
      ∷ (20, row_20)
      ∷ (21, row_21)
      ∷ (22, row_22)
      ∷ (23, row_23)
      ∷ (24, row_24)
      ∷ (25, row_25)
      ∷ (26, row_26)
      ∷ (27, row_27)
      ∷ (28, row_28)
      ∷ (29, row_29)
      ∷ (30, row_30)
      ∷ (31, row_31)
      ∷ (32, row_32)
      ∷ (33, row_33)
      ∷ (34, row_34)
      ∷ (35, row_35)
      ∷ (36, row_36)
      ∷ (37, row_37)
      ∷ (38, row_38)
      ∷ (39, row_39)
      ∷ (40, row_40)
      ∷ (41, row_41)
      ∷ (42, row_42)
      ∷ (43, row_43)
      ∷ (44, row_44)
      ∷ (45, row_45)
      ∷ (46, row_46)
      ∷ (47, row_47)
      ∷ (48, row_48)
      ∷ (49, row_49)
      ∷ (50, row_50)
      ∷ (51, row_51)
      ∷ (52, row_52)
      ∷ (53, row_53)
      ∷ []

  -- the rule of the primitive with this number, which is from 1 to 53
  unfoldable pub first_rule : ℕ → Rule B
  first_rule number = rule_in no_rule first_rules number
