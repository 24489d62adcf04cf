-- A chunk whose value is a number, and is printed.
use Rattle.std.proofs.Common.{◌≡◌, ℕ, pos, ◌<◌, Bool, true, refl, ap, ◌∙◌}
use Rattle.std.specs.Fmt.{decimal}
use Rattle.gem_meaning.specs.gem_object.declared.value.Value.{Value}
use Rattle.gem_meaning.specs.gem_object.declared.value.Value.TheVariants.{Int}
use Rattle.gem_meaning.specs.object_programs.Programs.{check}
use Rattle.gem_meaning.specs.object_programs.declared.fault.Fault.TheVariants as fault
use Rattle.gem_meaning.specs.object_programs.Run.{give, and_then, Ending, gives}
use Rattle.gem_meaning.specs.st_tree.Trees.{Program}
use Rattle.gem_meaning.specs.tree_meaning.Place.{MadeBlock}
use Rattle.gem_meaning.specs.prim_rules.Printing.{whole_text, print_text, is_short}
use Rattle.gem_meaning.specs.gem_language.Sends.{chunk_value}
use Rattle.gem_meaning.specs.gem_language.Commands.{ReplyRun, printed, chunk_reply}
use Rattle.gem_server.proofs.PlainWorlds.{PlainSetting, PlainState, plain_onward, plain_perform}
use Rattle.gem_server.proofs.DecimalTexts.{decimal_short}

-- what comes after the value
abbrev printing : Value → ReplyRun
printing answer = and_then (print_text answer) (λ text. give (printed text))

-- the same for this number, where it is known whether its text is short
abbrev printing_where : ℕ → Bool → ReplyRun
printing_where n short =
    and_then (and_then (check fault.ObjectTooLarge short) (λ done. give (decimal n))) (λ text. give (printed text))

module _ (setting : PlainSetting) where
  printing_is : (n : ℕ) (state : PlainState MadeBlock)
      → plain_perform (printing (Int (pos n))) setting state
      ≡ plain_perform (printing_where n (is_short (decimal n))) setting state
  unfolding print_text whole_text
  printing_is n state = refl

  number_printed : (n : ℕ) (state : PlainState MadeBlock) → n < 1000000
      → plain_perform (printing (Int (pos n))) setting state
      ≡ record { end = gives (printed (decimal n)); state = state }
  number_printed n state small = printing_is n state
      ∙ ap (λ (short : Bool). plain_perform (printing_where n short) setting state) (decimal_short n small)

  pub chunk_printed : (tree : Program) (n : ℕ) (state : PlainState MadeBlock) → n < 1000000
      → (plain_perform (chunk_value tree) setting state).end ≡ gives (Int (pos n))
      → plain_perform (chunk_reply true tree) setting state
      ≡ record { end = gives (printed (decimal n)); state = (plain_perform (chunk_value tree) setting state).state }
  chunk_printed tree n state small is =
      let after : PlainState MadeBlock = (plain_perform (chunk_value tree) setting state).state in
      ap (λ (end : Ending Value). plain_onward end after (λ answer state.
      plain_perform (printing answer) setting state)) is
      ∙ number_printed n after small
