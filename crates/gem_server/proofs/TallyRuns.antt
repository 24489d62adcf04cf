-- The chunks of the tally over an image with the counter and the bag of a load, as the definitions have it.
use Rattle.std.proofs.Common.{◌≡◌, ℕ, pos, ◌<◌, ◌≤◌, true, List, [], ◌∷◌, Result, ◌++◌, refl, sym, ap, ap₂, subst, ◌∙◌, arith}
use Rattle.std.proofs.Math.Path.{fun_ext}
use Rattle.std.specs.Prelude.{sum_by}
use Rattle.std.specs.Fmt.{decimal}
use Rattle.std.specs.List.{AllByRecursion}
use Rattle.gem_meaning.specs.texts.Bytes.{Bytes}
use Rattle.gem_meaning.specs.gem_object.declared.value.Value.{Value}
use Rattle.gem_meaning.specs.gem_object.declared.value.Value.TheVariants.{Int}
use Rattle.gem_meaning.specs.gem_image.Image.{Image, objects_in}
use Rattle.gem_meaning.specs.gem_world.World.{Setting, untouched}
use Rattle.gem_meaning.specs.object_programs.Budget.{Budget}
use Rattle.gem_meaning.specs.object_programs.Laws.{begun_at}
use Rattle.gem_meaning.specs.object_programs.Run.{perform, Outcome, gives, Ending}
use Rattle.gem_meaning.specs.st_tree.Trees.{Program}
use Rattle.gem_meaning.specs.st_grammar_laws.TreeOf.{TextFault}
use Rattle.gem_meaning.specs.tree_meaning.Place.{MadeBlock}
use Rattle.gem_meaning.specs.prim_rules.Bags.{items_of}
use Rattle.gem_meaning.specs.gem_language.Commands.{Reply, printed, run_chunk, chunk_reply, reply_by, reply_of, command_reply}
use Rattle.gem_meaning.specs.gem_language.Transaction.{begin_command, command_outcome, said_of}
use Rattle.gem_meaning.specs.gem_replies.declared.reply.Line.TheVariants.{Printed}
use Rattle.gem_meaning.specs.Lines.{show_lines, reply_line, said_lines}
use Rattle.gem_server.specs.Rounds.{load_objects, IsLoaded}
use Rattle.gem_server.specs.AfterLoad.{IsRoundName}
use Rattle.gem_server.proofs.PlainWorlds.{PlainSetting, PlainState, PlainOutcome, plain_drawn, plain_perform}
use Rattle.gem_server.proofs.SameWorlds.{plain_setting, IsWorld, IsState, IsOutcome, nothing_done, begin_plain, begin_untouched, same_begun, same_perform}
use Rattle.gem_server.proofs.TallyTrees.{value_chunk, value_tree, value_read, size_chunk, size_tree, size_read}
use Rattle.gem_server.proofs.TallySteps.{tally_setting, MayBeListed, value_asked, value_end, value_shows, value_world, after_value, size_asked, size_is}
use Rattle.gem_server.proofs.TallyItems.{items_counted, may_be_listed}
use Rattle.gem_server.proofs.TallyPrints.{chunk_printed}

module _ (image : Image) (counter : ℕ) (pairs : List (Value × ℕ)) (loaded : IsLoaded image (pos counter) pairs) where
  -- what the session's transaction runs on
  abbrev pub setting : Setting
  setting = begun_at image image 32 2 1

  abbrev shown : PlainSetting
  shown = tally_setting (pos counter) pairs

  setting_shown : plain_setting setting ≡ shown
  setting_shown =
      let objects : objects_in image ≡ load_objects (pos counter) pairs = fun_ext loaded in
      λ i. record { place = objects i; view = objects i; user = 32; serial = 2; first = 1 }

  -- what a command says that prints this number and writes nothing on the transcript
  says_number : (n : ℕ) (o : Outcome MadeBlock Reply) (p : PlainOutcome MadeBlock Reply) → IsOutcome setting o p
      → p.end ≡ gives (printed (decimal n)) → p.state.budget.text ≡ []
      → said_lines (said_of o) ≡ Printed (decimal n) ∷ []
  says_number n o p same end text =
      let shows : o.state.budget.text ≡ [] = sym (ap (λ (b : Budget). b.text) same.state.budget) ∙ text in
      let reply : o.end ≡ gives (printed (decimal n)) = sym same.end ∙ end in
      ap₂ (λ (text : Bytes) (end : Ending Reply). show_lines text ++ reply_line (reply_of end) ∷ []) shows reply

  -- ---- the counter's value

  abbrev pub value_outcome : Outcome MadeBlock Reply
  value_outcome = command_outcome (run_chunk true value_chunk) setting (untouched 1)

  abbrev after_value_chunk : PlainOutcome MadeBlock Reply
  after_value_chunk =
      plain_perform (chunk_reply true value_tree) shown (begin_plain (nothing_done 1 (plain_drawn shown 1)))

  value_outcome_read : value_outcome ≡ perform (chunk_reply true value_tree) setting (begin_untouched 1)
  unfolding command_reply
  value_outcome_read = ap (λ (tree : Result Program TextFault).
      perform (reply_by (chunk_reply true) tree) setting (begin_untouched 1)) value_read

  value_outcome_is : IsOutcome setting value_outcome after_value_chunk
  value_outcome_is =
      subst (λ (o : Outcome MadeBlock Reply). IsOutcome setting o after_value_chunk) (sym value_outcome_read)
      (same_begun (chunk_reply true value_tree) setting 1 shown setting_shown (plain_drawn shown 1) refl)

  module _ (small : counter < 1000000) where
    value_printed : after_value_chunk
        ≡ record { end = gives (printed (decimal counter)); state = (value_asked (pos counter) pairs).state }
    value_printed = chunk_printed shown value_tree counter (begin_plain (nothing_done 1 (plain_drawn shown 1))) small
        (value_end (pos counter) pairs)

    pub value_said : said_lines (said_of value_outcome) ≡ Printed (decimal counter) ∷ []
    value_said = says_number counter value_outcome after_value_chunk value_outcome_is
        (ap (λ (p : PlainOutcome MadeBlock Reply). p.end) value_printed)
        (ap (λ (p : PlainOutcome MadeBlock Reply). p.state.budget.text) value_printed ∙ value_shows (pos counter) pairs)

    left_world : after_value_chunk.state.world ≡ after_value (pos counter) pairs
    left_world =
        ap (λ (p : PlainOutcome MadeBlock Reply). p.state.world) value_printed ∙ value_world (pos counter) pairs

    -- ---- the bag's size

    abbrev pub size_outcome : Outcome MadeBlock Reply
    size_outcome = command_outcome (run_chunk true size_chunk) setting value_outcome.state.world

    abbrev before_size : PlainState MadeBlock
    before_size = begin_plain (after_value (pos counter) pairs)

    abbrev after_size_chunk : PlainOutcome MadeBlock Reply
    after_size_chunk = plain_perform (chunk_reply true size_tree) shown before_size

    size_outcome_read : size_outcome
        ≡ perform (chunk_reply true size_tree) setting (begin_command value_outcome.state.world)
    unfolding command_reply
    size_outcome_read = ap (λ (tree : Result Program TextFault).
        perform (reply_by (chunk_reply true) tree) setting (begin_command value_outcome.state.world)) size_read

    begins : IsState setting (begin_command value_outcome.state.world) before_size
    begins = record {
      world = subst (IsWorld setting value_outcome.state.world) left_world value_outcome_is.state.world;
      budget = refl;
      local = refl;
    }

    size_performed : IsOutcome setting
        (perform (chunk_reply true size_tree) setting (begin_command value_outcome.state.world)) after_size_chunk
    size_performed = subst (λ (p : PlainSetting). IsOutcome setting
        (perform (chunk_reply true size_tree) setting (begin_command value_outcome.state.world))
        (plain_perform (chunk_reply true size_tree) p before_size)) setting_shown
        (same_perform (chunk_reply true size_tree) setting (begin_command value_outcome.state.world) before_size begins)

    size_outcome_is : IsOutcome setting size_outcome after_size_chunk
    size_outcome_is =
        subst (λ (o : Outcome MadeBlock Reply). IsOutcome setting o after_size_chunk) (sym size_outcome_read)
        size_performed

    module _ (bag : ℕ) (named : AllByRecursion (λ pair. IsRoundName pair.0) pairs)
        (counted : sum_by (λ (pair : Value × ℕ). pair.1) pairs ≡ bag) (few : bag ≤ 16000) where
      listed : MayBeListed (items_of pairs)
      listed = may_be_listed pairs named (omega (arith, counted, few))

      size_end : (size_asked (pos counter) pairs).end ≡ gives (Int (pos bag))
      size_end = (size_is (pos counter) pairs listed).end
          ∙ ap (λ (n : ℕ). gives (Int (pos n))) (items_counted pairs ∙ counted)

      size_printed : after_size_chunk
          ≡ record { end = gives (printed (decimal bag)); state = (size_asked (pos counter) pairs).state }
      size_printed = chunk_printed shown size_tree bag before_size (omega (arith, few)) size_end

      pub size_said : said_lines (said_of size_outcome) ≡ Printed (decimal bag) ∷ []
      size_said = says_number bag size_outcome after_size_chunk size_outcome_is
          (ap (λ (p : PlainOutcome MadeBlock Reply). p.end) size_printed)
          (ap (λ (p : PlainOutcome MadeBlock Reply). p.state.budget.text) size_printed
          ∙ (size_is (pos counter) pairs listed).shows)
