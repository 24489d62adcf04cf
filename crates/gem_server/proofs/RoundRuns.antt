-- A round over what the set-up left, as the definitions have it.
use Rattle.std.proofs.Common.{◌≡◌, ℕ, zero, suc, ℤ, pos, ◌+◌, ◌<◌, ◌≤◌, Bool, true, false, ◌&&◌, List, [], ◌∷◌, ◌++◌, map, Result, Ok, refl, sym, ap, subst, ◌∙◌, codes, arith}
use Rattle.std.proofs.Math.Path.{fun_ext}
use Rattle.std.proofs.lemmas.Bool.{leb-true, le-ltb}
use Rattle.std.proofs.lemmas.Fmt.{decimal_digit}
use Rattle.std.specs.Prelude.{nat_le, nat_lt}
use Rattle.std.specs.Fmt.{decimal}
use Rattle.std.specs.List.{AllByRecursion}
use Rattle.gem_meaning.specs.texts.Bytes.{Bytes}
use Rattle.gem_meaning.specs.texts.Lines.{text_of_lines}
use Rattle.gem_meaning.specs.gem_object.declared.value.Value.{Value}
use Rattle.gem_meaning.specs.gem_image.Image.{Image, objects_in}
use Rattle.gem_meaning.specs.gem_update.declared.update.Update.{Update}
use Rattle.gem_meaning.specs.gem_world.World.{Setting, untouched}
use Rattle.gem_meaning.specs.gem_world.Changes.{updates_on}
use Rattle.gem_meaning.specs.object_programs.Laws.{begun_at}
use Rattle.gem_meaning.specs.object_programs.Budget.{is_within_limits}
use Rattle.gem_meaning.specs.object_programs.Run.{perform, Outcome, gives}
use Rattle.gem_meaning.specs.st_tree.Trees.{Program}
use Rattle.gem_meaning.specs.st_grammar.Grammar.{chunk}
use Rattle.gem_meaning.specs.st_grammar.Lexed.{tokens_of}
use Rattle.gem_meaning.specs.st_grammar_laws.TreeOf.{TextFault, tree_of}
use Rattle.gem_meaning.specs.tree_meaning.Place.{MadeBlock}
use Rattle.gem_meaning.specs.gem_language.Commands.{Reply, ran, run_chunk, chunk_reply, reply_by, command_reply}
use Rattle.gem_meaning.specs.gem_language.Transaction.{command_outcome}
use Rattle.gem_meaning.specs.gem_record.declared.record.Entry.{Entry}
use Rattle.gem_meaning.specs.gem_record.Record.{all_uncommitted, record_of}
use Rattle.gem_server.specs.Rounds.{names_contents, load_objects, IsLoaded, round_text, with_name, HasRoom, IsRoundRecord}
use Rattle.gem_server.proofs.PlainWorlds.{PlainSetting, PlainWorld, PlainOutcome, plain_drawn}
use Rattle.gem_server.proofs.SameWorlds.{plain_setting, IsOutcome, begin_untouched, same_begun}
use Rattle.gem_server.proofs.RunRecords.{plain_ascending, plain_record, same_record}
use Rattle.gem_server.proofs.RoundSteps.{load_setting, round_tree, after_round, IsRound, round_is}

-- ---- the tree of the chunk

abbrev text_with : Bytes → Bytes
text_with digits = text_of_lines ((codes "Hits incrementBy: " ++ digits ++ codes ". Names add: #n" ++ digits) ∷ [])

abbrev tree_with : ℕ → Bytes → Program
tree_with number digits = round_tree (pos number) (codes "n" ++ digits)

by_digit : (number : ℕ) → number < 10
    → tree_of chunk (text_with ((48 + number) ∷ [])) ≡ Ok (tree_with number ((48 + number) ∷ []))
    → tree_of chunk (round_text number) ≡ Ok (tree_with number (decimal number))
by_digit number below read =
    ap (λ (digits : Bytes). tree_of chunk (text_with digits)) (decimal_digit number below) ∙ read
    ∙ ap (λ (digits : Bytes). Ok (tree_with number digits)) (sym (decimal_digit number below))

abbrev IsRead : ℕ → Type 0
IsRead number = tree_of chunk (round_text number) ≡ Ok (tree_with number (decimal number))

read_each : (number : ℕ) → 1 ≤ number → number ≤ 9 → IsRead number
unfolding tree_of tokens_of
read_each zero from to = absurd (omega (arith, from))
read_each (suc zero) from to = by_digit 1 (omega arith) refl
read_each (suc (suc zero)) from to = by_digit 2 (omega arith) refl
read_each (suc (suc (suc zero))) from to = by_digit 3 (omega arith) refl
read_each (suc (suc (suc (suc zero)))) from to = by_digit 4 (omega arith) refl
read_each (suc (suc (suc (suc (suc zero))))) from to = by_digit 5 (omega arith) refl
read_each (suc (suc (suc (suc (suc (suc zero)))))) from to = by_digit 6 (omega arith) refl
read_each (suc (suc (suc (suc (suc (suc (suc zero))))))) from to = by_digit 7 (omega arith) refl
read_each (suc (suc (suc (suc (suc (suc (suc (suc zero)))))))) from to = by_digit 8 (omega arith) refl
read_each (suc (suc (suc (suc (suc (suc (suc (suc (suc zero))))))))) from to = by_digit 9 (omega arith) refl
read_each (suc (suc (suc (suc (suc (suc (suc (suc (suc (suc number)))))))))) from to = absurd (omega (arith, to))

-- ---- no name is drawn

none_between : (from name : ℕ) (passed : Bool) → nat_le from name ≡ passed → (passed && nat_lt name from) ≡ false
none_between from name true is = le-ltb name from (leb-true from name is)
none_between from name false is = refl

none_drawn : (setting : PlainSetting) → plain_drawn setting setting.first ≡ (λ name. false)
none_drawn setting = fun_ext (λ name. none_between _ name _ refl)

-- ---- the outcome

module _ (number : ℕ) (image : Image) (value : ℤ) (pairs : List (Value × ℕ)) (place : Image) (placed : ℤ) (others : List (Value × ℕ))
    (serial first : ℕ) (from : 1 ≤ number) (to : number ≤ 9) (loaded : IsLoaded image value pairs) (there : IsLoaded place placed others)
    (room : HasRoom number value pairs) where
  abbrev digits : Bytes
  digits = codes "n" ++ decimal number

  abbrev setting : Setting
  setting = begun_at place image 32 serial first

  abbrev outcome : Outcome MadeBlock Reply
  outcome = command_outcome (run_chunk false (round_text number)) setting (untouched first)

  setting_shown : plain_setting setting ≡ load_setting serial first value pairs placed others
  setting_shown =
      let objects : objects_in image ≡ load_objects value pairs = fun_ext loaded in
      let standing : objects_in place ≡ load_objects placed others = fun_ext there in
      λ i. record { place = standing i; view = objects i; user = 32; serial = serial; first = first }

  outcome_read : outcome ≡ perform (chunk_reply false (tree_with number (decimal number))) setting (begin_untouched first)
  unfolding command_reply
  outcome_read = ap (λ (tree : Result Program TextFault). perform (reply_by (chunk_reply false) tree) setting (begin_untouched first))
      (read_each number from to)

  abbrev after : PlainOutcome MadeBlock Reply
  after = after_round serial first value (pos number) pairs placed others digits

  outcome_is : IsOutcome setting outcome after
  outcome_is = subst (λ (o : Outcome MadeBlock Reply). IsOutcome setting o after) (sym outcome_read)
      (same_begun (chunk_reply false (tree_with number (decimal number))) setting first
      (load_setting serial first value pairs placed others) setting_shown (λ name. false)
      (none_drawn (load_setting serial first value pairs placed others)))

  both : (one other : Bool) → one ≡ true → other ≡ true → (one && other) ≡ true
  both one other first_is second_is = ap (λ (b : Bool). b && other) first_is ∙ second_is

  round_done : IsRound serial first value (pos number) pairs placed others digits after
  round_done = round_is serial first value (pos number) pairs placed others digits (record {
    small = room.small;
    fits = both (is_within_limits (names_contents pairs)) (is_within_limits (names_contents (with_name number pairs))) room.before room.after;
    refers = room.refers;
    items = room.items;
  })

  pub round_runs : outcome.end ≡ gives ran
  round_runs = sym outcome_is.end ∙ round_done.end

  pub round_draws : outcome.state.world.next ≡ first
  round_draws = sym (ap (λ (w : PlainWorld). w.next) outcome_is.state.world.is) ∙ round_done.next

  touched_below : (touched : List ℕ) → touched ≡ 3 ∷ 29 ∷ 32 ∷ 1 ∷ 34 ∷ 30 ∷ 27 ∷ 19 ∷ 20 ∷ []
      → AllByRecursion (λ name. name ≤ 35) (plain_ascending touched)
  touched_below touched is = subst (λ (list : List ℕ). AllByRecursion (λ name. name ≤ 35) (plain_ascending list)) (sym is)
      (omega arith, (omega arith, (omega arith, (omega arith, (omega arith, (omega arith, (omega arith, (omega arith, (omega arith, tt)))))))))

  plain_is : (entry : Entry) → IsRoundRecord number (plain_record entry setting after.state.world)
  plain_is entry = record {
    written = ap all_uncommitted round_done.written;
    made = ap all_uncommitted round_done.made;
    updates = ap (λ (updates : List (ℕ × Update)). map (λ name. (name, updates_on name updates))
        (plain_ascending (map (λ (entry : ℕ × Update). entry.0) updates))) round_done.updates;
    touched = touched_below after.state.world.touched round_done.touched;
  }

  pub round_record : (entry : Entry) → IsRoundRecord number (record_of entry setting outcome.state.world)
  round_record entry = subst (IsRoundRecord number)
      (sym (same_record entry setting outcome.state.world after.state.world outcome_is.state.world)) (plain_is entry)
