-- Programs of whose answers only a part is kept, and texts that aren't kept where they are too long.
use Rattle.std.proofs.Common.{◌≡◌, refl, sym, ap, ◌∙◌, subst, ℕ, ◌+◌, ◌≤◌, Bool, true, false, cond, length, get_or, drop, ◌<◌, List, [], ◌∷◌, ◌++◌, Option, Some, None, Result, Ok, Err, codes, length-append, arith}
use Rattle.std.proofs.lemmas.Bool.{false≢true}
use Rattle.std.proofs.lemmas.Bool.Decides.{nat_tests}
use Rattle.std.proofs.lemmas.List.{drop_more}
use Rattle.std.proofs.Math.ListN.{drop_of_length-le}
use Rattle.object_programs.specs.Programs.{check}
use Rattle.object_programs.specs.declared.fault.Fault.{Fault}
use Rattle.std.specs.Result.{IsErrAnd}
use Rattle.gem_object.specs.texts.Bytes.{Bytes as Text}
use Rattle.object_programs.specs.gem_world.World.{Setting}
use Rattle.gem_object.specs.declared.value.Value.{Value}
use Rattle.prim_parts.specs.tree_meaning.Place.{MadeBlock}
use Rattle.object_programs.specs.Local.{Local}
use Rattle.object_programs.specs.Run.{Run, give, and_then, Ending, gives, returns, fails, State, Outcome, onward, perform}
use Rattle.running_objects.specs.Seen.{Seen, with_local}
use Rattle.running_objects.specs.Ran.{EndsSo}
use Rattle.running_objects.specs.declared.stop.Stop.{Stop}
use Rattle.running_objects.specs.declared.stop.Stop.TheVariants as stop
use Rattle.running_objects.proofs.Running.{keeps_along}
use Rattle.prim_parts.specs.Does.{Does}
use Rattle.prim_parts.proofs.Does.{does_then, does_stop, does_assoc, does_give, does_fail}
use Rattle.prim_rules.specs.Printing.{is_short, element_text, elements_text, with_elements, array_text}
use Rattle.prim_classes.specs.Prints.{short, joined, enclosed, shortened}
use Rattle.prim_classes.proofs.Steps.{does_given, does_no_memory}
use Rattle.prim_parts.proofs.Onward.{handed}

-- A program of whose answer this part was kept: it gave an answer that has this part.
record Gave {A D : Type 0} (outcome : Outcome MadeBlock A) (part : A → D) (kept : D) (state : State MadeBlock) : Type 0 where
  answer : A
  is : outcome ≡ record { end = gives answer; state = state }
  has : part answer ≡ kept

abbrev given_part : {D : Type 0} (kept : D) (end : Ending D) → D
given_part kept (gives answer) = answer
given_part kept _ = kept

abbrev is_gives : {D : Type 0} → Ending D → Bool
is_gives (gives answer) = true
is_gives _ = false

gave : {A D : Type 0} (part : A → D) (kept : D) (end : Ending A) (state last : State MadeBlock)
    → onward end state (λ answer after. record { end = gives (part answer); state = after })
    ≡ record { end = gives kept; state = last }
    → Gave (record { end = end; state = state }) part kept last
gave {A} {D} part kept (gives answer) state last is = record {
  answer = answer;
  is = ap (λ (outcome : Outcome MadeBlock D). record { end = gives answer; state = outcome.state }) is;
  has = ap (λ (outcome : Outcome MadeBlock D). given_part kept outcome.end) is;
}
gave {A} {D} part kept (returns value home) state last is =
    absurd (false≢true (ap (λ (outcome : Outcome MadeBlock D). is_gives outcome.end) is))
gave {A} {D} part kept (fails fault) state last is =
    absurd (false≢true (ap (λ (outcome : Outcome MadeBlock D). is_gives outcome.end) is))

nowhere : Local MadeBlock
nowhere = record { scopes = []; blocks = []; living = [] }

-- What comes after it may be told by the part that was kept.
pub mapped_then : {A C D : Type 0} {program : Run MadeBlock C} {part : C → D} {kept : D} {rest : C → Run MadeBlock A}
    {before between after : Seen} {result : Result A Stop}
    → Does (and_then program (λ answer. give (part answer))) before (Ok kept) between
    → ((answer : C) → part answer ≡ kept → Does (rest answer) between result after)
    → Does (and_then program rest) before result after
mapped_then {A} {C} {D} {program} {part} {kept} {rest} {before} {between} {after} {result} does more =
    let at : (local : Local MadeBlock) → Gave (perform program before.setting (with_local before local)) part kept (with_local between local) =
    λ local. gave part kept (perform program before.setting (with_local before local)).end
    (perform program before.setting (with_local before local)).state (with_local between local) (does.ends local) in
    record {
      keeps = keeps_along does.keeps (more (at nowhere).answer (at nowhere).has).keeps;
      ends = λ local.
          let one : Gave (perform program before.setting (with_local before local)) part kept (with_local between local) = at local in
          let next : Outcome MadeBlock C → Outcome MadeBlock A = λ outcome. onward outcome.end outcome.state
          (λ found left. perform (rest found) before.setting left) in
          let At : Outcome MadeBlock C → Type 0 = λ outcome. EndsSo (next outcome) result (with_local after local) in
          let In : Setting → Type 0 = λ setting. EndsSo (perform (rest one.answer) setting (with_local between local)) result (with_local after local) in
          subst At (sym one.is) (subst In does.keeps.setting ((more one.answer one.has).ends local));
    }

stops_so : {A C D : Type 0} (part : C → D) (rest : C → State MadeBlock → Outcome MadeBlock A) (ended : Stop)
    (end : Ending C) (state last : State MadeBlock)
    → EndsSo (onward end state (λ answer after. record { end = gives (part answer); state = after })) (Err ended) last
    → EndsSo (onward end state rest) (Err ended) last
stops_so {A} {C} {D} part rest (stop.Fails fault) (gives answer) state last is =
    absurd (false≢true (sym (ap (λ (outcome : Outcome MadeBlock D). is_gives outcome.end) is)))
stops_so {A} {C} {D} part rest (stop.Fails fault) (returns value home) state last is =
    ap (λ (outcome : Outcome MadeBlock D). onward outcome.end outcome.state (λ found left. record { end = returns value home; state = left })) is
stops_so {A} {C} {D} part rest (stop.Fails fault) (fails other) state last is =
    ap (λ (outcome : Outcome MadeBlock D). onward outcome.end outcome.state (λ found left. record { end = fails other; state = left })) is
stops_so {A} {C} {D} part rest (stop.Returns value home) (gives answer) state last is =
    absurd (false≢true (sym (ap (λ (outcome : Outcome MadeBlock D). is_gives outcome.end) is)))
stops_so {A} {C} {D} part rest (stop.Returns value home) (returns other place) state last is =
    ap (λ (outcome : Outcome MadeBlock D). onward outcome.end outcome.state (λ found left. record { end = returns other place; state = left })) is
stops_so {A} {C} {D} part rest (stop.Returns value home) (fails other) state last is =
    ap (λ (outcome : Outcome MadeBlock D). onward outcome.end outcome.state (λ found left. record { end = fails other; state = left })) is
stops_so part rest stop.NoMemory end state last is = tt

-- Where it stopped so does all of it.
mapped_end : {A C D : Type 0} {program : Run MadeBlock C} {part : C → D} {rest : C → Run MadeBlock A} {ended : Stop}
    {before after : Seen} → Does (and_then program (λ answer. give (part answer))) before (Err ended) after
    → Does (and_then program rest) before (Err ended) after
mapped_end {A} {C} {D} {program} {part} {rest} {ended} {before} {after} does = record {
  keeps = does.keeps;
  ends = λ local.
      stops_so part (λ found left. perform (rest found) before.setting left) ended
      (perform program before.setting (with_local before local)).end
      (perform program before.setting (with_local before local)).state (with_local after local) (does.ends local);
}

pub mapped_stop : {A C D : Type 0} {program : Run MadeBlock C} {part : C → D} {rest : C → Run MadeBlock A} {ended : Stop}
    {before after : Seen} {result : Result A Stop}
    → Does (and_then program (λ answer. give (part answer))) before (Err ended) after
    → IsErrAnd result (λ given. given ≡ ended) → Does (and_then program rest) before result after
mapped_stop {A} {C} {D} {program} {part} {rest} {ended} {before} {after} {result} does is =
    handed (λ given. Does (and_then program rest) before given after) result ended is
    (mapped_end {program = program} {part = part} {rest = rest} does)

-- short texts
pub short_is : (text kept : Text) → short text ≡ Some kept → text ≡ kept
short_is text kept is = by (is_short text) is
  where
    by : (test : Bool) → cond test (Some text) None ≡ Some kept → text ≡ kept
    by true same = cc
    by false same = absurd (cc)

pub short_true : (text kept : Text) → short text ≡ Some kept → is_short text ≡ true
short_true text kept is = by (is_short text) is
  where
    by : (test : Bool) → cond test (Some text) None ≡ Some kept → test ≡ true
    by true same = refl
    by false same = absurd (cc)

pub short_false : (text : Text) → short text ≡ None → is_short text ≡ false
short_false text is = by (is_short text) is
  where
    by : (test : Bool) → cond test (Some text) None ≡ None → test ≡ false
    by true same = absurd (cc)
    by false same = refl

pub long_stays : (text other : Text) → length text ≤ length other → is_short text ≡ false → short other ≡ None
long_stays text other more long =
    let is : is_short other ≡ false = grind (arith, nat_tests) in
    ap (λ (test : Bool). cond test (Some other) None) is

pub joined_short : (so_far text : Text) → joined (short so_far) text ≡ short (so_far ++ (32 ∷ text))
joined_short so_far text = by (is_short so_far) refl
  where
    by : (test : Bool) → is_short so_far ≡ test → joined (cond test (Some so_far) None) text ≡ short (so_far ++ (32 ∷ text))
    by true same = refl
    by false same = sym (long_stays so_far (so_far ++ (32 ∷ text)) (omega (arith, length-append so_far (32 ∷ text))) same)

pub enclosed_long : (text : Text) → short text ≡ None → short (enclosed text) ≡ None
enclosed_long text is = long_stays text (enclosed text)
    (omega (arith, length-append (codes "#(") (text ++ codes ")"), length-append text (codes ")"))) (short_false text is)

item_first : (elements : List Value) (index : ℕ) (element : Value) → index < length elements
    → element ≡ get_or elements index element → drop index elements ≡ element ∷ drop (index + 1) elements
item_first elements index element within at = drop_more elements index element within
    ∙ ap (λ (one : Value). one ∷ drop (index + 1) elements) (sym at)

-- The elements of an Array, one after the other.
module _ {before between : Seen} (whole : Text) (so_far : Option Text) (is : short whole ≡ so_far) (elements : List Value)
    (index : ℕ) (element : Value) (within : index < length elements) (at : element ≡ get_or elements index element) where
  pub element_step : {after : Seen} {result : Result (Option Text) Stop} (next : Option Text)
      → Does (and_then (element_text element) (λ text. give (joined so_far text))) before (Ok next) between
      → ((more : Text) → short more ≡ next → Does (shortened (with_elements more (drop (index + 1) elements))) between result after)
      → Does (shortened (with_elements whole (drop index elements))) before result after
  element_step {after} {result} next does goes =
      let At : List Value → Type 0 = λ these. Does (shortened (with_elements whole these)) before result after in
      subst At (sym (item_first elements index element within at)) (does_assoc (mapped_then {part = joined so_far}
      {rest = λ (text : Text). shortened (with_elements (whole ++ (32 ∷ text)) (drop (index + 1) elements))} does
      (λ text has. goes (whole ++ (32 ∷ text))
      (sym (joined_short whole text) ∙ ap (λ (kept : Option Text). joined kept text) is ∙ has))))

  pub element_stop : {result : Result (Option Text) Stop} {ended : Stop}
      → Does (and_then (element_text element) (λ text. give (joined so_far text))) before (Err ended) between
      → IsErrAnd result (λ given. given ≡ ended)
      → Does (shortened (with_elements whole (drop index elements))) before result between
  element_stop {result} {ended} does exit =
      let At : List Value → Type 0 = λ these. Does (shortened (with_elements whole these)) before result between in
      subst At (sym (item_first elements index element within at)) (does_assoc (mapped_stop {part = joined so_far}
      {rest = λ (text : Text). shortened (with_elements (whole ++ (32 ∷ text)) (drop (index + 1) elements))} does exit))

pub elements_done : (whole : Text) (so_far : Option Text) (elements : List Value) (index : ℕ) (seen : Seen)
    → short whole ≡ so_far → length elements ≤ index
    → Does (shortened (with_elements whole (drop index elements))) seen (Ok so_far) seen
elements_done whole so_far elements index seen is all =
    let At : List Value → Type 0 = λ these. Does (shortened (with_elements whole these)) seen (Ok so_far) seen in
    subst At (sym (drop_of_length-le elements all)) (does_then (does_give whole seen) (does_given (sym is)))

-- the print text, by what was kept of it
pub print_some : (whole text : Text) (fault : Fault) (seen : Seen) → short whole ≡ Some text
    → Does (and_then (check fault (is_short whole)) (λ short. give whole)) seen (Ok text) seen
print_some whole text fault seen is =
    let At : Bool → Type 0 = λ test. Does (and_then (check fault test) (λ short. give whole)) seen (Ok text) seen in
    subst At (sym (short_true whole text is)) (does_then (does_give tt seen) (does_given (sym (short_is whole text is))))

pub print_none : (whole : Text) (fault : Fault) (seen : Seen) → short whole ≡ None
    → Does (and_then (check fault (is_short whole)) (λ short. give whole)) seen (Err (stop.Fails fault)) seen
print_none whole fault seen is =
    let At : Bool → Type 0 = λ test. Does (and_then (check fault test) (λ short. give whole)) seen (Err (stop.Fails fault)) seen in
    subst At (sym (short_false whole is)) (does_stop (does_fail fault seen))

-- an Array, by its elements
module _ {before after : Seen} (elements : List Value) where
  pub array_some : (kept : Text) (made : Option Text) → made ≡ short (enclosed kept)
      → Does (shortened (elements_text elements)) before (Ok (Some kept)) after
      → Does (shortened (array_text elements)) before (Ok made) after
  array_some kept made is does = does_assoc (mapped_then {part = short}
      {rest = λ (text : Text). shortened (give (enclosed text))} does
      (λ text has. does_then (does_give (enclosed text) after)
      (does_given (is ∙ ap (λ (one : Text). short (enclosed one)) (sym (short_is text kept has))))))

  pub array_none : Does (shortened (elements_text elements)) before (Ok None) after
      → Does (shortened (array_text elements)) before (Ok None) after
  array_none does = does_assoc (mapped_then {part = short} {rest = λ (text : Text). shortened (give (enclosed text))} does
      (λ text has. does_then (does_give (enclosed text) after) (does_given (sym (enclosed_long text has)))))

  pub array_no_memory : {kept : Option Text} {result : Result (Option Text) Stop}
      → Does (shortened (elements_text elements)) before (Ok kept) after
      → IsErrAnd result (λ given. given ≡ stop.NoMemory) → Does (shortened (array_text elements)) before result after
  array_no_memory {kept} {result} does exit = does_assoc (mapped_then {part = short}
      {rest = λ (text : Text). shortened (give (enclosed text))} does (λ text has. does_no_memory exit))

  pub array_stop : {result : Result (Option Text) Stop} {ended : Stop}
      → Does (shortened (elements_text elements)) before (Err ended) after → IsErrAnd result (λ given. given ≡ ended)
      → Does (shortened (array_text elements)) before result after
  array_stop does exit = does_assoc (mapped_stop {part = short} {rest = λ (text : Text). shortened (give (enclosed text))} does exit)

pub elements_split : {before after : Seen} {result : Result (Option Text) Stop} (elements : List Value) (first : Value)
    (rest : List Value) → elements ≡ first ∷ rest → Does (shortened (elements_text (first ∷ rest))) before result after
    → Does (shortened (elements_text elements)) before result after
elements_split {before} {after} {result} elements first rest is does =
    let At : List Value → Type 0 = λ these. Does (shortened (elements_text these)) before result after in
    subst At (sym is) does
