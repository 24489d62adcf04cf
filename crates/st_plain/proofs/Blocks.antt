-- Blocks that are evaluated in their place.
use Rattle.std.proofs.Common.{◌≡◌, refl, sym, subst, ◌∙◌, ℕ, ◌+◌, ◌<◌, ◌++◌, List, [], ◌∷◌, Option, length, length-append, replicate, Result, Ok, Err, arith}
use Rattle.gem_object.specs.texts.Bytes.{Bytes as Text}
use Rattle.gem_object.specs.declared.value.Value.{Value}
use Rattle.gem_object.specs.declared.value.Value.TheVariants.{Nil}
use Rattle.object_programs.specs.Local.{Local}
use Rattle.object_programs.specs.Run.{and_then}
use Rattle.running_objects.specs.Seen.{Seen}
use Rattle.running_objects.specs.Ran.{Ran}
use Rattle.running_objects.specs.declared.stop.Stop.{Stop}
use Rattle.tree_meaning.specs.Place.{Place, Frame, MadeBlock}
use Rattle.tree_meaning.specs.Operands.{ValueRun}
use Rattle.tree_meaning.specs.Scopes.{mark, with_scope, open_scope, give_back, in_scope}
use Rattle.tree_meaning.specs.Parts.{with_variables, hand, block_in_place, statements_in_turn}
use Rattle.tree_meaning.specs.Meaning.{Outside, statement_runs, closure_in_place}
use Rattle.tree_meaning.specs.Bodies.{statements_of}
use Rattle.st_tree.specs.Trees.{Closure, closure, Statements}
use Rattle.st_plain.specs.Choices.{params_of}
use Rattle.tree_meaning.specs.declared.place.Mark.{Mark}
use Rattle.st_plain.proofs.Runs.{in_scope_ran, in_scope_stop}

-- no names, so no scope
none_of : (first : List Text) (second : List Text) → length first + length second ≡ 0 → first ++ second ≡ []
none_of [] [] none = refl
none_of [] (name ∷ rest) none = absurd (omega (arith, none))
none_of (name ∷ rest) second none = absurd (omega (arith, none))

names_length : (params temps : List Text) → length params + length temps ≡ length (params ++ temps)
names_length params temps = sym (length-append params temps)

-- all names are counted, and their variables stand in the scope
all_names : (params temps : List Text) (count : ℕ) → count ≡ length params + length temps → count ≡ length (params ++ temps)
all_names params temps count is_count = is_count ∙ names_length params temps

some_name : (params temps : List Text) (count : ℕ) → 0 < count → count ≡ length params + length temps → 0 < length (params ++ temps)
some_name params temps count some is_count = let At : ℕ → Type 0 = λ one. 0 < one in subst At (all_names params temps count is_count) some

variables_open : (params temps : List Text) (values : List Value) (count : ℕ) (local opened : Local MadeBlock)
    → count ≡ length params + length temps → values ≡ replicate count Nil → opened ≡ open_scope values local
    → opened ≡ open_scope (replicate (length (params ++ temps)) Nil) local
variables_open params temps values count local opened is_count are_values is_opened =
    let AtValues : List Value → Type 0 = λ one. opened ≡ open_scope one local in
    let At : ℕ → Type 0 = λ one. opened ≡ open_scope (replicate one Nil) local in
    subst At (all_names params temps count is_count) (subst AtValues are_values is_opened)

module _ (params temps : List Text) (body : Place → Frame → ValueRun) (place : Place) (handed : Option Value) (frame : Frame) where
  -- what a block with these names does in its scope
  abbrev inside_by : List Text → Frame → ValueRun
  inside_by names inner = and_then (hand params handed inner) (λ done. body (with_variables names place) inner)

  -- A block without variables has no scope of its own.
  pub block_without_scope : {before after : Seen} {local later : Local MadeBlock} {result : Result Value Stop}
      → length params + length temps ≡ 0
      → Ran (and_then (hand params handed frame) (λ done. body place frame)) before local result after later
      → Ran (block_in_place params temps body place handed frame) before local result after later
  block_without_scope {before} {after} {local} {later} {result} none ran =
      let At : List Text → Type 0 = λ names. Ran (in_scope (length names) frame (inside_by names)) before local result after later in
      subst At (sym (none_of params temps none)) ran

  -- A block with variables ran in a scope of its own, which is given back, or it stopped there.
  module _ {before after : Seen} {local opened middle : Local MadeBlock} (here : Mark) (inside : Place) (inner : Frame)
      (values : List Value) (count : ℕ) (some : 0 < count) (is_count : count ≡ length params + length temps)
      (is_mark : here ≡ mark local) (is_inside : inside ≡ with_variables (params ++ temps) place)
      (is_inner : inner ≡ with_scope here frame) (are_values : values ≡ replicate count Nil) (is_opened : opened ≡ open_scope values local) where
    pub block_ran : (answer : Value) (later : Local MadeBlock)
        → Ran (and_then (hand params handed inner) (λ done. body inside inner)) before opened (Ok answer) after middle
        → later ≡ give_back here middle → Ran (block_in_place params temps body place handed frame) before local (Ok answer) after later
    block_ran answer later ran is_later =
        let AtPlace : Place → Type 0 =
        λ one. Ran (and_then (hand params handed inner) (λ done. body one inner)) before opened (Ok answer) after middle in
        in_scope_ran frame (inside_by (params ++ temps)) here inner is_mark is_inner (length (params ++ temps))
        (some_name params temps count some is_count) answer later
        (variables_open params temps values count local opened is_count are_values is_opened) (subst AtPlace is_inside ran) is_later

    pub block_stop : (ended : Stop)
        → Ran (and_then (hand params handed inner) (λ done. body inside inner)) before opened (Err ended) after middle
        → Ran (block_in_place params temps body place handed frame) before local (Err ended) after middle
    block_stop ended ran =
        let AtPlace : Place → Type 0 =
        λ one. Ran (and_then (hand params handed inner) (λ done. body one inner)) before opened (Err ended) after middle in
        in_scope_stop frame (inside_by (params ++ temps)) here inner is_mark is_inner (length (params ++ temps))
        (some_name params temps count some is_count) ended
        (variables_open params temps values count local opened is_count are_values is_opened) (subst AtPlace is_inside ran)

-- the parameter and the statements of a block
abbrev pub body_run : Outside → Closure → Option Value → Place → Frame → ValueRun
body_run outside tree handed place frame = and_then (hand (params_of tree) handed frame) (λ done.
    statements_in_turn (statement_runs outside (statements_of tree)) place frame)

module _ (outside : Outside) (params temps : List Text) (body : Statements) (tree : Closure) (is_tree : closure params temps body ≡ tree)
    (place : Place) (handed : Option Value) (frame : Frame) where
  -- The same of a literal block.
  pub closure_without_scope : {before after : Seen} {local later : Local MadeBlock} {result : Result Value Stop}
      → length params + length temps ≡ 0 → Ran (body_run outside tree handed place frame) before local result after later
      → Ran (closure_in_place outside tree place handed frame) before local result after later
  closure_without_scope {before} {after} {local} {later} {result} none ran =
      let From : Closure → Type 0 = λ one. Ran (body_run outside one handed place frame) before local result after later in
      let At : Closure → Type 0 = λ one. Ran (closure_in_place outside one place handed frame) before local result after later in
      subst At is_tree (block_without_scope params temps (statements_in_turn (statement_runs outside body)) place handed frame none
      (subst From (sym is_tree) ran))

  module _ {before after : Seen} {local opened middle : Local MadeBlock} (here : Mark) (inside : Place) (inner : Frame)
      (values : List Value) (count : ℕ) (some : 0 < count) (is_count : count ≡ length params + length temps)
      (is_mark : here ≡ mark local) (is_inside : inside ≡ with_variables (params ++ temps) place)
      (is_inner : inner ≡ with_scope here frame) (are_values : values ≡ replicate count Nil) (is_opened : opened ≡ open_scope values local) where
    pub closure_ran : (answer : Value) (later : Local MadeBlock)
        → Ran (body_run outside tree handed inside inner) before opened (Ok answer) after middle → later ≡ give_back here middle
        → Ran (closure_in_place outside tree place handed frame) before local (Ok answer) after later
    closure_ran answer later ran is_later =
        let From : Closure → Type 0 = λ one. Ran (body_run outside one handed inside inner) before opened (Ok answer) after middle in
        let At : Closure → Type 0 = λ one. Ran (closure_in_place outside one place handed frame) before local (Ok answer) after later in
        subst At is_tree (block_ran params temps (statements_in_turn (statement_runs outside body)) place handed frame
        here inside inner values count some is_count is_mark is_inside is_inner are_values is_opened answer later
        (subst From (sym is_tree) ran) is_later)

    pub closure_stop : (ended : Stop) → Ran (body_run outside tree handed inside inner) before opened (Err ended) after middle
        → Ran (closure_in_place outside tree place handed frame) before local (Err ended) after middle
    closure_stop ended ran =
        let From : Closure → Type 0 = λ one. Ran (body_run outside one handed inside inner) before opened (Err ended) after middle in
        let At : Closure → Type 0 = λ one. Ran (closure_in_place outside one place handed frame) before local (Err ended) after middle in
        subst At is_tree (block_stop params temps (statements_in_turn (statement_runs outside body)) place handed frame
        here inside inner values count some is_count is_mark is_inside is_inner are_values is_opened ended
        (subst From (sym is_tree) ran))
