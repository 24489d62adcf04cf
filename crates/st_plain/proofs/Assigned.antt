-- Assignments from right to left, by those that are left.
use Rattle.std.proofs.Common.{◌≡◌, sym, ap, subst, ◌++◌, List, [], ◌∷◌, Ok, Err}
use Rattle.gem_object.specs.texts.Bytes.{Bytes as Text}
use Rattle.gem_object.specs.declared.value.Value.{Value}
use Rattle.object_programs.specs.gem_world.World.{Setting}
use Rattle.object_programs.specs.Local.{Local}
use Rattle.object_programs.specs.Run.{and_then, Outcome, onward, perform}
use Rattle.running_objects.specs.Seen.{Seen, with_local}
use Rattle.running_objects.specs.Ran.{Ran, Leads}
use Rattle.running_objects.specs.declared.stop.Stop.{Stop}
use Rattle.running_objects.proofs.Running.{ran_give, ran_then, ran_stop, leads_to, leads_then, leads_along, leads_self}
use Rattle.tree_meaning.specs.Place.{Place, Frame, MadeBlock}
use Rattle.tree_meaning.specs.Operands.{ValueRun}
use Rattle.tree_meaning.specs.Names.{where_is}
use Rattle.tree_meaning.specs.Meaning.{Outside, write_where, assign_all}

-- what the first of two programs leads to, followed by the second
leads_inside : {first rest : ValueRun} (second : Value → ValueRun) {before after : Seen} {local later : Local MadeBlock}
    → Leads first before local rest after later
    → Leads (and_then first second) before local (and_then rest second) after later
leads_inside {first} {rest} second {before} {after} {local} {later} leads =
    let next : Outcome MadeBlock Value → Outcome MadeBlock Value = λ outcome. onward outcome.end outcome.state
    (λ found left. perform (second found) before.setting left) in
    let At : Setting → Type 0 = λ setting. perform (and_then first second) before.setting (with_local before local)
    ≡ onward (perform rest after.setting (with_local after later)).end (perform rest after.setting (with_local after later)).state
    (λ found left. perform (second found) setting left) in
    record { keeps = leads.keeps; same = subst At (sym leads.keeps.setting) (ap next leads.same) }

module _ (given : Outside) (place : Place) (frame : Frame) where
  abbrev written : Text → Value → ValueRun
  written name value = write_where given (where_is name place.names) name frame value

  abbrev assigned_all : List Text → Value → ValueRun
  assigned_all names value = assign_all given names place frame value

  -- the last of the names is assigned first
  last_leads : (front : List Text) (last : Text) (value assigned : Value) {before after : Seen} {local later : Local MadeBlock}
      → Ran (written last value) before local (Ok assigned) after later
      → Leads (assigned_all (front ++ last ∷ []) value) before local (assigned_all front assigned) after later
  last_leads [] last value assigned {before} {after} {local} {later} ran =
      leads_along (leads_then (written last) (ran_give value before local)) (record { keeps = ran.keeps; same = ran.ends })
  last_leads (first ∷ rest) last value assigned ran = leads_inside (written first) (last_leads rest last value assigned ran)

  last_stops : (front : List Text) (last : Text) (value : Value) (ended : Stop) {before after : Seen} {local later : Local MadeBlock}
      → Ran (written last value) before local (Err ended) after later
      → Ran (assigned_all (front ++ last ∷ []) value) before local (Err ended) after later
  last_stops [] last value ended {before} {after} {local} {later} ran =
      ran_then (written last) (ran_give value before local) ran
  last_stops (first ∷ rest) last value ended ran = ran_stop (written first) (last_stops rest last value ended ran)

  module _ (names : List Text) (first_value : Value) (before : Seen) (local : Local MadeBlock) where
    pub assign_starts : Leads (assigned_all names first_value) before local (assigned_all names first_value) before local
    assign_starts = leads_self (assigned_all names first_value) before local

    module _ (rest front : List Text) (last : Text) (value : Value) {start : Seen} {middle : Local MadeBlock}
        (is : rest ≡ front ++ last ∷ [])
        (leads : Leads (assigned_all names first_value) before local (assigned_all rest value) start middle) where
      last_here : Leads (assigned_all names first_value) before local (assigned_all (front ++ last ∷ []) value) start middle
      last_here =
          let At : List Text → Type 0 = λ one. Leads (assigned_all names first_value) before local (assigned_all one value) start middle in
          subst At is leads

      pub assign_goes_on : (assigned : Value) {after : Seen} {later : Local MadeBlock} → Ran (written last value) start middle (Ok assigned) after later
          → Leads (assigned_all names first_value) before local (assigned_all front assigned) after later
      assign_goes_on assigned ran = leads_along last_here (last_leads front last value assigned ran)

      pub assign_stops : (ended : Stop) {after : Seen} {later : Local MadeBlock} → Ran (written last value) start middle (Err ended) after later
          → Ran (assigned_all names first_value) before local (Err ended) after later
      assign_stops ended ran = leads_to last_here (last_stops front last value ended ran)

    -- none is left
    pub assign_ends : (value : Value) {after : Seen} {later : Local MadeBlock}
        → Leads (assigned_all names first_value) before local (assigned_all [] value) after later
        → Ran (assigned_all names first_value) before local (Ok value) after later
    assign_ends value {after} {later} leads = leads_to leads (ran_give value after later)
