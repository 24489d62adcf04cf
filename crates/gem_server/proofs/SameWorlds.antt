-- Performing a program does the same, whether objects stand in finite maps or are seen through functions.
use Rattle.std.proofs.Common.{◌≡◌, ℕ, zero, suc, ◌+◌, Bool, true, false, ◌&&◌, cond, length, List, [], ◌∷◌, Option, None, Some, refl, sym, ap, subst}
use Rattle.std.proofs.Math.Path.{fun_ext}
use Rattle.std.proofs.lemmas.Cmp.{nat_cmp_total}
use Rattle.std.specs.Prelude.{nat_le}
use Rattle.std.specs.Ordering.{nat_cmp}
use Rattle.std.specs.FinMap.{FinMap, get, insert, empty, get-empty, get-insert}
use Rattle.gem_meaning.specs.texts.Bytes.{Bytes as Text}
use Rattle.gem_meaning.specs.gem_object.Kinds.{is_shared}
use Rattle.gem_meaning.specs.gem_object.declared.body.Body.{Body}
use Rattle.gem_meaning.specs.gem_image.Image.{Contents, objects_in}
use Rattle.gem_meaning.specs.gem_update.Update.{updated}
use Rattle.gem_meaning.specs.gem_update.declared.update.Update.{Update}
use Rattle.gem_meaning.specs.gem_world.World.{Setting, World, untouched, name_of, shown, is_made, is_private, touch}
use Rattle.gem_meaning.specs.gem_world.Access.{Access, a_read, a_write, is_allowed, touches_of, with_touches, after_allowed, accessed}
use Rattle.gem_meaning.specs.gem_world.Changes.{with_body, in_segment, put, make, note}
use Rattle.gem_meaning.specs.object_programs.Budget.{Budget, whole_budget, bytes_cost, may_write}
use Rattle.gem_meaning.specs.object_programs.Guard.{Parts, may_change, may_replace, may_make}
use Rattle.gem_meaning.specs.object_programs.Local.{nothing}
use Rattle.gem_meaning.specs.object_programs.Atom.{Atom, Ask, Own, Kind, Made, Who, Put, Move, Note, Names, Make, Tick, Room, Show, Done, done, touch_missing, noted, replaced_where, edited_at, edited, updated_by, updated_at, updated_where, after_update, MakeCheck, too_large, no_name, no_space, no_fault, make_check, with_new, made_where, made_by, named_where, ticked, spent_where, shown_where}
use Rattle.gem_meaning.specs.object_programs.Run.{Run, give, fail, return_to, atom, seeing, become, and_then, ending, Ending, gives, returns, fails, end_of, State, Outcome, onward, perform}
use Rattle.gem_meaning.specs.object_programs.declared.limits.TheConstants.{COUNTER_LIMIT}
use Rattle.gem_server.proofs.PlainWorlds.{PlainSetting, PlainWorld, plain_drawn, plain_touch, plain_put, plain_make, plain_note, plain_touches_of, plain_with_touches, plain_after_allowed, plain_accessed, plain_touch_missing, plain_noted, plain_replaced_where, plain_edited_at, plain_edited, plain_updated_by, plain_updated_at, plain_updated_where, plain_after_update, plain_with_new, PlainDone, plain_made_where, plain_made_by, plain_named_where, plain_ticked, plain_spent_where, plain_shown_where, plain_done, PlainState, PlainOutcome, plain_onward, plain_perform}

abbrev pub plain_setting : Setting → PlainSetting
plain_setting s = record {
  place = objects_in s.place;
  view = objects_in s.view;
  user = s.user;
  serial = s.serial;
  first = s.first;
}

-- changes as the list of them, the last one first
abbrev pub changes_of : List (ℕ × Contents) → FinMap nat_cmp Contents
changes_of [] = empty
changes_of ((name, object) ∷ rest) = insert (changes_of rest) name object

-- the world with these changes
abbrev pub plain_world : Setting → World → List (ℕ × Contents) → PlainWorld
plain_world s w log = record {
  next = w.next;
  drawn = plain_drawn (plain_setting s) w.next;
  look = get w.changes;
  log = log;
  updates = w.updates;
  touched = w.touched;
}

pub record IsWorld (s : Setting) (w : World) (p : PlainWorld) : Type 0 where
  pub logged : w.changes ≡ changes_of p.log
  pub is : p ≡ plain_world s w p.log

pub of_world : (s : Setting) (P : World → PlainWorld → Type 0)
    → ((w : World) (log : List (ℕ × Contents)) → w.changes ≡ changes_of log → P w (plain_world s w log))
    → (w : World) (p : PlainWorld) → IsWorld s w p → P w p
of_world s P base w p same = subst (P w) (sym same.is) (base w p.log same.logged)

itself : (s : Setting) (w : World) (log : List (ℕ × Contents)) → w.changes ≡ changes_of log → IsWorld s w (plain_world s w log)
itself s w log logged = record { logged = logged; is = refl }

cond_world : (s : Setting) (b : Bool) (w v : World) (p q : PlainWorld) → IsWorld s w p → IsWorld s v q → IsWorld s (cond b w v) (cond b p q)
cond_world s true w v p q first second = first
cond_world s false w v p q first second = second

-- ---- changes

same_put : (s : Setting) (name : ℕ) (object : Contents) (w : World) (p : PlainWorld) → IsWorld s w p
    → IsWorld s (put name object w) (plain_put name object p)
unfolding put
same_put s name object = of_world s (λ w p. IsWorld s (put name object w) (plain_put name object p)) (λ w log logged.
    let look : get (insert w.changes name object) ≡ _ = fun_ext (get-insert nat_cmp_total w.changes name object) in
    record {
      logged = ap (λ m. insert m name object) logged;
      is = λ i. record {
        next = w.next;
        drawn = plain_drawn (plain_setting s) w.next;
        look = sym look i;
        log = (name, object) ∷ log;
        updates = w.updates;
        touched = w.touched;
      };
    })

same_make : (object : Contents) (s : Setting) (w : World) (p : PlainWorld) → IsWorld s w p
    → IsWorld s (make object s w) (plain_make object (plain_setting s) p)
unfolding make
same_make object s = of_world s (λ w p. IsWorld s (make object s w) (plain_make object (plain_setting s) p)) (λ w log logged.
    let name : ℕ = name_of s w.next in
    let look : get (insert w.changes name object) ≡ _ = fun_ext (get-insert nat_cmp_total w.changes name object) in
    record {
      logged = ap (λ m. insert m name object) logged;
      is = λ i. record {
        next = w.next + 1;
        drawn = plain_drawn (plain_setting s) (w.next + 1);
        look = sym look i;
        log = (name, object) ∷ log;
        updates = w.updates;
        touched = w.touched;
      };
    })

same_touch : (name : ℕ) (s : Setting) (w : World) (p : PlainWorld) → IsWorld s w p
    → IsWorld s (touch name s w) (plain_touch name (plain_setting s) p)
unfolding touch is_private is_made
same_touch name s = of_world s (λ w p. IsWorld s (touch name s w) (plain_touch name (plain_setting s) p))
    (λ w log logged. record { logged = logged; is = refl })

same_note : (name : ℕ) (update : Update) (s : Setting) (w : World) (p : PlainWorld) → IsWorld s w p
    → IsWorld s (note name update s w) (plain_note name update (plain_setting s) p)
unfolding note is_made
same_note name update s = of_world s (λ w p. IsWorld s (note name update s w) (plain_note name update (plain_setting s) p))
    (λ w log logged. record { logged = logged; is = refl })

same_missing : (s : Setting) (parts : Parts) (names : List ℕ) (w : World) (p : PlainWorld) → IsWorld s w p
    → IsWorld s (touch_missing parts names w) (plain_touch_missing parts names p)
unfolding touch_missing
same_missing s parts names = of_world s (λ w p. IsWorld s (touch_missing parts names w) (plain_touch_missing parts names p))
    (λ w log logged. record { logged = logged; is = refl })

-- ---- accesses

same_touches_of : (name : ℕ) (there : Option Contents) (s : Setting) (w : World) (p : PlainWorld) → IsWorld s w p
    → IsWorld s (touches_of name there s w) (plain_touches_of name there (plain_setting s) p)
same_touches_of name None s w p same = same_touch name s w p same
same_touches_of name (Some object) s w p same =
    same_touch s.user s _ _ (same_touch object.segment s _ _ (same_touch name s w p same))

same_with_touches : (name : ℕ) (s : Setting) (w : World) (p : PlainWorld) → IsWorld s w p
    → IsWorld s (with_touches name s w) (plain_with_touches name (plain_setting s) p)
unfolding with_touches
same_with_touches name s = of_world s (λ w p. IsWorld s (with_touches name s w) (plain_with_touches name (plain_setting s) p))
    (λ w log logged. same_touches_of name (shown name s w) s w (plain_world s w log) (itself s w log logged))

same_after_allowed : (s : Setting) (access : Access) (name : ℕ) (there : Option Contents) (w : World) (p : PlainWorld) → IsWorld s w p
    → IsWorld s (after_allowed access name there w) (plain_after_allowed access name there p)
same_after_allowed s a_read name there w p same = same
same_after_allowed s a_write name None w p same = same
same_after_allowed s a_write name (Some object) w p same =
    cond_world s (is_shared object.body) w (put name object w) p (plain_put name object p) same (same_put s name object w p same)

same_accessed : (access : Access) (name : ℕ) (s : Setting) (w : World) (p : PlainWorld) → IsWorld s w p
    → IsWorld s (accessed access name s w) (plain_accessed access name (plain_setting s) p)
unfolding accessed is_allowed
same_accessed access name s = of_world s (λ w p. IsWorld s (accessed access name s w) (plain_accessed access name (plain_setting s) p))
    (λ w log logged.
    let touched = same_with_touches name s w (plain_world s w log) (itself s w log logged) in
    cond_world s (is_allowed access name s w) _ _ _ _
    (same_after_allowed s access name (shown name s w) _ _ touched) touched)

-- ---- edits and updates

same_noted : (name : ℕ) (update : Option Update) (s : Setting) (w : World) (p : PlainWorld) → IsWorld s w p
    → IsWorld s (noted name update s w) (plain_noted name update (plain_setting s) p)
same_noted name None s w p same = same
same_noted name (Some update) s w p same = same_note name update s w p same

same_replaced : (may : Bool) (name : ℕ) (update : Option Update) (new : Contents) (s : Setting) (w : World) (p : PlainWorld)
    → IsWorld s w p
    → IsWorld s (replaced_where may name update new s w) (plain_replaced_where may name update new (plain_setting s) p)
same_replaced true name update new s w p same = same_put s name new _ _ (same_noted name update s w p same)
same_replaced false name update new s w p same = of_world s
    (λ w p. IsWorld s (replaced_where false name update new s w) (plain_replaced_where false name update new (plain_setting s) p))
    (λ w log logged. same_missing s _ _ w (plain_world s w log) (itself s w log logged)) w p same

same_edited_at : (name : ℕ) (edit : Contents → Contents) (there : Option Contents) (s : Setting) (w : World) (p : PlainWorld)
    → IsWorld s w p → IsWorld s (edited_at name edit there s w) (plain_edited_at name edit there (plain_setting s) p)
unfolding may_change may_replace is_made
same_edited_at name edit None s w p same = same
same_edited_at name edit (Some old) s w p same = of_world s
    (λ w p. IsWorld s (edited_at name edit (Some old) s w) (plain_edited_at name edit (Some old) (plain_setting s) p))
    (λ w log logged. same_replaced (may_change name old s w && may_replace name old (edit old) s w) name None (edit old) s
    w (plain_world s w log) (itself s w log logged)) w p same

same_edited : (name : ℕ) (edit : Contents → Contents) (s : Setting) (w : World) (p : PlainWorld)
    → IsWorld s w p → IsWorld s (edited name edit s w) (plain_edited name edit (plain_setting s) p)
unfolding edited
same_edited name edit s = of_world s (λ w p. IsWorld s (edited name edit s w) (plain_edited name edit (plain_setting s) p))
    (λ w log logged. same_edited_at name edit (get w.changes name) s w (plain_world s w log) (itself s w log logged))

same_updated_by : (name : ℕ) (update : Update) (old : Contents) (body : Option Body) (s : Setting) (w : World) (p : PlainWorld)
    → IsWorld s w p
    → IsWorld s (updated_by name update old body s w) (plain_updated_by name update old body (plain_setting s) p)
unfolding may_replace
same_updated_by name update old None s w p same = same
same_updated_by name update old (Some body) s w p same = of_world s
    (λ w p. IsWorld s (updated_by name update old (Some body) s w) (plain_updated_by name update old (Some body) (plain_setting s) p))
    (λ w log logged. same_replaced (may_replace name old (with_body body old) s w) name (Some update) (with_body body old) s
    w (plain_world s w log) (itself s w log logged)) w p same

same_updated_at : (name : ℕ) (update : Update) (there : Option Contents) (s : Setting) (w : World) (p : PlainWorld)
    → IsWorld s w p → IsWorld s (updated_at name update there s w) (plain_updated_at name update there (plain_setting s) p)
same_updated_at name update None s w p same = same
same_updated_at name update (Some old) s w p same = same_updated_by name update old (updated update old.body) s w p same

same_updated_where : (allowed : Bool) (name : ℕ) (update : Update) (s : Setting) (w : World) (p : PlainWorld)
    → IsWorld s w p
    → IsWorld s (updated_where allowed name update s w) (plain_updated_where allowed name update (plain_setting s) p)
same_updated_where true name update s w p same = of_world s
    (λ w p. IsWorld s (updated_where true name update s w) (plain_updated_where true name update (plain_setting s) p))
    (λ w log logged. same_updated_at name update (shown name s w) s w (plain_world s w log) (itself s w log logged)) w p same
same_updated_where false name update s w p same = same

same_after_update : (name : ℕ) (update : Update) (s : Setting) (w : World) (p : PlainWorld) → IsWorld s w p
    → IsWorld s (after_update name update s w) (plain_after_update name update (plain_setting s) p)
unfolding after_update is_allowed
same_after_update name update s = of_world s
    (λ w p. IsWorld s (after_update name update s w) (plain_after_update name update (plain_setting s) p))
    (λ w log logged. same_updated_where (is_allowed a_write name s w) name update s _ _
    (same_with_touches name s w (plain_world s w log) (itself s w log logged)))

same_with_new : (objects : List Contents) (s : Setting) (w : World) (p : PlainWorld) → IsWorld s w p
    → IsWorld s (with_new objects s w) (plain_with_new objects (plain_setting s) p)
same_with_new [] s w p same = same
same_with_new (object ∷ rest) s w p same = same_with_new rest s _ _ (same_make object s w p same)

-- ---- atoms

pub record IsDone {A : Type 0} (s : Setting) (d : Done A) (p : PlainDone A) : Type 0 where
  pub answer : p.answer ≡ d.answer
  pub world : IsWorld s d.world p.world
  pub budget : p.budget ≡ d.budget

same_made_where : (may : Bool) (objects : List Contents) (s : Setting) (w : World) (log : List (ℕ × Contents)) (b : Budget)
    → w.changes ≡ changes_of log
    → IsDone s (made_where may objects s w b) (plain_made_where may objects (plain_setting s) (plain_world s w log) b)
same_made_where true objects s w log b logged = record {
  answer = refl;
  world = same_with_new objects s w (plain_world s w log) (itself s w log logged);
  budget = refl;
}
same_made_where false objects s w log b logged = record {
  answer = refl;
  world = same_missing s _ _ w (plain_world s w log) (itself s w log logged);
  budget = refl;
}

same_made_by : (check : MakeCheck) (objects : List Contents) (s : Setting) (w : World) (log : List (ℕ × Contents)) (b : Budget)
    → w.changes ≡ changes_of log
    → IsDone s (made_by check objects s w b) (plain_made_by check objects (plain_setting s) (plain_world s w log) b)
unfolding may_make
same_made_by too_large objects s w log b logged = record { answer = refl; world = itself s w log logged; budget = refl }
same_made_by no_name objects s w log b logged = record { answer = refl; world = itself s w log logged; budget = refl }
same_made_by no_space objects s w log b logged = record { answer = refl; world = itself s w log logged; budget = refl }
same_made_by no_fault objects s w log b logged = same_made_where (may_make objects s w) objects s w log b logged

same_named : (s : Setting) (may : Bool) (w : World) (p : PlainWorld) (b : Budget) → IsWorld s w p
    → IsDone s (named_where may w b) (plain_named_where may p b)
same_named s true w p b same = record { answer = refl; world = same; budget = refl }
same_named s false w p b same = record { answer = refl; world = same; budget = refl }

same_ticked : (s : Setting) (units : ℕ) (w : World) (p : PlainWorld) (b : Budget) → IsWorld s w p
    → IsDone s (ticked units w b) (plain_ticked units p b)
same_ticked s zero w p b same = record { answer = refl; world = same; budget = refl }
same_ticked s (suc units) w p b same = record { answer = refl; world = same; budget = refl }

same_spent : (s : Setting) (may : Bool) (slots : ℕ) (w : World) (p : PlainWorld) (b : Budget) → IsWorld s w p
    → IsDone s (spent_where may slots w b) (plain_spent_where may slots p b)
same_spent s true slots w p b same = record { answer = refl; world = same; budget = refl }
same_spent s false slots w p b same = record { answer = refl; world = same; budget = refl }

same_shown : (s : Setting) (fits has_space : Bool) (text : Text) (w : World) (p : PlainWorld) (b : Budget) → IsWorld s w p
    → IsDone s (shown_where fits has_space text w b) (plain_shown_where fits has_space text p b)
same_shown s false has_space text w p b same = record { answer = refl; world = same; budget = refl }
same_shown s true false text w p b same = record { answer = refl; world = same; budget = refl }
same_shown s true true text w p b same = record { answer = refl; world = same; budget = refl }

same_done_at : {A : Type 0} (one : Atom A) (s : Setting) (b : Budget) (w : World) (log : List (ℕ × Contents))
    → w.changes ≡ changes_of log → IsDone s (done one s w b) (plain_done one (plain_setting s) (plain_world s w log) b)
unfolding is_allowed is_made
same_done_at (Ask access name) s b w log logged = record {
  answer = refl;
  world = same_accessed access name s w (plain_world s w log) (itself s w log logged);
  budget = refl;
}
same_done_at Own s b w log logged = record {
  answer = refl;
  world = same_touch s.user s w (plain_world s w log) (itself s w log logged);
  budget = refl;
}
same_done_at (Kind name) s b w log logged = record {
  answer = refl;
  world = same_missing s _ _ w (plain_world s w log) (itself s w log logged);
  budget = refl;
}
same_done_at (Made name) s b w log logged = record { answer = refl; world = itself s w log logged; budget = refl }
same_done_at Who s b w log logged = record { answer = refl; world = itself s w log logged; budget = refl }
same_done_at (Put name body) s b w log logged = record {
  answer = refl;
  world = same_edited name (with_body body) s w (plain_world s w log) (itself s w log logged);
  budget = refl;
}
same_done_at (Move name segment) s b w log logged = record {
  answer = refl;
  world = same_edited name (in_segment segment) s w (plain_world s w log) (itself s w log logged);
  budget = refl;
}
same_done_at (Note name update) s b w log logged = record {
  answer = refl;
  world = same_after_update name update s w (plain_world s w log) (itself s w log logged);
  budget = refl;
}
same_done_at (Names count) s b w log logged =
    same_named s (nat_le (w.next + count) COUNTER_LIMIT) w (plain_world s w log) b (itself s w log logged)
same_done_at (Make objects_at) s b w log logged =
    let objects = objects_at (name_of s w.next) in
    same_made_by (make_check objects w b) objects s w log b logged
same_done_at Tick s b w log logged = same_ticked s b.units w (plain_world s w log) b (itself s w log logged)
same_done_at (Room slots) s b w log logged =
    same_spent s (nat_le slots b.slots) slots w (plain_world s w log) b (itself s w log logged)
same_done_at (Show text) s b w log logged = same_shown s (may_write text b)
    (nat_le (bytes_cost (length text)) b.slots) text w (plain_world s w log) b (itself s w log logged)

-- ---- programs

module _ {B : Type 0} where
  pub record IsState (s : Setting) (st : State B) (p : PlainState B) : Type 0 where
    pub world : IsWorld s st.world p.world
    pub budget : p.budget ≡ st.budget
    pub local : p.local ≡ st.local

  pub record IsOutcome {A : Type 0} (s : Setting) (o : Outcome B A) (p : PlainOutcome B A) : Type 0 where
    pub end : p.end ≡ o.end
    pub state : IsState s o.state p.state

  -- a state with the same budget and the same that is local
  of_state : (s : Setting) (P : State B → PlainState B → Type 0)
      → ((st : State B) (p : PlainWorld) → IsWorld s st.world p
      → P st (record { world = p; budget = st.budget; local = st.local }))
      → (st : State B) (p : PlainState B) → IsState s st p → P st p
  of_state s P base st p same = subst (P st)
      (λ i. record { world = p.world; budget = sym same.budget i; local = sym same.local i })
      (base st p.world same.world)

  same_atom : {A : Type 0} (one : Atom A) (s : Setting) (st : State B) (p : PlainState B) → IsState s st p
      → IsOutcome s (perform (atom one) s st) (plain_perform (atom one) (plain_setting s) p)
  same_atom one s = of_state s (λ st p. IsOutcome s (perform (atom one) s st) (plain_perform (atom one) (plain_setting s) p))
      (λ st p same.
      let after = of_world s (λ w p. IsDone s (done one s w st.budget) (plain_done one (plain_setting s) p st.budget))
      (same_done_at one s st.budget) st.world p same in
      record {
        end = ap end_of after.answer;
        state = record { world = after.world; budget = after.budget; local = refl };
      })

  same_onward_at : {A C : Type 0} (s : Setting) (second : C → State B → Outcome B A) (other : C → PlainState B → PlainOutcome B A)
      → ((answer : C) (st : State B) (p : PlainState B) → IsState s st p → IsOutcome s (second answer st) (other answer p))
      → (end : Ending C) (st : State B) (p : PlainState B) → IsState s st p
      → IsOutcome s (onward end st second) (plain_onward end p other)
  same_onward_at s second other next (gives answer) st p same = next answer st p same
  same_onward_at s second other next (returns value home) st p same = record { end = refl; state = same }
  same_onward_at s second other next (fails fault) st p same = record { end = refl; state = same }

  same_onward : {A C : Type 0} (s : Setting) (second : C → State B → Outcome B A) (other : C → PlainState B → PlainOutcome B A)
      → ((answer : C) (st : State B) (p : PlainState B) → IsState s st p → IsOutcome s (second answer st) (other answer p))
      → (o : Outcome B C) (p : PlainOutcome B C) → IsOutcome s o p
      → IsOutcome s (onward o.end o.state second) (plain_onward p.end p.state other)
  same_onward s second other next o p same = subst (λ end. IsOutcome s (onward o.end o.state second) (plain_onward end p.state other))
      (sym same.end) (same_onward_at s second other next o.end o.state p.state same.state)

  pub same_perform : {A : Type 0} (program : Run B A) (s : Setting) (st : State B) (p : PlainState B) → IsState s st p
      → IsOutcome s (perform program s st) (plain_perform program (plain_setting s) p)
  same_perform (give answer) s st p same = record { end = refl; state = same }
  same_perform (fail fault) s st p same = record { end = refl; state = same }
  same_perform (return_to value home) s st p same = record { end = refl; state = same }
  same_perform (atom one) s st p same = same_atom one s st p same
  same_perform (seeing see) s st p same = of_state s
      (λ st p. IsOutcome s (perform (seeing see) s st) (plain_perform (seeing see) (plain_setting s) p))
      (λ st p same. same_perform (see st.budget st.local) s st (record { world = p; budget = st.budget; local = st.local })
      (record { world = same; budget = refl; local = refl }))
      st p same
  same_perform (become local) s st p same =
      record { end = refl; state = record { world = same.world; budget = same.budget; local = refl } }
  same_perform (and_then first second) s st p same = same_onward s
      (λ answer after. perform (second answer) s after)
      (λ answer after. plain_perform (second answer) (plain_setting s) after)
      (λ answer after other both. same_perform (second answer) s after other both)
      (perform first s st) (plain_perform first (plain_setting s) p) (same_perform first s st p same)
  same_perform (ending first second) s st p same =
      let before = perform first s st in
      let plain = plain_perform first (plain_setting s) p in
      let both = same_perform first s st p same in
      subst (λ end. IsOutcome s (perform (second before.end) s before.state) (plain_perform (second end) (plain_setting s) plain.state))
      (sym both.end) (same_perform (second before.end) s before.state plain.state both.state)

-- ---- a command

abbrev pub nothing_done : (next : ℕ) → (ℕ → Bool) → PlainWorld
nothing_done next drawn =
    record { next = next; drawn = drawn; look = λ name. None; log = []; updates = []; touched = [] }

abbrev pub begin_plain : {B : Type 0} → PlainWorld → PlainState B
begin_plain {B} world = record { world = world; budget = whole_budget; local = nothing B }

abbrev pub begin_untouched : {B : Type 0} → ℕ → State B
begin_untouched {B} next = record { world = untouched next; budget = whole_budget; local = nothing B }

untouched_is : (s : Setting) (next : ℕ)
    → IsWorld s (untouched next) (nothing_done next (plain_drawn (plain_setting s) next))
untouched_is s next =
    let look : get (empty {X = Contents} {R = nat_cmp}) ≡ (λ name. None) = fun_ext (get-empty nat_cmp) in
    record {
      logged = refl;
      is = λ i. record {
        next = next;
        drawn = plain_drawn (plain_setting s) next;
        look = sym look i;
        log = [];
        updates = [];
        touched = [];
      };
    }

-- what a program does first in a transaction, where the setting shows this
pub same_begun : {B A : Type 0} (program : Run B A) (s : Setting) (next : ℕ) (shown : PlainSetting) → plain_setting s ≡ shown
    → (drawn : ℕ → Bool) → plain_drawn shown next ≡ drawn
    → IsOutcome s (perform program s (begin_untouched next)) (plain_perform program shown (begin_plain (nothing_done next drawn)))
same_begun {B} program s next shown is drawn drawn_is =
    subst (λ d. IsOutcome s (perform program s (begin_untouched next)) (plain_perform program shown (begin_plain (nothing_done next d)))) drawn_is
    (subst (λ p. IsOutcome s (perform program s (begin_untouched next))
    (plain_perform program p (begin_plain (nothing_done next (plain_drawn p next))))) is
    (same_perform program s (begin_untouched next) (begin_plain (nothing_done next (plain_drawn (plain_setting s) next)))
    (record { world = untouched_is s next; budget = refl; local = refl })))
