use Rattle.std.proofs.Common.{◌≡◌, sym, subst, None}
use Rattle.std.proofs.lemmas.Option.{same_Some}
use Rattle.gem_object.specs.texts.Bytes.{Bytes as Text}
use Rattle.gem_language.specs.LookUp.{Start}
use Rattle.running_objects.specs.Seen.{Seen}
use Rattle.look_up_cache.specs.Remembered.{Finds}
use Rattle.look_up_cache.specs.Memory.{start_at, IsFound, BeginsFor}
use Rattle.look_up_cache.specs.declared.memory.Entry.{Entry}
use Rattle.look_up_cache.proofs.Again.{all_added}
use Rattle.look_up_cache.proofs.finding.remember.Goals as goal

pub returns-clause-holds : goal.returns-clause-holds
returns-clause-holds g c = λ holds.
    let seen : Seen = g.O.Objects.seen c.args.objects.now in
    let start : Start = c.requires.start in
    let same : start_at c.in-Some.start ≡ start =
    same_Some (start_at c.in-Some.start) start (c.in-Some.ensures start c.requires.begins) in
    let entry : Entry g.row.T.Denot =
    record { start = c.in-Some.start; selector = c.in_ok-clone.field-0; found = c.args.found; code = None } in
    record {
      receivers = c.remember_receiver.ensures seen
          (subst (λ (s : Start). BeginsFor c.args.receiver.now s seen) (sym same) c.requires.begins) holds.receivers;
      methods = all_added (IsFound seen) c.args.memory.now.methods.items c.put_at.new.places.items entry c.put_at.ensures.held
          (subst (λ (s : Start). Finds s c.in_ok-clone.field-0 c.args.found seen.setting seen.world) (sym same)
          (subst (λ (text : Text). Finds start text c.args.found seen.setting seen.world) (sym c.in_ok-clone.ensures.cases)
          c.requires.finds)) holds.methods;
      variables = holds.variables;
      counts = holds.counts;
      operators = holds.operators;
    }
