use Rattle.std.proofs.Common.{◌≡◌, ◌<◌, ◌∙◌, sym, ap, refl, length, Option, Some, slice_get, arith}
use Rattle.std.proofs.lemmas.Grind.{common_steps}
use Rattle.std.proofs.lemmas.Option.{slice_get_read}
use Rattle.look_up_cache.specs.declared.memory.Entry.{Entry}
use Rattle.look_up_cache.proofs.Places.{founds_renewed, all_found, all_coded}
use Rattle.look_up_cache.proofs.finding.keep_at.Goals as goal

pub returns-clause-founds : goal.returns-clause-founds
returns-clause-founds g c =
    let within : c.args.at < length c.args.methods.now.items = grind (arith, common_steps) in
    let here : slice_get c.args.methods.now.items c.args.at ≡ Some c.replace-entry.result =
    slice_get_read c.args.methods.now.items (length c.args.methods.now.items) c.args.at c.index_mut.result.now refl within
    c.index_mut.ensures.value ∙ ap (λ (entry : Option (Entry _)). Some entry) (sym c.replace-entry.ensures.value) in
    rw (c.replace-entry.ensures.after, c.with_code.ensures)
    (founds_renewed c.args.methods.now.items c.args.at c.replace-entry.result c.args.code here)

pub returns-clause-found : goal.returns-clause-found
returns-clause-found g c seen all =
    let within : c.args.at < length c.args.methods.now.items = grind (arith, common_steps) in
    let here : slice_get c.args.methods.now.items c.args.at ≡ Some c.replace-entry.result =
    slice_get_read c.args.methods.now.items (length c.args.methods.now.items) c.args.at c.index_mut.result.now refl within
    c.index_mut.ensures.value ∙ ap (λ (entry : Option (Entry _)). Some entry) (sym c.replace-entry.ensures.value) in
    rw (c.replace-entry.ensures.after, c.with_code.ensures)
    (all_found seen c.args.methods.now.items c.args.at c.replace-entry.result c.args.code here all)

pub returns-clause-coded : goal.returns-clause-coded
returns-clause-coded g c all =
    let within : c.args.at < length c.args.methods.now.items = grind (arith, common_steps) in
    let here : slice_get c.args.methods.now.items c.args.at ≡ Some c.replace-entry.result =
    slice_get_read c.args.methods.now.items (length c.args.methods.now.items) c.args.at c.index_mut.result.now refl within
    c.index_mut.ensures.value ∙ ap (λ (entry : Option (Entry _)). Some entry) (sym c.replace-entry.ensures.value) in
    rw (c.replace-entry.ensures.after, c.with_code.ensures)
    (all_coded g.T.MethodCodeKept.is_of c.args.methods.now.items c.args.at c.replace-entry.result c.args.code here c.requires all)
