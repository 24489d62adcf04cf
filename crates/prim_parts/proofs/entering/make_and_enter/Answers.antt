use Rattle.std.proofs.Common.{◌≡◌, List, length, map, ap, ◌∙◌, arith}
use Rattle.std.specs.List.{list_all}
use Rattle.gem_object.specs.declared.object.Object.{Object}
use Rattle.gem_sound.specs.gem_image.Image.{contents_of}
use Rattle.object_programs.specs.Budget.{is_within_limits}
use Rattle.prim_parts.proofs.Entries.{entry_large, dictionary_large, entry_unnamed, entry_no_room, entry_made, all_small}
use Rattle.prim_parts.proofs.entering.make_and_enter.Goals as goal

pub returns-in_err-check : goal.returns-in_err-check
returns-in_err-check g c = λ entered receiver are name there.
    let small : c.are_small.result ≡ list_all is_within_limits (map contents_of c.args.made.items) = c.are_small.ensures
    ∙ ap (λ (objects : List Object). list_all (λ object. is_within_limits (contents_of object)) objects) c.as_slice.ensures.value
    ∙ all_small c.args.made.items in
    entry_large entered receiver c.args.made.items c.args.chosen c.args.key c.args.dictionary are name c.are_small.result small
    c.in_err-check.ensures c.from_residual.ensures.1

pub returns-in_err-growth : goal.returns-in_err-growth
returns-in_err-growth g c = λ entered receiver are name there.
    let small : c.are_small.result ≡ list_all is_within_limits (map contents_of c.args.made.items) = c.are_small.ensures
    ∙ ap (λ (objects : List Object). list_all (λ object. is_within_limits (contents_of object)) objects) c.as_slice.ensures.value
    ∙ all_small c.args.made.items in
    dictionary_large entered receiver c.args.made.items c.args.chosen c.args.key c.args.dictionary are name c.are_small.result small
    c.in_ok-check.ensures (c.in_err-growth.ensures receiver.object there) c.from_residual-in_err-growth.ensures.1

pub returns-in_err-names : goal.returns-in_err-names
returns-in_err-names g c = λ entered receiver are name there.
    let small : c.are_small.result ≡ list_all is_within_limits (map contents_of c.args.made.items) = c.are_small.ensures
    ∙ ap (λ (objects : List Object). list_all (λ object. is_within_limits (contents_of object)) objects) c.as_slice.ensures.value
    ∙ all_small c.args.made.items in
    let count : c.len.result ≡ length c.args.made.items = omega arith in
    entry_unnamed entered receiver c.args.made.items c.args.chosen c.args.key c.args.dictionary are name c.are_small.result small
    c.in_ok-growth.growth c.len.result count c.in_ok-check.ensures (c.in_ok-growth.ensures receiver.object there)
    c.in_err-names.ensures c.from_residual-in_err-names.ensures.1

pub returns-in_err-room : goal.returns-in_err-room
returns-in_err-room g c = λ entered receiver are name there.
    let small : c.are_small.result ≡ list_all is_within_limits (map contents_of c.args.made.items) = c.are_small.ensures
    ∙ ap (λ (objects : List Object). list_all (λ object. is_within_limits (contents_of object)) objects) c.as_slice.ensures.value
    ∙ all_small c.args.made.items in
    let count : c.len.result ≡ length c.args.made.items = omega arith in
    entry_no_room entered receiver c.args.made.items c.args.chosen c.args.key c.args.dictionary are name c.are_small.result small
    c.in_ok-growth.growth c.len.result count c.in_ok-check.ensures (c.in_ok-growth.ensures receiver.object there)
    c.in_ok-names.ensures c.in_err-room.ensures c.from_residual-in_err-room.ensures.1

pub returns : goal.returns
returns g c = λ entered receiver are name there.
    let small : c.are_small.result ≡ list_all is_within_limits (map contents_of c.args.made.items) = c.are_small.ensures
    ∙ ap (λ (objects : List Object). list_all (λ object. is_within_limits (contents_of object)) objects) c.as_slice.ensures.value
    ∙ all_small c.args.made.items in
    let count : c.len.result ≡ length c.args.made.items = omega arith in
    entry_made entered receiver c.args.made.items c.args.chosen c.args.key c.args.dictionary are name c.are_small.result small
    c.in_ok-growth.growth c.len.result count c.in_ok-check.ensures (c.in_ok-growth.ensures receiver.object there)
    c.requires.some there c.in_ok-names.ensures c.in_ok-room.ensures c.enter.ensures
