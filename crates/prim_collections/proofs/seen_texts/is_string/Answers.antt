use Rattle.std.proofs.Common.{subst, ℕ, Ok}
use Rattle.std.proofs.lemmas.Result.{err_from_is_err_and}
use Rattle.gem_sound.specs.gem_image.Image.{contents_of}
use Rattle.object_programs.specs.gem_sound.declared.names.TheConstants.{STRING_CLASS}
use Rattle.prim_rules.specs.Parts.{is_under, is_kind_of}
use Rattle.prim_parts.specs.Does.{Does}
use Rattle.prim_parts.proofs.Does.{does_stop, known_none, known_stop}
use Rattle.prim_parts.proofs.Walks.{class_known}
use Rattle.prim_collections.proofs.Joined.{known_same}
use Rattle.prim_collections.proofs.TextsRead.{kind_told}
use Rattle.prim_collections.proofs.seen_texts.is_string.Goals as goal

pub returns-in_err-know-clause-does : goal.returns-in_err-know-clause-does
unfolding is_kind_of
returns-in_err-know-clause-does g c =
    let p = err_from_is_err_and c.from_residual.result c.from_residual.ensures.1 in
    rw (p.1, p.2) (does_stop (known_stop c.in_err-know.ensures))

pub returns-in_default-clause-does : goal.returns-in_default-clause-does
unfolding is_kind_of
returns-in_default-clause-does g c = does_stop (known_none c.in_ok-know.ensures c.in_default.ensures)

pub is_under-requires : goal.is_under-requires
is_under-requires g c = class_known (g.O.Objects.seen c.know.new.self) c.sound.ensures _ _ c.in-Some.ensures

pub returns-clause-does : goal.returns-clause-does
returns-clause-does g c =
    let At : ℕ → Type 0 = λ class. Does (is_under c.in-Some.object.now.class class) (g.O.Objects.seen c.know.new.self)
    (Ok c.is_under.result) (g.O.Objects.seen c.know.new.self) in
    kind_told c.args.name STRING_CLASS (contents_of c.in-Some.object.now) c.in_ok-know.ensures c.in-Some.ensures
    (subst At c.kernel_name.ensures c.is_under.ensures)

pub returns-clause-same : goal.returns-clause-same
returns-clause-same g c = known_same c.in_ok-know.ensures
