use Rattle.std.proofs.Common.{sym, ap, ℕ, List, [], ◌∷◌, map}
use Rattle.gem_object.specs.declared.value.Value.TheVariants as value
use Rattle.gem_sound.specs.gem_image.Image.{Contents, contents_of}
use Rattle.prim_rules.specs.Parts.{new_object_in}
use Rattle.prim_parts.proofs.Does.{does_atom, does_give, does_then, does_exit}
use Rattle.prim_parts.proofs.making.new_object_in.Goals as goal

pub returns-in_err-name : goal.returns-in_err-name
unfolding new_object_in
returns-in_err-name g c =
    let objects_at : ℕ → List Contents =
    λ name. record { class = c.args.class; segment = c.args.segment; body = c.args.body } ∷ [] in
    does_exit c.from_residual-in_err-name.result c.from_residual-in_err-name.ensures.1
    (does_atom (c.in_err-name.ensures objects_at (ap (map contents_of) (sym c.in_ok-vec.ensures.items))))

pub returns : goal.returns
unfolding new_object_in
returns g c =
    let objects_at : ℕ → List Contents =
    λ name. record { class = c.args.class; segment = c.args.segment; body = c.args.body } ∷ [] in
    does_then (does_atom (c.in_ok-name.ensures objects_at (ap (map contents_of) (sym c.in_ok-vec.ensures.items))))
    (does_give (value.Ref c.in_ok-name.name) (g.O.Objects.seen c.make.new.self))
