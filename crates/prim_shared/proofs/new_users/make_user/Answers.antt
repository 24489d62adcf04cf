use Rattle.std.proofs.Common.{refl}
use Rattle.prim_rules.specs.Users.{user_entry}
use Rattle.prim_shared.proofs.Entered.{methods_are, some_are, user_entered}
use Rattle.prim_shared.proofs.Steps.{handed, nothing_done}
use Rattle.prim_shared.proofs.new_users.make_user.Goals as goal

pub returns-in_err-made : goal.returns-in_err-made
returns-in_err-made g c = λ object held there holds. handed c.from_residual.result c.from_residual.ensures.1 (nothing_done _ _)

pub returns-in_err-clone : goal.returns-in_err-clone
returns-in_err-clone g c = λ object held there holds. handed c.from_residual-in_err-clone.result c.from_residual-in_err-clone.ensures.1 (nothing_done _ _)

pub make_and_enter-requires-clause-some : goal.make_and_enter-requires-clause-some
make_and_enter-requires-clause-some g c = some_are c.args.name.now c.names_to_draw-names.result c.in_ok-made.made.items c.in_ok-made.ensures

pub make_and_enter-requires-clause-methods : goal.make_and_enter-requires-clause-methods
make_and_enter-requires-clause-methods g c = methods_are c.args.name.now c.names_to_draw-names.result c.in_ok-made.made.items c.in_ok-made.ensures

pub returns : goal.returns
returns g c = λ object held there holds.
    c.make_and_enter.ensures (user_entry c.args.name.now) (record { name = c.args.users; object = object; held = held })
    (user_entered c.args.name.now c.names_to_draw-names.result c.in_ok-made.made.items c.in_ok-made.ensures _ _ c.names_to_draw-names.ensures
    c.in_ok-clone.ensures.cases) refl there
