use Rattle.std.proofs.Common.{◌≡◌, fold, take}
use Rattle.gem_world.specs.World.{with_name}
use Rattle.plain_state.proofs.puts.touch_all.Given as goal

-- the names before this one are there
abbrev pub invariant-loop-name : goal.invariant-loop-name
invariant-loop-name l = l.touched.keys ≡ fold with_name l.initial.touched.keys (take l.name-index l.names)
