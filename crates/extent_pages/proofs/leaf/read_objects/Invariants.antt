use Rattle.std.proofs.Common.{◌≡◌, ◌-◌, []}
use Rattle.extent_pages.specs.Contents.{objects_after}
use Rattle.extent_pages.proofs.leaf.read_objects.Given as goal

-- what is left gives with what was read what all gives
abbrev pub invariant-loop : goal.invariant-loop
invariant-loop l = objects_after l.leaf (l.count - l.counter) l.objects.items l.rest
    ≡ objects_after l.leaf l.count [] l.bytes
