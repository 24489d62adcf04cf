use Rattle.std.proofs.Common.{◌≡◌, ◌+◌, ◌*◌, ◌≤◌, length}
use Rattle.std.specs.Prelude.{map}
use Rattle.st_tree.specs.Trees.{no_constants, constants}
use Rattle.st_tree.specs.Views.{constant_of}
use Rattle.st_grammar_laws.specs.Machine.{Nest, in_elements, depth_nest}
use Rattle.st_parser.specs.Descent.{Runs}
use Rattle.st_parser.proofs.literals.+array.Given as goal

abbrev pub decreases-element : goal.decreases-element
decreases-element l = 4 * length l.r.now + 2

abbrev pub decreases-elements : goal.decreases-elements
decreases-elements l = 4 * length l.r.now + 3

abbrev pub decreases-nested : goal.decreases-nested
decreases-nested l = 4 * length l.r.now + 1

abbrev pub invariant-elements-elements : goal.invariant-elements-elements
invariant-elements-elements l = record {
  runs : (n : Nest) → depth_nest n ≡ l.depth
      → Runs (in_elements n no_constants) l.fn.r
      (in_elements n (constants (map constant_of l.items.items))) l.r;
  shorter : length l.r ≤ length l.fn.r;
}

abbrev pub decreases-elements-elements : goal.decreases-elements-elements
decreases-elements-elements l = length l.r
