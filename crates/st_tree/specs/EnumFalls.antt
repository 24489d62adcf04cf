-- The parts that an enum of the tree holds are smaller than what it stands for.
use Rattle.std.specs.Prelude.{◌≤◌, List, [], ◌∷◌, map}
use Rattle.std.proofs.Common.{arith}
use denote.Param.Weighed.{most}
use Rattle.st_tree.specs.declared.nodes.Literal.{Literal}
use Rattle.st_tree.specs.declared.nodes.Literal.TheVariants.{Int, Char, Str, Sym, Nil, True, False}
use Rattle.st_tree.specs.declared.nodes.Literal.TheVariants.{Array}
use Rattle.st_tree.specs.declared.nodes.Literals.TheDeep.{deep-Literal}
use Rattle.st_tree.specs.declared.nodes.Primary.{Primary}
use Rattle.st_tree.specs.declared.nodes.Primary.TheVariants.{Name, Lit, Block, Paren}
use Rattle.st_tree.specs.declared.nodes.BlockTree.TheDeep.{deep-Primary}
use Rattle.st_tree.specs.Trees.{constants}
use Rattle.st_tree.specs.Views.{constant_of, head_of}
use Rattle.st_tree.specs.Falls.{size_constant, size_constants, size_head}

pub literal_falls : (l : Literal) → deep-Literal l ≤ size_constant (constant_of l)
literal_falls (Int n) = omega arith
literal_falls (Char c) = omega arith
literal_falls (Str t) = omega arith
literal_falls (Sym t) = omega arith
literal_falls Nil = omega arith
literal_falls True = omega arith
literal_falls False = omega arith
literal_falls (Array items) = omega arith

pub most_literals : (ls : List Literal)
    → most deep-Literal ls ≤ size_constants (constants (map constant_of ls))
most_literals [] = omega arith
most_literals (l ∷ ls) = omega (arith, literal_falls l, most_literals ls)

pub head_falls : (p : Primary) → deep-Primary p ≤ size_head (head_of p)
head_falls (Name t) = omega arith
head_falls (Lit l) = omega arith
head_falls (Block b) = omega arith
head_falls (Paren e) = omega arith
