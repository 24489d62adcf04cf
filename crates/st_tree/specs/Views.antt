-- What the enums of the tree stand for. Each child of a struct is seen already as what it stands
-- for, so these words don't recurse.
use Rattle.st_tree.specs.Trees.{Constant, int, char, str, sym, nothing, yes, no, array, Head, name}
use Rattle.st_tree.specs.Trees.{constant, block, paren}
use Rattle.st_tree.specs.declared.nodes.Literal.{Literal}
use Rattle.st_tree.specs.declared.nodes.Literal.TheVariants.{Int, Char, Str, Sym, Nil, True, False}
use Rattle.st_tree.specs.declared.nodes.Literal.TheVariants.{Array}
use Rattle.st_tree.specs.declared.nodes.Primary.{Primary}
use Rattle.st_tree.specs.declared.nodes.Primary.TheVariants.{Name, Lit, Block, Paren}

abbrev pub constant_of : Literal → Constant
constant_of (Int n) = int n
constant_of (Char c) = char c
constant_of (Str t) = str t
constant_of (Sym t) = sym t
constant_of Nil = nothing
constant_of True = yes
constant_of False = no
constant_of (Array items) = array items

abbrev pub head_of : Primary → Head
head_of (Name t) = name t
head_of (Lit l) = constant (constant_of l)
head_of (Block b) = block b
head_of (Paren e) = paren e.value
