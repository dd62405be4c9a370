-- The tree that an expression of the program is.
use Rattle.lib_func.specs.declared.exprs.Term.{Term}
use Rattle.lib_func.specs.declared.exprs.Term.TheVariants.{Zero, One, Name, Not, And, Or, Xor}
use Rattle.lib_func.specs.Trees.{Tree, ZeroTree, OneTree, NameTree, NotTree, AndTree, OrTree, XorTree}

-- the operator at the root, over the trees of its operands
abbrev pub tree_of : Term → Tree
tree_of Zero = ZeroTree
tree_of One = OneTree
tree_of (Name n) = NameTree n
tree_of (Not f) = NotTree f.value
tree_of (And f g) = AndTree f.value g.value
tree_of (Or f g) = OrTree f.value g.value
tree_of (Xor f g) = XorTree f.value g.value
