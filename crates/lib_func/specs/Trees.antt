-- Boolean expressions over names: what an `Expr` is without the boxes that hold its parts.
use Rattle.std.specs.Prelude.{ℕ, zero, suc, ◌+◌, max, List}

pub data Tree : Type 0 where
  ZeroTree : Tree
  OneTree : Tree
  NameTree : (name : List ℕ) → Tree
  NotTree : (f : Tree) → Tree
  AndTree : (f g : Tree) → Tree
  OrTree : (f g : Tree) → Tree
  XorTree : (f g : Tree) → Tree

-- how many nodes the tree has
abbrev pub node_count : Tree → ℕ
node_count ZeroTree = 1
node_count OneTree = 1
node_count (NameTree name) = 1
node_count (NotTree f) = node_count f + 1
node_count (AndTree f g) = node_count f + node_count g + 1
node_count (OrTree f g) = node_count f + node_count g + 1
node_count (XorTree f g) = node_count f + node_count g + 1

-- a leaf is 1 high, and an operator 1 higher than its higher operand
abbrev pub height : Tree → ℕ
height ZeroTree = 1
height OneTree = 1
height (NameTree name) = 1
height (NotTree f) = height f + 1
height (AndTree f g) = max (height f) (height g) + 1
height (OrTree f g) = max (height f) (height g) + 1
height (XorTree f g) = max (height f) (height g) + 1

-- the tree inverted so many times
abbrev pub negated : ℕ → Tree → Tree
negated zero f = f
negated (suc n) f = negated n (NotTree f)
