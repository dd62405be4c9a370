use Rattle.std.proofs.Common.{arith}
use Rattle.link_design.proofs.Walking.{tree_is, above_is}
use Rattle.link_design.proofs.trees.clock_tree.Goals as goal

pub returns-clause-tree : goal.returns-clause-tree
returns-clause-tree c =
    tree_is c.args.circuit.now c.loop-visited.visited c.loop-visited.walk c.requires.lawful c.requires.once (omega arith) c.loop-visited.invariant

pub returns-clause-above : goal.returns-clause-above
returns-clause-above c =
    above_is c.args.circuit.now c.loop-visited.visited c.loop-visited.walk c.requires.lawful c.requires.once (omega arith) c.loop-visited.invariant
