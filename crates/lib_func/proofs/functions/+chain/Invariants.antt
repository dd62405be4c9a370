use Rattle.std.proofs.Common.{◌≡◌, ◌<◌, ◌+◌, ◌*◌, ℕ, length}
use Rattle.sdcv_base.specs.Cursors.{rest}
use Rattle.lib_func.specs.declared.operators.Level.{Level}
use Rattle.lib_func.specs.declared.operators.Level.TheVariants.{Or, And, Xor}
use Rattle.lib_func.specs.Functions.{operand_at, chain_at, chain_from}
use Rattle.lib_func.proofs.functions.+chain.Given as goal

-- looser operators stand above tighter ones
abbrev pub rank : Level → ℕ
rank Or = 12
rank And = 10
rank Xor = 8

abbrev pub decreases-atom : goal.decreases-atom
decreases-atom l = 16 * l.depth + 2

abbrev pub decreases-inverted : goal.decreases-inverted
decreases-inverted l = 16 * l.depth + 4

abbrev pub decreases-operand : goal.decreases-operand
decreases-operand l = 16 * l.depth + rank l.level

abbrev pub decreases-chain : goal.decreases-chain
decreases-chain l = 16 * l.depth + 1 + rank l.level

abbrev pub invariant-chain-operands : goal.invariant-chain-operands
invariant-chain-operands l = record {
  shorter : length (rest l.c) < length (rest l.fn.c);
  told : (m : ℕ) × (length (rest l.c) < m)
      × (chain_at l.depth l.level (rest l.fn.c) ≡ chain_from (operand_at l.depth l.level) l.level m l.found.expr (rest l.c));
}

abbrev pub decreases-chain-operands : goal.decreases-chain-operands
decreases-chain-operands l = length (rest l.c)
