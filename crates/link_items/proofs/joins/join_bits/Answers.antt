use Rattle.std.proofs.Common.{◌∙◌, sym, arith}
use Rattle.link_items.proofs.Joining.{join_more, join_end, length_join}
use Rattle.link_items.proofs.joins.join_bits.Goals as goal

pub loop-k-preserved : goal.loop-k-preserved
loop-k-preserved c =
    rw c.join_bit.ensures (record {
      len = length_join c.args.outer.now c.loop-k.nets c.at-bit.result c.wire_at-wire.result ∙ c.loop-k.invariant.len;
      told = c.loop-k.invariant.told ∙ join_more c.args.outer.now c.loop-k.nets c.args.bits.now c.args.wires.now c.loop-k.k c.at-bit.result
          c.wire_at-wire.result c.at-bit.ensures c.wire_at-wire.ensures;
    })

pub returns-clause-joined : goal.returns-clause-joined
returns-clause-joined c =
    sym (c.loop-k.invariant.told ∙ join_end c.args.outer.now c.loop-k.nets c.args.bits.now c.args.wires.now c.loop-k.k (omega arith))
