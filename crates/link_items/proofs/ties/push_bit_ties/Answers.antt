use Rattle.std.proofs.Common.{◌∙◌, refl, sym, arith}
use Rattle.link_items.proofs.Joining.{bit_ties_more, bit_ties_end}
use Rattle.link_items.proofs.ties.push_bit_ties.Goals as goal

pub loop-k-preserved : goal.loop-k-preserved
loop-k-preserved c =
    c.loop-k.invariant
    ∙ bit_ties_more c.loop-k.parts c.args.first c.args.bits.now c.args.wires.now c.loop-k.k c.at-bit.result c.wire_at-wire.result c.at-bit.ensures
    c.wire_at-wire.ensures ∙ rw c.in_ok-push_tie.ensures refl

pub returns : goal.returns
returns c = sym (c.loop-k.invariant ∙ bit_ties_end c.loop-k.parts c.args.first c.args.bits.now c.args.wires.now c.loop-k.k (omega arith))
