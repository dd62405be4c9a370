use Rattle.std.proofs.Common.{◌∙◌, sym}
use Rattle.link_items.specs.Prims.{op_form}
use Rattle.link_items.proofs.Along.{folded_more}
use Rattle.link_items.proofs.prims.folded.Goals as goal

pub loop-k-preserved : goal.loop-k-preserved
loop-k-preserved c =
    c.in_ok-func.ensures ∙ rw (c.loop-k.invariant, c.pin.ensures) (sym (folded_more (op_form c.args.op) c.loop-k.k))
