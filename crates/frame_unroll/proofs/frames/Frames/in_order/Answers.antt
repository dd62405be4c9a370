use Rattle.frame_unroll.proofs.KeyOrder.{few_small}
use Rattle.frame_unroll.proofs.frames.Frames.in_order.Goals as goal

pub invariant_of-result : goal.invariant_of-result
invariant_of-result c =
    let is = c.in_ok-keys.ensures in
    few_small c.in_ok-keys.keys (λ k has. c.requires k (is.only k has)) is.ascending
