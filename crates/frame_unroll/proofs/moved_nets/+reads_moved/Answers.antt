use Rattle.std.proofs.Common.{◌∙◌, map, sym, arith}
use Rattle.frame_unroll.specs.Moves.{rows_of}
use Rattle.frame_unroll.proofs.Moving.{free_pin, net_listed}
use Rattle.frame_unroll.proofs.moved_nets.+reads_moved.Goals as goal

pub returns-else-is_held : goal.returns-else-is_held
returns-else-is_held t c count low =
    let layers = c.args.layers.now in
    let l = c.args.layer in
    c.contains.ensures
    ∙ sym (free_pin c.args.sets.now (rows_of count (map (λ s. s.keys) layers)) l c.args.pin c.args.net (sym c.is_held.ensures ∙ c.if-is_held.false)
    ∙ net_listed count layers l c.args.net c.index-layers-layer.result (omega (arith, c.requires.layers)) c.index-layers-layer.is low)
