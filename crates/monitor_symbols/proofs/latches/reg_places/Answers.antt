use Rattle.std.proofs.Common.{arith, ◌∙◌, ◌-◌, length}
use Rattle.monitor_symbols.proofs.Placed.{none_placed, places_back, stands}
use Rattle.monitor_symbols.proofs.latches.reg_places.Goals as goal

pub loop-k-init : goal.loop-k-init
loop-k-init c = record {
  len = c.in_ok-places.ensures.len;
  each = λ r low. none_placed c.args.cells.now c.in_ok-places.places c.in_ok-places.ensures.each r;
}

pub loop-k-preserved : goal.loop-k-preserved
loop-k-preserved c =
    let cells = c.args.cells.now in
    let total = length cells in
    let at = stands cells (total - 1 - c.loop-k.k) c.index-cells-place.result (omega (arith, c.loop-k-test.true)) c.index-cells-place.is in
    record {
      len = c.put_place.ensures.len ∙ c.loop-k.invariant.len;
      each =
          places_back cells c.loop-k.places c.put_place.new.places c.args.count total c.loop-k.k total c.index-cells-place.result c.loop-k-test.true at
          c.loop-k.invariant.len (λ r low. c.put_place.ensures.each r total low) c.loop-k.invariant.each;
    }
