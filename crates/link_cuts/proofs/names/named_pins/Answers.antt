use Rattle.std.proofs.Common.{◌≡◌, ◌<◌, ◌≤◌, length, ap, subst, sym, arith}
use Rattle.std.proofs.lemmas.Option.{get_or_from_slice_get}
use Rattle.link_defs.specs.declared.cuts.CutCell.{CutCell}
use Rattle.link_cuts.specs.Cutting.{cell_at, IsInCells}
use Rattle.link_cuts.proofs.Named.{place, pins_step, count_step, pins_done, count_done}
use Rattle.link_cuts.proofs.names.named_pins.Goals as goal

pub loop-pin-preserved : goal.loop-pin-preserved
loop-pin-preserved c =
    let n = c.args.n.now in
    let k = c.loop-pin.pin in
    let body : cell_at n.cells.now c.args.cell ≡ c.item.result.now = get_or_from_slice_get n.cells.now c.args.cell c.item.result.now _ c.item.ensures in
    let within : k < length c.item.result.now.pins = omega (arith, c.loop-pin-test.true, c.len-pin-end.ensures) in
    let inside : IsInCells n.cells.now (place c.args.cell k) =
    record { cell = c.requires; pin = subst (λ (x : CutCell). k < length x.pins) (sym body) within } in
    record {
      names = λ d out.
          pins_step n d c.args.cell k c.args.sinks c.loop-pin.count c.in_ok-count.count c.loop-pin.pins _ c.in_ok-named_pin.field-0 out inside
          c.in_ok-named_pin.ensures c.in_ok-push.ensures.ok c.in_ok-count.ensures (c.loop-pin.invariant.names d out);
      sinks = λ d out.
          count_step n d c.args.cell k c.args.sinks c.loop-pin.count c.in_ok-count.count out inside c.in_ok-count.ensures (c.loop-pin.invariant.sinks d out);
    }

pub returns-clause-pins : goal.returns-clause-pins
returns-clause-pins c = λ d out.
    let n = c.args.n.now in
    let body : cell_at n.cells.now c.args.cell ≡ c.item.result.now = get_or_from_slice_get n.cells.now c.args.cell c.item.result.now _ c.item.ensures in
    let all : length (cell_at n.cells.now c.args.cell).pins ≤ c.loop-pin.pin =
    omega (arith, c.loop-pin-test.false, c.len-pin-end.ensures, ap (λ (x : CutCell). length x.pins) body) in
    pins_done n d c.args.cell c.loop-pin.pin c.args.sinks c.loop-pin.count c.loop-pin.pins all (c.loop-pin.invariant.names d out)

pub returns-clause-sinks : goal.returns-clause-sinks
returns-clause-sinks c = λ d out.
    let n = c.args.n.now in
    let body : cell_at n.cells.now c.args.cell ≡ c.item.result.now = get_or_from_slice_get n.cells.now c.args.cell c.item.result.now _ c.item.ensures in
    let all : length (cell_at n.cells.now c.args.cell).pins ≤ c.loop-pin.pin =
    omega (arith, c.loop-pin-test.false, c.len-pin-end.ensures, ap (λ (x : CutCell). length x.pins) body) in
    count_done n d c.args.cell c.loop-pin.pin c.args.sinks c.loop-pin.count all (c.loop-pin.invariant.sinks d out)
