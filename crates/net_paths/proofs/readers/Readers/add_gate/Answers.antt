use Rattle.std.proofs.Common.{◌≡◌, ◌<◌, ◌≤◌, ℕ, List, length, ap, sym, subst, get_or}
use Rattle.net_model.proofs.Settling.{All-at}
use Rattle.net_model.specs.Netlist.{IsGateInRange}
use Rattle.net_paths.proofs.Readings.{gate_pin_added, gate_is_added}
use Rattle.net_paths.proofs.readers.Readers.add_gate.Goals as goal

pub loop-i-preserved : goal.loop-i-preserved
loop-i-preserved c =
    let items = c.as_slice-net-items.ensures in
    let i : ℕ = c.loop-i.i in
    let low : i < length c.item-gate.result.now.ins = subst (λ (l : List ℕ). i < length l) items c.loop-i-test.true in
    let from : get_or c.item-gate.result.now.ins i 0 ≡ get_or c.as_slice-net-items.result.now i 0 = ap (λ (l : List ℕ). get_or l i 0) (sym items) in
    let range = (All-at (IsGateInRange c.args.design.now) c.args.design.now.gates c.args.k c.item-gate.result.now c.item-gate.ensures
    c.requires.sound.in_range.gates).ins i 0 low in
    gate_pin_added c.args.design.now c.args.k i (get_or c.as_slice-net-items.result.now i 0) c.item-gate.result.now c.loop-i.self.rows.items
    c.add.new.self.rows.items c.item-gate.ensures low from (subst (λ n. n < c.args.design.now.nets) from range) c.loop-i.invariant
    c.in_ok-add.ensures

pub returns : goal.returns
returns c = gate_is_added c.args.design.now c.args.k c.loop-i.i c.item-gate.result.now c.loop-i.self.rows.items c.item-gate.ensures
    (subst (λ (l : List ℕ). length l ≤ c.loop-i.i) c.as_slice-net-items.ensures c.loop-i-test.false) c.loop-i.invariant
