use Rattle.std.proofs.Common.{length}
use Rattle.model_tests.proofs.Kept.{gate_added, one_enable}
use Rattle.model_tests.proofs.gated_building.add_gate.Goals as goal

pub returns : goal.returns
returns c =
    let g = c.args.gated.now in
    gate_added g c.push.new.self (record { func = c.pin-func.result; ins = c.in_ok-ins.ins; parent = c.args.parent }) c.in_ok-push.ensures.ok
    (one_enable g.design (length g.gates) c.args.enable c.pin-func.result c.in_ok-ins.ins c.args.parent c.pin-func.ensures c.in_ok-ins.ensures
    c.requires.enable c.requires.parent) c.requires.are
