use Rattle.std.proofs.Common.{◌≡◌, Some, arith, below_more}
use Rattle.std.specs.Prelude.{slice_get}
use Rattle.net_model.specs.Netlist.{IsRegInRange}
use Rattle.net_model.specs.declared.netlist.Reg.{Reg}
use Rattle.net_model.proofs.Driving.{all_from_places}
use Rattle.net_model.proofs.checks.check_regs.Goals as goal

pub loop-r-preserved : goal.loop-r-preserved
loop-r-preserved c =
    let d = c.args.design.now in
    below_more (λ j. (g : Reg) → slice_get d.regs j ≡ Some g → IsRegInRange d g) c.loop-r.r c.loop-r.invariant c.in_ok-check_reg.ensures.ok

pub returns-clause-ok : goal.returns-clause-ok
returns-clause-ok c =
    let d = c.args.design.now in
    all_from_places (IsRegInRange d) d.regs (λ k lt g at. c.loop-r.invariant k (omega arith) g at)
