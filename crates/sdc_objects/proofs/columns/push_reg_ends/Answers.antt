use Rattle.std.proofs.Common.{arith, ◌<◌, length, refl, [], ◌∷◌}
use Rattle.net_model.specs.declared.netlist.Reg.{Reg}
use Rattle.net_model.specs.declared.claims.End.TheVariants.{Reg as RegEnd}
use Rattle.list_laws.proofs.Joining.{added_any}
use Rattle.sdc_objects.proofs.columns.push_reg_ends.Goals as goal

pub loop-reg-preserved : goal.loop-reg-preserved
loop-reg-preserved c =
    let low : c.loop-reg.reg < length c.args.design.now.regs = omega (arith, c.loop-reg-test.true, c.len-reg-end.ensures, c.loop-reg.auto.reg-end) in
    added_any (λ r (reg : Reg). RegEnd r ∷ []) c.args.design.now.regs c.args.found.now c.loop-reg.found c.push.new.self (RegEnd c.loop-reg.reg ∷ [])
    c.loop-reg.reg low (λ x. refl) c.loop-reg.invariant c.in_ok-push.ensures.ok
