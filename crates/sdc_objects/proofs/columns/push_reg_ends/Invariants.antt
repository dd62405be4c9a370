use Rattle.std.proofs.Common.{◌≡◌, ◌++◌, ◌∷◌, [], take}
use Rattle.net_model.specs.declared.netlist.Reg.{Reg}
use Rattle.net_model.specs.declared.claims.End.TheVariants.{Reg as RegEnd}
use Rattle.sdcv_base.specs.Seqs.{each_at}
use Rattle.sdc_objects.proofs.columns.push_reg_ends.Given as goal

abbrev pub invariant-loop-reg : goal.invariant-loop-reg
invariant-loop-reg l = l.found ≡ l.fn.found ++ each_at (λ r (reg : Reg). RegEnd r ∷ []) 0 (take l.reg l.design.regs)
