use Rattle.std.proofs.Common.{◌≡◌, ◌++◌, ◌∷◌, [], take}
use Rattle.net_model.specs.declared.netlist.Reg.{Reg}
use Rattle.net_model.specs.declared.claims.Start.TheVariants.{Reg as RegStart}
use Rattle.sdcv_base.specs.Seqs.{each_at}
use Rattle.sdc_objects.proofs.columns.push_reg_starts.Given as goal

abbrev pub invariant-loop-reg : goal.invariant-loop-reg
invariant-loop-reg l = l.found ≡ l.fn.found ++ each_at (λ r (reg : Reg). RegStart r ∷ []) 0 (take l.reg l.design.regs)
