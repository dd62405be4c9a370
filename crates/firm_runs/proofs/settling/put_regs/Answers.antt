use Rattle.std.proofs.Common.{◌≡◌, ◌∙◌, subst}
use Rattle.std.specs.Prelude.{All, flat_map, take}
use Rattle.std.proofs.lemmas.List.Elements.{Contains-append_left}
use Rattle.net_model.specs.Netlist.{reg_nets}
use Rattle.net_model.specs.Pins.{start_outs, late_value}
use Rattle.net_model.specs.Layers.{net_at}
use Rattle.net_model.specs.declared.netlist.RegOut.{RegOut}
use Rattle.net_model.specs.declared.claims.Start.TheVariants.{Reg as RegStart}
use Rattle.net_model.specs.declared.terns.Tern.{Tern}
use Rattle.net_model.specs.declared.terns.Tern.TheVariants.{Zero}
use Rattle.firm_runs.proofs.Settled3.{ChangesRow-again, not_of_reg, regs_more3}
use Rattle.firm_runs.proofs.settling.put_regs.Goals as goal

pub loop-r-preserved : goal.loop-r-preserved
loop-r-preserved c =
    let d = c.args.design.now in
    let r = c.loop-r.r in
    let next = c.put_late_reg.new.rows in
    record {
      kept = ChangesRow-again 0 c.args.rows.now c.loop-r.rows next c.loop-r.invariant.kept c.put_late_reg.ensures.kept;
      inputs = λ n has. c.put_late_reg.ensures.others n (not_of_reg d r n c.requires.sound
          (Contains-append_left d.inputs (flat_map reg_nets (take r d.regs)) n has)) ∙ c.loop-r.invariant.inputs n has;
      shown = regs_more3 d c.args.bits.now c.loop-r.rows next r c.at-value.result c.requires.sound c.at-value.ensures
          (subst (λ (w : Tern). All (λ (o : RegOut). net_at Zero next 0 o.net ≡ late_value c.at-value.result w o) (start_outs d (RegStart r)))
          c.complement.ensures c.put_late_reg.ensures.late)
          c.put_late_reg.ensures.others c.loop-r.invariant.shown;
    }
