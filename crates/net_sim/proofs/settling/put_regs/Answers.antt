use Rattle.std.proofs.Common.{◌≡◌, ◌∙◌, arith, false, subst, sym}
use Rattle.std.specs.Prelude.{flat_map, take}
use Rattle.std.proofs.lemmas.Option.{slice_get_within, get_or_from_slice_get}
use Rattle.std.proofs.lemmas.List.Elements.{Contains-append_left}
use Rattle.net_model.specs.Netlist.{reg_nets}
use Rattle.net_model.specs.Cycles.{bit_at}
use Rattle.net_model.proofs.Sources.{regs_more, ShowsBit}
use Rattle.net_sim.proofs.settling.put_regs.Goals as goal

pub loop-r-preserved : goal.loop-r-preserved
loop-r-preserved c =
    let bit : bit_at c.args.bits.now c.loop-r.r ≡ c.at.result = get_or_from_slice_get c.args.bits.now c.loop-r.r c.at.result false c.at.ensures in
    record {
      len = c.put_reg.ensures.len;
      kept = λ n has. c.put_reg.ensures.kept n (Contains-append_left c.args.design.now.inputs
          (flat_map reg_nets (take c.loop-r.r c.args.design.now.regs)) n has) ∙ c.loop-r.invariant.kept n has;
      shown = regs_more c.args.design.now c.args.bits.now c.loop-r.nets c.put_reg.new.nets c.loop-r.r c.put_reg.ensures.kept
          (λ reg at. subst (λ b. ShowsBit c.put_reg.new.nets b reg) (sym bit) (c.put_reg.ensures.shown reg at)) c.loop-r.invariant.shown;
    }

pub returns-clause-shown : goal.returns-clause-shown
returns-clause-shown c =
    λ r reg at. let within = slice_get_within c.args.design.now.regs r reg at in
    c.loop-r.invariant.shown r (omega arith) reg at
