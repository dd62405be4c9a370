use Rattle.std.proofs.Common.{◌≡◌, ◌∙◌, arith, ap, false, subst, sym}
use Rattle.std.specs.Prelude.{flat_map, take}
use Rattle.std.proofs.lemmas.Option.{slice_get_within, get_or_from_slice_get}
use Rattle.std.proofs.lemmas.List.Elements.{Contains-append_left}
use Rattle.net_model.specs.Netlist.{reg_nets}
use Rattle.net_model.specs.Cycles.{bit_at}
use Rattle.net_model.specs.LaneBits.{lane, lane_row, in_each_lane}
use Rattle.net_model.proofs.Sources.{regs_more, ShowsBit}
use Rattle.net_sim.proofs.LaneSettling.{row_bit}
use Rattle.net_sim.proofs.lane_settling.put_regs.Goals as goal

pub loop-r-preserved : goal.loop-r-preserved
loop-r-preserved c =
    let r = c.loop-r.r in
    let inputs = c.args.design.now.inputs in
    record {
      len = c.put_reg.ensures.len;
      kept = λ i lt n has. c.put_reg.ensures.kept i lt n (Contains-append_left inputs (flat_map reg_nets (take r c.args.design.now.regs)) n has)
          ∙ c.loop-r.invariant.kept i lt n has;
      shown = λ i lt.
          let bit : bit_at (lane_row i c.args.bits.now) r ≡ lane c.at.result i =
          row_bit i c.args.bits.now r lt ∙ ap (λ w. lane w i) (get_or_from_slice_get c.args.bits.now r c.at.result (in_each_lane false) c.at.ensures) in
          regs_more c.args.design.now (lane_row i c.args.bits.now) (lane_row i c.loop-r.nets) (lane_row i c.put_reg.new.nets) r (c.put_reg.ensures.kept i lt)
          (λ reg at. subst (λ b. ShowsBit (lane_row i c.put_reg.new.nets) b reg) (sym bit) (c.put_reg.ensures.shown i lt reg at))
          (c.loop-r.invariant.shown i lt);
    }

pub returns-clause-shown : goal.returns-clause-shown
returns-clause-shown c =
    λ i lt r reg at. let within = slice_get_within c.args.design.now.regs r reg at in
    c.loop-r.invariant.shown i lt r (omega arith) reg at
