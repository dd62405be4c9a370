use Rattle.std.proofs.Common.{◌≡◌, ◌∙◌, Bool, arith, subst, sym}
use Rattle.std.specs.Prelude.{flat_map, take}
use Rattle.std.proofs.lemmas.Option.{slice_get_within}
use Rattle.std.proofs.lemmas.List.Elements.{Contains-append_left}
use Rattle.net_model.specs.Netlist.{reg_nets}
use Rattle.net_model.specs.Cycles.{bit_at}
use Rattle.net_model.proofs.Settling.{All-at}
use Rattle.net_model.proofs.Sources.{regs_more, ShowsBit}
use Rattle.and_graphs.specs.Graphs.{IsIn, bit_of}
use Rattle.claim_monitor.specs.Shown.{shown_row}
use Rattle.claim_monitor.proofs.Showing.{shown_bit}
use Rattle.claim_monitor.proofs.nets.put_regs.Goals as goal

pub loop-r-preserved : goal.loop-r-preserved
loop-r-preserved c =
    let d = c.args.design.now in
    let r = c.loop-r.r in
    let bits = c.args.bits.now in
    record {
      len = c.put_reg.ensures.len;
      in_ = λ g of all. c.put_reg.ensures.in_ g (All-at (IsIn g) bits r c.at.result c.at.ensures of) (c.loop-r.invariant.in_ g of all);
      kept = λ g x n of len has.
          c.put_reg.ensures.kept g x n (All-at (IsIn g) bits r c.at.result c.at.ensures of) len
          (Contains-append_left d.inputs (flat_map reg_nets (take r d.regs)) n has)
          ∙ c.loop-r.invariant.kept g x n of len has;
      shown = λ g x of len.
          let own = All-at (IsIn g) bits r c.at.result c.at.ensures of in
          let bit : bit_at (shown_row g x bits) r ≡ bit_of g x c.at.result = shown_bit g x bits r c.at.result c.at.ensures in
          regs_more d (shown_row g x bits) (shown_row g x c.loop-r.nets) (shown_row g x c.put_reg.new.nets) r
          (λ n has. c.put_reg.ensures.kept g x n own len has)
          (λ reg at. subst (λ (b : Bool). ShowsBit (shown_row g x c.put_reg.new.nets) b reg) (sym bit) (c.put_reg.ensures.shown g x reg own len at))
          (c.loop-r.invariant.shown g x of len);
    }

pub returns-clause-shown : goal.returns-clause-shown
returns-clause-shown c =
    λ g x of len r reg at. let within = slice_get_within c.args.design.now.regs r reg at in
    c.loop-r.invariant.shown g x of len r (omega arith) reg at
