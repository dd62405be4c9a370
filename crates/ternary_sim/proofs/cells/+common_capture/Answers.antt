use Rattle.std.proofs.Common.{◌∙◌, ◌-◌, sym, arith}
use Rattle.net_model.specs.Args.{arg_at}
use Rattle.net_model.specs.Cycles.{reg_capture}
use Rattle.net_model.specs.Completions.{common_zero, common_one, common_unknown}
use Rattle.net_model.proofs.RegCaptures.{capture_agrees}
use Rattle.ternary_sim.proofs.cells.+common_capture.Goals as goal

pub returns-in-Zero : goal.returns-in-Zero
returns-in-Zero t c =
    let reg = c.args.reg.now in
    common_zero c.args.count (c.args.count - 1) (reg_capture reg) (arg_at c.args.args.now) (arg_at c.args.bits)
    (arg_at c.set.new.self) c.common_capture.result (omega arith)
    (λ a b same. capture_agrees reg 7 a b c.requires.next c.requires.clear c.requires.preset same)
    (sym c.at.ensures ∙ c.in-Zero.is) c.set.ensures c.common_capture.ensures

pub returns-in-One : goal.returns-in-One
returns-in-One t c =
    let reg = c.args.reg.now in
    common_one c.args.count (c.args.count - 1) (reg_capture reg) (arg_at c.args.args.now) (arg_at c.args.bits)
    (arg_at c.set-2.new.self) c.common_capture-in-One.result (omega arith)
    (λ a b same. capture_agrees reg 7 a b c.requires.next c.requires.clear c.requires.preset same)
    (sym c.at.ensures ∙ c.in-One.is) c.set-2.ensures c.common_capture-in-One.ensures

pub returns-in-Unknown : goal.returns-in-Unknown
returns-in-Unknown t c =
    let reg = c.args.reg.now in
    common_unknown c.args.count (c.args.count - 1) (reg_capture reg) (arg_at c.args.args.now) (arg_at c.args.bits) (arg_at c.set.new.self)
    (arg_at c.set-2.new.self) c.common_capture-low.result c.common_capture-high.result c.join.result (omega arith)
    (λ a b same. capture_agrees reg 7 a b c.requires.next c.requires.clear c.requires.preset same)
    (sym c.at.ensures ∙ c.in-Unknown.is) c.set.ensures c.set-2.ensures c.common_capture-low.ensures c.common_capture-high.ensures c.join.ensures
