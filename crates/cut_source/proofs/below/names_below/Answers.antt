use Rattle.std.proofs.Common.{ℕ, List, ap, ◌∙◌, arith}
use Rattle.texts.specs.Names.{with_name}
use Rattle.link_items.specs.Items.{module_at}
use Rattle.cut_source.specs.Cuttable.{plan}
use Rattle.cut_source.proofs.Widening.{begins_at, goes_on, ends_at}
use Rattle.cut_source.proofs.below.names_below.Goals as goal

pub loop-done-init : goal.loop-done-init
loop-done-init c =
    begins_at (plan c.args.netlist.now.source.now c.args.netlist.now.library.now c.args.free.now) c.args.top c.item.result.now c.add.new.self
    c.args.netlist.now.lawful_source c.item.ensures
    (c.in_ok-add.ensures.ok ∙ ap (λ (ns : List (List ℕ)). with_name ns c.item.result.now.name) c.new-names.ensures)

pub loop-done-preserved : goal.loop-done-preserved
loop-done-preserved c =
    goes_on (plan c.args.netlist.now.source.now c.args.netlist.now.library.now c.args.free.now) (module_at c.args.netlist.now.source.now c.args.top)
    c.loop-done.names c.widen.new.names c.loop-done.done c.loop-done.invariant (omega arith) c.in_ok-widen.ensures

pub returns : goal.returns
returns c =
    ends_at (plan c.args.netlist.now.source.now c.args.netlist.now.library.now c.args.free.now) c.args.top c.loop-done.names c.loop-done.done
    c.args.netlist.now.lawful_source c.requires c.loop-done.invariant (omega arith)
