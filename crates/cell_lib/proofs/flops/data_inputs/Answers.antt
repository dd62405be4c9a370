use Rattle.std.proofs.Common.{◌∙◌, ℕ, List, sym, ap}
use Rattle.cell_lib.specs.Flops.{data_inputs, with_data}
use Rattle.cell_lib.proofs.DataLemmas.{data_more}
use Rattle.cell_lib.proofs.flops.data_inputs.Goals as goal

pub loop-name-init : goal.loop-name-init
unfolding data_inputs
loop-name-init c = c.new-table.ensures

pub loop-name-preserved : goal.loop-name-preserved
loop-name-preserved c =
    let n = c.name-item.result in
    let clock = c.args.clock.now in
    c.in_ok-add_data.ensures ∙ ap (λ (t : List (List ℕ)). with_data clock t n) c.loop-name.invariant
    ∙ sym (data_more clock c.args.inputs.now c.loop-name.name-index n c.loop-name-test.true c.name-item.is)
