use Rattle.std.proofs.Common.{arith, ℕ, length, false}
use Rattle.std.proofs.lemmas.Result.{IfOk-weaker}
use Rattle.net_model.specs.Form.{value}
use Rattle.net_model.specs.FormLaws.{IsOver-weaker}
use Rattle.net_model.specs.Layers.{layer_pins}
use Rattle.and_graphs.specs.Graphs.{Means, Lowers}
use Rattle.claim_monitor.specs.Layered.{shown_rows}
use Rattle.claim_monitor.proofs.LayerLits.{layer_means}
use Rattle.claim_monitor.proofs.layers.layer_literal.Goals as goal

pub lower-requires : goal.lower-requires
lower-requires c = IsOver-weaker (length c.args.gate.now.ins) 7 c.args.gate.now.func (omega arith) c.requires.over

pub returns-clause-means : goal.returns-clause-means
returns-clause-means c =
    let gate = c.args.gate.now in
    let old = c.args.graph.now in
    let new = c.lower.new.self in
    let rows = c.args.rows.now in
    let sets = c.args.sets.now in
    IfOk-weaker c.lower.result (Lowers old c.layer_args-args.result gate.func new)
    (λ (l : ℕ). Means new l (λ x. value gate.func (layer_pins false sets (shown_rows old x rows) c.args.layer c.args.place gate.ins)))
    (λ l lowers. layer_means old new sets rows c.args.layer c.args.place gate c.layer_args-args.result l c.lower.ensures.keeps c.requires.rows
    c.requires.nets c.requires.over c.requires.in_ c.layer_args-args.ensures lowers) c.lower.ensures.means
