use Rattle.std.proofs.Common.{arith, ℕ, length, false}
use Rattle.std.proofs.lemmas.Result.{IfOk-weaker}
use Rattle.net_model.specs.Form.{value}
use Rattle.net_model.specs.FormLaws.{IsOver-weaker}
use Rattle.net_model.specs.Rows.{pins_of}
use Rattle.and_graphs.specs.Graphs.{Means, Lowers}
use Rattle.claim_monitor.specs.Shown.{shown_row}
use Rattle.claim_monitor.proofs.NetLits.{gate_means}
use Rattle.claim_monitor.proofs.nets.gate_literal.Goals as goal

pub lower-requires : goal.lower-requires
lower-requires c = IsOver-weaker (length c.args.gate.now.ins) 7 c.args.gate.now.func (omega arith) c.requires.over

pub returns-clause-means : goal.returns-clause-means
returns-clause-means c =
    let gate = c.args.gate.now in
    let old = c.args.graph.now in
    let new = c.lower.new.self in
    IfOk-weaker c.lower.result (Lowers old c.pin_literals-args.result gate.func new)
    (λ (l : ℕ). Means new l (λ x. value gate.func (pins_of false gate.ins (shown_row old x c.args.nets.now))))
    (λ l lowers. gate_means old new gate c.args.nets.now c.pin_literals-args.result l c.lower.ensures.keeps c.requires.in_range c.requires.over c.requires.in_
    c.pin_literals-args.ensures lowers) c.lower.ensures.means
