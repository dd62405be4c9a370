use Rattle.std.proofs.Common.{ℕ, List, [], ◌∷◌, ◌++◌, length, ap, ap₂, ◌∙◌}
use Rattle.sdcv_top.specs.Outcomes.{Outcome}
use Rattle.answer_lines.specs.Graphs.{aiger_line}
use Rattle.sdcv_top.proofs.watching.plan.Goals as goal

pub returns : goal.returns
returns c = λ with_symbols l claim is symbols_are.
    let told = c.in_ok-told.ensures in
    let text = c.args.text in
    let asked = c.args.asked in
    let graph = is.graph in
    record {
      graph = graph;
      watches = is.watches;
      saved = ap (λ (bytes : List ℕ). (asked.out.now, bytes) ∷ [])
          (c.in_ok-extend_from_slice.ensures.items ∙ ap₂ (λ (a b : List ℕ). a ++ b) is.bytes (c.deref.ensures.value ∙ symbols_are));
      ending = ap (λ (o : Outcome). o.ending) told;
      printed = ap (λ (o : Outcome). o.printed) told ∙ c.in_ok-line.ensures
          ∙ ap (λ (n : ℕ). aiger_line asked.number n text.latches text.gates asked.free) is.inputs
          ∙ ap (λ (n : ℕ). aiger_line asked.number graph.inputs n text.gates asked.free) is.latches
          ∙ ap (λ (n : ℕ). aiger_line asked.number graph.inputs (length graph.latches) n asked.free) is.gates;
      judged = ap (λ (o : Outcome). o.judged) told;
      detected = ap (λ (o : Outcome). o.detected) told;
    }
