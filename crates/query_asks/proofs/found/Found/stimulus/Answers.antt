use Rattle.std.proofs.Common.{◌∙◌, subst, sym}
use Rattle.std.specs.Prelude.{◌⊎◌}
use Rattle.net_model.specs.Netlist.{IsSound}
use Rattle.net_model.specs.declared.netlist.Design.{Design}
use Rattle.cnf_encode.specs.Problems.{IsClaimQuery, IsClauseQuery}
use Rattle.verdicts.specs.Logs.{own_coding}
use Rattle.query_asks.proofs.Linking.{linked_exist}
use Rattle.query_asks.proofs.found.Found.stimulus.Goals as goal

pub returns : goal.returns
returns c q own is =
    let d = c.bare.result.now in
    let s = c.in_ok-stimulus.stimulus in
    let run = linked_exist d s (subst IsSound (sym c.bare.ensures) c.requires.sound) c.in_ok-stimulus.ensures.linkable in
    let asks = subst (λ (e : Design). IsClaimQuery e q ⊎ IsClauseQuery e q) (own ∙ sym c.bare.ensures) is.asks in
    (run.0, c.in_ok-stimulus.ensures.answers run.0 run.1 run.2 own_coding q asks is.problem, run.2)
