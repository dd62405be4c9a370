use Rattle.std.proofs.Common.{◌+◌, ◌∙◌, sym}
use Rattle.firm_runs.proofs.Deciding3.{true_false, firm_decided}
use Rattle.firm_runs.proofs.firm.shows_firm.Goals as goal

pub returns : goal.returns
returns c =
    let d = c.args.design.now in
    firm_decided d c.args.free.now c.args.claim.now c.args.stimulus.now (d.reset_len + 1 + c.args.offset) c.in_ok-run.run' c.in_ok-violated.violated
    c.requires.sound c.in_ok-run.ensures (λ sink. true_false (sym (c.is_sink.ensures.1 sink) ∙ c.if-is_sink.false)) c.in_ok-violated.ensures
