use Rattle.std.proofs.Common.{arith, rules}
use Rattle.net_model.specs.Args.{arg_at}
use Rattle.net_model.specs.Form.{value}
use Rattle.net_model.specs.LaneBits.{lane, IsInEachLane}
use Rattle.net_model.specs.LaneLaws.{lanes_same}
use Rattle.net_model.proofs.lane_words.LanesValue.+apply.Goals as goal

pub returns-in-Pin-clause-value : goal.returns-in-Pin-clause-value
returns-in-Pin-clause-value t c =
    let each : IsInEachLane (value c.args.func.now) (arg_at c.args.args.now) c.at.result = search rules in
    lanes_same c.at.result (λ i. value c.args.func.now (λ place. lane (arg_at c.args.args.now place) i)) (omega arith) each

pub returns-in-Not-clause-value : goal.returns-in-Not-clause-value
returns-in-Not-clause-value t c =
    let each : IsInEachLane (value c.args.func.now) (arg_at c.args.args.now) c.complement.result = search rules in
    lanes_same c.complement.result (λ i. value c.args.func.now (λ place. lane (arg_at c.args.args.now place) i)) (omega arith) each

pub returns-in-And-clause-value : goal.returns-in-And-clause-value
returns-in-And-clause-value t c =
    let each : IsInEachLane (value c.args.func.now) (arg_at c.args.args.now) c.and.result = search rules in
    lanes_same c.and.result (λ i. value c.args.func.now (λ place. lane (arg_at c.args.args.now place) i)) (omega arith) each

pub returns-in-Or-clause-value : goal.returns-in-Or-clause-value
returns-in-Or-clause-value t c =
    let each : IsInEachLane (value c.args.func.now) (arg_at c.args.args.now) c.or.result = search rules in
    lanes_same c.or.result (λ i. value c.args.func.now (λ place. lane (arg_at c.args.args.now place) i)) (omega arith) each

pub returns-in-Xor-clause-value : goal.returns-in-Xor-clause-value
returns-in-Xor-clause-value t c =
    let each : IsInEachLane (value c.args.func.now) (arg_at c.args.args.now) c.xor.result = search rules in
    lanes_same c.xor.result (λ i. value c.args.func.now (λ place. lane (arg_at c.args.args.now place) i)) (omega arith) each
