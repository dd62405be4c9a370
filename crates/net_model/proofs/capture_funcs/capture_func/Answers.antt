use Rattle.std.proofs.Common.{ℕ}
use Rattle.std.proofs.lemmas.Result.{IfOk-weaker}
use Rattle.net_model.specs.Form.{IsOver}
use Rattle.net_model.specs.Netlist.{IsOptionOver}
use Rattle.net_model.specs.declared.functions.Func.{Func}
use Rattle.net_model.proofs.capture_funcs.capture_func.Goals as goal

pub returns-in_ok-cleared-clause-over : goal.returns-in_ok-cleared-clause-over
returns-in_ok-cleared-clause-over c =
    let reg = c.args.reg.now in
    IfOk-weaker c.one_where.result
    (λ (f : Func). (n : ℕ) → IsOver n c.in_ok-cleared.cleared → IsOptionOver n reg.preset → IsOver n f)
    (λ (f : Func). (n : ℕ) → IsOver n reg.next → IsOptionOver n reg.clear → IsOptionOver n reg.preset → IsOver n f)
    (λ f over n next clear preset. over n (c.in_ok-cleared.ensures.over n (rw c.in_ok-next.ensures next) clear) preset)
    c.one_where.ensures.over

pub returns-in_ok-preset-clause-over : goal.returns-in_ok-preset-clause-over
returns-in_ok-preset-clause-over c =
    let reg = c.args.reg.now in
    IfOk-weaker c.zero_where-else-reg.result
    (λ (f : Func). (n : ℕ) → IsOver n c.in_ok-preset.preset → IsOptionOver n reg.clear → IsOver n f)
    (λ (f : Func). (n : ℕ) → IsOver n reg.next → IsOptionOver n reg.clear → IsOptionOver n reg.preset → IsOver n f)
    (λ f over n next clear preset. over n (c.in_ok-preset.ensures.over n (rw c.in_ok-next.ensures next) preset) clear)
    c.zero_where-else-reg.ensures.over
