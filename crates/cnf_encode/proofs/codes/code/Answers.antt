use Rattle.std.proofs.Common.{◌∙◌, ℕ, ◌+◌, ◌*◌, cond, ap, sym, arith}
use Rattle.cnf_encode.proofs.Coding.{number_is}
use Rattle.cnf_encode.proofs.codes.code.Goals as goal

pub prove-unreachable-requires : goal.prove-unreachable-requires
prove-unreachable-requires c =
    let is = number_is c.args.frames.now c.args.l.now.key c.unwrap-number.result c.requires (sym c.number.ensures.value ∙ c.unwrap-number.ensures) in
    omega (arith, is.2)

pub new-requires-clause-from : goal.new-requires-clause-from
new-requires-clause-from c = (number_is c.args.frames.now c.args.l.now.key c.unwrap-number.result c.requires
    (sym c.number.ensures.value ∙ c.unwrap-number.ensures)).1

pub returns : goal.returns
returns c =
    let is = number_is c.args.frames.now c.args.l.now.key c.unwrap-number.result c.requires (sym c.number.ensures.value ∙ c.unwrap-number.ensures) in
    c.new.ensures ∙ ap (λ (n : ℕ). cond c.args.l.now.positive (2 * n) (2 * n + 1)) is.0
