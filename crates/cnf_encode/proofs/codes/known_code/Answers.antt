use Rattle.std.proofs.Common.{◌∙◌, sym, arith}
use Rattle.cnf_encode.proofs.KeyValues.{number_found}
use Rattle.cnf_encode.proofs.codes.known_code.Goals as goal

pub prove-unreachable-requires : goal.prove-unreachable-requires
prove-unreachable-requires c =
    let is = number_found c.args.frames.now c.args.l.now.key c.in-Some.number (sym c.number.ensures.value ∙ c.in-Some.is) in
    omega (arith, is.from, is.to, c.if-prove.true, c.vars.ensures.count)

pub new-requires-clause-from : goal.new-requires-clause-from
new-requires-clause-from c = (number_found c.args.frames.now c.args.l.now.key c.in-Some.number (sym c.number.ensures.value ∙ c.in-Some.is)).from
