use Rattle.std.proofs.Common.{◌^◌, ◌-◌, Some, None, ap}
use Rattle.dimacs_text.specs.Tokens.{number_if}
use Rattle.dimacs_text.proofs.Decimals.{read_is}
use Rattle.dimacs_text.proofs.tokens.signed.Goals as goal

pub returns-in-Some-clause-is : goal.returns-in-Some-clause-is
returns-in-Some-clause-is c =
    ap (number_if c.args.positive) (read_is (2 ^ 64 - 1) c.args.digits.now (Some c.in-Some.var) c.in-Some.ensures.some c.in-Some.ensures.value)

pub returns-in-None-clause-is : goal.returns-in-None-clause-is
returns-in-None-clause-is c =
    ap (number_if c.args.positive) (read_is (2 ^ 64 - 1) c.args.digits.now None c.in-None.ensures.some c.in-None.ensures.value)
