use Rattle.std.proofs.Common.{◌^◌, ◌-◌, ℕ, Option, Some, None, ap, sym, ◌∙◌}
use Rattle.dimacs_text.specs.Tokens.{header_if, decimal_of}
use Rattle.dimacs_text.proofs.Decimals.{read_is, header_same}
use Rattle.dimacs_text.proofs.tokens.counts.Goals as goal

pub returns-in-Some-Some-clause-is : goal.returns-in-Some-Some-clause-is
returns-in-Some-Some-clause-is c =
    header_same _ _ _ _ (read_is (2 ^ 31 - 1) c.args.vars.now (Some c.in-Some-Some.vars) c.in-Some-Some.ensures.some c.in-Some-Some.ensures.value)
    (read_is (2 ^ 64 - 1) c.args.told.now (Some c.in-Some-Some.told) c.in-Some-Some.ensures'.some c.in-Some-Some.ensures'.value)

pub returns-in_default-clause-is : goal.returns-in_default-clause-is
returns-in_default-clause-is c =
    header_same _ _ _ _ (read_is (2 ^ 31 - 1) c.args.vars.now (Some c.in_default.field-0-0) c.in_default.ensures.some c.in_default.ensures.value)
    (read_is (2 ^ 64 - 1) c.args.told.now None c.in_default.ensures'.some c.in_default.ensures'.value)

pub returns-in_default-2-clause-is : goal.returns-in_default-2-clause-is
returns-in_default-2-clause-is c =
    let none = read_is (2 ^ 31 - 1) c.args.vars.now c.read_decimal.result c.read_decimal.ensures.some c.read_decimal.ensures.value in
    ap (λ (o : Option ℕ). header_if o (decimal_of (2 ^ 64 - 1) c.args.told.now)) (sym c.in_default.is-0 ∙ none)
