use Rattle.std.proofs.Common.{arith, sym}
use Rattle.cnf_encode.proofs.KeyValues.{number_found, value_found}
use Rattle.cnf_encode.proofs.free_bits.key_value.Goals as goal

pub overflow_sub-number : goal.overflow_sub-number
overflow_sub-number c =
    let number = number_found c.args.frames.now c.args.key.now c.in-Some.number (sym c.in-Some.ensures.value) in
    omega arith

pub at-requires : goal.at-requires
at-requires c =
    let number = number_found c.args.frames.now c.args.key.now c.in-Some.number (sym c.in-Some.ensures.value) in
    omega arith

pub returns-in-Some : goal.returns-in-Some
returns-in-Some c =
    let number = number_found c.args.frames.now c.args.key.now c.in-Some.number (sym c.in-Some.ensures.value) in
    value_found c.args.frames.now c.args.model.now.values c.args.key.now c.in-Some.number c.at.result number c.at.ensures
