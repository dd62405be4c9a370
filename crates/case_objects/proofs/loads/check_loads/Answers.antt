use Rattle.std.proofs.lemmas.Result.{err_from_is_err_and}
use Rattle.case_objects.proofs.Leading.{gate_twice, reg_twice, output_twice, all_agree, ok_then, err_then}
use Rattle.case_objects.proofs.loads.check_loads.Goals as goal

pub returns-in_err-check_gates-clause-err : goal.returns-in_err-check_gates-clause-err
returns-in_err-check_gates-clause-err c =
    let p = err_from_is_err_and c.from_residual.result c.from_residual.ensures.1 in
    rw (p.1, p.2) (gate_twice c.args.design.now c.args.values.now c.in_err-check_gates.field-0.0 c.in_err-check_gates.ensures.err)

pub returns-in_err-check_regs-clause-err : goal.returns-in_err-check_regs-clause-err
returns-in_err-check_regs-clause-err c =
    let p = err_from_is_err_and c.from_residual-in_err-check_regs.result c.from_residual-in_err-check_regs.ensures.1 in
    rw (p.1, p.2) (reg_twice c.args.design.now c.args.values.now c.in_err-check_regs.field-0.0 c.in_err-check_regs.ensures.err)

pub returns-clause-ok : goal.returns-clause-ok
returns-clause-ok c =
    ok_then c.check_pins.result c.check_pins.ensures.ok (λ outputs.
    all_agree c.args.design.now c.args.values.now c.in_ok-check_gates.ensures.ok c.in_ok-check_regs.ensures.ok outputs)

pub returns-clause-err : goal.returns-clause-err
returns-clause-err c =
    err_then c.check_pins.result c.check_pins.ensures.err (λ e twice. output_twice c.args.design.now c.args.values.now e twice)
