use Rattle.std.proofs.lemmas.Result.{err_from_is_err_and}
use Rattle.link_design.proofs.Making.{not_twice}
use Rattle.link_design.proofs.designs.net_numbers.Goals as goal

pub returns-in_err-row-clause-err : goal.returns-in_err-row-clause-err
returns-in_err-row-clause-err c =
    let p = err_from_is_err_and c.from_residual-in_err-row.result c.from_residual-in_err-row.ensures.1 in
    rw (p.1, p.2) (not_twice c.args.circuit.now c.args.ordered.now.gates c.args.kept.now c.in_ok-drivers.drivers c.in_err-row.field-0.0
    c.in_ok-sources.sources c.in_ok-sources.ensures c.in_ok-drivers.ensures c.requires.drivers c.in_err-row.ensures.err)
