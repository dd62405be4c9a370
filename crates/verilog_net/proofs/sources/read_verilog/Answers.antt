use Rattle.verilog_net.proofs.SourceLemmas.{hierarchy_parts}
use Rattle.verilog_net.proofs.LawfulLemmas.{made_lawful}
use Rattle.verilog_net.proofs.sources.read_verilog.Goals as goal

pub modules_of-requires : goal.modules_of-requires
modules_of-requires c =
    (hierarchy_parts c.args.wide c.in_ok-decls.decls c.in_ok-hierarchy.hierarchy (rw c.as_slice.ensures at c.in_ok-hierarchy.ensures)).1

pub returns-clause-lawful : goal.returns-clause-lawful
returns-clause-lawful c =
    made_lawful c.args.wide c.in_ok-decls.decls c.in_ok-hierarchy.hierarchy c.in_ok-modules.modules (rw c.as_slice.ensures at c.in_ok-hierarchy.ensures)
    c.in_ok-modules.ensures
