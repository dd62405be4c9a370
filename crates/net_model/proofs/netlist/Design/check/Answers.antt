use Rattle.net_model.specs.declared.faults.DesignFault.TheVariants.{PlaceOutOfRange}
use Rattle.net_model.proofs.Unsound.{unsound}
use Rattle.net_model.proofs.netlist.Design.check.Goals as goal

pub returns-in-Some-port_beyond-clause-unsound : goal.returns-in-Some-port_beyond-clause-unsound
returns-in-Some-port_beyond-clause-unsound c other sound =
    unsound c.args.self.now (PlaceOutOfRange c.in-Some-port_beyond.number) other c.in-Some-port_beyond.ensures sound
