use Rattle.link_design.proofs.Parted.{drivers_are}
use Rattle.link_design.proofs.lists.all_drivers.Goals as goal

pub returns : goal.returns
returns c = rw (
  c.in_ok-push_gated.ensures,
  c.in_ok-push_all_gates.ensures,
  c.in_ok-push_all.ensures,
  c.as_slice.ensures,
  c.as_slice-2.ensures,
  c.as_slice-3.ensures,
  c.in_ok-nets.ensures,
  c.in_ok-more.ensures,
) (drivers_are c.args.circuit.now)
