use Rattle.net_paths.proofs.Arriving.{room_at}
use Rattle.net_paths.proofs.arrivals.add_pin.Goals as goal

pub of_pin-requires : goal.of_pin-requires
of_pin-requires c = room_at c.args.reach.now.launch.now.design.now c.args.places.now c.args.net c.args.pin c.requires.room c.requires.reads
