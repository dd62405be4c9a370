use Rattle.net_model.proofs.PinSearch.{found_exactly, found_listed}
use Rattle.net_model.proofs.pins.PinSet.has.Goals as goal

pub returns : goal.returns
returns c =
    let found = found_exactly c.args.pin c.self.inside.listed c.self.inside.ascending c.binary_search.result c.self.invariant
    (rw (← c.as_slice.ensures) c.binary_search.ensures.bound) (rw (← c.as_slice.ensures) c.binary_search.ensures.position) in
    rw (← c.self.view_is, c.is_ok.ensures.value) (record { answer = found; listed = found_listed c.args.pin c.self.inside.listed _ found })
