use Rattle.claim_monitor.proofs.Catching.{Shows, caught_tells, caught_told}
use Rattle.claim_monitor.proofs.laws.front_tells.Goals as goal

pub returns : goal.returns
returns c =
    λ run t x y is front.
    let shows : Shows c.args.design.now c.args.claim.now run t x y = record { sound = c.requires.sound; fits = c.requires.fits; plain = c.requires.plain; of_run = is; front = front } in
    (caught_tells c.args.design.now c.args.claim.now run t x y shows, caught_told c.args.design.now c.args.claim.now run t x y shows)
