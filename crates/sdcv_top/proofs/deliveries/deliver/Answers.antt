use Rattle.std.proofs.Common.{refl}
use Rattle.sdcv_top.specs.Plans.{outcome_of}
use Rattle.sdcv_top.proofs.Delivered.{delivers}
use Rattle.sdcv_top.proofs.deliveries.deliver.Goals as goal

pub returns-clause-delivered : goal.returns-clause-delivered
returns-clause-delivered g c =
    let outputs = rw c.deref.ensures.value at c.save_and_print.ensures.out in
    delivers _ _ _ _ (outcome_of c.args.plan) c.save_and_print.result _ outputs c.status_after-status.ensures refl refl c.requires
