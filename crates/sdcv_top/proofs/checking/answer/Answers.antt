use Rattle.std.proofs.Common.{Ok}
use Rattle.sdcv_top.specs.Jobs.{Checks}
use Rattle.sdcv_top.proofs.Repeats.{checked_by}
use Rattle.sdcv_top.proofs.checking.answer.Goals as goal

pub returns-in_ok-lines-in-Ok : goal.returns-in_ok-lines-in-Ok
returns-in_ok-lines-in-Ok c =
    let checks : Checks c.args.designed.now.linked.design c.as_slice-claims.result.now c.args.bytes.now (Ok c.in-Ok.numbers) =
    record { accepted = c.in-Ok.ensures.accepted; holds = c.in-Ok.ensures.holds; cause = c.in-Ok.ensures.cause; only = c.in-Ok.ensures.only } in
    let lines = rw c.as_slice.ensures at c.in_ok-lines-in-Ok.ensures in
    checked_by _ _ _ _ _ _ _ c.as_slice-claims.ensures checks lines c.printing.ensures
