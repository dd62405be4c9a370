use Rattle.std.proofs.Common.{List, take, sym, subst, arith}
use Rattle.list_laws.proofs.Joining.{take_next}
use Rattle.std.proofs.lemmas.List.{take_all}
use Rattle.net_model.specs.declared.claims.Claim.{Claim}
use Rattle.script_notices.specs.Tables.{ArePairLows}
use Rattle.script_notices.proofs.Crossing.{pairs_more}
use Rattle.script_notices.proofs.pairs.PairLows.new.Goals as goal

pub loop-place-preserved : goal.loop-place-preserved
loop-place-preserved c =
    let claims = c.args.claims.now in
    let k = c.loop-place.place in
    subst (λ (cs : List Claim). ArePairLows cs c.add.new.self) (sym (take_next claims k c.item.result.now c.item.ensures))
    (pairs_more (take k claims) c.item.result.now c.loop-place.table c.add.new.self c.loop-place.invariant c.in_ok-add.ensures)

pub returns : goal.returns
returns c =
    subst (λ (cs : List Claim). ArePairLows cs c.loop-place.table) (take_all c.loop-place.place c.args.claims.now (omega arith)) c.loop-place.invariant
