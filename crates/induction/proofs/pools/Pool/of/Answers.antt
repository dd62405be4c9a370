use Rattle.net_model.proofs.Settling.{All-at}
use Rattle.net_model.specs.Fits.{NamesRegs}
use Rattle.induction.proofs.Basing.{pool_first, pool_more}
use Rattle.induction.proofs.pools.Pool.of.Goals as goal

pub loop-place-init : goal.loop-place-init
loop-place-init c =
    pool_first c.args.design.now c.args.depth c.args.budget c.args.candidates.now c.empty-pool.result c.requires.once c.empty-pool.ensures

pub add-requires-clause-name : goal.add-requires-clause-name
add-requires-clause-name c =
    All-at (NamesRegs c.args.design.now) c.args.candidates.now c.loop-place.place c.item.result.now c.item.ensures c.requires.names

pub loop-place-preserved : goal.loop-place-preserved
loop-place-preserved c =
    pool_more c.args.design.now c.args.depth c.args.budget c.args.candidates.now c.loop-place.place c.item.result.now c.loop-place.pool c.add.new.self
    c.item.ensures c.in_ok-add.ensures.tried c.loop-place.invariant
