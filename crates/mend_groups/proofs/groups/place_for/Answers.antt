use Rattle.std.proofs.Common.{arith, length}
use Rattle.std.proofs.lemmas.Option.{slice_get_past}
use Rattle.mend_groups.proofs.Grouping.{passed_more}
use Rattle.mend_groups.proofs.groups.place_for.Goals as goal

pub loop-k-preserved : goal.loop-k-preserved
loop-k-preserved c =
    passed_more c.args.groups.now c.args.star.now c.loop-k.k c.index-groups-k.result c.fits_in.result c.loop-k-test.true c.index-groups-k.is
    c.fits_in.ensures c.if-fits_in.false c.loop-k.invariant

pub returns-clause-fits : goal.returns-clause-fits
returns-clause-fits c = rw (slice_get_past c.args.groups.now (length c.args.groups.now) (omega arith)) tt
