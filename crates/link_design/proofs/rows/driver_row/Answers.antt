use Rattle.std.proofs.Common.{◌≡◌, length, arith, subst, ℕ}
use Rattle.link_design.specs.Rows.{IsRowTo}
use Rattle.link_design.proofs.DriverPlaces.{row_more, row_once, row_is, counted_twice}
use Rattle.link_design.proofs.rows.driver_row.Goals as goal

pub returns-then-at-none-clause-err : goal.returns-then-at-none-clause-err
returns-then-at-none-clause-err c =
    let (less, there) = c.loop-place.invariant.from c.at-net.result c.at.result c.at.ensures (omega arith) in
    counted_twice c.args.drivers.now c.at-net.result c.at.result c.loop-place.place less there c.at-net.ensures

pub loop-place-preserved : goal.loop-place-preserved
loop-place-preserved c =
    rw c.put.ensures (row_more c.args.drivers.now c.args.nets c.loop-place.place c.loop-place.row c.at-net.result c.at.result c.at-net.ensures
    c.at.ensures (let h = c.if-at-none.false in omega arith) c.loop-place.invariant)

pub returns-clause-ok : goal.returns-clause-ok
returns-clause-ok c =
    let all : c.loop-place.place ≡ length c.args.drivers.now = omega arith in
    row_is c.args.drivers.now c.loop-place.row c.args.nets (subst (λ (k : ℕ). IsRowTo c.args.drivers.now c.args.nets k c.loop-place.row) all
    c.loop-place.invariant)

pub returns-clause-once : goal.returns-clause-once
returns-clause-once c =
    let all : c.loop-place.place ≡ length c.args.drivers.now = omega arith in
    row_once c.args.drivers.now c.loop-place.row c.args.nets (subst (λ (k : ℕ). IsRowTo c.args.drivers.now c.args.nets k c.loop-place.row) all
    c.loop-place.invariant)
