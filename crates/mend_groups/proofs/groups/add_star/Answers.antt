use Rattle.std.proofs.Common.{arith}
use Rattle.mend_groups.proofs.Grouping.{joined, begun, passed_in, fits_at}
use Rattle.mend_groups.proofs.groups.add_star.Goals as goal

pub returns-in_ok-push : goal.returns-in_ok-push
returns-in_ok-push c =
    let groups = c.args.groups.now.items in
    let star = c.args.star in
    let place = c.place_for-place.result in
    let fits = fits_at c.deref.result.now groups c.as_slice.result.now star place c.deref.ensures.value c.as_slice.ensures c.place_for-place.ensures.fits in
    let passed = passed_in c.deref.result.now groups c.as_slice.result.now star place c.deref.ensures.value c.as_slice.ensures
    c.place_for-place.ensures.passed in
    joined groups star place c.index_mut.result.now c.push.new.self (omega arith) c.index_mut.ensures.value fits passed c.in_ok-push.ensures.ok

pub returns-in_ok-push-2 : goal.returns-in_ok-push-2
returns-in_ok-push-2 c =
    let groups = c.args.groups.now.items in
    let star = c.args.star in
    let place = c.place_for-place.result in
    let passed = passed_in c.deref.result.now groups c.as_slice.result.now star place c.deref.ensures.value c.as_slice.ensures
    c.place_for-place.ensures.passed in
    begun groups c.push-else-place-len.new.self.items star place c.in_ok-one.field-0 (omega arith) passed c.in_ok-push-2.ensures.items c.in_ok-one.ensures
