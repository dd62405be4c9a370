use Rattle.std.proofs.Common.{arith, ◌-◌, ◌<◌, length, drop, length-drop, length-take, ap}
use Rattle.mend_groups.proofs.Starring.{star_added, stars_over}
use Rattle.mend_groups.proofs.groups.groups_as.Goals as goal

pub loop-place-preserved : goal.loop-place-preserved
loop-place-preserved c =
    let rows = c.in_ok-written.written.items in
    let seen = c.deref.result.now in
    let place = c.loop-place.place in
    let low : place < length rows = omega arith in
    let within = c.star_len-count.ensures.within in
    record {
      within = omega (arith, length-drop place seen, length-take (length seen - place) (drop place seen), ap length c.deref.ensures.value);
      made =
          star_added rows seen place c.star_len-count.result c.loop-place.groups.items c.add_star.new.groups.items _ c.in_ok-of.field-0
          c.deref.ensures.value low c.star_len-count.ensures.is c.in_ok-of.ensures c.in_ok-add_star.ensures c.loop-place.invariant.made;
    }

pub returns : goal.returns
returns c =
    stars_over c.in_ok-written.written.items c.loop-place.place c.loop-place.groups.items _ (omega arith) c.loop-place.invariant.made
