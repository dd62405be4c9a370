use Rattle.std.proofs.Common.{◌≡◌, ◌∙◌, ◌+◌, Bool, true, false, ◌&&◌, drop, sym, ap, arith}
use Rattle.script_notices.specs.Companions.{are_objects, are_same}
use Rattle.script_notices.proofs.Matching.{same_long, same_next, same_done}
use Rattle.script_notices.proofs.objects.are_lists.Goals as goal

pub returns-then-len : goal.returns-then-len
returns-then-len c =
    sym (same_long are_objects c.args.first.now c.args.second.now (λ same. c.if-len.true (c.len.ensures ∙ same ∙ sym c.len-2.ensures)))

pub returns-then-not-are_objects : goal.returns-then-not-are_objects
returns-then-not-are_objects c =
    let first = c.args.first.now in
    let second = c.args.second.now in
    let k = c.loop-place.place in
    let next = same_next are_objects first second k c.item.result.now c.item-in-loop-place.result.now c.item.ensures c.item-in-loop-place.ensures in
    let differs : are_objects c.item.result.now c.item-in-loop-place.result.now ≡ false = sym c.are_objects.ensures ∙ c.if-not-are_objects.true in
    sym (c.loop-place.invariant.same ∙ next ∙ ap (λ (b : Bool). b && are_same are_objects (drop (k + 1) first) (drop (k + 1) second)) differs)

pub loop-place-preserved : goal.loop-place-preserved
loop-place-preserved c =
    let first = c.args.first.now in
    let second = c.args.second.now in
    let k = c.loop-place.place in
    let next = same_next are_objects first second k c.item.result.now c.item-in-loop-place.result.now c.item.ensures c.item-in-loop-place.ensures in
    let same : are_objects c.item.result.now c.item-in-loop-place.result.now ≡ true = sym c.are_objects.ensures ∙ c.if-not-are_objects.false in
    record {
      long = c.loop-place.invariant.long;
      same = c.loop-place.invariant.same ∙ next ∙ ap (λ (b : Bool). b && are_same are_objects (drop (k + 1) first) (drop (k + 1) second)) same;
    }

pub returns : goal.returns
returns c =
    sym (c.loop-place.invariant.same ∙ same_done are_objects c.args.first.now c.args.second.now c.loop-place.place (omega arith) (omega arith))
