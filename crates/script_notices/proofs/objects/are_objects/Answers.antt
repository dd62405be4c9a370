use Rattle.std.proofs.Common.{◌≡◌, ◌∙◌, ◌+◌, Bool, true, false, ◌&&◌, drop, sym, ap, arith}
use Rattle.script_notices.specs.Companions.{is_object, are_same}
use Rattle.script_notices.proofs.Matching.{same_long, same_next, same_done}
use Rattle.script_notices.proofs.objects.are_objects.Goals as goal

pub returns-then-len : goal.returns-then-len
returns-then-len c =
    sym (same_long is_object c.args.first.now c.args.second.now (λ same. c.if-len.true (c.len.ensures ∙ same ∙ sym c.len-2.ensures)))

pub returns-then-not-is_object : goal.returns-then-not-is_object
returns-then-not-is_object c =
    let first = c.args.first.now in
    let second = c.args.second.now in
    let k = c.loop-place.place in
    let next = same_next is_object first second k c.item.result.now c.item-in-loop-place.result.now c.item.ensures c.item-in-loop-place.ensures in
    let differs : is_object c.item.result.now c.item-in-loop-place.result.now ≡ false = sym c.is_object.ensures ∙ c.if-not-is_object.true in
    sym (c.loop-place.invariant.same ∙ next ∙ ap (λ (b : Bool). b && are_same is_object (drop (k + 1) first) (drop (k + 1) second)) differs)

pub loop-place-preserved : goal.loop-place-preserved
loop-place-preserved c =
    let first = c.args.first.now in
    let second = c.args.second.now in
    let k = c.loop-place.place in
    let next = same_next is_object first second k c.item.result.now c.item-in-loop-place.result.now c.item.ensures c.item-in-loop-place.ensures in
    let same : is_object c.item.result.now c.item-in-loop-place.result.now ≡ true = sym c.is_object.ensures ∙ c.if-not-is_object.false in
    record {
      long = c.loop-place.invariant.long;
      same = c.loop-place.invariant.same ∙ next ∙ ap (λ (b : Bool). b && are_same is_object (drop (k + 1) first) (drop (k + 1) second)) same;
    }

pub returns : goal.returns
returns c =
    sym (c.loop-place.invariant.same ∙ same_done is_object c.args.first.now c.args.second.now c.loop-place.place (omega arith) (omega arith))
