use Rattle.std.proofs.Common.{◌≡◌, ◌∙◌, ◌+◌, ◌∷◌, ◌++◌, [], Some, true, false, ap, subst}
use Rattle.std.specs.Prelude.{slice_get}
use Rattle.cert_check.specs.Listing.{AreMarked}
use Rattle.cert_check.proofs.Marking.{marked_more, marked_same}
use Rattle.cert_check.proofs.listing.marked_numbers.Goals as goal
use Rattle.cert_check.proofs.listing.marked_numbers.Goals.{then-at+in_ok-push, else-at}

pub loop-place-preserved : goal.loop-place-preserved
loop-place-preserved c =
    let marks = c.args.marks.now in
    let place = c.loop-place.place in
    let numbers = c.loop-place.numbers in
    elim c.if-at.branch [
      | then-at+in_ok-push w ↦
          let at : slice_get marks place ≡ Some true = c.at.ensures ∙ ap Some w.if-at.true in
          let e : numbers ++ (place + 1) ∷ [] ≡ c.if-at.numbers = cc (w.numbers-is, w.in_ok-push.ensures.ok) in
          subst (AreMarked marks (place + 1)) e (marked_more marks place numbers c.loop-place.invariant at)
      | else-at w ↦
          let at : slice_get marks place ≡ Some false = c.at.ensures ∙ ap Some w.if-at.false in
          let e : numbers ≡ c.if-at.numbers = cc w.numbers-is in
          subst (AreMarked marks (place + 1)) e (marked_same marks place numbers c.loop-place.invariant at)
    ]
