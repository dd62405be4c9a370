use Rattle.std.proofs.Common.{◌≡◌, ◌+◌, ℕ, List, get_or, sym, subst}
use Rattle.std.specs.Prelude.{Some, slice_get}
use Rattle.std.proofs.lemmas.Option.{slice_get-get_or}
use Rattle.net_paths.proofs.Taking.{AreTakenUpTo, taken_none, taken_next, taken_all}
use Rattle.net_paths.proofs.ends.taken.Goals as goal

pub loop-place-init : goal.loop-place-init
loop-place-init c =
    subst (AreTakenUpTo c.args.ends.now c.args.places.now 0) (sym c.new-found.ensures) (taken_none c.args.ends.now c.args.places.now)

pub loop-place-preserved : goal.loop-place-preserved
loop-place-preserved c =
    let places : List ℕ = c.args.places.now in
    let i : ℕ = c.loop-place.place-index in
    let here : slice_get places i ≡ Some (get_or places i 0) = slice_get-get_or places i 0 c.loop-place-test.true in
    subst (AreTakenUpTo c.args.ends.now places (i + 1)) (sym c.in_ok-push.ensures.ok)
    (taken_next c.args.ends.now c.loop-place.found places i (get_or places i 0) c.at.result c.requires.once c.requires.ascending here c.at.ensures
    c.loop-place.invariant)

pub returns : goal.returns
returns c = taken_all c.args.ends.now c.loop-place.found c.args.places.now c.loop-place.place-index c.requires.once c.loop-place-test.false c.loop-place.invariant
