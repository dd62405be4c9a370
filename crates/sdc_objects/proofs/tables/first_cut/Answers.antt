use Rattle.std.proofs.Common.{arith, ◌≡◌, ℕ, get_or, ap}
use Rattle.std.proofs.lemmas.List.Sums.{sum_by_more}
use Rattle.std.proofs.lemmas.Option.{slice_get_within, get_or_from_slice_get}
use Rattle.linked_types.specs.declared.names.CutName.{CutName}
use Rattle.sdc_objects.proofs.tables.first_cut.Goals as goal

pub loop-k-preserved : goal.loop-k-preserved
loop-k-preserved c =
    let count : CutName → ℕ = λ (x : CutName). x.count in
    let cuts = c.args.names.now.cuts in
    let item = c.item.result.now in
    let low = slice_get_within cuts c.loop-k.k item c.item.ensures in
    let here : count (get_or cuts c.loop-k.k item) ≡ count item = ap count (get_or_from_slice_get cuts c.loop-k.k item item c.item.ensures) in
    omega (arith, c.saturating_sub-first.ensures, c.loop-k.invariant, sum_by_more count cuts c.loop-k.k item low, here)
