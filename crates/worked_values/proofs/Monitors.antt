-- What a monitor's literals tell of a cycle, and how its latches begin.
use Rattle.std.proofs.Common.{◌≡◌, ℕ, ◌+◌, ◌<◌, Bool, true, false, List, [], ◌∷◌, refl, subst, arith}
use Rattle.sdcv_base.specs.declared.kinds.Edge.TheVariants.{Any, Rise, Fall}
use Rattle.net_model.specs.declared.claims.Start.TheVariants.{Reg as RegStart}
use Rattle.net_model.specs.declared.cycles.Cycle.{Cycle}
use Rattle.claim_monitor.specs.declared.sizes.Sizes.{Sizes}
use Rattle.claim_monitor.specs.Fronts.{latch_count, early_place, front_count}
use Rattle.claim_monitor.specs.Tells.{edge_bit, toggle_bit, toggled, IsBadNowOn, IsCaughtNow}
use Rattle.worked_values.proofs.Graphs.{design, early_claim}

-- a start that was 1 falls, and one that was 0 does not
fall_begins_at_1 : edge_bit Fall true ≡ true
fall_begins_at_1 = refl

-- what was 0 can only rise
fall_does_not_begin_at_0 : edge_bit Fall false ≡ false
fall_does_not_begin_at_0 = refl

-- a start that was 0 rises, and one that was 1 does not
rise_begins_at_0 : edge_bit Rise false ≡ true
rise_begins_at_0 = refl

-- what was 1 can only fall
rise_does_not_begin_at_1 : edge_bit Rise true ≡ false
rise_does_not_begin_at_1 = refl

-- one register and one reset cycle: the latch that was live stands at place 2, the start's bit of the cycle before at place 3
abbrev sizes : Sizes
sizes = record { inputs = 0; regs = 1; resets = 1; judged = 1; has_capture = false; has_early = false }

-- the register's bit is 1 now
abbrev now : Cycle
now = record { bits = true ∷ []; ins = []; nets = [] }

-- it was 0 in the cycle before, the last one of the reset, which is not live
toggle_from_the_last_reset_cycle_does_not_count : toggle_bit sizes Any (RegStart 0) (true ∷ true ∷ false ∷ false ∷ []) now ≡ false
toggle_from_the_last_reset_cycle_does_not_count = refl

-- after a live cycle it counts
toggle_from_a_live_cycle_counts : toggle_bit sizes Any (RegStart 0) (true ∷ true ∷ true ∷ false ∷ []) now ≡ true
toggle_from_a_live_cycle_counts = refl

-- and it is a rise
toggle_from_0_is_no_fall : toggle_bit sizes Fall (RegStart 0) (true ∷ true ∷ true ∷ false ∷ []) now ≡ false
toggle_from_0_is_no_fall = refl

-- a start that keeps its bit toggles not
start_that_keeps_its_bit_toggles_not : toggle_bit sizes Any (RegStart 0) (true ∷ true ∷ true ∷ true ∷ []) now ≡ false
start_that_keeps_its_bit_toggles_not = refl

-- the same for the early side of a false path: one latch more
abbrev early_sizes : Sizes
early_sizes = record { inputs = 0; regs = 1; resets = 1; judged = 1; has_capture = false; has_early = true }

early_side_has_one_latch_more : latch_count early_sizes ≡ latch_count sizes + 1
early_side_has_one_latch_more = refl

-- it stands after all others, here at place 4
early_latch_is_the_last : front_count early_sizes ≡ early_place early_sizes + 1
early_latch_is_the_last = refl

-- a register that reads itself is its own start and end: with the start flipped its capture is another in each cycle
abbrev shown : Cycle
shown = record { bits = true ∷ []; ins = []; nets = true ∷ [] }

-- it toggles, and the capture of the cycle before would have been another
early_difference_and_a_toggle_are_caught : IsCaughtNow design early_sizes early_claim (true ∷ true ∷ true ∷ false ∷ true ∷ []) shown
early_difference_and_a_toggle_are_caught = record { r = 0; judged = omega arith; toggles = refl; bad = refl }

-- a caught run has its toggle now, and its latch is 1
caught_by : (x : List Bool) → IsCaughtNow design early_sizes early_claim x shown
    → (toggle_bit early_sizes Any (RegStart 0) x shown ≡ true) × (IsBadNowOn true design early_sizes early_claim x shown 0)
caught_by x caught =
    let first : caught.r ≡ 0 = omega (arith, caught.judged) in (
      subst (λ (r : ℕ). toggled early_sizes Any (RegStart 0) x shown r ≡ true) first caught.toggles,
      caught.bad,
    )

-- it keeps its bit: nothing was early, whatever the latch says
early_difference_without_a_toggle_is_not_caught : ¬ IsCaughtNow design early_sizes early_claim (true ∷ true ∷ true ∷ true ∷ true ∷ []) shown
early_difference_without_a_toggle_is_not_caught caught = let toggles = (caught_by (true ∷ true ∷ true ∷ true ∷ true ∷ []) caught).0 in cc

-- it toggles, and the capture of the cycle before would have been the same: that of this cycle does not count
early_difference_in_the_cycle_of_the_toggle_is_not_caught : ¬ IsCaughtNow design early_sizes early_claim (true ∷ true ∷ true ∷ false ∷ false ∷ []) shown
early_difference_in_the_cycle_of_the_toggle_is_not_caught caught = let bad = (caught_by (true ∷ true ∷ true ∷ false ∷ false ∷ []) caught).1 in cc
