use Rattle.std.proofs.Common.{arith, ◌≡◌, ◌∙◌, ℕ, Bool, not, ◌++◌, length, ap, sym}
use Rattle.std.specs.List.{filter, range_with_len}
use Rattle.sdc_settings.specs.Inputs.{name_at}
use Rattle.sdc_settings.specs.Settings.{is_clock, data_places}
use Rattle.sdc_settings.proofs.Naming.{name_here}
use Rattle.sdc_settings.proofs.Ranges.{added_taken, added_left}
use Rattle.sdc_settings.proofs.cases.add_data.Goals as goal
use Rattle.sdc_settings.proofs.cases.add_data.Goals.{then-not-is_clock+in_ok-push, else-not-is_clock}

pub loop-place-preserved : goal.loop-place-preserved
loop-place-preserved c =
    let test : ℕ → Bool = λ place. not (is_clock c.args.clock.now (name_at c.args.inputs.now place)) in
    let is : is_clock c.args.clock.now (name_at c.args.inputs.now c.loop-place.place) ≡ c.is_clock.result =
    ap (is_clock c.args.clock.now) (name_here c.args.inputs.now c.loop-place.place c.item.result.now c.item.ensures) ∙ sym c.is_clock.ensures in
    elim c.if-not-is_clock.branch [
      | then-not-is_clock+in_ok-push w ↦
          added_taken test c.args.found.now c.loop-place.found c.if-not-is_clock.found c.loop-place.place
          (ap not (is ∙ w.if-not-is_clock.true)) (w.found-is ∙ w.in_ok-push.ensures.ok) c.loop-place.invariant
      | else-not-is_clock w ↦
          w.found-is ∙ added_left test c.args.found.now c.loop-place.found c.loop-place.place (ap not (is ∙ w.if-not-is_clock.false)) c.loop-place.invariant
    ]

pub returns : goal.returns
unfolding data_places
returns c =
    let all : c.loop-place.place ≡ length c.args.inputs.now = omega (arith, c.loop-place-test.false, c.len-place-end.ensures, c.loop-place.auto.place-end) in
    c.loop-place.invariant
    ∙ ap (λ n. c.args.found.now ++ filter (λ place. not (is_clock c.args.clock.now (name_at c.args.inputs.now place))) (range_with_len 0 n)) all
