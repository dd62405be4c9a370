use Rattle.std.proofs.Common.{arith, ◌≡◌, ◌∙◌, ℕ, Bool, ◌++◌, length, ap, sym}
use Rattle.std.specs.List.{filter, range_with_len}
use Rattle.sdc_settings.specs.Inputs.{names_one, names_input, names_bit, named_places}
use Rattle.sdc_settings.proofs.Ranges.{added_taken, added_left}
use Rattle.sdc_settings.proofs.inputs.add_named.Goals as goal
use Rattle.sdc_settings.proofs.inputs.add_named.Goals.{then-names_bit+in_ok-push, else-names_bit}

pub loop-place-preserved : goal.loop-place-preserved
loop-place-preserved c =
    let test : ℕ → Bool = names_input c.args.query.now c.args.inputs.now in
    let is : test c.loop-place.place ≡ names_bit c.args.query.now c.item.result.now = ap (names_one c.args.query.now) c.item.ensures in
    elim c.if-names_bit.branch [
      | then-names_bit+in_ok-push w ↦
          added_taken test c.args.found.now c.loop-place.found c.if-names_bit.found c.loop-place.place (is ∙ sym c.names_bit.ensures ∙ w.if-names_bit.true)
          (w.found-is ∙ w.in_ok-push.ensures.ok) c.loop-place.invariant
      | else-names_bit w ↦
          w.found-is ∙ added_left test c.args.found.now c.loop-place.found c.loop-place.place (is ∙ sym c.names_bit.ensures ∙ w.if-names_bit.false)
          c.loop-place.invariant
    ]

pub returns : goal.returns
unfolding named_places
returns c =
    let all : c.loop-place.place ≡ length c.args.inputs.now = omega (arith, c.loop-place-test.false, c.len-place-end.ensures, c.loop-place.auto.place-end) in
    c.loop-place.invariant ∙ ap (λ n. c.args.found.now ++ filter (names_input c.args.query.now c.args.inputs.now) (range_with_len 0 n)) all
