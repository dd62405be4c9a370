use Rattle.std.proofs.Common.{arith, ◌≡◌, ◌∙◌, ◌<◌, ℕ, false, length, refl, ap, sym, subst}
use Rattle.std.specs.Prelude.{All}
use Rattle.std.proofs.lemmas.List.{take_all}
use Rattle.std.proofs.lemmas.List.Elements.{All-more}
use Rattle.std.proofs.lemmas.Option.{get_or_from_slice_get}
use Rattle.sdc_settings.specs.Inputs.{name_at}
use Rattle.sdc_settings.specs.Settings.{is_clock}
use Rattle.sdc_settings.proofs.Naming.{name_here}
use Rattle.sdc_settings.proofs.cases.are_data.Goals as goal

pub loop-k-preserved : goal.loop-k-preserved
loop-k-preserved c =
    let P : ℕ → Type 0 = λ place. is_clock c.args.clock.now (name_at c.args.inputs.now place) ≡ false in
    let place : ℕ = c.at.result in
    let here : c.loop-k.k < length c.args.places.now = omega (arith, c.loop-k-test.true, c.len-k-end.ensures) in
    let now : P place = ap (is_clock c.args.clock.now) (name_here c.args.inputs.now place c.item.result.now c.item.ensures) ∙ sym c.is_clock.ensures
    ∙ c.if-is_clock.false in
    All-more P c.args.places.now c.loop-k.k 0 here c.loop-k.invariant
    (subst P (sym (get_or_from_slice_get c.args.places.now c.loop-k.k place 0 c.at.ensures)) now)

pub returns : goal.returns
returns c =
    let P : ℕ → Type 0 = λ place. is_clock c.args.clock.now (name_at c.args.inputs.now place) ≡ false in
    (λ is. subst (All P) (take_all c.loop-k.k c.args.places.now (omega (arith, c.loop-k-test.false, c.len-k-end.ensures))) c.loop-k.invariant, λ all. refl)
