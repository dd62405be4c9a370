use Rattle.std.proofs.Common.{arith, ◌≡◌, ◌<◌, ◌≤◌, ◌∙◌, ℕ, List, length, ap, sym, subst, get_or, inl, inr}
use Rattle.std.specs.Prelude.{Some, slice_get}
use Rattle.std.proofs.lemmas.Bool.{cases_lt}
use Rattle.std.proofs.lemmas.Option.{slice_get-get_or, slice_get_within}
use Rattle.std.proofs.lemmas.List.Elements.{Contains-get_or}
use Rattle.net_model.specs.Paths.{LeadsTo, To_gate}
use Rattle.net_model.specs.declared.claims.PinRef.{PinRef}
use Rattle.net_model.specs.declared.claims.PinRef.TheVariants.{Net, GateIn}
use Rattle.net_paths.specs.Readers.{readers_at}
use Rattle.net_paths.specs.Cones.{IsGrowing, IsPassed}
use Rattle.net_paths.proofs.Growing.{some_is, grown_same, grown_more, passed_grown, told_from_passed}
use Rattle.net_paths.proofs.cones.Cone.tell_all.Goals as goal

pub loop-pin-init : goal.loop-pin-init
loop-pin-init c = record { growing = c.requires.growing; grown = grown_same c.args.self.now; passed = λ j pin low at. absurd (omega (arith, low)) }

pub pass-requires-clause-leads : goal.pass-requires-clause-leads
pass-requires-clause-leads c =
    let row : List PinRef = readers_at c.args.readers.now.rows.items c.args.net in
    let low : c.loop-pin.pin-index < length row = subst (λ (l : List PinRef). c.loop-pin.pin-index < length l) c.of_net-pin-items.ensures
    c.loop-pin-test.true in
    let pin : PinRef = get_or row c.loop-pin.pin-index (Net 0) in
    subst (λ (l : List PinRef). LeadsTo c.args.launch.now.design.now (Net c.args.net) (get_or l c.loop-pin.pin-index (Net 0)))
    (sym c.of_net-pin-items.ensures) (c.requires.readers.reads c.args.net pin (Contains-get_or row c.loop-pin.pin-index (Net 0) low))

pub loop-pin-preserved : goal.loop-pin-preserved
loop-pin-preserved c =
    let row : List PinRef = readers_at c.args.readers.now.rows.items c.args.net in
    let i : ℕ = c.loop-pin.pin-index in
    let items = c.of_net-pin-items.ensures in
    record {
      growing = subst (λ n. IsGrowing c.args.launch.now.design.now c.args.launch.now.start.now c.args.launch.now.sets.now c.pass.new.self n)
          c.loop-pin.invariant.grown.told c.in_ok-pass.ensures.growing;
      grown = grown_more c.args.self.now c.loop-pin.self c.pass.new.self c.loop-pin.invariant.grown c.in_ok-pass.ensures.grown;
      passed = λ j pin low at. elim (cases_lt j i) [
        | inl earlier ↦ passed_grown c.args.launch.now.design.now c.args.launch.now.sets.now c.args.met pin c.loop-pin.self c.pass.new.self
            c.in_ok-pass.ensures.grown (c.loop-pin.invariant.passed j pin earlier at)
        | inr past ↦
            let same : j ≡ i = omega (arith, low, past) in
            let within : i < length row = subst (λ (l : List PinRef). i < length l) items c.loop-pin-test.true in
            let is : get_or row i (Net 0) ≡ pin = some_is (get_or row i (Net 0)) pin
            (sym (slice_get-get_or row i (Net 0) within) ∙ subst (λ p. slice_get row p ≡ Some pin) same at) in
            subst (λ q. IsPassed c.args.launch.now.design.now c.args.launch.now.sets.now c.args.met q c.pass.new.self.levels)
            (ap (λ (l : List PinRef). get_or l i (Net 0)) items ∙ is) c.in_ok-pass.ensures.passed
      ];
    }

pub returns-clause-told : goal.returns-clause-told
returns-clause-told c =
    let row : List PinRef = readers_at c.args.readers.now.rows.items c.args.net in
    told_from_passed c.args.launch.now.design.now c.args.launch.now.sets.now c.args.net c.args.met c.args.self.now.told row c.args.self.now c.loop-pin.self
    (λ k g i at within is. c.requires.readers.all c.args.net (GateIn k i)
    (subst (λ n. LeadsTo c.args.launch.now.design.now (Net n) (GateIn k i)) is (To_gate k g i at within)) tt)
    c.requires.level c.requires.here c.loop-pin.invariant.grown
    (λ j pin at. c.loop-pin.invariant.passed j pin (let low = slice_get_within row j pin at in let past =
    subst (λ (l : List PinRef). length l ≤ c.loop-pin.pin-index) c.of_net-pin-items.ensures c.loop-pin-test.false in omega (arith, low, past)) at)

pub returns-in_err-pass-clause-growing : goal.returns-in_err-pass-clause-growing
returns-in_err-pass-clause-growing c =
    subst (λ n. IsGrowing c.args.launch.now.design.now c.args.launch.now.start.now c.args.launch.now.sets.now c.pass.new.self n)
    c.loop-pin.invariant.grown.told c.in_err-pass.ensures.growing

pub returns-in_err-pass-clause-grown : goal.returns-in_err-pass-clause-grown
returns-in_err-pass-clause-grown c = grown_more c.args.self.now c.loop-pin.self c.pass.new.self c.loop-pin.invariant.grown c.in_err-pass.ensures.grown
