use Rattle.std.proofs.Common.{◌≡◌, ◌<◌, ◌∙◌, length, ap, sym, subst}
use Rattle.std.proofs.lemmas.Option.{slice_get_within}
use Rattle.net_model.specs.declared.netlist.Gate.{Gate}
use Rattle.net_model.specs.declared.claims.PinRef.TheVariants.{Net}
use Rattle.net_paths.specs.Levels.{advanced, Reaches, level_at, IsAtLeast}
use Rattle.net_paths.proofs.Levelling.{out_in_range}
use Rattle.net_paths.proofs.Growing.{gate_of_pin, gate_is_reached, gate_is_passed, raised_growing, raised_grown, raised_has, unchanged_growing}
use Rattle.net_paths.proofs.Growing.{unchanged_grown, grown_same}
use Rattle.net_paths.proofs.cones.Cone.pass.Goals as goal

pub item-requires : goal.item-requires
item-requires c =
    let (g, at, low, from) = gate_of_pin c.args.launch.now.design.now c.args.net c.in-GateIn.gate c.in-GateIn.field-1 c.args.pin c.requires.leads
    c.in-GateIn.is in
    slice_get_within c.args.launch.now.design.now.gates c.in-GateIn.gate g at

pub raise-requires : goal.raise-requires
raise-requires c =
    let low = out_in_range c.args.launch.now.design.now c.in-GateIn.gate c.item.result.now c.requires.launch.sound c.item.ensures in
    subst (λ n. c.item.result.now.out < n) (sym c.requires.growing.noted.len) low

pub returns-in_ok-raise-clause-growing : goal.returns-in_ok-raise-clause-growing
returns-in_ok-raise-clause-growing c =
    let g : Gate = c.item.result.now in
    let low = out_in_range c.args.launch.now.design.now c.in-GateIn.gate g c.requires.launch.sound c.item.ensures in
    let reached = gate_is_reached c.args.launch.now.design.now c.args.launch.now.start.now c.args.launch.now.sets.now c.args.net c.args.met c.in-GateIn.gate
    c.in-GateIn.field-1 c.args.pin g c.requires.leads c.in-GateIn.is c.item.ensures c.requires.reached in
    let met : c.advance-beyond.result ≡ advanced c.args.launch.now.sets.now (advanced c.args.launch.now.sets.now c.args.met c.args.pin) (Net g.out) =
    subst (λ q. c.advance-beyond.result ≡ advanced c.args.launch.now.sets.now (advanced c.args.launch.now.sets.now c.args.met q) (Net g.out))
    (sym c.in-GateIn.is) (c.advance-beyond.ensures ∙ ap (λ n. advanced c.args.launch.now.sets.now n (Net g.out)) c.advance-into.ensures) in
    raised_growing c.args.launch.now.design.now c.args.launch.now.start.now c.args.launch.now.sets.now g.out c.advance-beyond.result c.args.self.now.told
    c.args.self.now c.raise.new.self low (subst (Reaches c.args.launch.now.design.now c.args.launch.now.start.now c.args.launch.now.sets.now (Net g.out))
    (sym met) reached) c.requires.here c.requires.growing c.in_ok-raise.ensures.raised

pub returns-in_ok-raise-clause-passed : goal.returns-in_ok-raise-clause-passed
returns-in_ok-raise-clause-passed c =
    let g : Gate = c.item.result.now in
    let low = out_in_range c.args.launch.now.design.now c.in-GateIn.gate g c.requires.launch.sound c.item.ensures in
    let within : g.out < length c.args.self.now.levels = subst (λ n. g.out < n) (sym c.requires.growing.noted.len) low in
    let met : c.advance-beyond.result ≡ advanced c.args.launch.now.sets.now (advanced c.args.launch.now.sets.now c.args.met c.args.pin) (Net g.out) =
    subst (λ q. c.advance-beyond.result ≡ advanced c.args.launch.now.sets.now (advanced c.args.launch.now.sets.now c.args.met q) (Net g.out))
    (sym c.in-GateIn.is) (c.advance-beyond.ensures ∙ ap (λ n. advanced c.args.launch.now.sets.now n (Net g.out)) c.advance-into.ensures) in
    gate_is_passed c.args.launch.now.design.now c.args.launch.now.sets.now c.args.met c.in-GateIn.gate c.in-GateIn.field-1 c.args.pin g
    c.raise.new.self.levels c.in-GateIn.is c.item.ensures
    (subst (λ n. IsAtLeast n (level_at c.raise.new.self.levels g.out)) met
    (raised_has g.out c.advance-beyond.result c.args.self.now c.raise.new.self within c.in_ok-raise.ensures.raised))

pub returns-in_ok-raise-clause-grown : goal.returns-in_ok-raise-clause-grown
returns-in_ok-raise-clause-grown c =
    let g : Gate = c.item.result.now in
    let low = out_in_range c.args.launch.now.design.now c.in-GateIn.gate g c.requires.launch.sound c.item.ensures in
    let within : g.out < length c.args.self.now.levels = subst (λ n. g.out < n) (sym c.requires.growing.noted.len) low in
    raised_grown g.out c.advance-beyond.result c.args.self.now c.raise.new.self within c.in_ok-raise.ensures.raised

pub returns-in_err-raise-clause-growing : goal.returns-in_err-raise-clause-growing
returns-in_err-raise-clause-growing c =
    unchanged_growing c.args.launch.now.design.now c.args.launch.now.start.now c.args.launch.now.sets.now c.args.self.now.told c.args.self.now
    c.raise.new.self c.requires.growing c.in_err-raise.ensures.unchanged

pub returns-in_err-raise-clause-grown : goal.returns-in_err-raise-clause-grown
returns-in_err-raise-clause-grown c = unchanged_grown c.args.self.now c.raise.new.self c.in_err-raise.ensures.unchanged

pub returns-in_default-clause-grown : goal.returns-in_default-clause-grown
returns-in_default-clause-grown c = grown_same c.args.self.now
