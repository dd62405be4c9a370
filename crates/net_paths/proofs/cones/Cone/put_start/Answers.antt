use Rattle.std.proofs.Common.{◌≡◌, ◌∙◌, ◌<◌, ℕ, [], ◌∷◌, ap, sym, subst, get_or}
use Rattle.std.proofs.lemmas.Option.{get_or_from_slice_get}
use Rattle.net_model.specs.Fits.{IsStartIn}
use Rattle.net_model.specs.Pins.{start_nets}
use Rattle.net_model.specs.declared.claims.PinRef.TheVariants.{Net}
use Rattle.net_paths.specs.Levels.{advanced}
use Rattle.net_paths.proofs.Growing.{growing_from_net, raised_noted, raised_told, empty_noted, unchanged_noted}
use Rattle.net_paths.proofs.cones.Cone.put_start.Goals as goal

pub returns-in_ok-put_net-in-Input-clause-growing : goal.returns-in_ok-put_net-in-Input-clause-growing
returns-in_ok-put_net-in-Input-clause-growing c =
    let net : ℕ = c.at.result in
    let is : get_or c.args.launch.now.design.now.inputs c.in-Input.input 0 ≡ net = get_or_from_slice_get c.args.launch.now.design.now.inputs c.in-Input.input
    net 0 c.at.ensures in
    let low : net < c.args.launch.now.design.now.nets = subst (λ n. n < c.args.launch.now.design.now.nets) is
    (c.requires.launch.sound.in_range.inputs c.in-Input.input 0
    (subst (λ s. IsStartIn c.args.launch.now.design.now s) c.in-Input.is c.requires.launch.start)) in
    growing_from_net c.args.launch.now.design.now c.args.launch.now.start.now c.args.launch.now.sets.now net c.args.self.now c.put_net.new.self low
    (subst (λ s. start_nets c.args.launch.now.design.now s ≡ net ∷ []) (sym c.in-Input.is) (ap (λ n. n ∷ []) is)) c.requires.empty
    c.in_ok-put_net-in-Input.ensures.raised

pub returns-in_ok-put_net-in-Input-clause-noted : goal.returns-in_ok-put_net-in-Input-clause-noted
returns-in_ok-put_net-in-Input-clause-noted c =
    let net : ℕ = c.at.result in
    let is : get_or c.args.launch.now.design.now.inputs c.in-Input.input 0 ≡ net =
    get_or_from_slice_get c.args.launch.now.design.now.inputs c.in-Input.input net 0 c.at.ensures in
    let low : net < c.args.launch.now.design.now.nets = subst (λ n. n < c.args.launch.now.design.now.nets) is (c.requires.launch.sound.in_range.inputs
    c.in-Input.input 0 (subst (λ s. IsStartIn c.args.launch.now.design.now s) c.in-Input.is c.requires.launch.start)) in
    raised_noted c.args.launch.now.design.now.nets net (advanced c.args.launch.now.sets.now 0 (Net net)) c.args.self.now c.put_net.new.self low
    (empty_noted c.args.launch.now.design.now.nets c.args.self.now c.requires.empty) c.in_ok-put_net-in-Input.ensures.raised

pub returns-in_err-put_net-in-Input-clause-noted : goal.returns-in_err-put_net-in-Input-clause-noted
returns-in_err-put_net-in-Input-clause-noted c =
    unchanged_noted c.args.launch.now.design.now.nets c.args.self.now c.put_net.new.self
    (empty_noted c.args.launch.now.design.now.nets c.args.self.now c.requires.empty) c.in_err-put_net-in-Input.ensures.unchanged

pub returns-in_ok-put_net-in-Input-clause-place : goal.returns-in_ok-put_net-in-Input-clause-place
returns-in_ok-put_net-in-Input-clause-place c =
    raised_told c.at.result (advanced c.args.launch.now.sets.now 0 (Net c.at.result)) c.args.self.now c.put_net.new.self
    c.in_ok-put_net-in-Input.ensures.raised ∙ c.requires.empty.told

pub returns-in_err-put_net-in-Input-clause-place : goal.returns-in_err-put_net-in-Input-clause-place
returns-in_err-put_net-in-Input-clause-place c = c.in_err-put_net-in-Input.ensures.unchanged.told ∙ c.requires.empty.told
