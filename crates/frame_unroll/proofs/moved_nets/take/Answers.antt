use Rattle.std.proofs.Common.{◌≡◌, ◌<◌, ◌∙◌, ℕ, true, false, add-one, ap, inl, inr, length, map, subst, sym}
use Rattle.std.specs.Prelude.{slice_index}
use Rattle.std.proofs.lemmas.Option.{get_or_from_slice_get, slice_get_within}
use Rattle.net_model.specs.Fits.{IsPinIn}
use Rattle.net_model.specs.Layers.{held_set, pin_reads}
use Rattle.net_model.specs.Pins.{is_in}
use Rattle.net_model.specs.Netlist.{IsGateInRange}
use Rattle.net_model.proofs.Settling.{All-at}
use Rattle.std.proofs.lemmas.List.Elements.{All-get_or}
use Rattle.net_model.specs.declared.claims.PinRef.TheVariants.{Net, GateIn}
use Rattle.frame_unroll.specs.Moves.{rows_of}
use Rattle.frame_unroll.proofs.Moving.{net_listed, driver_lists, driver_stays, taken_lists, taken_stays}
use Rattle.frame_unroll.proofs.moved_nets.take.Goals as goal
use Rattle.frame_unroll.proofs.moved_nets.take.Goals.{else-late-via-then-late+else-not-is_held, else-late-via-else-late}

pub returns-in_ok-insert-in-Net : goal.returns-in_ok-insert-in-Net
returns-in_ok-insert-in-Net c =
    let d = c.args.design.now in
    let layers = c.args.layers.now in
    let low : c.in-Net.net < d.nets = subst (IsPinIn d) c.in-Net.is c.requires.pin in
    rw c.in_ok-insert-in-Net.ensures.keys (driver_lists d c.args.sets.now (rows_of d.nets (map (λ s. s.keys) layers)) c.args.l c.args.pin c.in-Net.net
    c.args.found.now.keys c.in-Net.is
    (net_listed d.nets layers c.args.l c.in-Net.net c.index-layers-l.result c.requires.layers c.index-layers-l.is low
    ∙ (sym c.contains.ensures ∙ c.if-contains.true)))

pub returns-else-contains : goal.returns-else-contains
returns-else-contains c =
    let d = c.args.design.now in
    let layers = c.args.layers.now in
    let low : c.in-Net.net < d.nets = subst (IsPinIn d) c.in-Net.is c.requires.pin in
    driver_stays d c.args.sets.now (rows_of d.nets (map (λ s. s.keys) layers)) c.args.l c.args.pin c.in-Net.net c.args.found.now.keys c.in-Net.is
    (net_listed d.nets layers c.args.l c.in-Net.net c.index-layers-l.result c.requires.layers c.index-layers-l.is low
    ∙ (sym c.contains.ensures ∙ c.if-contains.false))

pub returns-in_ok-insert-in-GateIn : goal.returns-in_ok-insert-in-GateIn
returns-in_ok-insert-in-GateIn c =
    let d = c.args.design.now in
    let g = c.item-driver.result.now in
    let k = c.in-GateIn.gate in
    let i = c.in-GateIn.place in
    let rows = rows_of d.nets (map (λ s. s.keys) c.args.layers.now) in
    let within : i < length g.ins = slice_get_within g.ins i c.at.result c.at.ensures in
    let net : slice_index g.ins i ≡ c.at.result = get_or_from_slice_get g.ins i c.at.result 0 c.at.ensures in
    let range = All-at (IsGateInRange d) d.gates k g c.item-driver.ensures c.requires.sound.in_range.gates in
    let low : c.at.result < d.nets = subst (λ (x : ℕ). x < d.nets) net (All-get_or (λ (x : ℕ). x < d.nets) g.ins i 0 within range.ins) in
    rw c.in_ok-insert-in-GateIn.ensures.keys (taken_lists d c.args.sets.now rows c.args.l c.args.pin k i g c.args.found.now.keys c.in-GateIn.is
    c.item-driver.ensures within
    (subst (λ (m : ℕ). is_in (Net g.out) (held_set c.args.sets.now m) ≡ false) (add-one c.args.l) (sym c.is_held.ensures ∙ c.if-not-is_held.true))
    (ap (pin_reads false c.args.sets.now rows c.args.l (GateIn k i)) net ∙ (sym (c.reads_moved-late.ensures d.nets low) ∙ c.if-late.true)))

pub returns-else-late : goal.returns-else-late
returns-else-late c =
    let d = c.args.design.now in
    let g = c.item-driver.result.now in
    let k = c.in-GateIn.gate in
    let i = c.in-GateIn.place in
    let rows = rows_of d.nets (map (λ s. s.keys) c.args.layers.now) in
    let within : i < length g.ins = slice_get_within g.ins i c.at.result c.at.ensures in
    let net : slice_index g.ins i ≡ c.at.result = get_or_from_slice_get g.ins i c.at.result 0 c.at.ensures in
    let range = All-at (IsGateInRange d) d.gates k g c.item-driver.ensures c.requires.sound.in_range.gates in
    let low : c.at.result < d.nets = subst (λ (x : ℕ). x < d.nets) net (All-get_or (λ (x : ℕ). x < d.nets) g.ins i 0 within range.ins) in
    taken_stays d c.args.sets.now rows c.args.l c.args.pin k i g c.args.found.now.keys c.in-GateIn.is c.item-driver.ensures
    (elim c.else-late.branch [
      | else-late-via-then-late+else-not-is_held w ↦
          inl (subst (λ (m : ℕ). is_in (Net g.out) (held_set c.args.sets.now m) ≡ true) (add-one c.args.l) (sym w.is_held.ensures ∙ w.if-not-is_held.false))
      | else-late-via-else-late w ↦
          inr (ap (pin_reads false c.args.sets.now rows c.args.l (GateIn k i)) net ∙ (sym (c.reads_moved-late.ensures d.nets low) ∙ w.if-late.false))
    ])
