use Rattle.std.proofs.Common.{◌≡◌, ◌∙◌, ◌+◌, Bool, false, not, map, length, arith, subst}
use Rattle.net_model.specs.Form.{value}
use Rattle.net_model.specs.Layers.{AreLayers, AreLayersTo}
use Rattle.net_model.specs.Pins.{late_value}
use Rattle.net_model.proofs.LayerRows.{length-ChangesRow}
use Rattle.net_model.proofs.LateReads.{on_bits}
use Rattle.and_graphs.specs.Graphs.{bit_of}
use Rattle.claim_monitor.specs.Shown.{shown_row}
use Rattle.claim_monitor.specs.Layered.{shown_rows}
use Rattle.claim_monitor.proofs.Showing.{in_kept, AreIn-kept}
use Rattle.claim_monitor.proofs.LateLits.{layers_begun, layers_on}
use Rattle.claim_monitor.proofs.lates.make_layers.Goals as goal

pub loop-l-init : goal.loop-l-init
loop-l-init c =
    let d = c.args.design.now in
    let claim = c.args.claim.now in
    let old = c.args.graph.now in
    let new = c.settle_layer.new.graph in
    layers_begun d claim.start claim.through c.args.literal c.args.base.now old new c.args.rows.now c.put_base_row.new.rows c.put_late.new.rows
    c.settle_layer.new.rows c.requires.sound c.requires.start c.requires.base c.requires.literal c.requires.in_base c.requires.rows
    c.put_base_row.ensures.kept c.put_base_row.ensures.row c.put_late.ensures.kept
    (c.put_late.ensures.late new (in_kept old new c.args.literal c.in_ok-settle_layer.ensures.keeps c.requires.literal))
    c.in_ok-settle_layer.ensures.keeps c.in_ok-settle_layer.ensures.rows.in_ c.in_ok-settle_layer.ensures.kept
    c.in_ok-settle_layer.ensures.settled

pub loop-l-preserved : goal.loop-l-preserved
loop-l-preserved c =
    let d = c.args.design.now in
    let claim = c.args.claim.now in
    let new = c.settle_layer-in-loop-l.new.graph in
    layers_on d claim.start claim.through c.args.literal c.args.base.now c.args.graph.now c.loop-l.graph new c.loop-l.rows
    c.put_base_row-in-loop-l.new.rows c.settle_layer-in-loop-l.new.rows c.loop-l.l c.requires.sound (omega arith) c.requires.base c.requires.literal
    c.requires.in_base c.put_base_row-in-loop-l.ensures.kept c.put_base_row-in-loop-l.ensures.row
    c.in_ok-settle_layer-2.ensures.keeps c.in_ok-settle_layer-2.ensures.rows.in_ c.in_ok-settle_layer-2.ensures.kept
    c.in_ok-settle_layer-2.ensures.settled c.loop-l.invariant

pub settle_layer-requires-in-loop-l-clause-rows : goal.settle_layer-requires-in-loop-l-clause-rows
settle_layer-requires-in-loop-l-clause-rows c =
    let made = c.put_base_row-in-loop-l in
    let are = c.loop-l.invariant.are in
    let of_base = AreIn-kept c.args.graph.now c.loop-l.graph c.args.base.now c.loop-l.invariant.keeps c.requires.in_base in
    record {
      count = omega (arith, made.ensures.kept.count, are.count);
      lens = λ m le. length-ChangesRow (c.loop-l.l + 1) c.loop-l.rows made.new.rows made.ensures.kept m ∙ are.lens m (omega arith);
      in_ = made.ensures.in_ c.loop-l.graph of_base are.in_;
    }

pub returns-clause-layers : goal.returns-clause-layers
returns-clause-layers c =
    λ x len.
    let d = c.args.design.now in
    let claim = c.args.claim.now in
    let g = c.loop-l.graph in
    let b = bit_of g x c.args.literal in
    let whole : c.loop-l.l ≡ length claim.through = omega arith in
    let made : AreLayers value false d claim.start claim.through (late_value b (not b)) (map (λ (v : Bool). v) (shown_row g x c.args.base.now))
    (shown_rows g x c.loop-l.rows) =
    subst (AreLayersTo value false d claim.start claim.through (late_value b (not b)) (map (λ (v : Bool). v) (shown_row g x c.args.base.now))
    (shown_rows g x c.loop-l.rows)) whole (c.loop-l.invariant.layers x len) in
    on_bits d claim.start claim.through (late_value b (not b)) (shown_row g x c.args.base.now) (shown_rows g x c.loop-l.rows) made
