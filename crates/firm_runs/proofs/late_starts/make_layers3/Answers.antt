use Rattle.std.proofs.Common.{◌≡◌, ◌∙◌, ◌+◌, ◌≤◌, ℕ, length, arith, sym}
use Rattle.net_model.specs.Pins.{late_value}
use Rattle.net_model.specs.Layers.{row_at}
use Rattle.net_model.specs.Splitting.{tern_value}
use Rattle.net_model.specs.Completions.{tern_agrees}
use Rattle.net_model.proofs.LayerRows.{length-ChangesRow}
use Rattle.firm_runs.proofs.TernRows.{layers_first3, layers_next3}
use Rattle.firm_runs.proofs.late_starts.make_layers3.Goals as goal

pub loop-l-init : goal.loop-l-init
loop-l-init c =
    let d = c.args.design.now in
    let claim = c.args.claim.now in
    let base = c.put_base_row in
    let late = c.put_late in
    let gates = c.settle_layer in
    let lens : (m : ℕ) → m ≤ length claim.through → length (row_at gates.new.rows m) ≡ d.nets = λ m le.
    length-ChangesRow 0 late.new.rows gates.new.rows gates.ensures.kept m
    ∙ (length-ChangesRow 0 base.new.rows late.new.rows late.ensures.kept m
    ∙ (length-ChangesRow 0 c.args.rows.now base.new.rows base.ensures.kept m ∙ c.requires.lens m le)) in
    record {
      count = gates.ensures.kept.count ∙ (late.ensures.kept.count ∙ base.ensures.kept.count);
      lens = lens;
      layers =
          layers_first3 tern_value d claim.start claim.through (late_value c.args.value c.args.inverted) c.args.base.now
          base.new.rows late.new.rows gates.new.rows c.requires.sound c.requires.start c.requires.base
          (omega (arith, c.requires.rows, gates.ensures.kept.count, late.ensures.kept.count, base.ensures.kept.count))
          base.ensures.row late.ensures.late late.ensures.others (lens 0 (omega arith)) gates.ensures.sources gates.ensures.gates;
    }

pub loop-l-preserved : goal.loop-l-preserved
loop-l-preserved c =
    let d = c.args.design.now in
    let claim = c.args.claim.now in
    let layer = c.loop-l.l + 1 in
    let base = c.put_base_row-in-loop-l in
    let gates = c.settle_layer-in-loop-l in
    let made_lens : (m : ℕ) → m ≤ length claim.through → length (row_at base.new.rows m) ≡ d.nets = λ m le.
    length-ChangesRow layer c.loop-l.rows base.new.rows base.ensures.kept m ∙ c.loop-l.invariant.lens m le in
    let lens : (m : ℕ) → m ≤ length claim.through → length (row_at gates.new.rows m) ≡ d.nets = λ m le.
    length-ChangesRow layer base.new.rows gates.new.rows gates.ensures.kept m ∙ made_lens m le in
    record {
      count = gates.ensures.kept.count ∙ (base.ensures.kept.count ∙ c.loop-l.invariant.count);
      lens = lens;
      layers =
          layers_next3 tern_value tern_agrees d claim.start claim.through
          (late_value c.args.value c.args.inverted) c.args.base.now c.loop-l.rows base.new.rows gates.new.rows c.loop-l.l
          c.requires.sound (omega arith) c.requires.base c.loop-l.invariant.layers (λ m le. base.ensures.kept.others m (omega arith))
          (made_lens layer (omega arith) ∙ sym c.requires.base) base.ensures.row (gates.ensures.kept.count ∙ base.ensures.kept.count)
          (λ m le. gates.ensures.kept.others m (omega arith)) (lens layer (omega arith)) gates.ensures.sources gates.ensures.held gates.ensures.gates;
    }
