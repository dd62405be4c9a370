use Rattle.std.proofs.Common.{◌∙◌, sym, arith}
use Rattle.std.proofs.lemmas.Option.{slice_get_within}
use Rattle.net_model.proofs.Layered.{layer_more, layer_skip}
use Rattle.net_model.specs.Splitting.{tern_value}
use Rattle.net_model.specs.Completions.{tern_agrees}
use Rattle.net_model.specs.declared.terns.Tern.TheVariants.{Zero}
use Rattle.firm_runs.proofs.layers.settle_layer.Goals as goal
use Rattle.firm_runs.proofs.layers.settle_layer.Goals.{then-not-is_held, else-not-is_held}

pub loop-k-preserved : goal.loop-k-preserved
loop-k-preserved c =
    elim c.if-not-is_held.branch [
      | then-not-is_held w ↦ rw (w.rows-is, w.put_in.ensures) (layer_more tern_value tern_agrees Zero
          c.args.design.now c.args.sets.now c.args.layer c.args.rows.now c.loop-k.rows c.loop-k.k c.item-gate.result.now w.layer_value-value.result
          c.requires.sound (omega arith) c.item-gate.ensures (sym c.is_held.ensures ∙ w.if-not-is_held.true) w.layer_value-value.ensures
          c.loop-k.invariant)
      | else-not-is_held w ↦ rw w.rows-is (layer_skip tern_value Zero c.args.design.now c.args.sets.now c.args.layer
          c.args.rows.now c.loop-k.rows c.loop-k.k c.item-gate.result.now c.item-gate.ensures (sym c.is_held.ensures ∙ w.if-not-is_held.false)
          c.loop-k.invariant)
    ]

pub returns-clause-gates : goal.returns-clause-gates
returns-clause-gates c =
    λ k h at free. let within = slice_get_within c.args.design.now.gates k h at in
    c.loop-k.invariant.gates k (omega arith) h at free
