use Rattle.std.proofs.Common.{◌∙◌, arith, length}
use Rattle.net_model.specs.Args.{arg_at}
use Rattle.net_model.specs.FormLaws.{IsOver-weaker}
use Rattle.net_model.specs.Layers.{layer_pins}
use Rattle.net_model.specs.Completions.{tern_agrees}
use Rattle.net_model.specs.declared.terns.Tern.TheVariants.{Zero}
use Rattle.firm_runs.proofs.layers.layer_value.Goals as goal

pub apply-requires : goal.apply-requires
apply-requires c = IsOver-weaker (length c.args.gate.now.ins) 7 c.args.gate.now.func (omega arith) c.requires.over

pub returns : goal.returns
returns c =
    c.apply.ensures.value
    ∙ tern_agrees c.args.gate.now.func (length c.args.gate.now.ins) (arg_at c.layer_args-args.result)
    (layer_pins Zero c.args.sets.now c.args.rows.now c.args.layer c.args.place c.args.gate.now.ins) c.requires.over c.layer_args-args.ensures
