use Rattle.std.proofs.Common.{ap, sym, ◌∙◌}
use Rattle.std.specs.Option.{option_copied}
use Rattle.std.proofs.lemmas.Result.{on_ok_weaker}
use Rattle.cut_source.specs.Cuttable.{plan}
use Rattle.cut_source.proofs.Widening.{widened}
use Rattle.cut_source.proofs.below.widen.Goals as goal

pub returns-in-Some : goal.returns-in-Some
returns-in-Some c =
    let p = plan c.args.netlist.now.source.now c.args.netlist.now.library.now c.args.free.now in
    on_ok_weaker c.add_all_inner.result (λ made.
    widened p c.args.names.now c.add_all_inner.new.names c.args.place c.in-Some.body.now
    (sym c.module_named.ensures ∙ ap option_copied c.in-Some.is) made) c.add_all_inner.ensures
