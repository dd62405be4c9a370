use Rattle.std.proofs.Common.{subst}
use Rattle.netlist_types.specs.declared.sources.Module.{Module}
use Rattle.cut_source.specs.Cuttable.{plan}
use Rattle.cut_source.specs.Sources.{AreNamesBelow}
use Rattle.cut_source.proofs.Widening.{at_place}
use Rattle.cut_source.proofs.cuts.cut_below.Goals as goal

pub returns : goal.returns
returns c =
    let s = c.args.netlist.now.source.now in
    let p = plan s c.args.netlist.now.library.now c.args.cutting.now.free in
    let (top, at, is) = c.requires in record {
      top = top;
      top_is = is;
      names = c.in_ok-names.names;
      below = subst (λ (m : Module). AreNamesBelow p m c.in_ok-names.names) (at_place s c.args.top top at) c.in_ok-names.ensures;
      modules = c.in_ok-modules.ensures;
      items = c.in_ok-items.ensures;
    }
