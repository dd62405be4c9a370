use Rattle.model_tests.proofs.Kept.{none_gated}
use Rattle.model_tests.proofs.gated_building.ungated.Goals as goal

pub returns : goal.returns
returns c =
    none_gated c.args.design c.new.result c.in_ok-of.of c.len.result c.requires c.new.ensures c.len.ensures c.in_ok-of.ensures.all
