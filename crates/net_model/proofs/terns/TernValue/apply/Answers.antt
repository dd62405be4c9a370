use Rattle.std.specs.Prelude.{◌≡◌}
use Rattle.std.proofs.Common.{sym, subst}
use Rattle.net_model.specs.Form.{value}
use Rattle.net_model.specs.Args.{arg_at}
use Rattle.net_model.specs.Ternary.{IsCommonValue}
use Rattle.net_model.specs.Splitting.{tern_value}
use Rattle.net_model.specs.Completions.{cell_is, tern_common, known_stays}
use Rattle.net_model.proofs.terns.TernValue.apply.Goals as goal

pub returns : goal.returns
returns c =
    let is : c.common_of.result ≡ tern_value c.args.func.now (arg_at c.args.args.now) =
    cell_is c.args.func.now (arg_at c.args.args.now) (arg_at c.of.result) c.common_of.result c.requires c.of.ensures c.common_of.ensures in
    let has : IsCommonValue (value c.args.func.now) (arg_at c.args.args.now) c.common_of.result =
    subst (IsCommonValue (value c.args.func.now) (arg_at c.args.args.now)) (sym is) (tern_common c.args.func.now (arg_at c.args.args.now) c.requires) in
    record {
      value = is;
      common = has;
      stays = λ more other known its b known_is. known_stays (value c.args.func.now)
          (arg_at c.args.args.now) more c.common_of.result other b known has its known_is;
    }
