use Rattle.std.proofs.Common.{◌∙◌, refl, ap, sym, arith, length}
use Rattle.case_inputs.proofs.Tying.{joined, joined_is, length-pin_sets}
use Rattle.case_inputs.proofs.ties.Ties.of.Goals as goal

pub returns : goal.returns
returns c =
    record {
      nets = refl;
      sets = c.in_ok-sets.ensures;
      are = record {
        named = c.in_ok-named.ensures ∙ joined_is c.args.assumed.now ∙ ap joined (sym c.in_ok-sets.ensures);
        few = omega (arith, c.requires, ap length c.in_ok-sets.ensures, length-pin_sets c.args.assumed.now);
      };
    }
