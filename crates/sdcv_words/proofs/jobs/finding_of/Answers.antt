use Rattle.std.proofs.Common.{◌∙◌, ap, sym, map, arith}
use Rattle.clap_words.specs.Readings.{seen_given}
use Rattle.sdcv_words.specs.Numbers.{number_or}
use Rattle.sdcv_words.proofs.Ranges.{bound_range}
use Rattle.sdcv_words.proofs.jobs.finding_of.Goals as goal

pub overflow_cast-result : goal.overflow_cast-result
overflow_cast-result c =
    let same = ap (number_or 4 2 16) (sym c.text_of-2.ensures) ∙ sym c.in_ok-bound.ensures in
    let bound = bound_range (map seen_given c.args.given.now) c.in_ok-bound.bound same in
    omega (arith, bound.1)
