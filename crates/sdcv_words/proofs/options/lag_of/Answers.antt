use Rattle.std.proofs.Common.{◌∙◌, ap, sym, map, arith}
use Rattle.clap_words.specs.Readings.{seen_given}
use Rattle.sdcv_words.specs.Numbers.{number_or}
use Rattle.sdcv_words.proofs.Ranges.{lag_range}
use Rattle.sdcv_words.proofs.options.lag_of.Goals as goal

pub overflow_cast-result : goal.overflow_cast-result
overflow_cast-result c =
    let lag = lag_range (map seen_given c.args.given.now) c.in_ok-lag.lag (ap (number_or 0 0 8) (sym c.text_of.ensures) ∙ sym c.in_ok-lag.ensures) in
    omega (arith, lag)
