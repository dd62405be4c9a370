use Rattle.sdcv_base.proofs.DecimalTexts.{decimal_is_read}
use Rattle.sdcv_base.proofs.decimals.push_decimal.Goals as goal

pub returns-in_err-text-clause-reads : goal.returns-in_err-text-clause-reads
returns-in_err-text-clause-reads c = decimal_is_read c.args.n c.ranges.n.fits

pub returns-clause-reads : goal.returns-clause-reads
returns-clause-reads c = decimal_is_read c.args.n c.ranges.n.fits
