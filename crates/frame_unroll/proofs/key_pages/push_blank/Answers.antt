use Rattle.std.specs.Prelude.{is_ok}
use Rattle.std.proofs.Common.{take}
use Rattle.frame_unroll.proofs.KeyPages.{zeros_first, grown_reads}
use Rattle.frame_unroll.proofs.key_pages.push_blank.Goals as goal

pub returns-clause-same : goal.returns-clause-same
returns-clause-same c =
    let old = c.args.numbers.now.items in
    grown_reads (is_ok c.extend_from_within.result) old (take 128 old) c.extend_from_within.new.self.items c.extend_from_within.ensures.items
    (zeros_first old 128 c.requires.blank)
