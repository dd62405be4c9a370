use Rattle.std.specs.Prelude.{is_ok}
use Rattle.std.proofs.Common.{◌∙◌, take}
use Rattle.frame_unroll.proofs.KeyPages.{zeros_first, grown_reads}
use Rattle.frame_unroll.proofs.key_pages.reach.Goals as goal

pub loop-pages-preserved : goal.loop-pages-preserved
loop-pages-preserved c i =
    let numbers = c.args.numbers.now in
    let old = c.loop-pages.pages.items in
    grown_reads (is_ok c.extend_from_slice.result) old (take 128 numbers) c.extend_from_slice.new.self.items c.extend_from_slice.ensures.items
    (zeros_first numbers 128 c.requires.blank) i ∙ c.loop-pages.invariant i
