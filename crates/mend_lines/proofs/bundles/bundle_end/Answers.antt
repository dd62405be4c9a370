use Rattle.std.proofs.Common.{◌≡◌, ◌∙◌, ◌+◌, ◌-◌, true, false, sym, drop, arith}
use Rattle.list_laws.proofs.Joining.{item_at}
use Rattle.mend_lines.specs.Lines.{go_together}
use Rattle.mend_lines.proofs.Bundling.{run_after, bundle_at, run_ends, run_more, run_last}
use Rattle.mend_lines.proofs.bundles.bundle_end.Goals as goal

pub returns-then-not-go_together-clause-bundle : goal.returns-then-not-go_together-clause-bundle
returns-then-not-go_together-clause-bundle c =
    let objects = c.args.objects.now in
    let from = c.args.from in
    let place = c.loop-place.place in
    let (first, here) = item_at objects from c.requires in
    let apart : go_together c.item.result.now c.item-in-loop-place.result.now ≡ false = sym c.go_together.ensures ∙ c.if-not-go_together.true in
    let so_far = c.loop-place.invariant.run first c.item.result.now here c.item.ensures in
    let ends = run_ends objects place c.item.result.now c.item-in-loop-place.result.now c.item-in-loop-place.ensures apart in
    let there : run_after first (drop (from + 1) objects) + (from + 1) ≡ place = omega (arith, so_far, ends) in
    bundle_at objects from place first here there

pub loop-place-preserved : goal.loop-place-preserved
loop-place-preserved c =
    let objects = c.args.objects.now in
    let goes : go_together c.item.result.now c.item-in-loop-place.result.now ≡ true = sym c.go_together.ensures ∙ c.if-not-go_together.false in
    record {
      more = omega arith;
      within = omega arith;
      run = λ first after here there. run_more objects c.args.from c.loop-place.place first c.item.result.now c.item-in-loop-place.result.now after
          c.item-in-loop-place.ensures goes (c.loop-place.invariant.run first c.item.result.now here c.item.ensures) there;
    }

pub returns-clause-bundle : goal.returns-clause-bundle
returns-clause-bundle c =
    let objects = c.args.objects.now in
    let from = c.args.from in
    let place = c.loop-place.place in
    let (first, here) = item_at objects from c.requires in
    let (last, there) = item_at objects (place - 1) (omega arith) in
    let so_far = c.loop-place.invariant.run first last here there in
    let ends = run_last objects place last (omega arith) in
    let at_end : run_after first (drop (from + 1) objects) + (from + 1) ≡ c.len-count.result = omega (arith, so_far, ends) in
    bundle_at objects from c.len-count.result first here at_end
