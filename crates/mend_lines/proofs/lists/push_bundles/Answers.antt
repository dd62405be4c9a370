use Rattle.std.proofs.Common.{◌∙◌, ◌++◌, ◌-◌, List, take, drop, ap, arith}
use Rattle.script_types.specs.declared.objects.Object.{Object}
use Rattle.mend_lines.specs.Lines.{bundled, bundle_by, several_text}
use Rattle.mend_lines.proofs.Joined.{bundle_added, bundles_done}
use Rattle.mend_lines.proofs.lists.push_bundles.Goals as goal

pub loop-from-preserved : goal.loop-from-preserved
loop-from-preserved c =
    let from = c.loop-from.from in
    let end = c.bundle_end-end.result in
    let between = c.push_between.new.text.items in
    let first = c.item.result.now in
    record {
      within = c.bundle_end-end.ensures.within;
      made = bundle_added c.args.objects.now c.loop-from.from c.bundle_end-end.result c.item.result.now
          (c.args.text.now.items ++ several_text (bundled c.args.objects.now)) c.loop-from.text.items c.push_between.new.text.items
          c.push_bundle.new.text.items c.item.ensures c.bundle_end-end.ensures.more c.bundle_end-end.ensures.bundle c.loop-from.invariant.made
          c.in_ok-push_between.ensures
          (c.in_ok-push_bundle.ensures
          ∙ ap (λ (objects : List Object). between ++ bundle_by first (take (end - from) (drop from objects))) c.as_slice.ensures);
    }

pub returns : goal.returns
returns c =
    bundles_done c.args.objects.now c.loop-from.from (c.args.text.now.items ++ several_text (bundled c.args.objects.now)) c.loop-from.text.items
    (omega arith) c.loop-from.invariant.made
