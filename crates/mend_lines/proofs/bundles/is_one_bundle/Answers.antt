use Rattle.std.proofs.Common.{◌-◌, take}
use Rattle.mend_lines.proofs.Bundling.{one_bundle, no_bundle}
use Rattle.mend_lines.proofs.bundles.is_one_bundle.Goals as goal

pub returns-then-len-ne0 : goal.returns-then-len-ne0
returns-then-len-ne0 c =
    one_bundle c.args.objects.now (take (c.bundle_end.result - 0) c.args.objects.now) c.bundle_end.result c.len-then-len-ne0.result
    c.len-then-len-ne0.ensures c.bundle_end.ensures.within c.bundle_end.ensures.bundle

pub returns-else-len-ne0 : goal.returns-else-len-ne0
returns-else-len-ne0 c = no_bundle c.args.objects.now c.len.result c.len.ensures c.if-len-ne0.false
