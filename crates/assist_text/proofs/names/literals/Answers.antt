use Rattle.std.proofs.Common.{◌≡◌, ◌+◌, List, take, get_or, ap, sym, subst, arith, length}
use Rattle.net_model.specs.declared.invariants.StateLit.{StateLit}
use Rattle.sdcv_base.specs.declared.settings.Setting.{Setting}
use Rattle.assist_text.specs.Named.{IsLit, AreLits}
use Rattle.assist_text.proofs.Zips.{zip_more}
use Rattle.assist_text.proofs.names.literals.Goals as goal

pub loop-setting-preserved : goal.loop-setting-preserved
loop-setting-preserved c =
    let lits = c.args.clause.now.lits in
    let k = c.loop-setting.setting-index in
    let setting = c.setting-item.result in
    let same = c.as_slice-setting-items.ensures in
    let at = subst (λ (xs : List Setting). setting ≡ get_or xs k setting) same c.setting-item.is in
    λ cells is. subst (λ (ls : List StateLit). AreLits cells (take (k + 1) lits) ls) (sym c.in_ok-push.ensures.items)
    (zip_more (IsLit cells) lits c.loop-setting.lits.items k setting c.in_ok-literal.field-0 (omega (arith, ap length same)) at
    (c.loop-setting.invariant cells is) (c.in_ok-literal.ensures.ok cells is))
