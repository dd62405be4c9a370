use Rattle.std.proofs.Common.{◌≡◌, ◌∙◌, ◌++◌, List, ℕ, sym, subst}
use Rattle.std.specs.Prelude.{OnOk}
use Rattle.mend_lines.specs.Lines.{bundled}
use Rattle.mend_lines.proofs.Joined.{list_one}
use Rattle.mend_lines.proofs.lists.push_list.Goals as goal

pub returns-then-is_one_bundle : goal.returns-then-is_one_bundle
returns-then-is_one_bundle c =
    let objects = c.args.objects.now in
    let P : List ℕ → Type 0 = λ s. OnOk c.push_bundles.result (c.push_bundles.new.text.items ≡ c.args.text.now.items ++ s) in
    subst P (list_one (bundled objects) (sym c.is_one_bundle.ensures ∙ c.if-is_one_bundle.true)) c.push_bundles.ensures
