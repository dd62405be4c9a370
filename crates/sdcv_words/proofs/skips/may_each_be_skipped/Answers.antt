use Rattle.std.proofs.Common.{◌∙◌, sym, List, ℕ}
use Rattle.std.specs.Borrow.{Bor}
use Rattle.std.proofs.lemmas.List.Folds.{list_all-map}
use Rattle.sdcv_words.specs.Skips.{may_be_skipped}
use Rattle.sdcv_words.proofs.skips.may_each_be_skipped.Goals as goal

pub returns : goal.returns
returns c = c.may_all.ensures ∙ sym (list_all-map may_be_skipped (λ (name : Bor (List ℕ)). name.now) c.args.names.now)
