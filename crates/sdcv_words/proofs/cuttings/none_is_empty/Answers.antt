use Rattle.std.proofs.Common.{◌∙◌, sym, List, ℕ}
use Rattle.std.specs.Borrow.{Bor}
use Rattle.std.proofs.lemmas.List.Folds.{list_all-map}
use Rattle.sdcv_words.specs.Cuttings.{has_text}
use Rattle.sdcv_words.proofs.cuttings.none_is_empty.Goals as goal

pub returns : goal.returns
returns c = c.all_have_text.ensures ∙ sym (list_all-map has_text (λ (part : Bor (List ℕ)). part.now) c.args.parts.now)
