use Rattle.std.proofs.Common.{◌∙◌, sym, List, ℕ}
use Rattle.std.specs.Borrow.{Bor}
use Rattle.std.specs.Str.{bytes_eq}
use Rattle.sdcv_words.proofs.Lists.{list_any-map}
use Rattle.sdcv_words.proofs.skips.is_one_of.Goals as goal

pub returns : goal.returns
returns c = c.has_name.ensures ∙ sym (list_any-map (bytes_eq c.args.name.now) (λ (one : Bor (List ℕ)). one.now) c.args.names.now)
