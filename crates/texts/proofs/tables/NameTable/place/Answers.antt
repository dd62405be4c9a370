use Rattle.std.proofs.Common.{◌∙◌, ℕ, List, ap}
use Rattle.std.specs.Str.{bytes_eq}
use Rattle.texts.specs.Names.{place_of}
use Rattle.texts.proofs.NameLemmas.{unwrap_or-position}
use Rattle.texts.proofs.tables.NameTable.place.Goals as goal

pub returns : goal.returns
returns c =
    c.unwrap_or.ensures ∙ rw (c.get_index_of.ensures.index, c.len.ensures.len) (unwrap_or-position (bytes_eq c.args.name.now) c.self.inside.names.keys
    ∙ ap (λ (names : List (List ℕ)). place_of c.args.name.now names) c.self.view_is)
