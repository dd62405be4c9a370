use Rattle.std.proofs.Common.{ap, sym, ◌∙◌, List}
use Rattle.query_model.specs.declared.keys.Key.{Key}
use Rattle.frame_unroll.specs.Framed.{number_if_any}
use Rattle.frame_unroll.proofs.Framing.{key-numbered}
use Rattle.frame_unroll.proofs.frames.Frames.number.Goals as goal

pub returns-clause-inverse : goal.returns-clause-inverse
returns-clause-inverse c n is =
    let k : Key = c.args.key.now in
    key-numbered c.args.self.now k n (sym (c.number.ensures ∙ ap (λ (keys : List Key). number_if_any keys k) c.self.view_is) ∙ is)
