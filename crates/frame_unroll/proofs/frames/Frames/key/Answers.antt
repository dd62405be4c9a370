use Rattle.std.proofs.Common.{◌≡◌, ◌∙◌, ap, sym, ℕ, ◌+◌, ◌-◌, List, Some, slice_get, arith}
use Rattle.query_model.specs.declared.keys.Key.{Key}
use Rattle.frame_unroll.proofs.Framing.{number-placed}
use Rattle.frame_unroll.proofs.frames.Frames.key.Goals as goal

pub returns-clause-inverse : goal.returns-clause-inverse
returns-clause-inverse c k is =
    let keys : List Key = c.args.self.now in
    let place : ℕ = c.args.var - 1 in
    let at : slice_get keys place ≡ Some k = ap (λ (ks : List Key). slice_get ks place) (sym c.self.view_is) ∙ c.key.ensures ∙ is in
    let next : place + 1 ≡ c.args.var = omega (arith, c.if-var-eq0.false) in
    number-placed keys place k c.vars.ensures.distinct at ∙ ap (λ (n : ℕ). Some n) next
