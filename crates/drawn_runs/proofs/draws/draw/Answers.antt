use Rattle.std.proofs.Common.{ℕ, ap, sym, ◌∙◌}
use Rattle.rand_pcg.specs.Lcg.{Lcg}
use Rattle.drawn_runs.specs.Draws.{drawn}
use Rattle.drawn_runs.proofs.Drawing.{after-more}
use Rattle.drawn_runs.proofs.draws.draw.Goals as goal

pub returns-clause-next : goal.returns-clause-next
returns-clause-next c =
    λ k at.
    ap (λ (p : ℕ × Lcg). p.1) c.next_u64_via_u32.ensures ∙ (ap (λ (g : Lcg). (drawn g).1) at ∙ sym (after-more k))
