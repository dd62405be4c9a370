use Rattle.std.proofs.Common.{refl, subst}
use Rattle.std.specs.Prelude.{IsTrue, ◌↔◌}
use Rattle.firm_runs.specs.declared.free_bits.FreeBits.{FreeBits}
use Rattle.shown_runs.specs.DontCares.{Stands}
use Rattle.shown_runs.proofs.dont_cares.dont_cares.Goals as goal

pub returns : goal.returns
returns c =
    let l = c.args.linked.now in
    record {
      stands = c.in_ok-firm.firm;
      if_stands = subst (λ (free : FreeBits). IsTrue c.in_ok-firm.firm ↔ Stands l.design free c.args.claim.now c.args.stimulus.now c.args.toggle)
          c.free_inputs-free.ensures c.in_ok-firm.ensures;
      marks_are = rw (c.in_ok-marks.ensures, c.free_inputs-free.ensures, c.len.ensures) refl;
    }
