use Rattle.std.proofs.Common.{◌&&◌, not, Bool, sym, ap, ◌∙◌}
use Rattle.sdcv_base.specs.Seqs.{is_marked}
use Rattle.link_cuts.proofs.frees.is_new.Goals as goal

pub returns-then-is_loose : goal.returns-then-is_loose
returns-then-is_loose c = λ x.
    ap not c.is_marked.ensures
    ∙ sym (ap (λ (b : Bool). b && not (is_marked c.args.seen.now c.args.pin.now.net)) (sym (c.is_loose.ensures x) ∙ c.if-is_loose.true))

pub returns-else-is_loose : goal.returns-else-is_loose
returns-else-is_loose c = λ x.
    c.if-is_loose.false
    ∙ sym (ap (λ (b : Bool). b && not (is_marked c.args.seen.now c.args.pin.now.net)) (sym (c.is_loose.ensures x) ∙ c.if-is_loose.false))
