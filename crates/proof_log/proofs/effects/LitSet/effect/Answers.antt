use Rattle.std.proofs.Common.{◌≡◌, false, arith, ap, sym, ◌∙◌}
use Rattle.std.proofs.lemmas.List.{get_or_read}
use Rattle.proof_log.specs.Literals.{negated}
use Rattle.proof_log.specs.Clauses.{is_set}
use Rattle.proof_log.proofs.Effecting.{neither_from_some}
use Rattle.proof_log.proofs.effects.LitSet.effect.Goals as goal

pub returns-then-is_some : goal.returns-then-is_some
returns-then-is_some g c =
    let set = g.Self.LitSet.lits c.args.self.now in
    let shown : c.is_set.result ≡ is_set set (negated c.l-item.result) = c.is_set.ensures ∙ ap (is_set set) c.negated.ensures in
    let unset : is_set set (negated c.l-item.result) ≡ false = sym shown ∙ c.if-not-is_set.true in
    neither_from_some set c.args.clause.now c.loop-l.l-index c.l-item.result c.loop-l.open
    (omega arith) (get_or_read c.args.clause.now c.loop-l.l-index c.l-item.result (omega arith) c.l-item.is 0)
    unset (sym c.is_some.ensures ∙ c.if-is_some.true) c.loop-l.invariant
