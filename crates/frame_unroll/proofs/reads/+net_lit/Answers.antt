use Rattle.std.proofs.Common.{◌≡◌, ◌-◌, suc, ◌∙◌, ap, sym, arith}
use Rattle.std.specs.Prelude.{◌==◌}
use Rattle.query_model.specs.Keys.{flipped}
use Rattle.query_model.specs.Reads.{read}
use Rattle.frame_unroll.proofs.Reading.{read_first, read_unmoved, read_held, read_free}
use Rattle.frame_unroll.proofs.reads.+net_lit.Goals as goal
use Rattle.frame_unroll.proofs.reads.+net_lit.Goals.{then-key-eq0-via-then-key-eq0, then-key-eq0-via-else-key-eq0+then-not-has}

pub returns-then-key-eq0 : goal.returns-then-key-eq0
returns-then-key-eq0 t c =
    let d = c.args.subject.now.design.now in
    let claim = c.args.subject.now.claim.now in
    let key = c.args.key in
    c.flip_if.ensures ∙ (ap (flipped (key.rail == 1)) c.base_lit-base.ensures
    ∙ sym (elim c.then-key-eq0.branch [
      | then-key-eq0-via-then-key-eq0 w ↦ read_first d claim c.args.subject.now.moved key.cycle key.layer key.rail key.point
          (omega (arith, w.if-key-eq0.true))
      | then-key-eq0-via-else-key-eq0+then-not-has w ↦ read_unmoved d claim c.args.subject.now.moved key.cycle
          (key.layer - 1) key.layer key.rail key.point (omega (arith, w.if-key-eq0.false)) (sym w.has.ensures ∙ w.if-not-has.true)
    ]))

pub returns-then-is_held : goal.returns-then-is_held
returns-then-is_held t c =
    let d = c.args.subject.now.design.now in
    let claim = c.args.subject.now.claim.now in
    let moved = c.args.subject.now.moved in
    let key = c.args.key in
    let next : key.layer ≡ suc (key.layer - 1) = omega arith in
    ◌∙◌ {b = read d claim moved key.cycle (key.layer - 1) key.rail key.point} c.net_lit.ensures
    (sym (read_held d claim moved key.cycle (key.layer - 1) key.layer key.rail key.point next
    (sym c.has.ensures ∙ c.if-not-has.false) (sym c.if-is_held.ensures)))

pub returns : goal.returns
returns t c =
    let d = c.args.subject.now.design.now in
    let claim = c.args.subject.now.claim.now in
    let key = c.args.key in
    let next : key.layer ≡ suc (key.layer - 1) = omega arith in
    c.late_net_lit.ensures
    ∙ sym (read_free d claim c.args.subject.now.moved key.cycle (key.layer - 1) key.layer key.rail key.point
    next (sym c.has.ensures ∙ c.if-not-has.false) (sym c.if-is_held.ensures))
