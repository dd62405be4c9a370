use Rattle.std.proofs.Common.{◌≡◌, ◌-◌, suc, ◌∙◌, sym, arith}
use Rattle.frame_unroll.proofs.Reading.{pin_first, pin_held, pin_free}
use Rattle.frame_unroll.proofs.reads.+pin_lit.Goals as goal
use Rattle.frame_unroll.proofs.reads.+pin_lit.Goals.{else-key-gt0-via-then-key-gt0+else-is_held, else-key-gt0-via-else-key-gt0}

pub returns-then-is_held : goal.returns-then-is_held
returns-then-is_held t c =
    let d = c.args.subject.now.design.now in
    let claim = c.args.subject.now.claim.now in
    let key = c.args.key in
    let next : key.layer ≡ suc (key.layer - 1) = omega arith in
    c.pin_lit.ensures
    ∙ sym (pin_held d claim c.args.subject.now.moved key.cycle (key.layer - 1) key.layer key.rail c.args.pin key.point next
    (sym c.if-is_held.ensures))

pub returns : goal.returns
returns t c =
    let d = c.args.subject.now.design.now in
    let claim = c.args.subject.now.claim.now in
    let key = c.args.key in
    c.net_lit.ensures
    ∙ sym (elim c.else-key-gt0.branch [
      | else-key-gt0-via-then-key-gt0+else-is_held w ↦ pin_free d claim c.args.subject.now.moved key.cycle
          (key.layer - 1) key.layer key.rail c.args.pin key.point (omega (arith, w.if-key-gt0.true)) (sym w.if-is_held.ensures)
      | else-key-gt0-via-else-key-gt0 w ↦ pin_first d claim c.args.subject.now.moved key.cycle key.layer key.rail c.args.pin
          key.point (omega (arith, w.if-key-gt0.false))
    ])
