use Rattle.std.proofs.Common.{arith, ◌≡◌, ◌∙◌, ◌+◌, ◌++◌, min, length, drop, sym, ap}
use Rattle.mend_groups.specs.Parts.{part_of, parts_from, parts_of}
use Rattle.mend_groups.proofs.Parting.{part_passed, part_missed, part_added, parts_over}
use Rattle.mend_groups.proofs.parts.parts_of.Goals as goal
use Rattle.mend_groups.proofs.parts.parts_of.Goals.{then-is_exception+then-listed-len+in_ok-part_of+in_ok-push, else-is_exception, else-is_exception-via-then-is_exception+else-listed-len, else-is_exception-via-else-is_exception}

pub loop-k-preserved : goal.loop-k-preserved
loop-k-preserved c =
    let s = c.args.selected.now in
    let verdicts = c.args.verdicts.now in
    let commands = c.args.script.now.commands in
    let at = c.loop-k.invariant.0 in
    let capped = c.loop-k.invariant.1 in
    let before = c.loop-k.invariant.2 in
    elim c.if-is_exception.branch [
      | then-is_exception+then-listed-len+in_ok-part_of+in_ok-push w ↦
          let after : min (c.loop-k.place + w.count_of-count.result) (length verdicts) ≡ min (at + w.count_of-count.result) (length verdicts) =
          omega (arith, capped) in
          let made =
          part_added c.args.ports c.args.hold s verdicts at c.loop-k.place w.count_of-count.result c.loop-k.listed c.loop-k.k c.loop-k.parts w.push.new.self _
          s.commands commands w.item-then-listed-len.result.now c.item.result.now w.in_ok-part_of.field-0 capped w.count_of-count.ensures
          w.item-then-listed-len.ensures c.item.ensures (sym c.is_exception.ensures ∙ w.if-is_exception.true)
          (w.in_ok-part_of.ensures ∙ ap (part_of c.args.ports s verdicts c.loop-k.place w.count_of-count.result) w.of-ask.ensures)
          w.in_ok-push.ensures.ok before in
          (at + w.count_of-count.result, w.place-is ∙ w.place_after-place.ensures ∙ after, rw (w.parts-is, w.listed-is) made)
      | else-is_exception w ↦
          let stays =
          elim w.else-is_exception.branch as (λ z. c.loop-k.parts
          ++ parts_from c.args.ports c.args.hold s verdicts at (drop c.loop-k.listed s.commands) (drop (c.loop-k.k + 1) commands)
          ≡ parts_of c.args.ports c.args.script.now c.args.hold s verdicts) [
            | else-is_exception-via-then-is_exception+else-listed-len w' ↦
                part_missed c.args.ports c.args.hold s verdicts at c.loop-k.listed c.loop-k.k c.loop-k.parts _ s.commands commands (omega arith) before
            | else-is_exception-via-else-is_exception w' ↦
                part_passed c.args.ports c.args.hold s verdicts at c.loop-k.listed c.loop-k.k c.loop-k.parts _ s.commands commands c.item.result.now
                c.item.ensures (sym c.is_exception.ensures ∙ w'.if-is_exception.false) before
          ] in
          (at, w.place-is ∙ capped, rw (w.parts-is, w.listed-is) stays)
    ]

pub returns : goal.returns
returns c =
    parts_over c.args.ports c.args.hold c.args.selected.now c.args.verdicts.now c.loop-k.invariant.0 c.loop-k.listed c.loop-k.k c.loop-k.parts _
    c.args.selected.now.commands c.args.script.now.commands (omega arith) c.loop-k.invariant.2
