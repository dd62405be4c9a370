use Rattle.std.proofs.Common.{◌∙◌, sym, arith}
use Rattle.mended_text.specs.Scenes.{seen_findings}
use Rattle.mended_text.proofs.Telling.{exception_told_at, other_told_at, none_told_at, all_told}
use Rattle.mended_text.proofs.exceptions.add_exceptions.Goals.{then-place-len+then-is_exception+in_ok-add_exception, else-place-len}
use Rattle.mended_text.proofs.exceptions.add_exceptions.Goals.{else-place-len-via-then-place-len+else-is_exception, else-place-len-via-else-place-len}
use Rattle.mended_text.proofs.exceptions.add_exceptions.Goals as goal

pub loop-k-preserved : goal.loop-k-preserved
loop-k-preserved c =
    let f = seen_findings c.args.findings.now in
    let listed = c.args.findings.now.selected.now.commands in
    let commands = c.args.findings.now.script.now.commands in
    elim c.if-place-len.branch [
      | then-place-len+then-is_exception+in_ok-add_exception w ↦ record {
        told =
            exception_told_at f c.args.parts.now listed commands c.loop-k.place c.loop-k.k c.if-place-len.place _ _ c.loop-k.lines c.if-place-len.lines _
            w.item-then-is_exception.ensures c.item.ensures (sym w.is_exception.ensures ∙ w.if-is_exception.true) w.place-is
            (w.lines-is ∙ w.in_ok-add_exception.ensures) c.loop-k.invariant.told;
        within = omega (arith, w.place-is, w.if-place-len.true, c.len.ensures);
      }
      | else-place-len w ↦ elim w.else-place-len.branch [
        | else-place-len-via-then-place-len+else-is_exception w' ↦ record {
          told =
              other_told_at f c.args.parts.now listed commands c.loop-k.place c.loop-k.k c.if-place-len.place _ c.loop-k.lines c.if-place-len.lines _
              c.item.ensures (sym w'.is_exception.ensures ∙ w'.if-is_exception.false) w.place-is w.lines-is c.loop-k.invariant.told;
          within = omega (arith, w.place-is, c.loop-k.invariant.within);
        }
        | else-place-len-via-else-place-len w' ↦ record {
          told =
              none_told_at f c.args.parts.now listed commands c.loop-k.place c.loop-k.k c.if-place-len.place c.loop-k.lines c.if-place-len.lines _
              (omega (arith, w'.if-place-len.false, c.len.ensures)) w.place-is w.lines-is c.loop-k.invariant.told;
          within = omega (arith, w.place-is, c.loop-k.invariant.within);
        }
      ]
    ]

pub returns : goal.returns
returns c =
    all_told (seen_findings c.args.findings.now) c.args.parts.now c.args.findings.now.selected.now.commands c.args.findings.now.script.now.commands
    c.loop-k.place c.loop-k.k c.loop-k.lines _ (omega (arith, c.len-k-end.ensures)) c.loop-k.invariant.told
