use Rattle.std.proofs.Common.{◌≡◌, List, length, ap, sym, ◌∙◌, arith}
use Rattle.link_defs.specs.declared.circuits.Part.{Part}
use Rattle.link_clocks.proofs.Leaving.{left_len, parts_then, parts_else}
use Rattle.link_clocks.proofs.offs.left_parts.Goals as goal
use Rattle.link_clocks.proofs.offs.left_parts.Goals.{then-is_off, else-is_off}

pub loop-place-preserved : goal.loop-place-preserved
loop-place-preserved c =
    let even = c.args.even.now in
    let part = c.index.result.now in
    let len = ap (λ (ps : List Part). length ps) c.into_vec-left.ensures in
    let now_len : length c.loop-place.left.items ≡ length c.args.parts = left_len even c.args.parts c.loop-place.left.items c.loop-place.place
    c.loop-place.invariant in
    elim c.if-is_off.branch [
      | then-is_off w ↦
          parts_then even c.args.parts c.loop-place.left.items c.if-is_off.left.items c.loop-place.place part
          (omega (arith, len, c.len-place-end.ensures)) c.loop-place.invariant c.index.ensures (sym c.is_off.ensures ∙ w.if-is_off.true)
          (ap (λ v. v.items) w.left-is ∙ w.empty.ensures)
      | else-is_off w ↦
          parts_else even c.args.parts c.loop-place.left.items c.if-is_off.left.items c.loop-place.place part
          (omega (arith, len, c.len-place-end.ensures)) (omega (arith, now_len, len, c.len-place-end.ensures)) c.loop-place.invariant c.index.ensures (sym c.is_off.ensures ∙ w.if-is_off.false)
          (ap (λ v. v.items) w.left-is)
    ]
