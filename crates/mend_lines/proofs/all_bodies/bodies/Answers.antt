use Rattle.std.proofs.Common.{◌∙◌, ℕ, ◌+◌, ◌≤◌, ◌++◌, ◌∷◌, [], List, ap, arith}
use Rattle.std.specs.Prelude.{Option}
use Rattle.mend_lines.specs.Bodies.{bodies_of}
use Rattle.script_notices.specs.Companions.{next_place}
use Rattle.mend_lines.proofs.Adding.{body_added, bodies_done}
use Rattle.script_notices.proofs.Companies.{place_near}
use Rattle.mend_lines.proofs.all_bodies.bodies.Goals as goal

pub loop-k-preserved : goal.loop-k-preserved
loop-k-preserved c =
    let m = c.args.mending.now in
    let item = c.item.result.now in
    let all = bodies_of m.depth m.script.now m.hold m.selected.now m.verdicts.now m.parts.now in
    let near : next_place c.loop-k.place item.what ≤ c.loop-k.place + 1 = place_near c.loop-k.place item.what in
    record {
      few = omega arith;
      made = body_added m.depth m.script.now m.hold m.selected.now m.verdicts.now m.parts.now c.loop-k.place c.next_place-place.result c.loop-k.k
          m.script.now.commands item all c.loop-k.bodies c.push.new.self c.item.ensures
          (c.in_ok-push.ensures.ok ∙ ap (λ (body : Option (List ℕ)). c.loop-k.bodies ++ body ∷ []) c.in_ok-body_of.ensures)
          c.next_place-place.ensures c.loop-k.invariant.made;
    }

pub returns : goal.returns
returns c =
    let m = c.args.mending.now in
    let all = bodies_of m.depth m.script.now m.hold m.selected.now m.verdicts.now m.parts.now in
    bodies_done m.depth m.script.now m.hold m.selected.now m.verdicts.now m.parts.now c.loop-k.place c.loop-k.k m.script.now.commands all c.loop-k.bodies
    (omega arith) c.loop-k.invariant.made
