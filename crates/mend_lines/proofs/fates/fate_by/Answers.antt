use Rattle.std.proofs.Common.{◌≡◌, ◌∙◌, ℕ, ◌+◌, ◌≤◌, Bool, true, false, ◌&&◌, if◌then◌else◌, List, sym, ap, arith, drop}
use Rattle.std.proofs.lemmas.Bool.{and_from}
use Rattle.script_notices.specs.Companions.{shifted_by, is_companion, companions_from, next_place}
use Rattle.mend_lines.specs.Holds.{is_whole_at}
use Rattle.mend_lines.specs.declared.fates.HoldFate.{HoldFate}
use Rattle.mend_lines.specs.declared.fates.HoldFate.TheVariants.{Follows}
use Rattle.script_notices.proofs.Companies.{place_near}
use Rattle.mend_lines.proofs.Following.{fate_after, fate_first, fate_next, fate_stays, fate_last}
use Rattle.script_notices.proofs.Rests.{first_fails, second_fails}
use Rattle.mend_lines.proofs.fates.fate_by.Goals as goal
use Rattle.mend_lines.proofs.fates.fate_by.Goals.{else-goes-via-then-goes+else-is_whole_at, else-goes-via-else-goes}

pub loop-k-init : goal.loop-k-init
loop-k-init c = record {
  few = omega arith;
  found = fate_first c.args.parts.now (companions_from (shifted_by c.args.shift.now) 0 c.args.script.now.commands);
}

pub returns-then-is_whole_at : goal.returns-then-is_whole_at
returns-then-is_whole_at c =
    let what = c.item.result.now.what in
    let goes : is_companion (shifted_by c.args.shift.now) what ≡ true = sym c.is_companion-goes.ensures ∙ c.if-goes.true in
    let whole : is_whole_at c.args.parts.now c.loop-k.place ≡ true = sym c.is_whole_at.ensures ∙ c.if-is_whole_at.true in
    sym (c.loop-k.invariant.found ∙ fate_stays c.args.parts.now (shifted_by c.args.shift.now) c.loop-k.fate c.loop-k.place c.loop-k.k
    c.args.script.now.commands c.item.result.now c.item.ensures
    (and_from (is_companion (shifted_by c.args.shift.now) what) (is_whole_at c.args.parts.now c.loop-k.place) goes whole))

pub loop-k-preserved : goal.loop-k-preserved
loop-k-preserved c =
    let parts = c.args.parts.now in
    let shift = shifted_by c.args.shift.now in
    let place = c.loop-k.place in
    let item = c.item.result.now in
    let rest : ℕ → List ℕ = λ p. companions_from shift p (drop (c.loop-k.k + 1) c.args.script.now.commands) in
    let goes = is_companion shift item.what in
    let whole = is_whole_at parts place in
    let turns : (goes && whole) ≡ false = elim c.else-goes.branch [
      | else-goes-via-then-goes+else-is_whole_at w ↦ second_fails goes whole (sym w.is_whole_at.ensures ∙ w.if-is_whole_at.false)
      | else-goes-via-else-goes w ↦ first_fails goes whole (sym c.is_companion-goes.ensures ∙ w.if-goes.false)
    ] in
    let near : next_place place item.what ≤ place + 1 = place_near place item.what in
    record {
      few = omega arith;
      found = c.loop-k.invariant.found
          ∙ fate_next parts shift c.loop-k.fate place c.loop-k.k c.args.script.now.commands item c.item.ensures turns
          ∙ ap (λ (b : Bool). fate_after parts (if b then Follows place else c.loop-k.fate) (rest (next_place place item.what)))
          (sym c.is_companion-goes.ensures)
          ∙ ap (λ (fate : HoldFate). fate_after parts fate (rest (next_place place item.what))) (sym c.fate_here-fate.ensures)
          ∙ ap (λ (p : ℕ). fate_after parts c.fate_here-fate.result (rest p)) (sym c.next_place-place.ensures);
    }

pub returns : goal.returns
returns c =
    sym (c.loop-k.invariant.found
    ∙ fate_last c.args.parts.now (shifted_by c.args.shift.now) c.loop-k.fate c.loop-k.place c.loop-k.k c.args.script.now.commands (omega arith))
