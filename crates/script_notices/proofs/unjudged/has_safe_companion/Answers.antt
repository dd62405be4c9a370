use Rattle.std.proofs.Common.{◌≡◌, ◌∙◌, ℕ, ◌+◌, ◌≤◌, Bool, true, false, ◌&&◌, ◌||◌, List, sym, ap, arith, drop}
use Rattle.std.specs.List.{list_any}
use Rattle.std.proofs.lemmas.Bool.{and_from}
use Rattle.script_notices.specs.Companions.{is_companion, companions_from, next_place, shifted_by}
use Rattle.script_notices.specs.Notices.{is_safe}
use Rattle.script_notices.proofs.Companies.{any_next, any_last, place_near}
use Rattle.script_notices.proofs.Rests.{first_fails, second_fails}
use Rattle.script_notices.proofs.unjudged.has_safe_companion.Goals as goal
use Rattle.script_notices.proofs.unjudged.has_safe_companion.Goals.{else-is_companion-via-then-is_companion+else-is_safe, else-is_companion-via-else-is_companion}

pub returns-then-is_safe : goal.returns-then-is_safe
returns-then-is_safe c =
    let scope = c.args.scope.now in
    let shift = shifted_by c.args.shift.now in
    let what = c.item.result.now.what in
    let safe = is_safe scope.selected.now shift.number in
    let place = c.loop-k.place in
    let goes : is_companion shift what ≡ true = sym c.is_companion.ensures ∙ c.if-is_companion.true in
    let keeps : safe place ≡ true = sym (c.is_safe.ensures scope.selected.now c.requires) ∙ c.if-is_safe.true in
    sym (c.loop-k.invariant.found
    ∙ any_next safe shift place c.loop-k.k scope.script.now.commands c.item.result.now c.item.ensures
    ∙ ap (λ (b : Bool). b || list_any safe (companions_from shift (next_place place what) (drop (c.loop-k.k + 1) scope.script.now.commands)))
    (and_from (is_companion shift what) (safe place) goes keeps))

pub loop-k-preserved : goal.loop-k-preserved
loop-k-preserved c =
    let scope = c.args.scope.now in
    let shift = shifted_by c.args.shift.now in
    let what = c.item.result.now.what in
    let safe = is_safe scope.selected.now shift.number in
    let place = c.loop-k.place in
    let rest : ℕ → List ℕ = λ p. companions_from shift p (drop (c.loop-k.k + 1) scope.script.now.commands) in
    let goes = is_companion shift what in
    let turns : (goes && safe place) ≡ false = elim c.else-is_companion.branch [
      | else-is_companion-via-then-is_companion+else-is_safe w ↦
          second_fails goes (safe place) (sym (w.is_safe.ensures scope.selected.now c.requires) ∙ w.if-is_safe.false)
      | else-is_companion-via-else-is_companion w ↦ first_fails goes (safe place) (sym c.is_companion.ensures ∙ w.if-is_companion.false)
    ] in
    let near : next_place place what ≤ place + 1 = place_near place what in
    record {
      few = omega arith;
      found = c.loop-k.invariant.found
          ∙ any_next safe shift place c.loop-k.k scope.script.now.commands c.item.result.now c.item.ensures
          ∙ ap (λ (b : Bool). b || list_any safe (rest (next_place place what))) turns
          ∙ ap (λ (p : ℕ). list_any safe (rest p)) (sym c.next_place-place.ensures);
    }

pub returns : goal.returns
returns c =
    let scope = c.args.scope.now in
    let shift = shifted_by c.args.shift.now in
    sym (c.loop-k.invariant.found
    ∙ any_last (is_safe scope.selected.now shift.number) shift c.loop-k.place c.loop-k.k scope.script.now.commands (omega arith))
