use Rattle.std.proofs.Common.{◌∙◌, ℕ, ap, sym, cond, Bool, List}
use Rattle.net_model.specs.Form.{value}
use Rattle.query_model.proofs.Based.{get_within}
use Rattle.query_model.specs.declared.keys.Key.{Key}
use Rattle.query_model.specs.declared.keys.KeyLit.{KeyLit}
use Rattle.frame_unroll.specs.Found.{with_keys}
use Rattle.frame_unroll.specs.Sites.{counted_rail, gate_rail}
use Rattle.frame_unroll.proofs.Rows.{gate_late-rows, rails_found}
use Rattle.frame_unroll.proofs.found_keys.add_late_gate.Goals as goal

pub returns-then-not-subject : goal.returns-then-not-subject
returns-then-not-subject c =
    let s = c.args.subject.now in
    let gate = get_within s.design.now.gates c.args.gate c.requires.gate in
    let rail : ℕ → List KeyLit = λ rail. counted_rail s.tables.now.coding (value gate.0.func)
    (gate_rail s.design.now s.claim.now s.moved c.args.cycle c.args.layer rail c.args.gate gate.0) in
    let rows = gate_late-rows s.tables.now.coding s.design.now s.claim.now s.moved c.args.cycle c.args.layer c.args.gate gate.0 c.requires.late gate.1 in
    let found = c.in_ok-add_gate_rail.ensures gate.0 gate.1 in
    found ∙ sym (ap (with_keys c.args.found.now) rows ∙ rails_found c.args.found.now (rail 0) (rail 1) s.claim.now.hazard
    ∙ ap (λ (b : Bool). cond b (with_keys (with_keys c.args.found.now (rail 0)) (rail 1)) (with_keys c.args.found.now (rail 0))) c.if-not-subject.true)

pub returns : goal.returns
returns c =
    let s = c.args.subject.now in
    let gate = get_within s.design.now.gates c.args.gate c.requires.gate in
    let rail : ℕ → List KeyLit = λ rail. counted_rail s.tables.now.coding (value gate.0.func)
    (gate_rail s.design.now s.claim.now s.moved c.args.cycle c.args.layer rail c.args.gate gate.0) in
    let rows = gate_late-rows s.tables.now.coding s.design.now s.claim.now s.moved c.args.cycle c.args.layer c.args.gate gate.0 c.requires.late gate.1 in
    let first = c.in_ok-add_gate_rail.ensures gate.0 gate.1 in
    let found = c.in_ok-add_gate_rail-2.ensures gate.0 gate.1 ∙ ap (λ (keys : List Key). with_keys keys (rail 1)) first in
    found ∙ sym (ap (with_keys c.args.found.now) rows ∙ rails_found c.args.found.now (rail 0) (rail 1) s.claim.now.hazard
    ∙ ap (λ (b : Bool). cond b (with_keys (with_keys c.args.found.now (rail 0)) (rail 1)) (with_keys c.args.found.now (rail 0))) c.if-not-subject.false)
