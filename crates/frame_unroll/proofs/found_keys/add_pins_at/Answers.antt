use Rattle.std.proofs.Common.{◌≡◌, ◌∙◌, ap, sym, List, ℕ, Bool, cond, take, Some, slice_get, arith}
use Rattle.std.proofs.lemmas.List.{take_all}
use Rattle.query_model.proofs.Lists.{length-numbered}
use Rattle.net_model.specs.declared.claims.PinRef.{PinRef}
use Rattle.query_model.specs.Reads.{read_pin}
use Rattle.query_model.specs.declared.keys.Key.{Key}
use Rattle.query_model.specs.declared.keys.KeyLit.{KeyLit}
use Rattle.frame_unroll.specs.Counting.{marked}
use Rattle.frame_unroll.specs.Found.{with_key, with_keys}
use Rattle.frame_unroll.specs.Gathered.{pin_of, reads_at}
use Rattle.frame_unroll.proofs.Marks.{with_marked}
use Rattle.frame_unroll.proofs.Numbering.{numbered_at}
use Rattle.frame_unroll.proofs.found_keys.add_pins_at.Goals as goal

pub loop-i-preserved : goal.loop-i-preserved
loop-i-preserved c =
    let d = c.args.subject.now.design.now in
    let claim = c.args.subject.now.claim.now in
    let moved = c.args.subject.now.moved in
    let row = c.args.rail_at in
    let read : PinRef → ℕ → KeyLit = λ pin n. read_pin d claim moved row.cycle row.layer row.rail pin n in
    let f : ℕ → ℕ → KeyLit = λ i n. read (pin_of c.args.owner i) n in
    let lits : List KeyLit = reads_at d claim moved c.args.owner c.args.ins.now row in
    let is : c.pin_lit-lit.result ≡ f c.loop-i.i c.at.result = c.pin_lit-lit.ensures ∙ ap (λ (pin : PinRef). read pin c.at.result) c.pin_of.ensures in
    let at : slice_get lits c.loop-i.i ≡ Some c.pin_lit-lit.result =
    numbered_at f c.args.ins.now c.loop-i.i c.at.result c.at.ensures ∙ sym (ap (λ (l : KeyLit). Some l) is) in
    c.in_ok-add_where.ensures
    ∙ (ap (λ (keys : List Key). cond c.at-counts.result (with_key keys c.pin_lit-lit.result.key) keys) c.loop-i.invariant
    ∙ sym (with_marked c.args.found.now c.args.places.now lits c.loop-i.i c.at-counts.result c.pin_lit-lit.result c.at-counts.ensures at))

pub returns : goal.returns
returns c =
    let d = c.args.subject.now.design.now in
    let claim = c.args.subject.now.claim.now in
    let moved = c.args.subject.now.moved in
    let row = c.args.rail_at in
    let i = c.loop-i.i in
    let f : ℕ → ℕ → KeyLit = λ j n. read_pin d claim moved row.cycle row.layer row.rail (pin_of c.args.owner j) n in
    let lits : List KeyLit = reads_at d claim moved c.args.owner c.args.ins.now row in
    let marks : take i c.args.places.now ≡ c.args.places.now = take_all i c.args.places.now (omega (arith, c.requires.long)) in
    let reads : take i lits ≡ lits = take_all i lits (omega (arith, length-numbered f 0 c.args.ins.now)) in
    c.loop-i.invariant ∙ ap (λ (ms : List Bool). with_keys c.args.found.now (marked ms (take i lits))) marks
    ∙ ap (λ (ls : List KeyLit). with_keys c.args.found.now (marked c.args.places.now ls)) reads
