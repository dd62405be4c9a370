use Rattle.std.proofs.Common.{◌≡◌, ◌∙◌, ap, sym, ◌++◌, ◌∷◌, [], List, ℕ, take}
use Rattle.net_model.specs.declared.claims.PinRef.{PinRef}
use Rattle.query_model.specs.Reads.{read_pin}
use Rattle.query_model.specs.Defined.{numbered}
use Rattle.query_model.specs.declared.keys.KeyLit.{KeyLit}
use Rattle.frame_unroll.specs.Gathered.{pin_of}
use Rattle.frame_unroll.proofs.Numbering.{numbered-take}
use Rattle.frame_unroll.proofs.gathered.pin_literals_at.Goals as goal

pub loop-i-preserved : goal.loop-i-preserved
loop-i-preserved c =
    let d = c.args.subject.now.design.now in
    let claim = c.args.subject.now.claim.now in
    let row = c.args.rail_at in
    let at : PinRef → ℕ → KeyLit = λ pin n. read_pin d claim c.args.subject.now.moved row.cycle row.layer row.rail pin n in
    let f : ℕ → ℕ → KeyLit = λ i n. at (pin_of c.args.owner i) n in
    let read : c.pin_lit.result ≡ f c.loop-i.i c.at.result = c.pin_lit.ensures ∙ ap (λ pin. at pin c.at.result) c.pin_of.ensures in
    c.in_ok-push.ensures.ok ∙ ap (λ (ls : List KeyLit). ls ++ c.pin_lit.result ∷ []) c.loop-i.invariant
    ∙ ap (λ (l : KeyLit). numbered f 0 (take c.loop-i.i c.args.ins.now) ++ l ∷ []) read
    ∙ sym (numbered-take f c.args.ins.now c.loop-i.i c.at.result c.at.ensures)
