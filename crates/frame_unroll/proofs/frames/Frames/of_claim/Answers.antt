use Rattle.std.proofs.Common.{◌≡◌, ◌∙◌, ap, sym, subst, List}
use Rattle.std.proofs.lemmas.Result.{IfOk-weaker}
use Rattle.net_model.specs.Queries.{Violates, claim_query, only_in_step}
use Rattle.net_model.specs.declared.netlist.Design.{Design}
use Rattle.net_model.specs.declared.claims.Claim.{Claim}
use Rattle.query_model.specs.Reads.{AreMoved}
use Rattle.query_model.specs.Formula.{definitions, AreNeeded}
use Rattle.query_model.specs.declared.keys.Key.{Key}
use Rattle.query_model.specs.declared.keys.KeyLit.{KeyLit}
use Rattle.query_model.specs.declared.keys.Coding.{Coding}
use Rattle.frame_unroll.specs.Framed.{AreFramesOf, AreNeededOfClaim}
use Rattle.frame_unroll.proofs.frames.Frames.of_claim.Goals as goal

pub returns : goal.returns
returns c =
    let t = c.args.tables.now in
    let d = c.design-design.result.now in
    let same : d ≡ t.design = c.design-design.ensures in
    let claim = c.args.claim.now in
    let subject = c.in_ok-subject.subject in
    let coding = subject.tables.now.coding in
    let is = c.in_ok-subject.ensures in
    let of_design : subject.design.now ≡ d = is.design ∙ sym same in
    let moved = subject.moved in
    let clean = only_in_step c.args.phase c.args.depth in
    let q = claim_query d claim c.args.phase c.args.depth c.args.inv.now in
    let asked = c.in_ok-asked.asked in
    let Needed : List Key → Type 0 = AreNeededOfClaim coding subject.design.now subject.claim.now c.claim_span-span.result.cycles moved asked in
    let framed : (keys : List Key) → Needed keys → AreFramesOf coding q keys = λ keys needed. record {
      moved = moved;
      are_moved = subst (λ (k : Claim). AreMoved d k moved) is.claim
          (subst (λ (e : Design). AreMoved e subject.claim.now moved) of_design is.subject.moved);
      are_needed = subst (λ (ls : List (List KeyLit)). AreNeeded (definitions coding q moved) ls keys) c.in_ok-asked.ensures.asked
          (needed q c.args.depth clean (sym of_design) (sym c.claim_span-span.ensures.cycles)
          (ap (λ (k : Claim). Violates k c.args.depth clean) (sym is.claim)));
    } in
    let whole : (keys : List Key) → Needed keys → AreFramesOf t.coding (claim_query t.design claim c.args.phase c.args.depth c.args.inv.now) keys =
    λ keys needed.
    subst (λ (k : Coding). AreFramesOf k (claim_query t.design claim c.args.phase c.args.depth c.args.inv.now) keys) is.coding
    (subst (λ (e : Design). AreFramesOf coding (claim_query e claim c.args.phase c.args.depth c.args.inv.now) keys) same (framed keys needed)) in
    IfOk-weaker c.by_claim.result Needed (AreFramesOf t.coding (claim_query t.design claim c.args.phase c.args.depth c.args.inv.now)) whole
    c.by_claim.ensures
