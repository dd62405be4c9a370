use Rattle.std.proofs.Common.{◌≡◌, [], ◌∷◌, ap, sym}
use Rattle.query_model.specs.Defined.{Definition, toggle_definition, change_definition, differ_definition, stale_definitions}
use Rattle.frame_unroll.specs.Pairs.{defined_by}
use Rattle.frame_unroll.proofs.Paired.{toggle_pair_is, differ_pair_is}
use Rattle.cnf_encode.proofs.Listing.{Closed-left, Closed-right, Closed-same, Lists-same, Lists-append}
use Rattle.cnf_encode.proofs.points.list_points.Goals as goal

pub list_pair-requires : goal.list_pair-requires
list_pair-requires c =
    let d = c.args.subject.now.design.now in
    let claim = c.args.subject.now.claim.now in
    let toggle = toggle_definition d claim.edge claim.start c.args.cycle in
    let change = change_definition d claim.end c.args.cycle in
    let differ = differ_definition d claim c.args.subject.now.moved c.args.cycle in
    let stales = stale_definitions d claim c.args.cycle in
    let is = toggle_pair_is d claim c.args.cycle c.toggle_pair-toggle.result c.toggle_pair-toggle.ensures in
    record { closed = Closed-same (ap (λ (def : Definition). def ∷ []) (sym is)) (Closed-left (toggle ∷ []) (change ∷ differ ∷ stales) c.requires.closed) }

pub list_pair-requires-2 : goal.list_pair-requires-2
list_pair-requires-2 c =
    let d = c.args.subject.now.design.now in
    let claim = c.args.subject.now.claim.now in
    let toggle = toggle_definition d claim.edge claim.start c.args.cycle in
    let change = change_definition d claim.end c.args.cycle in
    let differ = differ_definition d claim c.args.subject.now.moved c.args.cycle in
    let stales = stale_definitions d claim c.args.cycle in
    let is : defined_by c.change_pair-change.result ≡ change = ap defined_by c.change_pair-change.ensures in
    record {
      closed = Closed-same (ap (λ (def : Definition). def ∷ []) (sym is))
          (Closed-left (change ∷ []) (differ ∷ stales) (Closed-right (toggle ∷ []) (change ∷ differ ∷ stales) c.requires.closed));
    }

pub list_pair-requires-3 : goal.list_pair-requires-3
list_pair-requires-3 c =
    let d = c.args.subject.now.design.now in
    let claim = c.args.subject.now.claim.now in
    let toggle = toggle_definition d claim.edge claim.start c.args.cycle in
    let change = change_definition d claim.end c.args.cycle in
    let differ = differ_definition d claim c.args.subject.now.moved c.args.cycle in
    let stales = stale_definitions d claim c.args.cycle in
    let is = differ_pair_is d claim c.args.subject.now.moved c.args.cycle c.differ_pair-differ.result c.differ_pair-differ.ensures in
    record {
      closed = Closed-same (ap (λ (def : Definition). def ∷ []) (sym is))
          (Closed-left (differ ∷ []) stales (Closed-right (toggle ∷ change ∷ []) (differ ∷ stales) c.requires.closed));
    }

pub list_stales-requires-clause-closed : goal.list_stales-requires-clause-closed
list_stales-requires-clause-closed c =
    let d = c.args.subject.now.design.now in
    let claim = c.args.subject.now.claim.now in
    let toggle = toggle_definition d claim.edge claim.start c.args.cycle in
    let change = change_definition d claim.end c.args.cycle in
    let differ = differ_definition d claim c.args.subject.now.moved c.args.cycle in
    let stales = stale_definitions d claim c.args.cycle in
    Closed-right (toggle ∷ change ∷ differ ∷ []) stales c.requires.closed

pub returns : goal.returns
returns c =
    let d = c.args.subject.now.design.now in
    let claim = c.args.subject.now.claim.now in
    let moved = c.args.subject.now.moved in
    let first = toggle_pair_is d claim c.args.cycle c.toggle_pair-toggle.result c.toggle_pair-toggle.ensures in
    let second : defined_by c.change_pair-change.result ≡ change_definition d claim.end c.args.cycle = ap defined_by c.change_pair-change.ensures in
    let third = differ_pair_is d claim moved c.args.cycle c.differ_pair-differ.result c.differ_pair-differ.ensures in
    Lists-append (Lists-same (ap (λ (def : Definition). def ∷ []) first) c.in_ok-list_pair.ensures)
    (Lists-append (Lists-same (ap (λ (def : Definition). def ∷ []) second) c.in_ok-list_pair-2.ensures)
    (Lists-append (Lists-same (ap (λ (def : Definition). def ∷ []) third) c.in_ok-list_pair-3.ensures) c.in_ok-list_stales.ensures))
