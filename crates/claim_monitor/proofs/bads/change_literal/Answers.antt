use Rattle.std.proofs.Common.{Bool, List, subst}
use Rattle.net_model.specs.Form.{xor}
use Rattle.and_graphs.proofs.Growing.{means_same}
use Rattle.and_graphs.specs.Graphs.{Means}
use Rattle.net_model.specs.Cycles.{capture}
use Rattle.claim_monitor.specs.Fronts.{sizes_of}
use Rattle.claim_monitor.specs.Shown.{shown_cycle}
use Rattle.claim_monitor.specs.Tells.{captured, changes_bit}
use Rattle.claim_monitor.specs.declared.sizes.Sizes.{Sizes}
use Rattle.claim_monitor.proofs.Badness.{changes_multi}
use Rattle.claim_monitor.proofs.Judging.{sizes_small}
use Rattle.claim_monitor.proofs.bads.change_literal.Goals as goal

pub before_literal-requires-clause-small : goal.before_literal-requires-clause-small
before_literal-requires-clause-small c =
    rw c.of-sizes.ensures (sizes_small c.args.design.now c.args.claim.now c.requires.sound c.requires.fits)

pub returns-in_ok-differs-in-Multi-clause-means : goal.returns-in_ok-differs-in-Multi-clause-means
returns-in_ok-differs-in-Multi-clause-means c =
    let d = c.args.design.now in
    let claim = c.args.claim.now in
    let ls = c.args.literals.now in
    let g = c.args.graph.now in
    let before : Means g c.in_ok-before-in-Multi.before (λ x. captured (sizes_of d claim) claim.end x (shown_cycle g x ls)) =
    subst (λ (s : Sizes). Means g c.in_ok-before-in-Multi.before (λ x. captured s claim.end x (shown_cycle g x ls))) c.of-sizes.ensures
    (c.in_ok-before-in-Multi.ensures c.requires.literals.in_bits) in
    let now : List Bool → Bool = λ x. capture d claim.end (shown_cycle g x ls) in
    let was : List Bool → Bool = λ x. captured (sizes_of d claim) claim.end x (shown_cycle g x ls) in
    means_same c.differs.new.self c.in_ok-differs-in-Multi.differs (λ x. xor (now x) (was x)) (λ x. changes_bit claim.kind (now x) (was x))
    (λ x len. changes_multi claim.kind c.in-Multi.field-0 (now x) (was x) c.in-Multi.is)
    (c.in_ok-differs-in-Multi.ensures.means now was c.requires.capture before)
