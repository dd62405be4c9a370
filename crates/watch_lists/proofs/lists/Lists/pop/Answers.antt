use Rattle.std.proofs.Common.{suc, ◌-◌, ◌<◌, length, get_or, ap, sym, refl, ◌∙◌, ◌≡◌, arith}
use Rattle.std.proofs.lemmas.List.{get_or_read, length-map}
use Rattle.watch_lists.specs.Chains.{walk}
use Rattle.watch_lists.proofs.Linking.{popped, emptied}
use Rattle.watch_lists.proofs.lists.Lists.pop.Goals as goal

pub returns-then-head-eq0 : goal.returns-then-head-eq0
returns-then-head-eq0 c =
    let links = c.self.inside.links.items in
    let heads = c.self.inside.heads.items in
    let here : c.args.list < length heads = omega (arith, length-map heads (walk links (length links)), rw (← c.self.view_is) at c.requires) in
    let head : c.index-head.result.now ≡ get_or heads c.args.list 0 = get_or_read heads c.args.list c.index-head.result.now here c.index-head.ensures 0 in
    (rw (← c.self.view_is) (emptied links heads c.args.list c.self.invariant.0 here (sym head ∙ c.if-head-eq0.true)), refl)

pub index-requires : goal.index-requires
index-requires c =
    let links = c.self.inside.links.items in
    let heads = c.self.inside.heads.items in
    let here : c.args.list < length heads = omega (arith, length-map heads (walk links (length links)), rw (← c.self.view_is) at c.requires) in
    let head : c.index-head.result.now ≡ get_or heads c.args.list 0 = get_or_read heads c.args.list c.index-head.result.now here c.index-head.ensures 0 in
    let some : get_or heads c.args.list 0 ≡ suc (c.index-head.result.now - 1) = omega (arith, head, c.if-head-eq0.false) in
    let p = popped links heads c.args.list (c.index-head.result.now - 1) c.self.invariant.0 here some in
    omega (arith, p.node, c.self.inside.links.ok.0)

pub invariant_of-self : goal.invariant_of-self
invariant_of-self c =
    let links = c.self.inside.links.items in
    let heads = c.self.inside.heads.items in
    let here : c.args.list < length heads = omega (arith, length-map heads (walk links (length links)), rw (← c.self.view_is) at c.requires) in
    let head : c.index-head.result.now ≡ get_or heads c.args.list 0 = get_or_read heads c.args.list c.index-head.result.now here c.index-head.ensures 0 in
    let some : get_or heads c.args.list 0 ≡ suc (c.index-head.result.now - 1) = omega (arith, head, c.if-head-eq0.false) in
    let p = popped links heads c.args.list (c.index-head.result.now - 1) c.self.invariant.0 here some in
    let link : c.index.result.now ≡ get_or links (c.index-head.result.now - 1) 0 = get_or_read links (c.index-head.result.now - 1) c.index.result.now
    p.node c.index.ensures 0 in
    (rw link p.linked, c.self.invariant.1)

pub returns : goal.returns
returns c =
    let links = c.self.inside.links.items in
    let heads = c.self.inside.heads.items in
    let here : c.args.list < length heads = omega (arith, length-map heads (walk links (length links)), rw (← c.self.view_is) at c.requires) in
    let head : c.index-head.result.now ≡ get_or heads c.args.list 0 = get_or_read heads c.args.list c.index-head.result.now here c.index-head.ensures 0 in
    let some : get_or heads c.args.list 0 ≡ suc (c.index-head.result.now - 1) = omega (arith, head, c.if-head-eq0.false) in
    let p = popped links heads c.args.list (c.index-head.result.now - 1) c.self.invariant.0 here some in
    let link : c.index.result.now ≡ get_or links (c.index-head.result.now - 1) 0 = get_or_read links (c.index-head.result.now - 1) c.index.result.now
    p.node c.index.ensures 0 in
    rw (← c.self.view_is, link) (p.node, p.free, (p.rest.0, p.rest.1, ap (λ ls. record { nodes = length links; lists = ls }) p.rest.2))
