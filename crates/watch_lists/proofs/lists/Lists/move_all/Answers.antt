use Rattle.std.proofs.Common.{◌<◌, length, get_or, refl, ◌≡◌, arith}
use Rattle.std.proofs.lemmas.List.{get_or_read, length-map}
use Rattle.watch_lists.specs.Chains.{walk}
use Rattle.watch_lists.proofs.Linking.{moved}
use Rattle.watch_lists.proofs.lists.Lists.move_all.Goals as goal

pub invariant_of-self : goal.invariant_of-self
invariant_of-self c =
    let links = c.self.inside.links.items in
    let heads = c.self.inside.heads.items in
    let from : c.args.from < length heads = omega (arith, length-map heads (walk links (length links)), rw (← c.self.view_is) at c.requires.from) in
    let to : c.args.to < length heads = omega (arith, length-map heads (walk links (length links)), rw (← c.self.view_is) at c.requires.to) in
    let head : c.index.result.now ≡ get_or heads c.args.from 0 = get_or_read heads c.args.from c.index.result.now from c.index.ensures 0 in
    (rw head (moved links heads c.args.from c.args.to c.self.invariant.0 from to (rw (← c.self.view_is) at c.requires.empty)).0, c.self.invariant.1)

pub returns : goal.returns
returns c =
    let links = c.self.inside.links.items in
    let heads = c.self.inside.heads.items in
    let from : c.args.from < length heads = omega (arith, length-map heads (walk links (length links)), rw (← c.self.view_is) at c.requires.from) in
    let to : c.args.to < length heads = omega (arith, length-map heads (walk links (length links)), rw (← c.self.view_is) at c.requires.to) in
    let head : c.index.result.now ≡ get_or heads c.args.from 0 = get_or_read heads c.args.from c.index.result.now from c.index.ensures 0 in
    let same = (moved links heads c.args.from c.args.to c.self.invariant.0 from to (rw (← c.self.view_is) at c.requires.empty)).1 in
    rw (← c.self.view_is, head, same) refl
