use Rattle.std.proofs.Common.{List, ℕ, ◌+◌, ◌<◌, ◌∷◌, set, length, get_or, ap, ◌∙◌, ◌≡◌, arith}
use Rattle.std.proofs.lemmas.List.{get_or_read, length-set, length-map}
use Rattle.watch_lists.specs.Chains.{Linked, lists_of, list_at, walk}
use Rattle.watch_lists.proofs.Linking.{pushed}
use Rattle.watch_lists.proofs.lists.Lists.push.Goals as goal

pub invariant_of-self : goal.invariant_of-self
invariant_of-self c =
    let links = c.self.inside.links.items in
    let heads = c.self.inside.heads.items in
    let here : c.args.list < length heads = omega (arith, length-map heads (walk links (length links)), rw (← c.self.view_is) at c.requires.list) in
    let head : c.index.result.now ≡ get_or heads c.args.list 0 = get_or_read heads c.args.list c.index.result.now here c.index.ensures 0 in
    rw head (
      (pushed links heads c.args.list c.args.node c.self.invariant.0 here (rw (← c.self.view_is) at c.requires.node)
          (rw (← c.self.view_is) at c.requires.free)).0,
      omega (arith, length-set links c.args.node (get_or heads c.args.list 0), c.self.invariant.1),
    )

pub returns : goal.returns
returns c =
    let links = c.self.inside.links.items in
    let heads = c.self.inside.heads.items in
    let here : c.args.list < length heads = omega (arith, length-map heads (walk links (length links)), rw (← c.self.view_is) at c.requires.list) in
    let head : c.index.result.now ≡ get_or heads c.args.list 0 = get_or_read heads c.args.list c.index.result.now here c.index.ensures 0 in
    let same = (pushed links heads c.args.list c.args.node c.self.invariant.0 here (rw (← c.self.view_is) at c.requires.node)
    (rw (← c.self.view_is) at c.requires.free)).1 in
    let links-new : List ℕ = set links c.args.node (get_or heads c.args.list 0) in
    let made : Linked = record { nodes = length links-new; lists = lists_of links-new (set heads c.args.list (c.args.node + 1)) } in
    let lists : List (List ℕ) = set (lists_of links heads) c.args.list (c.args.node ∷ list_at (lists_of links heads) c.args.list) in
    let all : made ≡ record { nodes = length links; lists = lists } =
    ap (λ ls. record { nodes = length links-new; lists = ls }) same ∙ ap (λ k. record { nodes = k; lists = lists })
    (length-set links c.args.node (get_or heads c.args.list 0)) in
    rw (← c.self.view_is, head) all
