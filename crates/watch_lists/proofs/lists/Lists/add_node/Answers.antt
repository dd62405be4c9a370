use Rattle.std.proofs.Common.{[], ◌∷◌, ◌++◌, refl, arith}
use Rattle.std.proofs.lemmas.List.{length_push}
use Rattle.watch_lists.specs.Chains.{lists_of}
use Rattle.watch_lists.proofs.Linking.{IsLists-node, opened, closed}
use Rattle.watch_lists.proofs.lists.Lists.add_node.Goals as goal

pub invariant_of-self-2 : goal.invariant_of-self-2
invariant_of-self-2 c =
    let links = c.self.inside.links.items in
    let heads = c.self.inside.heads.items in
    rw c.in_ok-push.ensures.items (
      (closed (links ++ 0 ∷ []) heads (lists_of links heads) (IsLists-node links heads (lists_of links heads) 0 (opened links heads c.self.invariant.0))).0,
      omega (arith, length_push links 0),
    )

pub returns-clause-nodes : goal.returns-clause-nodes
returns-clause-nodes c =
    let links = c.self.inside.links.items in
    let heads = c.self.inside.heads.items in
    let same = (closed (links ++ 0 ∷ []) heads (lists_of links heads)
    (IsLists-node links heads (lists_of links heads) 0 (opened links heads c.self.invariant.0))).1 in
    rw (← c.self.view_is, c.in_ok-push.ensures.items, same, length_push) refl
