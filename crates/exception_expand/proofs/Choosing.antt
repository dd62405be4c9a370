-- What one exception selects, from the pairs of its lists that are connected.
use Rattle.std.proofs.Common.{◌≡◌, ◌∙◌, ℕ, ◌<◌, ◌≤◌, Bool, List, ◌++◌, length, sym, ap, subst, append-nil}
use Rattle.linked_types.specs.declared.names.Linked.{Linked}
use Rattle.net_model.specs.declared.claims.PinRef.{PinRef}
use Rattle.net_paths.specs.Those.{AreThose}
use Rattle.net_paths.proofs.Sifting.{those_within}
use Rattle.script_types.specs.declared.scripts.Exception.{Exception}
use Rattle.script_types.specs.declared.scripts.Script.{Script}
use Rattle.exception_expand.specs.declared.lists.Lists.{Lists}
use Rattle.exception_expand.specs.declared.pairs.Pair.{Pair}
use Rattle.exception_expand.specs.Points.{all_starts, all_ends, IsFrom, IsTo}
use Rattle.exception_expand.specs.Pairs.{pair, pairs_between, IsConnected}
use Rattle.exception_expand.specs.Cuts.{IsCut}
use Rattle.exception_expand.specs.Causes.{HasMore}
use Rattle.exception_expand.specs.Selections.{all_pairs, sets_of, Selects}
use Rattle.exception_expand.specs.Choices.{AreListsOf}
use Rattle.exception_expand.proofs.Sharing.{those_pairs, those_first, First}

-- the start and the end of the pair are in the lists of the exception
abbrev IsListed : Linked → Script → Bool → Exception → Pair → Type 0
IsListed l script strict e p = IsFrom l script strict e.edge e.from p.start × IsTo l script strict e.to p.end

listed_pairs : (l : Linked) (script : Script) (strict : Bool) (e : Exception) (lists : Lists) → AreListsOf l script strict e lists
    → AreThose (IsListed l script strict e) (all_pairs l) (pairs_between lists.starts lists.ends)
listed_pairs l script strict e lists are =
    those_pairs pair (IsFrom l script strict e.edge e.from) (IsTo l script strict e.to) (IsListed l script strict e) (all_starts l) lists.starts
    (all_ends l.design) lists.ends
    (λ a b p q. (p, q)) (λ a b r. r.0) (λ a b r. r.1) are.starts are.ends

connected_by : (l : Linked) (script : Script) (strict : Bool) (e : Exception) (lists : Lists) (first found : List Pair) → AreListsOf l script strict e lists
    → AreThose (IsConnected l.design lists.sets) first found → AreThose (IsConnected l.design (sets_of l script e)) first found
connected_by l script strict e lists first found are those =
    subst (λ (sets : List (List PinRef)). AreThose (IsConnected l.design sets) first found) are.sets those

-- exactly the pairs that it selects, where they are few enough
pub choice_exact : (l : Linked) (script : Script) (strict : Bool) (e : Exception) (lists : Lists) (most : ℕ) (found : List Pair)
    → AreListsOf l script strict e lists
    → IsCut (IsConnected l.design lists.sets) (pairs_between lists.starts lists.ends) most found → length found ≤ most
    → AreThose (Selects l script strict e) (all_pairs l) found
choice_exact l script strict e lists most found are cut few =
    let all = pairs_between lists.starts lists.ends in
    let whole : cut.first ≡ all = sym (append-nil cut.first) ∙ sym (ap (λ (r : List Pair). cut.first ++ r) (cut.done few)) ∙ sym cut.whole in
    let those : AreThose (IsConnected l.design (sets_of l script e)) all found =
    subst (λ (ps : List Pair). AreThose (IsConnected l.design (sets_of l script e)) ps found) whole
    (connected_by l script strict e lists cut.first found are cut.those) in
    those_within (IsListed l script strict e) (IsConnected l.design (sets_of l script e)) (all_pairs l) all found
    (listed_pairs l script strict e lists are) those

-- more than so many among those that come first
pub choice_more : (l : Linked) (script : Script) (strict : Bool) (e : Exception) (lists : Lists) (most : ℕ) (found : List Pair)
    → AreListsOf l script strict e lists
    → IsCut (IsConnected l.design lists.sets) (pairs_between lists.starts lists.ends) most found → most < length found
    → HasMore (Selects l script strict e) (all_pairs l) most
choice_more l script strict e lists most found are cut more =
    let begun : First (IsListed l script strict e) (all_pairs l) cut.first =
    those_first (IsListed l script strict e) (all_pairs l) cut.first cut.rest (pairs_between lists.starts lists.ends) cut.whole
    (listed_pairs l script strict e lists are) in
    record {
      first = begun.first;
      rest = begun.rest;
      whole = begun.whole;
      found = found;
      those = those_within (IsListed l script strict e) (IsConnected l.design (sets_of l script e)) begun.first cut.first found begun.those
          (connected_by l script strict e lists cut.first found are cut.those);
      more = more;
    }
