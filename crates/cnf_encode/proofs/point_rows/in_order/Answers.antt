use Rattle.std.proofs.Common.{subst, List, ℕ}
use Rattle.std.proofs.lemmas.List.Filters.{dedup_is}
use Rattle.std.proofs.lemmas.List.Kept.{Contains-dedup_nat, Contains-from_dedup}
use Rattle.std.proofs.lemmas.List.Sorted.{Contains-permutation, IsPermutation-sym}
use Rattle.std.proofs.lemmas.Map.Keys.{IsStrictlyIncreasing-dedup}
use Rattle.cnf_encode.specs.Placed.{IsInOrder}
use Rattle.cnf_encode.proofs.point_rows.in_order.Goals as goal

pub returns : goal.returns
returns c =
    let is = dedup_is _ _ _ c.dedup.ensures.filtered in
    let moved = c.sort_unstable.ensures.permutation in
    subst (λ (ns : List ℕ). IsInOrder ns c.from_vec.result) c.in_ok-row.ensures.items
    (rw (c.from_vec.ensures, is) (record {
      ascending = IsStrictlyIncreasing-dedup _ c.sort_unstable.ensures.sorted;
      only = λ n has. Contains-permutation _ _ n (IsPermutation-sym _ _ moved) (Contains-from_dedup _ _ n has);
      all = λ n has. Contains-dedup_nat _ n (Contains-permutation _ _ n moved has);
    }))
