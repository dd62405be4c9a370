-- The needed keys are those that are reached from what is asked.
use Rattle.std.proofs.Common.{◌≡◌, ℕ, ◌≤◌, List, [], sym, subst, arith, inl, inr, ◌⊎◌}
use Rattle.std.specs.Prelude.{All}
use Rattle.net_model.specs.Netlist.{IsSound}
use Rattle.net_model.specs.declared.netlist.Design.{Design}
use Rattle.net_model.proofs.Members.{In, In-from_Contains, Contains-from_In}
use Rattle.net_model.proofs.Settling.{All-at}
use Rattle.query_model.specs.Defined.{Definition}
use Rattle.query_model.proofs.Based.{placed}
use Rattle.query_model.specs.Formula.{Mentions, IsNeeded, Asked, Used, AreNeeded}
use Rattle.query_model.specs.declared.keys.Key.{Key}
use Rattle.query_model.specs.declared.keys.KeyLit.{KeyLit}
use Rattle.frame_unroll.specs.Origins.{Uses}
use Rattle.frame_unroll.specs.Framed.{IsWithin, AreWithin}
use Rattle.frame_unroll.specs.Found.{with_clauses, AreKeysWithin, IsSmall, IsReached, Started, Read, AreReached, AreAscending}
use Rattle.frame_unroll.proofs.Adding.{new_clauses, from_clauses}

asked_mention : (asked : List (List KeyLit)) (k : Key) → In k (with_clauses [] asked) → Mentions asked k
asked_mention asked k has = by (from_clauses [] asked k has)
  where
    by : In k [] ⊎ ((c : List KeyLit) × In c asked × ((l : KeyLit) × In l c × (l.key ≡ k))) → Mentions asked k
    by (inl none) = absurd none
    by (inr (c, has_c, (l, has_l, is))) = (c, Contains-from_In asked c has_c, (l, Contains-from_In c l has_l, is))

mention_asked : (asked : List (List KeyLit)) (k : Key) → Mentions asked k → In k (with_clauses [] asked)
mention_asked asked k (c, has_c, (l, has_l, is)) =
    subst (λ (j : Key). In j (with_clauses [] asked)) is (new_clauses [] asked c l (In-from_Contains asked c has_c) (In-from_Contains c l has_l))

-- the keys of what is asked
pub start_within : (d : Design) (cycles : ℕ) (asked : List (List KeyLit)) → AreWithin d cycles asked → AreKeysWithin d cycles (with_clauses [] asked)
start_within d cycles asked within k has =
    let (c, has_c, (l, has_l, is)) = asked_mention asked k (In-from_Contains (with_clauses [] asked) k has) in
    let place_c = placed c asked (In-from_Contains asked c has_c) in
    let place_l = placed l c (In-from_Contains c l has_l) in
    let in_clause = All-at (All (λ (m : KeyLit). IsWithin d cycles m.key)) asked place_c.0 c place_c.1 within in
    subst (IsWithin d cycles) is (All-at (λ (m : KeyLit). IsWithin d cycles m.key) c place_l.0 l place_l.1 in_clause)

pub small_within : (d : Design) (cycles : ℕ) (k : Key) → IsSound d → cycles ≤ 144 → IsWithin d cycles k → IsSmall k
small_within d cycles k sound few is =
    let nets = sound.limits.nets in
    let regs = sound.limits.regs in
    record { cycle = omega (arith, is.cycle, few); layer = is.layer; rail = is.rail; point = omega (arith, is.point, nets, regs) }

needed_if_reached : (defs : List Definition) (asked : List (List KeyLit)) (reads : Key → List KeyLit)
    → ((k : Key) (l : KeyLit) → In l (reads k) → Uses defs k l.key) → (k : Key) → IsReached reads (with_clauses [] asked) k → IsNeeded defs asked k
needed_if_reached defs asked reads used m (Started k has) = Asked k (asked_mention asked k (In-from_Contains (with_clauses [] asked) k has))
needed_if_reached defs asked reads used m (Read j l from has) =
    let (def, in_defs, in_outs, mention) = used j l (In-from_Contains (reads j) l has) in
    Used def j l.key in_defs in_outs (needed_if_reached defs asked reads used j from) mention

reached_if_needed : (defs : List Definition) (asked : List (List KeyLit)) (reads : Key → List KeyLit)
    → ((k j : Key) → Uses defs k j → (j ≡ k) ⊎ ((l : KeyLit) × In l (reads k) × (l.key ≡ j))) → (k : Key) → IsNeeded defs asked k
    → IsReached reads (with_clauses [] asked) k
reached_if_needed defs asked reads read m (Asked k mention) = Started k (Contains-from_In (with_clauses [] asked) k (mention_asked asked k mention))
reached_if_needed defs asked reads read m (Used def out k in_defs in_outs is mention) =
    by (reached_if_needed defs asked reads read out is) (read out k (def, in_defs, in_outs, mention))
  where
    by : IsReached reads (with_clauses [] asked) out → (k ≡ out) ⊎ ((l : KeyLit) × In l (reads out) × (l.key ≡ k)) → IsReached reads (with_clauses [] asked) k
    by from (inl same) = subst (IsReached reads (with_clauses [] asked)) (sym same) from
    by from (inr (l, has, is_key)) = subst (IsReached reads (with_clauses [] asked)) is_key (Read out l from (Contains-from_In (reads out) l has))

-- where the definitions use what is read
pub needed_from_reached : (defs : List Definition) (asked : List (List KeyLit)) (reads : Key → List KeyLit) (found keys : List Key)
    → ((k : Key) (l : KeyLit) → In l (reads k) → Uses defs k l.key)
    → ((k j : Key) → Uses defs k j → (j ≡ k) ⊎ ((l : KeyLit) × In l (reads k) × (l.key ≡ j))) → AreReached reads (with_clauses [] asked) found
    → AreAscending found keys → AreNeeded defs asked keys
needed_from_reached defs asked reads found keys used read reached sorted = record {
  ascending = sorted.ascending;
  needed = λ k has. needed_if_reached defs asked reads used k (reached.only k (sorted.only k has));
  all = λ k is. sorted.all k (reached.all k (reached_if_needed defs asked reads read k is));
}
