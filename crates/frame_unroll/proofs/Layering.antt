-- What defines a key, by its layer.
use Rattle.std.proofs.Common.{◌≡◌, ℕ, suc, ◌+◌, ◌<◌, ◌≤◌, Bool, true, List, length, refl, ap, ◌∙◌, arith, nat_lt}
use Rattle.std.proofs.lemmas.Bool.{lt-ltb}
use Rattle.net_model.specs.declared.netlist.Design.{Design}
use Rattle.net_model.specs.declared.claims.Claim.{Claim}
use Rattle.query_model.specs.declared.keys.Key.{Key}
use Rattle.frame_unroll.specs.Origins.{claim_origin, layer_origin, late_origin, has_rail}

pub origin_first : (d : Design) (claim : Claim) (moved : List (List Bool)) (cycles : ℕ) (k : Key) → k.layer ≡ 0
    → claim_origin d claim moved cycles k ≡ layer_origin d claim moved cycles k 0
origin_first d claim moved cycles k first = ap (layer_origin d claim moved cycles k) first

pub origin_later : (d : Design) (claim : Claim) (moved : List (List Bool)) (cycles : ℕ) (k : Key) (l : ℕ) → k.layer ≡ suc l → k.cycle < cycles
    → l ≤ length claim.through → has_rail claim k.rail ≡ true → claim_origin d claim moved cycles k ≡ late_origin d claim moved l k
origin_later d claim moved cycles k l next early within rail =
    let in_time : nat_lt k.cycle cycles ≡ true = lt-ltb k.cycle cycles early in
    let in_layers : nat_lt l (length claim.through + 1) ≡ true = lt-ltb l (length claim.through + 1) (omega arith) in
    ap (layer_origin d claim moved cycles k) next ∙ rw (in_time, in_layers, rail) refl
