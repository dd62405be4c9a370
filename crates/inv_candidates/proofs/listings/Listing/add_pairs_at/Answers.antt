use Rattle.std.proofs.Common.{arith, ◌≡◌, ◌≤◌, ◌+◌, ◌-◌, ℕ, length, take, drop, flat_map, length-drop, sym, subst}
use Rattle.std.specs.Prelude.{slice_index}
use Rattle.std.proofs.lemmas.Option.{get_or_from_slice_get}
use Rattle.inv_candidates.specs.Clauses.{pair_clauses}
use Rattle.inv_candidates.specs.Listing.{AddsNew, No_more}
use Rattle.inv_candidates.proofs.Adding.{adds_more, adds_whole, at_dropped}
use Rattle.inv_candidates.proofs.listings.Listing.add_pairs_at.Goals as goal

pub loop-k-init : goal.loop-k-init
loop-k-init c =
    let from : ℕ = c.args.place + 1 in
    let none : 0 ≡ from - from = omega arith in
    subst (λ n. AddsNew c.args.self.now (flat_map (pair_clauses c.at-reg.result) (take n (drop from c.args.group.now))) c.args.self.now) none
    (No_more c.args.self.now)

pub add_pair-requires : goal.add_pair-requires
add_pair-requires c = c.requires.differ c.args.place c.loop-k.k c.at-reg.result c.at.result (omega arith) c.at-reg.ensures c.at.ensures

pub loop-k-preserved : goal.loop-k-preserved
loop-k-preserved c =
    let from : ℕ = c.args.place + 1 in
    let group = c.args.group.now in
    let k = c.loop-k.k in
    let f = pair_clauses c.at-reg.result in
    let next : k - from + 1 ≡ k + 1 - from = omega arith in
    subst (λ n. AddsNew c.args.self.now (flat_map f (take n (drop from group))) c.add_pair.new.self) next
    (adds_more f (drop from group) (k - from) c.at.result c.args.self.now c.loop-k.self c.add_pair.new.self
    (at_dropped from group k c.at.result (omega arith) c.at.ensures) c.loop-k.invariant c.in_ok-add_pair.ensures)

pub returns : goal.returns
returns c =
    let from : ℕ = c.args.place + 1 in
    let group = c.args.group.now in
    let reg : c.at-reg.result ≡ slice_index group c.args.place = sym (get_or_from_slice_get group c.args.place c.at-reg.result 0 c.at-reg.ensures) in
    let past : length (drop from group) ≤ c.loop-k.k - from = omega (arith, length-drop from group) in
    subst (λ r. AddsNew c.args.self.now (flat_map (pair_clauses r) (drop from group)) c.loop-k.self) reg
    (adds_whole (pair_clauses c.at-reg.result) (drop from group) (c.loop-k.k - from) c.args.self.now c.loop-k.self past c.loop-k.invariant)
