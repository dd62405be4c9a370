use Rattle.std.proofs.Common.{◌≡◌, ℕ, [], get_or, refl, sym, subst}
use Rattle.std.specs.Prelude.{Contains}
use Rattle.std.proofs.lemmas.Option.{slice_get-get_or}
use Rattle.frame_unroll.proofs.Listed.{lists_insert, lists_more, lists_all, lists_as, those_all}
use Rattle.frame_unroll.proofs.moved_nets.listed.Goals as goal

pub loop-net-preserved : goal.loop-net-preserved
loop-net-preserved c =
    let nets = c.args.nets.now in
    let i = c.loop-net.net-index in
    let here : ℕ = get_or nets i 0 in
    lists_more nets (λ (m n : ℕ). m ≡ n) i here [] c.loop-net.found.keys c.insert.new.self.keys (slice_get-get_or nets i 0 c.loop-net-test.true)
    c.loop-net.invariant
    (rw c.in_ok-insert.ensures.keys (lists_insert (λ (n : ℕ). here ≡ n) c.loop-net.found.keys here refl (λ n e. sym e)))

pub returns : goal.returns
returns c =
    let nets = c.args.nets.now in
    those_all (Contains nets) c.loop-net.found.keys
    (lists_as (λ n. (m : ℕ) × Contains nets m × (m ≡ n)) (Contains nets) [] c.loop-net.found.keys
    (λ n (m, has, e). subst (Contains nets) e has) (λ n has. (n, has, refl))
    (lists_all nets (λ (m n : ℕ). m ≡ n) c.loop-net.net-index [] c.loop-net.found.keys c.loop-net-test.false c.loop-net.invariant))
