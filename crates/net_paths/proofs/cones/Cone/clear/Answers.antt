use Rattle.std.proofs.Common.{arith, ◌≡◌, ◌+◌, ◌<◌, ◌≤◌, ◌∙◌, ℕ, zero, suc, List, [], ◌∷◌, length, drop, refl, ap, sym, subst, get_or, length-set}
use Rattle.std.specs.Prelude.{Option, None}
use Rattle.net_paths.proofs.Emptying.{Left, left_first, left_more, none_left}
use Rattle.net_paths.proofs.cones.Cone.clear.Goals as goal

get_or_any : (xs : List ℕ) (i a b : ℕ) → i < length xs → get_or xs i a ≡ get_or xs i b
get_or_any [] i a b low = absurd (omega (arith, low))
get_or_any (x ∷ xs) zero a b low = refl
get_or_any (x ∷ xs) (suc i) a b low = get_or_any xs i a b (omega (arith, low))

pub loop-k-init : goal.loop-k-init
loop-k-init c = record { len = c.requires.len; same = refl; left = left_first c.args.self.now.levels c.args.self.now.nets.items c.requires.noted }

pub put-requires : goal.put-requires
put-requires c =
    let net : ℕ = c.index.result.now in
    let low : c.loop-k.k < length c.args.self.now.nets.items = omega (arith, c.loop-k-test.true, c.len-k-end.ensures) in
    let item : net ≡ get_or c.args.self.now.nets.items c.loop-k.k net = c.index.ensures
    ∙ ap (λ (l : List ℕ). get_or l c.loop-k.k net) c.loop-k.invariant.same in
    let range = c.requires.in_range c.loop-k.k net low in
    omega (arith, item, range, c.loop-k.invariant.len)

pub loop-k-preserved : goal.loop-k-preserved
loop-k-preserved c =
    let net : ℕ = c.index.result.now in
    let nets : List ℕ = c.args.self.now.nets.items in
    let low : c.loop-k.k < length nets = omega (arith, c.loop-k-test.true, c.len-k-end.ensures) in
    let item : net ≡ get_or nets c.loop-k.k net = c.index.ensures ∙ ap (λ (l : List ℕ). get_or l c.loop-k.k net) c.loop-k.invariant.same in
    let range = c.requires.in_range c.loop-k.k net low in
    let within : net < length c.loop-k.self.levels = omega (arith, item, range, c.loop-k.invariant.len) in
    let is : get_or nets c.loop-k.k 0 ≡ net = get_or_any nets c.loop-k.k 0 net low ∙ sym item in
    record {
      len = ap length c.put.ensures ∙ length-set c.loop-k.self.levels net None ∙ c.loop-k.invariant.len;
      same = c.loop-k.invariant.same;
      left = subst (λ (l : List (Option ℕ)). Left l (drop (c.loop-k.k + 1) nets)) (sym c.put.ensures)
          (left_more c.loop-k.self.levels nets c.loop-k.k net low is within c.loop-k.invariant.left);
    }

pub returns : goal.returns
returns c =
    let past : length c.args.self.now.nets.items ≤ c.loop-k.k = omega (arith, c.loop-k-test.false, c.len-k-end.ensures) in
    record {
      len = c.loop-k.invariant.len;
      empty = none_left c.loop-k.self.levels c.args.self.now.nets.items c.loop-k.k past c.loop-k.invariant.left;
      none = c.clear.ensures.items;
      told = refl;
    }
