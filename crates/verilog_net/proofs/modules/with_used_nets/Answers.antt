use Rattle.std.proofs.Common.{◌≡◌, ◌<◌, ℕ, List, All, length, refl}
use Rattle.std.specs.Prelude.{Contains}
use Rattle.std.proofs.lemmas.List.Elements.{All-weaker, All-contains, All-contains_itself}
use Rattle.verilog_scope.specs.Scopes.{net_names}
use Rattle.verilog_net.specs.Orders.{IsInOrder}
use Rattle.verilog_net.specs.Uses.{standing_nets, those_in, with_used_nets}
use Rattle.verilog_net.proofs.UseLemmas.{those_are}
use Rattle.verilog_net.proofs.modules.with_used_nets.Goals as goal

-- numbers in order are below a count where they all were
below : (old new : List ℕ) (count : ℕ) → IsInOrder old new → All (λ n. n < count) old → All (λ n. n < count) new
below old new count is all =
    All-weaker (Contains new) (λ (n : ℕ). n < count) (λ n has. All-contains (λ (n : ℕ). n < count) old n all (is.only n has)) new (All-contains_itself new)

pub net_names-requires-clause-nets : goal.net_names-requires-clause-nets
net_names-requires-clause-nets c =
    let count = length (net_names c.args.scope.now) in
    let is : IsInOrder (standing_nets c.args.ports c.args.items) c.in_ok-used.used = rw (c.as_slice.ensures, c.as_slice-2.ensures) at c.in_ok-used.ensures in
    rw c.as_slice-3.ensures (below (standing_nets c.args.ports c.args.items) c.in_ok-used.used count is c.requires.nets)

pub returns : goal.returns
unfolding with_used_nets
returns c =
    let all = standing_nets c.args.ports c.args.items in
    let count = length (net_names c.args.scope.now) in
    let is : IsInOrder all c.in_ok-used.used = rw (c.as_slice.ensures, c.as_slice-2.ensures) at c.in_ok-used.ensures in
    let same : c.in_ok-used.used ≡ those_in all count = those_are all c.in_ok-used.used count is c.requires.nets in
    let nets = rw (c.as_slice-3.ensures, same) at c.in_ok-nets.ensures in
    let ports = rw (c.as_slice-4.ensures, same) at c.in_ok-ports.ensures in
    let items = rw (c.as_slice-5.ensures, same) at c.in_ok-items.ensures in
    rw (nets, ports, items) refl
