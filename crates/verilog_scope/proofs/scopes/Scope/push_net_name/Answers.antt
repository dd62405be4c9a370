use Rattle.std.proofs.Common.{◌≡◌, ◌∙◌, ◌++◌, ◌∷◌, ℕ, List, [], Some, slice_get, get_or, ap, sym}
use Rattle.std.proofs.lemmas.Option.{get_or_from_slice_get}
use Rattle.verilog_scope.proofs.NumberLemmas.{net_is}
use Rattle.verilog_scope.proofs.scopes.Scope.push_net_name.Goals as goal

pub returns-in_ok-push-in-Some : goal.returns-in_ok-push-in-Some
returns-in_ok-push-in-Some c =
    let s = c.args.self.now in
    let net = c.args.net in
    let place = c.place_of_net-place.result in
    let there : slice_get s.names place ≡ Some c.in-Some.name.now = sym (rw c.in-Some.is at c.name.ensures) in
    let named : get_or s.names place [] ≡ c.in-Some.name.now = get_or_from_slice_get s.names place c.in-Some.name.now [] there in
    let made = rw (c.base_at.ensures, c.decl_at.ensures) at c.in_ok-bit_name-in-Some.ensures in
    let is = net_is s place net c.requires.numbered c.place_of_net-place.ensures in
    c.in_ok-push-in-Some.ensures.ok ∙ ap (λ (n : List ℕ). c.args.names.now ++ n ∷ []) (made ∙ sym (rw named at is))
