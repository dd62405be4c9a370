-- The listed claims of an accepted certificate hold, and its list is one.
use Rattle.std.proofs.Common.{◌≡◌, ℕ, zero, suc, Some, List, subst, sym}
use Rattle.std.specs.Prelude.{All}
use Rattle.net_model.specs.Netlist.{IsSound}
use Rattle.net_model.specs.Fits.{Fits}
use Rattle.net_model.proofs.Settling.{All-at}
use Rattle.net_model.specs.declared.netlist.Design.{Design}
use Rattle.net_model.specs.declared.claims.Claim.{Claim}
use Rattle.query_model.specs.declared.keys.Coding.{Coding}
use Rattle.verdicts.proofs.Certifying.{proved_holds, kept_met}
use Rattle.cert_values.specs.declared.certs.Cert.{Cert}
use Rattle.cert_defs.specs.Listed.{item_numbered}
use Rattle.cert_defs.specs.Accepted.{Accepts, HoldEach}
use Rattle.cert_defs.proofs.Numbering.{pair_numbered, one_ascending}

-- what holds of all items holds of the one of a number
pub All-numbered : {X : Type 0} (P : X → Type 0) (xs : List X) (number : ℕ) (x : X) → item_numbered xs number ≡ Some x → All P xs → P x
All-numbered P xs zero x at all = absurd cc
All-numbered P xs (suc place) x at all = All-at P xs place x at all

-- each listed claim of an accepted certificate holds
pub hold_each : (coding : Coding) (d : Design) (claims : List Claim) (cert : Cert) (numbers : List ℕ) → IsSound d → All (Fits d) claims
    → Accepts coding d claims cert numbers → HoldEach d claims numbers
hold_each coding d claims cert numbers sound fit accepts number claim has at =
    let names = accepts.accepted.listed.registers in
    let found = pair_numbered cert.pairs number ((accepts.numbers_are.same number).0 has) in
    let there = subst (λ (n : ℕ). item_numbered claims n ≡ Some claim) (sym found.3) at in
    let met = kept_met coding d cert.kept cert.depth cert.proofs sound names accepts.accepted.kept in
    proved_holds coding d claim cert.kept found.1.proof sound (All-numbered (Fits d) claims number claim at fit) names met
    (accepts.accepted.proved found.1 claim (record { place = found.0; at = found.2; claim_at = there }))

-- a certificate has one list
pub one_list : (coding : Coding) (d : Design) (claims : List Claim) (cert : Cert) (one other : List ℕ) → Accepts coding d claims cert one
    → Accepts coding d claims cert other → one ≡ other
one_list coding d claims cert one other accepts also =
    let a = accepts.numbers_are in
    let b = also.numbers_are in
    one_ascending 1 one other a.ascending b.ascending (λ x has. (b.same x).1 ((a.same x).0 has)) (λ x has. (a.same x).1 ((b.same x).0 has))
