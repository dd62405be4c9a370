-- The claims that a mended script has to select.
use Rattle.std.specs.Prelude.{◌≡◌, ℕ, if◌then◌else◌, List, ◌++◌, slice_get}
use Rattle.std.specs.List.{flat_map}
use Rattle.sdcv_base.specs.Seqs.{option_list}
use Rattle.net_model.specs.declared.claims.Claim.{Claim}
use Rattle.mend_groups.specs.declared.ports.EndClass.TheVariants.{Regs, Ports as PortBits, Sinks}
use Rattle.mend_groups.specs.declared.rows.Row.{Row}
use Rattle.mend_groups.specs.declared.groups.Group.{Group}
use Rattle.mend_groups.specs.declared.parts.Part.{Part}
use Rattle.mend_lines.specs.Lines.{of_class}
use Rattle.mend_lines.specs.Holds.{is_whole}

-- the pairs of a group in the order of its commands: those whose ends are registers, then those whose ends are bits of output ports, then
-- those whose ends are sinks, by start and then by end
abbrev pub group_rows : Group → List Row
group_rows g = flat_map (of_class Regs) g.stars ++ (flat_map (of_class PortBits) g.stars ++ flat_map (of_class Sinks) g.stars)

-- of an exception that stays all pairs, of another those of its groups
abbrev pub part_rows : Part → List Row
part_rows p = if is_whole p then p.rows else flat_map group_rows p.groups

-- the claim at a place, if there is one
abbrev pub claim_list : List Claim → ℕ → List Claim
claim_list claims place = option_list (slice_get claims place)

-- the claims of pairs by their places
abbrev pub claims_at : List Claim → List Row → List Claim
claims_at claims rows = flat_map (λ (r : Row). claim_list claims r.place) rows

abbrev pub mended_claims : List Claim → List Part → List Claim
mended_claims claims parts = claims_at claims (flat_map part_rows parts)

-- two claims are of one kind, and are judged alike
pub record AreAlike (a b : Claim) : Type 0 where
  pub kind : a.kind ≡ b.kind
  pub edge : a.edge ≡ b.edge
  pub lag : a.lag ≡ b.lag
  pub hazard : a.hazard ≡ b.hazard
  pub early : a.early ≡ b.early

-- a list does not begin with these items
abbrev pub BeginsOtherwise : {A : Type 0} → List A → List A → Type 0
BeginsOtherwise {A} first whole = (more : List A) → whole ≡ first ++ more → ⊥
