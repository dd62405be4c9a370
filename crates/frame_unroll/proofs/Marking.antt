-- What counts of what is read at a site in a layer.
use Rattle.std.proofs.Common.{◌≡◌, ◌∙◌, ℕ, Bool, true, false, cond, Some, None, List, [], ◌∷◌, ◌++◌, length, ap, subst, sym}
use Rattle.std.specs.Prelude.{slice_get}
use Rattle.net_model.specs.Cycles.{reg_capture}
use Rattle.net_model.specs.declared.netlist.Design.{Design}
use Rattle.net_model.specs.declared.netlist.Reg.{Reg}
use Rattle.net_model.specs.declared.claims.Claim.{Claim}
use Rattle.query_model.specs.Keys.{lit}
use Rattle.query_model.specs.Defined.{reg_reads}
use Rattle.query_model.specs.declared.keys.KeyLit.{KeyLit}
use Rattle.frame_unroll.specs.Counted.{reg_marks}
use Rattle.frame_unroll.specs.Tabled.{CodedDesign}
use Rattle.frame_unroll.specs.Origins.{on_rails}
use Rattle.frame_unroll.specs.Found.{marked_rail, marked_low, marked_rails}
use Rattle.frame_unroll.specs.Sites.{both_rails, own_sign, reg_rail, late_reg_site, counted_rail}
use Rattle.frame_unroll.specs.declared.sites.Rail.{Rail}
use Rattle.frame_unroll.specs.declared.sites.Site.{Site}
use Rattle.frame_unroll.proofs.Tabled.{reg_long, reg_counted, length-reg_reads}

-- there are as many marks as literals on each rail
pub record AreLong (marks : List Bool) (site : Site) : Type 0 where
  pub high : length marks ≡ length site.high.reads
  pub low : (low : Rail) → site.low ≡ Some low → length marks ≡ length low.reads

rails_long : (marks : List Bool) (claim : Claim) (high low : Rail) (site : Site) → site ≡ both_rails claim high low → length marks ≡ length high.reads
    → length marks ≡ length low.reads → AreLong marks site
rails_long marks claim high low site is first second =
    subst (AreLong marks) (sym is) (record { high = first; low = λ other. by claim.hazard other })
  where
    by : (h : Bool) (other : Rail) → cond h (Some low) None ≡ Some other → length marks ≡ length other.reads
    by true other at = let same : low ≡ other = cc in second ∙ ap (λ (r : Rail). length r.reads) same
    by false other at = absurd cc

-- what has a mark, on the rails that there are
rails_marked : (marks : List Bool) (claim : Claim) (high low : Rail) (f : ℕ → List KeyLit) (site : Site) → site ≡ both_rails claim high low
    → marked_rail marks high ≡ f 0 → marked_rail marks low ≡ f 1 → marked_rails marks site ≡ on_rails claim f
rails_marked marks claim high low f site is first second = ap (marked_rails marks) is ∙ by claim.hazard
  where
    by : (h : Bool) → marked_rail marks high ++ marked_low marks (cond h (Some low) None) ≡ f 0 ++ cond h (f 1) []
    by true = ap (λ (ls : List KeyLit). ls ++ marked_rail marks low) first ∙ ap (λ (ls : List KeyLit). f 0 ++ ls) second
    by false = ap (λ (ls : List KeyLit). ls ++ []) first

-- of a late capture
pub reg_longs : (t : CodedDesign) (d : Design) (claim : Claim) (moved : List (List Bool)) (c r : ℕ) (reg : Reg) (marks : List Bool) (site : Site)
    → t.design ≡ d → slice_get d.regs r ≡ Some reg → ((h : Reg) → slice_get t.design.regs r ≡ Some h → marks ≡ reg_marks t.coding h)
    → site ≡ late_reg_site d claim moved c r reg → AreLong marks site
reg_longs t d claim moved c r reg marks site same at says is =
    rails_long marks claim (reg_rail d claim moved c 0 true r reg) (reg_rail d claim moved c 1 false r reg) site is
    (reg_long t d r reg marks (reg_reads d claim moved c 0 true r reg) same at says (length-reg_reads d claim moved c 0 true r reg))
    (reg_long t d r reg marks (reg_reads d claim moved c 1 false r reg) same at says (length-reg_reads d claim moved c 1 false r reg))

pub reg_marked : (t : CodedDesign) (d : Design) (claim : Claim) (moved : List (List Bool)) (c r : ℕ) (reg : Reg) (marks : List Bool) (site : Site)
    → t.design ≡ d → slice_get d.regs r ≡ Some reg → ((h : Reg) → slice_get t.design.regs r ≡ Some h → marks ≡ reg_marks t.coding h)
    → site ≡ late_reg_site d claim moved c r reg
    → marked_rails marks site ≡ on_rails claim (λ rail. counted_rail t.coding (reg_capture reg) (reg_rail d claim moved c rail (own_sign rail) r reg))
reg_marked t d claim moved c r reg marks site same at says is =
    let counts : (rail : ℕ) (own : Bool) → marked_rail marks (reg_rail d claim moved c rail own r reg)
    ≡ counted_rail t.coding (reg_capture reg) (reg_rail d claim moved c rail own r reg) =
    λ rail own. ap (λ (ls : List KeyLit). ls ++ lit true (reg_rail d claim moved c rail own r reg).out ∷ [])
    (reg_counted t d r reg marks (reg_reads d claim moved c rail own r reg) same at says (length-reg_reads d claim moved c rail own r reg)) in
    rails_marked marks claim (reg_rail d claim moved c 0 true r reg) (reg_rail d claim moved c 1 false r reg)
    (λ rail. counted_rail t.coding (reg_capture reg) (reg_rail d claim moved c rail (own_sign rail) r reg)) site is (counts 0 true) (counts 1 false)
