use Rattle.std.proofs.Common.{◌≡◌, ◌∙◌, ℕ, List, ap, subst, sym}
use Rattle.net_model.specs.Pins.{start_nets}
use Rattle.net_model.specs.declared.netlist.Design.{Design}
use Rattle.net_model.specs.declared.claims.Claim.{Claim}
use Rattle.frame_unroll.specs.Tabled.{CodedDesign}
use Rattle.cnf_encode.specs.Cells.{AreCells}
use Rattle.cnf_encode.specs.Placed.{IsInOrder}
use Rattle.cnf_encode.proofs.Layering.{starts_are}
use Rattle.cnf_encode.proofs.late_starts.LateStart.of.Goals as goal

pub returns-clause-late : goal.returns-clause-late
returns-clause-late c =
    let s = c.in_ok-subject.subject in
    let is = c.in_ok-subject.ensures in
    let claim = c.args.claim.now in
    let own : s.design.now ≡ c.args.prepared.now.design = is.design ∙ ap (λ (t : CodedDesign). t.design) c.tables.ensures in
    let starts : c.in_ok-start_nets.field-0.items ≡ start_nets s.design.now s.claim.now.start =
    c.in_ok-start_nets.ensures
    ∙ (ap (λ (d : Design). start_nets d claim.start) (c.bare.ensures ∙ sym own)
    ∙ ap (λ (k : Claim). start_nets s.design.now k.start) (sym is.claim)) in
    record {
      subject = is.subject;
      nets = starts_are s.design.now s.claim.now c.in_ok-start_nets.field-0.items c.in_ok-nets.nets is.subject.sound is.subject.fits.start starts
          (subst (λ (ns : List ℕ). IsInOrder ns c.in_ok-nets.nets) c.deref.ensures.value c.in_ok-nets.ensures);
      cells = subst (λ (d : Design). AreCells d c.cells.result.now) (sym own) c.cells.ensures.cells;
      coding = c.cells.ensures.coding ∙ sym (is.coding ∙ ap (λ (t : CodedDesign). t.coding) c.tables.ensures);
    }
