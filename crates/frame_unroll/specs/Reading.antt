-- What the nets and pins of a query about a claim are read by.
use Rattle.std.specs.Prelude.{◌≡◌}
use Rattle.net_model.specs.Netlist.{IsSound}
use Rattle.net_model.specs.Fits.{Fits}
use Rattle.query_model.specs.Reads.{AreMoved}
use Rattle.frame_unroll.specs.declared.subjects.Subject.{Subject}

-- the design is sound, the claim fits it, and the tables are those of the two
pub record IsSubject (s : Subject) : Type 0 where
  pub sound : IsSound s.design.now
  pub fits : Fits s.design.now s.claim.now
  pub tables : s.tables.now.design ≡ s.design.now
  pub moved : AreMoved s.design.now s.claim.now s.moved
