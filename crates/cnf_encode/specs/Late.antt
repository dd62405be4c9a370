-- What is late in a query about a claim.
use Rattle.std.specs.Prelude.{◌≡◌, Bool, List, filter}
use Rattle.net_model.specs.declared.netlist.Design.{Design}
use Rattle.net_model.specs.declared.claims.Claim.{Claim}
use Rattle.query_model.specs.declared.keys.Coding.{Coding}
use Rattle.query_model.specs.Keys.{below}
use Rattle.query_model.specs.Reads.{is_start_net}
use Rattle.frame_unroll.specs.Reading.{IsSubject}
use Rattle.cnf_encode.specs.Cells.{AreCells}
use Rattle.cnf_encode.specs.declared.late_starts.LateStart.{LateStart}

-- the nets are those of the start of the subject's claim, ascending, and the cubes those of its design's functions and of its
-- coding
pub record IsLateStart (late : LateStart) : Type 0 where
  pub subject : IsSubject late.subject
  pub nets : late.nets ≡ filter (is_start_net late.subject.design.now late.subject.claim.now) (below late.subject.design.now.nets)
  pub cells : AreCells late.subject.design.now late.cells.now
  pub coding : late.cells.now.list.coding ≡ late.subject.tables.now.coding

-- what a definition says of the design's cubes, the design, the claim and the nets that move
abbrev pub of_late : {A : Type 0} → (Coding → Design → Claim → List (List Bool) → A) → LateStart → A
of_late f late = f late.cells.now.list.coding late.subject.design.now late.subject.claim.now late.subject.moved
