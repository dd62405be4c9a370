use Rattle.std.proofs.Common.{◌∙◌, refl, sym, subst}
use Rattle.query_model.specs.declared.keys.Coding.{Coding}
use Rattle.net_model.specs.Queries.{Query, Violates, claim_query}
use Rattle.query_model.specs.Formula.{definitions}
use Rattle.cnf_encode.specs.Problems.{IsProblemFor}
use Rattle.cnf_encode.proofs.Needing.{closed_from, asked_keys}
use Rattle.cnf_encode.proofs.Made.{IsMade, made_exact, made_normal}
use Rattle.cnf_encode.proofs.MadeQueries.{asking, IsOf, claim_needed, claim_made, claim_complete}
use Rattle.cnf_encode.proofs.formulas.claim_formula.Goals as goal

pub list_claim_cycles-requires-clause-closed : goal.list_claim_cycles-requires-clause-closed
list_claim_cycles-requires-clause-closed c =
    let d = c.args.late.now.subject.design.now in
    let claim = c.args.late.now.subject.claim.now in
    let coding = c.args.late.now.cells.now.list.coding in
    let needed = claim_needed coding c.args.late.now.subject.tables.now.coding d claim c.claim_span-span.result.cycles c.args.late.now.subject.moved
    c.in_ok-asked.asked c.in_ok-frames.frames c.requires.late.coding c.in_ok-frames.ensures in
    let moved = c.args.late.now.subject.moved in
    let any : Query = asking d c.in_ok-cone.cone.live c.claim_span-span.result.cycles (Violates claim 0 0) in
    closed_from (definitions coding any moved) c.in_ok-asked.asked c.in_ok-frames.frames (needed any 0 0 refl refl refl)

pub list_claim_cycles-requires-clause-coding : goal.list_claim_cycles-requires-clause-coding
list_claim_cycles-requires-clause-coding c = c.in_ok-cone.ensures.coding ∙ sym (c.requires.late.coding ∙ c.requires.coding)

pub push_asked-requires : goal.push_asked-requires
push_asked-requires c =
    let d = c.args.late.now.subject.design.now in
    let claim = c.args.late.now.subject.claim.now in
    let coding = c.args.late.now.cells.now.list.coding in
    let needed = claim_needed coding c.args.late.now.subject.tables.now.coding d claim c.claim_span-span.result.cycles c.args.late.now.subject.moved
    c.in_ok-asked.asked c.in_ok-frames.frames c.requires.late.coding c.in_ok-frames.ensures in
    let moved = c.args.late.now.subject.moved in
    let any : Query = asking d c.in_ok-cone.cone.live c.claim_span-span.result.cycles (Violates claim 0 0) in
    record {
      keys = asked_keys (definitions coding any moved) c.in_ok-asked.asked c.in_ok-frames.frames
          (needed any 0 0 refl refl refl);
    }

pub returns-clause-exact : goal.returns-clause-exact
returns-clause-exact c =
    let d = c.args.late.now.subject.design.now in
    let claim = c.args.late.now.subject.claim.now in
    let coding = c.args.late.now.cells.now.list.coding in
    let needed = claim_needed coding c.args.late.now.subject.tables.now.coding d claim c.claim_span-span.result.cycles c.args.late.now.subject.moved
    c.in_ok-asked.asked c.in_ok-frames.frames c.requires.late.coding c.in_ok-frames.ensures in
    let of : IsOf c.problem_of.result c.in_ok-frames.frames c.in_ok-cone.cone.live c.claim_span-span.result.cycles c.push_asked.new.clauses =
    record {
      frames = c.problem_of.ensures.frames;
      vars = c.problem_of.ensures.vars;
      clauses_are = c.problem_of.ensures.clauses;
      live_is = c.problem_of.ensures.live ∙ sym c.in_ok-cone.ensures.live;
      cycles_are = c.problem_of.ensures.cycles;
      few = c.problem_of.ensures.few;
    } in
    let is : IsMade coding (claim_query d claim c.args.phase c.args.depth c.args.inv.now) c.args.late.now.subject.moved c.problem_of.result =
    claim_made coding d claim c.args.phase c.args.depth c.args.inv.now c.args.late.now.subject.moved c.problem_of.result c.in_ok-frames.frames
    c.in_ok-asked.asked c.in_ok-cone.cone.live c.claim_span-span.result.cycles c.new-clauses.result c.list_claim_cycles.new.clauses
    c.push_asked.new.clauses c.requires.late.subject.moved of (c.in_ok-cone.ensures.live ∙ c.claim_span-span.ensures.live)
    c.claim_span-span.ensures.cycles needed c.in_ok-asked.ensures.asked c.new-clauses.ensures c.in_ok-list_claim_cycles.ensures
    c.in_ok-push_asked.ensures in
    subst (λ (k : Coding). IsProblemFor k (claim_query d claim c.args.phase c.args.depth c.args.inv.now) c.problem_of.result)
    (c.requires.late.coding ∙ c.requires.coding)
    (made_exact coding (claim_query d claim c.args.phase c.args.depth c.args.inv.now) c.args.late.now.subject.moved c.problem_of.result is)

pub returns-clause-normal : goal.returns-clause-normal
returns-clause-normal c =
    let d = c.args.late.now.subject.design.now in
    let claim = c.args.late.now.subject.claim.now in
    let coding = c.args.late.now.cells.now.list.coding in
    let needed = claim_needed coding c.args.late.now.subject.tables.now.coding d claim c.claim_span-span.result.cycles c.args.late.now.subject.moved
    c.in_ok-asked.asked c.in_ok-frames.frames c.requires.late.coding c.in_ok-frames.ensures in
    let of : IsOf c.problem_of.result c.in_ok-frames.frames c.in_ok-cone.cone.live c.claim_span-span.result.cycles c.push_asked.new.clauses =
    record {
      frames = c.problem_of.ensures.frames;
      vars = c.problem_of.ensures.vars;
      clauses_are = c.problem_of.ensures.clauses;
      live_is = c.problem_of.ensures.live ∙ sym c.in_ok-cone.ensures.live;
      cycles_are = c.problem_of.ensures.cycles;
      few = c.problem_of.ensures.few;
    } in
    let is : IsMade coding (claim_query d claim c.args.phase c.args.depth c.args.inv.now) c.args.late.now.subject.moved c.problem_of.result =
    claim_made coding d claim c.args.phase c.args.depth c.args.inv.now c.args.late.now.subject.moved c.problem_of.result c.in_ok-frames.frames
    c.in_ok-asked.asked c.in_ok-cone.cone.live c.claim_span-span.result.cycles c.new-clauses.result c.list_claim_cycles.new.clauses
    c.push_asked.new.clauses c.requires.late.subject.moved of (c.in_ok-cone.ensures.live ∙ c.claim_span-span.ensures.live)
    c.claim_span-span.ensures.cycles needed c.in_ok-asked.ensures.asked c.new-clauses.ensures c.in_ok-list_claim_cycles.ensures
    c.in_ok-push_asked.ensures in
    made_normal coding (claim_query d claim c.args.phase c.args.depth c.args.inv.now) c.args.late.now.subject.moved c.problem_of.result is

pub returns-clause-complete : goal.returns-clause-complete
returns-clause-complete c =
    let d = c.args.late.now.subject.design.now in
    let claim = c.args.late.now.subject.claim.now in
    let coding = c.args.late.now.cells.now.list.coding in
    let needed = claim_needed coding c.args.late.now.subject.tables.now.coding d claim c.claim_span-span.result.cycles c.args.late.now.subject.moved
    c.in_ok-asked.asked c.in_ok-frames.frames c.requires.late.coding c.in_ok-frames.ensures in
    let of : IsOf c.problem_of.result c.in_ok-frames.frames c.in_ok-cone.cone.live c.claim_span-span.result.cycles c.push_asked.new.clauses =
    record {
      frames = c.problem_of.ensures.frames;
      vars = c.problem_of.ensures.vars;
      clauses_are = c.problem_of.ensures.clauses;
      live_is = c.problem_of.ensures.live ∙ sym c.in_ok-cone.ensures.live;
      cycles_are = c.problem_of.ensures.cycles;
      few = c.problem_of.ensures.few;
    } in
    let is : IsMade coding (claim_query d claim c.args.phase c.args.depth c.args.inv.now) c.args.late.now.subject.moved c.problem_of.result =
    claim_made coding d claim c.args.phase c.args.depth c.args.inv.now c.args.late.now.subject.moved c.problem_of.result c.in_ok-frames.frames
    c.in_ok-asked.asked c.in_ok-cone.cone.live c.claim_span-span.result.cycles c.new-clauses.result c.list_claim_cycles.new.clauses
    c.push_asked.new.clauses c.requires.late.subject.moved of (c.in_ok-cone.ensures.live ∙ c.claim_span-span.ensures.live)
    c.claim_span-span.ensures.cycles needed c.in_ok-asked.ensures.asked c.new-clauses.ensures c.in_ok-list_claim_cycles.ensures
    c.in_ok-push_asked.ensures in
    claim_complete coding d claim c.args.phase c.args.depth c.args.inv.now c.args.late.now.subject.moved c.problem_of.result c.requires.late.subject.sound
    c.requires.late.subject.fits c.requires.names is
