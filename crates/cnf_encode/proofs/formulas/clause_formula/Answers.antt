use Rattle.std.proofs.Common.{◌∙◌, [], refl, sym, ap, subst}
use Rattle.std.specs.Prelude.{All, flat_map}
use Rattle.net_model.specs.Netlist.{IsSound}
use Rattle.net_model.specs.declared.netlist.Design.{Design}
use Rattle.net_model.specs.Queries.{Query, Breaks, clause_query}
use Rattle.query_model.specs.Keys.{below}
use Rattle.net_model.specs.Fits.{NamesRegs}
use Rattle.query_model.specs.Formula.{definitions}
use Rattle.query_model.specs.declared.keys.Coding.{Coding}
use Rattle.frame_unroll.specs.Tabled.{CodedDesign}
use Rattle.cnf_encode.specs.Listed.{IsClosed, clause_cycle}
use Rattle.cnf_encode.specs.Problems.{IsProblemFor, IsCompleteFor}
use Rattle.cnf_encode.proofs.Needing.{closed_from, asked_keys}
use Rattle.cnf_encode.proofs.Made.{IsMade, made_exact, made_normal}
use Rattle.cnf_encode.proofs.MadeQueries.{asking, IsOf, clause_needed, clause_made, clause_complete}
use Rattle.cnf_encode.proofs.formulas.clause_formula.Goals as goal

pub list_clause_cycles-requires-clause-closed : goal.list_clause_cycles-requires-clause-closed
list_clause_cycles-requires-clause-closed c =
    let coding = c.in_ok-cone.cone.cells.now.list.coding in
    let needed = clause_needed coding c.tables-tables.result.now.coding c.bare-bare.result.now c.tables-tables.result.now.design
    c.clause_span-span.result.cycles c.in_ok-asked.asked c.in_ok-frames.frames
    (c.in_ok-cone.ensures.coding ∙ sym (ap (λ (t : CodedDesign). t.coding) c.tables-tables.ensures))
    (ap (λ (t : CodedDesign). t.design) c.tables-tables.ensures ∙ sym c.bare-bare.ensures) c.in_ok-frames.ensures in
    let any : Query = asking c.bare-bare.result.now c.in_ok-cone.cone.live c.clause_span-span.result.cycles (Breaks c.args.clause.now) in
    subst (λ (d : Design). IsClosed c.in_ok-frames.frames (flat_map (clause_cycle coding d c.in_ok-cone.cone.live)
    (below c.clause_span-span.result.cycles))) (c.bare-bare.ensures ∙ sym c.in_ok-cone.ensures.design)
    (closed_from (definitions coding any []) c.in_ok-asked.asked c.in_ok-frames.frames (needed any c.args.clause.now refl refl refl))

pub push_asked-requires : goal.push_asked-requires
push_asked-requires c =
    let coding = c.in_ok-cone.cone.cells.now.list.coding in
    let needed = clause_needed coding c.tables-tables.result.now.coding c.bare-bare.result.now c.tables-tables.result.now.design
    c.clause_span-span.result.cycles c.in_ok-asked.asked c.in_ok-frames.frames
    (c.in_ok-cone.ensures.coding ∙ sym (ap (λ (t : CodedDesign). t.coding) c.tables-tables.ensures))
    (ap (λ (t : CodedDesign). t.design) c.tables-tables.ensures ∙ sym c.bare-bare.ensures) c.in_ok-frames.ensures in
    let any : Query = asking c.bare-bare.result.now c.in_ok-cone.cone.live c.clause_span-span.result.cycles (Breaks c.args.clause.now) in
    record {
      keys = asked_keys (definitions coding any []) c.in_ok-asked.asked c.in_ok-frames.frames
          (needed any c.args.clause.now refl refl refl);
    }

pub returns-clause-exact : goal.returns-clause-exact
returns-clause-exact c =
    let coding = c.in_ok-cone.cone.cells.now.list.coding in
    let needed = clause_needed coding c.tables-tables.result.now.coding c.bare-bare.result.now c.tables-tables.result.now.design
    c.clause_span-span.result.cycles c.in_ok-asked.asked c.in_ok-frames.frames
    (c.in_ok-cone.ensures.coding ∙ sym (ap (λ (t : CodedDesign). t.coding) c.tables-tables.ensures))
    (ap (λ (t : CodedDesign). t.design) c.tables-tables.ensures ∙ sym c.bare-bare.ensures) c.in_ok-frames.ensures in
    let d = c.bare-bare.result.now in
    let of : IsOf c.problem_of.result c.in_ok-frames.frames c.in_ok-cone.cone.live c.clause_span-span.result.cycles c.push_asked.new.clauses =
    record {
      frames = c.problem_of.ensures.frames;
      vars = c.problem_of.ensures.vars;
      clauses_are = c.problem_of.ensures.clauses;
      live_is = c.problem_of.ensures.live ∙ sym c.in_ok-cone.ensures.live;
      cycles_are = c.problem_of.ensures.cycles;
      few = c.problem_of.ensures.few;
    } in
    let is : IsMade coding (clause_query d c.args.inv.now c.args.clause.now c.args.phase c.args.depth) [] c.problem_of.result =
    clause_made coding d c.in_ok-cone.cone.design.now c.args.inv.now c.args.clause.now c.args.phase c.args.depth c.problem_of.result c.in_ok-frames.frames
    c.in_ok-asked.asked c.in_ok-cone.cone.live c.clause_span-span.result.cycles c.new-clauses.result c.list_clause_cycles.new.clauses
    c.push_asked.new.clauses of (c.in_ok-cone.ensures.design ∙ sym c.bare-bare.ensures) (c.in_ok-cone.ensures.live ∙ c.clause_span-span.ensures.live)
    c.clause_span-span.ensures.cycles needed c.in_ok-asked.ensures.asked c.new-clauses.ensures c.in_ok-list_clause_cycles.ensures
    c.in_ok-push_asked.ensures in
    subst (λ (k : Coding). IsProblemFor k (clause_query c.args.design.now.design c.args.inv.now c.args.clause.now c.args.phase c.args.depth)
    c.problem_of.result) c.in_ok-cone.ensures.coding
    (subst (λ (e : Design). IsProblemFor coding (clause_query e c.args.inv.now c.args.clause.now c.args.phase c.args.depth) c.problem_of.result)
    c.bare-bare.ensures (made_exact coding (clause_query d c.args.inv.now c.args.clause.now c.args.phase c.args.depth) [] c.problem_of.result is))

pub returns-clause-normal : goal.returns-clause-normal
returns-clause-normal c =
    let coding = c.in_ok-cone.cone.cells.now.list.coding in
    let needed = clause_needed coding c.tables-tables.result.now.coding c.bare-bare.result.now c.tables-tables.result.now.design
    c.clause_span-span.result.cycles c.in_ok-asked.asked c.in_ok-frames.frames
    (c.in_ok-cone.ensures.coding ∙ sym (ap (λ (t : CodedDesign). t.coding) c.tables-tables.ensures))
    (ap (λ (t : CodedDesign). t.design) c.tables-tables.ensures ∙ sym c.bare-bare.ensures) c.in_ok-frames.ensures in
    let d = c.bare-bare.result.now in
    let of : IsOf c.problem_of.result c.in_ok-frames.frames c.in_ok-cone.cone.live c.clause_span-span.result.cycles c.push_asked.new.clauses =
    record {
      frames = c.problem_of.ensures.frames;
      vars = c.problem_of.ensures.vars;
      clauses_are = c.problem_of.ensures.clauses;
      live_is = c.problem_of.ensures.live ∙ sym c.in_ok-cone.ensures.live;
      cycles_are = c.problem_of.ensures.cycles;
      few = c.problem_of.ensures.few;
    } in
    let is : IsMade coding (clause_query d c.args.inv.now c.args.clause.now c.args.phase c.args.depth) [] c.problem_of.result =
    clause_made coding d c.in_ok-cone.cone.design.now c.args.inv.now c.args.clause.now c.args.phase c.args.depth c.problem_of.result c.in_ok-frames.frames
    c.in_ok-asked.asked c.in_ok-cone.cone.live c.clause_span-span.result.cycles c.new-clauses.result c.list_clause_cycles.new.clauses
    c.push_asked.new.clauses of (c.in_ok-cone.ensures.design ∙ sym c.bare-bare.ensures) (c.in_ok-cone.ensures.live ∙ c.clause_span-span.ensures.live)
    c.clause_span-span.ensures.cycles needed c.in_ok-asked.ensures.asked c.new-clauses.ensures c.in_ok-list_clause_cycles.ensures
    c.in_ok-push_asked.ensures in
    made_normal coding (clause_query d c.args.inv.now c.args.clause.now c.args.phase c.args.depth) [] c.problem_of.result is

pub returns-clause-complete : goal.returns-clause-complete
returns-clause-complete c =
    let coding = c.in_ok-cone.cone.cells.now.list.coding in
    let needed = clause_needed coding c.tables-tables.result.now.coding c.bare-bare.result.now c.tables-tables.result.now.design
    c.clause_span-span.result.cycles c.in_ok-asked.asked c.in_ok-frames.frames
    (c.in_ok-cone.ensures.coding ∙ sym (ap (λ (t : CodedDesign). t.coding) c.tables-tables.ensures))
    (ap (λ (t : CodedDesign). t.design) c.tables-tables.ensures ∙ sym c.bare-bare.ensures) c.in_ok-frames.ensures in
    let d = c.bare-bare.result.now in
    let of : IsOf c.problem_of.result c.in_ok-frames.frames c.in_ok-cone.cone.live c.clause_span-span.result.cycles c.push_asked.new.clauses =
    record {
      frames = c.problem_of.ensures.frames;
      vars = c.problem_of.ensures.vars;
      clauses_are = c.problem_of.ensures.clauses;
      live_is = c.problem_of.ensures.live ∙ sym c.in_ok-cone.ensures.live;
      cycles_are = c.problem_of.ensures.cycles;
      few = c.problem_of.ensures.few;
    } in
    let is : IsMade coding (clause_query d c.args.inv.now c.args.clause.now c.args.phase c.args.depth) [] c.problem_of.result =
    clause_made coding d c.in_ok-cone.cone.design.now c.args.inv.now c.args.clause.now c.args.phase c.args.depth c.problem_of.result c.in_ok-frames.frames
    c.in_ok-asked.asked c.in_ok-cone.cone.live c.clause_span-span.result.cycles c.new-clauses.result c.list_clause_cycles.new.clauses
    c.push_asked.new.clauses of (c.in_ok-cone.ensures.design ∙ sym c.bare-bare.ensures) (c.in_ok-cone.ensures.live ∙ c.clause_span-span.ensures.live)
    c.clause_span-span.ensures.cycles needed c.in_ok-asked.ensures.asked c.new-clauses.ensures c.in_ok-list_clause_cycles.ensures
    c.in_ok-push_asked.ensures in
    subst (λ (e : Design). IsCompleteFor (clause_query e c.args.inv.now c.args.clause.now c.args.phase c.args.depth) c.problem_of.result) c.bare-bare.ensures
    (clause_complete coding d c.args.inv.now c.args.clause.now c.args.phase c.args.depth [] c.problem_of.result
    (subst IsSound (sym c.bare-bare.ensures) c.requires.sound) (subst (λ (e : Design). NamesRegs e c.args.clause.now) (sym c.bare-bare.ensures) c.requires.name)
    (subst (λ (e : Design). All (NamesRegs e) c.args.inv.now) (sym c.bare-bare.ensures) c.requires.names) is)
