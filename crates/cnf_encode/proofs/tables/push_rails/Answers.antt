use Rattle.std.proofs.Common.{List, map, length, sym, subst}
use Rattle.std.proofs.lemmas.Result.{on_ok_weaker}
use Rattle.query_model.specs.declared.keys.Cube.{Cube}
use Rattle.cnf_encode.specs.CellLists.{AreWide}
use Rattle.cnf_encode.specs.Coded.{HasKeys, Adds}
use Rattle.cnf_encode.specs.Railed.{may_be_so, must_be_so}
use Rattle.cnf_encode.proofs.Keyed.{HasKeys-left, HasKeys-right}
use Rattle.cnf_encode.proofs.Normals.{Adds-append}
use Rattle.cnf_encode.proofs.tables.push_rails.Goals as goal

pub push_may-requires : goal.push_may-requires
push_may-requires c =
    let rails = c.args.rails.now in
    let may = map (may_be_so rails) c.args.cell.now.covering in
    let must = map (must_be_so rails) c.args.cell.now.settling in
    record {
      long = c.requires.long;
      codes = c.in_ok-codes.ensures;
      wide = subst (AreWide (length rails.highs.now)) (sym c.covering.ensures) c.requires.covering;
      keys =
          subst (λ (cs : List Cube). HasKeys c.args.frames.now (map (may_be_so rails) cs)) (sym c.covering.ensures)
          (HasKeys-left c.args.frames.now may must c.requires.keys);
    }

pub push_must-requires : goal.push_must-requires
push_must-requires c =
    let rails = c.args.rails.now in
    let may = map (may_be_so rails) c.args.cell.now.covering in
    let must = map (must_be_so rails) c.args.cell.now.settling in
    record {
      long = c.requires.long;
      codes = c.in_ok-codes.ensures;
      wide = subst (AreWide (length rails.highs.now)) (sym c.settling.ensures) c.requires.settling;
      keys =
          subst (λ (cs : List Cube). HasKeys c.args.frames.now (map (must_be_so rails) cs)) (sym c.settling.ensures)
          (HasKeys-right c.args.frames.now may must c.requires.keys);
    }

pub returns : goal.returns
returns c =
    let keys = c.args.frames.now in
    let rails = c.args.rails.now in
    let may = map (may_be_so rails) c.args.cell.now.covering in
    let must = map (must_be_so rails) c.args.cell.now.settling in
    let first : Adds keys may c.args.clauses.now c.push_may.new.clauses =
    subst (λ (cs : List Cube). Adds keys (map (may_be_so rails) cs) c.args.clauses.now c.push_may.new.clauses) c.covering.ensures c.in_ok-push_may.ensures in
    on_ok_weaker c.push_must.result
    (λ then'. Adds-append keys may must c.args.clauses.now c.push_may.new.clauses c.push_must.new.clauses first
    (subst (λ (cs : List Cube). Adds keys (map (must_be_so rails) cs) c.push_may.new.clauses c.push_must.new.clauses) c.settling.ensures then'))
    c.push_must.ensures
