use Rattle.std.proofs.Common.{◌≡◌, List, [], ◌∷◌, ◌++◌, true, map, length, ap, sym, ◌∙◌, subst, arith}
use Rattle.std.proofs.lemmas.List.{length-map, take_all}
use Rattle.proof_log.specs.Literals.{negated}
use Rattle.query_model.specs.Keys.{lit}
use Rattle.query_model.specs.Tables.{may_be, barred}
use Rattle.query_model.specs.Variables.{code_of}
use Rattle.query_model.specs.declared.keys.KeyLit.{KeyLit}
use Rattle.query_model.specs.declared.keys.Cube.{Cube}
use Rattle.net_model.specs.declared.terns.Tern.{Tern}
use Rattle.cnf_encode.specs.Chosen.{chosen}
use Rattle.cnf_encode.specs.Coded.{Adds}
use Rattle.cnf_encode.specs.Railed.{may_be_so}
use Rattle.cnf_encode.proofs.Tabled.{length-AreCodes, last_key, rail_code, may_codes}
use Rattle.cnf_encode.proofs.Cubed.{cube_places, cube_keys, cubes_more}
use Rattle.cnf_encode.proofs.tables.push_may.Goals as goal

pub push_cube-requires : goal.push_cube-requires
push_cube-requires c =
    let keys = c.args.frames.now in
    let codes = c.requires.codes in
    let zeros = ap length (c.as_slice-in-loop-cube.ensures ∙ c.in_ok-zeros.ensures) ∙ length-map c.as_slice.result.now negated
    ∙ ap length c.as_slice.ensures ∙ length-AreCodes keys c.args.rails.now.lows.now c.args.codes.now.lows.items codes.lows in
    let ones = ap length (c.as_slice-in-loop-cube-2.ensures ∙ c.in_ok-ones.ensures) ∙ length-map c.as_slice-2.result.now negated
    ∙ ap length c.as_slice-2.ensures ∙ length-AreCodes keys c.args.rails.now.highs.now c.args.codes.now.highs.items codes.highs in
    let places = cube_places (length c.args.rails.now.highs.now) c.args.cubes.now c.loop-cube.cube-index c.cube-item.result c.requires.wide
    c.loop-cube-test.true c.cube-item.is in
    record {
      ones = ones ∙ sym c.requires.long ∙ sym zeros;
      fixed = ap length c.as_slice-in-loop-cube-3.ensures ∙ places ∙ sym c.requires.long ∙ sym zeros;
    }

pub loop-cube-preserved : goal.loop-cube-preserved
loop-cube-preserved c =
    let keys = c.args.frames.now in
    let codes = c.requires.codes in
    let hs : List KeyLit = c.args.rails.now.highs.now in
    let ls : List KeyLit = c.args.rails.now.lows.now in
    let high : KeyLit = lit true c.args.rails.now.high in
    let low : KeyLit = lit true c.args.rails.now.low in
    let cube : Cube = c.cube-item.result in
    let has = cube_keys keys (may_be_so c.args.rails.now) c.args.cubes.now c.loop-cube.cube-index cube c.loop-cube-test.true c.cube-item.is c.requires.keys in
    let zeros : c.as_slice-in-loop-cube.result.now ≡ map negated c.args.codes.now.lows.items =
    c.as_slice-in-loop-cube.ensures ∙ c.in_ok-zeros.ensures ∙ ap (map negated) c.as_slice.ensures in
    let ones : c.as_slice-in-loop-cube-2.result.now ≡ map negated c.args.codes.now.highs.items =
    c.as_slice-in-loop-cube-2.ensures ∙ c.in_ok-ones.ensures ∙ ap (map negated) c.as_slice-2.ensures in
    let last : c.rail_of-may.result ≡ code_of keys (may_be cube.value high low) =
    c.rail_of-may.ensures ∙ rail_code keys high low c.args.codes.now.high c.args.codes.now.low cube.value codes.high codes.low
    (last_key keys (barred hs ls cube.fixed) (may_be cube.value high low) has) in
    cubes_more keys (may_be_so c.args.rails.now) c.args.cubes.now c.loop-cube.cube-index cube _ c.args.clauses.now c.loop-cube.clauses c.push_cube.new.clauses
    c.loop-cube-test.true c.cube-item.is c.loop-cube.invariant
    (ap (λ (ts : List Tern). chosen c.as_slice-in-loop-cube.result.now c.as_slice-in-loop-cube-2.result.now ts ++ c.rail_of-may.result ∷ [])
    c.as_slice-in-loop-cube-3.ensures
    ∙ may_codes keys hs ls high low cube c.args.codes.now.highs.items c.args.codes.now.lows.items c.as_slice-in-loop-cube.result.now
    c.as_slice-in-loop-cube-2.result.now c.rail_of-may.result codes.highs codes.lows zeros ones last has)
    c.in_ok-push_cube.ensures

pub returns : goal.returns
returns c =
    let all = take_all c.loop-cube.cube-index c.args.cubes.now (omega arith) in
    subst (λ (cs : List Cube). Adds c.args.frames.now (map (may_be_so c.args.rails.now) cs) c.args.clauses.now c.loop-cube.clauses) all c.loop-cube.invariant
