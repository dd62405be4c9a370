use Rattle.std.proofs.Common.{◌≡◌, List, [], ◌∷◌, ◌++◌, true, map, length, ap, sym, ◌∙◌, subst, arith}
use Rattle.std.proofs.lemmas.List.{length-map, take_all}
use Rattle.proof_log.specs.Literals.{negated}
use Rattle.query_model.specs.Keys.{lit}
use Rattle.query_model.specs.Tables.{cube_clause}
use Rattle.query_model.specs.Variables.{code_of}
use Rattle.query_model.specs.declared.keys.KeyLit.{KeyLit}
use Rattle.query_model.specs.declared.keys.Cube.{Cube}
use Rattle.net_model.specs.declared.terns.Tern.{Tern}
use Rattle.cnf_encode.specs.Chosen.{chosen}
use Rattle.cnf_encode.specs.Coded.{IsCode, AreCodes, Adds}
use Rattle.cnf_encode.proofs.Tabled.{length-AreCodes, signed_code, cube_codes}
use Rattle.cnf_encode.proofs.Cubed.{cube_places, cube_keys, plain_out, cubes_more}
use Rattle.cnf_encode.proofs.tables.push_plain.Goals as goal

pub push_cube-requires : goal.push_cube-requires
push_cube-requires c =
    let zeros = ap length (c.as_slice-in-loop-cube.ensures)
    ∙ length-AreCodes c.args.frames.now c.as_slice.result.now c.in_ok-zeros.zeros.items c.in_ok-zeros.ensures ∙ ap length c.as_slice.ensures in
    let ones = ap length (c.as_slice-in-loop-cube-2.ensures ∙ c.in_ok-ones.ensures) ∙ length-map c.as_slice-2.result.now negated
    ∙ ap length (c.as_slice-2.ensures ∙ sym c.as_slice-in-loop-cube.ensures) in
    let places = cube_places (length c.args.reads.now) c.args.cubes.now c.loop-cube.cube-index c.cube-item.result c.requires.wide c.loop-cube-test.true
    c.cube-item.is in
    record { ones = ones; fixed = ap length c.as_slice-in-loop-cube-3.ensures ∙ places ∙ sym zeros }

pub loop-cube-preserved : goal.loop-cube-preserved
loop-cube-preserved c =
    let keys = c.args.frames.now in
    let reads : List KeyLit = c.args.reads.now in
    let cube : Cube = c.cube-item.result in
    let zeros : AreCodes keys reads c.as_slice-in-loop-cube.result.now =
    subst (AreCodes keys reads) (sym c.as_slice-in-loop-cube.ensures)
    (subst (λ (ls : List KeyLit). AreCodes keys ls c.in_ok-zeros.zeros.items) c.as_slice.ensures c.in_ok-zeros.ensures) in
    let ones : c.as_slice-in-loop-cube-2.result.now ≡ map negated c.as_slice-in-loop-cube.result.now =
    c.as_slice-in-loop-cube-2.ensures ∙ c.in_ok-ones.ensures ∙ ap (map negated) (c.as_slice-2.ensures ∙ sym c.as_slice-in-loop-cube.ensures) in
    let is : IsCode keys (lit true c.args.out) c.known_code-defined.result =
    subst (λ (l : KeyLit). IsCode keys l c.known_code-defined.result) c.lit.ensures c.known_code-defined.ensures in
    let out = plain_out keys reads c.args.out c.args.cubes.now c.loop-cube.cube-index cube c.loop-cube-test.true c.cube-item.is c.requires.keys in
    let last : c.signed-value.result ≡ code_of keys (lit cube.value c.args.out) =
    c.signed-value.ensures ∙ signed_code keys c.args.out c.known_code-defined.result cube.value is out in
    let has = cube_keys keys (cube_clause reads (lit true c.args.out)) c.args.cubes.now c.loop-cube.cube-index cube c.loop-cube-test.true c.cube-item.is
    c.requires.keys in
    cubes_more keys (cube_clause reads (lit true c.args.out)) c.args.cubes.now c.loop-cube.cube-index cube _ c.args.clauses.now
    c.loop-cube.clauses c.push_cube.new.clauses c.loop-cube-test.true c.cube-item.is c.loop-cube.invariant
    (ap (λ (ts : List Tern). chosen c.as_slice-in-loop-cube.result.now c.as_slice-in-loop-cube-2.result.now ts ++ c.signed-value.result ∷ [])
    c.as_slice-in-loop-cube-3.ensures
    ∙ cube_codes keys reads c.args.out cube c.as_slice-in-loop-cube.result.now c.as_slice-in-loop-cube-2.result.now c.signed-value.result zeros ones last has)
    c.in_ok-push_cube.ensures

pub returns : goal.returns
returns c =
    let all = take_all c.loop-cube.cube-index c.args.cubes.now (omega arith) in
    subst (λ (cs : List Cube). Adds c.args.frames.now (map (cube_clause c.args.reads.now (lit true c.args.out)) cs) c.args.clauses.now c.loop-cube.clauses) all
    c.loop-cube.invariant
