-- Cubes in the order of a list: how many places they have, which keys stand in their clauses, and one cube more.
use Rattle.std.proofs.Common.{◌≡◌, ℕ, ◌+◌, ◌<◌, true, List, [], ◌∷◌, ◌++◌, map, length, get_or, take, ap}
use Rattle.std.proofs.Common.{sym, ◌∙◌, subst, not, arith}
use Rattle.std.specs.Prelude.{All, Contains}
use Rattle.std.proofs.lemmas.List.{length-map, get_or-map, map_more}
use Rattle.query_model.specs.Keys.{lit, flipped}
use Rattle.query_model.specs.Variables.{code_of}
use Rattle.query_model.specs.Tables.{outside, cube_clause}
use Rattle.query_model.specs.declared.keys.Key.{Key}
use Rattle.query_model.specs.declared.keys.KeyLit.{KeyLit}
use Rattle.query_model.specs.declared.keys.Cube.{Cube}
use Rattle.cnf_encode.specs.CellLists.{AreWide}
use Rattle.cnf_encode.specs.Coded.{HasKey, HasKeys, Adds, AddsNormals}
use Rattle.cnf_encode.proofs.Normals.{Adds-append}
use Rattle.cnf_encode.proofs.Tabled.{last_key, flipped_key}

-- each cube has all places
pub cube_places : (places : ℕ) (cubes : List Cube) (i : ℕ) (cube : Cube) → AreWide places cubes → i < length cubes → cube ≡ get_or cubes i cube
    → length cube.fixed ≡ places
cube_places places cubes i cube wide lt at = ap (λ (c : Cube). length c.fixed) at ∙ wide i cube lt

-- the keys of a cube's clause
pub cube_keys : (keys : List Key) (clause : Cube → List KeyLit) (cubes : List Cube) (i : ℕ) (cube : Cube) → i < length cubes
    → cube ≡ get_or cubes i cube → HasKeys keys (map clause cubes) → All (HasKey keys) (clause cube)
cube_keys keys clause cubes i cube lt at has =
    let inside : i < length (map clause cubes) = omega (arith, length-map cubes clause) in
    subst (All (HasKey keys)) (get_or-map clause cubes i cube [] lt ∙ ap clause (sym at)) (has i [] inside)

-- that of the key which is defined
pub plain_out : (keys : List Key) (reads : List KeyLit) (out : Key) (cubes : List Cube) (i : ℕ) (cube : Cube) → i < length cubes
    → cube ≡ get_or cubes i cube → HasKeys keys (map (cube_clause reads (lit true out)) cubes) → Contains keys out
plain_out keys reads out cubes i cube lt at has =
    flipped_key keys (not cube.value) (lit true out)
    (last_key keys (outside reads cube.fixed) (flipped (not cube.value) (lit true out))
    (cube_keys keys (cube_clause reads (lit true out)) cubes i cube lt at has))

-- one cube more
pub cubes_more : (keys : List Key) (clause : Cube → List KeyLit) (cubes : List Cube) (i : ℕ) (cube : Cube) (codes : List ℕ)
    (old mid new : List (List ℕ)) → i < length cubes → cube ≡ get_or cubes i cube → Adds keys (map clause (take i cubes)) old mid
    → codes ≡ map (code_of keys) (clause cube) → AddsNormals (codes ∷ []) mid new → Adds keys (map clause (take (i + 1) cubes)) old new
cubes_more keys clause cubes i cube codes old mid new lt at before is adds =
    let more : map clause (take (i + 1) cubes) ≡ map clause (take i cubes) ++ clause cube ∷ [] =
    map_more clause cubes i cube lt ∙ ap (λ (x : Cube). map clause (take i cubes) ++ clause x ∷ []) (sym at) in
    subst (λ cs. Adds keys cs old new) (sym more)
    (Adds-append keys (map clause (take i cubes)) (clause cube ∷ []) old mid new before (subst (λ (c : List ℕ). AddsNormals (c ∷ []) mid new) is adds))
