-- The rails of an output and the ternary value of its function, both ways.
use Rattle.std.proofs.Common.{◌≡◌, ℕ, ◌≤◌, Bool, true, false, not, List, length, refl, sym, subst}
use Rattle.std.specs.Prelude.{slice_index_or}
use Rattle.net_model.specs.Ternary.{Completes, tern_of}
use Rattle.net_model.specs.Splitting.{cell_value}
use Rattle.net_model.specs.Completions.{ReadsOnly}
use Rattle.net_model.specs.declared.terns.Tern.{Tern}
use Rattle.net_model.specs.declared.terns.Tern.TheVariants.{Zero, One, Unknown}
use Rattle.net_model.proofs.Members.{In}
use Rattle.query_model.specs.Keys.{lit_value, AllTrue}
use Rattle.query_model.specs.Tables.{on_list, may_be, hazard_clauses}
use Rattle.query_model.proofs.Tabled.{Inside, Covers}
use Rattle.query_model.proofs.Runs.{AnyKey}
use Rattle.query_model.specs.Laws.{may_one, may_zero}
use Rattle.query_model.proofs.Hazard.{RailsTell, Settles, hazard_may, hazard_must}
use Rattle.query_model.proofs.Codings.{constant_right, constant_value}
use Rattle.query_laws.proofs.Rails.{some_bits, hazard_true}
use Rattle.query_model.specs.declared.keys.Key.{Key}
use Rattle.query_model.specs.declared.keys.KeyLit.{KeyLit}
use Rattle.query_model.specs.declared.keys.Cube.{Cube}

-- the two rails of a place tell its ternary value
abbrev pub RailTells : (Key → Type 0) → (Key → Bool) → KeyLit → KeyLit → Tern → Type 0
RailTells kind v high low x = (kind high.key → lit_value v high ≡ may_one x) × (kind low.key → lit_value v low ≡ may_zero x)

-- the rails have the values of that
abbrev pub AreRails : (Key → Bool) → KeyLit → KeyLit → Tern → Type 0
AreRails v high low x = (lit_value v high ≡ may_one x) × (lit_value v low ≡ may_zero x)

-- a cell's ternary value on the list of its places' values
abbrev pub on_terns : ((ℕ → Bool) → Bool) → List Tern → Tern
on_terns cell ts = cell_value cell (λ i. slice_index_or ts i Zero)

-- the clauses of a function's output give its rails
pub rails_give : (kind : Key → Type 0) (v : Key → Bool) (cell : (ℕ → Bool) → Bool) (hs ls : List KeyLit) (high low : KeyLit) (rows cubes : List Cube)
    (ts : List Tern) → length ts ≤ 7 → ReadsOnly 7 cell → Covers cell (length ts) rows → Settles cell (length ts) cubes → RailsTell kind v hs ls ts
    → AllTrue v (hazard_clauses hs ls high low rows cubes) → ((c : List KeyLit) (l : KeyLit) → In c (hazard_clauses hs ls high low rows cubes)
    → In l c → kind l.key) → AreRails v high low (on_terns cell ts)
rails_give kind v cell hs ls high low rows cubes ts few only covers settles tell all has = by_value (on_terns cell ts) refl
  where
    may : (b : Bool) (x : Tern) → on_terns cell ts ≡ x → Completes x b → lit_value v (may_be b high low) ≡ true
    may b x e fits =
        let some = some_bits cell ts b few only (subst (λ (y : Tern). Completes y b) (sym e) fits) in
        subst (λ (y : Bool). lit_value v (may_be y high low) ≡ true) some.2
        (hazard_may kind v cell hs ls high low rows cubes ts some.0 covers tell all has some.1)

    must : (b : Bool) → on_terns cell ts ≡ tern_of b → lit_value v (may_be (not b) high low) ≡ false
    must b e = hazard_must kind v cell hs ls high low rows cubes ts b settles tell all has (λ bits inside. constant_right cell ts b bits only e inside)

    by_value : (x : Tern) → on_terns cell ts ≡ x → AreRails v high low x
    by_value Zero e = (must false e, may false Zero e refl)
    by_value One e = (may true One e refl, must true e)
    by_value Unknown e = (may true Unknown e tt, may false Unknown e tt)

-- a bit that completes a value may be
may_be_completed : (x : Tern) (b : Bool) (v : Key → Bool) (high low : KeyLit) → AreRails v high low x → Completes x b → lit_value v (may_be b high low) ≡ true
may_be_completed Zero false v high low rails fits = rails.1
may_be_completed Zero true v high low rails fits = absurd cc
may_be_completed One true v high low rails fits = rails.0
may_be_completed One false v high low rails fits = absurd cc
may_be_completed Unknown true v high low rails fits = rails.0
may_be_completed Unknown false v high low rails fits = rails.1

-- the other bit of a known value may not be
may_not : (x : Tern) (b : Bool) (v : Key → Bool) (high low : KeyLit) → AreRails v high low x → x ≡ tern_of b → lit_value v (may_be (not b) high low) ≡ false
may_not x false v high low rails e = subst (λ (y : Tern). lit_value v high ≡ may_one y) e rails.0
may_not x true v high low rails e = subst (λ (y : Tern). lit_value v low ≡ may_zero y) e rails.1

-- the value on bits in the list completes the cell's value
completed : (cell : (ℕ → Bool) → Bool) (ts : List Tern) (bits : List Bool) (x : Tern) → ReadsOnly 7 cell → on_terns cell ts ≡ x → Inside bits ts
    → Completes x (on_list cell bits)
completed cell ts bits Zero only e inside = constant_right cell ts false bits only e inside
completed cell ts bits One only e inside = constant_right cell ts true bits only e inside
completed cell ts bits Unknown only e inside = tt

-- rails that have the values make the clauses true
pub rails_true : (v : Key → Bool) (cell : (ℕ → Bool) → Bool) (hs ls : List KeyLit) (high low : KeyLit) (rows cubes : List Cube) (ts : List Tern)
    → length ts ≤ 7 → ReadsOnly 7 cell → Covers cell (length ts) rows → Settles cell (length ts) cubes → RailsTell AnyKey v hs ls ts
    → AreRails v high low (on_terns cell ts) → AllTrue v (hazard_clauses hs ls high low rows cubes)
rails_true v cell hs ls high low rows cubes ts few only covers settles tell rails =
    hazard_true v cell hs ls high low rows cubes ts covers settles tell
    (λ bits inside. may_be_completed (on_terns cell ts) (on_list cell bits) v high low rails (completed cell ts bits (on_terns cell ts) only refl inside))
    (λ b all. may_not (on_terns cell ts) b v high low rails
    (constant_value cell ts b few only all))
