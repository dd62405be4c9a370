-- Worked examples, computed.
use Rattle.std.proofs.Common.{◌≡◌, ℕ, zero, suc, ◌+◌, Bool, true, false, List, [], ◌∷◌, map, None, refl}
use Rattle.net_model.specs.Form.{PinForm, AndForm, OrForm, NotForm, value}
use Rattle.net_model.specs.declared.netlist.Design.{Design}
use Rattle.net_model.specs.declared.claims.Claim.{Claim}
use Rattle.sdcv_base.specs.declared.kinds.Kind.TheVariants.{False}
use Rattle.sdcv_base.specs.declared.kinds.Edge.TheVariants.{Any, Rise, Fall}
use Rattle.net_model.specs.declared.claims.Start.TheVariants.{Reg as RegStart}
use Rattle.net_model.specs.declared.claims.End.TheVariants.{Reg as RegEnd}
use Rattle.net_model.specs.declared.terns.Tern.{Tern}
use Rattle.net_model.specs.declared.terns.Tern.TheVariants.{Zero, One, Unknown}
use Rattle.net_model.specs.declared.queries.Phase.TheVariants.{Step}
use Rattle.query_model.specs.Keys.{key, lit}
use Rattle.query_model.specs.Tables.{constant_cubes}
use Rattle.net_model.specs.Queries.{claim_query}
use Rattle.query_model.specs.Defined.{prime_cubes, edge_definition}
use Rattle.query_model.specs.Formula.{definitions, asked_clauses, formula_over}
use Rattle.query_model.specs.declared.keys.Key.{Key}
use Rattle.query_model.specs.declared.keys.KeyLit.{KeyLit}
use Rattle.query_model.specs.declared.keys.Cube.{Cube}
use Rattle.query_model.specs.declared.keys.Coding.TheVariants.{Rows}

-- the number of a cube in base 3
abbrev pub digit : Tern → ℕ
digit Zero = 0
digit One = 1
digit Unknown = 2

abbrev pub number : List Tern → ℕ
number [] = 0
number (t ∷ ts) = digit t + Rattle.std.proofs.Common.◌*◌ 3 (number ts)

abbrev pub numbers : List Cube → List ℕ
numbers cubes = map (λ (c : Cube). number c.fixed) cubes

abbrev pub values : List Cube → List Bool
values cubes = map (λ (c : Cube). c.value) cubes

and_cell : (ℕ → Bool) → Bool
and_cell = value (AndForm (PinForm 0) (PinForm 1))

-- the cubes on which a conjunction of two places is constant
conjunction_cubes : numbers (constant_cubes (value (AndForm (PinForm 0) (PinForm 1))) 2) ≡ 0 ∷ 1 ∷ 2 ∷ 3 ∷ 4 ∷ 6 ∷ []
conjunction_cubes = refl

-- and the prime ones of them
conjunction_primes : numbers (prime_cubes (value (AndForm (PinForm 0) (PinForm 1))) 2) ≡ 2 ∷ 4 ∷ 6 ∷ []
conjunction_primes = refl

abbrev mux : (ℕ → Bool) → Bool
mux = value (OrForm (AndForm (PinForm 0) (NotForm (PinForm 2))) (AndForm (PinForm 1) (PinForm 2)))

-- the prime cubes of a multiplexer
multiplexer_primes : numbers (prime_cubes mux 3) ≡ 6 ∷ 7 ∷ 11 ∷ 14 ∷ 18 ∷ 22 ∷ []
multiplexer_primes = refl

multiplexer_values : values (prime_cubes mux 3) ≡ false ∷ true ∷ false ∷ true ∷ false ∷ true ∷ []
multiplexer_values = refl

-- two registers in a row, and the claim that the first is a false start of the second
abbrev design : Design
design =
    record {
      nets = 3;
      gates = [];
      regs =
          record { next = PinForm 0; clear = None; preset = None; both = false; ins = 0 ∷ []; outs = record { net = 1; inverted = false } ∷ [] }
          ∷ record { next = PinForm 0; clear = None; preset = None; both = false; ins = 1 ∷ []; outs = record { net = 2; inverted = false } ∷ [] } ∷ [];
      inputs = 0 ∷ [];
      outputs = [];
      fixed = [];
      resets = [];
      reset_len = 0;
    }

abbrev claim : Claim
claim = record { kind = False; edge = Any; lag = 0; hazard = false; early = false; start = RegStart 0; end = RegEnd 1; through = [] }

abbrev moved : List (List Bool)
moved = (false ∷ true ∷ false ∷ []) ∷ []

abbrev keys : List Key
keys = key 0 0 0 0 ∷ key 0 0 0 3 ∷ key 1 0 0 3 ∷ key 1 0 0 5 ∷ key 1 0 0 7 ∷ key 1 0 0 25 ∷ key 1 1 0 5 ∷ key 2 0 0 4 ∷ []

-- the literal of the i-th of these keys, from 1
abbrev of : Bool → List Key → ℕ → KeyLit
of positive ks i = lit positive (Rattle.std.specs.Prelude.slice_index_or ks (Rattle.std.specs.Prelude.pred i) (key 9 9 9 9))

abbrev p : ℕ → KeyLit
p i = of true keys i

abbrev n : ℕ → KeyLit
n i = of false keys i

-- the clauses of its step query at depth 0, before each is sorted
step_clauses : formula_over (definitions Rows (claim_query design claim Step 0 []) moved) (asked_clauses (claim_query design claim Step 0 [])) keys ≡
    (p 1 ∷ n 3 ∷ []) ∷ (n 1 ∷ p 3 ∷ []) ∷ (p 3 ∷ n 8 ∷ []) ∷ (n 3 ∷ p 8 ∷ []) ∷ (n 3 ∷ n 7 ∷ []) ∷ (p 3 ∷ p 7 ∷ []) ∷ (n 4 ∷ p 3 ∷ p 2 ∷ [])
    ∷ (n 4 ∷ n 3 ∷ n 2 ∷ []) ∷ (p 4 ∷ n 3 ∷ p 2 ∷ []) ∷ (p 4 ∷ p 3 ∷ n 2 ∷ []) ∷ (n 5 ∷ p 7 ∷ p 8 ∷ []) ∷ (n 5 ∷ n 7 ∷ n 8 ∷ [])
    ∷ (p 5 ∷ n 7 ∷ p 8 ∷ []) ∷ (p 5 ∷ p 7 ∷ n 8 ∷ []) ∷ (p 4 ∷ []) ∷ (p 6 ∷ []) ∷ (n 6 ∷ p 5 ∷ []) ∷ []
step_clauses = refl

-- those of a toggle that rises: it is there where the start is 1 and was 0
rising_clauses : (edge_definition Rise (key 1 0 0 5) (p 3) (p 2)).clauses ≡ (n 4 ∷ p 3 ∷ []) ∷ (n 4 ∷ n 2 ∷ []) ∷ (p 4 ∷ n 3 ∷ p 2 ∷ []) ∷ []
rising_clauses = refl

-- and of one that falls
falling_clauses : (edge_definition Fall (key 1 0 0 5) (p 3) (p 2)).clauses ≡ (n 4 ∷ n 3 ∷ []) ∷ (n 4 ∷ p 2 ∷ []) ∷ (p 4 ∷ p 3 ∷ n 2 ∷ []) ∷ []
falling_clauses = refl

-- the same claim's early side
abbrev early_claim : Claim
early_claim = record { kind = False; edge = Any; lag = 0; hazard = false; early = true; start = RegStart 0; end = RegEnd 1; through = [] }

-- the late capture is that of the cycle before the toggle, which register 1 shows in the toggle's own
abbrev early_keys : List Key
early_keys = key 0 0 0 0 ∷ key 0 0 0 3 ∷ key 0 0 0 7 ∷ key 0 1 0 5 ∷ key 1 0 0 3 ∷ key 1 0 0 4 ∷ key 1 0 0 5 ∷ key 1 0 0 25 ∷ []

abbrev yes : ℕ → KeyLit
yes i = of true early_keys i

abbrev no : ℕ → KeyLit
no i = of false early_keys i

-- the clauses of its step query at depth 0
early_clauses : formula_over (definitions Rows (claim_query design early_claim Step 0 []) moved) (asked_clauses (claim_query design early_claim Step 0 []))
    early_keys ≡ (yes 1 ∷ no 5 ∷ []) ∷ (no 1 ∷ yes 5 ∷ []) ∷ (yes 2 ∷ no 6 ∷ []) ∷ (no 2 ∷ yes 6 ∷ []) ∷ (no 2 ∷ no 4 ∷ []) ∷ (yes 2 ∷ yes 4 ∷ [])
    ∷ (no 3 ∷ yes 4 ∷ yes 6 ∷ []) ∷ (no 3 ∷ no 4 ∷ no 6 ∷ []) ∷ (yes 3 ∷ no 4 ∷ yes 6 ∷ []) ∷ (yes 3 ∷ yes 4 ∷ no 6 ∷ [])
    ∷ (no 7 ∷ yes 5 ∷ yes 2 ∷ []) ∷ (no 7 ∷ no 5 ∷ no 2 ∷ []) ∷ (yes 7 ∷ no 5 ∷ yes 2 ∷ []) ∷ (yes 7 ∷ yes 5 ∷ no 2 ∷ [])
    ∷ (yes 7 ∷ []) ∷ (yes 8 ∷ []) ∷ (no 8 ∷ yes 3 ∷ []) ∷ []
early_clauses = refl
