-- The models of a query's formula over keys, and over numbered variables.
use Rattle.std.proofs.Common.{◌≡◌, ℕ, ◌+◌, Bool, true, false, cond, List, [], ◌∷◌, ◌++◌, map, refl, ap, sym, ◌∙◌, inl, inr, subst}
use Rattle.std.specs.Prelude.{flat_map, ◌||◌}
use Rattle.std.specs.List.{list_any}
use Rattle.std.proofs.lemmas.Bool.{or_cases}
use Rattle.net_model.proofs.Members.{In, In-cases, from_flat, In-from_Contains, Contains-from_In}
use Rattle.net_model.specs.declared.netlist.Design.{Design}
use Rattle.net_model.specs.declared.cycles.Cycle.{Cycle}
use Rattle.query_model.specs.Keys.{key, lit_value, is_true, AllTrue}
use Rattle.net_model.specs.Queries.{Query}
use Rattle.query_model.specs.Reads.{bit_key}
use Rattle.query_model.specs.Defined.{Definition}
use Rattle.query_model.specs.Formula.{definitions, asked_clauses, same_key, has_key, listed, formula_over, Asked, Used, AreNeeded}
use Rattle.query_model.specs.Variables.{code_of, AllCodesTrue, by_number}
use Rattle.query_model.specs.Laws.{AgreesWith, ModelsAnswer, AnswersHaveModels, NumberedModelsAnswer, AnswersHaveNumberedModels}
use Rattle.query_model.proofs.Needs.{mentioned}
use Rattle.query_laws.proofs.Numbered.{coded_same, normals_true, true_normals, model_by_number}
use Rattle.query_model.proofs.Places.{same_key-true, by_key, by_key_number}
use Rattle.query_model.specs.declared.keys.Key.{Key}
use Rattle.query_model.specs.declared.keys.KeyLit.{KeyLit}
use Rattle.query_model.specs.declared.keys.Coding.{Coding}

some_where : {X : Type 0} (p : X → Bool) (xs : List X) → list_any p xs ≡ true → (x : X) × In x xs × (p x ≡ true)
some_where p [] e = absurd cc
some_where p (x ∷ xs) e =
    elim (or_cases (p x) (list_any p xs) e) [
      | inl here ↦ (x, inl refl, here)
      | inr later ↦ let rest = some_where p xs later in (rest.0, inr rest.1, rest.2)
    ]

has_key_in : (keys : List Key) (k : Key) → has_key keys k ≡ true → In k keys
has_key_in keys k e =
    let found = some_where (same_key k) keys e in
    subst (λ (j : Key). In j keys) (sym (same_key-true k found.0 found.2)) found.1

-- each key in a formula is in its list of keys
keys_listed : (defs : List Definition) (asked : List (List KeyLit)) (keys : List Key) (c : List KeyLit) (l : KeyLit) → AreNeeded defs asked keys
    → In c (formula_over defs asked keys) → In l c → In l.key keys
keys_listed defs asked keys c l needed in_formula in_c =
    In-from_Contains keys l.key (needed.all l.key
    (elim (In-cases c (flat_map (listed keys) defs) asked in_formula) [
      | inl defined ↦
          let of = from_flat (listed keys) c defs defined in
          let out = some_out of.0 (list_any (has_key keys) of.0.outs) refl of.2 in
          let is = needed.needed out.0 (Contains-from_In keys out.0 out.2) in
          Used of.0 out.0 l.key (Contains-from_In defs of.0 of.1) (Contains-from_In of.0.outs out.0 out.1.0) is (mentioned of.0.clauses c l out.1.1 in_c)
      | inr in_asked ↦ Asked l.key (mentioned asked c l in_asked in_c)
    ]))
  where
    some_out : (def : Definition) (b : Bool) → list_any (has_key keys) def.outs ≡ b → In c (cond b def.clauses []) → (out : Key)
        × (In out def.outs × In c def.clauses) × In out keys
    some_out def true e has = let found = some_where (has_key keys) def.outs e in (found.0, (found.1, has), has_key_in keys found.0 found.2)
    some_out def false e has = absurd has

same_values : (u w : Key → Bool) (c : List KeyLit) → ((l : KeyLit) → In l c → u l.key ≡ w l.key) → is_true u c ≡ is_true w c
same_values u w [] same = refl
same_values u w (l ∷ c) same =
    ap (λ (b : Bool). b || is_true u c) (by_sign l.positive) ∙ ap (λ (b : Bool). lit_value w l || b) (same_values u w c (λ m i. same m (inr i)))
  where
    by_sign : (b : Bool) → cond b (u l.key) (Rattle.std.proofs.Common.not (u l.key)) ≡ cond b (w l.key) (Rattle.std.proofs.Common.not (w l.key))
    by_sign true = same l (inl refl)
    by_sign false = ap Rattle.std.proofs.Common.not (same l (inl refl))

-- a model over keys is a model over variables
true_coded : (keys : List Key) (w : Key → Bool) (cs : List (List KeyLit)) → ((c : List KeyLit) (l : KeyLit) → In c cs → In l c → In l.key keys)
    → AllTrue w cs → AllCodesTrue (by_key keys w) (map (map (code_of keys)) cs)
true_coded keys w [] inside hold = tt
true_coded keys w (c ∷ cs) inside hold = (
  coded_same keys (by_key keys w) c ∙ (same_values (by_number keys (by_key keys w)) w c
      (λ l has. by_key_number keys w l.key (inside c l (inl refl) has)) ∙ hold.0),
  true_coded keys w cs (λ d l has. inside d l (inr has)) hold.1,
)

-- and agrees with the same runs
agrees_by_number : (d : Design) (keys : List Key) (w : Key → Bool) (run : List Cycle) → AgreesWith d keys w run
    → AgreesWith d keys (by_number keys (by_key keys w)) run
agrees_by_number d keys w run agrees =
    record {
      nets = λ t c n at low has. by_key_number keys w (key t 0 0 n) (In-from_Contains keys (key t 0 0 n) has) ∙ agrees.nets t c n at low has;
      bits = λ t c r at lt has. by_key_number keys w (bit_key d t r) (In-from_Contains keys (bit_key d t r) has) ∙ agrees.bits t c r at lt has;
      captures = λ t c r at lt has.
          by_key_number keys w (bit_key d (t + 1) r) (In-from_Contains keys (bit_key d (t + 1) r) has) ∙ agrees.captures t c r at lt has;
    }

-- each model of a problem answers its query
pub numbered_models : (coding : Coding) (q : Query) → ModelsAnswer coding q → NumberedModelsAnswer coding q
numbered_models coding q law keys vars clauses v run problem hold are free =
    law keys problem.over_keys (by_number keys v) run problem.formula
    (model_by_number keys v problem.over_keys (normals_true v (map (map (code_of keys)) problem.over_keys) clauses problem.clauses_are hold)) are free

-- and each answer gives a model of the problem
pub numbered_answers : (coding : Coding) (q : Query) → AnswersHaveModels coding q → AnswersHaveNumberedModels coding q
numbered_answers coding q law keys vars clauses run problem answer =
    let found = law keys problem.over_keys run problem.formula answer in
    let f = problem.formula in (
      by_key keys found.0,
      true_normals (by_key keys found.0) (map (map (code_of keys)) problem.over_keys) clauses problem.clauses_are
          (true_coded keys found.0 problem.over_keys
          (λ c l has. keys_listed (definitions coding q f.moved) (asked_clauses q) keys c l f.are_needed (subst (In c) f.are_clauses has)) found.1),
      agrees_by_number q.design keys found.0 run found.2,
    )
