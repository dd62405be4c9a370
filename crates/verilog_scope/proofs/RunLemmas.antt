-- The nets of names are nets of the module, and no net is a bit of two names.
use Rattle.std.proofs.Common.{arith, ◌≡◌, ℕ, ◌+◌, ◌≤◌, ◌<◌, Bool, true, false, List, length, get_or, if◌then◌else◌, Option, Some, None}
use Rattle.std.proofs.Common.{refl, ap, subst, inl, inr, ◌⊎◌, ◌≢◌}
use Rattle.std.proofs.lemmas.Bool.{cases_lt}
use Rattle.std.proofs.lemmas.List.{get_or_past}
use Rattle.std.proofs.lemmas.Option.{slice_get_within}
use Rattle.texts.specs.Names.{is_among, place_of, each_once}
use Rattle.texts.proofs.NameLemmas.{slice_get-place_of}
use Rattle.verilog_syntax.specs.declared.declarations.Select.{Select}
use Rattle.verilog_syntax.specs.declared.declarations.ModuleDecl.{ModuleDecl}
use Rattle.verilog_scope.specs.declared.ranges.Run.{Run}
use Rattle.verilog_scope.specs.declared.scopes.Scope.{Scope}
use Rattle.verilog_scope.specs.Standing.{implied}
use Rattle.verilog_scope.specs.Ranges.{selected}
use Rattle.verilog_scope.specs.Decls.{blank}
use Rattle.verilog_scope.specs.Scopes.{bases_from, net_names, is_known, decl_of, base_of, all_bits, as_nets, run_of}
use Rattle.verilog_scope.proofs.BaseLemmas.{bases_apart}
use Rattle.verilog_scope.proofs.CountLemmas.{last_from, bases_within, nets_length}
use Rattle.verilog_scope.proofs.RangeLemmas.{selected_within}
use Rattle.verilog_scope.proofs.ScopeLemmas.{IsScope}
use Rattle.verilog_scope.proofs.StandLemmas.{standing_implied}
use Rattle.verilog_scope.proofs.ImpliedLemmas.{among_fewer}

-- a name has a place
abbrev pub HasPlace : Scope → List ℕ → Type 0
HasPlace s n = place_of n s.names < length s.decls

module _ (m : ModuleDecl) (s : Scope) (made : IsScope m s) where
  counted : length (net_names s) ≡ last_from 0 s.decls
  counted =
      let same = made.counted in
      let count = nets_length s.decls 0 0 s.names (omega arith) in
      omega arith

  -- a name among those of the module has a place
  pub place_among : (n : List ℕ) → is_among n s.names ≡ true → HasPlace s n
  place_among n e = let within = slice_get_within s.names (place_of n s.names) n (slice_get-place_of n s.names e) in omega (arith, made.counted)

  -- all nets of such a name are nets of the module
  pub bits_below : (n : List ℕ) → HasPlace s n → (all_bits s n).first + (all_bits s n).count ≤ length (net_names s)
  bits_below n place =
      let within = bases_within 0 s.decls (place_of n s.names) place in
      let same : base_of s n ≡ get_or (bases_from 0 s.decls) (place_of n s.names) 0 = ap (λ (bs : List ℕ). get_or bs (place_of n s.names) 0) made.bases in
      omega (arith, counted)

  -- the nets of two names with different places are apart
  pub bits_apart : (n k : List ℕ) → HasPlace s n → HasPlace s k → place_of n s.names ≢ place_of k s.names
      → ((all_bits s n).first + (all_bits s n).count ≤ (all_bits s k).first) ⊎ ((all_bits s k).first + (all_bits s k).count ≤ (all_bits s n).first)
  bits_apart n k first second differ =
      let i = place_of n s.names in
      let j = place_of k s.names in
      let here : base_of s n ≡ get_or (bases_from 0 s.decls) i 0 = ap (λ (bs : List ℕ). get_or bs i 0) made.bases in
      let there : base_of s k ≡ get_or (bases_from 0 s.decls) j 0 = ap (λ (bs : List ℕ). get_or bs j 0) made.bases in
      elim (cases_lt i j) [
        | inl less ↦ let apart = bases_apart 0 s.decls i j less second in inl (omega arith)
        | inr upto ↦ elim (cases_lt j i) [
          | inl less ↦ let apart = bases_apart 0 s.decls j i less first in inr (omega arith)
          | inr same ↦ absurd (differ (omega arith))
        ]
      ]

  past : (n : List ℕ) → length s.decls ≤ place_of n s.names → decl_of s n ≡ blank
  past n e = get_or_past s.decls (place_of n s.names) blank e

  known_cases : (n : List ℕ) (b : Bool) → is_among n s.names ≡ b → is_known s n ≡ true → HasPlace s n
  known_cases n true among e = place_among n among
  known_cases n false among e = elim (cases_lt (place_of n s.names) (length s.decls)) [
    | inl less ↦ less
    | inr upto ↦
        let none : is_among n s.implied ≡ true = rw (past n upto) at e in
        let here : is_among n s.names ≡ true = rw made.names (standing_implied n m (among_fewer n _ (each_once (implied m)) (rw made.known at none))) in
        absurd cc
  ]

  -- a name that is known has a place
  pub known_place : (n : List ℕ) → is_known s n ≡ true → HasPlace s n
  known_place n e = known_cases n (is_among n s.names) refl e

  as_nets_below : (n : List ℕ) (bits : Option Run) (run : Run) → HasPlace s n
      → ((b : Run) → bits ≡ Some b → b.first + b.count ≤ (all_bits s n).count) → as_nets s n bits ≡ Some run → run.first + run.count ≤ length (net_names s)
  as_nets_below n None run place within e = absurd cc
  as_nets_below n (Some b) run place within e =
      let shifted : Run = record { first = base_of s n + b.first; count = b.count } in
      let same : shifted ≡ run = cc in
      let in_name = within b refl in
      let in_module = bits_below n place in
      subst (λ (r : Run). r.first + r.count ≤ length (net_names s)) same (omega arith)

  run_cases : (n : List ℕ) (select : Select) (run : Run) (b : Bool) → is_known s n ≡ b
      → (if b then as_nets s n (selected (decl_of s n).range select) else None) ≡ Some run → run.first + run.count ≤ length (net_names s)
  run_cases n select run true known e =
      as_nets_below n (selected (decl_of s n).range select) run (known_place n known) (λ b is. selected_within (decl_of s n).range select b is) e
  run_cases n select run false known e = absurd cc

  -- the nets of a selection are nets of the module
  pub run_below : (n : List ℕ) (select : Select) (run : Run) → run_of s n select ≡ Some run → run.first + run.count ≤ length (net_names s)
  unfolding run_of
  run_below n select run e = run_cases n select run (is_known s n) refl e
