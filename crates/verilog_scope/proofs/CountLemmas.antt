-- How many nets a module has.
use Rattle.std.proofs.Common.{arith, ◌≡◌, ℕ, zero, suc, ◌+◌, ◌≤◌, ◌<◌, List, [], ◌∷◌, length, drop, get_or, Option, Some, None, refl, sym}
use Rattle.std.proofs.Common.{length-append}
use Rattle.std.proofs.lemmas.List.{drop_all, get_or_default}
use Rattle.std.proofs.lemmas.List.FromFn.{length-map-range_with_len}
use Rattle.texts.proofs.ReadLemmas.{split_at}
use Rattle.verilog_syntax.specs.declared.declarations.Range.{Range}
use Rattle.verilog_scope.specs.declared.decls.Decl.{Decl}
use Rattle.verilog_scope.specs.Ranges.{width}
use Rattle.verilog_scope.specs.Decls.{blank}
use Rattle.verilog_scope.specs.Scopes.{bases_from, nets_from, bit_names, bit_name, index_at}
use Rattle.verilog_scope.proofs.NetLemmas.{nets_more, nets_none}

-- the number after the last net of these names, from n on
unfoldable pub last_from : ℕ → List Decl → ℕ
last_from n [] = n
last_from n (d ∷ ds) = last_from (n + width d.range) ds

at_least : (n : ℕ) (ds : List Decl) → n ≤ last_from n ds
unfolding last_from
at_least n [] = omega arith
at_least n (d ∷ ds) = let rest = at_least (n + width d.range) ds in omega arith

-- each name's nets end before the last
pub bases_within : (n : ℕ) (ds : List Decl) (k : ℕ) → k < length ds → get_or (bases_from n ds) k 0 + width (get_or ds k blank).range ≤ last_from n ds
unfolding bases_from last_from
bases_within n [] k below = absurd (omega arith)
bases_within n (d ∷ ds) zero below = at_least (n + width d.range) ds
bases_within n (d ∷ ds) (suc k) below = bases_within (n + width d.range) ds k (omega arith)

-- a name has as many nets as bits
pub length-bit_names : (x : List ℕ) (range : Option Range) → length (bit_names x range) ≡ width range
length-bit_names x None = refl
length-bit_names x (Some r) = length-map-range_with_len (λ (i : ℕ). bit_name x (index_at r i)) 0 (width (Some r))

-- the nets from one place on
pub nets_length : (ds : List Decl) (n place : ℕ) (ns : List (List ℕ)) → place + length ns ≡ length ds
    → n + length (nets_from ds place ns) ≡ last_from n (drop place ds)
unfolding last_from
nets_length ds n place [] same = rw (nets_none ds place, drop_all place ds (omega arith)) (omega arith)
nets_length ds n place (x ∷ ns) same =
    let d = get_or ds place blank in
    let rest = nets_length ds (n + width d.range) (place + 1) ns (omega arith) in
    let here = split_at ds place d (omega arith) (sym (get_or_default ds place d blank (omega arith))) in
    rw (nets_more ds place x ns, here) (omega (arith, rest, length-append (bit_names x d.range) (nets_from ds (place + 1) ns), length-bit_names x d.range))
