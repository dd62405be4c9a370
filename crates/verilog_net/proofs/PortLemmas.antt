-- The ports of a module.
use Rattle.std.proofs.Common.{arith, ◌≡◌, ℕ, zero, suc, ◌+◌, ◌≤◌, ◌<◌, ◌≢◌, true, false, not, List, [], ◌∷◌, ◌++◌, length, map, flat_map, nat_eq, All}
use Rattle.std.proofs.Common.{Option, Some, None, is_some, Ok, refl, sym, ap, ◌∙◌, subst, inl, inr, ◌⊎◌, append_assoc, append-nil}
use Rattle.std.proofs.lemmas.Bool.{and_parts, or_parts, not-true, ne_eqb}
use Rattle.std.proofs.lemmas.List.{map-append}
use Rattle.std.proofs.lemmas.List.Elements.{All-nil, All-cons, All-append, All-push, All-head, All-tail, All-weaker}
use Rattle.std.specs.List.{IsDistinct, AllByRecursion, range_with_len}
use Rattle.std.specs.Str.{bytes_eq}
use Rattle.std.proofs.lemmas.Slice.Eq.{bytes_eq-Decides}
use Rattle.texts.specs.Names.{is_among, are_distinct, place_of}
use Rattle.texts.proofs.NameLemmas.{slice_get-place_of}
use Rattle.netlist_types.specs.declared.sources.Dir.{Dir}
use Rattle.verilog_syntax.specs.declared.declarations.Spelled.{Spelled}
use Rattle.verilog_syntax.specs.declared.declarations.ModuleDecl.{ModuleDecl}
use Rattle.verilog_scope.specs.declared.scopes.Scope.{Scope}
use Rattle.verilog_scope.specs.Folds.{fold_ok}
use Rattle.verilog_scope.specs.Scopes.{net_names, decl_of, all_bits}
use Rattle.verilog_scope.proofs.KeepLemmas.{step_gave}
use Rattle.verilog_scope.proofs.ScopeLemmas.{IsScope}
use Rattle.verilog_scope.proofs.RunLemmas.{HasPlace, place_among, bits_below, bits_apart}
use Rattle.netlist_types.specs.declared.sources.Port.{Port}
use Rattle.verilog_net.specs.Wires.{numbers}
use Rattle.verilog_net.specs.Modules.{port_as, port_of, add_port}
use Rattle.netlist_types.specs.Lawful.{IsBelow}
use Rattle.verilog_net.proofs.ItemLemmas.{numbers_below}

-- a port has the nets of its name, of which its direction is declared
pub record IsPortOf (s : Scope) (p : Port) : Type 0 where
  pub placed : is_among p.name s.names ≡ true
  pub directed : is_some (decl_of s p.name).dir ≡ true
  pub bits : p.bits ≡ numbers (all_bits s p.name)

-- a name among those of a scope
abbrev pub IsNamed : Scope → Spelled → Type 0
IsNamed s x = is_among x.name s.names ≡ true

port_case : (s : Scope) (x : Spelled) (dir : Option Dir) (found : List Port) (p : Port) → (decl_of s x.name).dir ≡ dir → is_among x.name s.names ≡ true
    → port_of s x dir ≡ Ok p → IsPortOf s p × (p.name ≡ x.name)
port_case s x None found p is placed e = absurd cc
port_case s x (Some dir) found p is placed e =
    let same : port_as s x.name dir ≡ p = cc in
    (subst (IsPortOf s) same (record { placed = placed; directed = rw is refl; bits = refl }), ap (λ (p : Port). p.name) (sym same))

port_made : (s : Scope) (found : List Port) (x : Spelled) (next : List Port) → IsNamed s x → add_port s found x ≡ Ok next
    → (p : Port) × (IsPortOf s p × ((p.name ≡ x.name) × (found ++ p ∷ [] ≡ next)))
unfolding add_port
port_made s found x next placed e =
    let (p, gives, made) = step_gave (port_of s x (decl_of s x.name).dir) _ next e in
    let same : found ++ p ∷ [] ≡ next = cc in
    let (is, named) = port_case s x (decl_of s x.name).dir found p refl placed gives in
    (p, (is, (named, same)))

abbrev pub port_name : Port → List ℕ
port_name p = p.name

-- the ports are those of the port list, in its order
pub ports_are : (s : Scope) (found : List Port) (names : List (List ℕ)) (xs : List Spelled) (last : List Port) → All (IsNamed s) xs → All (IsPortOf s) found
    → map port_name found ≡ names → fold_ok (add_port s) found xs ≡ Ok last
    → All (IsPortOf s) last × (map port_name last ≡ names ++ map (λ (x : Spelled). x.name) xs)
unfolding fold_ok
ports_are s found names [] last placed are named e =
    let same : found ≡ last = cc in
    (subst (All (IsPortOf s)) same are, ap (map port_name) (sym same) ∙ named ∙ sym (append-nil names))
ports_are s found names (x ∷ xs) last placed are named e =
    let (next, one, rest) = step_gave (add_port s found x) _ last e in
    let (p, (is, (called, same))) = port_made s found x next (All-head (IsNamed s) x xs placed) one in
    let more : map port_name next ≡ names ++ x.name ∷ [] =
    ap (map port_name) (sym same) ∙ map-append port_name found (p ∷ []) ∙ ap (λ (l : List (List ℕ)). l ++ p.name ∷ []) named
    ∙ ap (λ (n : List ℕ). names ++ n ∷ []) called in
    let (all, names_are) = ports_are s next (names ++ x.name ∷ []) xs last (All-tail (IsNamed s) x xs placed)
    (subst (All (IsPortOf s)) same (All-push (IsPortOf s) found p are is)) more rest in
    (all, names_are ∙ append_assoc names (x.name ∷ []) (map (λ (x : Spelled). x.name) xs))

some_same : {A : Type 0} {x y : A} → Some x ≡ Some y → x ≡ y
some_same e = cc

false_true : {A : Type 0} → false ≡ true → A
false_true e = absurd cc

-- a number outside a run
abbrev IsOff : ℕ → ℕ → ℕ → Type 0
IsOff a n k = (k < a) ⊎ (a + n ≤ k)

off_eq : (a n k : ℕ) → IsOff a (n + 1) k → nat_eq a k ≡ false
off_eq a n k off = elim off [ inl less ↦ ne_eqb a k (λ same. omega arith) | inr more ↦ ne_eqb a k (λ same. omega arith) ]

off_more : (a n k : ℕ) → IsOff a (n + 1) k → IsOff (a + 1) n k
off_more a n k off = elim off [ inl less ↦ inl (omega arith) | inr more ↦ inr (omega arith) ]

one_by_one : (P : ℕ → Type 0) (ys : List ℕ) → All P ys → AllByRecursion P ys
one_by_one P [] all = tt
one_by_one P (y ∷ ys) all = (All-head P y ys all, one_by_one P ys (All-tail P y ys all))

first_apart : (a b n : ℕ) (ys : List ℕ) → a < b → All (λ (y : ℕ). nat_eq a y ≡ false) ys → AllByRecursion (λ (y : ℕ). nat_eq a y ≡ false)
    (range_with_len b n ++ ys)
first_apart a b zero ys less all = one_by_one (λ (y : ℕ). nat_eq a y ≡ false) ys all
first_apart a b (suc n) ys less all = (ne_eqb a b (λ same. omega arith), first_apart a (b + 1) n ys (omega arith) all)

-- a run before numbers that differ and are outside it
run_apart : (a n : ℕ) (ys : List ℕ) → All (IsOff a n) ys → IsDistinct nat_eq ys → IsDistinct nat_eq (range_with_len a n ++ ys)
unfolding IsDistinct
run_apart a zero ys off differ = differ
run_apart a (suc n) ys off differ =
    let outside = All-weaker (IsOff a (suc n)) (IsOff a (n + 1)) (λ k o. elim o [ inl less ↦ inl less | inr more ↦ inr (omega arith) ]) ys off in (
      first_apart a (a + 1) n ys (omega arith) (All-weaker (IsOff a (n + 1)) (λ (y : ℕ). nat_eq a y ≡ false) (off_eq a n) ys outside),
      run_apart (a + 1) n ys (All-weaker (IsOff a (n + 1)) (IsOff (a + 1) n) (off_more a n) ys outside) differ,
    )

off_range : (a n b k : ℕ) → (a + n ≤ b) ⊎ (b + k ≤ a) → All (IsOff a n) (range_with_len b k)
off_range a n b zero apart = All-nil (IsOff a n)
off_range a n b (suc k) apart = elim apart [
  | inl before ↦ All-cons (IsOff a n) b (range_with_len (b + 1) k) (inr before) (off_range a n (b + 1) k (inl (omega arith)))
  | inr behind ↦ All-cons (IsOff a n) b (range_with_len (b + 1) k) (inl (omega arith)) (off_range a n (b + 1) k (inr (omega arith)))
]

module _ (m : ModuleDecl) (s : Scope) (made : IsScope m s) where
  abbrev pub bits_of : Port → List ℕ
  bits_of p = p.bits

  has_place : (p : Port) → IsPortOf s p → HasPlace s p.name
  has_place p is = place_among m s made p.name is.placed

  port_bits_below : (p : Port) → IsPortOf s p → All (IsBelow (length (net_names s))) p.bits
  port_bits_below p is =
      rw is.bits (numbers_below (length (net_names s)) (all_bits s p.name) (bits_below m s made p.name (has_place p is)))

  -- the bits of ports are nets of the module
  pub ports_below : (ps : List Port) → All (IsPortOf s) ps → All (IsBelow (length (net_names s))) (flat_map bits_of ps)
  ports_below [] are = All-nil (IsBelow (length (net_names s)))
  ports_below (p ∷ ps) are =
      All-append (IsBelow (length (net_names s))) p.bits (flat_map bits_of ps) (port_bits_below p (All-head (IsPortOf s) p ps are))
      (ports_below ps (All-tail (IsPortOf s) p ps are))

  places_differ : (n k : List ℕ) → is_among n s.names ≡ true → is_among k s.names ≡ true → bytes_eq n k ≡ false → place_of n s.names ≢ place_of k s.names
  places_differ n k first second differ same =
      let here = slice_get-place_of n s.names first in
      let there = slice_get-place_of k s.names second in
      let at_one = rw same at here in
      let equal : n ≡ k = some_same (sym at_one ∙ there) in
      let (f, g) = bytes_eq-Decides n k in
      let yes = g equal in
      false_true (sym differ ∙ yes)

  off_ports : (p : Port) (ps : List Port) → IsPortOf s p → All (IsPortOf s) ps → is_among p.name (map port_name ps) ≡ false
      → All (IsOff (all_bits s p.name).first (all_bits s p.name).count) (flat_map bits_of ps)
  off_ports p [] is are absent = All-nil (IsOff (all_bits s p.name).first (all_bits s p.name).count)
  off_ports p (q ∷ ps) is are absent =
      let a = (all_bits s p.name).first in
      let n = (all_bits s p.name).count in
      let other = All-head (IsPortOf s) q ps are in
      let (differ, rest) = or_parts (bytes_eq p.name q.name) (is_among p.name (map port_name ps)) absent in
      let apart = bits_apart m s made p.name q.name (has_place p is) (has_place q other) (places_differ p.name q.name is.placed other.placed differ) in
      All-append (IsOff a n) q.bits (flat_map bits_of ps) (rw other.bits (off_range a n (all_bits s q.name).first (all_bits s q.name).count apart))
      (off_ports p ps is (All-tail (IsPortOf s) q ps are) rest)

  -- no net is a bit of two ports
  pub ports_apart : (ps : List Port) → All (IsPortOf s) ps → are_distinct (map port_name ps) ≡ true → IsDistinct nat_eq (flat_map bits_of ps)
  unfolding IsDistinct are_distinct
  ports_apart [] are differ = tt
  ports_apart (p ∷ ps) are differ =
      let is = All-head (IsPortOf s) p ps are in
      let others = All-tail (IsPortOf s) p ps are in
      let (new, rest) = and_parts (not (is_among p.name (map port_name ps))) (are_distinct (map port_name ps)) differ in
      let run = all_bits s p.name in
      rw is.bits (run_apart run.first run.count (flat_map bits_of ps) (off_ports p ps is others (not-true (is_among p.name (map port_name ps)) new))
      (ports_apart ps others rest))
