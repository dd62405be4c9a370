-- A source that is read is lawful.
use Rattle.std.proofs.Common.{◌≡◌, ℕ, ◌==◌, Bool, true, false, List, [], ◌∷◌, ◌++◌, length, map, find, slice_get, All, Contains, Option, Some, None}
use Rattle.std.proofs.Common.{is_some, Ok, refl, sym, ap, ◌∙◌, subst, add-one, add_comm, append_assoc, append-nil}
use Rattle.std.proofs.lemmas.Bool.{eqb-true}
use Rattle.std.proofs.lemmas.List.Elements.{All-nil, All-cons, All-weaker, All-contains}
use Rattle.std.proofs.lemmas.List.FromFn.{length-range_with_len}
use Rattle.std.specs.Str.{bytes_eq}
use Rattle.texts.specs.Names.{place_of}
use Rattle.texts.proofs.NameLemmas.{bytes_eq-comm}
use Rattle.netlist_types.specs.declared.sources.Dir.{Dir}
use Rattle.verilog_syntax.specs.declared.declarations.ModuleDecl.{ModuleDecl}
use Rattle.verilog_scope.specs.declared.scopes.Scope.{Scope}
use Rattle.verilog_scope.specs.Folds.{fold_both}
use Rattle.verilog_scope.specs.Ranges.{width}
use Rattle.verilog_scope.specs.Scopes.{net_names, decl_of, all_bits}
use Rattle.verilog_scope.proofs.KeepLemmas.{step_gave}
use Rattle.texts.proofs.NameLemmas.{distinct_by_test}
use Rattle.verilog_scope.proofs.NewLemmas.{new_distinct}
use Rattle.netlist_types.specs.declared.sources.Wire.{Wire}
use Rattle.netlist_types.specs.declared.sources.Port.{Port}
use Rattle.netlist_types.specs.declared.sources.Conn.{Conn}
use Rattle.netlist_types.specs.declared.sources.Item.{Item}
use Rattle.netlist_types.specs.declared.sources.Item.TheVariants as item
use Rattle.netlist_types.specs.declared.sources.Module.{Module}
use Rattle.netlist_types.specs.declared.sources.Source.{Source}
use Rattle.verilog_net.specs.declared.hierarchies.Hierarchy.{Hierarchy}
use Rattle.verilog_net.specs.Hierarchies.{inner_of, fits, hierarchy_of}
use Rattle.verilog_net.specs.Modules.{whole_module, module_made, add_module, modules_made}
use Rattle.verilog_net.specs.Uses.{with_used_nets}
use Rattle.netlist_types.specs.Lawful.{module_of, HasWidths, IsLawfulItem, IsLawfulModule, IsLawful}
use Rattle.verilog_net.proofs.SourceLemmas.{Scoped, hierarchy_parts, scopes_are}
use Rattle.verilog_net.proofs.ItemLemmas.{FitsPin, IsGood}
use Rattle.verilog_net.proofs.PortLemmas.{IsPortOf, ports_below, ports_apart, port_name}
use Rattle.verilog_net.proofs.ModuleLemmas.{IsModuleOf, module_is}
use Rattle.verilog_net.proofs.UsedLemmas.{used_lawful}

-- each declaration has its scope and its module
abbrev Made : Hierarchy → List ModuleDecl → List Scope → List Module → Type 0
Made h [] [] [] = Unit {0}
Made h [] [] (x ∷ xs) = false ≡ true
Made h [] (s ∷ ss) xs = false ≡ true
Made h (m ∷ ms) [] xs = false ≡ true
Made h (m ∷ ms) (s ∷ ss) [] = false ≡ true
Made h (m ∷ ms) (s ∷ ss) (x ∷ xs) = IsModuleOf h s m x × Made h ms ss xs

modules_are : (h : Hierarchy) (found : List Module) (ms : List ModuleDecl) (ss : List Scope) (last : List Module) → Scoped ms ss
    → fold_both (add_module h) found ss ms ≡ Ok last → (rest : List Module) × ((last ≡ found ++ map with_used_nets rest) × Made h ms ss rest)
unfolding fold_both add_module module_made
modules_are h found [] [] last scoped e = let same : found ≡ last = cc in ([], (sym same ∙ sym (append-nil found), tt))
modules_are h found [] (s ∷ ss) last scoped e = absurd cc
modules_are h found (m ∷ ms) [] last scoped e = absurd cc
modules_are h found (m ∷ ms) (s ∷ ss) last scoped e =
    let (next, one, more) = step_gave (add_module h found s m) _ last e in
    let (made, gives, added) = step_gave (module_made h s m) _ next one in
    let (x, whole, less) = step_gave (whole_module h s m) _ made gives in
    let is : with_used_nets x ≡ made = cc in
    let same : found ++ with_used_nets x ∷ [] ≡ next = ap (λ (y : Module). found ++ y ∷ []) is ∙ cc in
    let (rest, (all_is, all)) = modules_are h next ms ss last scoped.1 more in (
      x ∷ rest,
      (
        all_is ∙ ap (λ (l : List Module). l ++ map with_used_nets rest) (sym same) ∙ append_assoc found (with_used_nets x ∷ []) (map with_used_nets rest),
        (module_is h s m x scoped.0 whole, all),
      ),
    )

abbrev decl_name : ModuleDecl → List ℕ
decl_name m = m.name

abbrev module_name : Module → List ℕ
module_name x = x.name

names_same : (h : Hierarchy) (ms : List ModuleDecl) (ss : List Scope) (xs : List Module) → Made h ms ss xs → map module_name xs ≡ map decl_name ms
names_same h [] [] [] made = refl
names_same h [] [] (x ∷ xs) made = absurd cc
names_same h [] (s ∷ ss) xs made = absurd cc
names_same h (m ∷ ms) [] xs made = absurd cc
names_same h (m ∷ ms) (s ∷ ss) [] made = absurd cc
names_same h (m ∷ ms) (s ∷ ss) (x ∷ xs) made =
    ap (λ (n : List ℕ). n ∷ map module_name xs) made.0.name ∙ ap (λ (l : List (List ℕ)). m.name ∷ l) (names_same h ms ss xs made.1)

-- what a look-up by name finds: nothing among modules and scopes, or a module and its scope
abbrev Found : Hierarchy → Option Module → Option Scope → Type 0
Found h None None = Unit {0}
Found h None (Some s) = false ≡ true
Found h (Some x) None = false ≡ true
Found h (Some x) (Some s) = (m : ModuleDecl) × IsModuleOf h s m x

find_more : (cell : List ℕ) (h : Hierarchy) (m : ModuleDecl) (ms : List ModuleDecl) (s : Scope) (ss : List Scope) (x : Module) (xs : List Module) (b : Bool)
    → bytes_eq x.name cell ≡ b → bytes_eq cell m.name ≡ b → IsModuleOf h s m x
    → Found h (find (λ (y : Module). bytes_eq y.name cell) xs) (slice_get ss (place_of cell (map decl_name ms)))
    → Found h (find (λ (y : Module). bytes_eq y.name cell) (x ∷ xs)) (slice_get (s ∷ ss) (place_of cell (map decl_name (m ∷ ms))))
find_more cell h m ms s ss x xs true first second is rest = rw (first, second) (m, is)
find_more cell h m ms s ss x xs false first second is rest = rw (first, second, add_comm, add-one) rest

find_made : (cell : List ℕ) (h : Hierarchy) (ms : List ModuleDecl) (ss : List Scope) (xs : List Module) → Made h ms ss xs
    → Found h (find (λ (y : Module). bytes_eq y.name cell) xs) (slice_get ss (place_of cell (map decl_name ms)))
find_made cell h [] [] [] made = tt
find_made cell h [] [] (x ∷ xs) made = absurd cc
find_made cell h [] (s ∷ ss) xs made = absurd cc
find_made cell h (m ∷ ms) [] xs made = absurd cc
find_made cell h (m ∷ ms) (s ∷ ss) [] made = absurd cc
find_made cell h (m ∷ ms) (s ∷ ss) (x ∷ xs) made =
    let same : bytes_eq cell m.name ≡ bytes_eq x.name cell = bytes_eq-comm cell m.name ∙ ap (λ (n : List ℕ). bytes_eq n cell) (sym made.0.name) in
    find_more cell h m ms s ss x xs (bytes_eq x.name cell) refl same made.0 (find_made cell h ms ss xs made.1)

directed : (dir : Option Dir) (b : Bool) → is_some dir ≡ true → (elim dir [ None ↦ true | Some d ↦ b ]) ≡ true → b ≡ true
directed None b is e = absurd cc
directed (Some d) b is e = e

-- wires that fit a pin are as many as the bits of its port
port_fits : (s : Scope) (pin : List ℕ) (count : ℕ) (p : Port) → IsPortOf s p → p.name ≡ pin → fits (Some s) pin count ≡ true → count ≡ length p.bits
port_fits s pin count p is named e =
    let w = width (decl_of s p.name).range in
    let asked : fits (Some s) p.name count ≡ true = rw named e in
    let wide : count ≡ w = eqb-true count w (directed (decl_of s p.name).dir (count == w) is.directed asked) in
    wide ∙ sym (ap length is.bits ∙ length-range_with_len (all_bits s p.name).first w)

widths : (h : Hierarchy) (found : Option Module) (inner : Option Scope) (conns : List Conn) → Found h found inner → All (FitsPin inner) conns
    → HasWidths found conns
widths h None None conns is all =
    All-weaker (FitsPin None) (λ (c : Conn). (wires : List Wire) → c.wires ≡ Some wires → length wires ≡ 1)
    (λ c fit wires there. eqb-true (length wires) 1 (fit wires there)) conns all
widths h None (Some s) conns is all = absurd cc
widths h (Some x) None conns is all = absurd cc
widths h (Some x) (Some s) conns is all =
    let (m, made) = is in
    All-weaker (FitsPin (Some s))
    (λ (c : Conn). (wires : List Wire) (p : Port) → c.wires ≡ Some wires → Contains x.ports p → p.name ≡ c.pin → length wires ≡ length p.bits)
    (λ c fit wires p there contained named.
    port_fits s c.pin (length wires) p (All-contains (IsPortOf s) x.ports p made.ports contained) named (fit wires there)) conns all

module _ (h : Hierarchy) (ms : List ModuleDecl) (xs : List Module) (names : h.names ≡ map decl_name ms) (made : Made h ms h.scopes xs) where
  abbrev source : Source
  source = record { modules = xs }

  inner_found : (cell : List ℕ) → Found h (module_of source cell) (inner_of h cell)
  unfolding module_of
  inner_found cell =
      subst (λ (ns : List (List ℕ)). Found h (find (λ (y : Module). bytes_eq y.name cell) xs) (slice_get h.scopes (place_of cell ns))) (sym names)
      (find_made cell h ms h.scopes xs made)

  item_lawful : (count : ℕ) (i : Item) → IsGood h count i → IsLawfulItem source count i
  item_lawful count (item.Inst cell name conns) good = (
    distinct_by_test (map (λ (c : Conn). c.pin) conns) good.0,
    (good.1.0, widths h (module_of source cell) (inner_of h cell) conns (inner_found cell) good.1.1),
  )
  item_lawful count (item.Prim k name outs ins) good = good
  item_lawful count (item.Copy to from) good = good

  module_lawful : (s : Scope) (m : ModuleDecl) (x : Module) → IsModuleOf h s m x → IsLawfulModule source x
  module_lawful s m x is = record {
    port_names = distinct_by_test (map port_name x.ports) is.differ;
    port_bits = rw is.nets (ports_below m s is.scope x.ports is.ports);
    one_port = ports_apart m s is.scope x.ports is.ports is.differ;
    items = rw is.nets (All-weaker (IsGood h (length (net_names s))) (IsLawfulItem source (length (net_names s))) (item_lawful (length (net_names s)))
        x.items is.items);
  }

  all_lawful : (ns : List ModuleDecl) (ss : List Scope) (ys : List Module) → Made h ns ss ys → All (IsLawfulModule source) ys
  all_lawful [] [] [] part = All-nil (IsLawfulModule source)
  all_lawful [] [] (y ∷ ys) part = absurd cc
  all_lawful [] (s ∷ ss) ys part = absurd cc
  all_lawful (m ∷ ns) [] ys part = absurd cc
  all_lawful (m ∷ ns) (s ∷ ss) [] part = absurd cc
  all_lawful (m ∷ ns) (s ∷ ss) (y ∷ ys) part =
      All-cons (IsLawfulModule source) y ys (module_lawful s m y part.0) (all_lawful ns ss ys part.1)

-- the modules of a hierarchy are a lawful source
pub made_lawful : (wide : Bool) (ms : List ModuleDecl) (h : Hierarchy) (made : List Module) → hierarchy_of wide ms ≡ Ok h → modules_made h ms ≡ Ok made
    → IsLawful (record { modules = made })
made_lawful wide ms h made first second =
    let (names, scopes) = hierarchy_parts wide ms h first in
    let (is, differ) = new_distinct (map decl_name ms) h.names names in
    let scoped = scopes_are ms h.scopes scopes in
    let (xs, (found, all)) = modules_are h [] ms h.scopes made scoped second in
    let whole : IsLawful (record { modules = xs }) = record {
      names = rw (names_same h ms h.scopes xs all) (distinct_by_test (map decl_name ms) differ);
      modules = all_lawful h ms xs is all ms h.scopes xs all;
    } in
    subst (λ (l : List Module). IsLawful (record { modules = l })) (sym found) (used_lawful (record { modules = xs }) whole)
