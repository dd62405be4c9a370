-- What a module that was made is like.
use Rattle.std.proofs.Common.{◌≡◌, ℕ, Bool, true, List, [], ◌∷◌, ◌++◌, length, map, flat_map, All, Ok, refl, sym, ap, ◌∙◌, subst, append-nil}
use Rattle.std.proofs.lemmas.Bool.{and_parts}
use Rattle.std.proofs.lemmas.List.Elements.{All-nil, All-cons}
use Rattle.std.proofs.lemmas.List.Folds.{list_all-append}
use Rattle.std.specs.List.{list_all}
use Rattle.texts.specs.Names.{is_among, are_distinct, each_once}
use Rattle.texts.proofs.NameLemmas.{all_among-each_once}
use Rattle.verilog_syntax.specs.declared.declarations.Spelled.{Spelled}
use Rattle.verilog_syntax.specs.declared.declarations.PortDecl.{PortDecl}
use Rattle.verilog_syntax.specs.declared.declarations.Head.{Head}
use Rattle.verilog_syntax.specs.declared.declarations.Head.TheVariants as head
use Rattle.verilog_syntax.specs.declared.declarations.ItemDecl.{ItemDecl}
use Rattle.verilog_syntax.specs.declared.declarations.ItemDecl.TheVariants.{Ports, Nets, Assigns, Prims, Insts}
use Rattle.verilog_syntax.specs.declared.declarations.ModuleDecl.{ModuleDecl}
use Rattle.verilog_scope.specs.declared.scopes.Scope.{Scope}
use Rattle.verilog_scope.specs.Folds.{fold_ok}
use Rattle.verilog_scope.specs.Standing.{names_in, head_names}
use Rattle.verilog_scope.specs.Decls.{with_new, listed_in}
use Rattle.verilog_scope.specs.Scopes.{scope_of, net_names}
use Rattle.verilog_scope.proofs.KeepLemmas.{step_gave}
use Rattle.verilog_scope.proofs.NewLemmas.{new_distinct}
use Rattle.verilog_scope.proofs.ScopeLemmas.{IsScope, scope_is}
use Rattle.verilog_scope.proofs.RunLemmas.{HasPlace, place_among}
use Rattle.netlist_types.specs.declared.sources.Module.{Module}
use Rattle.verilog_net.specs.declared.hierarchies.Hierarchy.{Hierarchy}
use Rattle.verilog_net.specs.Modules.{spelled, ports_of, whole_module}
use Rattle.verilog_net.specs.Items.{add_item}
use Rattle.verilog_net.proofs.ItemLemmas.{IsGood, Places, items_good}
use Rattle.verilog_net.proofs.PortLemmas.{IsPortOf, IsNamed, ports_are, port_name}

abbrev name_of : Spelled → List ℕ
name_of x = x.name

-- the names of a port list are those that are spelled there
names_spelled : (ps : List PortDecl) → map name_of (map (λ (p : PortDecl). p.name) ps) ≡ map (λ (p : PortDecl). p.name.name) ps
names_spelled [] = refl
names_spelled (p ∷ ps) = ap (λ (l : List (List ℕ)). p.name.name ∷ l) (names_spelled ps)

head_spelled : (h : Head) → map name_of (spelled h) ≡ head_names h
head_spelled (head.Names list) = refl
head_spelled (head.Ports ps) = names_spelled ps

-- they differ
heads_differ : (h : Head) (ls : List (List ℕ)) → listed_in h ≡ Ok ls → are_distinct (head_names h) ≡ true
unfolding listed_in
heads_differ (head.Names list) ls e = (new_distinct (map (λ (s : Spelled). s.name) list) ls e).1
heads_differ (head.Ports ps) ls e =
    let (names, new, rest) = step_gave (fold_ok with_new [] (map (λ (p : PortDecl). p.name.name) ps)) _ ls e in
    (new_distinct (map (λ (p : PortDecl). p.name.name) ps) names new).1

module _ (m : ModuleDecl) (s : Scope) (made : IsScope m s) where
  abbrev stands : List ℕ → Bool
  stands n = is_among n s.names

  named : (xs : List Spelled) → list_all stands (map name_of xs) ≡ true → All (IsNamed s) xs
  named [] e = All-nil (IsNamed s)
  named (x ∷ xs) e =
      let (here, rest) = and_parts (stands x.name) (list_all stands (map name_of xs)) e in
      All-cons (IsNamed s) x xs here (named xs rest)

  heads_stand : list_all stands (head_names m.head) ≡ true
  heads_stand = rw made.names (all_among-each_once [] (head_names m.head) (flat_map names_in m.items))

  heads_named : All (IsNamed s) (spelled m.head)
  heads_named = named (spelled m.head) (rw (head_spelled m.head) heads_stand)

  items_stand : list_all stands (flat_map names_in m.items) ≡ true
  items_stand =
      let names = flat_map names_in m.items in
      rw made.names (subst (λ (all : List (List ℕ)). list_all (λ n. is_among n (each_once (head_names m.head ++ all))) names ≡ true) (append-nil names)
      (all_among-each_once (head_names m.head) names []))

  places : (names : List (List ℕ)) → list_all stands names ≡ true → All (HasPlace s) names
  places [] e = All-nil (HasPlace s)
  places (n ∷ names) e =
      let (here, rest) = and_parts (stands n) (list_all stands names) e in
      All-cons (HasPlace s) n names (place_among m s made n here) (places names rest)

  item_places : (h : Hierarchy) (i : ItemDecl) → list_all stands (names_in i) ≡ true → Places h m s made i
  item_places h (Nets kind range names) e = places names e
  item_places h (Ports ports) e = tt
  item_places h (Assigns list) e = tt
  item_places h (Prims kind list) e = tt
  item_places h (Insts cell list) e = tt

  all_places : (h : Hierarchy) (items : List ItemDecl) → list_all stands (flat_map names_in items) ≡ true → All (Places h m s made) items
  all_places h [] e = All-nil (Places h m s made)
  all_places h (i ∷ items) e =
      let (here, rest) = and_parts (list_all stands (names_in i)) (list_all stands (flat_map names_in items))
      (sym (list_all-append stands (names_in i) (flat_map names_in items)) ∙ e) in
      All-cons (Places h m s made) i items (item_places h i here) (all_places h items rest)

-- a module with a scope
pub record IsModuleOf (h : Hierarchy) (s : Scope) (m : ModuleDecl) (x : Module) : Type 0 where
  pub scope : IsScope m s
  pub name : x.name ≡ m.name
  pub nets : x.nets ≡ net_names s
  pub ports : All (IsPortOf s) x.ports
  pub differ : are_distinct (map port_name x.ports) ≡ true
  pub items : All (IsGood h (length (net_names s))) x.items

pub module_is : (h : Hierarchy) (s : Scope) (m : ModuleDecl) (x : Module) → scope_of m ≡ Ok s → whole_module h s m ≡ Ok x → IsModuleOf h s m x
unfolding whole_module
module_is h s m x scope e =
    let is = scope_is m s scope in
    let (ports, e1, rest) = step_gave (ports_of s m.head) _ x e in
    let (items, e2, made) = step_gave (fold_ok (add_item h s) [] m.items) _ x rest in
    let whole : Module = record { name = m.name; ports = ports; nets = net_names s; items = items } in
    let same : whole ≡ x = cc in
    let (are, names) = ports_are s [] [] (spelled m.head) ports (heads_named m s is) (All-nil (IsPortOf s)) refl e1 in
    let (ls, listed) = is.listed in
    subst (IsModuleOf h s m) same (record {
      scope = is;
      name = refl;
      nets = refl;
      ports = are;
      differ = rw (names, head_spelled m.head) (heads_differ m.head ls listed);
      items = items_good h m s is m.items items (all_places m s is h m.items (items_stand m s is)) e2;
    })
