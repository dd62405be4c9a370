-- What is left of flattening: a stack of instances, each with its items to come.
use Rattle.std.specs.Prelude.{ℕ, zero, suc, ◌+◌, List, [], ◌∷◌, fold, Some, None}
use Rattle.std.specs.List.{sum_by}
use Rattle.netlist_types.specs.declared.sources.Source.{Source}
use Rattle.netlist_types.specs.declared.sources.Item.{Item}
use Rattle.netlist_types.specs.declared.sources.Item.TheVariants as item
use Rattle.netlist_types.specs.Lawful.{module_of}
use Rattle.cell_types.specs.declared.libraries.Library.{Library}
use Rattle.link_defs.specs.Flatten.{Scope, Flat, add_item, add_scope}

-- an instance and those of its items that are to come
pub record Pend : Type 0 where
  pub scope : Scope
  pub items : List Item

-- flattening goes on where it stopped; the depth is that below the top of the stack
unfoldable pub resume : ℕ → Source → Library → List Pend → Flat → Flat
resume depth s lib [] flat = flat
resume depth s lib (p ∷ rest) flat = resume (suc depth) s lib rest (fold (add_item (add_scope depth s lib) s lib p.scope) flat p.items)

-- how many steps what stands in an item takes
unfoldable pub inner_steps : (List Item → ℕ) → Source → Item → ℕ
inner_steps inside s (item.Inst cell name conns) = elim (module_of s cell) [ Some m ↦ inside m.items | None ↦ 0 ]
inner_steps inside s (item.Prim kind name outs ins) = 0
inner_steps inside s (item.Copy to from) = 0

-- how many steps items take, with what stands in them to a depth
unfoldable pub steps : ℕ → Source → List Item → ℕ
steps zero s items = 0
steps (suc depth) s items = 1 + sum_by (λ i. 1 + inner_steps (steps depth s) s i) items

-- how many steps are left
unfoldable pub steps_left : ℕ → Source → List Pend → ℕ
steps_left depth s [] = 0
steps_left depth s (p ∷ rest) = steps (suc depth) s p.items + steps_left (suc depth) s rest
