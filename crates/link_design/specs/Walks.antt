-- A walk down from the clock's net.
use Rattle.std.specs.Prelude.{◌≡◌, ℕ, ◌<◌, true, false, if◌then◌else◌, [], ◌∷◌, ◌++◌, length, Contains, Some, None, slice_get, slice_set, slice_index_or}
use Rattle.std.specs.List.{fold}
use Rattle.sdcv_base.specs.Seqs.{is_marked}
use Rattle.net_model.specs.Form.{IsOver}
use Rattle.net_model.specs.declared.netlist.Gate.{Gate}
use Rattle.link_defs.specs.declared.circuits.Circuit.{Circuit}
use Rattle.link_defs.specs.declared.circuits.Part.{Part}
use Rattle.link_defs.specs.declared.circuits.Part.TheVariants as part
use Rattle.link_design.specs.declared.branches.Branch.{Branch}
use Rattle.link_design.specs.declared.walks.Walk.{Walk}
use Rattle.link_design.specs.Branches.{root_branch, past_buffer, past_gate, OnBranch}
use Rattle.link_design.specs.Readers.{hands_from, HandsTo}

-- the branch on which a walk has come to a net
abbrev pub branch_of : Walk → ℕ → Branch
branch_of w net = record { odd = is_marked w.odd net; above = slice_index_or w.above net None; lost = is_marked w.lost net }

-- the walk comes to a net on a branch, unless it has come to it before
abbrev pub reached : ℕ → Branch → Walk → Walk
reached net b w =
    if is_marked w.tree net then w
    else record {
      nets = w.nets ++ net ∷ [];
      tree = slice_set w.tree net true;
      odd = slice_set w.odd net b.odd;
      above = slice_set w.above net b.above;
      lost = slice_set w.lost net b.lost;
    }

-- to a net of the clock
abbrev pub clock_reached : Walk → ℕ → Walk
clock_reached w net = reached net root_branch w

-- to the net of a gate, from one on this branch
abbrev pub gate_reached : Branch → Walk → Gate → Walk
gate_reached b w g = reached g.out (past_buffer b g.func) w

-- to all nets to which a part hands the clock on
abbrev pub handed : Branch → Walk → Part → Walk
handed b w (part.Comb buffer ins gates) = fold (gate_reached b) w gates
handed b w (part.Flop clock reg) = w
handed b w (part.Gate clock enables out) = reached out (past_gate b out) w

-- a gate to whose net a walk over so many nets can come
pub record IsReachable (nets : ℕ) (g : Gate) : Type 0 where
  pub out : g.out < nets
  pub func : IsOver 7 g.func

-- rows over so many nets, none of which is marked
pub record AreRows (nets : ℕ) (w : Walk) : Type 0 where
  pub tree_len : length w.tree ≡ nets
  pub odd_len : length w.odd ≡ nets
  pub above_len : length w.above ≡ nets
  pub lost_len : length w.lost ≡ nets
  pub none : (net : ℕ) → is_marked w.tree net ≡ false

-- the nets of a walk are those that it has marked, each on its branch below the clock
pub record IsWalk (c : Circuit) (w : Walk) : Type 0 where
  pub tree_len : length w.tree ≡ c.nets
  pub odd_len : length w.odd ≡ c.nets
  pub above_len : length w.above ≡ c.nets
  pub lost_len : length w.lost ≡ c.nets
  pub on : (net : ℕ) → is_marked w.tree net ≡ true → OnBranch c net (branch_of w net)
  pub listed : (net : ℕ) → is_marked w.tree net ≡ true → Contains w.nets net
  pub met : (i net : ℕ) → slice_get w.nets i ≡ Some net → is_marked w.tree net ≡ true

-- it has come to the clock's nets, and to all nets to which the clock is handed on from its first nets
pub record IsWalkTo (c : Circuit) (i : ℕ) (w : Walk) : Type 0 where
  pub walk : IsWalk c w
  pub roots : (net : ℕ) → Contains c.clocks net → is_marked w.tree net ≡ true
  pub handed : (j place from to : ℕ) (b new : Branch) (p : Part) → j < i → slice_get w.nets j ≡ Some from → slice_get c.parts place ≡ Some p
      → hands_from p ≡ Some from → HandsTo p b to new → is_marked w.tree to ≡ true
