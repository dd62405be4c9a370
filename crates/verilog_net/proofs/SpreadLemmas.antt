-- The connections of one bit of a wide one, one after another.
use Rattle.std.proofs.Common.{◌≡◌, ℕ, ◌+◌, ◌-◌, ◌<◌, ◌≤◌, List, [], ◌∷◌, ◌++◌, length, get_or, drop, refl, sym, ap, ◌∙◌, arith, append_assoc, length-drop, add-one}
use Rattle.std.proofs.lemmas.List.{drop_all}
use Rattle.std.proofs.Math.Seq.{drop-cons}
use Rattle.netlist_types.specs.declared.sources.Wire.{Wire}
use Rattle.netlist_types.specs.declared.sources.Conn.{Conn}
use Rattle.verilog_net.specs.Spreads.{bit_conn, bit_conns}

module _ (pin : List ℕ) (ws : List Wire) (i : ℕ) where
  -- that of the next wire comes first of those that are left
  pub bits_more : (found : List Conn) (d : Wire) → i < length ws
      → (found ++ bit_conn pin (length ws - 1 - i) (get_or ws i d) ∷ []) ++ bit_conns pin (drop (i + 1) ws) ≡ found ++ bit_conns pin (drop i ws)
  unfolding bit_conns
  bits_more found d below =
      let w = get_or ws i d in
      let next : drop i ws ≡ w ∷ drop (i + 1) ws = rw add-one (drop-cons ws i d below) in
      let left : length ws - 1 - i ≡ length (drop (i + 1) ws) = omega (arith, length-drop (i + 1) ws) in
      append_assoc found (bit_conn pin (length ws - 1 - i) w ∷ []) (bit_conns pin (drop (i + 1) ws))
      ∙ ap (λ (n : ℕ). found ++ bit_conn pin n w ∷ bit_conns pin (drop (i + 1) ws)) left
      ∙ ap (λ (l : List Wire). found ++ bit_conns pin l) (sym next)

  -- and none is left
  pub bits_end : length ws ≤ i → bit_conns pin (drop i ws) ≡ []
  unfolding bit_conns
  bits_end past = rw (drop_all i ws past) refl
