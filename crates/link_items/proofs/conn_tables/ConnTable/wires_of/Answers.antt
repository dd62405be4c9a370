use Rattle.std.proofs.Common.{◌≡◌, ℕ, List, Some, None, ap, sym, ◌∙◌}
use Rattle.std.specs.Prelude.{slice_get}
use Rattle.std.proofs.lemmas.Option.{slice_get-get_or, slice_get_past}
use Rattle.texts.specs.Names.{place_of}
use Rattle.netlist_types.specs.declared.sources.Conn.{Conn}
use Rattle.link_defs.specs.Hierarchy.{wires_in, wires_of}
use Rattle.link_items.specs.Pins.{pin_names}
use Rattle.link_items.proofs.Naming.{wires_at}
use Rattle.link_items.proofs.conn_tables.ConnTable.wires_of.Goals as goal

pub returns-in-Some : goal.returns-in-Some
returns-in-Some c =
    let list = c.self.inside.list.now in
    let pin = c.args.pin.now in
    let at : c.place.result ≡ place_of pin (pin_names list) = c.place.ensures ∙ ap (λ (names : List (List ℕ)). place_of pin names) c.self.invariant in
    let found : Some c.in-Some.conn.now ≡ slice_get list (place_of pin (pin_names list)) =
    ap (λ (conn : Conn). Some conn) c.in-Some.ensures.lookup.1
    ∙ (sym (slice_get-get_or list c.place.result c.in-Some.conn.now c.in-Some.ensures.lookup.3.0) ∙ ap (λ (k : ℕ). slice_get list k) at) in
    c.wires_in.ensures ∙ (ap wires_in found ∙ (sym (wires_at list pin) ∙ ap (λ (conns : List Conn). wires_of conns pin) c.self.view_is))

pub returns-in-None : goal.returns-in-None
returns-in-None c =
    let list = c.self.inside.list.now in
    let pin = c.args.pin.now in
    let at : c.place.result ≡ place_of pin (pin_names list) = c.place.ensures ∙ ap (λ (names : List (List ℕ)). place_of pin names) c.self.invariant in
    let found : None ≡ slice_get list (place_of pin (pin_names list)) = sym (slice_get_past list c.place.result c.in-None.ensures.lookup.3)
    ∙ ap (λ (k : ℕ). slice_get list k) at in
    ap wires_in found ∙ (sym (wires_at list pin) ∙ ap (λ (conns : List Conn). wires_of conns pin) c.self.view_is)
