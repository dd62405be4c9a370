use Rattle.std.proofs.Common.{map}
use Rattle.link_defs.specs.Designs.{number_by}
use Rattle.link_defs.specs.GatedDesigns.{enabled_drivers}
use Rattle.link_tops.specs.Clashes.{leaf_names}
use Rattle.linked_types.specs.declared.names.CellName.{CellName}
use Rattle.net_link.proofs.Further.{own_cut, own_none, names_none, names_some, places_some}
use Rattle.net_link.proofs.links.all_cell_names.Goals as goal

pub returns-in-None-clause-own : goal.returns-in-None-clause-own
returns-in-None-clause-own c = λ own cut.
    own_none (leaf_names c.args.left.now.flat.leaves) (map (λ (x : CellName). x.name) c.in_ok-cells.cells) c.args.left.now.cut c.in_ok-cells.ensures.own
    c.in-None.is

pub returns-in-None-clause-names : goal.returns-in-None-clause-names
returns-in-None-clause-names c = λ order g own found cut lawful at.
    names_none own c.args.left.now c.args.made.now.tree (number_by (enabled_drivers c.args.left.now.flat.circuit order g.gates)) found c.in_ok-cells.cells
    c.in-None.is (c.in_ok-cells.ensures.names order g found lawful at)

pub returns-in-None-clause-usable : goal.returns-in-None-clause-usable
returns-in-None-clause-usable c = λ order own found cut lawful g leaves at. c.in_ok-cells.ensures.usable order found lawful g leaves at

pub returns-in_ok-list-in-Some-clause-own : goal.returns-in_ok-list-in-Some-clause-own
returns-in_ok-list-in-Some-clause-own c = λ own cut.
    own_cut own c.args.left.now c.in-Some.cut c.args.made.now.numbers c.in_ok-nets-in-Some.nets (leaf_names c.args.left.now.flat.leaves)
    c.in_ok-cells.cells c.in_ok-further-in-Some.further c.in_ok-list-in-Some.list c.in-Some.is cut c.in_ok-cells.ensures.own
    (record { are = λ out. c.in_ok-further-in-Some.ensures own out }) c.in_ok-list-in-Some.ensures

pub returns-in_ok-list-in-Some-clause-names : goal.returns-in_ok-list-in-Some-clause-names
returns-in_ok-list-in-Some-clause-names c = λ order g own found cut lawful at.
    names_some own c.args.left.now order c.args.made.now g c.in-Some.cut c.in_ok-nets-in-Some.nets found c.in_ok-cells.cells c.in_ok-further-in-Some.further
    c.in_ok-list-in-Some.list c.in-Some.is cut lawful c.in_ok-nets-in-Some.ensures (c.in_ok-cells.ensures.names order g found lawful at)
    (record { are = λ out. c.in_ok-further-in-Some.ensures own out }) c.in_ok-list-in-Some.ensures

pub returns-in_ok-list-in-Some-clause-usable : goal.returns-in_ok-list-in-Some-clause-usable
returns-in_ok-list-in-Some-clause-usable c = λ order own found cut lawful g leaves at.
    places_some own c.args.left.now order c.args.made.now g c.in-Some.cut c.in_ok-nets-in-Some.nets c.in_ok-cells.cells c.in_ok-further-in-Some.further
    c.in_ok-list-in-Some.list c.in-Some.is cut lawful c.in_ok-nets-in-Some.ensures (c.in_ok-cells.ensures.usable order found lawful g leaves at)
    (record { are = λ out. c.in_ok-further-in-Some.ensures own out }) c.in_ok-list-in-Some.ensures
