use Rattle.cad_tables.proofs.reading.read_between.Goals as goal

pub returns-clause-shown : goal.returns-clause-shown
returns-clause-shown g c = rw c.two_cells.ensures at c.read_each.ensures.shown

pub returns-clause-refused : goal.returns-clause-refused
returns-clause-refused g c = rw c.two_cells.ensures at c.read_each.ensures.refused
