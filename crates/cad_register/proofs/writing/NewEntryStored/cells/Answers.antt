use Rattle.std.proofs.Common.{refl}
use Rattle.cad_register.proofs.writing.NewEntryStored.cells.Goals as goal

pub returns : goal.returns
returns c =
    rw (← c.version.view_is, c.count_cell.ensures, c.count_cell-2.ensures, c.count_cell-3.ensures, c.count_cell-4.ensures, c.day_cell.ensures, c.day_or_null.ensures, c.words_or_null.ensures, c.words_or_null-2.ensures, c.words_or_null-3.ensures, c.count_or_null.ensures, c.object_or_null.ensures, c.object_or_null-2.ensures, c.num_or_null.ensures, c.den_or_null.ensures, c.flag_or_null.ensures, c.x_or_null.ensures, c.y_or_null.ensures, c.bytes_or_null.ensures)
    (let spelt = rw (← c.version.view_is) at c.args.self.now.spelt in
    rw (c.number.ensures.value, c.from.ensures, c.number-2.ensures, c.class.ensures, c.name.ensures, c.code.ensures, c.label.ensures, c.area.ensures, c.unit.ensures, c.party.ensures, c.share.ensures, c.share-2.ensures, c.required.ensures, c.spot.ensures, c.spot-2.ensures, spelt) refl)
