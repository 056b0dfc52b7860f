use Rattle.std.proofs.Common.{◌≡◌, ◌≤◌, ◌∙◌, ◌++◌, ◌==◌, string_bytes, subst, length, take, drop, refl, ap, arith}
use Rattle.std.proofs.lemmas.List.{length-take-le, length-drop}
use Rattle.cad_office.specs.JournalLines.{lines_of, end_if}
use Rattle.cad_office.proofs.JournalLemmas.{left_behind, end_here, all_left, full_piece}
use Rattle.cad_office.proofs.journal.JournalLines.next_piece.Goals as goal

pub returns-clause-written : goal.returns-clause-written
returns-clause-written c =
    let items = c.args.self.now.commands.items in
    let at = c.args.self.now.at in
    let count = c.min-count.result in
    let newest = c.args.self.now.newest in
    let xs = c.deref.result.now in
    let whole = all_left xs items at c.deref.ensures.value in
    let text = subst (λ l. string_bytes c.in_ok-text.text ≡ lines_of (take count l) ++ end_if (count == length l) newest) whole c.in_ok-text.ensures in
    let low : count ≤ length (drop at items) = grind (arith, c.min-count.ensures, length-drop at items) in
    let few : count ≤ 16 = grind (arith, c.min-count.ensures) in
    record {
      front = take count (drop at items);
      left = left_behind items at count;
      full = full_piece items at count (length-take-le count (drop at items) low) (grind (arith, c.min-count.ensures, length-drop at items, ap length c.deref.ensures.value));
      few = omega (arith, length-take-le count (drop at items) low, few);
      lines = text ∙ ap (λ l. lines_of (take count (drop at items)) ++ l) (end_here items at count newest low);
      same = refl;
    }
