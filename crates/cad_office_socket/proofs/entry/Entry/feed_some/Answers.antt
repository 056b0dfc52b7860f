use Rattle.std.proofs.Common.{◌≡◌, ℕ, List, ◌∷◌, ◌++◌, take, refl, sym, ap, ◌∙◌, inl, inr, arith}
use Rattle.std.proofs.lemmas.List.{drop_all}
use Rattle.cad_office_socket.specs.Turns.{unread}
use Rattle.cad_office_socket.proofs.TurnLemmas.{line_and_rest}
use Rattle.cad_office_socket.proofs.entry.Entry.feed_some.Goals as goal

pub returns-in_default : goal.returns-in_default
returns-in_default g c =
    let entry = c.args.self.now in
    let rest : c.rest_from-rest.result.now ≡ unread entry = rw c.deref.ensures.value at c.rest_from-rest.ensures in
    let added = rw rest at c.add_all.ensures in
    let before = rw rest at c.in_default.ensures.before in
    let left = drop_all c.len-self.result entry.input.items (let e = c.len-self.ensures in omega (arith, e)) in
    record { ends = tt; shown = tt; goes_on = refl; fed = λ begun stands. (unread entry, before, inl (refl, refl, c.requires.nothing_unwritten, refl, left, added begun stands, c.requires.no_journal)) }

pub returns : goal.returns
returns g c =
    let entry = c.args.self.now in
    let rest : c.rest_from-rest.result.now ≡ unread entry = rw c.deref.ensures.value at c.rest_from-rest.ensures in
    let added = rw rest at c.add_all-2.ensures in
    let before = rw rest at c.in-Some.ensures.before in
    let ends = rw rest at c.in-Some.ensures.end.1 in
    let part = take c.in-Some.count (unread entry) in
    let whole = line_and_rest entry.input_at c.in-Some.count entry.input.items ends in
    record {
      ends = c.end_line.ensures.ends;
      shown = c.end_line.ensures.shown;
      goes_on = c.end_line.ensures.goes_on;
      fed = λ begun stands.
          let ended = c.end_line.ensures.line (begun ++ part) (added begun stands) in
          (part, before, inr (whole ∙ ap (λ (later : List ℕ). part ++ 10 ∷ later) (sym ended.1), ended.0));
    }
