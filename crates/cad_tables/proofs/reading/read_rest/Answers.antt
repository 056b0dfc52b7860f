use Rattle.std.proofs.Common.{refl, sym, ap, subst, ◌∙◌}
use Rattle.std.proofs.lemmas.Result.{err_from_is_err_and}
use Rattle.std.specs.Option.{option_copied}
use Rattle.sqlite.specs.Given.{Advances}
use Rattle.cad_tables.proofs.RowLemmas.{HasReadOn, none_read, rest_refused, all_given, one_more}
use Rattle.cad_tables.proofs.reading.read_rest.Goals as goal

pub loop-init : goal.loop-init
loop-init g c = record {
  same_reference = refl;
  so_far = subst (HasReadOn g.S.Store g.R.Reader.reads c.args.rows.now.conn.now c.args.rows.now.conn.now) (sym c.new-found.ensures.items) (none_read g.S.Store g.R.Reader.reads c.args.rows.now.conn.now);
}

pub returns-in_err-advance-clause-refused : goal.returns-in_err-advance-clause-refused
returns-in_err-advance-clause-refused g c clean =
    let moved = c.in_err-advance.ensures in
    let told = err_from_is_err_and c.from_residual.result c.from_residual.ensures.1 in
    rw (told.1, told.2) (rest_refused g.S.Store g.R.Reader.reads c.args.rows.now.conn.now c.loop.rows.conn.now c.loop.found.items c.loop.invariant.so_far c.advance.new.self.conn.now moved.survives c.in_err-advance.field-0.0 clean (moved.err clean))

pub returns-in_default-clause-shown : goal.returns-in_default-clause-shown
returns-in_default-clause-shown g c =
    let moved = c.in_ok-advance.ensures in
    let old = c.loop.rows.conn.now in
    let new = c.advance.new.self.conn.now in
    all_given g.S.Store g.R.Reader.reads c.args.rows.now.conn.now old c.loop.found.items c.loop.invariant.so_far new moved.survives (λ clean. subst (Advances g.S.Store old new) (sym c.get.ensures ∙ ap option_copied c.in_default.is) (moved.ok clean))

pub loop-preserved : goal.loop-preserved
loop-preserved g c =
    let moved = c.in_ok-advance.ensures in
    let start = c.args.rows.now.conn.now in
    let old = c.loop.rows.conn.now in
    let new = c.advance.new.self.conn.now in
    let row = c.in-Some.row.now in
    let read = c.in_ok-read.field-0 in
    record {
      same_reference = moved.same_reference ∙ c.loop.invariant.same_reference;
      so_far = subst (HasReadOn g.S.Store g.R.Reader.reads start new) (sym c.in_ok-push.ensures.items)
          (one_more g.S.Store g.R.Reader.reads start old c.loop.found.items c.loop.invariant.so_far new moved.survives moved.same moved.mode row read (λ clean. subst (Advances g.S.Store old new) (sym c.get.ensures ∙ ap option_copied c.in-Some.is) (moved.ok clean)) c.in_ok-read.ensures);
    }
