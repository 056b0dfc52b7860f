use Rattle.std.proofs.Common.{◌≡◌, ◌∙◌, ◌++◌, [], ◌∷◌, List, pos, int_le, sym, ap, subst, map, refl, true, inl, inr}
use Rattle.std.specs.List.{AllByRecursion}
use Rattle.std.proofs.lemmas.List.{nil_from_length}
use Rattle.cad_versions.specs.Entries.{Entry}
use Rattle.cad_feature.specs.FeaturesThen.{entry_in}
use Rattle.cad_feature.specs.Flatten.{is_in}
use Rattle.cad_feature.specs.VersionRows.{AreRowsOfVersion}
use Rattle.cad_history.specs.inner.Starting.{AreOrdered, items_in, pushed, rows_of}
use Rattle.cad_history.proofs.StartedLemmas.{AreAbove, IsSeen, moved, none_above, no_rows, left_rising, left_above, left_seen, more_rows, more_above, more_seen, are_shown}
use Rattle.cad_history.proofs.starting.all_rows.Goals as goal
use Rattle.cad_history.proofs.starting.all_rows.Goals.{else-is_in-via-then-is_in+else-is_entered_by, else-is_in-via-else-is_in}

pub loop-entry-init : goal.loop-entry-init
loop-entry-init c = rw (c.new-last.ensures.items, c.new-earlier.ensures.items) (record {
  rows = no_rows c.args.collection c.args.newest;
  rising = c.requires.listing.ascending;
  above = none_above c.args.entries.now;
  shown = λ revision low. refl;
})

pub loop-entry-preserved-in_ok-push_rows : goal.loop-entry-preserved-in_ok-push_rows
loop-entry-preserved-in_ok-push_rows c =
    let newest = c.args.newest in
    let all = c.args.entries.now in
    let collection = c.args.collection in
    let last = c.loop-entry.last.items in
    let earlier = map items_in c.loop-entry.earlier.items in
    let rest = c.loop-entry.rest.now in
    let behind = c.in-Some.behind.now in
    let entry = c.in-Some.entry.now in
    let is = c.in-Some.ensures.cases.0 in
    let xs = c.in_ok-rows.rows.earlier.items in
    let row = c.in_ok-rows.rows.newest in
    let inside : entry_in collection entry ≡ true = ap (λ (x : Entry). is_in collection x.version) (sym c.entry.view_is) ∙ sym c.is_in.ensures ∙ c.if-is_in.true in
    let are = subst (λ (es : List Entry). AreRowsOfVersion newest es collection entry xs row) c.new-stored.ensures c.in_ok-rows.ensures in
    let so_far = c.loop-entry.invariant in
    let last_is = c.in_ok-push.ensures.items in
    let lists_are = c.in_ok-push_rows.ensures in
    let ends = last ++ row ∷ [] in
    let lists = pushed xs earlier in
    record {
      rows = moved (λ zs ls. AreOrdered (rows_of collection newest zs ls)) ends c.push.new.self.items lists (map items_in c.push_rows.new.lists.items) last_is lists_are
          (more_rows newest all collection last earlier rest behind entry is so_far.rising so_far.above c.requires.few xs row are so_far.rows);
      rising = left_rising newest all collection last earlier rest behind entry is so_far.rising so_far.above;
      above = moved (λ zs ls. AllByRecursion (AreAbove zs ls) behind) ends c.push.new.self.items lists (map items_in c.push_rows.new.lists.items) last_is lists_are
          (more_above newest all collection last earlier rest behind entry is so_far.rising so_far.above c.requires.few xs row are);
      shown = moved (λ zs ls. IsSeen newest all collection (rows_of collection newest zs ls) behind) ends c.push.new.self.items lists (map items_in c.push_rows.new.lists.items) last_is lists_are
          (more_seen newest all collection last earlier rest behind entry is so_far.rising so_far.above c.requires.few xs row are inside so_far.shown);
    }

pub loop-entry-preserved : goal.loop-entry-preserved
loop-entry-preserved c =
    let newest = c.args.newest in
    let all = c.args.entries.now in
    let collection = c.args.collection in
    let last = c.loop-entry.last.items in
    let earlier = map items_in c.loop-entry.earlier.items in
    let rest = c.loop-entry.rest.now in
    let behind = c.in-Some.behind.now in
    let entry = c.in-Some.entry.now in
    let is = c.in-Some.ensures.cases.0 in
    let so_far = c.loop-entry.invariant in
    let class_is = ap (λ (x : Entry). is_in collection x.version) (sym c.entry.view_is) ∙ sym c.is_in.ensures in
    record {
      rows = so_far.rows;
      rising = left_rising newest all collection last earlier rest behind entry is so_far.rising so_far.above;
      above = left_above newest all collection last earlier rest behind entry is so_far.rising so_far.above;
      shown = elim c.else-is_in.branch [
        | else-is_in-via-then-is_in+else-is_entered_by w ↦ left_seen newest all collection last earlier rest behind entry is so_far.rising so_far.above
            (inr (ap (λ n. int_le (pos entry.entered) (pos n)) (sym w.from.ensures) ∙ sym w.is_entered_by.ensures ∙ w.if-is_entered_by.false)) so_far.shown
        | else-is_in-via-else-is_in w ↦ left_seen newest all collection last earlier rest behind entry is so_far.rising so_far.above (inl (class_is ∙ w.if-is_in.false)) so_far.shown
      ];
    }

pub returns-clause-shown : goal.returns-clause-shown
returns-clause-shown c =
    are_shown c.args.newest c.args.entries.now c.args.collection (rows_of c.args.collection c.args.newest c.loop-entry.last.items (map items_in c.loop-entry.earlier.items)) c.loop-entry.rest.now (nil_from_length _ c.in_default.ensures.cases) c.loop-entry.invariant.shown
