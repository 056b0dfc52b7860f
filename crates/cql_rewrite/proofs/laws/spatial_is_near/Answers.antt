use Rattle.cql_rewrite.proofs.Nearness.{spatial_near}
use Rattle.cql_rewrite.proofs.laws.spatial_is_near.Goals as goal

pub returns : goal.returns
returns c = spatial_near (record {
  overlap = c.bounds_overlap.ensures;
  symmetric = c.meeting_is_symmetric.ensures;
  within = c.within_meets.ensures;
  tests = c.tests_tell.ensures;
  cells = c.shared_cells_are_touched.ensures;
})
