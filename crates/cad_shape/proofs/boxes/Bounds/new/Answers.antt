use Rattle.cad_shape.proofs.boxes.Bounds.new.Goals as goal

pub invariant_of-result : goal.invariant_of-result
invariant_of-result c =
    record {
      width = c.is_extent.ensures.0 c.if-is_extent.true;
      height = c.is_extent-then-is_extent.ensures.0 c.if-is_extent-2.true;
    }
