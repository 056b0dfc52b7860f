use Rattle.std.proofs.Common.{◌≡◌, ◌∙◌, ap, ap₂, sym, true}
use Rattle.cad_shape.specs.Shapes.{shape_corners}
use Rattle.cad_grid.specs.Blocks.{block_around}
use Rattle.cad_grid.specs.Near.{is_near}
use Rattle.cql_types.specs.declared.filter.Filter.TheVariants.{Spatial}
use Rattle.cql_types.specs.declared.filter.ShapeTerm.TheVariants as place
use Rattle.cql_meaning.specs.Sides.{yes}
use Rattle.cql_rewrite.specs.Meets.{in_side}
use Rattle.cql_rewrite.proofs.Forms.{meets_Near, told_by_second}
use Rattle.cql_rewrite.specs.Atoms.{is_atom}
use Rattle.cql_rewrite.proofs.AtomLemmas.{atom_Spatial, plain_Near}
use Rattle.cql_rewrite.proofs.spatial.near.Goals as goal

pub returns-in-Property-Constant-clause-stands : goal.returns-in-Property-Constant-clause-stands
returns-in-Property-Constant-clause-stands c = λ x.
    let k = c.in-Property-Constant in
    let e : c.args.filter.now ≡ Spatial c.args.by (place.Property k.property) (place.Constant k.shape) = c.requires.filter ∙ ap₂ (Spatial c.args.by) k.is-0 k.is-1 in
    meets_Near x c.args.filter k.property _
    ∙ told_by_second (is_near k.property (block_around (shape_corners k.shape)) x) (in_side true x c.args.filter.now)
    (λ h. (c.spatial_is_near.ensures x c.args.by k.property k.shape c.requires.near).0 (ap (λ f. yes f x) (sym e) ∙ h))

pub returns-in-Constant-Property-clause-stands : goal.returns-in-Constant-Property-clause-stands
returns-in-Constant-Property-clause-stands c = λ x.
    let k = c.in-Constant-Property in
    let e : c.args.filter.now ≡ Spatial c.args.by (place.Constant k.shape) (place.Property k.property) = c.requires.filter ∙ ap₂ (Spatial c.args.by) k.is-0 k.is-1 in
    meets_Near x c.args.filter k.property _
    ∙ told_by_second (is_near k.property (block_around (shape_corners k.shape)) x) (in_side true x c.args.filter.now)
    (λ h. (c.spatial_is_near.ensures x c.args.by k.property k.shape c.requires.near).1 (ap (λ f. yes f x) (sym e) ∙ h))

pub returns-in-Property-Constant-clause-atoms : goal.returns-in-Property-Constant-clause-atoms
returns-in-Property-Constant-clause-atoms c = plain_Near c.args.filter c.in-Property-Constant.property _ ∙ ap is_atom c.requires.filter ∙ atom_Spatial c.args.by c.args.left.now c.args.right.now

pub returns-in-Constant-Property-clause-atoms : goal.returns-in-Constant-Property-clause-atoms
returns-in-Constant-Property-clause-atoms c = plain_Near c.args.filter c.in-Constant-Property.property _ ∙ ap is_atom c.requires.filter ∙ atom_Spatial c.args.by c.args.left.now c.args.right.now
