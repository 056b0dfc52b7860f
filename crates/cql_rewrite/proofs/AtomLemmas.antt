-- Forms whose conditions are atoms.
use Rattle.std.proofs.Common.{◌≡◌, ◌∙◌, ap, sym, refl, ℕ, List, [], ◌∷◌, ◌++◌, ◌&&◌, ◌<◌, Bool, true, Vec, Bor, length, get_or}
use Rattle.std.proofs.lemmas.Bool.{and_parts}
use Rattle.std.specs.List.{list_all, remove}
use Rattle.std.specs.declared.alloc.Global.{Global}
use Rattle.cad_feature.specs.Folded.{FoldedValue, PatternOfFolded}
use Rattle.cad_feature.specs.declared.range.Range.{Range as RangeOf}
use Rattle.cad_shape.specs.declared.shape.Shape.{Shape}
use Rattle.cql_lexer.specs.declared.token.Comparison.{Comparison}
use Rattle.cql_lexer.specs.declared.token.SpatialRelation.{SpatialRelation}
use Rattle.cql_types.specs.declared.filter.DayTerm.{DayTerm}
use Rattle.cql_types.specs.declared.filter.FlagTerm.{FlagTerm}
use Rattle.cql_types.specs.declared.filter.ShapeTerm.{ShapeTerm}
use Rattle.cql_types.specs.declared.filter.TextTerm.{TextTerm}
use Rattle.cql_types.specs.declared.filter.WholeTerm.{WholeTerm}
use Rattle.cql_types.specs.declared.filter.Filter.{Filter}
use Rattle.cql_types.specs.declared.filter.Filter.TheVariants as filter
use Rattle.cql_types.specs.declared.filter.Filter.TheFolds.{fold-roll-Filter}
use Rattle.cql_types.specs.declared.filter.Filter.TheOpen.{Filter-F}
use Rattle.cql_rewrite.specs.Atoms.{HasPlainAtoms, HavePlainAtoms, IsAtom, atom_step, has_plain_atoms, is_atom, plain_step}
use Rattle.cql_rewrite.specs.declared.form.Normal.{Normal}
use Rattle.cql_rewrite.specs.declared.form.Normal.TheVariants.{And, Atom, Owned, Folded, LikeFolded, Near, Or, Range, rolls-And, rolls-Atom, rolls-Owned, rolls-Folded, rolls-LikeFolded, rolls-Near, rolls-Or, rolls-Range}
use Rattle.cql_rewrite.specs.declared.form.Normal.TheFolds.{fold-roll-Normal}
use Rattle.cql_rewrite.specs.declared.form.Normal.TheOpen.{Normal-F}
use Rattle.cql_rewrite.proofs.Forms.{all_at, all_more, all_remove, list_all-map}

-- ---- conditions that are atoms

pub atom_CompareWhole : (by : Comparison) (a b : WholeTerm) → IsAtom (filter.CompareWhole by a b)
atom_CompareWhole by a b = ap is_atom (sym (filter.rolls-CompareWhole by a b)) ∙ fold-roll-Filter Bool atom_step (Filter-F.CompareWhole by a b)

pub atom_CompareText : (by : Comparison) (a b : TextTerm) → IsAtom (filter.CompareText by a b)
atom_CompareText by a b = ap is_atom (sym (filter.rolls-CompareText by a b)) ∙ fold-roll-Filter Bool atom_step (Filter-F.CompareText by a b)

pub atom_CompareDay : (by : Comparison) (a b : DayTerm) → IsAtom (filter.CompareDay by a b)
atom_CompareDay by a b = ap is_atom (sym (filter.rolls-CompareDay by a b)) ∙ fold-roll-Filter Bool atom_step (Filter-F.CompareDay by a b)

pub atom_Like : (a pattern : TextTerm) → IsAtom (filter.Like a pattern)
atom_Like a pattern = ap is_atom (sym (filter.rolls-Like a pattern)) ∙ fold-roll-Filter Bool atom_step (Filter-F.Like a pattern)

pub atom_Between : (a low high : WholeTerm) → IsAtom (filter.Between a low high)
atom_Between a low high = ap is_atom (sym (filter.rolls-Between a low high)) ∙ fold-roll-Filter Bool atom_step (Filter-F.Between a low high)

pub atom_InWhole : (a : WholeTerm) (items : Vec WholeTerm Global) → IsAtom (filter.InWhole a items)
atom_InWhole a items = ap is_atom (sym (filter.rolls-InWhole a items)) ∙ fold-roll-Filter Bool atom_step (Filter-F.InWhole a items)

pub atom_InText : (a : TextTerm) (items : Vec TextTerm Global) → IsAtom (filter.InText a items)
atom_InText a items = ap is_atom (sym (filter.rolls-InText a items)) ∙ fold-roll-Filter Bool atom_step (Filter-F.InText a items)

pub atom_InDay : (a : DayTerm) (items : Vec DayTerm Global) → IsAtom (filter.InDay a items)
atom_InDay a items = ap is_atom (sym (filter.rolls-InDay a items)) ∙ fold-roll-Filter Bool atom_step (Filter-F.InDay a items)

pub atom_InFlag : (a : FlagTerm) (items : Vec FlagTerm Global) → IsAtom (filter.InFlag a items)
atom_InFlag a items = ap is_atom (sym (filter.rolls-InFlag a items)) ∙ fold-roll-Filter Bool atom_step (Filter-F.InFlag a items)

pub atom_Spatial : (by : SpatialRelation) (a b : ShapeTerm) → IsAtom (filter.Spatial by a b)
atom_Spatial by a b = ap is_atom (sym (filter.rolls-Spatial by a b)) ∙ fold-roll-Filter Bool atom_step (Filter-F.Spatial by a b)

-- ---- forms

pub plain_Range : (r : RangeOf) → HasPlainAtoms (Range r)
plain_Range r = ap has_plain_atoms (sym (rolls-Range r)) ∙ fold-roll-Normal Bool plain_step (Normal-F.Range r)

pub plain_Atom : (f : Bor Filter) (side : Bool) → has_plain_atoms (Atom f side) ≡ is_atom f.now
plain_Atom f side = ap has_plain_atoms (sym (rolls-Atom f side)) ∙ fold-roll-Normal Bool plain_step (Normal-F.Atom f side)

pub plain_Owned : (f : Filter) (side : Bool) → has_plain_atoms (Owned f side) ≡ is_atom f
plain_Owned f side = ap has_plain_atoms (sym (rolls-Owned f side)) ∙ fold-roll-Normal Bool plain_step (Normal-F.Owned f side)

pub plain_Folded : (text : FoldedValue) → HasPlainAtoms (Folded text)
plain_Folded text = ap has_plain_atoms (sym (rolls-Folded text)) ∙ fold-roll-Normal Bool plain_step (Normal-F.Folded text)

pub plain_LikeFolded : (p : PatternOfFolded) → HasPlainAtoms (LikeFolded p)
plain_LikeFolded p = ap has_plain_atoms (sym (rolls-LikeFolded p)) ∙ fold-roll-Normal Bool plain_step (Normal-F.LikeFolded p)

pub plain_Near : (f : Bor Filter) (property : ℕ) (shape : Bor Shape) → has_plain_atoms (Near f property shape) ≡ is_atom f.now
plain_Near f property shape = ap has_plain_atoms (sym (rolls-Near f property shape)) ∙ fold-roll-Normal Bool plain_step (Normal-F.Near f property shape)

pub plain_And : (v : Vec Normal Global) → has_plain_atoms (And v) ≡ list_all has_plain_atoms v.items
plain_And v = ap has_plain_atoms (sym (rolls-And v)) ∙ fold-roll-Normal Bool plain_step (Normal-F.And v) ∙ list_all-map (λ b. b) has_plain_atoms v.items

pub plain_Or : (v : Vec Normal Global) → has_plain_atoms (Or v) ≡ list_all has_plain_atoms v.items
plain_Or v = ap has_plain_atoms (sym (rolls-Or v)) ∙ fold-roll-Normal Bool plain_step (Normal-F.Or v) ∙ list_all-map (λ b. b) has_plain_atoms v.items

-- ---- lists of forms

pub both_true : {a b : Bool} → a ≡ true → b ≡ true → (a && b) ≡ true
both_true e f = rw (e, f) refl

pub plain_none : {ns : List Normal} → ns ≡ [] → HavePlainAtoms ns
plain_none e = ap (list_all has_plain_atoms) e

-- one more part
pub plain_pushed : (old new : List Normal) (n : Normal) → new ≡ old ++ n ∷ [] → HavePlainAtoms old → HasPlainAtoms n → HavePlainAtoms new
plain_pushed old new n e h k = rw (e, all_more has_plain_atoms old n) (both_true h k)

-- the others of a list of which one was taken out, and that one
pub plain_others : (old rest : List Normal) (i : ℕ) (n : Normal) → i < length old → rest ≡ remove old i → HavePlainAtoms old → HavePlainAtoms rest
plain_others old rest i n l e h = ap (list_all has_plain_atoms) e ∙ (and_parts (list_all has_plain_atoms (remove old i)) (has_plain_atoms (get_or old i n)) (sym (all_remove has_plain_atoms old i n l) ∙ h)).0

pub plain_one : (old : List Normal) (i : ℕ) (n : Normal) → i < length old → n ≡ get_or old i n → HavePlainAtoms old → HasPlainAtoms n
plain_one old i n l e h = ap has_plain_atoms e ∙ all_at has_plain_atoms old i n h l

-- those of an iterator that are left, of which one is taken
pub plain_taken : (rest left : List Normal) (n : Normal) → rest ≡ n ∷ left → HavePlainAtoms rest → HasPlainAtoms n
plain_taken rest left n e h = (and_parts (has_plain_atoms n) (list_all has_plain_atoms left) (sym (ap (list_all has_plain_atoms) e) ∙ h)).0

pub plain_left : (rest left : List Normal) (n : Normal) → rest ≡ n ∷ left → HavePlainAtoms rest → HavePlainAtoms left
plain_left rest left n e h = (and_parts (has_plain_atoms n) (list_all has_plain_atoms left) (sym (ap (list_all has_plain_atoms) e) ∙ h)).1
