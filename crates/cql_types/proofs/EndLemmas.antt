-- The ends of an INTERVAL.
use Rattle.std.proofs.Common.{◌≡◌, refl, ap, sym, subst, ◌∙◌, ℕ, false, true, List, codes, Option, Some, None}
use Rattle.std.specs.Option.{is_some}
use Rattle.std.proofs.lemmas.Slice.Eq.{bytes_eq-Decides}
use Rattle.cad_day.specs.DayTexts.{day_named}
use Rattle.cad_schema.specs.declared.property.PropertyKind.{PropertyKind}
use Rattle.cad_schema.specs.declared.property.PropertyKind.TheVariants as property
use Rattle.cad_schema.specs.Attributes.{Named}
use Rattle.cad_schema.specs.Schema.{find}
use Rattle.cql_tree.specs.Syntax.{Syntax, none, part, leaf, name_leaf, node, place_of, interval_op}
use Rattle.cql_types.specs.declared.fault.TypeFault.{TypeFault}
use Rattle.cql_types.specs.declared.fault.TypeFault.TheVariants.{Memory, At}
use Rattle.cql_types.specs.declared.filter.EndTerm.{EndTerm}
use Rattle.cql_types.specs.Kinds.{Kind, whole, text, flag, span, spot, area, Has, leaf_has, no_more, one_more, is_end, is_open, kind_of_name, wrong_kind, unsound}
use Rattle.cad_day.specs.Intervals.{are_turned as is_turned}
use Rattle.cql_types.specs.Literals.{day_at, are_turned}
use Rattle.cql_types.specs.Means.{IsEnd, open_text, day_text, day_name}
use Rattle.cql_types.specs.Contract.{ForFault, IsFirst, node_first, unsound_first, inside_first, here_first, later_first}
use Rattle.cql_types.specs.inner.Reading.{IsEndRead, end_day, property_end}
use Rattle.cql_types.proofs.Fitting.{end_has}

pub end_kind : {s : List Named} {t : Syntax} (o : Option EndTerm) → IsEndRead s t o → (k : Kind) × Has s t k × (is_end k ≡ is_some o)
end_kind None h = h
end_kind (Some e) h = end_has h

open_is : (content : List ℕ) → is_open content ≡ true → codes ".." ≡ content
open_is content e = sym ((bytes_eq-Decides content (codes "..")).0 e)

-- the day that an end's text names
pub end_day_is : {s : List Named} {t : Syntax} {e : EndTerm} → IsEnd s t e → day_at t ≡ end_day e
end_day_is (open_text {content = content} o) = subst (λ c. day_named c ≡ None) (open_is content o) refl
end_day_is (day_text d o e) = e
end_day_is (day_name e) = refl

pub turned_by_ends : {s : List Named} {t u : Syntax} {e f : EndTerm} → IsEnd s t e → IsEnd s u f → is_turned (end_day e) (end_day f) ≡ are_turned (part t (part u none))
turned_by_ends h k = sym (rw (end_day_is h, end_day_is k) refl)

pub name_read : (s : List Named) (p : ℕ) (name : List ℕ) (i : ℕ) (k : PropertyKind) → find s name ≡ Some (i, k) → IsEndRead s (leaf p (name_leaf name)) (property_end i k)
name_read s p name i property.Text e = (text, leaf_has (ap kind_of_name e), refl)
name_read s p name i property.Whole e = (whole, leaf_has (ap kind_of_name e), refl)
name_read s p name i property.Flag e = (flag, leaf_has (ap kind_of_name e), refl)
name_read s p name i property.Day e = day_name e
name_read s p name i property.Span e = (span, leaf_has (ap kind_of_name e), refl)
name_read s p name i property.Spot e = (spot, leaf_has (ap kind_of_name e), refl)
name_read s p name i property.Area e = (area, leaf_has (ap kind_of_name e), refl)

-- ---- faults of the whole

first_bad : {s : List Named} {p : ℕ} {t u : Syntax} → ((k : Kind) × Has s t k × (is_end k ≡ false)) → ((l : Kind) × Has s u l) →
    IsFirst s (node (interval_op p) (part t (part u none))) (wrong_kind (place_of t))
first_bad h k = node_first (one_more h.1 (one_more k.1 no_more)) (rw h.2 refl)

pub first_no_end : {s : List Named} {p : ℕ} {t u : Syntax} (o : Option EndTerm) → IsEndRead s t None → IsEndRead s u o →
    IsFirst s (node (interval_op p) (part t (part u none))) (wrong_kind (place_of t))
first_no_end o h k = let l = end_kind o k in first_bad h (l.0, l.1)

pub last_no_end : {s : List Named} {p : ℕ} {t u : Syntax} {e : EndTerm} → IsEnd s t e → IsEndRead s u None →
    IsFirst s (node (interval_op p) (part t (part u none))) (wrong_kind (place_of u))
last_no_end h k = let f = end_has h in node_first (one_more f.1 (one_more k.1 no_more)) (rw (f.2, k.2) refl)

pub ends_turned : {s : List Named} {p : ℕ} {t u : Syntax} {e f : EndTerm} → IsEnd s t e → IsEnd s u f → is_turned (end_day e) (end_day f) ≡ true →
    IsFirst s (node (interval_op p) (part t (part u none))) (unsound (interval_op p) (part t (part u none)))
ends_turned h k turned =
    let f = end_has h in
    let g = end_has k in
    unsound_first (one_more f.1 (one_more g.1 no_more)) (rw (f.2, g.2) refl) (λ sound. let clash = sym sound ∙ (sym (turned_by_ends h k) ∙ turned) in cc)

pub first_end_wrong : (s : List Named) (p : ℕ) (t u : Syntax) (e : TypeFault) → ForFault (IsFirst s t) e → ForFault (IsFirst s (node (interval_op p) (part t (part u none)))) e
first_end_wrong s p t u Memory h = tt
first_end_wrong s p t u (At f) h = inside_first (here_first h)

pub last_end_wrong : (s : List Named) (p : ℕ) (t u : Syntax) (o : Option EndTerm) (e : TypeFault) → IsEndRead s t o → ForFault (IsFirst s u) e → ForFault (IsFirst s (node (interval_op p) (part t (part u none)))) e
last_end_wrong s p t u o Memory h k = tt
last_end_wrong s p t u o (At f) h k = inside_first (later_first (end_kind o h).1 (here_first k))
