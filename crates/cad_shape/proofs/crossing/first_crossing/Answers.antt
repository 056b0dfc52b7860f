use Rattle.std.proofs.Common.{◌≡◌, ℕ, ◌+◌, ◌<◌, ◌≤◌, ⊎_elim, List, length, refl, sym, ◌∙◌, subst, arith}
use Rattle.std.proofs.lemmas.Bool.{false≢true, cases_lt}
use Rattle.cad_shape.specs.Edges.{edges_of}
use Rattle.cad_shape.specs.Crossings.{IsCrossing, IsFirstCrossing}
use Rattle.cad_shape.specs.declared.point.Point.{Point}
use Rattle.cad_shape.proofs.Walks.{length-edges}
use Rattle.cad_shape.proofs.crossing.first_crossing.Goals as goal

row_more : (P : ℕ → Type 0) (i j : ℕ) → ((m : ℕ) → i ≤ m → m < j → ¬ (P m)) → ¬ (P j) → (m : ℕ) → i ≤ m → m < j + 1 → ¬ (P m)
row_more P i j h n m a b p = ⊎_elim (λ l. h m a l p) (λ l. let e : m ≡ j = omega arith in n (subst P e p)) (cases_lt m j)

rows_more : (P : ℕ → ℕ → Type 0) (n i j : ℕ) → n ≤ j → ((k m : ℕ) → k < i → k ≤ m → m < n → ¬ (P k m)) → ((m : ℕ) → i ≤ m → m < j → ¬ (P i m)) → (k m : ℕ) → k < i + 1 → k ≤ m → m < n → ¬ (P k m)
rows_more P n i j e h r k m a b d p =
    ⊎_elim (λ l. h k m l b d p) (λ l. let is : k ≡ i = omega arith in r m (omega arith) (omega arith) (subst (λ (z : ℕ). P z m) is p)) (cases_lt k i)

pub loop-j-preserved : goal.loop-j-preserved
loop-j-preserved c = record {
  rows = c.loop-j.invariant.rows;
  row = row_more (λ m. IsCrossing (edges_of c.args.corners.now) c.loop-i.i m) c.loop-i.i c.loop-j.j c.loop-j.invariant.row (λ h. false≢true (sym c.if-is_crossing.false ∙ c.is_crossing.ensures.1 h));
}

pub loop-i-preserved : goal.loop-i-preserved
loop-i-preserved c = rows_more (λ k m. IsCrossing (edges_of c.args.corners.now) k m) (length c.args.corners.now) c.loop-i.i c.loop-j.j (omega arith) c.loop-j.invariant.rows c.loop-j.invariant.row

first : (corners : List Point) (i j : ℕ) → i ≤ j → j < length corners → IsCrossing (edges_of corners) i j
    → ((k m : ℕ) → k < i → k ≤ m → m < length corners → ¬ (IsCrossing (edges_of corners) k m)) → ((m : ℕ) → i ≤ m → m < j → ¬ (IsCrossing (edges_of corners) i m))
    → IsFirstCrossing (edges_of corners) i j
first corners i j o w cross rows row = record {
  ordered = o;
  within = omega (arith, length-edges corners);
  cross = cross;
  first = λ k l a b before. ⊎_elim
      (λ d. rows k l d a (omega (arith, length-edges corners)))
      (λ d. subst (λ (z : ℕ). ¬ (IsCrossing (edges_of corners) z l)) (sym d.0) (row l (let e = d.0 in omega arith) d.1))
      before;
}

pub returns-then-is_crossing : goal.returns-then-is_crossing
returns-then-is_crossing c = first c.args.corners.now c.loop-i.i c.loop-j.j (omega arith) c.loop-j-test.true (c.if-is_crossing.ensures.0 refl) c.loop-j.invariant.rows c.loop-j.invariant.row

pub returns : goal.returns
returns c = λ k l a b. c.loop-i.invariant k l (omega (arith, length-edges c.args.corners.now)) a (omega (arith, length-edges c.args.corners.now))
