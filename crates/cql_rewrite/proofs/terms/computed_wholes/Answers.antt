use Rattle.std.proofs.Common.{◌≡◌}
use Rattle.cql_meaning.specs.Arithmetic.{whole_value}
use Rattle.cql_rewrite.proofs.Turns.{flipped_wholes}
use Rattle.cql_rewrite.proofs.terms.computed_wholes.Goals as goal

pub returns-in-Some-Some : goal.returns-in-Some-Some
returns-in-Some-Some c = λ x.
    let a : c.in-Some-Some.a ≡ whole_value x c.args.left.now = c.in-Some-Some.ensures x in
    let b : c.in-Some-Some.b ≡ whole_value x c.args.right.now = c.in-Some-Some.ensures' x in
    rw (← a, ← b) (c.decided_wholes.ensures.says x)

pub returns-in-Some-None : goal.returns-in-Some-None
returns-in-Some-None c = λ x.
    let known : c.in-Some-None.known ≡ whole_value x c.args.left.now = c.in-Some-None.ensures x in
    rw (← (flipped_wholes c.args.by (whole_value x c.args.left.now) (whole_value x c.args.right.now)), ← c.turned.ensures, ← known) (c.against_whole.ensures x)

pub returns-in-None-Some : goal.returns-in-None-Some
returns-in-None-Some c = λ x.
    let known : c.in-None-Some.known ≡ whole_value x c.args.right.now = c.in-None-Some.ensures x in
    rw (← known) (c.against_whole-in-None-Some.ensures x)
