use Rattle.std.proofs.Common.{length}
use Rattle.cql_lexer.proofs.Texts.{IsReadTo}
use Rattle.cql_lexer.proofs.text.text_at.Given as goal

abbrev pub invariant-loop-character : goal.invariant-loop-character
invariant-loop-character l = IsReadTo l.bytes l.content.items l.rest

abbrev pub decreases-loop-character : goal.decreases-loop-character
decreases-loop-character l = length l.rest
