use Rattle.std.proofs.Common.{◌≡◌, map, length}
use Rattle.std.specs.Str.{str_eq_ignore_ascii_case}
use Rattle.cql_lexer.specs.Tables.{entry_of}
use Rattle.cql_lexer.proofs.keyword.find_keyword.Given as goal

abbrev pub invariant-loop-entries : goal.invariant-loop-entries
invariant-loop-entries l =
    entry_of str_eq_ignore_ascii_case (map (λ entry. (entry.0.now, entry.1)) l.entries) l.spelling
    ≡ entry_of str_eq_ignore_ascii_case (map (λ entry. (entry.0.now, entry.1)) l.table) l.spelling

abbrev pub decreases-loop-entries : goal.decreases-loop-entries
decreases-loop-entries l = length l.entries
