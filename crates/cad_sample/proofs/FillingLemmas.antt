-- One command more, and what a ledger stands for after many.
use Rattle.std.proofs.Common.{◌≡◌, ℕ, ◌+◌, List, [], ◌∷◌, ◌++◌, length, map, arith, length-append, append-nil, append_assoc, Result, Ok, Err, refl, sym, ap, ◌∙◌}
use Rattle.std.proofs.lemmas.List.{map-append}
use Rattle.std.proofs.lemmas.List.Sums.{fold-append}
use Rattle.cad_versions.specs.declared.command.Command.{Command}
use Rattle.cad_versions.specs.declared.fault.RegisterFault.{RegisterFault}
use Rattle.cad_versions.specs.declared.ledger.Ledger.{Ghosts}
use Rattle.cad_versions.specs.LedgerCalls.{Applies}
use Rattle.cad_versions.specs.Refusals.{AreAccepted}
use Rattle.cad_versions.specs.Versions.{versions, versions_after}
use Rattle.cad_sample.specs.Instructions.{Instruction, instruction_of}
use Rattle.cad_sample.specs.Sample.{sample_commands}
use Rattle.cad_sample.specs.Filling.{Answers, Accepts, Enters, IsFilled}

accepts_one_more : {B : Type 0} (applies : B → Command → Result ℕ RegisterFault → B → Type 0) (done : List Instruction) (next : Instruction) (old mid new : B) (first revision last : ℕ) → Accepts applies done old first revision mid → Answers applies mid next (Ok last) new → Accepts applies (done ++ next ∷ []) old first last new
accepts_one_more applies [] next old mid new first revision last e h = (last, new, rw (e.0) at h, (refl, refl))
accepts_one_more applies (one ∷ done) next old mid new first revision last a h =
    (a.0, a.1, a.2, accepts_one_more applies done next a.1 mid new a.0 revision last a.3 h)

pub accepts_more : {B : Type 0} (applies : B → Command → Result ℕ RegisterFault → B → Type 0) (done : List Command) (next : Command) (old mid new : B) (first revision last : ℕ) → Accepts applies (map instruction_of done) old first revision mid → applies mid next (Ok last) new → Accepts applies (map instruction_of (done ++ next ∷ [])) old first last new
accepts_more applies done next old mid new first revision last a h =
    rw (map-append instruction_of done (next ∷ [])) (accepts_one_more applies (map instruction_of done) (instruction_of next) old mid new first revision last a (next, refl, h))

-- what was yielded, the one after it and the rest are all
pub all_but_rest : (done : List Command) (next : Command) (rest all : List Command) → done ++ next ∷ rest ≡ all → map instruction_of all ≡ map instruction_of done ++ instruction_of next ∷ map instruction_of rest
all_but_rest done next rest all e = ap (map instruction_of) (sym e) ∙ map-append instruction_of done (next ∷ rest)

-- as many as all are all
pub all_of : (done rest all : List Command) → done ++ rest ≡ all → length done ≡ length all → done ≡ all
all_of done [] all e n = sym (append-nil done) ∙ e
all_of done (next ∷ rest) all e n = absurd (omega (arith, n, length-append done (next ∷ rest), ap length e))

-- the versions after one command more
versions_then : (commands : List Command) (next : Command) → versions (commands ++ next ∷ []) ≡ versions_after (versions commands) next
versions_then commands next = fold-append versions_after [] commands (next ∷ [])

-- what the last answer counted before, the first one did
counts_before : {L : Type 0} (g : Ghosts L) (all : List Instruction) (old new : L) (first last : ℕ) → Accepts (Applies g) all old first last new → g.counts new → g.counts old
counts_before g [] old new first last a counts = rw a.0 at counts
counts_before g (one ∷ more) old new first last a counts = a.2.2.clean (counts_before g more a.1 new a.0 last a.3 counts)

-- commands that say this were accepted after these, and the ledger stands for all of them
abbrev IsAdded : {L : Type 0} → Ghosts L → List Instruction → List Command → L → Type 0
IsAdded g all commands new =
    (added : List Command) × (map instruction_of added ≡ all) × AreAccepted (versions commands) added × g.stands_for new (commands ++ added)

stands_after : {L : Type 0} (g : Ghosts L) (all : List Instruction) (old new : L) (first last : ℕ) (commands : List Command) → Accepts (Applies g) all old first last new → g.counts new → g.stands_for old commands → IsAdded g all commands new
stands_after g [] old new first last commands a counts stands = ([], refl, tt, rw (a.0, append-nil commands) stands)
stands_after g (one ∷ more) old new first last commands a counts stands =
    let told = a.2.2.accepted (counts_before g more a.1 new a.0 last a.3 counts) commands stands in
    let rest = stands_after g more a.1 new a.0 last (commands ++ a.2.0 ∷ []) a.3 counts told.2 in
    (a.2.0 ∷ rest.0, rw (a.2.1, rest.1) refl, (told.0, rw (versions_then commands a.2.0) at rest.2), rw (append_assoc commands (a.2.0 ∷ []) rest.0) at rest.3)

-- the last revision counts the commands
last_counts : {L : Type 0} (g : Ghosts L) (all : List Instruction) (old new : L) (first last : ℕ) (commands : List Command) → Accepts (Applies g) all old first last new → g.counts new → g.stands_for old commands → first ≡ length commands → last ≡ length commands + length all
last_counts g [] old new first last commands a counts stands e = omega (arith, a.1, e)
last_counts g (one ∷ more) old new first last commands a counts stands e =
    let told = a.2.2.accepted (counts_before g more a.1 new a.0 last a.3 counts) commands stands in
    let rest = last_counts g more a.1 new a.0 last (commands ++ a.2.0 ∷ []) a.3 counts told.2 (told.1 ∙ sym (length-append commands (a.2.0 ∷ []))) in
    omega (arith, rest, length-append commands (a.2.0 ∷ []))

pub is_filled : {L : Type 0} (g : Ghosts L) (old new : L) (result : Result ℕ RegisterFault) → Enters (Applies g) sample_commands old result new → IsFilled g old result new
is_filled g old new (Ok revision) enters counts stands =
    let added = stands_after g sample_commands old new 0 revision [] enters counts stands in
    (last_counts g sample_commands old new 0 revision [] enters counts stands refl, added)
is_filled g old new (Err fault) enters counts stands = tt
