-- A reading holds the commands of its revisions, and goes on holding them.
use Rattle.std.proofs.Common.{◌≡◌, ℕ, zero, suc, ◌≤◌, List, [], ◌∷◌, ◌++◌, length, length-append, take, drop, refl, sym, ap, ◌∙◌, subst, arith}
use Rattle.std.proofs.lemmas.List.{take-append-le}
use Rattle.cad_versions.specs.declared.command.Command.{Command}
use Rattle.cad_memory_ledger.specs.declared.reading.MemoryReading.{MemoryReading}
use Rattle.cad_memory_ledger.specs.Readings.{behind_of, newest_of, commands_of, HasRead, Begins}

all_taken : (n : ℕ) (cs : List Command) → n ≡ length cs → take n cs ≡ cs
all_taken zero [] e = refl
all_taken (suc n) [] e = refl
all_taken zero (c ∷ cs) e = absurd (omega (arith, e))
all_taken (suc n) (c ∷ cs) e = ap (λ ds. c ∷ ds) (all_taken n cs (omega (arith, e)))

pub begun_read : (cs held : List Command) (behind : ℕ) (reading : MemoryReading) → held ≡ cs → Begins behind held reading → HasRead cs reading
begun_read cs held behind reading same begins = subst (λ ds. HasRead ds reading) same (record {
  behind = omega (arith, begins.within, begins.behind_is, begins.newest_is);
  newest = omega (arith, begins.newest_is);
  held = begins.all ∙ ap (λ n. drop n held) (sym begins.behind_is) ∙ ap (drop (behind_of reading)) (sym (all_taken (newest_of reading) held begins.newest_is));
})

pub read_stays : (cs later : List Command) (reading : MemoryReading) → HasRead cs reading → HasRead (cs ++ later) reading
read_stays cs later reading has = record {
  behind = has.behind;
  newest = omega (arith, has.newest, length-append cs later);
  held = has.held ∙ ap (drop (behind_of reading)) (sym (take-append-le (newest_of reading) cs later has.newest));
}
