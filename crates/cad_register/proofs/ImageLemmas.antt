-- What an open finds in the files of a register.
use Rattle.std.proofs.Common.{◌≡◌, inl, inr, sym, subst, ◌∙◌, arith, ap}
use Rattle.sqlite.specs.Recovery.{Image}
use Rattle.sqlite.specs.Effect.{Database}
use Rattle.sqlite.specs.Files.{AreFoundIn}
use Rattle.sqlite.specs.Start.{FindsIn}
use Rattle.sqlite.specs.State.{State, HasCleanDisk, Opens, IsLive}
use Rattle.cad_tables.specs.Tables.{no_schema}
use Rattle.cad_tables.specs.lemmas.SchemaLemmas.{no_schema_only}
use Rattle.cad_register.specs.Images.{IsEmptyFile, FindsRegister}
use Rattle.cad_register.specs.Surviving.{IsDiskOf}

empty_file : (image : Image) (s : State) → IsEmptyFile image → AreFoundIn image s.committed.trees → Opens s → IsLive s → s.now.schema ≡ no_schema
empty_file image s none (inl found) opens live = absurd (omega (arith, none, found.3.found.present))
empty_file image s none (inr found) opens live =
    let listed = (live opens.is_open).1 in
    ap (λ (db : Database). db.schema) opens.clean ∙ no_schema_only s.committed.trees s.committed.schema found.1.1 listed

-- what an open gives is found in the files
pub finds_register : (image : Image) (s : State) → (HasCleanDisk s → Opens s × IsLive s) → (HasCleanDisk s → FindsIn image s) → FindsRegister image s
finds_register image s opened found = record {
  held = λ clean commands holds. record {
    opens = (opened clean).0;
    live = (opened clean).1;
    disk = subst (IsDiskOf commands) (sym ((found clean).holds holds.0 holds.1)) holds.2;
  };
  empty = λ clean none. empty_file image s none (found clean).reads (opened clean).0 (opened clean).1;
}
