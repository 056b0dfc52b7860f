use Rattle.std.proofs.Common.{◌≡◌, [], ◌∷◌, Ok, refl, codes, false}
use Rattle.sqlite.specs.Compile.{table_defined_by}
use Rattle.sqlite.specs.Change.{created}
use Rattle.sqlite.specs.Source.TheVariants.{Values}
use Rattle.sqlite.specs.Command.TheVariants.{Insert, Select, CreateTable, Update}
use Rattle.sqlite.specs.Listing.{understood, reads_listing}
use Rattle.sqlite.proofs.Callers.{IsPlain, command_of, statement_of}
use Rattle.sqlite_tied.specs.Compute.{everything}
use Rattle.cad_tables.specs.Texts.{state_text, version_text, enter_text, begin_text, count_text, close_text, revision_text, history_text, listing_text, range_text}
use Rattle.cad_tables.specs.Tables.{state_table, version_made, no_schema, state_schema, register_schema}
use Rattle.cad_tables.proofs.Queries.{enter_terms, begin_terms, count_query, close_query, revision_query, history_query, listing_query, range_query}

pub state_is : (command_of (understood no_schema state_text) ≡ CreateTable) × (statement_of state_text (understood no_schema state_text) ≡ state_text) × (table_defined_by state_text ≡ Ok state_table)
unfolding understood everything
state_is = (refl, refl, refl)

pub state_plain : IsPlain (understood no_schema state_text)
unfolding understood everything
state_plain = (refl, refl)

pub version_is : (command_of (understood state_schema version_text) ≡ CreateTable) × (statement_of version_text (understood state_schema version_text) ≡ version_text) × (table_defined_by version_text ≡ Ok (version_made 0))
unfolding understood everything
version_is = (refl, refl, refl)

pub version_plain : IsPlain (understood state_schema version_text)
unfolding understood everything
version_plain = (refl, refl)

pub register_schema_is : created state_schema (version_made 0) ≡ register_schema
unfolding everything
register_schema_is = refl

pub begin_is : command_of (understood register_schema begin_text) ≡ Insert 0 (Values begin_terms 4)
unfolding understood everything
begin_is = refl

pub begin_plain : IsPlain (understood register_schema begin_text)
unfolding understood everything
begin_plain = (refl, refl)

pub enter_is : command_of (understood register_schema enter_text) ≡ Insert 1 (Values enter_terms 20)
unfolding understood everything
enter_is = refl

pub enter_plain : IsPlain (understood register_schema enter_text)
unfolding understood everything
enter_plain = (refl, refl)

pub count_is : command_of (understood register_schema count_text) ≡ Update 0 (record { lets = []; body = count_query })
unfolding understood everything
count_is = refl

pub count_plain : IsPlain (understood register_schema count_text)
unfolding understood everything
count_plain = (refl, refl)

pub close_is : command_of (understood register_schema close_text) ≡ Update 1 (record { lets = []; body = close_query })
unfolding understood everything
close_is = refl

pub close_plain : IsPlain (understood register_schema close_text)
unfolding understood everything
close_plain = (refl, refl)

pub revision_is : (command_of (understood register_schema revision_text) ≡ Select (record { lets = []; body = revision_query }) (codes "format" ∷ codes "revision" ∷ [])) × (reads_listing register_schema revision_text ≡ false)
unfolding understood everything
revision_is = (refl, refl)

pub revision_plain : IsPlain (understood register_schema revision_text)
unfolding understood everything
revision_plain = (refl, refl)

pub history_is : (command_of (understood register_schema history_text) ≡ Select (record { lets = []; body = history_query }) (codes "number" ∷ codes "class" ∷ codes "first" ∷ codes "last" ∷ [])) × (reads_listing register_schema history_text ≡ false)
unfolding understood everything
history_is = (refl, refl)

pub history_plain : IsPlain (understood register_schema history_text)
unfolding understood everything
history_plain = (refl, refl)

pub listing_is : (command_of (understood register_schema listing_text) ≡ Select (record { lets = []; body = listing_query }) (codes "object" ∷ codes "number" ∷ codes "class" ∷ codes "first" ∷ codes "last" ∷ codes "entered" ∷ codes "closed" ∷ codes "name" ∷ codes "code" ∷ codes "label" ∷ codes "area" ∷ codes "unit" ∷ codes "party" ∷ codes "share_num" ∷ codes "share_den" ∷ codes "required" ∷ codes "spot_x" ∷ codes "spot_y" ∷ codes "shape" ∷ [])) × (reads_listing register_schema listing_text ≡ false)
unfolding understood everything
listing_is = (refl, refl)

pub listing_plain : IsPlain (understood register_schema listing_text)
unfolding understood everything
listing_plain = (refl, refl)

pub range_is : (command_of (understood register_schema range_text) ≡ Select (record { lets = []; body = range_query }) (codes "object" ∷ codes "number" ∷ codes "class" ∷ codes "first" ∷ codes "last" ∷ codes "entered" ∷ codes "closed" ∷ codes "name" ∷ codes "code" ∷ codes "label" ∷ codes "area" ∷ codes "unit" ∷ codes "party" ∷ codes "share_num" ∷ codes "share_den" ∷ codes "required" ∷ codes "spot_x" ∷ codes "spot_y" ∷ codes "shape" ∷ [])) × (reads_listing register_schema range_text ≡ false)
unfolding understood everything
range_is = (refl, refl)

pub range_plain : IsPlain (understood register_schema range_text)
unfolding understood everything
range_plain = (refl, refl)
