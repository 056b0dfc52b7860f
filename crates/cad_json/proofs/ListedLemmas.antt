-- The properties of a feature, whose values stand in the order of the schema, in byte order of their names.
use Rattle.std.proofs.Common.{◌≡◌, List, [], ◌∷◌, refl}
use Rattle.serde_json.specs.Data.{object}
use Rattle.cad_schema.specs.declared.collection.Collection.{Collection}
use Rattle.cad_schema.specs.declared.collection.Collection.TheVariants.{Parcels, Rights, Restrictions, Units, Parties, Responsibilities}
use Rattle.cad_schema.specs.Attributes.{in_byte_order}
use Rattle.cad_schema.specs.Schema.{schema_of}
use Rattle.cad_feature.specs.Values.{Datum}
use Rattle.cad_feature.specs.Features.{Item}
use Rattle.cad_json.specs.Values.{properties_data}
use Rattle.cad_json.specs.inner.Members.{values_at, members_at}

-- whatever number of values it has
abbrev AreListed : Collection → List Datum → Type 0
AreListed c values = properties_data (schema_of c) values ≡ object (values_at values (in_byte_order c))

listed_parcels : (values : List Datum) → AreListed Parcels values
listed_parcels [] = refl
listed_parcels (a ∷ []) = refl
listed_parcels (a ∷ b ∷ []) = refl
listed_parcels (a ∷ b ∷ c ∷ []) = refl
listed_parcels (a ∷ b ∷ c ∷ d ∷ []) = refl
listed_parcels (a ∷ b ∷ c ∷ d ∷ e ∷ []) = refl
listed_parcels (a ∷ b ∷ c ∷ d ∷ e ∷ f ∷ []) = refl
listed_parcels (a ∷ b ∷ c ∷ d ∷ e ∷ f ∷ g ∷ []) = refl
listed_parcels (a ∷ b ∷ c ∷ d ∷ e ∷ f ∷ g ∷ h ∷ []) = refl
listed_parcels (a ∷ b ∷ c ∷ d ∷ e ∷ f ∷ g ∷ h ∷ i ∷ []) = refl
listed_parcels (a ∷ b ∷ c ∷ d ∷ e ∷ f ∷ g ∷ h ∷ i ∷ j ∷ []) = refl
listed_parcels (a ∷ b ∷ c ∷ d ∷ e ∷ f ∷ g ∷ h ∷ i ∷ j ∷ k ∷ more) = refl

listed_rights : (values : List Datum) → AreListed Rights values
listed_rights [] = refl
listed_rights (a ∷ []) = refl
listed_rights (a ∷ b ∷ []) = refl
listed_rights (a ∷ b ∷ c ∷ []) = refl
listed_rights (a ∷ b ∷ c ∷ d ∷ []) = refl
listed_rights (a ∷ b ∷ c ∷ d ∷ e ∷ []) = refl
listed_rights (a ∷ b ∷ c ∷ d ∷ e ∷ f ∷ []) = refl
listed_rights (a ∷ b ∷ c ∷ d ∷ e ∷ f ∷ g ∷ []) = refl
listed_rights (a ∷ b ∷ c ∷ d ∷ e ∷ f ∷ g ∷ h ∷ []) = refl
listed_rights (a ∷ b ∷ c ∷ d ∷ e ∷ f ∷ g ∷ h ∷ i ∷ []) = refl
listed_rights (a ∷ b ∷ c ∷ d ∷ e ∷ f ∷ g ∷ h ∷ i ∷ j ∷ []) = refl
listed_rights (a ∷ b ∷ c ∷ d ∷ e ∷ f ∷ g ∷ h ∷ i ∷ j ∷ k ∷ []) = refl
listed_rights (a ∷ b ∷ c ∷ d ∷ e ∷ f ∷ g ∷ h ∷ i ∷ j ∷ k ∷ l ∷ more) = refl

listed_restrictions : (values : List Datum) → AreListed Restrictions values
listed_restrictions [] = refl
listed_restrictions (a ∷ []) = refl
listed_restrictions (a ∷ b ∷ []) = refl
listed_restrictions (a ∷ b ∷ c ∷ []) = refl
listed_restrictions (a ∷ b ∷ c ∷ d ∷ []) = refl
listed_restrictions (a ∷ b ∷ c ∷ d ∷ e ∷ []) = refl
listed_restrictions (a ∷ b ∷ c ∷ d ∷ e ∷ f ∷ []) = refl
listed_restrictions (a ∷ b ∷ c ∷ d ∷ e ∷ f ∷ g ∷ []) = refl
listed_restrictions (a ∷ b ∷ c ∷ d ∷ e ∷ f ∷ g ∷ h ∷ []) = refl
listed_restrictions (a ∷ b ∷ c ∷ d ∷ e ∷ f ∷ g ∷ h ∷ i ∷ []) = refl
listed_restrictions (a ∷ b ∷ c ∷ d ∷ e ∷ f ∷ g ∷ h ∷ i ∷ j ∷ []) = refl
listed_restrictions (a ∷ b ∷ c ∷ d ∷ e ∷ f ∷ g ∷ h ∷ i ∷ j ∷ k ∷ []) = refl
listed_restrictions (a ∷ b ∷ c ∷ d ∷ e ∷ f ∷ g ∷ h ∷ i ∷ j ∷ k ∷ l ∷ []) = refl
listed_restrictions (a ∷ b ∷ c ∷ d ∷ e ∷ f ∷ g ∷ h ∷ i ∷ j ∷ k ∷ l ∷ m ∷ more) = refl

listed_units : (values : List Datum) → AreListed Units values
listed_units [] = refl
listed_units (a ∷ []) = refl
listed_units (a ∷ b ∷ []) = refl
listed_units (a ∷ b ∷ c ∷ []) = refl
listed_units (a ∷ b ∷ c ∷ d ∷ []) = refl
listed_units (a ∷ b ∷ c ∷ d ∷ e ∷ []) = refl
listed_units (a ∷ b ∷ c ∷ d ∷ e ∷ f ∷ more) = refl

listed_parties : (values : List Datum) → AreListed Parties values
listed_parties [] = refl
listed_parties (a ∷ []) = refl
listed_parties (a ∷ b ∷ []) = refl
listed_parties (a ∷ b ∷ c ∷ []) = refl
listed_parties (a ∷ b ∷ c ∷ d ∷ []) = refl
listed_parties (a ∷ b ∷ c ∷ d ∷ e ∷ []) = refl
listed_parties (a ∷ b ∷ c ∷ d ∷ e ∷ f ∷ []) = refl
listed_parties (a ∷ b ∷ c ∷ d ∷ e ∷ f ∷ g ∷ more) = refl

pub listed : (c : Collection) (x : Item) → properties_data (schema_of c) x.values ≡ object (members_at x (in_byte_order c))
listed Parcels x = listed_parcels x.values
listed Rights x = listed_rights x.values
listed Restrictions x = listed_restrictions x.values
listed Units x = listed_units x.values
listed Parties x = listed_parties x.values
listed Responsibilities x = listed_rights x.values
