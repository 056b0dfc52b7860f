-- What holds of every query.
use Rattle.std.specs.Prelude.{◌≡◌, ℕ, ◌<◌, ◌^◌, List, map, option_map}
use Rattle.cad_schema.specs.declared.collection.Collection.{Collection}
use Rattle.cql_types.specs.Conditions.{condition_in}
use Rattle.cad_parameters.specs.Pairs.{PairText, pair_text}
use Rattle.cad_parameters.specs.Identifiers.{Numbers, Identifies, identifier_text, numbers_of}
use Rattle.cad_parameters.specs.Links.{continued}
use Rattle.cad_parameters.specs.Laws.{AsksToGoOn}
use Rattle.cad_ask.specs.declared.ask.Ask.{Ask}
use Rattle.cad_ask.specs.declared.fault.AskFault.{AskFault}
use Rattle.cad_ask.specs.Answers.{IsAsk, AsksWell, IsFirstFault, IsLeastFault}

-- pairs have at most one first fault
abbrev pub HasOneFirstFault : Type 0
HasOneFirstFault =
    (c : Collection) (pairs : List PairText) (f g : AskFault) → IsFirstFault c pairs f → IsFirstFault c pairs g → f ≡ g

-- the first fault is the one with the lowest number among the faults of the pairs
abbrev pub TheFirstIsTheLeast : Type 0
TheFirstIsTheLeast =
    (c : Collection) (pairs : List PairText) (f : AskFault)
    → (IsFirstFault c pairs f → IsLeastFault c pairs f) × (IsLeastFault c pairs f → ¬ ¬ IsFirstFault c pairs f)

-- pairs with a first fault ask for nothing
abbrev pub HasFaultOrAsks : Type 0
HasFaultOrAsks = (c : Collection) (pairs : List PairText) (f : AskFault) → IsFirstFault c pairs f → ¬ AsksWell c pairs

-- the pairs of the next page ask for the same, at the page's revision and after its last feature
abbrev pub NextAsksTheSame : Type 0
NextAsksTheSame =
    (c : Collection) (pairs : List PairText) (revision : ℕ) (last : Numbers)
    → revision < 10 ^ 18 → Identifies (identifier_text last) last → AsksWell c pairs
    → AsksWell c (continued revision last pairs) × AsksToGoOn pairs revision last (continued revision last pairs)

-- two values ask the same, except for where they are in memory
pub record AskTheSame (a b : Ask) : Type 0 where
  pub collection : a.collection ≡ b.collection
  pub pairs : map pair_text a.pairs.items ≡ map pair_text b.pairs.items
  pub limit : a.selection.limit ≡ b.selection.limit
  pub datetime : a.selection.datetime ≡ b.selection.datetime
  pub bbox : a.selection.bbox ≡ b.selection.bbox
  pub condition : option_map condition_in a.filter ≡ option_map condition_in b.filter
  pub revision : a.continuation.revision ≡ b.continuation.revision
  pub after : option_map numbers_of a.continuation.after ≡ option_map numbers_of b.continuation.after

-- the pairs of a query ask at most one thing
abbrev pub PairsAskOneThing : Type 0
PairsAskOneThing = (c : Collection) (pairs : List PairText) (a b : Ask) → IsAsk c pairs a → IsAsk c pairs b → AskTheSame a b
