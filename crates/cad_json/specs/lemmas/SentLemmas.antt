-- The text that is written for the events of a tree.
use Rattle.std.proofs.Common.{◌≡◌, ◌≤◌, ℕ, List, [], Some, false, refl, ap, ◌∙◌}
use Rattle.std.proofs.lemmas.Bool.{or_from}
use Rattle.serde.specs.Event.{Log}
use Rattle.serde_json.specs.Data.{Num, unsigned, negative, float, Data, null, boolean, number, string, array, object, Items, no_items, item, Members, no_members, member, depth}
use Rattle.serde_json.specs.Find.{is_float}
use Rattle.serde_json.specs.Read.{max_depth, read}
use Rattle.serde_json.specs.Sent.{IsTextOf}
use Rattle.serde_json.specs.Written.{has_float, items_have_float, members_have_float, compact_text}
use Rattle.serde_json.proofs.FreeTexts.{text_of_value}
use Rattle.cad_json.specs.Order.{IsInOrder}
use Rattle.cad_json.specs.Sent.{IsWhole, IsOfWholes, AreItemsOfWholes, AreMembersOfWholes, Sends}
use Rattle.cad_json.specs.lemmas.ReadLemmas.{read_again}

no_float : (n : Num) → IsWhole n → is_float n ≡ false
no_float (unsigned n) whole = refl
no_float (negative z) whole = refl
no_float (float x) whole = absurd whole

mutual
  nowhere : (d : Data) → IsOfWholes d → has_float d ≡ false
  nowhere null whole = refl
  nowhere (boolean b) whole = refl
  nowhere (number n) whole = no_float n whole
  nowhere (string s) whole = refl
  nowhere (array ds) whole = not_in_items ds whole
  nowhere (object ms) whole = not_in_members ms whole

  not_in_items : (ds : Items) → AreItemsOfWholes ds → items_have_float ds ≡ false
  not_in_items no_items whole = refl
  not_in_items (item d ds) whole = or_from (has_float d) _ (nowhere d whole.0) (not_in_items ds whole.1)

  not_in_members : (ms : Members) → AreMembersOfWholes ms → members_have_float ms ≡ false
  not_in_members no_members whole = refl
  not_in_members (member k d ms) whole = or_from (has_float d) _ (nowhere d whole.0) (not_in_members ms whole.1)

-- it is the compact text of the tree
pub sent_text : (d : Data) (log : Log) (text : List ℕ) → Sends d (Some []) log → IsTextOf log text → text ≡ compact_text d
sent_text d log text sent is = text_of_value d log text sent.0 is (nowhere d sent.1)

-- and is read back as that tree
pub sent_read : (d : Data) (log : Log) (text : List ℕ) → Sends d (Some []) log → IsTextOf log text → IsInOrder d → depth d ≤ max_depth → read text ≡ Some d
sent_read d log text sent is all low = ap read (sent_text d log text sent is) ∙ read_again d all sent.1 low
