-- The characters of a text that is lent or owned, if there is a text.
use Rattle.std.specs.Prelude.{ℕ, List, Option, chars, option_map}
use Rattle.std.specs.Cow.{cow_str_bytes}
use Rattle.std.specs.declared.alloc.Global.{Global}
use Rattle.std.specs.declared.borrow.CowStr.{CowStr}

abbrev pub content : Option (CowStr Global) → Option (List ℕ)
content text = option_map (λ t. chars (cow_str_bytes t)) text
