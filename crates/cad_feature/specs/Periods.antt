-- The revisions at which a feature has its values (SQL:2011, 4.15.7: system-versioned tables; revisions: own profile).
use Rattle.std.specs.Prelude.{ℕ, Bool, ◌&&◌, nat_le, nat_lt}
use Rattle.cad_feature.specs.declared.period.Period.{Period}

-- all revisions; there are fewer than this
abbrev pub always : Period
always = record { start = 0; end = 4294967295 }

-- the revision is one of the period
abbrev pub is_within : Period → ℕ → Bool
is_within period revision = nat_le period.start revision && nat_lt revision period.end
