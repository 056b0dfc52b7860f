-- Moments and intervals of days as they are asked for (OGC 17-069r4, 7.15.4: parameter datetime; RFC 3339's texts, as jiff reads them).
use Rattle.std.specs.Prelude.{ℕ, ℤ, pos, int_lt, nat_lt, ◌==◌, ◌||◌, Bool, if◌then◌else◌, List, length, codes, Option, Some, None, option_map, option_and_then, Result, Ok, Err}
use Rattle.std.specs.Option.{option_or, ok_or}
use Rattle.std.specs.Result.{result_ok, result_map_both}
use Rattle.std.specs.Int.{int_div_euclid}
use Rattle.std.specs.List.{list_any, position_or_len, before_first, after_first}
use Rattle.std.specs.Str.{bytes_eq}
use Rattle.jiff_fmt.specs.Temporal.{parse_timestamp}
use Rattle.cad_day.specs.declared.interval.Interval.{Interval}
use Rattle.cad_day.specs.declared.fault.DatetimeFault.{DatetimeFault}
use Rattle.cad_day.specs.declared.fault.DatetimeFault.TheVariants.{NotADate, EndsTurned}
use Rattle.cad_day.specs.DayNumbers.{first_number, last_number}
use Rattle.cad_day.specs.Days.{number_of}
use Rattle.cad_day.specs.DayTexts.{day_named}

-- the day in UTC of the instant this many nanoseconds after 1970-01-01T00:00:00Z, if it is in the years 0000 to 9999
abbrev pub utc_day : ℤ → Option ℤ
utc_day nanosecond =
    let number = int_div_euclid nanosecond (pos 86_400_000_000_000) in
    if int_lt number first_number || int_lt last_number number then None else Some number

-- the day of an instant's text that has nothing in brackets
abbrev pub instant_day : List ℕ → Option ℤ
instant_day text =
    if list_any (λ c. c == 91) text then None else option_and_then utc_day (result_ok (parse_timestamp text))

-- the day of a moment: the one that it names, else that of its instant
abbrev pub moment_day : List ℕ → Option ℤ
moment_day text = option_or (day_named text) (instant_day text)

abbrev pub moment_asked : List ℕ → Result ℤ DatetimeFault
moment_asked text = ok_or (moment_day text) NotADate

-- nothing, or two points
abbrev pub is_open : List ℕ → Bool
is_open text = (length text == 0) || bytes_eq text (codes "..")

-- one end of an interval: None if it is open
abbrev pub end_asked : List ℕ → Result (Option ℤ) DatetimeFault
end_asked text = if is_open text then Ok None else result_map_both Some (λ fault. fault) (moment_asked text)

abbrev pub Ends : Type 0
Ends = Option ℤ × Option ℤ

-- both ends, if the last day does not lie before the first
abbrev pub in_order : Option ℤ → Option ℤ → Result Ends DatetimeFault
in_order None to = Ok (None, to)
in_order (Some first) None = Ok (Some first, None)
in_order (Some first) (Some last) = if int_lt last first then Err EndsTurned else Ok (Some first, Some last)

abbrev pub between : Result (Option ℤ) DatetimeFault → Result (Option ℤ) DatetimeFault → Result Ends DatetimeFault
between (Err fault) to = Err fault
between (Ok from) (Err fault) = Err fault
between (Ok from) (Ok to) = in_order from to

abbrev pub is_slash : ℕ → Bool
is_slash c = c == 47

-- the text before the first slash and the text after it, if there is a slash
abbrev pub parted : List ℕ → Option (List ℕ × List ℕ)
parted text =
    if nat_lt (position_or_len is_slash text) (length text)
    then Some (before_first is_slash text, after_first is_slash text) else None

-- one moment for both ends
abbrev pub one_moment : List ℕ → Result Ends DatetimeFault
one_moment text = let day = result_map_both Some (λ fault. fault) (moment_asked text) in between day day

abbrev pub asked_by : List ℕ → Option (List ℕ × List ℕ) → Result Ends DatetimeFault
asked_by text None = one_moment text
asked_by text (Some parts) = between (end_asked parts.0) (end_asked parts.1)

-- the days that a text asks for: from one end to another if the text has a slash, else those of one moment
abbrev pub asked : List ℕ → Result Ends DatetimeFault
asked text = asked_by text (parted text)

-- the numbers of an interval's first and last day
abbrev pub numbers_of : Interval → Ends
numbers_of days = (option_map number_of days.from, option_map number_of days.to)

abbrev pub answer_of : Result Interval DatetimeFault → Result Ends DatetimeFault
answer_of answer = result_map_both numbers_of (λ fault. fault) answer
