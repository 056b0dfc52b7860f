-- What a service did since its start, in numbers (own profile).
use Rattle.std.specs.Prelude.{◌≡◌, ⊤, ℕ, ◌+◌, ◌-◌, ◌^◌, min, max, ◌==◌, if◌then◌else◌, List, [], ◌∷◌}
use Rattle.cad_office.specs.declared.print.Answer.{Answer}
use Rattle.cad_office.specs.declared.print.Answer.TheVariants.{Entered, Refused, NotACommand}
use Rattle.cad_office_socket.specs.declared.figures.CommandCounts.{CommandCounts}
use Rattle.cad_office_socket.specs.declared.figures.Figures.{Figures}
use Rattle.cad_office_socket.specs.declared.figures.ReplyCounts.{ReplyCounts}
use Rattle.cad_office_socket.specs.declared.figures.WorkCounts.{WorkCounts}
use Rattle.cad_office_socket.specs.declared.turned.EntryTurned.{EntryTurned}
use Rattle.cad_office_socket.specs.declared.turned.EntryTurned.TheVariants.{Answered, Lost, StatusAnswered}

-- a counter goes up to the largest number of its type
abbrev pub one_more : ℕ → ℕ
one_more n = min (n + 1) (2 ^ 64 - 1)

-- after one more client is connected; how many are connected at the same time is counted apart
abbrev pub figures_with_client : Figures → Figures
figures_with_client figures = record {
  clients = record { connected = figures.clients.connected; all = one_more figures.clients.all };
  replies = figures.replies;
  reply_bytes = figures.reply_bytes;
  commands = figures.commands;
  resident_bytes = figures.resident_bytes;
  seconds = figures.seconds;
  work = figures.work;
}

-- after a reply with this status, and so many bytes
abbrev pub count_if : ℕ → ℕ → ℕ → ℕ
count_if of status count = if status == of then one_more count else count

abbrev pub replies_after : ReplyCounts → ℕ → ReplyCounts
replies_after counts status = record {
  ok = count_if 200 status counts.ok;
  bad_request = count_if 400 status counts.bad_request;
  not_found = count_if 404 status counts.not_found;
  method_not_allowed = count_if 405 status counts.method_not_allowed;
  internal_error = count_if 500 status counts.internal_error;
  unavailable = count_if 503 status counts.unavailable;
}

abbrev pub figures_replied : Figures → ℕ → ℕ → Figures
figures_replied figures status bytes = record {
  clients = figures.clients;
  replies = replies_after figures.replies status;
  reply_bytes = min (figures.reply_bytes + bytes) (2 ^ 64 - 1);
  commands = figures.commands;
  resident_bytes = figures.resident_bytes;
  seconds = figures.seconds;
  work = figures.work;
}

-- the same, but with this work for replies
abbrev pub figures_with_work : Figures → WorkCounts → Figures
figures_with_work figures work = record {
  clients = figures.clients;
  replies = figures.replies;
  reply_bytes = figures.reply_bytes;
  commands = figures.commands;
  resident_bytes = figures.resident_bytes;
  seconds = figures.seconds;
  work = work;
}

-- so many replies are worked on in turn, and so many wait until one of those is made
abbrev pub lined : Figures → ℕ → ℕ → Figures
lined figures in_turn waiting =
    figures_with_work figures (record { in_turn = in_turn; waiting = waiting; pieces = figures.work.pieces; longest_micros = figures.work.longest_micros })

-- after a later piece of work for a reply
abbrev pub worked : Figures → Figures
worked figures =
    figures_with_work figures (record { in_turn = figures.work.in_turn; waiting = figures.work.waiting; pieces = one_more figures.work.pieces; longest_micros = figures.work.longest_micros })

-- after a look at the network, so many microseconds after the one before it
abbrev pub looked : Figures → ℕ → Figures
looked figures micros =
    figures_with_work figures (record { in_turn = figures.work.in_turn; waiting = figures.work.waiting; pieces = figures.work.pieces; longest_micros = max figures.work.longest_micros micros })

-- a command that got a revision is accepted, and any other line that was answered as a command is refused
abbrev pub commands_answered : CommandCounts → Answer → CommandCounts
commands_answered counts (Entered revision) = record { accepted = one_more counts.accepted; refused = counts.refused }
commands_answered counts (Refused fault) = record { accepted = counts.accepted; refused = one_more counts.refused }
commands_answered counts NotACommand = record { accepted = counts.accepted; refused = one_more counts.refused }

-- whether or not there was memory for the text of the answer
abbrev pub commands_after : CommandCounts → EntryTurned → CommandCounts
commands_after counts (Answered answer) = commands_answered counts answer
commands_after counts (Lost answer) = commands_answered counts answer
commands_after counts other = counts

-- after a status that reported the longest time between two looks at the network, a new one begins
abbrev pub work_reported : WorkCounts → WorkCounts
work_reported work = record { in_turn = work.in_turn; waiting = work.waiting; pieces = work.pieces; longest_micros = 0 }

abbrev pub work_after : WorkCounts → EntryTurned → WorkCounts
work_after work (StatusAnswered status) = work_reported work
work_after work other = work

abbrev pub figures_after : Figures → EntryTurned → Figures
figures_after figures turned = record {
  clients = figures.clients;
  replies = figures.replies;
  reply_bytes = figures.reply_bytes;
  commands = commands_after figures.commands turned;
  resident_bytes = figures.resident_bytes;
  seconds = figures.seconds;
  work = work_after figures.work turned;
}

-- after some turns, the last one first
abbrev pub figures_in : Figures → List EntryTurned → Figures
figures_in figures [] = figures
figures_in figures (turned ∷ before) = figures_after (figures_in figures before) turned

-- the status shows these figures, if the line asked for it
abbrev pub ShowsFigures : Figures → EntryTurned → Type 0
ShowsFigures figures (StatusAnswered status) = status.figures ≡ figures
ShowsFigures figures other = ⊤

-- each status shows the figures before its turn
abbrev pub AllShowFigures : Figures → List EntryTurned → Type 0
AllShowFigures figures [] = ⊤
AllShowFigures figures (turned ∷ before) = ShowsFigures (figures_in figures before) turned × AllShowFigures figures before
