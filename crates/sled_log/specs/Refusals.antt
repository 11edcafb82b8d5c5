-- Which commands are refused, and why: the first reason that fits.
use Rattle.std.specs.Prelude.{◌&&◌, nat_lt, nat_le, not, is_none, ℕ, Bool, true, false, if◌then◌else◌, length, Option, None, Some}
use Rattle.sled_codec.specs.History.{History}
use Rattle.sled_log.specs.declared.session.command.Command.{Command}
use Rattle.sled_log.specs.declared.session.command.Command.TheVariants as command
use Rattle.sled_log.specs.declared.session.command.Refusal.{Refusal}
use Rattle.sled_log.specs.declared.session.command.Refusal.TheVariants as why
use Rattle.sled_log.specs.declared.session.command.Reply.{Reply}
use Rattle.sled_log.specs.declared.session.command.Reply.TheVariants as reply
use Rattle.sled_log.specs.RunStates.{LogView, RunState, has_message, has_message_for, has_ticket, in_batch, is_present, one_blob, open_messages, page_now}
use Rattle.sled_log.specs.RunStates.{pending_in_view}

-- this reason, where it fits, or else another
abbrev pub when : Bool → Refusal → Option Refusal → Option Refusal
when fits w rest = if fits then Some w else rest

-- a page has an open ticket
abbrev pub is_busy : LogView → ℕ → Bool
is_busy l page = has_message_for page (open_messages l.tickets)

-- a page isn't present
abbrev pub is_absent : History → ℕ → Bool
is_absent H page = not (is_present (page_now H page))

-- a page isn't one Replace with its item in a blob
abbrev pub has_no_blob : History → ℕ → Bool
has_no_blob H page = is_none (one_blob (page_now H page))

-- while a log is open
abbrev pub refused_open : History → LogView → Command → Option Refusal
refused_open H l command.Open = Some why.Open
refused_open H l (command.Replace page item) = when (nat_lt l.begun page) why.Page (when (is_busy l page) why.Busy None)
refused_open H l (command.Link page item) =
    when (is_absent H page) why.Page (when (is_busy l page) why.Busy (when (nat_le 255 (length (page_now H page))) why.Fragments None))
refused_open H l (command.Free page) = when (is_absent H page) why.Page (when (is_busy l page) why.Busy None)
refused_open H l (command.Rewrite page) = when (has_no_blob H page) why.Page (when (is_busy l page) why.Busy None)
refused_open H l command.BeginBatch = when (in_batch l.tickets) why.Batch None
refused_open H l command.EndBatch = when (not (in_batch l.tickets)) why.Batch None
refused_open H l (command.Complete t) = when (not (has_message t l.tickets)) why.Ticket None
refused_open H l (command.Abort t) = when (not (has_ticket t l.tickets)) why.Ticket None
refused_open H l (command.Write i) = when (nat_le (pending_in_view l) i) why.Index None
refused_open H l (command.Read page) = when (nat_le l.begun page) why.Page None
refused_open H l command.Flush = None
refused_open H l (command.Stable place) = None
refused_open H l command.Halt = None
refused_open H l (command.Stop n) = None
refused_open H l (command.Crash choice) = None

-- while none is
abbrev pub refused_closed : Command → Option Refusal
refused_closed command.Open = None
refused_closed (command.Stop n) = None
refused_closed (command.Crash choice) = None
refused_closed (command.Replace page item) = Some why.Closed
refused_closed (command.Link page item) = Some why.Closed
refused_closed (command.Free page) = Some why.Closed
refused_closed (command.Rewrite page) = Some why.Closed
refused_closed command.BeginBatch = Some why.Closed
refused_closed command.EndBatch = Some why.Closed
refused_closed (command.Complete t) = Some why.Closed
refused_closed (command.Abort t) = Some why.Closed
refused_closed (command.Write i) = Some why.Closed
refused_closed command.Flush = Some why.Closed
refused_closed (command.Stable place) = Some why.Closed
refused_closed (command.Read page) = Some why.Closed
refused_closed command.Halt = Some why.Closed

abbrev pub refused_by_log : History → Option LogView → Command → Option Refusal
refused_by_log H None c = refused_closed c
refused_by_log H (Some l) c = refused_open H l c

abbrev pub is_crash : Command → Bool
is_crash (command.Crash choice) = true
is_crash _ = false

-- a command asks the device for no stop and no crash
abbrev pub is_for_log : Command → Bool
is_for_log (command.Stop n) = false
is_for_log (command.Crash choice) = false
is_for_log _ = true

-- where a run stands there
abbrev pub refusal_for : RunState → Command → Option Refusal
refusal_for a c = when (a.device.is_stopped && not (is_crash c)) why.Stopped (refused_by_log a.history a.log c)

-- the reason that a reply tells
abbrev pub reason_of : Reply → Option Refusal
reason_of (reply.Refused w) = Some w
reason_of _ = None
