-- The tickets of a log that is open in a session, by number.
use Rattle.std.specs.Prelude.{◌-◌, ◌<◌, ◌^◌, ℕ, List, length, map, Option}
use Rattle.std.specs.BTreeMap.{is_at}
use Rattle.std.specs.List.{All, range_with_len}
use Rattle.std.specs.List.Sorted.{IsStrictlySortedBy}
use Rattle.std.specs.Map.{keys_of, lookup}
use Rattle.std.specs.Ordering.{nat_cmp}
use Rattle.sled_log.specs.declared.session.tickets.Ticket.{Ticket}

-- For each number that was given, its ticket, or none once that is spent; and for how many more there is memory.
pub record TicketList : Type 0 where
  pub items : List (Option Ticket)
  pub spare : ℕ

-- there is memory for one more, and a number
abbrev pub HasRoom : TicketList → Type 0
HasRoom t = (0 < t.spare) × (length t.items < 2 ^ 64 - 1)

-- the ticket of a number among those that are open, each with its number
abbrev pub of_number : {X : Type 0} → List (ℕ × X) → ℕ → Option X
of_number entries n = lookup (is_at (nat_cmp n)) entries

-- for each number below `begun`, its ticket
abbrev pub by_number : {X : Type 0} → List (ℕ × X) → ℕ → List (Option X)
by_number entries begun = map (of_number entries) (range_with_len 0 begun)

-- Those that are open are in ascending order of their numbers, and each has one that was given.
pub record AreNumbered {X : Type 0} (entries : List (ℕ × X)) (begun : ℕ) : Type 0 where
  pub ascending : IsStrictlySortedBy nat_cmp (keys_of entries)
  pub below : All (λ n. n < begun) (keys_of entries)
