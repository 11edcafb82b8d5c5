-- The pass over several segments: what it meets, where it stops, and what comes of it.
use Rattle.std.proofs.Common.{◌≡◌, ◌∙◌, ◌+◌, ◌<◌, ℕ, Bool, true, false, ◌||◌, ◌==◌, ◌^◌, ◌-◌, nat_lt, List, [], ◌∷◌, ◌++◌, Option, Some, None, if◌then◌else◌, refl, sym, ap, IfSome, arith, append_assoc}
use Rattle.std.proofs.lemmas.List.{append-nil}
use Rattle.sled_codec.specs.Snapshots.{Page, SnapshotModel, stable_place}
use Rattle.sled_core.specs.declared.iterator.scan.ScannedRecord.{ScannedRecord}
use Rattle.sled_core.specs.declared.iterator.Segment.{Segment}
use Rattle.sled_log.specs.Recovery.{passed_all, Scanned, Applied, outcome_of, concluded, cut_of, applied_of, before_open, open_at, passed_in, stops_in, given, has_no_table, table_of, table_with}
use Rattle.sled_log.specs.Passes.{stop_of}
use Rattle.sled_log.proofs.Replay.RecoveryLemmas.{before_none}

-- One segment, and those behind it.
module _ (end : ℕ) (s : Scanned) where
  -- where a batch is open, the rest isn't looked at
  pub passed_some : (ss : List Scanned) (place : ℕ) → open_at end s.met ≡ Some place → passed_all end (s ∷ ss) ≡ before_open end s.met
  passed_some ss place is = ap (λ o. passed_in end s o ss) is

  pub stop_some : (last : Option (Segment × ℕ)) (ss : List Scanned) (place : ℕ) → open_at end s.met ≡ Some place → stop_of end last (s ∷ ss) ≡ Some (s.segment, place)
  stop_some last ss place is = ap (λ o. Some (stops_in end s o ss)) is

  passed_on : (ss : List Scanned) → passed_in end s None ss ≡ s.met ++ passed_all end ss
  passed_on [] = sym (append-nil s.met)
  passed_on (t ∷ ts) = refl

  stop_on : (ss : List Scanned) → Some (stops_in end s None ss) ≡ stop_of end (Some (s.segment, s.segment.place + s.stop)) ss
  stop_on [] = refl
  stop_on (t ∷ ts) = refl

  -- where none is, all of it is met, and then the rest
  pub passed_none : (ss : List Scanned) → open_at end s.met ≡ None → passed_all end (s ∷ ss) ≡ before_open end s.met ++ passed_all end ss
  passed_none ss is = ap (λ o. passed_in end s o ss) is ∙ passed_on ss ∙ ap (λ (ms : List ScannedRecord). ms ++ passed_all end ss) (sym (before_none end s.met is))

  pub stop_none : (last : Option (Segment × ℕ)) (ss : List Scanned) → open_at end s.met ≡ None → stop_of end last (s ∷ ss) ≡ stop_of end (Some (s.segment, s.segment.place + s.stop)) ss
  stop_none last ss is = ap (λ o. Some (stops_in end s o ss)) is ∙ stop_on ss

-- Messages one behind another.

pub given-append : (least : ℕ) (xs ys : List ScannedRecord) → given least (xs ++ ys) ≡ given least xs ++ given least ys
given-append least [] ys = refl
given-append least (m ∷ ms) ys = by_test (nat_lt m.place least) (given-append least ms ys) where
  by_test : (b : Bool) → given least (ms ++ ys) ≡ given least ms ++ given least ys
      → (if b then given least (ms ++ ys) else applied_of m m.what ++ given least (ms ++ ys)) ≡ (if b then given least ms else applied_of m m.what ++ given least ms) ++ given least ys
  by_test true rest = rest
  by_test false rest = ap (λ (l : List Applied). applied_of m m.what ++ l) rest ∙ sym (append_assoc (applied_of m m.what) (given least ms) (given least ys))

pub table-append : (xs ys : List Applied) (pages : List Page) → table_of pages (xs ++ ys) ≡ table_of (table_of pages xs) ys
table-append [] ys pages = refl
table-append (x ∷ xs) ys pages = table-append xs ys (table_with pages x.kind x.page x.entry)

either_assoc : (a b c : Bool) → (a || b) || c ≡ a || (b || c)
either_assoc true b c = refl
either_assoc false b c = refl

pub no_table-append : (xs ys : List Applied) → has_no_table (xs ++ ys) ≡ has_no_table xs || has_no_table ys
no_table-append [] ys = refl
no_table-append (x ∷ xs) ys =
    let last : Bool = x.page == 2 ^ 64 - 1 in
    ap (λ b. last || b) (no_table-append xs ys) ∙ sym (either_assoc last (has_no_table xs) (has_no_table ys))

-- The outcome.
module _ (size : ℕ) (first : SnapshotModel) (end : ℕ) (unread : List ℕ) where
  -- where the pass stops
  pub outcome_some : (ss : List Scanned) (at : Segment × ℕ) → stop_of end None ss ≡ Some at → outcome_of size first end ss unread ≡ concluded size first unread (given (stable_place first.stable) (passed_all end ss)) (cut_of size at)
  outcome_some [] at is = cc
  outcome_some (s ∷ ss) at is =
      let stops : stops_in end s (open_at end s.met) ss ≡ at = cc in
      ap (λ (x : Segment × ℕ). concluded size first unread (given (stable_place first.stable) (passed_all end (s ∷ ss))) (cut_of size x)) stops

-- an active slot that is the one where a pass stops
pub slot_fits : (o : Option ℕ) (slot size : ℕ) → IfSome o (λ n. n ≡ slot) → slot + size < 2 ^ 63 → IfSome o (λ n. n + size < 2 ^ 63)
slot_fits None slot size is lt = tt
slot_fits (Some n) slot size is lt = omega (arith, is, lt)
