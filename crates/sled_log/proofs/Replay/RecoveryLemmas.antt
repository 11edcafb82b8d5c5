-- What comes of a pass.
use Rattle.std.proofs.Common.{◌≡◌, ◌∙◌, ◌+◌, ◌<◌, ◌≤◌, ℕ, Bool, true, false, ◌||◌, not, nat_lt, List, [], ◌∷◌, Option, Some, None, if◌then◌else◌, refl, ap, arith, pos}
use Rattle.std.specs.Option.{unwrap_or}
use Rattle.std.specs.List.{All, AllByRecursion}
use Rattle.std.proofs.lemmas.List.Elements.{recursion_from_All}
use Rattle.std.proofs.lemmas.Bool.Decides.{nat_tests}
use Rattle.sled_codec.specs.Snapshots.{SnapshotModel, stable_place}
use Rattle.sled_core.specs.declared.iterator.scan.ScannedRecord.{ScannedRecord}
use Rattle.sled_log.specs.Recovery.{Scanned, Applied, Outcome, Recovered, Damaged, RecoveryResult, shred_range_of, is_beyond, opens, open_at, stops_in, concluded, has_no_table, are_whole, table_of}
pub use Rattle.sled_core.proofs.Tail.Rows.{all_before_open as before_none}

-- The outcome of a pass over one segment.
module _ (size : ℕ) (first : SnapshotModel) (unread : List ℕ) (end : ℕ) (s : Scanned) where
  one_stop : (o : Option ℕ) → stops_in end s o [] ≡ (s.segment, unwrap_or o (s.segment.place + s.stop))
  one_stop None = refl
  one_stop (Some place) = refl

-- When a pass gives a snapshot, and when the content is damaged.
module _ (size : ℕ) (first : SnapshotModel) (unread : List ℕ) (messages : List Applied) (cut : ℕ × Option ℕ) where
  abbrev pub made : RecoveryResult
  made = record {
    model = record { stable = Some (pos cut.0); active = cut.1; pages = table_of first.pages messages };
    shred_range = shred_range_of size cut.0 cut.1;
    is_new = is_beyond first.stable cut.0;
    unread = unread;
  }

  abbrev chosen : Bool → Bool → Bool → Outcome
  chosen a b c = if a || b || not c then Damaged None else Recovered made

  pub concluded_well : has_no_table messages ≡ false → stable_place first.stable ≤ cut.0 → are_whole (table_of first.pages messages) ≡ true → concluded size first unread messages cut ≡ Recovered made
  concluded_well is le whole =
      let above : nat_lt cut.0 (stable_place first.stable) ≡ false = grind (arith, nat_tests, le) in
      ap (λ a. chosen a (nat_lt cut.0 (stable_place first.stable)) (are_whole (table_of first.pages messages))) is
      ∙ ap (λ b. chosen false b (are_whole (table_of first.pages messages))) above ∙ ap (chosen false false) whole

  pub no_table_damaged : has_no_table messages ≡ true → concluded size first unread messages cut ≡ Damaged None
  no_table_damaged is = ap (λ a. chosen a (nat_lt cut.0 (stable_place first.stable)) (are_whole (table_of first.pages messages))) is

-- where a batch is open lies a record that is met
open_in : (end limit : ℕ) (ms : List ScannedRecord) (else_at : ℕ) → AllByRecursion (λ m. m.place < limit) ms → else_at ≤ limit → unwrap_or (open_at end ms) else_at ≤ limit
open_in end limit [] else_at small le = le
open_in end limit (m ∷ ms) else_at small le = by_test (opens end m.what) small.0 (open_in end limit ms else_at small.1 le) where
  by_test : (b : Bool) → m.place < limit → unwrap_or (open_at end ms) else_at ≤ limit → unwrap_or (if b then Some m.place else open_at end ms) else_at ≤ limit
  by_test true lt rest = omega (arith, lt)
  by_test false lt rest = rest

pub open_below : (end limit : ℕ) (ms : List ScannedRecord) (else_at : ℕ) → All (λ m. m.place < limit) ms → else_at ≤ limit → unwrap_or (open_at end ms) else_at ≤ limit
open_below end limit ms else_at small le = open_in end limit ms else_at (recursion_from_All (λ m. m.place < limit) ms small) le
