-- A recovery would begin from what one answered before, once that is written back.
use Rattle.std.proofs.Common.{◌≡◌, ◌≢◌, ◌⊎◌, ◌∙◌, ◌||◌, ◌≤◌, ◌%◌, ◌≤ℤ◌, ◌<◌, map, ℕ, ℤ, zero, suc, pos, negsuc, Bool, true, false, not, nat_lt, if◌then◌else◌, List, [], ◌∷◌, length, drop, Option, Some, None, IsSome, refl, sym, ap, subst, arith, inl, inr}
use Rattle.std.specs.Bool.{MatchBool}
use Rattle.std.specs.Ordering.{int_eq}
use Rattle.std.specs.Cmp.{signed_Decides}
use Rattle.std.specs.Int.Signed.{≤ℤ_refl}
use Rattle.std.proofs.lemmas.Bool.Decides.{nat_tests}
use Rattle.sled_codec.specs.Snapshots.{SnapshotModel, FitsSnapshot, short_snapshot, stable_place, is_sound, sound_parts}
use Rattle.sled_codec.specs.SnapshotLaws.{short_spells-snapshot}
use Rattle.sled_core.specs.declared.iterator.scan.ScannedRecord.{ScannedRecord}
use Rattle.sled_core.specs.declared.iterator.Segment.{Segment}
use Rattle.sled_store.specs.Device.{State, content_of}
use Rattle.sled_store.specs.SnapshotFiles.{BeginsFrom}
use Rattle.sled_log.specs.Recovery.{RecoveryResult, Scanned, Recovered, Damaged, unchanged, concluded, outcome_of, given, has_no_table, are_whole, table_of, is_beyond, cut_of, stops_in, passed_in, open_at, begun_below, resolved_scan, slots_in_order, AreReplayed, IsOrdering, Passes, ContinuesFrom, Recovers}
use Rattle.sled_log.specs.WritesBack.{short_file, snapshot_number_of, IsOnlySnapshot, IsWrittenBack}
use Rattle.sled_log.proofs.Replay.LineLemmas.{LieBelow, none_given, chain_of, chain_begun, line_of}
use Rattle.sled_log.proofs.Replay.BlobLemmas.{all_below_resolved}

-- a table of messages that lie below its cut
abbrev pub IsConcluded : ℕ → SnapshotModel → RecoveryResult → Type 0
IsConcluded size first x = (unread : List ℕ) × (met : List ScannedRecord) × (cut : ℕ × Option ℕ) × LieBelow cut.0 met × (concluded size first unread (given (stable_place first.stable) met) cut ≡ Recovered x)

-- recovery concludes that the snapshot stays, or such a table
abbrev pub Comes : ℕ → SnapshotModel → RecoveryResult → Type 0
Comes size first x = ((unread : List ℕ) × (x ≡ unchanged first unread)) ⊎ IsConcluded size first x

-- a number that cannot be other than 0
not_none : (n : ℕ) → (n ≢ 0 → ⊥) → n ≡ 0
not_none zero h = refl
not_none (suc n) h = absurd (h (λ e. omega (arith, e)))

module _ (sum : List ℕ → ℕ) (size : ℕ) (log : List ℕ) (blobs : ℤ → Option (List ℕ)) (large : 20 ≤ size) (first : SnapshotModel) (x : RecoveryResult) where
  -- of segments that are read
  from_passes : (unread : List ℕ) (ordering : List Segment) (least end : ℕ) (passes : List Scanned) → IsOrdering sum size log least ordering → AreReplayed sum size log end (begun_below end ordering) passes
      → Recovered x ≡ outcome_of size first end (map (resolved_scan blobs end) passes) unread → Comes size first x
  from_passes unread ordering least end [] is are comes = inl (unread, cc)
  from_passes unread ordering least end (s ∷ ss) is are comes =
      let some : 0 < size = omega (arith, large) in
      let chain = chain_begun size some end ordering (chain_of size some ordering is.ascending (λ t there. (not_none (t.place % size) (λ odd. is.placed t there (inl odd)), ((is.found t).0 there).slot))) in
      let line = line_of size some sum log large end (begun_below end ordering) (s ∷ ss) chain are in
      let t = resolved_scan blobs end s in
      let ts = map (resolved_scan blobs end) ss in
      inr (unread, passed_in end t (open_at end t.met) ts, cut_of size (stops_in end t (open_at end t.met) ts), all_below_resolved blobs end sum size log large s ss line, sym comes)

  by_end : (ordering : List Segment) (least : ℕ) → IsOrdering sum size log least ordering → (end : Option ℕ) → Passes sum size log blobs first ordering end (Recovered x) → Comes size first x
  by_end ordering least is None comes = inl (slots_in_order ordering, cc)
  by_end ordering least is (Some end) (inl damaged) = let no = damaged.0 in absurd (cc)
  by_end ordering least is (Some end) (inr (passes, are, inl damaged)) = let no = damaged.1 in absurd (cc)
  by_end ordering least is (Some end) (inr (passes, are, inr (good, comes))) = from_passes (slots_in_order (drop (length passes) ordering)) ordering least end passes is are comes

  pub comes_of : ContinuesFrom sum size log blobs first (Recovered x) → Comes size first x
  unfolding ContinuesFrom
  comes_of (inl damaged) = let no = damaged.0 in absurd (cc)
  comes_of (inr (ordering, is, inl damaged)) = let no = damaged.1 in absurd (cc)
  comes_of (inr (ordering, is, inr (scanned, tail, good, passes))) = by_end ordering _ is _ passes

-- What is known of a table that was concluded.

pub chosen_well : (a b c : Bool) (made x : RecoveryResult) → (if a || b || not c then Damaged None else Recovered made) ≡ Recovered x → (b ≡ false) × (made ≡ x)
chosen_well true b c made x is = absurd (cc)
chosen_well false true c made x is = absurd (cc)
chosen_well false false false made x is = absurd (cc)
chosen_well false false true made x is = (refl, cc)

-- a cut that isn't beyond a place isn't above it
pub not_beyond : (stable : Option ℤ) (cut : ℕ) → is_beyond stable cut ≡ false → cut ≤ stable_place stable
not_beyond None cut is = absurd (cc)
not_beyond (Some (negsuc n)) cut is = absurd (cc)
not_beyond (Some (pos n)) cut is = grind (arith, nat_tests, is)

-- a cut that does not lie above a place and not below it is at it
at_place : (stable : Option ℤ) (cut : ℕ) → is_beyond stable cut ≡ false → nat_lt cut (stable_place stable) ≡ false → (stable ≡ Some (pos cut)) × (stable_place stable ≡ cut)
at_place None cut beyond low = absurd (cc)
at_place (Some (negsuc n)) cut beyond low = absurd (cc)
at_place (Some (pos n)) cut beyond low =
    let above : cut ≤ n = grind (arith, nat_tests, beyond) in
    let below : n ≤ cut = grind (arith, nat_tests, low) in
    let same : n ≡ cut = omega (arith, above, below) in
    (ap (λ k. Some (pos k)) same, same)

module _ (size : ℕ) (first : SnapshotModel) (x : RecoveryResult) where
  -- where it is not new, the snapshot has the same place and the same pages
  pub stays_old : Comes size first x → x.is_new ≡ false → (first.stable ≡ x.model.stable) × (first.pages ≡ x.model.pages)
  stays_old (inl (unread, same)) is_old = (ap (λ (y : RecoveryResult). y.model.stable) (sym same), ap (λ (y : RecoveryResult). y.model.pages) (sym same))
  stays_old (inr (unread, met, cut, lie, is)) is_old =
      let messages = given (stable_place first.stable) met in
      let parts = chosen_well (has_no_table messages) (nat_lt cut.0 (stable_place first.stable)) (are_whole (table_of first.pages messages)) _ x is in
      let there = at_place first.stable cut.0 (ap (λ (y : RecoveryResult). y.is_new) parts.1 ∙ is_old) parts.0 in
      let none : messages ≡ [] = none_given (stable_place first.stable) met (subst (λ n. LieBelow n met) (sym there.1) lie) in
      (there.0 ∙ ap (λ (y : RecoveryResult). y.model.stable) parts.1, sym (ap (table_of first.pages) none) ∙ ap (λ (y : RecoveryResult). y.model.pages) parts.1)

  -- where it is new, the table has a place
  new_place : Comes size first x → x.is_new ≡ true → (cut : ℕ) × (x.model.stable ≡ Some (pos cut))
  new_place (inl (unread, same)) is_new = let no : x.is_new ≡ false = ap (λ (y : RecoveryResult). y.is_new) same in absurd (cc)
  new_place (inr (unread, met, cut, lie, is)) is_new =
      let messages = given (stable_place first.stable) met in
      let parts = chosen_well (has_no_table messages) (nat_lt cut.0 (stable_place first.stable)) (are_whole (table_of first.pages messages)) _ x is in
      (cut.0, sym (ap (λ (y : RecoveryResult). y.model.stable) parts.1))

-- A recovery begins from the one snapshot that there is.
pub sound_at : (s : SnapshotModel) (cut : ℕ) → s.stable ≡ Some (pos cut) → is_sound s ≡ true
sound_at s cut is = subst (λ (o : Option ℤ). sound_parts o s.active s.pages ≡ true) (sym is) refl

pub begins_from_only : (sum : List ℕ → ℕ) (file : ℤ → Option (List ℕ)) (s : SnapshotModel) (cut : ℕ) → s.stable ≡ Some (pos cut) → FitsSnapshot s → IsOnlySnapshot file (snapshot_number_of s) (short_file sum s) → BeginsFrom sum file s
begins_from_only sum file s cut place fits only = inr (
  snapshot_number_of s,
  short_file sum s,
  record { there = only.own; greatest = λ n there. by_test n there (int_eq n (snapshot_number_of s)) refl },
  record { text = short_snapshot s; spelled = short_spells-snapshot s fits; is = refl; small = fits.small },
  sound_at s cut place,
)
  where
    by_test : (n : ℤ) → IsSome (file n) → (b : Bool) → int_eq n (snapshot_number_of s) ≡ b → n ≤ℤ snapshot_number_of s
    by_test n there true is = subst (λ (m : ℤ). m ≤ℤ snapshot_number_of s) (sym ((signed_Decides n (snapshot_number_of s)).0 is)) (≤ℤ_refl (snapshot_number_of s))
    by_test n there false is =
        let none : file n ≡ None = only.others n (λ same. let yes = (signed_Decides n (snapshot_number_of s)).1 same in cc) in
        absurd (cc)

-- The whole.
module _ (sum : List ℕ → ℕ) (size : ℕ) (large : 20 ≤ size) (x : RecoveryResult) (old new : State) (back : IsWrittenBack sum size x old new) where
  -- a recovery of the new state begins from the same place and the same pages: from the table, or from the snapshot from which that began
  abbrev pub BeginsThere : Type 0
  BeginsThere = (first : SnapshotModel) × BeginsFrom sum new.snapshots.file first × (first.stable ≡ x.model.stable) × (first.pages ≡ x.model.pages) × ((first ≡ x.model) ⊎ BeginsFrom sum old.snapshots.file first)

  by_new : (first : SnapshotModel) → BeginsFrom sum old.snapshots.file first → Comes size first x → (x.is_new ≡ true → FitsSnapshot x.model) → (b : Bool) → x.is_new ≡ b
      → MatchBool b (IsOnlySnapshot new.snapshots.file (snapshot_number_of x.model) (short_file sum x.model)) (new.snapshots ≡ old.snapshots) → BeginsThere
  by_new first begins comes fits true is only =
      let place = new_place size first x comes is in
      (x.model, begins_from_only sum new.snapshots.file x.model place.0 place.1 (fits is) only, refl, refl, inl refl)
  by_new first begins comes fits false is same =
      let stays = stays_old size first x comes is in
      (first, subst (λ s. BeginsFrom sum s.file first) (sym same) begins, stays.0, stays.1, inr begins)

  -- so it does where the conclusion was written back
  pub begins_again : Recovers sum size (content_of old) (Recovered x) → (x.is_new ≡ true → FitsSnapshot x.model) → BeginsThere
  unfolding Recovers
  begins_again (inl damaged) fits = let no = damaged.0 in absurd (cc)
  begins_again (inr (first, begins, comes)) fits = by_new first begins (comes_of sum size old.log.bytes old.blobs.file large first x comes) fits x.is_new refl back.snapshots
