-- A write that no reader comes to, behind a gap of its segment, behind the end of a full one, or in a slot without a header, changes nothing of what stands in a log file, torn or whole.
use Rattle.std.proofs.Common.{◌≢◌, ◌≡◌, ◌≤◌, ◌<◌, ◌+◌, ◌-◌, ◌*◌, ◌/◌, ◌∙◌, ℕ, ℤ, pos, List, [], ◌∷◌, ◌++◌, length, take, drop, replicate, get_or, refl, sym, subst, arith, inl, inr, length-append, length-take}
use Rattle.std.specs.List.{Contains}
use Rattle.std.proofs.Math.Nat.{mul-mod_left}
use Rattle.std.proofs.lemmas.Bool.{cases_lt}
use Rattle.std.proofs.lemmas.List.{length-replicate, get_or-replicate, get_or-take, get_or_append_left, get_or-append_right}
use Rattle.sled_codec.specs.Places.{part}
use Rattle.sled_codec.specs.Record.{IsHeader}
use Rattle.sled_codec.specs.History.{History}
use Rattle.sled_codec.specs.Snapshots.{SnapshotModel}
use Rattle.sled_store.specs.Device.{overwritten, LeavesLog, Placement}
use Rattle.sled_store.specs.Foreign.{NoForeignLog}
use Rattle.sled_store.specs.Readers.{at_start}
use Rattle.sled_store.proofs.LogFile.OverwrittenLemmas.{overwritten-below}
use Rattle.sled_store.proofs.Segments.Elements.{in_nothing}
use Rattle.sled_core.specs.declared.iterator.scan.ScanEnd.{ScanEnd}
use Rattle.sled_core.specs.declared.iterator.scan.ScanEnd.TheVariants.{Full, Capped, Broken}
use Rattle.sled_core.specs.Recoverable.{NoHeaderOfZeros}
use Rattle.sled_core.specs.Scan.{IsScan, IsEnd, EndsThere}
use Rattle.sled_core.specs.Tail.{Scanned}
use Rattle.sled_core.proofs.Tail.LogFileLemmas.{record_moved}
use Rattle.sled_core.proofs.Read.PathLemmas.{zeros_empty}
use Rattle.sled_core.proofs.Tail.OneTail.{segment_there}
use Rattle.sled_core.proofs.Torn.TornLemmas.{after_write}
use Rattle.sled_core.proofs.Torn.TornRecords.{long_enough}
use Rattle.sled_core.proofs.Torn.WrittenBegun.{none_in_zeros}
use Rattle.sled_core.proofs.Torn.WrittenBehind.{header_left, header_stood}
use Rattle.sled_core.proofs.Torn.WrittenParts.{all_there, in_this_file, comes_along, record_where}
use Rattle.sled_core.proofs.Torn.WrittenRecords.{MeetsFirst}
use Rattle.sled_core.proofs.Reached.LeftBeside.{IsSameBeside, same_beside}
use Rattle.sled_core.proofs.Reached.StandsTo.{StandsFrom, StandsTo}
use Rattle.sled_core.proofs.Reached.TornBehind as behind
use Rattle.sled_core.proofs.Reached.TornBegun.{stands_without}
use Rattle.sled_core.proofs.Reached.WrittenWhole.{all_done, leaves_new, same_whole}

-- Below a write bytes that were zeros or lay behind the end of the file are zeros.
pub zero_below : (bytes : List ℕ) (at : ℕ) (xs : List ℕ) (i : ℕ) → i < at → get_or bytes i 0 ≡ 0 → get_or (overwritten bytes at xs) i 0 ≡ 0
zero_below bytes at [] i low zero = zero
zero_below bytes at (x ∷ xs) i low zero = elim (cases_lt i (length bytes)) [
  | inl inside ↦ overwritten-below bytes at (x ∷ xs) i low inside ∙ zero
  | inr past ↦ (
      let gap : List ℕ = replicate (at - length bytes) 0 in
      let front : List ℕ = take at (bytes ++ gap) in
      let long : i < length front = omega (arith, low, past, length-take at (bytes ++ gap), length-append bytes gap, length-replicate {A = ℕ} (at - length bytes) 0) in
      get_or_append_left (front ++ (x ∷ xs)) (drop (at + length (x ∷ xs)) bytes) 0 i (omega (arith, long, length-append front (x ∷ xs)))
      ∙ get_or_append_left front (x ∷ xs) 0 i long
      ∙ get_or-take at (bytes ++ gap) i 0 low
      ∙ get_or-append_right bytes gap (length bytes) i 0 refl past
      ∙ get_or-replicate (at - length bytes) (i - length bytes) 0 0 (omega (arith, low, past)))
]

-- no record was met
abbrev none_met : (new left : List ℕ) (sum : List ℕ → ℕ) (size slot place e : ℕ) (why : ScanEnd) → IsEnd sum size left slot place e why → MeetsFirst sum size new left slot place e [] e why
none_met new left sum size slot place e why ends = record { count = 0; end = e; ending = why; path = refl; ends = ends; alike = tt; rest = refl; how = inl (refl, refl, inl refl) }

module _ (sum : List ℕ → ℕ) (size : ℕ) (some : 256 ≤ size) (old : List ℕ) (slot from : ℕ) (asked : List ℕ) (inside : from + length asked ≤ size) (H : History) (A : ℕ) (first : SnapshotModel) (reach : ℕ)
    (is : StandsTo sum size old H A first reach) where
  abbrev new : List ℕ
  new = overwritten old (slot * size + from) asked

  -- Behind a gap: the reading of the segment ends in front of the write.
  module _ (z : Scanned) (known : Contains is.scanned z) (in_slot : z.segment.slot ≡ slot * size) (before : z.stop < from) (broken : z.why ≡ Broken) where
    abbrev place : ℕ
    place = z.segment.place

    ends_old : IsEnd sum size old (slot * size) place z.stop Broken
    unfolding IsScan
    ends_old = subst (λ n. IsEnd sum size old n place z.stop Broken) in_slot (subst (λ w. IsEnd sum size old z.segment.slot place z.stop w) broken (segment_there sum size old is.ordering is.scanned is.reads z known).1.1)

    -- where it still ends there, all stands as before
    module _ (now left : List ℕ) (no_more : length now ≤ length asked) (leaves : LeavesLog (after_write old (slot * size + from) asked now) left) (same : IsSameBeside sum size old left (slot * size))
        (ends : IsEnd sum size left (slot * size) place z.stop Broken) where
      stands_unread : StandsFrom sum size left H A first reach is.from
      stands_unread =
          behind.stands_behind sum size some old slot from asked now left inside no_more leaves same H A first reach is z known in_slot z.stop (omega (arith, before)) refl
          [] z.stop Broken (λ x none. absurd (in_nothing x none)) ((λ capped. absurd (let never : Broken ≡ Capped = capped in cc)), (λ goes. absurd (goes refl))) (none_met new left sum size (slot * size) place z.stop Broken ends) (λ other. absurd (other broken))

    -- What a crash leaves of it.
    pub torn_unread : (now left : List ℕ) → length now ≤ length asked → LeavesLog (after_write old (slot * size + from) asked now) left → {placed : List Placement}
        → NoForeignLog sum size (after_write old (slot * size + from) asked now) placed left → StandsTo sum size left H A first reach
    unfolding EndsThere
    torn_unread now left no_more leaves {placed} own =
        let same = same_beside sum size some old slot from asked now left inside no_more leaves {placed = placed} own in
        let low : z.stop ≤ from = omega (arith, before) in
        let far = behind.behind sum size some old slot from asked now left inside no_more leaves same H A first reach is z known in_slot z.stop low refl in
        let its = behind.header sum size some old slot from asked now left inside no_more leaves same H A first reach is z known in_slot z.stop low refl in
        let path = behind.before_left sum size some old slot from asked now left inside no_more leaves same H A first reach is z known in_slot z.stop low refl in
        let comes = comes_along sum size left (slot * size) (mul-mod_left slot size) place 20 z.met z.stop path at_start in
        let room = ends_old.0 in
        (stands_unread now left no_more leaves same (
          room,
          λ h body len s.
              elim (record_where sum size old (slot * size + from) asked now left no_more leaves {placed = placed} own slot place z.segment.mark
              (header_left sum size old slot from asked now left no_more leaves far (pos place) z.segment.mark its) z.stop comes (omega (arith, room)) h body len s) [
                | inl stood ↦ (
                    let eight = long_enough sum size left (slot * size + z.stop) (place / size) h body len s in
                    let whole = all_there sum size left (slot * size + z.stop) (place / size) h body len s in
                    let there = in_this_file sum size old left (slot * size + z.stop) len (omega (arith, eight)) whole stood in
                    ends_old.1 h body len (record_moved sum size left old (slot * size + z.stop) (place / size) h body len stood there s))
                | inr write ↦ (let begins = write.begins in absurd (omega (arith, begins, before)))
              ],
        )).0

    -- All of it, where the gap has zeros.
    pub written_unread : slot * size ≤ length old → z.stop + 5 ≤ from → get_or old (slot * size + z.stop + 4) 0 ≡ 0 → StandsFrom sum size new H A first reach is.from
    unfolding EndsThere
    written_unread there gap zero =
        stands_unread asked new (all_done sum size some old slot from asked inside there) (leaves_new sum size some old slot from asked inside there) (same_whole sum size some old slot from asked inside there) (
          ends_old.0,
          zeros_empty sum size new (slot * size + z.stop) (place / size) (zero_below old (slot * size + from) asked (slot * size + z.stop + 4) (omega (arith, gap)) zero),
        )

  -- Behind the end of a segment in which no header has room any more: the reading ended in front of the write, whatever that is.
  module _ (z : Scanned) (known : Contains is.scanned z) (in_slot : z.segment.slot ≡ slot * size) (before : z.stop ≤ from) (full : size < z.stop + 32) where
    ended : z.why ≢ Broken
    unfolding IsScan
    ended broken =
        let end : IsEnd sum size old z.segment.slot z.segment.place z.stop Broken = subst (λ w. IsEnd sum size old z.segment.slot z.segment.place z.stop w) broken (segment_there sum size old is.ordering is.scanned is.reads z known).1.1 in
        absurd (let room = end.0 in omega (arith, room, full))

    stands_full : (now left : List ℕ) → length now ≤ length asked → LeavesLog (after_write old (slot * size + from) asked now) left → IsSameBeside sum size old left (slot * size) → StandsFrom sum size left H A first reach is.from
    stands_full now left no_more leaves same =
        behind.stands_behind sum size some old slot from asked now left inside no_more leaves same H A first reach is z known in_slot z.stop before refl
        [] z.stop Full (λ x none. absurd (in_nothing x none)) ((λ capped. absurd (let never : Full ≡ Capped = capped in cc)), (λ goes. (is.caps z known).1 ended)) (none_met new left sum size (slot * size) z.segment.place z.stop Full full) (λ goes broken. cc)

    -- What a crash leaves of it.
    pub torn_full : (now left : List ℕ) → length now ≤ length asked → LeavesLog (after_write old (slot * size + from) asked now) left → {placed : List Placement}
        → NoForeignLog sum size (after_write old (slot * size + from) asked now) placed left → StandsTo sum size left H A first reach
    torn_full now left no_more leaves {placed} own = (stands_full now left no_more leaves (same_beside sum size some old slot from asked now left inside no_more leaves {placed = placed} own)).0

    -- All of it.
    pub written_full : slot * size ≤ length old → StandsFrom sum size new H A first reach is.from
    written_full there =
        stands_full asked new (all_done sum size some old slot from asked inside there) (leaves_new sum size some old slot from asked inside there) (same_whole sum size some old slot from asked inside there)

  -- In a slot of which the first bytes are zeros no segment is found.
  module _ (zeros : NoHeaderOfZeros sum) (far : 20 ≤ from) (clean : (i : ℕ) → slot * size ≤ i → i < slot * size + 20 → get_or old i 0 ≡ 0) where
    free : (lsn mark : ℤ) → IsHeader sum (part old (slot * size) 20) lsn mark → ⊥
    free = none_in_zeros sum 20 zeros (omega arith) old (slot * size) clean

    -- What a crash leaves of it.
    pub torn_headless : (now left : List ℕ) → length now ≤ length asked → LeavesLog (after_write old (slot * size + from) asked now) left → {placed : List Placement}
        → NoForeignLog sum size (after_write old (slot * size + from) asked now) placed left → StandsTo sum size left H A first reach
    torn_headless now left no_more leaves {placed} own =
        (stands_without sum size some old slot from asked now left inside no_more leaves (same_beside sum size some old slot from asked now left inside no_more leaves {placed = placed} own) free H A first reach is
        (λ s found here. (
        let header = subst (λ n. IsHeader sum (part left n 20) (pos s.place) s.mark) here found.header in
        let stood = header_stood sum size old slot from asked now left no_more leaves far {placed = placed} own (pos s.place) s.mark header in
        free (pos s.place) s.mark (subst (λ (l : List ℕ). IsHeader sum l (pos s.place) s.mark) (sym stood) header)))).0

    -- All of it.
    pub written_headless : slot * size ≤ length old → StandsFrom sum size new H A first reach is.from
    written_headless there =
        stands_without sum size some old slot from asked asked new inside (all_done sum size some old slot from asked inside there) (leaves_new sum size some old slot from asked inside there)
        (same_whole sum size some old slot from asked inside there) free H A first reach is
        (λ s found here. none_in_zeros sum 20 zeros (omega arith) new (slot * size) (λ i above below. zero_below old (slot * size + from) asked i (omega (arith, below, far)) (clean i above below)) (pos s.place) s.mark
        (subst (λ n. IsHeader sum (part new n 20) (pos s.place) s.mark) here found.header))
