-- A sealed buffer of a segment behind the first one is written, and synced: at each moment a crash leaves what can be recovered, and behind it the log fits the history that it fitted, with that segment as far as it is written then.
use Rattle.std.proofs.Common.{◌≡◌, ◌∙◌, ◌≤◌, ◌<◌, ◌+◌, ◌-◌, ◌%◌, ◌^◌, ℕ, max, suc, true, List, [], ◌∷◌, ◌++◌, length, map, replicate, take, drop, Option, None, Some, refl, sym, ap, subst, arith, inl, inr}
use Rattle.std.specs.List.{slice_get}
use Rattle.std.specs.declared.io.Error.{Error as IoError}
use Rattle.std.proofs.lemmas.Bool.{cases_lt}
use Rattle.std.proofs.lemmas.Grind.{same_number_lists}
use Rattle.sled_codec.specs.History.{History, Message}
use Rattle.sled_codec.specs.Snapshots.{SnapshotModel}
use Rattle.sled_store.specs.Device.{LeavesLog, State, Synced, Wrote, at_rest, overwritten, step, Placement}
use Rattle.sled_store.specs.Foreign.{NoForeignLog}
use Rattle.sled_store.specs.inside.Script.{Along}
use Rattle.sled_store.proofs.Histories.Ascending.{Ascends}
use Rattle.sled_core.specs.Logged.{logged}
use Rattle.sled_core.specs.OpenBatches.{stable_below}
use Rattle.sled_core.specs.declared.iobuf.Reserved.{Reserved}
use Rattle.sled_core.specs.declared.iobuf.Sealed.{Sealed}
use Rattle.sled_core.specs.declared.iobuf.SegmentPosition.{SegmentPosition}
use Rattle.sled_core.specs.Begun.{SegmentParts, records_to}
use Rattle.sled_core.specs.inside.Buffers.{records_end}
use Rattle.sled_core.specs.inside.Fits.{HoldsIn, begun_segment, log_parts}
use Rattle.sled_core.specs.inside.LogFile.{padded}
use Rattle.sled_core.specs.inside.Reached.{BegunSegment, StandsAmong}
use Rattle.sled_core.specs.Recoverable.{NoHeaderOfZeros}
use Rattle.sled_core.specs.inside.Lasting.{LeavesRecovering}
use Rattle.sled_core.specs.inside.Running.{FitsIn}
use Rattle.sled_core.specs.inside.SealedBuffers.{AreSealed, FirstUnwritten, behind_run, is_ready, now_written, run_count, run_end, written_at}
use Rattle.sled_core.specs.SealedBuffers.{bytes_between, sealed_end}
use Rattle.sled_core.specs.declared.logger.joined_marks.JoinedMarks.{JoinedMarks}
use Rattle.sled_core.proofs.Line.HeldAround.{begun_is, held_here, now_with}
use Rattle.sled_core.proofs.Line.OneWrite.{reaches, some_asked, torn_one, whole_one}
use Rattle.sled_core.proofs.Line.Shorter.{shorter_stands}
use Rattle.sled_core.proofs.Line.BehindWritten.{behind-written}
use Rattle.sled_core.proofs.Blobs.StaysOwn.{own_same}
use Rattle.sled_core.proofs.Sealed.Padded.{length-padded, overwritten-further, padded_get, padded_long, padded_none}
use Rattle.sled_core.proofs.Flush.Settled.{rests}
use Rattle.sled_core.proofs.Holds.WholeHistory.{whole_ascends}
use Rattle.sled_core.proofs.Reached.SegmentsBeside.{grown_one}
use Rattle.sled_core.proofs.Reached.StandsTo.{StandsTo}
use Rattle.sled_core.proofs.Reserve.Ranges.{there_split}
use Rattle.sled_core.proofs.Sealed.Marked.{ready_closed, written_around}
use Rattle.sled_core.proofs.Sealed.WriteMoments as moments
use Rattle.sled_core.proofs.Torn.TornLemmas.{after_write}
use Rattle.sled_core.specs.inside.LogSegments.{held_since}

-- Zeros behind the end of a file that has some there already.
padded_twice : (to far : ℕ) (log : List ℕ) → to ≤ far → padded far (padded to log) ≡ padded far log
padded_twice to far log le = same_number_lists (padded far (padded to log)) (padded far log) (omega (arith, length-padded far (padded to log), length-padded to log, length-padded far log, le))
    (λ i below. padded_get far (padded to log) i ∙ padded_get to log i ∙ sym (padded_get far log i))

-- Where the file reaches further they are as many up to the one offset as up to the greater of both.
padded_max : (to slot : ℕ) (log : List ℕ) → slot ≤ length log → padded (max to slot) log ≡ padded to log
padded_max to slot log there = let same : max to slot - length log ≡ to - length log = omega (arith, there) in ap (λ n. log ++ replicate n 0) same

module _ (sum : List ℕ → ℕ) (size : ℕ) (site : SegmentPosition) (device : State) (fault : Option IoError) (bytes : List ℕ) (from : ℕ) (bs : List Sealed) (rs : List Reserved) (pins : ℕ) (H : History) (A f : ℕ) (U : List Message)
    (pre : List SegmentParts) (s : SegmentParts) (post : List SegmentParts) {reach : ℕ} {marks : JoinedMarks} (fits : FitsIn sum marks (log_parts size site device fault bytes from bs rs) (pre ++ s ∷ post) reach pins H A f U)
    (big : 256 ≤ size) (whole : fault ≡ None) (short : length bytes ≤ size) (are : AreSealed from rs bs) (held : sealed_end from bs ≤ length bytes)
    (place_small : s.site.place + size < 2 ^ 63) (slot_small : s.site.slot + size < 2 ^ 63) (fresh : FirstUnwritten s.sealed)
    (k : ℕ) (b : Sealed) (there : slice_get s.sealed k ≡ Some b) (ready : is_ready b ≡ true) (recorded : records_to s.filled (length s.bytes) ≤ records_end s.reserved (length s.bytes)) where
  abbrev first : SnapshotModel
  first = fits.holds.begun.first

  abbrev old : List ℕ
  old = device.log.bytes

  -- where the buffer begins, and its bytes
  abbrev at : ℕ
  at = sealed_end s.written_len (take k s.sealed)

  abbrev asked : List ℕ
  asked = bytes_between s.bytes at b.end

  abbrev new : List ℕ
  new = overwritten old (s.site.slot + at) asked

  abbrev now : List Sealed
  now = written_at k s.sealed

  -- the segment once that is written
  abbrev grown : SegmentParts
  grown = now_with s s.bytes (run_end s.written_len now) (behind_run now) (drop (run_count now) s.reserved)

  abbrev after_sync : State
  after_sync = step Synced (step (Wrote (s.site.slot + at) asked asked) device)

  abbrev rest : List Sealed
  rest = drop (suc k) s.sealed

  closed : b.open_count ≡ 0
  closed = ready_closed b ready

  split : s.sealed ≡ take k s.sealed ++ b ∷ rest
  split = there_split s.sealed k b there

  slot_begins : s.site.slot % size ≡ 0
  slot_begins = (held_here sum size site device fault bytes from bs rs (logged H) pre s post fits.holds).segment.records.slot_begins

  its_reach : s.site.slot ≤ length new
  its_reach = reaches sum size site device fault bytes from bs rs (logged H) pre s post fits.holds big whole short place_small slot_small fresh b rest closed recorded (take k s.sealed) split

  some : 0 < length asked
  some = some_asked sum size site device fault bytes from bs rs (logged H) pre s post fits.holds big whole short place_small slot_small fresh b rest closed recorded (take k s.sealed) split

  -- What a crash leaves of the write.
  torn : NoHeaderOfZeros sum → (part left : List ℕ) → length part ≤ length asked → LeavesLog (after_write old (s.site.slot + at) asked part) left → (placed : List Placement)
      → NoForeignLog sum size (after_write old (s.site.slot + at) asked part) placed left → StandsTo sum size left (logged H) (stable_below reach H.batches) first reach
  torn none = torn_one sum size site device fault bytes from bs rs (logged H) pre s post fits.holds big whole short place_small slot_small fresh b rest closed recorded (take k s.sealed) split none reach first
      (subst (λ (l : List BegunSegment). StandsAmong sum (held_since size marks first) size old site from l reach (logged H) first) (begun_is pre s post) (fits.among whole none))

  -- All of it, where the file with zeros behind its end reaches the slot.
  written_in : NoHeaderOfZeros sum → (to : ℕ) → s.site.slot ≤ length (padded to old) → StandsAmong sum (held_since size marks first) size (padded to old) site from (map begun_segment (pre ++ s ∷ post)) reach (logged H) first
      → StandsAmong sum (held_since size marks first) size (padded to new) site from (map begun_segment (pre ++ grown ∷ post)) reach (logged H) first
  written_in none to reached among =
      let least = fits.holds.begun.least in
      let one = whole_one sum size site device fault bytes from bs rs (logged H) pre s post fits.holds big whole short place_small slot_small fresh b rest closed recorded (take k s.sealed) split none reach first least to reached
      (subst (λ (l : List BegunSegment). StandsAmong sum (held_since size marks first) size (padded to old) site from l reach (logged H) first) (begun_is pre s post) among) in
      subst (λ (l : List BegunSegment). StandsAmong sum (held_since size marks first) size (padded to new) site from l reach (logged H) first) (sym (begun_is pre grown post))
      (subst (λ (cs : List Sealed). StandsAmong sum (held_since size marks first) size (padded to new) site from (map begun_segment pre ++ grown_one (begun_segment s) (run_end s.written_len cs) ∷ map begun_segment post) reach (logged H) first) (sym (written_around k s.sealed b there))
      (subst (λ (l : List ℕ). StandsAmong sum (held_since size marks first) size l site from (map begun_segment pre ++ grown_one (begun_segment s) (run_end s.written_len (take k s.sealed ++ now_written b ∷ rest)) ∷ map begun_segment post) reach (logged H) first) (overwritten-further to old (s.site.slot + at) asked some) one))

  beyond_new : NoHeaderOfZeros sum → (to : ℕ) → site.slot ≤ to → StandsAmong sum (held_since size marks first) size (padded to new) site from (map begun_segment (pre ++ grown ∷ post)) reach (logged H) first
  beyond_new none to far =
      let both : ℕ = max to s.site.slot in
      subst (λ (l : List ℕ). StandsAmong sum (held_since size marks first) size l site from (map begun_segment (pre ++ grown ∷ post)) reach (logged H) first) (padded_max to s.site.slot new its_reach)
      (written_in none both (let long = padded_long both old in omega (arith, long)) (fits.beyond both (omega (arith, far)) whole none))

  -- The file itself may end in front of the slot, and then it stands with zeros up to there.
  among_new : NoHeaderOfZeros sum → StandsAmong sum (held_since size marks first) size new site from (map begun_segment (pre ++ grown ∷ post)) reach (logged H) first
  among_new none = elim (cases_lt (length old) s.site.slot) [
    | inl ends ↦ (
        let filled : List ℕ = padded s.site.slot old in
        let far : ℕ = max site.slot s.site.slot in
        let long : length filled ≡ s.site.slot = omega (arith, length-padded s.site.slot old, ends) in
        let with_more : StandsAmong sum (held_since size marks first) size (padded far filled) site from (map begun_segment (pre ++ s ∷ post)) reach (logged H) first =
        subst (λ (l : List ℕ). StandsAmong sum (held_since size marks first) size l site from (map begun_segment (pre ++ s ∷ post)) reach (logged H) first) (sym (padded_twice s.site.slot far old (omega arith))) (fits.beyond far (omega arith) whole none) in
        let stands = shorter_stands sum none size big filled (subst (λ n. n % size ≡ 0) (sym long) slot_begins) far (logged H) reach first with_more in
        subst (λ (l : List ℕ). StandsAmong sum (held_since size marks first) size l site from (map begun_segment (pre ++ grown ∷ post)) reach (logged H) first) (padded_none s.site.slot new its_reach) (written_in none s.site.slot (omega (arith, long)) stands))
    | inr reached ↦ (
        let same : padded 0 old ≡ old = padded_none 0 old (omega arith) in
        subst (λ (l : List ℕ). StandsAmong sum (held_since size marks first) size l site from (map begun_segment (pre ++ grown ∷ post)) reach (logged H) first) (padded_none 0 new (omega arith))
        (written_in none 0 (omega (arith, reached, ap length same)) (subst (λ (l : List ℕ). StandsAmong sum (held_since size marks first) size l site from (map begun_segment (pre ++ s ∷ post)) reach (logged H) first) (sym same) (fits.among whole none))))
  ]

  stands_new : NoHeaderOfZeros sum → StandsTo sum size new (logged H) (stable_below reach H.batches) first reach
  stands_new none = (among_new none).stands

  -- the log file is at rest
  rest_now : device.log ≡ at_rest old
  rest_now = let on = fits.holds.own.written whole in rests device.log on.log on.settled

  ordered : Ascends (logged H).messages
  ordered = whole_ascends sum size site device fault bytes from bs rs (logged H) fits.holds short

  -- At each moment of the write, and of the sync, a crash leaves what can be recovered.
  pub behind-along : Along (LeavesRecovering sum size H (stable_below reach H.batches) f) (Wrote (s.site.slot + at) asked asked ∷ Synced ∷ []) device
  behind-along = moments.write_along sum size big device rest_now H f first reach reach (omega arith) ordered fits.items.stored fits.named.names fits.items.blobs fits.left (s.site.slot + at) asked torn stands_new

  holds_new : HoldsIn sum marks (log_parts size site after_sync fault bytes from bs rs) (pre ++ grown ∷ post) (logged H)
  holds_new = behind-written sum size site device fault bytes from bs rs (logged H) pre s post fits.holds big whole short are held place_small slot_small fresh k b there ready after_sync refl refl

  -- Behind them the log fits the history: what was reached stays.
  pub behind-fits-written : FitsIn sum marks (log_parts size site after_sync fault bytes from bs rs) (pre ++ grown ∷ post) reach pins H A f U
  unfolding holds_new
  behind-fits-written = record {
    holds = holds_new;
    reached = fits.reached;
    among = λ ok none. among_new none;
    beyond = λ to far ok none. beyond_new none to far;
    items = fits.items;
    named = record {
      names = fits.named.names;
      own_names = λ none. own_same sum device after_sync refl refl (fits.named.own_names none);
    };
    passes = fits.passes;
    pinned = fits.pinned;
    left = moments.synced_leaves sum size big device rest_now H f first reach reach (omega arith) ordered fits.items.stored fits.named.names fits.items.blobs fits.left (s.site.slot + at) asked torn stands_new;
  }
