-- All segments of a log before a place are wholly on the device, and the one that begins there isn't: it is the first one of a log that fits the same history, as far as it was written before.
use Rattle.std.proofs.Common.{◌≡◌, ◌≤◌, ◌<◌, ◌+◌, ◌∙◌, ℕ, List, [], ◌∷◌, map, Option, None, refl, sym, subst, arith, inl, inr}
use Rattle.std.specs.List.{Contains}
use Rattle.std.specs.declared.io.Error.{Error as IoError}
use Rattle.std.proofs.lemmas.Bool.{cases_lt}
use Rattle.std.proofs.lemmas.List.Elements.{All-contains}
use Rattle.sled_codec.specs.History.{History, Message}
use Rattle.sled_codec.specs.Snapshots.{SnapshotModel}
use Rattle.sled_store.specs.Device.{State, at_rest}
use Rattle.sled_store.proofs.Histories.Ascending.{Ascends}
use Rattle.sled_core.specs.Fits.{held_of}
use Rattle.sled_core.specs.Begun.{SegmentParts}
use Rattle.sled_core.specs.inside.Fits.{HoldsIn, HoldsNext, begun_segment, log_parts}
use Rattle.sled_core.specs.inside.Full.{FitsFull, StandsFull}
use Rattle.sled_core.specs.inside.LogFile.{StaysBelow, padded}
use Rattle.sled_core.specs.Logged.{logged}
use Rattle.sled_core.specs.OpenBatches.{stable_below}
use Rattle.sled_core.specs.inside.Reached.{FollowApart, StandsAmong}
use Rattle.sled_core.specs.inside.Recoverable.{NoBatchBegins, NoBatchEnds}
use Rattle.sled_core.specs.Recoverable.{NoHeaderOfZeros}
use Rattle.sled_core.specs.declared.logger.joined_marks.JoinedMarks.{JoinedMarks}
use Rattle.sled_core.specs.inside.Running.{BlobsFit, FitsIn, KeepsEntries, KeepsItems}
use Rattle.sled_core.proofs.Line.Promoted.{promoted}
use Rattle.sled_core.proofs.Sealed.Padded.{padded_none}
use Rattle.sled_core.proofs.Flush.Settled.{blobs_higher, entries_higher, rests, settled_recoverable}
use Rattle.sled_core.proofs.Holds.ReachLemmas.{written_before}
use Rattle.sled_core.proofs.Holds.WholeHistory.{later_above, of_first, which_part, whole_ascends}
use Rattle.sled_core.proofs.Reached.NextSegment.{next_begins, next_goes, read}
use Rattle.sled_core.proofs.Reached.StableBelow.{stable_rises}
use Rattle.sled_core.specs.inside.LogSegments.{held_since}

module _ (sum : List ℕ → ℕ) (size : ℕ) (device : State) (fault : Option IoError) (place : ℕ) (s : SegmentParts) (ss : List SegmentParts) {reach pins : ℕ} {H : History} {A f : ℕ} {U : List Message}
    {marks : JoinedMarks} (fits : FitsFull sum marks size device fault place (s ∷ ss) reach pins H A f U) (big : 256 ≤ size) (whole : fault ≡ None) where
  abbrev pub first : SnapshotModel
  first = fits.holds.begun.first

  abbrev pub here : HoldsNext sum size device fault (fits.site.place + size) s (StaysBelow (logged H) (held_of fits.holds.begun) fits.site.place) H.batches fits.holds.others.0
  here = fits.holds.others.3

  -- it begins at the place
  pub at_place : s.site.place ≡ place
  at_place = here.next ∙ fits.next

  -- what the log holds with it as the first one
  abbrev pub holds_now : HoldsIn sum marks (log_parts size s.site device fault s.bytes s.written_len s.sealed s.reserved) ss (logged H)
  holds_now = promoted sum size fits.site device fault fits.bytes size [] [] (logged H) s ss fits.holds big refl refl

  pub ordered : Ascends (logged H).messages
  ordered = whole_ascends sum size s.site device fault s.bytes s.written_len s.sealed s.reserved (logged H) holds_now here.inside

  -- The log file is at rest.
  pub rest : device.log ≡ at_rest device.log.bytes
  rest = let on_device = fits.holds.own.written whole in rests device.log on_device.log on_device.settled

  pub follow : FollowApart s.site (map begun_segment ss)
  follow = fits.holds.apart.1

  -- the file itself stands as with nothing behind its end
  pub full_file : NoHeaderOfZeros sum → StandsFull sum (held_since size marks first) size device.log.bytes place (map begun_segment (s ∷ ss)) reach (logged H) first
  full_file zeros = subst (λ (l : List ℕ). StandsFull sum (held_since size marks first) size l place (map begun_segment (s ∷ ss)) reach (logged H) first) (padded_none 0 device.log.bytes (omega arith)) (fits.beyond 0 whole zeros)

  -- Where it stands as far as it was written, up to a place no lower, behind all messages that are written then.
  module _ (reach' : ℕ) (up : reach ≤ reach') (near' : reach' ≤ s.site.place + s.written_len) (ends' : (m : Message) → Contains (logged H).messages m → m.place < s.site.place + s.written_len → (m.place < reach') × (m.place + m.size ≤ reach'))
      (no_batch' : NoBatchBegins (logged H) reach' (s.site.place + s.written_len)) (no_end' : NoBatchEnds (logged H) reach' (s.site.place + s.written_len))
      (stands : (log : List ℕ) → StandsFull sum (held_since size marks first) size log place (map begun_segment (s ∷ ss)) reach (logged H) first → StandsAmong sum (held_since size marks first) size log s.site s.written_len (map begun_segment ss) reach' (logged H) first) where
    abbrev stable : ℕ
    stable = stable_below reach' H.batches

    rises : stable_below reach H.batches ≤ stable
    rises = stable_rises reach reach' up H.batches

    stored_now : KeepsItems sum device.blobs H stable
    stored_now m there past = let up = rises in fits.items.stored m there (omega (arith, up, past))

    entries_now : KeepsEntries sum device.blobs H stable
    entries_now = entries_higher sum device.blobs H (stable_below reach H.batches) stable ordered rises fits.items.stored fits.items.entries

    blobs_now : BlobsFit sum device.blobs H stable
    blobs_now = blobs_higher sum device.blobs H (stable_below reach H.batches) stable ordered rises fits.items.stored fits.items.blobs

    fits_now : FitsIn sum marks (log_parts size s.site device fault s.bytes s.written_len s.sealed s.reserved) ss reach' pins H A f U
    fits_now = record {
      holds = holds_now;
      reached = record {
        near = near';
        ends = ends';
        no_batch = no_batch';
        no_end = no_end';
      };
      among = λ none zeros. stands device.log.bytes (full_file zeros);
      beyond = λ to far none zeros. stands (padded to device.log.bytes) (fits.beyond to none zeros);
      items = record {
        blobs = blobs_now;
        stored = stored_now;
        entries = entries_now;
        below = fits.items.below;
      };
      named = fits.named;
      passes = let passes = fits.passes in let up = rises in omega (arith, passes, up);
      pinned = fits.pinned;
      left = settled_recoverable sum size big device H stable f first reach' ordered stored_now rest fits.named.names blobs_now (λ zeros. (stands device.log.bytes (full_file zeros)).stands);
    }

  -- The messages below what is written of it end there.
  ends_written : s.written_len < size → (m : Message) → Contains (logged H).messages m → m.place < s.site.place + s.written_len → (m.place < s.site.place + s.written_len) × (m.place + m.size ≤ s.site.place + s.written_len)
  ends_written left_over m there below = elim (which_part sum size s.site device fault s.bytes s.written_len s.sealed s.reserved (logged H) holds_now m there) [
    | inl mine ↦ All-contains (λ (x : Message). (x.place < s.site.place + s.written_len) × (x.place + x.size ≤ s.site.place + s.written_len)) holds_now.own.records.earlier m holds_now.own.records.below
        (written_before sum size s.site device fault s.bytes s.written_len s.sealed s.reserved (of_first sum size s.site device fault s.bytes s.written_len s.sealed s.reserved (logged H) holds_now) holds_now.own m mine below)
    | inr later ↦ absurd (
        let far = All-contains (λ (x : Message). s.site.place + size ≤ x.place) holds_now.later m (later_above sum size s.site device fault s.bytes s.written_len s.sealed s.reserved (logged H) holds_now) later in
        omega (arith, far, left_over, below))
  ]

  -- it stands behind the full one in a file
  pub full_here : (log : List ℕ) → StandsFull sum (held_since size marks first) size log place (map begun_segment (s ∷ ss)) reach (logged H) first → StandsFull sum (held_since size marks first) size log s.site.place (map begun_segment (s ∷ ss)) reach (logged H) first
  full_here log full = subst (λ n. StandsFull sum (held_since size marks first) size log n (map begun_segment (s ∷ ss)) reach (logged H) first) (sym at_place) full

  goes_on : 0 < s.written_len → s.written_len < size → (log : List ℕ) → StandsFull sum (held_since size marks first) size log place (map begun_segment (s ∷ ss)) reach (logged H) first
      → StandsAmong sum (held_since size marks first) size log s.site s.written_len (map begun_segment ss) (s.site.place + s.written_len) (logged H) first
  goes_on some left_over log full =
      let is : StandsFull sum (held_since size marks first) size log s.site.place (map begun_segment (s ∷ ss)) reach (logged H) first = full_here log full in
      let r = read sum size big log (begun_segment s) (map begun_segment ss) reach (logged H) first is follow ordered some in
      let at : r.0 ≡ s.written_len = elim r.3 [ inl ends ↦ ends.0 | inr ends ↦ absurd (let all = ends.0 in omega (arith, all, left_over)) ] in
      subst (λ n. StandsAmong sum (held_since size marks first) size log s.site s.written_len (map begun_segment ss) (s.site.place + n) (logged H) first) at
      (next_goes sum size big log (begun_segment s) (map begun_segment ss) reach (logged H) first is follow ordered some at)

  -- So the log fits the history, with that one as its first segment.
  pub full_next : s.written_len < size → (now : ℕ) × FitsIn sum marks (log_parts size s.site device fault s.bytes s.written_len s.sealed s.reserved) ss now pins H A f U
  full_next left_over = elim (cases_lt 0 s.written_len) [
    | inl some ↦ (
      s.site.place + s.written_len,
      fits_now (s.site.place + s.written_len) (let near = fits.reached.near in let at = at_place in omega (arith, near, at)) (omega arith) (ends_written left_over)
          (λ b there. cases_lt b.low (s.site.place + s.written_len)) (λ b there. cases_lt b.peg (s.site.place + s.written_len)) (goes_on some left_over),
    )
    | inr first_one ↦ (
        let none : s.written_len ≡ 0 = omega (arith, first_one) in
        let at = at_place in (
          reach,
          fits_now reach (omega arith) (let near = fits.reached.near in omega (arith, near, at)) (λ m there below. fits.reached.ends m there (omega (arith, below, none, at)))
              (λ b there. elim (fits.reached.no_batch b there) [ inl low ↦ inl low | inr far ↦ inr (omega (arith, far, none, at)) ])
              (λ b there. elim (fits.reached.no_end b there) [ inl low ↦ inl low | inr far ↦ inr (omega (arith, far, none, at)) ])
              (λ log full. subst (λ n. StandsAmong sum (held_since size marks first) size log s.site n (map begun_segment ss) reach (logged H) first) (sym none)
              (next_begins sum size big log (begun_segment s) (map begun_segment ss) reach (logged H) first (full_here log full) follow none)),
        ))
  ]
