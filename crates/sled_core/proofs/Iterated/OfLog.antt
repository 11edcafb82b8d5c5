-- What stands in the file of a log that fits a history is what an iterator of it asks for: what the log shows of its segments, up to the stable end.
use Rattle.std.proofs.Common.{◌≡◌, ◌⊎◌, ◌∙◌, ◌+◌, ◌*◌, ◌/◌, ◌^◌, ◌<◌, ◌≤◌, ℕ, suc, ℤ, pos, false, List, [], ◌∷◌, map, length, None, Some, refl, sym, ap, subst, arith, inl, inr}
use Rattle.std.specs.List.{Contains, slice_get}
use Rattle.std.proofs.Math.Nat.{mul-mod_left, suc-mul}
use Rattle.std.proofs.lemmas.Bool.{cases_order}
use Rattle.std.proofs.lemmas.List.{length-map}
use Rattle.sled_codec.specs.History.{Batch, Message, History}
use Rattle.sled_codec.specs.Places.{part}
use Rattle.sled_codec.specs.Record.{IsHeader}
use Rattle.sled_codec.specs.Snapshots.{SnapshotModel}
use Rattle.sled_codec.specs.WellFormed.{LieApart}
use Rattle.sled_store.specs.Device.{State, Trace, state_of}
use Rattle.sled_store.specs.SegmentStates.{Machine, is_free, slot_at}
use Rattle.sled_store.proofs.Histories.Ascending.{apart_ascends}
use Rattle.sled_core.specs.declared.iterator.log_iter.LogIter.{LogIter}
use Rattle.sled_core.specs.declared.logger.Log.{Log}
use Rattle.sled_core.specs.inside.Begun.{FollowOn, line_end}
use Rattle.sled_core.specs.inside.Cleared.{cleared, is_stale}
use Rattle.sled_core.specs.inside.Hides.{ReadsShown}
use Rattle.sled_core.specs.inside.Shown.{shown}
use Rattle.sled_core.specs.Begun.{SegmentView, segment_view}
use Rattle.sled_core.specs.declared.logger.io_bufs.SegmentBuffer.{SegmentBuffer}
use Rattle.sled_core.specs.inside.Fits.{begun_segment, parts_in}
use Rattle.sled_core.specs.Fits.{line_of, machine_at, noted_in, stable_end, synced_end}
use Rattle.sled_core.specs.inside.FreeSlots.{HasSlot}
use Rattle.sled_core.specs.Iterators.{GivesMessages, GoesOver}
use Rattle.sled_core.specs.LogFile.{HasHeader}
use Rattle.sled_core.specs.inside.LogSegments.{held_since}
use Rattle.sled_core.specs.LogSegments.{begins_from}
use Rattle.sled_core.specs.Logged.{logged}
use Rattle.sled_core.specs.OnFile.{item_of}
use Rattle.sled_core.specs.OpenBatches.{stable_below}
use Rattle.sled_core.specs.inside.Reached.{StandsAmong}
use Rattle.sled_core.specs.Recoverable.{NoHeaderOfZeros}
use Rattle.sled_core.specs.inside.Recoverable.{PassesIfThere}
use Rattle.sled_core.specs.inside.Running.{FitsWith}
use Rattle.sled_core.specs.inside.Slots.{IsWholeSegment}
use Rattle.sled_core.specs.Scan.{IsPath, IsScan}
use Rattle.sled_core.specs.Tail.{Scanned, place_of_mark}
use Rattle.sled_core.proofs.Cleared.Moves.{part_same}
use Rattle.sled_core.proofs.Cleared.Offsets.{slot_apart, zeroed_long}
use Rattle.sled_core.proofs.Freed.ClearedShows.{front_shown, older_shown}
use Rattle.sled_core.proofs.Freed.ReadsAs.{alike_there}
use Rattle.sled_core.proofs.Blobs.FirmContent.{blobs_read, firm_files, firm_leaves, firm_own}
use Rattle.sled_core.proofs.Holds.BufferEnds.{written_behind}
use Rattle.sled_core.proofs.Holds.FitsBatches.{stable_noted}
use Rattle.sled_core.proofs.Holds.WholeHistory.{whole_apart}
use Rattle.sled_core.proofs.Iterated.OnFile.{AreSlotsOf, gives_on_file}
use Rattle.sled_core.proofs.Iterated.ReadHere.{IsReadHere, read_far, read_whole}
use Rattle.sled_core.proofs.Line.Segments.{first_below, line_segments}
use Rattle.sled_core.proofs.Line.Shown.{line_rises, others_beside}
use Rattle.sled_core.proofs.Line.ShownParts.{file_reads}
use Rattle.sled_core.proofs.Line.WrittenSlots.{headers_line}
use Rattle.sled_core.proofs.Logged.Messages.{logged_apart, logged_twice}
use Rattle.sled_core.proofs.Logged.Stands.{among_alike, whole_alike}
use Rattle.sled_core.proofs.Reached.StableBelow.{stable_closed, stable_low}
use Rattle.sled_core.proofs.Reached.WholeSegments.{t_known, whole_at, whole_found, whole_kept}
use Rattle.sled_core.proofs.Reserve.Ranges.{at_there}
use Rattle.sled_core.proofs.Tail.Multiples.{apart}

-- the last of segments that follow one another ends below 2^63
follow_end : (size place : ℕ) (ss : List SegmentBuffer) → place < 2 ^ 63 → FollowOn size place ss → place + length ss * size < 2 ^ 63
follow_end size place [] below follow = omega (arith, below)
follow_end size place (s ∷ ss) below follow =
    let at = follow.0 in
    let reach = follow.2 in
    let more = follow_end size (place + size) ss (omega (arith, at, reach)) follow.4 in
    omega (arith, more)

module _ {D C : Type 0} (trace : D → Trace) (sum : List ℕ → ℕ) (log : Log D C) (H : History) (A f : ℕ) (U : List Message) where
  abbrev size : ℕ
  size = log.config.config.segment_size

  abbrev state : State
  state = state_of (trace log.config.device)

  abbrev m : Machine
  m = machine_at log

  abbrev line : List SegmentView
  line = line_of log

  abbrev v : SegmentView
  v = segment_view log.segments.first

  abbrev vs : List SegmentView
  vs = map segment_view log.segments.behind.items

  abbrev place : ℕ
  place = log.segments.first.site.place

  abbrev from : ℕ
  from = log.segments.first.buffer.written_len

  -- the log file, and what is shown of it
  abbrev real : List ℕ
  real = state.log.bytes

  abbrev file : List ℕ
  file = cleared size m line real

  abbrev sees : State
  sees = shown size None m line state

  abbrev some : 256 ≤ size
  some = log.config.config.least

  module _ (fits : FitsWith sum log.marks (noted_in log) size sees None line m log.pins H A f U) (zeros : NoHeaderOfZeros sum) where
    abbrev first : SnapshotModel
    first = fits.parts.holds.begun.first

    among : StandsAmong sum (held_since size log.marks first) size file log.segments.first.site from (map begun_segment (map parts_in vs)) fits.reach H first
    among = among_alike (logged H) H (logged_twice H) sum size file log.segments.first.site from (map begun_segment (map parts_in vs)) fits.reach first
        (fits.parts.among refl zeros)

    -- what is shown stands in the file
    there : ReadsShown sum size m file real
    there = file_reads sum log.marks (noted_in log) size some state None refl zeros m log.pins H A f U v vs (line_segments log) fits

    taken : (n : ℕ) (u : SegmentView) → slice_get line n ≡ Some u → HasSlot size m u
    taken n u at = at_there (HasSlot size m) line n u at fits.slots.taken

    -- the stable end is that of the history
    same_end : stable_below (synced_end log) H.batches ≡ stable_end log
    same_end = stable_noted (synced_end log) (line_end size line) (noted_in log) (logged H) fits.batches

    end_low : stable_end log ≤ synced_end log
    end_low = stable_low (synced_end log) (noted_in log)

    -- no batch is open there
    closed : (b : Batch) → Contains H.batches b → b.low < stable_end log → b.peg < stable_end log
    closed b known low =
        let under = stable_closed size H among.stands.batched (synced_end log) b known (omega (arith, low, same_end)) in
        omega (arith, under, same_end)

    pub apart_messages : LieApart H.messages
    apart_messages = logged_apart H
        (whole_apart sum size log.segments.first.site sees None log.segments.first.buffer.bytes.items from log.segments.first.buffer.sealed.items
        log.segments.first.buffer.reserved.items (logged H) fits.parts.holds log.line.lies.in_segment)

    -- A slot has the first one, or one that ends where that begins or below.
    older_or_first : (k : ℕ) → is_free (slot_at m k).state ≡ false → (slot_at m k).lsn < stable_end log
        → ((slot_at m k).lsn ≡ place) ⊎ ((slot_at m k).lsn + size ≤ place)
    older_or_first k used low =
        let aligned = fits.slots.own.aligned k used in
        let begins = fits.parts.holds.own.records.place_begins in
        elim (cases_order (slot_at m k).lsn place) [
          | inl same ↦ inl same
          | inr (inl lower) ↦ inr (apart size (omega (arith, some)) (slot_at m k).lsn place aligned begins lower)
          | inr (inr over) ↦ absurd (
              let far = apart size (omega (arith, some)) place (slot_at m k).lsn begins aligned over in
              let inside = log.line.lies.in_segment in
              let held = written_behind log.segments.first.buffer in
              omega (arith, far, low, end_low, inside, held))
        ]

    -- The older ones are whole, in what is shown, and so in the file.
    pub whole : (k : ℕ) → is_free (slot_at m k).state ≡ false → (slot_at m k).lsn + size ≤ place → IsWholeSegment sum size real H (k * size) (slot_at m k).lsn
    whole k used lower =
        whole_kept sum size file real (k * size) (omega (arith, some))
        (older_shown size (omega (arith, some)) m line real (line_rises size place line (line_segments log)) k used (λ j u at. slot_apart size m u k
        (taken j u at) (λ same. let low = first_below size place line (line_segments log) j u at in omega (arith, low, lower, same, some)))).1
        H (slot_at m k).lsn
        (whole_alike (logged H) H (logged_twice H) sum size file (k * size) (slot_at m k).lsn (fits.whole refl zeros k used lower))

    -- The first one, where the stable end lies in it.
    module _ (k : ℕ) (used : is_free (slot_at m k).state ≡ false) (at : (slot_at m k).lsn ≡ place) (low : (slot_at m k).lsn < stable_end log) where
      in_slot : log.segments.first.site.slot ≡ k * size
      in_slot =
          let h = taken 0 v refl in
          h.lies ∙ ap (λ n. n * size) (fits.slots.own.one h.number k h.taken used (h.is ∙ sym at))

      more : 0 < from
      more = omega (arith, at, low, end_low)

      -- its header stands there,
      header_shown : (mark : ℤ) × IsHeader sum (part file (k * size) 20) (pos (slot_at m k).lsn) mark
      header_shown =
          let has : HasHeader sum file log.segments.first.site = headers_line sum size _ sees None refl line 0 v (logged H) fits.parts.holds refl more in (
            has.mark,
            subst (λ n. IsHeader sum (part file n 20) (pos (slot_at m k).lsn) has.mark) in_slot
                (subst (λ n. IsHeader sum (part file log.segments.first.site.slot 20) (pos n) has.mark) (sym at) has.header),
          )

      first_header : (mark : ℤ) × IsHeader sum (part real (k * size) 20) (pos (slot_at m k).lsn) mark
      first_header =
          let h = header_shown in
          (h.0, subst (λ (l : List ℕ). IsHeader sum l (pos (slot_at m k).lsn) h.0) (sym (there.headers k (slot_at m k).lsn h.0 h.1)) h.1)

      -- and it is read up to what is written of it, or it is full and leads on.
      first_reads : IsReadHere sum size real H (stable_end log) (k * size) (slot_at m k).lsn
      unfolding IsScan
      first_reads =
          let r = among.here.read more in
          let t : Scanned = r.2.scan in
          let slot : t.segment.slot ≡ k * size = r.2.in_slot ∙ in_slot in
          let begins : t.segment.place ≡ (slot_at m k).lsn = r.2.at_place ∙ sym at in
          let A : ℕ = stable_below fits.reach H.batches in
          let ordered = apart_ascends H.messages apart_messages in
          elim r.3 [
            | inl so ↦ (
                let scan = (t_known sum size file some H ordered A first fits.reach among.stands t r.2.there).1 in
                let h = header_shown in
                let path = subst (λ (a : ℕ). IsPath sum size file a (slot_at m k).lsn 20 t.met t.stop) slot
                (subst (λ p. IsPath sum size file t.segment.slot p 20 t.met t.stop) begins scan.0) in
                read_far sum size file real some H ordered A first fits.reach among.stands (stable_end log) k (slot_at m k).lsn t r.2.there slot begins
                (alike_there sum size m file real there k (slot_at m k).lsn h.0 h.1 t.met t.stop path)
                (omega (arith, r.2.ended, so.0, at, end_low)))
            | inr full ↦ (
                let found = whole_found sum size file some H ordered A first fits.reach among.stands t r.2.there
                (λ broken. full.1 (sym r.2.ends ∙ broken)) in
                let rises = line_rises size place line (line_segments log) in
                read_whole sum size real H (stable_end log) (k * size) (slot_at m k).lsn
                (whole_kept sum size file real (k * size) (omega (arith, some))
                (λ lid len above below in_file. part_same file real lid len (sym (zeroed_long (is_stale size m line) real))
                (λ i up under. sym (front_shown size (omega (arith, some)) m line real rises 0 v refl (taken 0 v refl)
                (others_beside size (omega (arith, some)) m place line (line_segments log) taken 0 v refl) i (omega (arith, up, above, in_slot))
                (omega (arith, under, below, in_slot, full.0)))))
                H (slot_at m k).lsn (whole_at sum size file H (sym slot) (sym begins) found)))
          ]

    slots : AreSlotsOf sum size real H (stable_end log) m
    slots = record {
      aligned = fits.slots.own.aligned;
      one = fits.slots.own.one;
      begun = λ k used low. elim (older_or_first k used low) [
        | inl at ↦ first_header k used at low
        | inr lower ↦ (let w = whole k used lower in (w.mark, w.found.header))
      ];
      reads = λ k used low. elim (older_or_first k used low) [
        | inl at ↦ first_reads k used at low
        | inr lower ↦ read_whole sum size real H (stable_end log) (k * size) (slot_at m k).lsn (whole k used lower)
      ];
      fits = λ k used.
          let below = fits.slots.own.below k used in
          let ends = follow_end size (place + size) log.segments.behind.items log.line.lies.place_in_reach log.line.lies.follow in
          let all : length line * size ≡ suc (length log.segments.behind.items) * size = ap (λ n. suc n * size) (length-map log.segments.behind.items segment_view) in
          omega (arith, below, ends, all, suc-mul (length log.segments.behind.items) size);
    }

    -- each blob that is there passes for its message
    good : (n : Message) → Contains H.messages n → PassesIfThere sum state.blobs.file n n.pointer
    good = (blobs_read sum state.blobs H (stable_below fits.reach H.batches)
        (fits.parts.items.blobs (firm_files sum state.blobs) (firm_leaves sum state.blobs)
        (firm_own sum state.blobs (fits.parts.named.own_names refl).of_blobs))).named

    -- So an iterator that goes over the segments of the log gives its messages.
    pub gives_messages : (lsn : ℤ) (it : LogIter D C) → GoesOver trace sum log lsn it → GivesMessages trace sum log H lsn it
    gives_messages lsn it over =
        let given = gives_on_file sum size real some H apart_messages (stable_end log) closed m slots state.blobs.file good (begins_from size lsn)
        (mul-mod_left (place_of_mark lsn / size) size) over.0 over.1 in
        (given.0, given.1, over.2 (map item_of given.0) None given.2)
