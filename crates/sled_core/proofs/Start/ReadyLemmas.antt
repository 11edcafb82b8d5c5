-- A log that begins on what a recovery left holds the history.
use Rattle.std.proofs.Common.{◌≡◌, ◌≤◌, ◌<◌, ◌+◌, ◌-◌, ◌*◌, ◌/◌, ◌%◌, ◌∙◌, ◌-ℤ◌, ◌↔◌, ℕ, ℤ, pos, List, [], length, refl, sym, ap, subst, arith, inl, inr, Option, None, Some, IfSome}
use Rattle.std.specs.List.{All}
use Rattle.std.proofs.Math.Nat.{mod-add-div', mul-mod_left}
use Rattle.std.proofs.lemmas.Bool.{cases_lt}
use Rattle.std.proofs.lemmas.List.{append-nil, take_all}
use Rattle.std.proofs.lemmas.List.Elements.{All-contains}
use Rattle.std.proofs.lemmas.Nat.{div-mul-add}
use Rattle.sled_codec.specs.Coords.{raised}
use Rattle.sled_codec.specs.Record.{short_header}
use Rattle.sled_codec.specs.History.{Message, Batch, History, CutFits}
use Rattle.sled_codec.specs.PageTables.{IsTable}
use Rattle.sled_codec.specs.Snapshots.{Entry, Page, SnapshotModel, stable_place}
use Rattle.sled_codec.proofs.Segments.{length-short_header}
use Rattle.sled_store.specs.Device.{State, LogState, at_rest}
use Rattle.sled_store.specs.SnapshotFiles.{BeginsFrom}
use Rattle.sled_store.specs.declared.segment.start.Beginning.{Beginning}
use Rattle.sled_core.specs.declared.iobuf.SegmentPosition.{SegmentPosition}
use Rattle.sled_store.specs.Begin.{slots_of, slot_of, segment_number_of, entries_of, unused, first_or, beginning_at, beginning_of, MayBeActive, IsStartable}
use Rattle.sled_core.specs.inside.Fits.{log_parts, HoldsIn}
use Rattle.sled_core.specs.Fits.{EndBelow, CloseBelow, IsBegunFrom}
use Rattle.sled_core.specs.LogFile.{IsLogFile, StaysFrom}
use Rattle.sled_core.specs.SealedBuffers.{AreZeros}
use Rattle.sled_core.proofs.Holds.BatchLemmas.{closed_up, none_batched}
use Rattle.sled_core.specs.Ready.{HasActive, HasNoActive, HasFile, IsReady, active_site}
use Rattle.sled_core.specs.declared.logger.joined_marks.JoinedMarks.{JoinedMarks}
use Rattle.sled_store.proofs.Segments.Elements.{in_nothing}
use Rattle.sled_store.proofs.Accounts.StartedFile.{started_file}
use Rattle.sled_core.proofs.Reached.BufferPath.{buffer_mark}
use Rattle.sled_core.proofs.Start.UsedLemmas.{active_clean, active_file, new_file, new_clean}
use Rattle.sled_core.proofs.Tail.MarkPlaces.{held_begun}
use Rattle.sled_core.specs.LogSegments.{held_from}
use Rattle.sled_core.specs.Tail.{place_of_mark}
use Rattle.sled_core.specs.inside.LogSegments.{held_since}
use Rattle.std.proofs.lemmas.Int.{ints}

-- a place that is a multiple of a size is not raised
pub raised_same : (size place : ℕ) → 0 < size → place % size ≡ 0 → raised size place ≡ place
raised_same size place some aligned =
    let whole : place / size * size ≡ place = omega (arith, mod-add-div' place size, aligned) in
    ap (λ n. (n + (size - 1)) / size * size) (sym whole) ∙ ap (λ n. n * size) (div-mul-add (place / size) size (size - 1) (omega (arith, some))) ∙ whole

-- A place splits nothing of a history whose messages and batches all end there or before.
pub cut_fits : (H : History) (cut : ℕ) → EndBelow cut H.messages → CloseBelow cut H.batches → CutFits H cut
cut_fits H cut below closed = record {
  batches = λ b has low. (All-contains (λ (x : Batch). (x.low < cut) × (x.peg < cut)) H.batches b closed has).1;
  messages = λ m has low. (All-contains (λ (x : Message). (x.place < cut) × (x.place + x.size ≤ cut)) H.messages m below has).1;
}

-- the marks of a log that begins at a place are that place
abbrev pub BeginAt : JoinedMarks → ℕ → Type 0
BeginAt marks place = (marks.joined ≡ pos place) × (marks.durable ≡ pos place)

module _ (sum : List ℕ → ℕ) (size : ℕ) (device now : State) (s : SnapshotModel) (H : History) (bytes : List ℕ) (long : 256 ≤ size) (ready : IsReady sum size device s H) (startable : IsStartable size (length device.log.bytes) s)
    (started_now : now.log ≡ at_rest (started_file size device.log.bytes s)) (same_names : now.snapshots.file ≡ device.snapshots.file) where
  abbrev log : List ℕ
  log = device.log.bytes

  abbrev stable : ℕ
  stable = stable_place s.stable

  abbrev now_log : List ℕ
  now_log = started_file size log s

  same_stable : stable_place ready.first.stable ≡ stable
  same_stable = ap stable_place ready.same_place

  first_table : IsTable ready.first.pages H (stable_place ready.first.stable)
  first_table = subst (λ (ps : List Page). IsTable ps H (stable_place ready.first.stable)) (sym ready.same_pages) (subst (IsTable s.pages H) (sym same_stable) ready.table)

  pub settled_bytes : log ≡ ready.log
  settled_bytes = ap (λ (l : LogState). l.bytes) ready.settled

  pub file_there : HasFile sum size log s s.active H
  file_there = subst (λ (l : List ℕ). HasFile sum size l s s.active H) (sym settled_bytes) ready.file

  -- Its marks are the place at which it begins.
  module _ (marks : JoinedMarks) (at : BeginAt marks stable) where
    -- So what is held counts from there.
    held_same : held_since size marks ready.first ≡ stable
    held_same = ap (λ n. held_from size n marks.joined) same_stable ∙ held_begun size stable marks.joined at.0

    -- The newest snapshot is what the log begins from.
    abbrev begun_at : (site : SegmentPosition) (from : ℕ) → site.place + from ≡ stable → stable / size * size ≡ site.place → IsBegunFrom sum marks.joined marks.durable size now.snapshots.file site from H
    begun_at site from end least = record {
      first = ready.first;
      begins = subst (λ (f : ℤ → Option (List ℕ)). BeginsFrom sum f ready.first) (sym same_names) ready.begins;
      table = first_table;
      fits = subst (CutFits H) (sym same_stable) (cut_fits H stable ready.below ready.batches);
      least = (let same = ap (λ n. n / size * size) same_stable in omega (arith, same, least));
      reached = omega (arith, end, same_stable);
      joined = omega (arith, ints, at.0, same_stable);
      written = omega (arith, ints, at.1, end);
      marked = (let begins = ap (λ z. place_of_mark z / size * size) at.1 in omega (arith, begins, least));
    }

    -- it holds the history, and begins from that snapshot
    abbrev pub HoldsFrom : SegmentPosition → ℕ → Type 0
    HoldsFrom site from = (holds : HoldsIn sum marks (log_parts size site now None bytes from [] []) [] H) × (holds.begun.first ≡ ready.first)

    -- The log holds the history at a site where the file has its messages.
    holds_at : (site : SegmentPosition) (from : ℕ) → site.place % size ≡ 0 → site.slot % size ≡ 0 → site.place + from ≡ stable → stable / size * size ≡ site.place → (0 < from → 20 ≤ from)
        → (from ≡ 0 → bytes ≡ short_header sum (pos site.place) (pos site.place -ℤ pos 1)) → (0 < from → length bytes ≡ from)
        → IsLogFile sum size now_log site from H.messages (StaysFrom H stable) → AreZeros now_log (site.slot + from) (site.slot + size) → HoldsFrom site from
    holds_at site from place_begins slot_begins end least behind first more file clean = (
      record {
        begun = begun_at site from end least;
        head = H.messages;
        later = [];
        messages = sym (append-nil H.messages);
        others = refl;
        apart = tt;
        marked = λ x there. absurd (in_nothing x there);
        own = record {
          records = record {
            earlier = H.messages;
            messages = sym (append-nil H.messages);
            below = subst (λ n. EndBelow n H.messages) (sym end) ready.below;
            apart = ready.apart;
            batched = none_batched size site from H.batches (subst (λ n. CloseBelow n H.batches) (sym end) ready.batches);
            no_end = λ b there. inl (let all = All-contains (λ (x : Batch). (x.low < stable) × (x.peg < stable)) H.batches b ready.batches there in let far : from ≤ length bytes = elim (cases_lt 0 from) [ inl begun ↦ (let count = more begun in omega (arith, count)) | inr start ↦ omega (arith, start) ] in omega (arith, all.1, end, far));
            place_begins = place_begins;
            slot_begins = slot_begins;
            header = λ is.
                let header = first is in
                record {
                  mark = pos site.place -ℤ pos 1;
                  is = take_all 20 bytes (omega (arith, ap length header, length-short_header sum (pos site.place) (pos site.place -ℤ pos 1))) ∙ header;
                  of_history = buffer_mark H site.slot site.place (λ b there low. let all = All-contains (λ (x : Batch). (x.low < stable) × (x.peg < stable)) H.batches b ready.batches there in omega (arith, all.1, end, is));
                };
            chain = elim (cases_lt 0 from) [
              | inl begun ↦ (let count = more begun in let least = behind begun in omega (arith, count, least))
              | inr start ↦ (let is : from ≡ 0 = omega (arith, start) in let header = first is in omega (arith, is, ap length header, length-short_header sum (pos site.place) (pos site.place -ℤ pos 1)))
            ];
            stand = λ k d lt. absurd (omega (arith, lt));
          };
          written = λ none. record { log = now_log; settled = started_now; file = subst (λ n. IsLogFile sum size now_log site from H.messages (StaysFrom H n)) (sym held_same) file };
          laid = λ none. subst (λ (l : LogState). AreZeros l.bytes (site.slot + from) (site.slot + size)) (sym started_now) clean;
        };
      },
      refl,
    )

    -- It goes on in the active segment.
    holds_active : (a : ℕ) → s.active ≡ Some a → MayBeActive size (slots_of size (length log)) stable a → All (λ e. (slot_of size e ≡ a / size) ↔ (segment_number_of size e ≡ stable / size)) (entries_of s.pages) → HasActive sum size log s a H
        → (stable % size ≡ 0 → bytes ≡ short_header sum (pos (stable / size * size)) (pos (stable / size * size) -ℤ pos 1)) → (0 < stable % size → length bytes ≡ stable % size)
        → HoldsFrom (active_site size stable a) (stable % size)
    holds_active a active may of_active has first more =
        holds_at (active_site size stable a) (stable % size) (mul-mod_left (stable / size) size) may.aligned (omega (arith, mod-add-div' stable size)) refl (λ some. has.inside) first more
        (active_file sum size long log s H a active may.aligned ready.table
        (λ e there. (All-contains (λ (x : Entry). (slot_of size x ≡ a / size) ↔ (segment_number_of size x ≡ stable / size)) (entries_of s.pages) e of_active there).0) has)
        (active_clean sum size long log s H a active may.aligned ready.table
        (λ e there. (All-contains (λ (x : Entry). (slot_of size x ≡ a / size) ↔ (segment_number_of size x ≡ stable / size)) (entries_of s.pages) e of_active there).0) has)

    -- It begins a segment.
    holds_new : HasNoActive sum size log s H → (site : SegmentPosition) → site ≡ record { place = raised size stable; slot = first_or (slots_of size (length log)) (unused size (slots_of size (length log)) s) * size }
        → bytes ≡ short_header sum (pos site.place) (pos site.place -ℤ pos 1) → HoldsFrom site 0
    holds_new has site is header =
        let begins = has.begins in
        let place : raised size stable ≡ stable = raised_same size stable (omega (arith, long)) begins in
        let lowest : ℕ = first_or (slots_of size (length log)) (unused size (slots_of size (length log)) s) in
        let moved : site ≡ record { place = stable; slot = lowest * size } = is ∙ ap (λ (n : ℕ). record { place = n; slot = lowest * size }) place in
        subst (λ (x : SegmentPosition). bytes ≡ short_header sum (pos x.place) (pos x.place -ℤ pos 1) → HoldsFrom x 0) (sym moved) (λ header.
        holds_at (record { place = stable; slot = lowest * size }) 0 begins (mul-mod_left lowest size) (omega arith) (omega (arith, mod-add-div' stable size, begins)) (λ some. absurd (omega (arith, some)))
        (λ _. header) (λ some. absurd (omega (arith, some)))
        (new_file sum size long log s H ready.below has) (new_clean sum size long log s H ready.below has)) header

    -- A log that begins on what a recovery left holds the history, and begins from its newest snapshot.
    pub begins_from : (b : Beginning) → b ≡ beginning_of size (length device.log.bytes) s → (b.offset ≡ 0 → bytes ≡ short_header sum (pos b.place) (pos b.place -ℤ pos 1)) → (0 < b.offset → length bytes ≡ b.offset)
        → HoldsFrom (record { place = b.place; slot = b.slot }) b.offset
    begins_from b is = subst (λ (x : Beginning). (x.offset ≡ 0 → bytes ≡ short_header sum (pos x.place) (pos x.place -ℤ pos 1)) → (0 < x.offset → length bytes ≡ x.offset)
        → HoldsFrom (record { place = x.place; slot = x.slot }) x.offset) (sym is) (by s.active refl file_there startable.active startable.of_active)
      where
        by : (o : Option ℕ) → s.active ≡ o → HasFile sum size log s o H → IfSome o (MayBeActive size (slots_of size (length log)) stable)
            → IfSome o (λ a. All (λ e. (slot_of size e ≡ a / size) ↔ (segment_number_of size e ≡ stable / size)) (entries_of s.pages))
            → let x : Beginning = beginning_at size (slots_of size (length log)) stable (unused size (slots_of size (length log)) s) o in
            (x.offset ≡ 0 → bytes ≡ short_header sum (pos x.place) (pos x.place -ℤ pos 1)) → (0 < x.offset → length bytes ≡ x.offset) → HoldsFrom (record { place = x.place; slot = x.slot }) x.offset
        by None none has may of_active first more = holds_new has (record { place = raised size stable; slot = first_or (slots_of size (length log)) (unused size (slots_of size (length log)) s) * size }) refl (first refl)
        by (Some a) active has may of_active first more = holds_active a active may of_active has first more

    pub begins_ready : (b : Beginning) → b ≡ beginning_of size (length device.log.bytes) s → (b.offset ≡ 0 → bytes ≡ short_header sum (pos b.place) (pos b.place -ℤ pos 1)) → (0 < b.offset → length bytes ≡ b.offset)
        → HoldsIn sum marks (log_parts size (record { place = b.place; slot = b.slot }) now None bytes b.offset [] []) [] H
    begins_ready b is first more = (begins_from b is first more).0

    -- Its batches end below where the log goes on.
    pub begins_closed : (b : Beginning) → b ≡ beginning_of size (length device.log.bytes) s → (b.offset ≡ 0 → bytes ≡ short_header sum (pos b.place) (pos b.place -ℤ pos 1)) → (0 < b.offset → length bytes ≡ b.offset)
        → CloseBelow (b.place + b.offset) H.batches
    begins_closed b is first more =
        let from = begins_from b is first more in
        let reached = from.0.begun.reached in
        closed_up stable (b.place + b.offset) H.batches (omega (arith, reached, ap (λ (m : SnapshotModel). stable_place m.stable) from.1, same_stable)) ready.batches
