-- A log that begins on what a recovery left fits the history.
use Rattle.std.proofs.Common.{◌≡◌, ◌≤◌, ◌<◌, ◌+◌, ◌*◌, ◌/◌, ◌%◌, ◌∙◌, ◌-ℤ◌, ℕ, pos, List, [], length, Option, Some, None, IfSome, refl, sym, ap, subst, arith}
use Rattle.std.proofs.Math.Nat.{mod-add-div'}
use Rattle.std.proofs.lemmas.Bool.{cases_lt}
use Rattle.std.proofs.lemmas.List.Elements.{All-contains}
use Rattle.sled_codec.specs.Coords.{raised}
use Rattle.sled_codec.specs.Record.{short_header}
use Rattle.sled_codec.specs.History.{Batch, Message, History}
use Rattle.sled_codec.specs.Snapshots.{SnapshotModel, stable_place}
use Rattle.sled_store.specs.Device.{LogState, NamesState, State, at_rest}
use Rattle.sled_store.specs.declared.segment.start.Beginning.{Beginning}
use Rattle.sled_core.specs.declared.iobuf.Reserved.{Reserved}
use Rattle.sled_core.specs.declared.iobuf.Sealed.{Sealed}
use Rattle.sled_core.specs.declared.iobuf.SegmentPosition.{SegmentPosition}
use Rattle.sled_store.specs.Begin.{slots_of, unused, first_or, beginning_at, beginning_of, MayBeActive, IsStartable}
use Rattle.sled_store.proofs.Accounts.StartedFile.{started_file}
use Rattle.sled_core.specs.inside.Fits.{log_parts, HoldsIn}
use Rattle.sled_core.specs.inside.LogFile.{padded}
use Rattle.sled_core.specs.Logged.{in_log, logged}
use Rattle.sled_core.specs.OpenBatches.{stable_below}
use Rattle.sled_core.specs.Ready.{HasFile}
use Rattle.sled_core.specs.Recoverable.{NoHeaderOfZeros}
use Rattle.sled_core.specs.inside.Lasting.{LeavesRecovering}
use Rattle.sled_core.specs.inside.Running.{BlobsFit, KeepsEntries, NamesFit, FitsIn, IsReadyFor}
use Rattle.sled_core.specs.inside.Reached.{StandsActive, StandsAlone}
use Rattle.sled_core.proofs.Blobs.StaysOwn.{own_same}
use Rattle.sled_core.proofs.Logged.Messages.{logged_there}
use Rattle.sled_core.proofs.Reached.StableBelow.{stable_all}
use Rattle.sled_core.proofs.Start.StartedActive.{started_active}
use Rattle.sled_core.proofs.Start.KeptActive.{begins_alone}
use Rattle.sled_core.specs.SealedBuffers.{AreZeros}
use Rattle.sled_core.specs.declared.logger.joined_marks.JoinedMarks.{JoinedMarks}
use Rattle.sled_core.proofs.Start.PaddedActive.{padded_active}
use Rattle.sled_core.proofs.Start.ReadyLemmas.{raised_same, file_there, begins_from, BeginAt}
use Rattle.sled_core.proofs.Start.Recoverable.{same_place, settled_leaves}
use Rattle.sled_core.specs.inside.LogSegments.{held_since}

some_is : (a b : ℕ) → Some a ≡ Some b → a ≡ b
some_is a b same = cc

module _ (sum : List ℕ → ℕ) (size : ℕ) (device now : State) (s : SnapshotModel) (H : History) (A f : ℕ) (long : 256 ≤ size) (ready : IsReadyFor sum size device s H A f) (startable : IsStartable size (length device.log.bytes) s)
    (log_is : now.log ≡ at_rest (started_file size device.log.bytes s)) (same_blobs : now.blobs ≡ device.blobs) (same_names : now.snapshots ≡ device.snapshots) where
  abbrev log : List ℕ
  log = device.log.bytes

  abbrev stable : ℕ
  stable = stable_place s.stable

  abbrev slots : ℕ
  slots = slots_of size (length log)

  abbrev free : List ℕ
  free = unused size slots s

  abbrev new : List ℕ
  new = started_file size log s

  bytes_now : now.log.bytes ≡ new
  bytes_now = ap (λ (l : LogState). l.bytes) log_is

  same_stable : stable_place ready.ready.first.stable ≡ stable
  same_stable = ap stable_place ready.ready.same_place

  active_now : NoHeaderOfZeros sum → StandsActive sum size new s (logged H)
  active_now zeros = started_active sum size long zeros log s (logged H) ready.ready.table ready.alone

  -- Whatever a crash leaves now can be recovered.
  left_now : LeavesRecovering sum size H stable f now
  left_now =
      settled_leaves sum size now new H stable f ready.ready.first stable long ready.ready.apart ready.ready.below log_is
      (λ zeros. (same_place sum size new (logged H) s ready.ready.first stable stable stable same_stable refl refl (active_now zeros).stands).0) (omega arith)
      (subst (λ (n : NamesState). NamesFit sum size n (logged H) f ready.ready.first) (sym same_names) ready.names) (subst (λ (n : NamesState). BlobsFit sum n H stable) (sym same_blobs) ready.blobs)

  -- Where it begins at a site.
  module _ (site : SegmentPosition) (from : ℕ) (end : site.place + from ≡ stable) (begins : site.place ≡ stable / size * size) (own : (slot : ℕ) → s.active ≡ Some slot → slot ≡ site.slot)
      (behind : 0 < from → (s.active ≡ Some site.slot) × (from ≡ stable % size)) (beyond : AreZeros new (site.slot + from) (site.slot + size) → (to : ℕ) → NoHeaderOfZeros sum → StandsActive sum size (padded to new) s (logged H)) where
    fits_at : (bytes : List ℕ) {marks : JoinedMarks} (holds : HoldsIn sum marks (log_parts size site now None bytes from [] []) [] (logged H)) → holds.begun.first ≡ ready.ready.first → FitsIn sum marks (log_parts size site now None bytes from [] []) [] (site.place + from) 0 H A f []
    fits_at bytes {marks} holds first =
        let same : stable_place holds.begun.first.stable ≡ stable = ap (λ (x : SnapshotModel). stable_place x.stable) first ∙ same_stable in
        let open_none : stable_below (site.place + from) H.batches ≡ stable =
        stable_all (site.place + from) H.batches (λ b there low. (let its = All-contains (λ (x : Batch). (x.low < stable) × (x.peg < stable)) H.batches b ready.ready.batches there in omega (arith, its.1, end))) ∙ end in
        let clean : AreZeros new (site.slot + from) (site.slot + size) = subst (λ (l : List ℕ). AreZeros l (site.slot + from) (site.slot + size)) bytes_now (holds.own.laid refl) in
        record {
          holds = holds;
          reached = record {
            near = omega arith;
            ends = λ m there below. let low = All-contains (λ (x : Message). (x.place < stable) × (x.place + x.size ≤ stable)) (logged H).messages m ready.ready.below there in (omega (arith, low.0, end), omega (arith, low.1, end));
            no_batch = λ b there. cases_lt b.low (site.place + from);
            no_end = λ b there. cases_lt b.peg (site.place + from);
          };
          among = λ none zeros. subst (λ (l : List ℕ). StandsAlone sum (held_since size marks holds.begun.first) size l site from (site.place + from) (logged H) holds.begun.first) (sym bytes_now) (begins_alone sum size new s holds.begun.first (logged H) site from same end begins own behind (active_now zeros) (held_since size marks holds.begun.first) (omega (arith, same)));
          beyond = λ to far none zeros. subst (λ (l : List ℕ). StandsAlone sum (held_since size marks holds.begun.first) size (padded to l) site from (site.place + from) (logged H) holds.begun.first) (sym bytes_now)
              (begins_alone sum size (padded to new) s holds.begun.first (logged H) site from same end begins own behind (beyond clean to zeros) (held_since size marks holds.begun.first) (omega (arith, same)));
          items = record {
            blobs = subst (λ (n : NamesState). BlobsFit sum n H (stable_below (site.place + from) H.batches)) (sym same_blobs) (subst (BlobsFit sum device.blobs H) (sym open_none) ready.blobs);
            stored = λ m there past. absurd (let low = All-contains (λ (x : Message). (x.place < stable) × (x.place + x.size ≤ stable)) (logged H).messages (in_log m) ready.ready.below (logged_there H m there) in omega (arith, low.0, past, open_none));
            entries = subst (λ (n : NamesState). KeepsEntries sum n H (stable_below (site.place + from) H.batches)) (sym same_blobs) (subst (KeepsEntries sum device.blobs H) (sym open_none) ready.entries);
            below = ready.below;
          };
          named = record {
            names = subst (λ (n : NamesState). NamesFit sum size n (logged H) f holds.begun.first) (sym same_names) (subst (NamesFit sum size device.snapshots (logged H) f) (sym first) ready.names);
            own_names = λ none. own_same sum device now same_blobs same_names ready.own_names;
          };
          passes = let passes = ready.passes in omega (arith, passes, open_none);
          pinned = λ some. absurd (some refl);
          left = subst (λ n. LeavesRecovering sum size H n f now) (sym open_none) left_now;
        }

  -- Its marks are the place at which it begins.
  module _ (marks : JoinedMarks) (at : BeginAt marks stable) where
    -- It fits where it begins.
    FitsAt : List ℕ → Beginning → Type 0
    FitsAt bytes b = (holds : HoldsIn sum marks (log_parts size (record { place = b.place; slot = b.slot }) now None bytes b.offset [] []) [] (logged H)) → holds.begun.first ≡ ready.ready.first
        → FitsIn sum marks (log_parts size (record { place = b.place; slot = b.slot }) now None bytes b.offset [] []) [] (b.place + b.offset) 0 H A f []

    fits_from : (bytes : List ℕ) → FitsAt bytes (beginning_of size (length log) s)
    unfolding FitsAt
    fits_from bytes = by s.active refl (file_there sum size device now s (logged H) bytes long ready.ready startable log_is (ap (λ (n : NamesState). n.file) same_names)) startable.active
      where
        by : (o : Option ℕ) → s.active ≡ o → HasFile sum size log s o (logged H) → IfSome o (MayBeActive size slots stable) → FitsAt bytes (beginning_at size slots stable free o)
        by (Some a) active has may =
            let offset = may.offset in
            let room = offset.before_end in
            fits_at (record { place = stable / size * size; slot = a }) (stable % size) (omega (arith, mod-add-div' stable size)) refl
            (λ slot is. some_is slot a (sym is ∙ active)) (λ some. (active, refl))
            (λ clean to zeros. padded_active sum size long zeros log s (logged H) ready.ready.table ready.alone (active_now zeros)
            (λ slot is. (let here = some_is slot a (sym is ∙ active) in clean (slot + stable % size + 4) (omega (arith, here)) (omega (arith, here, room)))) to) bytes
        by None none has may =
            let begins = has.begins in
            let place : raised size stable ≡ stable = raised_same size stable (omega (arith, long)) begins in
            fits_at (record { place = raised size stable; slot = first_or slots free * size }) 0 (omega (arith, place)) (place ∙ sym (omega (arith, begins, mod-add-div' stable size)))
            (λ slot is. absurd (let both : None ≡ Some slot = sym none ∙ is in cc)) (λ some. absurd (omega (arith, some)))
            (λ clean to zeros. padded_active sum size long zeros log s (logged H) ready.ready.table ready.alone (active_now zeros) (λ slot is. absurd (let both : None ≡ Some slot = sym none ∙ is in cc)) to) bytes

    -- The log fits the history that it holds.
    pub start_fits : (b : Beginning) → b ≡ beginning_of size (length log) s → (bytes : List ℕ) (from : ℕ) (sealed : List Sealed) (reserved : List Reserved) → (b.offset ≡ 0 → bytes ≡ short_header sum (pos b.place) (pos b.place -ℤ pos 1)) → (0 < b.offset → length bytes ≡ b.offset)
        → from ≡ b.offset → sealed ≡ [] → reserved ≡ [] → FitsIn sum marks (log_parts size (record { place = b.place; slot = b.slot }) now None bytes from sealed reserved) [] (b.place + b.offset) 0 H A f []
    unfolding FitsAt
    start_fits b is bytes from sealed reserved header more offset none_sealed none =
        let begun = begins_from sum size device now s (logged H) bytes long ready.ready startable log_is (ap (λ (n : NamesState). n.file) same_names) marks at b is header more in
        let fits : FitsAt bytes b = subst (FitsAt bytes) (sym is) (fits_from bytes) in
        subst (λ n. FitsIn sum marks (log_parts size (record { place = b.place; slot = b.slot }) now None bytes n sealed reserved) [] (b.place + b.offset) 0 H A f []) (sym offset)
        (subst (λ (l : List Sealed). FitsIn sum marks (log_parts size (record { place = b.place; slot = b.slot }) now None bytes b.offset l reserved) [] (b.place + b.offset) 0 H A f []) (sym none_sealed)
        (subst (λ (r : List Reserved). FitsIn sum marks (log_parts size (record { place = b.place; slot = b.slot }) now None bytes b.offset [] r) [] (b.place + b.offset) 0 H A f []) (sym none) (fits begun.0 begun.1)))
