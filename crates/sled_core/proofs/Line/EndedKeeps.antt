-- A call that ends a reservation of a log changes nothing else that a caller sees: the position, the stable end, and that no buffer is sealed; and what the changed segments hold and fit the log does.
use Rattle.std.proofs.Common.{◌≤◌, ◌≡◌, ◌∙◌, ◌+◌, ◌-◌, ap, sym, refl, arith, ℕ, suc, Bool, true, false, nat_lt, if◌then◌else◌, List, [], ◌∷◌, length, take, drop, set, map, Some, None}
use Rattle.std.specs.List.{slice_get}
use Rattle.std.proofs.lemmas.List.{length-set}
use Rattle.sled_codec.specs.History.{History, Message}
use Rattle.sled_store.specs.Accounts.{machine_of}
use Rattle.sled_store.specs.Device.{Trace, state_of}
use Rattle.sled_store.specs.declared.config.RunningConfig.{RunningConfig}
use Rattle.sled_store.specs.SegmentStates.{Machine}
use Rattle.sled_core.specs.declared.iobuf.ReservationState.{ReservationState}
use Rattle.sled_core.specs.declared.iobuf.ReservationState.TheVariants.{Open}
use Rattle.sled_core.specs.declared.iobuf.Reserved.{Reserved}
use Rattle.sled_core.specs.declared.iobuf.Sealed.{Sealed}
use Rattle.sled_core.specs.declared.iobuf.SegmentPosition.{SegmentPosition}
use Rattle.sled_core.specs.declared.logger.Log.{Log}
use Rattle.sled_core.specs.declared.logger.joined_marks.JoinedMarks.{JoinedMarks}
use Rattle.sled_core.specs.Begun.{SegmentView, segment_view}
use Rattle.sled_core.specs.invariants.Fits.{Holds}
use Rattle.sled_core.specs.inside.Fits.{HoldsWith, written_to}
use Rattle.sled_core.specs.Fits.{KeepsAll, current_of, line_of, noted_in, synced_end}
use Rattle.sled_core.specs.Keeps.{GoesOn, SamePosition}
use Rattle.sled_core.specs.Logged.{logged}
use Rattle.sled_core.specs.Positions.{is_short, next_segment_at, position_in}
use Rattle.sled_core.specs.OpenBatches.{not_whole}
use Rattle.sled_core.specs.invariants.Running.{Fits}
use Rattle.sled_core.specs.inside.Running.{FitsWith}
use Rattle.sled_core.specs.Recoverable.{NoHeaderOfZeros}
use Rattle.sled_core.specs.inside.Hides.{HidesFrom}
use Rattle.sled_core.specs.inside.SealedBuffers.{one_ended, one_fewer}
use Rattle.sled_core.specs.inside.Shown.{RestsWhole, shown_of}
use Rattle.sled_core.specs.inside.Turned.{ChangesLine, ended_now}
use Rattle.sled_core.specs.Waiting.{buffer_at, unwritten_in}
use Rattle.sled_core.proofs.Cleared.Calls.{cleared_ended}
use Rattle.sled_core.proofs.Cleared.Shown.{ShowsSame}
use Rattle.sled_core.proofs.Line.KeptCalls.{goes_on_quietly}
use Rattle.sled_core.proofs.Line.Moves.{LogFreesNothing, MarksPass, MarksStand, fits_as, holds_as}
use Rattle.sled_core.proofs.Line.PassedMarks.{passed_up}
use Rattle.sled_core.proofs.Line.LineEnds.{end_set, kept_same, noted_later, noted_same}
use Rattle.sled_core.proofs.Numbers.HidesAs.{from_as}
use Rattle.sled_core.proofs.Line.EndedLine.{over_bytes}
use Rattle.sled_core.proofs.Line.Ends.{set_keeps, written_set}
use Rattle.sled_core.proofs.Holds.Facts.{nth_facts}
use Rattle.sled_core.proofs.Holds.Nth.{last_get}
use Rattle.sled_core.proofs.Line.AccountBehind.{account_same}
use Rattle.sled_core.specs.LogSegments.{begins_from}

-- No buffer is sealed that isn't written where none was.

is_rest : {T : Type 0} (o : Bool) (xs ys : List T) (x : T) → (if o then xs else x ∷ ys) ≡ [] → (o ≡ true) × (xs ≡ [])
is_rest true xs ys x same = (refl, same)
is_rest false xs ys x same = cc

none_still : (site : SegmentPosition) (bytes bytes' : List ℕ) (from : ℕ) (bs : List Sealed) (rs rs' : List Reserved) → unwritten_in site bytes from bs rs ≡ [] → unwritten_in site bytes' from bs rs' ≡ []
none_still site bytes bytes' from [] rs rs' none = refl
none_still site bytes bytes' from (b ∷ bs) rs rs' none =
    let is = is_rest b.is_written (unwritten_in site bytes b.end bs (drop b.count rs)) (unwritten_in site bytes b.end bs (drop b.count rs)) (buffer_at site bytes from b.end (take b.count rs)) none in
    (λ j. if is.0 j then unwritten_in site bytes' b.end bs (drop b.count rs') else (buffer_at site bytes' from b.end (take b.count rs') ∷ unwritten_in site bytes' b.end bs (drop b.count rs')))
    ∙ none_still site bytes bytes' b.end bs (drop b.count rs) (drop b.count rs') is.1

none_ended : (site : SegmentPosition) (bytes bytes' : List ℕ) (from i : ℕ) (bs : List Sealed) (rs rs' : List Reserved) → unwritten_in site bytes from bs rs ≡ [] → unwritten_in site bytes' from (one_ended i bs) rs' ≡ []
none_ended site bytes bytes' from i [] rs rs' none = refl
none_ended site bytes bytes' from i (b ∷ bs) rs rs' none =
    by_test (λ rest. none_ended site bytes bytes' b.end (i - b.count) bs (drop b.count rs) (drop b.count rs') rest) (nat_lt i b.count)
  where
    is : (b.is_written ≡ true) × (unwritten_in site bytes b.end bs (drop b.count rs) ≡ [])
    is = is_rest b.is_written (unwritten_in site bytes b.end bs (drop b.count rs)) (unwritten_in site bytes b.end bs (drop b.count rs)) (buffer_at site bytes from b.end (take b.count rs)) none

    by_test : (unwritten_in site bytes b.end bs (drop b.count rs) ≡ [] → unwritten_in site bytes' b.end (one_ended (i - b.count) bs) (drop b.count rs') ≡ []) → (o : Bool)
        → unwritten_in site bytes' from (if o then one_fewer b ∷ bs else b ∷ one_ended (i - b.count) bs) rs' ≡ []
    by_test further true =
        (λ j. if is.0 j then unwritten_in site bytes' b.end bs (drop b.count rs') else (buffer_at site bytes' from b.end (take b.count rs') ∷ unwritten_in site bytes' b.end bs (drop b.count rs')))
        ∙ none_still site bytes bytes' b.end bs (drop b.count rs) (drop b.count rs') is.1
    by_test further false =
        (λ j. if is.0 j then unwritten_in site bytes' b.end (one_ended (i - b.count) bs) (drop b.count rs') else (buffer_at site bytes' from b.end (take b.count rs') ∷ unwritten_in site bytes' b.end (one_ended (i - b.count) bs) (drop b.count rs')))
        ∙ further is.1

module _ {D C : Type 0} (old new : Log D C) (n : ℕ) (v : SegmentView) (there : slice_get (line_of old) n ≡ Some v) (i : ℕ) (r : Reserved) (at : slice_get v.parts.reserved i ≡ Some r) (is_open : r.state ≡ Open) (text : List ℕ) (short : length text ≤ r.len) (state : ReservationState)
    (line : line_of new ≡ set (line_of old) n (ended_now i r text state v)) (rest : ChangesLine old new) where
  abbrev e : SegmentView
  e = ended_now i r text state v

  abbrev behind : List SegmentView
  behind = map segment_view old.segments.behind.items

  abbrev behind' : List SegmentView
  behind' = map segment_view new.segments.behind.items

  -- the segment that is being filled, in the changed segments
  current_there : slice_get (set (line_of old) n e) (length behind) ≡ Some (current_of new)
  current_there =
      let long : suc (length behind') ≡ suc (length behind) = ap length line ∙ length-set (line_of old) n e in
      let count : length behind ≡ length behind' = omega (arith, long) in
      ap (λ (l : List SegmentView). slice_get l (length behind)) (sym line) ∙ ap (slice_get (line_of new)) count ∙ last_get (segment_view new.segments.first) behind'

  pub position_ended : SamePosition old new
  position_ended =
      let size : ℕ = old.config.config.segment_size in
      let m : Machine = machine_of old.accountant in
      let long = over_bytes v i r text (nth_facts old n v there) at short in
      let same : position_in size e m ≡ position_in size v m = ap (λ (k : ℕ). if is_short size k then next_segment_at size v.parts.site.place m else record { place = v.parts.site.place + k; begins = v.parts.site.place; slot = v.parts.site.slot; machine = m }) long in
      record {
        position = (λ j. position_in (rest.config j).config.segment_size (current_of new) (machine_of (rest.accountant j)))
            ∙ set_keeps (λ (w : SegmentView). position_in size w m) (line_of old) n v e there same (length behind) (current_of old) (current_of new) (last_get (segment_view old.segments.first) behind) current_there;
        reserved = rest.reserved;
        pins = rest.pins;
        joined = ap (λ (x : JoinedMarks). x.joined) rest.marks;
        size = ap (λ (c : RunningConfig D C). c.config.segment_size) rest.config;
      }

  synced_ended : synced_end new ≡ synced_end old
  synced_ended = set_keeps (λ (w : SegmentView). w.parts.site.place + w.parts.written_len) (line_of old) n v e there refl 0 (segment_view old.segments.first) (segment_view new.segments.first) refl (ap (λ (l : List SegmentView). slice_get l 0) (sym line))

  pub noted_ended : noted_in new ≡ noted_in old
  noted_ended = noted_same old new rest.noted synced_ended

  -- and those that were noted are the ones that were.
  pub left_ended : noted_in new ≡ not_whole (synced_end new) (noted_in old)
  left_ended = noted_later old new rest.noted (let same = synced_ended in omega (arith, same))

  pub keeps_ended : KeepsAll old new
  keeps_ended = record { config = rest.config; synced = synced_ended; noted = noted_ended; kept = kept_same old new rest.noted; fault = rest.fault; pins = rest.pins; account = account_same old new rest.marks rest.pins }

  pub goes_on_ended : (trace : D → Trace) (sum : List ℕ → ℕ) → GoesOn trace sum old new
  goes_on_ended trace sum = goes_on_quietly trace sum old new (record { config = ap (λ (c : RunningConfig D C). c.config) rest.config; checksum = ap (λ (c : RunningConfig D C). c.checksum) rest.config })
      (ap (λ (c : RunningConfig D C). trace c.device) rest.config) (let same = synced_ended in omega (arith, same)) (λ none. sym rest.fault ∙ none)

  -- What counts for nothing in the log file does so still.
  shows_ended : ShowsSame old.config.config.segment_size (machine_of old.accountant) (machine_of old.accountant) (line_of old) (set (line_of old) n e)
  shows_ended log = cleared_ended old.config.config.segment_size (machine_of old.accountant) log (line_of old) n v i r text state there

  -- The log holds and fits what the changed segments do.

  pub holds_ended : (trace : D → Trace) (sum : List ℕ → ℕ) (H : History)
      → RestsWhole old.fault.kept (state_of (trace old.config.device)).log
      → HoldsWith sum old.marks (noted_in old) old.config.config.segment_size (shown_of trace old) old.fault.kept (set (line_of old) n e)
      (machine_of old.accountant) (logged H)
      → Holds trace sum new H
  holds_ended trace sum H rests holds =
      holds_as trace sum old new rest.config rest.fault rest.marks (noted_in old) noted_ended (set (line_of old) n e) line (machine_of old.accountant)
      (ap machine_of rest.accountant) shows_ended rests H holds

  pub fits_ended : (trace : D → Trace) (sum : List ℕ → ℕ) (H : History) (A f : ℕ) (U : List Message)
      → (old.fault.kept ≡ None → NoHeaderOfZeros sum → HidesFrom sum old.config.config.segment_size (begins_from old.config.config.segment_size old.marks.joined) (state_of (trace old.config.device))
      (machine_of old.accountant) (line_of old) (logged H))
      → MarksStand trace sum old
      → MarksPass trace sum old (line_of old) H
      → LogFreesNothing trace old (machine_of old.accountant) f
      → RestsWhole old.fault.kept (state_of (trace old.config.device)).log
      → FitsWith sum old.marks (noted_in old) old.config.config.segment_size (shown_of trace old) old.fault.kept (set (line_of old) n e) (machine_of old.accountant)
      old.pins H A f U
      → Fits trace sum new H A f U
  fits_ended trace sum H A f U hides marked passed clean rests =
      fits_as trace sum old new rest.config rest.fault rest.marks (noted_in old) noted_ended (set (line_of old) n e) line (machine_of old.accountant)
      (ap machine_of rest.accountant) shows_ended rests H A f U rest.pins
      (λ none zeros. from_as sum old.config.config.segment_size (state_of (trace old.config.device))
      (machine_of old.accountant) (machine_of old.accountant) (line_of old) (set (line_of old) n e) (logged H) (λ j. refl) (λ j. refl)
      (shows_ended (state_of (trace old.config.device)).log.bytes)
      (omega (arith, end_set old.config.config.segment_size (line_of old) n v e there refl)) (hides none zeros)) marked
      (λ none. passed_up (written_to (line_of old)) (written_to (set (line_of old) n e))
      (let same = written_set (line_of old) n v e there (λ j. v.parts.site) (λ j. v.parts.written_len) in omega (arith, same))
      H.batches sum (state_of (trace old.config.device)).snapshots.file old.marks (passed none)) clean
