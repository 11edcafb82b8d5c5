-- One of the segments of a line has other bytes, buffers and reservations, and as much of it is written: where it holds what it held, so does the line, and it fits what it fitted, whichever of them it is.
use Rattle.std.proofs.Common.{◌≡◌, ◌⊎◌, ◌∙◌, ◌<◌, ◌+◌, ℕ, zero, suc, List, [], ◌∷◌, ◌++◌, length, map, set, take, drop, Option, Some, refl, sym, ap, subst, arith, inl, inr}
use Rattle.std.specs.List.{slice_get}
use Rattle.std.specs.declared.io.Error.{Error as IoError}
use Rattle.std.proofs.lemmas.List.{map-append}
use Rattle.sled_codec.specs.History.{History, Message}
use Rattle.sled_codec.specs.Snapshots.{SnapshotModel}
use Rattle.sled_store.specs.Device.{State}
use Rattle.sled_core.specs.Begun.{SegmentParts, SegmentView}
use Rattle.sled_core.specs.Logged.{logged}
use Rattle.sled_core.specs.Waiting.{at_last, last_of}
use Rattle.sled_core.specs.declared.iobuf.Reserved.{Reserved}
use Rattle.sled_core.specs.declared.iobuf.Sealed.{Sealed}
use Rattle.sled_core.specs.declared.logger.joined_marks.JoinedMarks.{JoinedMarks}
use Rattle.sled_core.specs.inside.Fits.{HoldsIn, HoldsLine, LogParts, begun_segment, parts_in}
use Rattle.sled_core.specs.inside.LogFile.{padded}
use Rattle.sled_core.specs.inside.Reached.{FollowApart, StandsAmong}
use Rattle.sled_core.specs.inside.Running.{FitsIn, FitsLine}
use Rattle.sled_core.proofs.Flush.FlushLemmas.{holds_over}
use Rattle.sled_core.proofs.Holds.Nth.{at_last_set, last_get, parts_set, parts_split}
use Rattle.sled_core.proofs.Holds.FitsGrown.{fits-anew}
use Rattle.sled_core.proofs.Line.HeldAround.{apart_around, begun_is, begun_same, held_around, marks_same, stays_below, together}
use Rattle.sled_core.proofs.Line.Refilled.{refilled_stands}
use Rattle.sled_core.proofs.Line.SegmentKeeps.{KeepsAllHeld, parts_over, parts_with, view_with}
use Rattle.sled_core.proofs.Reached.SegmentsBeside.{follow_still}
use Rattle.sled_core.proofs.Sealed.Ended.{ends_up}

-- Behind the first one,
module _ (sum : List ℕ → ℕ) (size : ℕ) (device : State) (fault : Option IoError) (marks : JoinedMarks) (pre : List SegmentParts) (s : SegmentParts) (post : List SegmentParts)
    (bytes : List ℕ) (filled : Option ℕ) (bs : List Sealed) (rs : List Reserved) where
  abbrev first : SegmentParts → LogParts
  first x = parts_over size device fault x

  abbrev its : SegmentParts
  its = parts_with s bytes filled bs rs

  -- the log holds what it held
  pub behind_changed : (x : SegmentParts) (H : History) → KeepsAllHeld sum size device fault s bytes bs rs → HoldsIn sum marks (first x) (pre ++ s ∷ post) H
      → HoldsIn sum marks (first x) (pre ++ its ∷ post) H
  behind_changed x H keeps holds =
      let around = held_around sum size x.site device fault x.bytes x.written_len x.sealed x.reserved H pre s post holds in
      let stays : Message → Type 0 = stays_below sum size x.site device fault x.bytes x.written_len x.sealed x.reserved H pre s post holds in
      let kept = keeps stays (record { messages = around.own; batches = H.batches }) around.here.segment in
      let up = ends_up s.written_len rs bs kept.are in
      let held = kept.held in
      record {
        begun = holds.begun;
        head = holds.head;
        later = around.before ++ (around.own ++ around.after);
        messages = holds.messages ∙ ap (λ (l : List Message). holds.head ++ l) around.messages;
        own = holds.own;
        others = together sum size device fault (x.site.place + size) pre its post stays H.batches around.before around.own around.after around.front
            (record { next = around.here.next; inside = kept.inside; are = kept.are; held = kept.held; behind = omega (arith, up, held); segment = kept.segment; above = around.here.above })
            around.rest;
        apart = subst (FollowApart x.site) (sym (map-append begun_segment pre (its ∷ post)))
            (follow_still x.site (map begun_segment pre) (begun_segment s) (map begun_segment post) s.written_len filled (apart_around pre s post x.site holds.apart));
        marked = marks_same sum (x.site.place + x.written_len) pre s its post refl (λ none. (none, kept.head)) holds.marked;
      }

  -- and fits what it fitted, where it holds that: what fills the segment begins where it did, or not all of it is written.
  module _ (x : SegmentParts) (reach pins : ℕ) (H : History) (A f : ℕ) (U : List Message) (filling : (filled ≡ s.filled) ⊎ (s.written_len < size)) where
    stands : (log : List ℕ) (at : SnapshotModel) {held : ℕ} → StandsAmong sum held size log x.site x.written_len (map begun_segment (pre ++ s ∷ post)) reach (logged H) at
        → StandsAmong sum held size log x.site x.written_len (map begun_segment (pre ++ its ∷ post)) reach (logged H) at
    stands log at {held} among = elim filling [
      | inl same ↦ subst (λ l. StandsAmong sum held size log x.site x.written_len l reach (logged H) at) (sym (begun_same pre s its post refl refl same)) among
      | inr low ↦ subst (λ l. StandsAmong sum held size log x.site x.written_len l reach (logged H) at) (sym (map-append begun_segment pre (its ∷ post)))
          (refilled_stands sum size log x.site x.written_len (map begun_segment pre) (begun_segment s) (map begun_segment post) filled reach (logged H) at low
          (subst (λ l. StandsAmong sum held size log x.site x.written_len l reach (logged H) at) (begun_is pre s post) among))
    ]

    pub behind_refits : FitsIn sum marks (first x) (pre ++ s ∷ post) reach pins H A f U → HoldsIn sum marks (first x) (pre ++ its ∷ post) (logged H)
        → FitsIn sum marks (first x) (pre ++ its ∷ post) reach pins H A f U
    behind_refits fits holds = fits-anew sum size x.site device fault x.bytes x.written_len x.sealed x.reserved pins H A f U fits x.bytes x.sealed x.reserved (pre ++ its ∷ post) H holds U fits.reached
        (λ ok none. stands device.log.bytes fits.holds.begun.first (fits.among ok none)) (λ to far ok none. stands (padded to device.log.bytes) fits.holds.begun.first (fits.beyond to far ok none))
        fits.items fits.named.names fits.passes fits.pinned fits.left

-- and so it is with the n-th one.
module _ (sum : List ℕ → ℕ) (size : ℕ) (device : State) (fault : Option IoError) (marks : JoinedMarks) (v : SegmentView) (bytes : List ℕ) (filled : Option ℕ) (bs : List Sealed)
    (rs : List Reserved) (gone : ℕ) where
  abbrev now : SegmentView
  now = view_with v bytes filled bs rs gone

  abbrev over : SegmentView → LogParts
  over x = parts_over size device fault x.parts

  pub nth_holds : KeepsAllHeld sum size device fault v.parts bytes bs rs → (line : List SegmentView) (n : ℕ) (H : History) → slice_get line n ≡ Some v
      → HoldsLine sum marks size device fault line H → HoldsLine sum marks size device fault (set line n (view_with v bytes filled bs rs gone)) H
  nth_holds keeps [] n H there holds = cc
  nth_holds keeps (w ∷ ws) zero H there holds =
      let same : w ≡ v = cc in
      let its : HoldsLine sum marks size device fault (v ∷ ws) H = subst (λ (x : SegmentView). HoldsLine sum marks size device fault (x ∷ ws) H) same holds in
      holds_over sum size v.parts.site device fault v.parts.bytes v.parts.written_len v.parts.sealed v.parts.reserved (map parts_in ws) H its
      device fault bytes v.parts.written_len bs rs refl (omega arith)
      (keeps _ _ its.own).segment its.others
  nth_holds keeps (w ∷ ws) (suc k) H there holds =
      subst (λ (l : List SegmentParts). HoldsIn sum marks (over w) l H) (sym (parts_set ws k v now there))
      (behind_changed sum size device fault marks (map parts_in (take k ws)) v.parts (map parts_in (drop (suc k) ws)) bytes filled bs rs w.parts H keeps
      (subst (λ (l : List SegmentParts). HoldsIn sum marks (over w) l H) (parts_split ws k v there) holds))

  pub nth_fits : (filled ≡ v.parts.filled) ⊎ (v.parts.written_len < size) → (line : List SegmentView) (n reach pins : ℕ) (H : History) (A f : ℕ) (U : List Message)
      → slice_get line n ≡ Some v → KeepsAllHeld sum size device fault v.parts bytes bs rs → FitsLine sum marks size device fault line reach pins H A f U
      → FitsLine sum marks size device fault (set line n (view_with v bytes filled bs rs gone)) reach pins H A f U
  nth_fits filling [] n reach pins H A f U there keeps fits = cc
  nth_fits filling (w ∷ ws) zero reach pins H A f U there keeps fits =
      let same : w ≡ v = cc in
      let its : FitsLine sum marks size device fault (v ∷ ws) reach pins H A f U =
      subst (λ (x : SegmentView). FitsLine sum marks size device fault (x ∷ ws) reach pins H A f U) same fits in
      fits-anew sum size v.parts.site device fault v.parts.bytes v.parts.written_len v.parts.sealed v.parts.reserved pins H A f U its
      bytes bs rs (map parts_in ws) H (nth_holds keeps (v ∷ ws) zero (logged H) refl its.holds) U its.reached its.among its.beyond its.items its.named.names
      its.passes its.pinned its.left
  nth_fits filling (w ∷ ws) (suc k) reach pins H A f U there keeps fits =
      let pre : List SegmentParts = map parts_in (take k ws) in
      let post : List SegmentParts = map parts_in (drop (suc k) ws) in
      let its : FitsIn sum marks (over w) (pre ++ v.parts ∷ post) reach pins H A f U =
      subst (λ (l : List SegmentParts). FitsIn sum marks (over w) l reach pins H A f U) (parts_split ws k v there) fits in
      subst (λ (l : List SegmentParts). FitsIn sum marks (over w) l reach pins H A f U) (sym (parts_set ws k v now there))
      (behind_refits sum size device fault marks pre v.parts post bytes filled bs rs w.parts reach pins H A f U filling its
      (behind_changed sum size device fault marks pre v.parts post bytes filled bs rs w.parts (logged H) keeps its.holds))

-- The last one of them is the one that is being filled.
module _ (sum : List ℕ → ℕ) (size : ℕ) (device : State) (fault : Option IoError) (marks : JoinedMarks) (v : SegmentView) (vs : List SegmentView) (bytes : List ℕ) (filled : Option ℕ)
    (bs : List Sealed) (rs : List Reserved) (f : SegmentView → SegmentView) (is : f (last_of v vs) ≡ view_with (last_of v vs) bytes filled bs rs (last_of v vs).gone)
    (keeps : KeepsAllHeld sum size device fault (last_of v vs).parts bytes bs rs) where
  set_last : set (v ∷ vs) (length vs) (view_with (last_of v vs) bytes filled bs rs (last_of v vs).gone) ≡ at_last f (v ∷ vs)
  set_last = ap (set (v ∷ vs) (length vs)) (sym is) ∙ sym (at_last_set f v vs)

  pub last_holds : (H : History) → HoldsLine sum marks size device fault (v ∷ vs) H → HoldsLine sum marks size device fault (at_last f (v ∷ vs)) H
  last_holds H holds = subst (λ line. HoldsLine sum marks size device fault line H) set_last
      (nth_holds sum size device fault marks (last_of v vs) bytes filled bs rs (last_of v vs).gone keeps (v ∷ vs) (length vs) H (last_get v vs) holds)

  pub last_fits : (filled ≡ (last_of v vs).parts.filled) ⊎ ((last_of v vs).parts.written_len < size) → (reach pins : ℕ) (H : History) (A a : ℕ) (U : List Message)
      → FitsLine sum marks size device fault (v ∷ vs) reach pins H A a U → FitsLine sum marks size device fault (at_last f (v ∷ vs)) reach pins H A a U
  last_fits filling reach pins H A a U fits = subst (λ line. FitsLine sum marks size device fault line reach pins H A a U) set_last
      (nth_fits sum size device fault marks (last_of v vs) bytes filled bs rs (last_of v vs).gone filling (v ∷ vs) (length vs) reach pins H A a U (last_get v vs) keeps fits)
