-- The manifest of a batch ends in the n-th of a log's segments, whichever that is: the segments hold and fit the history with the batch, which begins where no other one does.
use Rattle.std.proofs.Common.{◌≡◌, ◌⊎◌, ◌≤◌, ◌<◌, ◌+◌, ◌*◌, ◌^◌, sym, refl, arith, subst, ℕ, zero, suc, true, List, [], ◌∷◌, ◌++◌, length, take, drop, set, map, Option, None, Some}
use Rattle.std.specs.declared.io.Error.{Error as IoError}
use Rattle.std.specs.List.{All, Contains, slice_get}
use Rattle.std.proofs.lemmas.List.Elements.{All-cons}
use Rattle.sled_codec.specs.History.{Batch, History, Message}
use Rattle.sled_store.specs.Device.{State}
use Rattle.sled_core.specs.declared.iobuf.ReservationState.TheVariants.{Manifest, Open}
use Rattle.sled_core.specs.declared.iobuf.Reserved.{Reserved}
use Rattle.sled_core.specs.Begun.{SegmentParts, SegmentView}
use Rattle.sled_core.specs.inside.Buffers.{marking}
use Rattle.sled_core.specs.inside.Fits.{HoldsIn, HoldsLine, LogParts, log_parts, parts_in}
use Rattle.sled_core.specs.Logged.{logged}
use Rattle.sled_core.specs.Manifests.{is_manifest}
use Rattle.sled_core.specs.declared.logger.joined_marks.JoinedMarks.{JoinedMarks}
use Rattle.sled_core.specs.inside.Recoverable.{BeginsInSegment, IsPlacedBatch}
use Rattle.sled_core.specs.inside.Running.{FitsIn, FitsLine}
use Rattle.sled_core.specs.inside.Turned.{ended_now}
use Rattle.sled_core.proofs.Line.FitsMarked.{behind-fits-marked}
use Rattle.sled_core.proofs.Line.HoldsMarked.{batch_above, batch_alone, batch_inside, behind-holds-marked}
use Rattle.sled_core.proofs.Line.FirstHoldsMarked.{InReach, first_above, first_alone, first_inside, first_long, holds-marked, noted_adds, noted_history}
use Rattle.sled_core.proofs.Holds.MarkedLemmas.{fits-marked}
use Rattle.sled_core.proofs.Holds.PegLemmas.{IsOff}
use Rattle.sled_core.proofs.Holds.PlacedBatches.{begins_there, placed-with}
use Rattle.sled_core.proofs.Line.Ends.{with_segment}
use Rattle.sled_core.proofs.Holds.Facts.{IsSegment}
use Rattle.sled_core.proofs.Holds.Nth.{parts_set, parts_split}

-- A place lies in nothing that fills one of the segments.
pub all_off : (size peg : ℕ) (vs : List SegmentView) → ((k : ℕ) (x : SegmentView) → slice_get vs k ≡ Some x → IsOff size peg x.parts) → All (IsOff size peg) (map parts_in vs)
all_off size peg [] each = λ k d lt. absurd (omega arith)
all_off size peg (v ∷ vs) each = All-cons (IsOff size peg) v.parts (map parts_in vs) (each zero v refl) (all_off size peg vs (λ k x there. each (suc k) x there))

-- Segments begin below the greatest place.
pub in_reach : (vs : List SegmentView) → ((k : ℕ) (x : SegmentView) → slice_get vs k ≡ Some x → x.parts.site.place < 2 ^ 63) → All InReach (map parts_in vs)
in_reach [] each = λ k d lt. absurd (omega arith)
in_reach (v ∷ vs) each = All-cons InReach v.parts (map parts_in vs) (each zero v refl) (in_reach vs (λ k x there. each (suc k) x there))

module _ (sum : List ℕ → ℕ) (size : ℕ) (device : State) (fault : Option IoError) where
  abbrev parts_of : SegmentView → LogParts
  parts_of v = log_parts size v.parts.site device fault v.parts.bytes v.parts.written_len v.parts.sealed v.parts.reserved

  -- the places of those behind the first one
  behind_reach : (w : SegmentView) (ws : List SegmentView) (place : ℕ) → ((k : ℕ) (x : SegmentView) → slice_get (w ∷ ws) k ≡ Some x → IsSegment size (place + k * size) x) → All InReach (map parts_in ws)
  behind_reach w ws place facts = in_reach ws (λ k x there. let small = (facts (suc k) x there).place_small in omega (arith, small))

  -- An open manifest of the n-th one.
  module _ (v : SegmentView) (i : ℕ) (r : Reserved) (at : slice_get v.parts.reserved i ≡ Some r) (is_open : r.state ≡ Open) (manifest : is_manifest r.log_kind r.page ≡ true) (peg : ℕ) (small : peg < 2 ^ 63) (later : v.parts.site.place + r.from < peg) where
    abbrev b : Batch
    b = record { low = v.parts.site.place + r.from; peg = peg }

    abbrev noted : SegmentView
    noted = ended_now i r (marking sum v.parts.bytes r peg) Manifest v

    -- The segments hold the history with its batch,
    pub mark_holds : (marks : JoinedMarks) (line : List SegmentView) (n place : ℕ) (H : History) → slice_get line n ≡ Some v → ((k : ℕ) (x : SegmentView) → slice_get line k ≡ Some x → IsSegment size (place + k * size) x) → ((k : ℕ) (x : SegmentView) → slice_get line k ≡ Some x → IsOff size peg x.parts)
        → HoldsLine sum marks size device fault line H → HoldsLine sum marks size device fault (set line n (ended_now i r (marking sum v.parts.bytes r peg) Manifest v)) (noted_history H (record { low = v.parts.site.place + r.from; peg = peg }))
    mark_holds marks [] n place H there facts offs holds = cc
    mark_holds marks (w ∷ ws) zero place H there facts offs holds =
        let same : w ≡ v = cc in
        let its : HoldsLine sum marks size device fault (v ∷ ws) H = subst (λ (x : SegmentView). HoldsLine sum marks size device fault (x ∷ ws) H) same holds in
        let own = facts zero v there in
        holds-marked sum size v.parts.site device fault v.parts.bytes v.parts.written_len v.parts.sealed v.parts.reserved H its own.short (behind_reach w ws place facts) i r at is_open manifest own.are peg small later (offs zero v there).off (all_off size peg ws (λ k x among. offs (suc k) x among))
    mark_holds marks (w ∷ ws) (suc k) place H there facts offs holds =
        let its : HoldsIn sum marks (parts_of w) (map parts_in (take k ws) ++ v.parts ∷ map parts_in (drop (suc k) ws)) H = subst (λ (l : List SegmentParts). HoldsIn sum marks (parts_of w) l H) (parts_split ws k v there) holds in
        let reached : All InReach (map parts_in (take k ws) ++ v.parts ∷ map parts_in (drop (suc k) ws)) = subst (All InReach) (parts_split ws k v there) (behind_reach w ws place facts) in
        subst (λ (l : List SegmentParts). HoldsIn sum marks (parts_of w) l (noted_history H b)) (sym (parts_set ws k v noted there))
        (behind-holds-marked sum size w.parts.site device fault w.parts.bytes w.parts.written_len w.parts.sealed w.parts.reserved H (map parts_in (take k ws)) v.parts (map parts_in (drop (suc k) ws)) its (facts zero w refl).short reached i r at is_open manifest peg small later (offs zero w refl).off (subst (All (IsOff size peg)) (parts_split ws k v there) (all_off size peg ws (λ j x among. offs (suc j) x among))))

    -- in which no other batch begins where it does,
    pub mark_alone : (marks : JoinedMarks) (line : List SegmentView) (n place : ℕ) (H : History) → slice_get line n ≡ Some v → ((k : ℕ) (x : SegmentView) → slice_get line k ≡ Some x → IsSegment size (place + k * size) x) → ((k : ℕ) (x : SegmentView) → slice_get line k ≡ Some x → IsOff size peg x.parts)
        → HoldsLine sum marks size device fault line H → (c : Batch) → Contains H.batches c → c.low ≡ v.parts.site.place + r.from → ⊥
    mark_alone marks [] n place H there facts offs holds c among alike = cc
    mark_alone marks (w ∷ ws) zero place H there facts offs holds c among alike =
        let same : w ≡ v = cc in
        let its : HoldsLine sum marks size device fault (v ∷ ws) H = subst (λ (x : SegmentView). HoldsLine sum marks size device fault (x ∷ ws) H) same holds in
        let own = facts zero v there in
        first_alone sum size v.parts.site device fault v.parts.bytes v.parts.written_len v.parts.sealed v.parts.reserved H its own.short (behind_reach w ws place facts) i r at is_open manifest own.are peg small later (offs zero v there).off (all_off size peg ws (λ k x among. offs (suc k) x among)) c among alike
    mark_alone marks (w ∷ ws) (suc k) place H there facts offs holds c among alike =
        let its : HoldsIn sum marks (parts_of w) (map parts_in (take k ws) ++ v.parts ∷ map parts_in (drop (suc k) ws)) H = subst (λ (l : List SegmentParts). HoldsIn sum marks (parts_of w) l H) (parts_split ws k v there) holds in
        let reached : All InReach (map parts_in (take k ws) ++ v.parts ∷ map parts_in (drop (suc k) ws)) = subst (All InReach) (parts_split ws k v there) (behind_reach w ws place facts) in
        batch_alone sum size w.parts.site device fault w.parts.bytes w.parts.written_len w.parts.sealed w.parts.reserved H (map parts_in (take k ws)) v.parts (map parts_in (drop (suc k) ws)) its (facts zero w refl).short reached i r at is_open manifest peg small later (offs zero w refl).off (subst (All (IsOff size peg)) (parts_split ws k v there) (all_off size peg ws (λ j x among. offs (suc j) x among))) c among alike

    -- and which begins where a record can.
    pub mark_begins : (marks : JoinedMarks) (line : List SegmentView) (n : ℕ) (H : History) → slice_get line n ≡ Some v → HoldsLine sum marks size device fault line H → BeginsInSegment size (v.parts.site.place + r.from)
    mark_begins marks line n H there holds = with_segment sum size device fault _ line n v H holds there
        (λ stays own segment. begins_there sum size v.parts.site device fault v.parts.bytes v.parts.written_len v.parts.sealed v.parts.reserved own segment i r at is_open)

    -- So all batches are placed, where those that were are, and each of them ends in front of this one or begins behind it.
    pub mark_placed : (marks : JoinedMarks) (line : List SegmentView) (n place : ℕ) (H : History) → slice_get line n ≡ Some v → ((k : ℕ) (x : SegmentView) → slice_get line k ≡ Some x → IsSegment size (place + k * size) x) → ((k : ℕ) (x : SegmentView) → slice_get line k ≡ Some x → IsOff size peg x.parts)
        → HoldsLine sum marks size device fault line H → ((c : Batch) → Contains H.batches c → IsPlacedBatch size H c) → ((c : Batch) → Contains H.batches c → (c.peg < v.parts.site.place + r.from) ⊎ (peg < c.low))
        → (c : Batch) → Contains (noted_history H (record { low = v.parts.site.place + r.from; peg = peg })).batches c → IsPlacedBatch size (noted_history H (record { low = v.parts.site.place + r.from; peg = peg })) c
    mark_placed marks line n place H there facts offs holds placed apart =
        placed-with size H (noted_history H b) b (noted_adds H b later) placed (mark_begins _ line n H there holds) (mark_alone _ line n place H there facts offs holds) apart

    -- The segments fit the history with the batch.
    pub mark_fits : (marks : JoinedMarks) (line : List SegmentView) (n place reach pins : ℕ) (H : History) (A f : ℕ) (U : List Message) → 256 ≤ size → fault ≡ None → slice_get line n ≡ Some v
        → ((k : ℕ) (x : SegmentView) → slice_get line k ≡ Some x → IsSegment size (place + k * size) x) → ((k : ℕ) (x : SegmentView) → slice_get line k ≡ Some x → IsOff size peg x.parts)
        → (((c : Batch) → Contains H.batches c → IsPlacedBatch size (logged H) c) → (c : Batch) → Contains (noted_history H (record { low = v.parts.site.place + r.from; peg = peg })).batches c
        → IsPlacedBatch size (noted_history (logged H) (record { low = v.parts.site.place + r.from; peg = peg })) c)
        → FitsLine sum marks size device fault line reach pins H A f U
        → FitsLine sum marks size device fault (set line n (ended_now i r (marking sum v.parts.bytes r peg) Manifest v)) reach pins (noted_history H (record { low = v.parts.site.place + r.from; peg = peg })) A f U
    mark_fits marks [] n place reach pins H A f U least ok there facts offs placing fits = cc
    mark_fits marks (w ∷ ws) zero place reach pins H A f U least ok there facts offs placing fits =
        let same : w ≡ v = cc in
        let its : FitsLine sum marks size device fault (v ∷ ws) reach pins H A f U = subst (λ (x : SegmentView). FitsLine sum marks size device fault (x ∷ ws) reach pins H A f U) same fits in
        let own = facts zero v there in
        let reached = behind_reach w ws place facts in
        let long = first_long sum size v.parts.site device fault v.parts.bytes v.parts.written_len v.parts.sealed v.parts.reserved (logged H) its.holds own.short reached i r at is_open manifest own.are peg small later (offs zero v there).off
        (all_off size peg ws (λ k x among. offs (suc k) x among)) in
        let short = own.short in
        fits-marked sum size v.parts.site device fault v.parts.bytes v.parts.written_len v.parts.sealed v.parts.reserved pins H A f U its _ _ _ (noted_history H b) b least (omega (arith, long, short)) ok
        (holds-marked sum size v.parts.site device fault v.parts.bytes v.parts.written_len v.parts.sealed v.parts.reserved (logged H) its.holds own.short reached i r at is_open manifest own.are peg small later (offs zero v there).off (all_off size peg ws (λ k x among. offs (suc k) x among)))
        (noted_adds H b later) placing later (all_off size peg ws (λ k x among. offs (suc k) x among))
        (first_above sum size v.parts.site device fault v.parts.bytes v.parts.written_len v.parts.sealed v.parts.reserved (logged H) its.holds own.short reached i r at is_open manifest own.are peg small later (offs zero v there).off (all_off size peg ws (λ k x among. offs (suc k) x among)))
        (first_inside sum size v.parts.site device fault v.parts.bytes v.parts.written_len v.parts.sealed v.parts.reserved (logged H) its.holds own.short reached i r at is_open manifest own.are peg small later (offs zero v there).off
        (all_off size peg ws (λ k x among. offs (suc k) x among))) own.fresh own.are
    mark_fits marks (w ∷ ws) (suc k) place reach pins H A f U least ok there facts offs placing fits =
        let pre : List SegmentParts = map parts_in (take k ws) in
        let post : List SegmentParts = map parts_in (drop (suc k) ws) in
        let its : FitsIn sum marks (parts_of w) (pre ++ v.parts ∷ post) reach pins H A f U = subst (λ (l : List SegmentParts). FitsIn sum marks (parts_of w) l reach pins H A f U) (parts_split ws k v there) fits in
        let reached : All InReach (pre ++ v.parts ∷ post) = subst (All InReach) (parts_split ws k v there) (behind_reach w ws place facts) in
        let short : length w.parts.bytes ≤ size = (facts zero w refl).short in
        subst (λ (l : List SegmentParts). FitsIn sum marks (parts_of w) l reach pins (noted_history H b) A f U) (sym (parts_set ws k v noted there))
        (behind-fits-marked sum size w.parts.site device fault w.parts.bytes w.parts.written_len w.parts.sealed w.parts.reserved pins H A f U pre v.parts post its noted.parts refl refl refl
        (noted_history H b) b least short ok
        (behind-holds-marked sum size w.parts.site device fault w.parts.bytes w.parts.written_len w.parts.sealed w.parts.reserved (logged H) pre v.parts post its.holds short reached i r at is_open manifest peg small later (offs zero w refl).off
        (subst (All (IsOff size peg)) (parts_split ws k v there) (all_off size peg ws (λ j x among. offs (suc j) x among))))
        (noted_adds H b later) placing later (subst (All (IsOff size peg)) (parts_split ws k v there) (all_off size peg ws (λ j x among. offs (suc j) x among)))
        (batch_above sum size w.parts.site device fault w.parts.bytes w.parts.written_len w.parts.sealed w.parts.reserved (logged H) pre v.parts post its.holds short reached i r at is_open manifest peg small later (offs zero w refl).off
        (subst (All (IsOff size peg)) (parts_split ws k v there) (all_off size peg ws (λ j x among. offs (suc j) x among))))
        (batch_inside sum size w.parts.site device fault w.parts.bytes w.parts.written_len w.parts.sealed w.parts.reserved (logged H) pre v.parts post its.holds short reached i r at is_open manifest peg small later (offs zero w refl).off
        (subst (All (IsOff size peg)) (parts_split ws k v there) (all_off size peg ws (λ j x among. offs (suc j) x among))))
        (facts (suc k) v there).fresh)
