-- One of the reservations of the n-th of a log's segments ends, whichever that is: what the log holds and fits then, and what it keeps.
use Rattle.std.proofs.Common.{◌⊎◌, ◌≡◌, ◌∙◌, ◌≤◌, ◌<◌, ◌+◌, ◌*◌, ◌%◌, ap, sym, refl, arith, subst, inl, ℕ, zero, suc, List, [], ◌∷◌, ◌++◌, length, take, drop, set, map, Option, None, Some, false}
use Rattle.std.specs.declared.io.Error.{Error as IoError}
use Rattle.std.specs.List.{Contains, slice_get}
use Rattle.std.proofs.lemmas.List.Elements.{All-set}
use Rattle.sled_codec.specs.Written.{written}
use Rattle.sled_codec.specs.History.{Batch, AddsMessage, History, Message}
use Rattle.sled_store.specs.Foreign.{HeaderWasPlaced, RecordWasPlaced}
use Rattle.sled_store.specs.Device.{State}
use Rattle.sled_store.specs.SegmentStates.{Machine}
use Rattle.sled_store.specs.inside.Outdated.{NamesNoOutdated}
use Rattle.sled_core.specs.Logged.{logged, in_log}
use Rattle.sled_core.specs.Manifests.{is_manifest}
use Rattle.sled_core.specs.declared.iobuf.ReservationState.TheVariants.{Open, Canceled, Completed}
use Rattle.sled_core.specs.declared.iobuf.Reserved.{Reserved}
use Rattle.sled_core.specs.declared.iobuf.SegmentPosition.{SegmentPosition}
use Rattle.sled_core.specs.Begun.{SegmentParts, SegmentView}
use Rattle.sled_core.specs.inside.Buffers.{canceling, completing}
use Rattle.sled_core.specs.Buffers.{message_in}
use Rattle.sled_core.specs.inside.Fits.{FitsBatches, written_to, HoldsIn, HoldsLine, HoldsSegment, HoldsWith, LogParts, log_parts, parts_in}
use Rattle.sled_core.specs.inside.Begun.{first_place, line_end}
use Rattle.sled_core.specs.inside.FreeSlots.{HasSlot, HasSlots, HaveOwn}
use Rattle.sled_core.specs.inside.Numbers.{HasNumbers, HaveSlots, HaveSlotsFrom}
use Rattle.sled_core.specs.inside.Running.{FitsIn, FitsLine, FitsWith}
use Rattle.sled_core.specs.OpenBatches.{stable_below}
use Rattle.sled_core.specs.Running.{KeepsItem}
use Rattle.sled_core.specs.inside.Slots.{AreWhole}
use Rattle.sled_core.specs.inside.Turned.{ended_now}
use Rattle.sled_core.specs.Reading.{BlobIsBelow}
use Rattle.sled_core.specs.declared.logger.joined_marks.JoinedMarks.{JoinedMarks}
use Rattle.sled_core.proofs.Line.HeldAround.{held_here}
use Rattle.sled_core.proofs.Line.SegmentKeeps.{KeepsAllHeld, ended_long, segment_aborts}
use Rattle.sled_core.proofs.Line.HoldsCompleted.{adds_here, behind-complete, completed_history}
use Rattle.sled_core.proofs.Line.CompletedBehind.{behind-fits-completed}
use Rattle.sled_core.proofs.Holds.Added.{added_there, message_above, message_grows}
use Rattle.sled_core.proofs.Holds.CompletedLemmas.{behind_written, ends_within}
use Rattle.sled_core.proofs.Holds.FitsBatches.{batches_completed, batches_up}
use Rattle.sled_core.proofs.Holds.MessagesBeside.{batch_beside}
use Rattle.sled_core.proofs.Holds.RunningLemmas.{fits-completed}
use Rattle.sled_core.proofs.Holds.WholeHistory.{of_head}
use Rattle.sled_core.proofs.Holds.WholeLemmas.{holds-complete}
use Rattle.sled_core.proofs.Holds.Facts.{IsSegment}
use Rattle.sled_core.proofs.Line.LineEnds.{end_set, first_set}
use Rattle.sled_core.proofs.Holds.Nth.{parts_set, parts_split}
use Rattle.sled_core.proofs.Line.EntryPlaces.{line_unwritten}
use Rattle.sled_core.proofs.Line.OneChanged.{nth_fits, nth_holds}
use Rattle.sled_core.proofs.Line.NeededSlots.{held_written, message_in_slot, slots_added}
use Rattle.sled_core.proofs.Line.OlderSlots.{whole_grown}
use Rattle.sled_core.proofs.Line.Segments.{first_below, from_each}
use Rattle.sled_core.proofs.OwnLog.Calls.{own_ended}
use Rattle.sled_core.proofs.Logged.Messages.{adds_logged, put_real}
use Rattle.sled_core.proofs.Reserve.Ranges.{at_there}
use Rattle.sled_core.proofs.Sealed.Ended.{ends_up}
use Rattle.sled_core.proofs.Line.Accounts.{account_completed}
use Rattle.sled_core.proofs.Line.ActiveSegments.{inside_segment, lies_active}
use Rattle.sled_core.proofs.Reached.GrowsAt.{GrowsAbove}
use Rattle.sled_core.specs.inside.LogSegments.{held_since}

-- What the one that is set has as the one before it had it, each has as before.
pub set_keeps : {T X : Type 0} (f : T → X) (xs : List T) (n : ℕ) (x y : T) → slice_get xs n ≡ Some x → f y ≡ f x → (k : ℕ) (a b : T) → slice_get xs k ≡ Some a
    → slice_get (set xs n y) k ≡ Some b → f b ≡ f a
set_keeps f [] n x y there same k a b at_a at_b = cc
set_keeps f (z ∷ zs) zero x y there same zero a b at_a at_b =
    let is_x : z ≡ x = cc in
    let is_a : z ≡ a = cc in
    let is_b : y ≡ b = cc in
    sym (ap f is_b) ∙ same ∙ sym (ap f is_x) ∙ ap f is_a
set_keeps f (z ∷ zs) zero x y there same (suc k) a b at_a at_b = let both : a ≡ b = cc in sym (ap f both)
set_keeps f (z ∷ zs) (suc n) x y there same zero a b at_a at_b = let both : a ≡ b = cc in sym (ap f both)
set_keeps f (z ∷ zs) (suc n) x y there same (suc k) a b at_a at_b = set_keeps f zs n x y there same k a b at_a at_b

-- what was written of a segment is no more than there is
pub written_inside : {size place : ℕ} (v : SegmentView) → IsSegment size place v → v.parts.written_len ≤ length v.parts.bytes
written_inside v facts = let low = ends_up v.parts.written_len v.parts.reserved v.parts.sealed facts.are in let high = facts.begins in omega (arith, low, high)

module _ (sum : List ℕ → ℕ) (size : ℕ) (device : State) (fault : Option IoError) where
  abbrev parts_of : SegmentView → LogParts
  parts_of v = log_parts size v.parts.site device fault v.parts.bytes v.parts.written_len v.parts.sealed v.parts.reserved

  -- Each of the segments that hold a history holds a part of it, with all batches.
  pub with_part : (marks : JoinedMarks) {P : Type 0} (line : List SegmentView) (n : ℕ) (v : SegmentView) (H : History)
      → HoldsLine sum marks size device fault line H → slice_get line n ≡ Some v
      → ((stays : Message → Type 0) (own : List Message) → HoldsSegment sum (parts_of v) stays (record { messages = own; batches = H.batches }) → P) → P
  with_part marks [] n v H holds there go = cc
  with_part marks {P} (w ∷ ws) zero v H holds there go =
      let same : w ≡ v = cc in
      subst (λ (x : SegmentView).
      ((stays : Message → Type 0) (own : List Message) → HoldsSegment sum (parts_of x) stays (record { messages = own; batches = H.batches }) → P) → P) same
      (λ given. given _ holds.head holds.own) go
  with_part marks {P} (w ∷ ws) (suc k) v H holds there go =
      let its : HoldsIn sum marks (parts_of w) (map parts_in (take k ws) ++ v.parts ∷ map parts_in (drop (suc k) ws)) H =
      subst (λ (l : List SegmentParts). HoldsIn sum marks (parts_of w) l H) (parts_split ws k v there) holds in
      go _ _ (held_here sum size w.parts.site device fault w.parts.bytes w.parts.written_len w.parts.sealed w.parts.reserved H (map parts_in (take k ws))
      v.parts (map parts_in (drop (suc k) ws)) its).segment

  pub with_segment : (marks : JoinedMarks) {P : Type 0} (line : List SegmentView) (n : ℕ) (v : SegmentView) (H : History)
      → HoldsLine sum marks size device fault line H
      → slice_get line n ≡ Some v
      → ((stays : Message → Type 0) (own : History) → HoldsSegment sum (parts_of v) stays own → P) → P
  with_segment marks line n v H holds there go =
      with_part _ line n v H holds there (λ stays own segment. go stays (record { messages = own; batches = H.batches }) segment)

  -- Segments that fit a history hold it.
  pub line_holds : (marks : JoinedMarks) (line : List SegmentView) (reach pins : ℕ) (H : History) (A f : ℕ) (U : List Message)
      → FitsLine sum marks size device fault line reach pins H A f U → HoldsLine sum marks size device fault line (logged H)
  line_holds marks [] reach pins H A f U fits = fits
  line_holds marks (v ∷ vs) reach pins H A f U fits = fits.holds

  -- An open reservation of the n-th one.
  module _ (v : SegmentView) (i : ℕ) (r : Reserved) (at : slice_get v.parts.reserved i ≡ Some r) (is_open : r.state ≡ Open) where
    abbrev canceled : SegmentView
    canceled = ended_now i r (canceling sum v.parts.bytes r) Canceled v

    abbrev completed : SegmentView
    completed = ended_now i r (completing r) Completed v

    abbrev m : Message
    m = message_in v.parts.site v.parts.bytes r

    aborts : {place : ℕ} → IsSegment size place v
        → KeepsAllHeld sum size device fault v.parts canceled.parts.bytes canceled.parts.sealed canceled.parts.reserved
    aborts facts = segment_aborts sum size device fault v.parts i r at is_open facts.short facts.begins (written_inside v facts) facts.are

    -- It is aborted: the segments hold what they held,
    pub abort_holds : (marks : JoinedMarks) (line : List SegmentView) (n : ℕ) {place : ℕ} (H : History) → slice_get line n ≡ Some v → IsSegment size place v
        → HoldsLine sum marks size device fault line H → HoldsLine sum marks size device fault (set line n canceled) H
    abort_holds marks line n H there facts =
        nth_holds sum size device fault marks v canceled.parts.bytes v.parts.filled canceled.parts.sealed canceled.parts.reserved v.gone (aborts facts) line n H there

    -- and they fit what they fitted.
    pub abort_fits : (marks : JoinedMarks) (line : List SegmentView) (n : ℕ) {place : ℕ} (reach pins : ℕ) (H : History) (A f : ℕ) (U : List Message)
        → slice_get line n ≡ Some v
        → IsSegment size place v
        → FitsLine sum marks size device fault line reach pins H A f U → FitsLine sum marks size device fault (set line n canceled) reach pins H A f U
    abort_fits marks line n reach pins H A f U there facts =
        nth_fits sum size device fault marks v canceled.parts.bytes v.parts.filled canceled.parts.sealed canceled.parts.reserved v.gone (inl refl) line n reach pins
        H A f U there (aborts facts)

    -- It is completed: the segments hold the history with its message,
    pub complete_holds : (marks : JoinedMarks) → is_manifest r.log_kind r.page ≡ false → (line : List SegmentView) (n place : ℕ) (H : History)
        → slice_get line n ≡ Some v
        → ((k : ℕ) (x : SegmentView) → slice_get line k ≡ Some x → IsSegment size (place + k * size) x)
        → HoldsLine sum marks size device fault line H → (H' : History) × AddsMessage H m H' × HoldsLine sum marks size device fault (set line n completed) H'
    complete_holds marks none [] n place H there facts holds = cc
    complete_holds marks none (w ∷ ws) zero place H there facts holds =
        let same : w ≡ v = cc in
        let its : HoldsLine sum marks size device fault (v ∷ ws) H = subst (λ (x : SegmentView). HoldsLine sum marks size device fault (x ∷ ws) H) same holds in
        let own = facts zero v there in
        holds-complete sum size v.parts.site device fault v.parts.bytes v.parts.written_len v.parts.sealed v.parts.reserved H its i r at is_open
        (written_inside v own) own.are own.short none
    complete_holds marks none (w ∷ ws) (suc k) place H there facts holds =
        let its : HoldsIn sum marks (parts_of w) (map parts_in (take k ws) ++ v.parts ∷ map parts_in (drop (suc k) ws)) H =
        subst (λ (l : List SegmentParts). HoldsIn sum marks (parts_of w) l H) (parts_split ws k v there) holds in
        let short : length w.parts.bytes ≤ size = (facts zero w refl).short in (
          completed_history sum size w.parts.site device fault w.parts.bytes w.parts.written_len w.parts.sealed w.parts.reserved H (map parts_in (take k ws))
              v.parts (map parts_in (drop (suc k) ws)) its short i r at is_open none,
          adds_here sum size w.parts.site device fault w.parts.bytes w.parts.written_len w.parts.sealed w.parts.reserved H (map parts_in (take k ws)) v.parts
              (map parts_in (drop (suc k) ws)) its short i r at is_open none,
          subst (λ (l : List SegmentParts). HoldsIn sum marks (parts_of w) l
              (completed_history sum size w.parts.site device fault w.parts.bytes w.parts.written_len w.parts.sealed w.parts.reserved H
              (map parts_in (take k ws)) v.parts (map parts_in (drop (suc k) ws)) its short i r at is_open none))
              (sym (parts_set ws k v completed there))
              (behind-complete sum size w.parts.site device fault w.parts.bytes w.parts.written_len w.parts.sealed w.parts.reserved H (map parts_in (take k ws))
              v.parts (map parts_in (drop (suc k) ws)) its short i r at is_open none),
        )

    -- and they fit it, where a pin is out.
    pub complete_fits : (marks : JoinedMarks) (x : Message) → in_log x ≡ m → BlobIsBelow x x.pointer → KeepsItem sum device.blobs x x.pointer
        → is_manifest r.log_kind r.page ≡ false
        → (line : List SegmentView) (n place reach pins : ℕ) (H : History) (A f : ℕ) (U : List Message) → 256 ≤ size → fault ≡ None → 0 < pins
        → slice_get line n ≡ Some v
        → ((k : ℕ) (x : SegmentView) → slice_get line k ≡ Some x → IsSegment size (place + k * size) x)
        → FitsLine sum marks size device fault line reach pins H A f U
        → (H' : History) × AddsMessage H x H' × FitsLine sum marks size device fault (set line n completed) reach pins H' A f (x ∷ U)
    complete_fits marks x its_message below stored none [] n place reach pins H A f U least ok out there facts fits = cc
    complete_fits marks x its_message below stored none (w ∷ ws) zero place reach pins H A f U least ok out there facts fits =
        let same : w ≡ v = cc in
        let its : FitsLine sum marks size device fault (v ∷ ws) reach pins H A f U =
        subst (λ (x : SegmentView). FitsLine sum marks size device fault (x ∷ ws) reach pins H A f U) same fits in
        let own = facts zero v there in
        let short = own.short in
        let first : History = record { messages = its.holds.head; batches = H.batches } in
        let of_log =
        holds-complete sum size v.parts.site device fault v.parts.bytes v.parts.written_len v.parts.sealed v.parts.reserved (logged H) its.holds i r at is_open
        (written_inside v own) own.are short none in
        let done = put_real (HoldsIn sum marks _ (map parts_in ws)) H x of_log.0
        (subst (λ (y : Message). AddsMessage (logged H) y of_log.0) (sym its_message) of_log.1) of_log.2 in
        let put = adds_logged H x done.0 done.1 in
        let placed = ap (λ (y : Message). y.place) its_message in
        let long : length (written v.parts.bytes r.from (completing r)) ≡ length v.parts.bytes =
        ended_long sum size device fault v.parts first its.holds.own i r at is_open r.sum r.kind in
        let near =
        ends_within sum size v.parts.site device fault v.parts.bytes v.parts.written_len v.parts.sealed v.parts.reserved i r first its.holds.own at is_open in
        let above =
        behind_written sum size v.parts.site device fault v.parts.bytes v.parts.written_len v.parts.sealed v.parts.reserved i r first its.holds.own at in (
          done.0,
          done.1,
          fits-completed sum size v.parts.site device fault v.parts.bytes v.parts.written_len v.parts.sealed v.parts.reserved pins H A f U its _ _ _ done.0 x
              least (omega (arith, long, short)) ok done.2 done.1
              (of_head sum size v.parts.site device fault _ _ _ _ (logged done.0) done.2 (in_log x) (added_there (logged H) (logged done.0) (in_log x) put)
              (omega (arith, near, short, placed))) (omega (arith, above, placed)) own.fresh own.are below stored out,
        )
    complete_fits marks x its_message below stored none (w ∷ ws) (suc k) place reach pins H A f U least ok out there facts fits =
        let its : FitsIn sum marks (parts_of w) (map parts_in (take k ws) ++ v.parts ∷ map parts_in (drop (suc k) ws)) reach pins H A f U =
        subst (λ (l : List SegmentParts). FitsIn sum marks (parts_of w) l reach pins H A f U) (parts_split ws k v there) fits in
        let short : length w.parts.bytes ≤ size = (facts zero w refl).short in
        let done =
        behind-fits-completed sum size w.parts.site device fault w.parts.bytes w.parts.written_len w.parts.sealed w.parts.reserved pins H A f U
        (map parts_in (take k ws)) v.parts (map parts_in (drop (suc k) ws)) its i r at is_open x its_message below stored none least short ok
        (facts (suc k) v there).fresh out in (
          done.0,
          done.1,
          subst (λ (l : List SegmentParts). FitsIn sum marks (parts_of w) l reach pins done.0 A f (x ∷ U)) (sym (parts_set ws k v completed there)) done.2,
        )

-- The slots are those that they were.
pub slots_set : (size : ℕ) (line : List SegmentView) (log : List ℕ) (fault : Option IoError) (m : Machine) (n : ℕ) (v w : SegmentView)
    → slice_get line n ≡ Some v → w.parts.site ≡ v.parts.site → HasSlots size line log fault m → HasSlots size (set line n w) log fault m
slots_set size line log fault m n v w there site slots =
    let its : HasSlot size m v = at_there (HasSlot size m) line n v there slots.taken in
    record {
      taken = All-set (HasSlot size m) line n w (record {
        number = its.number;
        lies = ap (λ (p : SegmentPosition). p.slot) site ∙ its.lies;
        taken = its.taken;
        is = its.is ∙ ap (λ (p : SegmentPosition). p.place) (sym site);
      }) slots.taken;
      zeros = slots.zeros;
      own = subst (λ e. HaveOwn size e m) (sym (end_set size line n v w there site)) slots.own;
    }

-- So is what is written of the first segment.
pub written_set : (line : List SegmentView) (n : ℕ) (v w : SegmentView) → slice_get line n ≡ Some v → w.parts.site ≡ v.parts.site
    → w.parts.written_len ≡ v.parts.written_len → written_to (set line n w) ≡ written_to line
written_set [] n v w there site from = refl
written_set (x ∷ xs) zero v w there site from =
    let same : x ≡ v = cc in (λ i. (site i).place + from i) ∙ ap (λ (y : SegmentView). y.parts.site.place + y.parts.written_len) (sym same)
written_set (x ∷ xs) (suc n) v w there site from = refl

-- What a log holds and fits where one of its reservations has ended.
module _ (sum : List ℕ → ℕ) (size : ℕ) (device : State) (fault : Option IoError) (line : List SegmentView) (n : ℕ) (v : SegmentView)
    (there : slice_get line n ≡ Some v) (place : ℕ)
    (facts : (k : ℕ) (x : SegmentView) → slice_get line k ≡ Some x → IsSegment size (place + k * size) x) (i : ℕ) (r : Reserved)
    (at : slice_get v.parts.reserved i ≡ Some r) (is_open : r.state ≡ Open) (machine : Machine) (noted : List Batch) where
  batches_set : (w : SegmentView) → w.parts.site ≡ v.parts.site → w.parts.written_len ≡ v.parts.written_len → (H : History)
      → FitsBatches (written_to line) (line_end size line) noted H → FitsBatches (written_to (set line n w)) (line_end size (set line n w)) noted H
  batches_set w site from H fits =
      batches_up (written_to line) (written_to (set line n w)) (line_end size line) (line_end size (set line n w)) noted H
      (let same = written_set line n v w there site from in omega (arith, same)) (let same = end_set size line n v w there site in omega (arith, same)) fits

  -- The message lies beside all batches.
  beside : (marks : JoinedMarks) (H : History) → HoldsLine sum marks size device fault line H → (b : Batch) → Contains H.batches b
      → (b.low ≤ v.parts.site.place + r.from) ⊎ (v.parts.site.place + r.from + r.len ≤ b.low)
  beside marks H holds b among = with_part sum size device fault _ line n v H holds there
      (λ stays own segment. batch_beside sum size v.parts.site device fault v.parts.bytes v.parts.written_len v.parts.sealed v.parts.reserved
      (record { messages = own; batches = H.batches }) segment i r at is_open (facts n v there).short b among)

  pub holds_aborted : (H : History) → {marks : JoinedMarks} → HoldsWith sum marks noted size device fault line machine H
      → HoldsWith sum marks noted size device fault (set line n (ended_now i r (canceling sum v.parts.bytes r) Canceled v)) machine H
  holds_aborted H holds = record {
    holds = abort_holds sum size device fault v i r at is_open _ line n H there (facts n v there) holds.holds;
    batches = batches_set (ended_now i r (canceling sum v.parts.bytes r) Canceled v) refl refl H holds.batches;
    slots = slots_set size line device.log.bytes fault machine n v (ended_now i r (canceling sum v.parts.bytes r) Canceled v) there refl holds.slots;
  }

  pub fits_aborted : (pins : ℕ) (H : History) (A f : ℕ) (U : List Message) → {marks : JoinedMarks}
      → FitsWith sum marks noted size device fault line machine pins H A f U
      → FitsWith sum marks noted size device fault (set line n (ended_now i r (canceling sum v.parts.bytes r) Canceled v)) machine pins H A f U
  fits_aborted pins H A f U fits = record {
    reach = fits.reach;
    parts = abort_fits sum size device fault v i r at is_open _ line n fits.reach pins H A f U there (facts n v there) fits.parts;
    batches = batches_set (ended_now i r (canceling sum v.parts.bytes r) Canceled v) refl refl (logged H) fits.batches;
    slots = slots_set size line device.log.bytes fault machine n v (ended_now i r (canceling sum v.parts.bytes r) Canceled v) there refl fits.slots;
    whole = λ none zeros. subst (λ p. AreWhole sum size device.log.bytes (logged H) p machine)
        (sym (first_set line n v (ended_now i r (canceling sum v.parts.bytes r) Canceled v) there refl)) (fits.whole none zeros);
    own = λ none zeros. own_ended sum size (HeaderWasPlaced device.placed) (RecordWasPlaced sum size device.placed) device.log.bytes line n v i r
        (canceling sum v.parts.bytes r) Canceled there (fits.own none zeros);
    account = fits.account;
    numbers = λ zeros. subst (HasNumbers sum size _ device machine)
        (sym (end_set size line n v (ended_now i r (canceling sum v.parts.bytes r) Canceled v) there refl)) (fits.numbers zeros);
    in_slots = fits.in_slots;
  }

  -- It begins no lower than the first segment.
  pub first_before : first_place line ≤ v.parts.site.place + r.from
  first_before = let low = first_below size place line (from_each size place line facts) n v there in omega (arith, low)

  pub holds_completed : is_manifest r.log_kind r.page ≡ false → (H : History) → {marks : JoinedMarks} → HoldsWith sum marks noted size device fault line machine H
      → (H' : History) × AddsMessage H (message_in v.parts.site v.parts.bytes r) H'
      × HoldsWith sum marks noted size device fault (set line n (ended_now i r (completing r) Completed v)) machine H'
  holds_completed none H holds =
      let done = complete_holds sum size device fault v i r at is_open _ none line n place H there facts holds.holds in (
        done.0,
        done.1,
        record {
          holds = done.2;
          batches = batches_set (ended_now i r (completing r) Completed v) refl refl done.0 (batches_completed (written_to line) (line_end size line) noted H
              done.0 (message_in v.parts.site v.parts.bytes r) done.1 (beside _ H holds.holds) holds.batches);
          slots = slots_set size line device.log.bytes fault machine n v (ended_now i r (completing r) Completed v) there refl holds.slots;
        },
      )

  -- What tables need is in the slots with that message, too.
  slots_completed : (marks : JoinedMarks) (H : History) (reach : ℕ) (x : Message) → in_log x ≡ message_in v.parts.site v.parts.bytes r
      → HoldsLine sum marks size device fault line (logged H)
      → HasSlots size line device.log.bytes fault machine → (H' : History) → AddsMessage H x H'
      → HaveSlotsFrom sum marks size device.snapshots.file H (stable_below reach H.batches) machine
      → HaveSlotsFrom sum marks size device.snapshots.file H' (stable_below reach H'.batches) machine
  slots_completed marks H reach x is held slots H' adds has first begins =
      let its : HasSlot size machine v = at_there (HasSlot size machine) line n v there slots.taken in
      let aligned : v.parts.site.place % size ≡ 0 = ap (λ (p : ℕ). p % size) (sym its.is) ∙ slots.own.aligned its.number its.taken in
      let low = held_written sum size _ device fault line (logged H) held first begins in
      let unwritten = line_unwritten size v i r at (facts n v there) line n place there facts in
      let here = ap (λ (y : Message). y.place) is in
      subst (λ (bs : List Batch). HaveSlots sum size (held_since size marks first) H' (stable_below reach bs) machine) (sym adds.batches)
      (slots_added sum size (held_since size marks first) (stable_below reach H.batches) H machine (has first begins) H' x adds
      (omega (arith, low, unwritten, here))
      (message_in_slot sum size machine v its aligned (facts n v there) i r at x is))

  pub fits_completed : (x : Message) → in_log x ≡ message_in v.parts.site v.parts.bytes r → BlobIsBelow x x.pointer → KeepsItem sum device.blobs x x.pointer
      → NamesNoOutdated machine x → is_manifest r.log_kind r.page ≡ false → (pins : ℕ) (H : History) (A f : ℕ) (U : List Message) → 256 ≤ size → fault ≡ None
      → 0 < pins
      → {marks : JoinedMarks} → FitsWith sum marks noted size device fault line machine pins H A f U
      → (H' : History) × AddsMessage H x H'
      × FitsWith sum marks noted size device fault (set line n (ended_now i r (completing r) Completed v)) machine pins H' A f (x ∷ U)
      × GrowsAbove (logged H) (logged H') (first_place line)
  fits_completed x its_message below stored fresh none pins H A f U least ok out fits =
      let done =
      complete_fits sum size device fault v i r at is_open _ x its_message below stored none line n place fits.reach pins H A f U least ok out there facts
      fits.parts in
      let held = line_holds sum size device fault _ line fits.reach pins H A f U fits.parts in
      let put = adds_logged H x done.0 done.1 in
      let apart : (b : Batch) → Contains H.batches b → (b.low ≤ x.place) ⊎ (x.place + x.size ≤ b.low) =
      λ b among. subst (λ (y : Message). (b.low ≤ y.place) ⊎ (y.place + y.size ≤ b.low)) (sym its_message) (beside _ (logged H) held b among) in
      let past : first_place line ≤ x.place = subst (λ (y : Message). first_place line ≤ y.place) (sym its_message) first_before in (
        done.0,
        done.1,
        record {
          reach = fits.reach;
          parts = done.2;
          batches = batches_set (ended_now i r (completing r) Completed v) refl refl (logged done.0)
              (batches_completed (written_to line) (line_end size line) noted (logged H) (logged done.0) (in_log x) put apart fits.batches);
          slots = slots_set size line device.log.bytes fault machine n v (ended_now i r (completing r) Completed v) there refl fits.slots;
          whole = λ none zeros.
              subst (λ p. AreWhole sum size device.log.bytes (logged done.0) p machine)
              (sym (first_set line n v (ended_now i r (completing r) Completed v) there refl))
              (whole_grown sum size least device.log.bytes (logged H) (logged done.0) x.place (first_place line) machine
              (message_grows (logged H) (logged done.0) (in_log x) put) past (fits.whole none zeros));
          own = λ none zeros. own_ended sum size (HeaderWasPlaced device.placed) (RecordWasPlaced sum size device.placed) device.log.bytes line n v i r
              (completing r) Completed there (fits.own none zeros);
          account = account_completed sum size device.snapshots.file H U machine fits.account done.0 x done.1 fresh
              (lies_active sum size device fault line fits.reach pins H A f U fits.parts machine fits.account least v
              (first_below size place line (from_each size place line facts) n v there)
              (at_there (HasSlot size machine) line n v there fits.slots.taken) x v.parts.bytes r its_message (inside_segment (facts n v there) i r at));
          numbers = λ zeros. subst (HasNumbers sum size _ device machine) (sym (end_set size line n v (ended_now i r (completing r) Completed v) there refl))
              (fits.numbers zeros);
          in_slots = slots_completed _ H fits.reach x its_message held fits.slots done.0 done.1 fits.in_slots;
        },
        message_above (logged H) (logged done.0) (in_log x) put (first_place line) past,
      )
