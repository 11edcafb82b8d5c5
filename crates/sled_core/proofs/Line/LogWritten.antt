-- All slots of a log are own once a sealed buffer of one of its segments is written and synced, and those segments at the front have gone that are wholly on the device, where what was written is.
use Rattle.std.proofs.Common.{◌≡◌, ◌≢◌, ◌⊎◌, ◌≤◌, ◌<◌, ◌+◌, ◌*◌, ◌/◌, ap, refl, subst, arith, inl, inr, ℕ, zero, suc, max, true, List, [], ◌∷◌, ◌++◌, length, take, drop, set, Option, None, Some}
use Rattle.std.specs.List.{All, slice_get}
use Rattle.std.specs.declared.io.Error.{Error as IoError}
use Rattle.std.proofs.Math.Nat.{suc-mul}
use Rattle.std.proofs.lemmas.Bool.{cases_order}
use Rattle.std.proofs.lemmas.List.Elements.{All-head, All-set, All-tail}
use Rattle.sled_codec.specs.History.{History}
use Rattle.sled_codec.specs.Places.{part}
use Rattle.sled_store.specs.Device.{State, overwritten}
use Rattle.sled_store.specs.Readers.{Reads, ReadsTo}
use Rattle.sled_store.specs.SegmentStates.{Machine, slot_at}
use Rattle.sled_store.proofs.Segments.FilledLemmas.{slot_before}
use Rattle.sled_core.specs.Begun.{SegmentView}
use Rattle.sled_core.specs.declared.iobuf.Sealed.{Sealed}
use Rattle.sled_core.specs.inside.Fits.{HoldsLine}
use Rattle.sled_core.specs.inside.FreeSlots.{HasSlot, HasSlots}
use Rattle.sled_core.specs.LogFile.{HasHeader}
use Rattle.sled_core.specs.inside.OwnLog.{IsOwnFile}
use Rattle.sled_core.specs.Recoverable.{NoHeaderOfZeros}
use Rattle.sled_core.specs.declared.logger.joined_marks.JoinedMarks.{JoinedMarks}
use Rattle.sled_core.specs.inside.SealedBuffers.{AreSealed, is_ready, written_at}
use Rattle.sled_core.specs.inside.Turned.{promoted, written_now}
use Rattle.sled_core.proofs.Line.Ends.{with_part}
use Rattle.sled_core.proofs.Holds.Facts.{IsSegment}
use Rattle.sled_core.proofs.Line.Segments.{AreSegments, by_front, full_unsealed, nth_segment, set_segment, written_segment, written_within}
use Rattle.sled_core.proofs.Line.Writes.{buffer_begin, buffer_bytes, buffer_synced, holds_write, rises}
use Rattle.sled_core.proofs.Line.WrittenSlots.{headers_line}
use Rattle.sled_core.proofs.OwnLog.Buffer.{behind_header, reads_all}
use Rattle.sled_core.proofs.OwnLog.Kept.{HeadersStay, RecordsStay}
use Rattle.sled_core.proofs.OwnLog.Line.{file_written, first_gone}
use Rattle.sled_core.proofs.Reserve.Ranges.{at_there, there_split}
use Rattle.sled_core.proofs.Sealed.Ended.{ends_rise}
use Rattle.sled_core.proofs.Sealed.LaidLemmas.{EndsRise}
use Rattle.sled_core.proofs.Sealed.Marked.{ready_closed}
use Rattle.sled_core.proofs.Sealed.OneWritten.{length-between, rises_at}

-- buffers one behind another end below a higher offset too
rise_further : (from : ℕ) (bs : List Sealed) (to more : ℕ) → to ≤ more → EndsRise from bs to → EndsRise from bs more
rise_further from [] to more low rise = omega (arith, low, rise)
rise_further from (b ∷ bs) to more low rise = (rise.0, rise_further b.end bs to more low rise.1)

-- and once one of them is written
rise_written : (from : ℕ) (bs : List Sealed) (k to : ℕ) → EndsRise from bs to → EndsRise from (written_at k bs) to
rise_written from [] k to rise = rise
rise_written from (b ∷ bs) zero to rise = rise
rise_written from (b ∷ bs) (suc k) to rise = (rise.0, rise_written b.end bs k to rise.1)

-- the n-th segment lies so far behind the first one
nth_place : (size place : ℕ) (line : List SegmentView) → AreSegments size place line → (n : ℕ) (v : SegmentView) → slice_get line n ≡ Some v → v.parts.site.place ≡ place + n * size
nth_place size place [] are n v there = absurd (let never : ⊥ = cc in never)
nth_place size place (x ∷ xs) are zero v there = let same : x ≡ v = cc in let at = are.0.at in let here = ap (λ (y : SegmentView). y.parts.site.place) same in omega (arith, at, here)
nth_place size place (x ∷ xs) are (suc n) v there = let rest = nth_place size (place + size) xs are.1 n v there in omega (arith, rest, suc-mul n size)

module _ (sum : List ℕ → ℕ) (size : ℕ) (big : 256 ≤ size) (none : NoHeaderOfZeros sum) (Header : ℕ → List ℕ → Type 0) (Own : ℕ → ℕ → List ℕ → Type 0) where
  -- Those at the front have gone.
  record IsOwnLine (log : List ℕ) (m : Machine) (l : List SegmentView) : Type 0 where
    place : ℕ
    are : AreSegments size place l
    slots : All (HasSlot size m) l
    headers : (n : ℕ) (v : SegmentView) → slice_get l n ≡ Some v → 0 < v.parts.written_len → HasHeader sum log v.parts.site
    own : IsOwnFile sum size Header Own log l

  pub own_promoted : (log : List ℕ) (m : Machine) (place : ℕ) (line : List SegmentView) → AreSegments size place line → All (HasSlot size m) line
      → ((n : ℕ) (v : SegmentView) → slice_get line n ≡ Some v → 0 < v.parts.written_len → HasHeader sum log v.parts.site) → IsOwnFile sum size Header Own log line → IsOwnFile sum size Header Own log (promoted size line)
  own_promoted log m place line are slots headers own = (by_front size (IsOwnLine log m) step line (record { place = place; are = are; slots = slots; headers = headers; own = own })).own where
    step : (v w : SegmentView) (ws : List SegmentView) → v.parts.written_len ≡ size → IsOwnLine log m (v ∷ w ∷ ws) → IsOwnLine log m (w ∷ ws)
    step v w ws full has =
        let first = All-head (HasSlot size m) v (w ∷ ws) has.slots in
        record {
          place = has.place + size;
          are = has.are.1;
          slots = All-tail (HasSlot size m) v (w ∷ ws) has.slots;
          headers = λ n x there. has.headers (suc n) x there;
          own = first_gone sum size Header Own none (omega (arith, big)) log v (w ∷ ws) first.number first.lies full (full_unsealed size has.place v has.are.0 full) (has.headers zero v refl (omega (arith, full, big))) has.own;
        }

-- A sealed buffer of one of the segments.
module _ (sum : List ℕ → ℕ) (size : ℕ) (big : 256 ≤ size) (device : State) (fault : Option IoError) (whole : fault ≡ None) (v : SegmentView) (k : ℕ) (b : Sealed) (there : slice_get v.parts.sealed k ≡ Some b) (ready : is_ready b ≡ true)
    (place : ℕ) (line : List SegmentView) (are : AreSegments size place line) (n : ℕ) (among : slice_get line n ≡ Some v) (m : Machine) (slots : HasSlots size line device.log.bytes fault m) (H : History) (marks : JoinedMarks) (holds : HoldsLine sum marks size device fault line H)
    (none : NoHeaderOfZeros sum) (Header Header' : ℕ → List ℕ → Type 0) (Own Own' : ℕ → ℕ → List ℕ → Type 0) where
  abbrev now : SegmentView
  now = written_now k v

  abbrev pub begin : ℕ
  begin = buffer_begin sum size big device fault whole v k b there ready

  abbrev pub asked : List ℕ
  asked = buffer_bytes sum size big device fault whole v k b there ready

  abbrev pub new : List ℕ
  new = overwritten device.log.bytes (v.parts.site.slot + begin) asked

  is : IsSegment size v.parts.site.place v
  is = nth_segment size place line are n v among

  rise_bytes : EndsRise v.parts.written_len v.parts.sealed (length v.parts.bytes)
  rise_bytes = rises sum size big device fault whole v k b there ready v.parts.site.place is

  rise_size : EndsRise v.parts.written_len v.parts.sealed size
  rise_size = rise_further v.parts.written_len v.parts.sealed (length v.parts.bytes) size is.short rise_bytes

  pub split : v.parts.sealed ≡ take k v.parts.sealed ++ b ∷ drop (suc k) v.parts.sealed
  split = there_split v.parts.sealed k b there

  pub rise_split : EndsRise v.parts.written_len (take k v.parts.sealed ++ b ∷ drop (suc k) v.parts.sealed) size
  rise_split = subst (λ (cs : List Sealed). EndsRise v.parts.written_len cs size) split rise_size

  pub are_split : AreSealed v.parts.written_len v.parts.reserved (take k v.parts.sealed ++ b ∷ drop (suc k) v.parts.sealed)
  are_split = subst (λ (cs : List Sealed). AreSealed v.parts.written_len v.parts.reserved cs) split is.are

  pub lies : (v.parts.written_len ≤ begin) × (begin < b.end) × (b.end ≤ size)
  lies = rises_at v.parts.written_len (take k v.parts.sealed) b (drop (suc k) v.parts.sealed) size rise_split

  pub inside : b.end ≤ length v.parts.bytes
  inside = (rises_at v.parts.written_len (take k v.parts.sealed) b (drop (suc k) v.parts.sealed) (length v.parts.bytes) (subst (λ (cs : List Sealed). EndsRise v.parts.written_len cs (length v.parts.bytes)) split rise_bytes)).2

  pub ends : b.end ≡ begin + length asked
  ends = let l = length-between v.parts.bytes begin b.end inside in let up = lies.1 in omega (arith, l, up)

  pub some_bytes : 0 < length asked
  some_bytes = let e = ends in let up = lies.1 in omega (arith, e, up)

  pub twenty : 20 ≤ size
  twenty = omega (arith, big)

  pub fits : begin + length asked ≤ size
  fits = let e = ends in let high = lies.2 in omega (arith, e, high)

  -- The other segments lie in other slots.
  apart : (j : ℕ) (u : SegmentView) → slice_get line j ≡ Some u → j ≢ n → (u.parts.site.slot + size ≤ v.parts.site.slot) ⊎ (v.parts.site.slot + size ≤ u.parts.site.slot)
  apart j u at differs =
      let its : HasSlot size m u = at_there (HasSlot size m) line j u at slots.taken in
      let own : HasSlot size m v = at_there (HasSlot size m) line n v among slots.taken in
      let its_lies = its.lies in
      let own_lies = own.lies in
      elim (cases_order its.number own.number) [
        | inl same ↦ absurd (
            let its_place = its.is in
            let own_place = own.is in
            let one = ap (λ i. (slot_at m i).lsn) same in
            let first = nth_place size place line are j u at in
            let second = nth_place size place line are n v among in
            let rows : j * size ≡ n * size = omega (arith, its_place, own_place, one, first, second) in
            elim (cases_order j n) [
              | inl equal ↦ differs equal
              | inr (inl lower) ↦ (let far = slot_before size j n lower in omega (arith, far, rows, big))
              | inr (inr higher) ↦ (let far = slot_before size n j higher in omega (arith, far, rows, big))
            ])
        | inr (inl lower) ↦ inl (let far = slot_before size its.number own.number lower in omega (arith, far, its_lies, own_lies))
        | inr (inr higher) ↦ inr (let far = slot_before size own.number its.number higher in omega (arith, far, its_lies, own_lies))
      ]

  rise_of : (j : ℕ) (u : SegmentView) → slice_get line j ≡ Some u → EndsRise u.parts.written_len u.parts.sealed size
  rise_of j u at =
      let facts : IsSegment size u.parts.site.place u = nth_segment size place line are j u at in
      let begins = facts.begins in
      let up = written_within size u.parts.site.place u facts in
      rise_further u.parts.written_len u.parts.sealed (length u.parts.bytes) size facts.short (ends_rise u.parts.written_len u.parts.reserved u.parts.sealed (length u.parts.bytes) facts.are (omega (arith, up, begins)) begins)

  -- Behind the header a buffer has its records,
  pub begun : max 20 begin ≤ begin + length asked
  begun =
      let e = ends in
      with_part sum size device fault _ line n v H holds among (λ stays own segment. (
      let up = behind_header sum size v.parts.site device.log.bytes v.parts.bytes v.parts.written_len v.parts.reserved (take k v.parts.sealed) b (drop (suc k) v.parts.sealed) segment.records.place_begins segment.records.slot_begins is.place_small is.slot_small
      are_split rise_split inside (ready_closed b ready) segment.records.stand in
      omega (arith, up, e)))

  module _ (headers : HeadersStay sum size Header Header' Own Own' device.log.bytes (v.parts.site.slot + begin) asked some_bytes twenty) (records : RecordsStay sum size Header Header' Own Own' device.log.bytes (v.parts.site.slot + begin) asked some_bytes twenty)
      (headed : begin ≡ 0 → Header' v.parts.site.slot (take 20 asked))
      (laid : (at len : ℕ) → Reads sum size (v.parts.site.place / size) (part new v.parts.site.slot size) (max 20 begin) at len → at + len ≤ begin + length asked → Own' (v.parts.site.place / size) (v.parts.site.slot + at) (part (part new v.parts.site.slot size) at len)) where
    -- A reader reads them.
    to_end : begin + length asked < size → ReadsTo sum size (v.parts.site.place / size) (part new v.parts.site.slot size) (max 20 begin) (begin + length asked)
    to_end low =
        let e = ends in
        with_part sum size device fault _ line n v H holds among (λ stays own segment.
        subst (λ j. ReadsTo sum size (v.parts.site.place / size) (part new v.parts.site.slot size) (max 20 begin) j) e
        (reads_all sum size v.parts.site device.log.bytes v.parts.bytes v.parts.written_len v.parts.reserved (take k v.parts.sealed) b (drop (suc k) v.parts.sealed) segment.records.place_begins segment.records.slot_begins is.place_small is.slot_small
        are_split rise_split inside (ready_closed b ready) segment.records.stand (omega (arith, e, low))))

    pub own_written : IsOwnFile sum size Header Own device.log.bytes line → IsOwnFile sum size Header' Own' new (set line n now)
    own_written was =
        let own : HasSlot size m v = at_there (HasSlot size m) line n v among slots.taken in
        file_written sum size Header Header' Own Own' device.log.bytes v begin asked some_bytes twenty fits headers records k b there rise_size refl ends (rise_written v.parts.written_len v.parts.sealed k size rise_size) lies.0
        (λ zero. (let up = begun in omega (arith, up, zero), headed zero)) begun laid to_end line n own.number among own.lies (λ j u at differs. (apart j u at differs, rise_of j u at)) was

    -- So it is with the segments that are left.
    pub own_left : IsOwnFile sum size Header Own device.log.bytes line → IsOwnFile sum size Header' Own' new (promoted size (set line n now))
    own_left was =
        let own : HasSlot size m v = at_there (HasSlot size m) line n v among slots.taken in
        let synced : State = buffer_synced sum size big device fault whole v k b there ready in
        let later : HoldsLine sum marks size synced fault (set line n now) H = holds_write sum size big device fault whole v k b there ready _ place line are n among H holds in
        own_promoted sum size big none Header' Own' new m place (set line n now) (set_segment size place line are n v now among (λ p here. written_segment k v b there ready size p here))
        (All-set (HasSlot size m) line n now (record { number = own.number; lies = own.lies; taken = own.taken; is = own.is }) slots.taken)
        (λ j x at some. headers_line sum size _ synced fault whole (set line n now) j x H later at some) (own_written was)
