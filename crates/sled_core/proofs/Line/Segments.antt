-- All segments of a line keep what each of them does, also once a sealed buffer of one of them is written, and once those at the front that are wholly on the device have gone.
use Rattle.std.proofs.Common.{◌≡◌, ◌≢◌, ◌∙◌, ◌<◌, ◌≤◌, ◌+◌, ◌*◌, ◌==◌, ap, sym, refl, arith, subst, ℕ, zero, suc, Bool, true, false, if◌then◌else◌, List, [], ◌∷◌, length, length-drop, max, drop, map, set, Option, Some}
use Rattle.std.specs.List.{All, slice_get}
use Rattle.std.proofs.Math.Nat.{suc-mul}
use Rattle.std.proofs.lemmas.Bool.Decides.{nat_tests}
use Rattle.std.proofs.lemmas.List.{drop-drop}
use Rattle.std.proofs.lemmas.List.Elements.{All-drop}
use Rattle.sled_core.specs.inside.Begun.{AreEntered, AreFilled, FollowOn, IsUnfilled, first_place}
use Rattle.sled_core.specs.Begun.{SegmentView, begin_of, records_to, segment_view}
use Rattle.sled_core.specs.inside.Buffers.{IsChain, IsHeaded, records_end}
use Rattle.sled_core.specs.Buffers.{most_open, open_in}
use Rattle.sled_core.specs.declared.iobuf.Reserved.{Reserved}
use Rattle.sled_core.specs.declared.iobuf.Sealed.{Sealed}
use Rattle.sled_core.specs.declared.iobuf.SegmentPosition.{SegmentPosition}
use Rattle.sled_core.specs.declared.logger.Log.{Log}
use Rattle.sled_core.specs.declared.logger.io_bufs.SegmentBuffer.{SegmentBuffer}
use Rattle.sled_core.specs.Fits.{line_of}
use Rattle.sled_core.specs.inside.SealedBuffers.{AreSealed, behind_run, is_ready, run_count, written_at}
use Rattle.sled_core.specs.SealedBuffers.{sealed_count, sealed_end}
use Rattle.sled_core.specs.inside.Turned.{promoted, written_now}
use Rattle.sled_core.specs.Waiting.{last_of}
use Rattle.sled_core.proofs.Line.FullHolds.{none_sealed}
use Rattle.sled_core.proofs.Holds.Facts.{IsSegment, nth_facts}
use Rattle.sled_core.proofs.Reserve.BeginBelow.{entered_left}
use Rattle.sled_core.proofs.Reserve.Ranges.{chain_grows}
use Rattle.sled_core.proofs.Reserve.RecordEnds.{records_fewer}
use Rattle.sled_core.proofs.Sealed.Around.{whole_chain}
use Rattle.sled_core.proofs.Sealed.Ended.{ends_rise, ends_up}
use Rattle.sled_core.proofs.Sealed.Marked.{count_run, count_written, end_run, end_written, first_behind, ready_closed, written_are}
use Rattle.sled_core.proofs.Sealed.Runs.{IsRun, run_of}

-- Segments one behind another from a place on.
abbrev pub AreSegments : ℕ → ℕ → List SegmentView → Type 0
AreSegments size place [] = Unit {0}
AreSegments size place (v ∷ vs) = IsSegment size place v × AreSegments size (place + size) vs

pub from_each : (size place : ℕ) (vs : List SegmentView) → ((n : ℕ) (v : SegmentView) → slice_get vs n ≡ Some v → IsSegment size (place + n * size) v) → AreSegments size place vs
from_each size place [] each = tt
from_each size place (v ∷ vs) each = (
  subst (λ n. IsSegment size n v) (omega arith) (each zero v refl),
  from_each size (place + size) vs (λ n w there. subst (λ p. IsSegment size p w) (omega (arith, suc-mul n size)) (each (suc n) w there)),
)

-- The segments of a log are such ones.
pub line_segments : {D C : Type 0} (log : Log D C) → AreSegments log.config.config.segment_size log.segments.first.site.place (line_of log)
line_segments log = from_each log.config.config.segment_size log.segments.first.site.place (line_of log) (nth_facts log)

-- the n-th one of them
pub nth_segment : (size place : ℕ) (vs : List SegmentView) → AreSegments size place vs → (n : ℕ) (v : SegmentView) → slice_get vs n ≡ Some v → IsSegment size v.parts.site.place v
nth_segment size place [] are n v there = cc
nth_segment size place (x ∷ xs) are zero v there = let same : x ≡ v = cc in subst (λ (y : SegmentView). IsSegment size y.parts.site.place y) same (subst (λ p. IsSegment size p x) (sym are.0.at) are.0)
nth_segment size place (x ∷ xs) are (suc n) v there = nth_segment size (place + size) xs are.1 n v there

-- the last one of them
pub last_segment : (size place : ℕ) (v : SegmentView) (vs : List SegmentView) → AreSegments size place (v ∷ vs) → (p : ℕ) × IsSegment size p (last_of v vs)
last_segment size place v [] are = (place, are.0)
last_segment size place v (w ∷ ws) are = last_segment size (place + size) w ws are.1

-- The n-th one begins no lower than the first one
pub first_below : (size place : ℕ) (vs : List SegmentView) → AreSegments size place vs → (n : ℕ) (v : SegmentView) → slice_get vs n ≡ Some v
    → first_place vs ≤ v.parts.site.place
first_below size place [] are n v there = cc
first_below size place (x ∷ xs) are n v there = let at = are.0.at in let up = each (x ∷ xs) place are n there in omega (arith, at, up) where
  each : (ys : List SegmentView) (p : ℕ) → AreSegments size p ys → (k : ℕ) → slice_get ys k ≡ Some v → p ≤ v.parts.site.place
  each [] p are k at = cc
  each (y ∷ ys) p are zero at =
      let same : y ≡ v = cc in
      let begins = are.0.at in
      omega (arith, begins, ap (λ (u : SegmentView). u.parts.site.place) same)
  each (y ∷ ys) p are (suc k) at = let up = each ys (p + size) are.1 k at in omega (arith, up)

-- and with another one in its place
pub set_segment : (size place : ℕ) (vs : List SegmentView) → AreSegments size place vs → (n : ℕ) (v w : SegmentView) → slice_get vs n ≡ Some v → ((p : ℕ) → IsSegment size p v → IsSegment size p w) → AreSegments size place (set vs n w)
set_segment size place [] are n v w there kept = cc
set_segment size place (x ∷ xs) are zero v w there kept = let same : x ≡ v = cc in (kept place (subst (λ (y : SegmentView). IsSegment size place y) same are.0), are.1)
set_segment size place (x ∷ xs) are (suc n) v w there kept = (are.0, set_segment size (place + size) xs are.1 n v w there kept)

-- What code keeps of those behind the first one follows.
pub follow_segments : (size place : ℕ) (ss : List SegmentBuffer) → AreSegments size place (map segment_view ss) → FollowOn size place ss
follow_segments size place [] are = tt
follow_segments size place (s ∷ ss) are = (are.0.at, are.0.short, are.0.place_small, are.0.slot_small, follow_segments size (place + size) ss are.1)

-- A write leaves the current buffer where it begins.
pub written_begin : (v : SegmentView) (k : ℕ) → begin_of (written_now k v) ≡ begin_of v
written_begin v k = sym (end_run v.parts.written_len (written_at k v.parts.sealed)) ∙ end_written v.parts.written_len k v.parts.sealed

-- A sealed buffer of a segment that can be written is.
module _ (k : ℕ) (v : SegmentView) (b : Sealed) (there : slice_get v.parts.sealed k ≡ Some b) (ready : is_ready b ≡ true) where
  abbrev now : List Sealed
  now = written_at k v.parts.sealed

  abbrev entries : List Reserved
  entries = v.parts.reserved

  pub counts : sealed_count v.parts.sealed ≡ run_count now + sealed_count (behind_run now)
  counts = sym (count_written k v.parts.sealed) ∙ count_run now

  -- the current buffer has the same reservations
  pub current_written : drop (sealed_count (behind_run now)) (drop (run_count now) entries) ≡ drop (sealed_count v.parts.sealed) entries
  current_written = drop-drop (sealed_count (behind_run now)) (run_count now) entries ∙ ap (λ n. drop n entries) (sym counts)

  pub run_written : AreSealed v.parts.written_len entries v.parts.sealed → IsRun v.parts.written_len entries now
  run_written are = run_of v.parts.written_len entries now (written_are v.parts.written_len entries v.parts.sealed k b there (ready_closed b ready) are)

  pub written_segment : (size place : ℕ) → IsSegment size place v → IsSegment size place (written_now k v)
  written_segment size place is =
      let many = counts in
      let same = written_begin v k in
      let parted = is.parted in
      record {
        at = is.at;
        short = is.short;
        place_small = is.place_small;
        slot_small = is.slot_small;
        begun = is.begun;
        begins = (let begins = is.begins in omega (arith, same, begins));
        fresh = first_behind now;
        are = (run_written is.are).rest;
        chain = subst (λ n. IsChain (max 20 n) (drop (sealed_count (behind_run now)) (drop (run_count now) entries)) (length v.parts.bytes)) (sym (written_begin v k))
            (subst (λ (l : List Reserved). IsChain (max 20 (begin_of v)) l (length v.parts.bytes)) (sym current_written) is.chain);
        headed = All-drop IsHeaded (run_count now) entries is.headed;
        within = All-drop (λ r. r.from + r.len ≤ length v.parts.bytes) (run_count now) entries is.within;
        parted = omega (arith, many, parted, length-drop (run_count now) entries);
        few = subst (λ (l : List Reserved). open_in l ≤ most_open) (sym current_written) is.few;
        numbered = (let numbered = is.numbered in omega (arith, many, parted, numbered, length-drop (run_count now) entries));
      }

-- reservations of which each has a byte, one behind another up to where they begin, are none
no_entries : (from end : ℕ) (rs : List Reserved) → IsChain from rs end → All IsHeaded rs → end ≤ from → rs ≡ []
no_entries from end [] chain headed low = refl
no_entries from end (r ∷ rs) chain headed low = absurd (
    let some = (headed 0 r (omega arith)).0 in
    let up = chain_grows (from + r.len) end rs chain.1 in
    omega (arith, some, up, low))

-- What is written of a segment lies within it, and where that is all of it it has no reservations any more.
pub written_within : (size place : ℕ) (v : SegmentView) → IsSegment size place v → v.parts.written_len ≤ begin_of v
written_within size place v is = ends_up v.parts.written_len v.parts.reserved v.parts.sealed is.are

pub full_unsealed : (size place : ℕ) (v : SegmentView) → IsSegment size place v → v.parts.written_len ≡ size → v.parts.sealed ≡ []
full_unsealed size place v is full =
    let begins = is.begins in
    let short = is.short in
    let up = written_within size place v is in
    none_sealed v.parts.written_len v.parts.sealed (length v.parts.bytes) (ends_rise v.parts.written_len v.parts.reserved v.parts.sealed (length v.parts.bytes) is.are (omega (arith, up, begins)) begins) (omega (arith, short, full))

pub full_empty : (size place : ℕ) (v : SegmentView) → 256 ≤ size → IsSegment size place v → v.parts.written_len ≡ size → v.parts.reserved ≡ []
full_empty size place v big is full =
    let short = is.short in
    no_entries (max 20 v.parts.written_len) (length v.parts.bytes) v.parts.reserved
    (subst (λ (l : List Sealed). IsChain (max 20 (sealed_end v.parts.written_len l)) (drop (sealed_count l) v.parts.reserved) (length v.parts.bytes)) (full_unsealed size place v is full) is.chain) is.headed (omega (arith, short, full))

-- Those at the front that are wholly on the device go, where there is a further one.

-- Whatever goes for the lines of which those at the front are left out goes for the one that is left.
pub by_front : (size : ℕ) (P : List SegmentView → Type 0) → ((v w : SegmentView) (ws : List SegmentView) → v.parts.written_len ≡ size → P (v ∷ w ∷ ws) → P (w ∷ ws)) → (vs : List SegmentView) → P vs → P (promoted size vs)
by_front size P step [] has = has
by_front size P step (v ∷ []) has = has
by_front size P step (v ∷ w ∷ ws) has = by_test (by_front size P step (w ∷ ws)) (v.parts.written_len == size) refl where
  by_test : (P (w ∷ ws) → P (promoted size (w ∷ ws))) → (o : Bool) → (v.parts.written_len == size) ≡ o → P (if o then promoted size (w ∷ ws) else v ∷ w ∷ ws)
  by_test rest true is = rest (step v w ws (grind (arith, nat_tests, is)) has)
  by_test rest false is = has

pub segments_promoted : (size place : ℕ) (vs : List SegmentView) → AreSegments size place vs → (p : ℕ) × AreSegments size p (promoted size vs)
segments_promoted size place vs are = by_front size (λ l. (p : ℕ) × AreSegments size p l) (λ v w ws full has. (has.0 + size, has.1.1)) vs (place, are)

pub filled_promoted : (size to : ℕ) (vs : List SegmentView) → AreFilled size to vs → AreFilled size to (promoted size vs)
filled_promoted size to vs filled = by_front size (AreFilled size to) (λ v w ws full has. has.2) vs filled

pub all_promoted : (size : ℕ) (P : SegmentView → Type 0) (vs : List SegmentView) → All P vs → All P (promoted size vs)
all_promoted size P vs all = by_front size (All P) (λ v w ws full has. All-drop P 1 (v ∷ w ∷ ws) has) vs all

-- Where those at the front have gone the first one lies no lower.
pub promoted_place : (size place : ℕ) (vs : List SegmentView) → AreSegments size place vs → first_place vs ≤ first_place (promoted size vs)
promoted_place size place vs are =
    (by_front size (λ l. ((p : ℕ) × AreSegments size p l) × (first_place vs ≤ first_place l))
    (λ v w ws full has. (
      (has.0.0 + size, has.0.1.1),
      let first = has.0.1.0.at in let next = has.0.1.1.0.at in let low = has.1 in omega (arith, first, next, low),
    ))
    vs ((place, are), omega arith)).1

-- The first one isn't wholly on the device, unless it is alone.
pub promoted_waits : (size : ℕ) (vs : List SegmentView) (v w : SegmentView) (ws : List SegmentView) → promoted size vs ≡ v ∷ w ∷ ws → v.parts.written_len ≢ size
promoted_waits size [] v w ws is = absurd (let never : ⊥ = cc in never)
promoted_waits size (x ∷ []) v w ws is = absurd (let never : ⊥ = cc in never)
promoted_waits size (x ∷ y ∷ ys) v w ws is = by_test (promoted_waits size (y ∷ ys) v w ws) (x.parts.written_len == size) refl is where
  by_test : (promoted size (y ∷ ys) ≡ v ∷ w ∷ ws → v.parts.written_len ≢ size) → (o : Bool) → (x.parts.written_len == size) ≡ o → (if o then promoted size (y ∷ ys) else x ∷ y ∷ ys) ≡ v ∷ w ∷ ws → v.parts.written_len ≢ size
  by_test rest true is same = rest same
  by_test rest false is same = λ full.
      let one : x ≡ v = cc in
      let never : (x.parts.written_len == size) ≡ true = grind (arith, nat_tests, ap (λ (u : SegmentView). u.parts.written_len) one, full) in
      let both : true ≡ false = sym never ∙ is in cc

-- where it isn't already, nothing changes
pub promoted_same : (size : ℕ) (v : SegmentView) (vs : List SegmentView) → (0 < length vs → v.parts.written_len < size) → promoted size (v ∷ vs) ≡ v ∷ vs
promoted_same size v [] waits = refl
promoted_same size v (w ∷ ws) waits =
    let low = waits (omega arith) in
    ap (λ (o : Bool). if o then promoted size (w ∷ ws) else v ∷ w ∷ ws) (let is : (v.parts.written_len == size) ≡ false = grind (arith, nat_tests, low) in is)

-- Segments are filled as they were with another one in the place of one of them that lies there, begins its current buffer there, has as many bytes, is filled from there on, and whose records end no lower.
pub filled_set : (size to : ℕ) (line : List SegmentView) (n : ℕ) (v e : SegmentView) → slice_get line n ≡ Some v → e.parts.site ≡ v.parts.site → begin_of e ≡ begin_of v → length e.parts.bytes ≡ length v.parts.bytes
    → (AreEntered to v.parts.site.place v.parts.reserved → AreEntered to v.parts.site.place e.parts.reserved)
    → e.parts.filled ≡ v.parts.filled → records_end v.parts.reserved (length v.parts.bytes) ≤ records_end e.parts.reserved (length v.parts.bytes) → {place : ℕ} → IsSegment size place v → AreFilled size to line → AreFilled size to (set line n e)
filled_set size to [] n v e there site begins long entered filling records facts filled = filled
filled_set size to (x ∷ []) zero v e there site begins long entered filling records facts filled =
    let same : x ≡ v = cc in
    let f : AreFilled size to (v ∷ []) = subst (λ (y : SegmentView). AreFilled size to (y ∷ [])) same filled in
    let place : e.parts.site.place ≡ v.parts.site.place = ap (λ (p : SegmentPosition). p.place) site in
    let low = f.0 in let inside = f.1 in
    let far = f.4 in (
      omega (arith, begins, low),
      omega (arith, place, long, inside),
      subst (λ p. AreEntered to p e.parts.reserved) (sym place) (entered f.2),
      subst IsUnfilled (sym filling) f.3,
      omega (arith, long, far, records, ap (records_end e.parts.reserved) long),
      λ some. let end = f.5 (omega (arith, some, long)) in omega (arith, end, place, long),
    )
filled_set size to (x ∷ []) (suc n) v e there site begins long entered filling records facts filled = cc
filled_set size to (x ∷ w ∷ ws) zero v e there site begins long entered filling records facts filled =
    let same : x ≡ v = cc in
    let f : AreFilled size to (v ∷ w ∷ ws) = subst (λ (y : SegmentView). AreFilled size to (y ∷ w ∷ ws)) same filled in
    let full = f.0 in let begins_low = facts.begins in let short = facts.short in
    let whole : length v.parts.bytes ≡ size = omega (arith, full, begins_low, short) in
    let far = f.3 in let up = subst (λ n. records_end v.parts.reserved n ≤ records_end e.parts.reserved n) whole records in let kept = ap (λ (o : Option ℕ). records_to o size) filling in
    let place : e.parts.site.place ≡ v.parts.site.place = ap (λ (p : SegmentPosition). p.place) site in (
      begins ∙ f.0,
      subst (λ p. AreEntered to p e.parts.reserved) (sym place) (entered f.1),
      f.2,
      omega (arith, far, up, kept),
      λ low. let lies = f.4 (omega (arith, low, place)) in omega (arith, lies, place, kept),
      λ some. let used = f.5 (omega (arith, some, long)) in omega (arith, used, place),
    )
filled_set size to (x ∷ w ∷ ws) (suc zero) v e there site begins long entered filling records facts filled =
    (filled.0, filled.1, filled_set size to (w ∷ ws) zero v e there site begins long entered filling records facts filled.2, filled.3, filled.4, filled.5)
filled_set size to (x ∷ w ∷ ws) (suc (suc n)) v e there site begins long entered filling records facts filled =
    (filled.0, filled.1, filled_set size to (w ∷ ws) (suc n) v e there site begins long entered filling records facts filled.2, filled.3, filled.4, filled.5)

-- So the segments are filled as before.
pub filled_written : (size to : ℕ) (vs : List SegmentView) (n k : ℕ) (v : SegmentView) → slice_get vs n ≡ Some v → {place : ℕ} → IsSegment size place v → AreFilled size to vs → AreFilled size to (set vs n (written_now k v))
filled_written size to vs n k v there facts =
    filled_set size to vs n v (written_now k v) there refl (written_begin v k) refl (entered_left to v.parts.site.place (run_count (written_at k v.parts.sealed)) v.parts.reserved) refl
    (records_fewer (run_count (written_at k v.parts.sealed)) v.parts.reserved (max 20 v.parts.written_len) (length v.parts.bytes) (whole_chain v.parts.written_len v.parts.reserved v.parts.sealed (length v.parts.bytes) facts.are facts.chain)) facts
