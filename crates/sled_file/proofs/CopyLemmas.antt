-- Behind a write for each slot, what stands in a log file is the log's own.
use Rattle.std.proofs.Common.{◌≡◌, ◌≤◌, ◌<◌, ◌+◌, ◌-◌, ◌*◌, ◌/◌, ◌%◌, ◌∙◌, ℕ, zero, suc, ℤ, pos, min, List, [], ◌∷◌, length, take, drop, refl, sym, ap, arith, subst, inl, inr, length-take, length-drop, nat_lt, if◌then◌else◌, true, Result, Ok, Err}
use Rattle.std.specs.Result.{OnOk}
use Rattle.std.specs.declared.io.Error.{Error}
use Rattle.std.specs.List.{All, Contains}
use Rattle.std.proofs.lemmas.Bool.{cases_lt}
use Rattle.std.proofs.lemmas.List.{take-take, length-take-le, take_all}
use Rattle.std.proofs.lemmas.List.Elements.{All-cons}
use Rattle.std.proofs.Math.Seq.{take-add, take-length}
use Rattle.std.proofs.Math.Nat.{div-add-mod, mul-le-mul_right, add-mul-mod_self_right, mul_comm, zero-mod}
use Rattle.sled_codec.specs.Places.{part, slot_bytes}
use Rattle.sled_codec.specs.Record.{IsHeader}
use Rattle.sled_codec.proofs.Segments.{length-short_header}
use Rattle.sled_store.specs.Answers.{Does}
use Rattle.sled_store.specs.Device.{Trace, Placement, State, LogState, Wrote, Synced, BlobMade, BlobSynced, SnapshotFilled, SnapshotPublished, NamesSynced, at_rest, overwritten, state_of, step, settled_again}
use Rattle.sled_store.specs.Foreign.{Covers, IsReached, at_first, behind, IsWhole, HeaderWasPlaced, RecordWasPlaced, NoForeignLog, first_record}
use Rattle.sled_store.specs.Readers.{ReadsTo, Reads, at_start, reads_past}
use Rattle.sled_store.proofs.Crashes.StoodLemmas.{seen, seen_again}
use Rattle.sled_store.proofs.LogFile.OverwrittenLemmas.{overwritten-end}
use Rattle.sled_store.proofs.Own.SlotLemmas.{part_in_slot}
use Rattle.sled_file.specs.Copies.{HasSlots, IsOwnCopy, LogStays}

-- A reader of a slot comes in its write to what it comes to in the file.
reached : (sum : List ℕ → ℕ) (size number : ℕ) (text : List ℕ) (at : ℕ) → ReadsTo sum size number text 20 at → IsReached sum size number text 20 at
reached sum size number text at at_start = at_first
reached sum size number text at (reads_past from len kind page body before room other inside is) = behind from len kind page body (reached sum size number text from before) inside is

-- the first record of a slot is behind its header
first_in_slot : (size slot : ℕ) → first_record size (slot * size) ≡ 20
first_in_slot size slot = let none : (slot * size) % size ≡ 0 = ap (λ n. n % size) (omega arith) ∙ add-mul-mod_self_right 0 slot size ∙ zero-mod size in ap (λ n. if nat_lt 0 n then 0 else 20) none

-- what stands in a log file stands at its only sync
one_stood : (at : ℕ) (text log : List ℕ) → part log at (length text) ≡ text → All (λ (l : List ℕ). part l at (length text) ≡ text) (log ∷ [])
one_stood at text log stands = All-cons (λ (l : List ℕ). part l at (length text) ≡ text) log [] stands (λ k d lt. absurd (omega (arith, lt)))

-- a slot, as it was written
abbrev placed_slot : ℕ → List ℕ → ℕ → Placement
placed_slot size bytes slot = record { at = slot * size; bytes = slot_bytes size bytes slot; since = [] }

added : (q p : Placement) (was : List Placement) → Contains was p → Contains (q ∷ was) p
added q p was (k, below, is) = (suc k, omega (arith, below), is)

newest : (p : Placement) (was : List Placement) → Contains (p ∷ was) p
newest p was = (zero, omega arith, refl)

-- so many bytes, and all that there are where they are fewer
taken : (size n : ℕ) (l : List ℕ) → length l ≡ n → take size l ≡ take (min size n) l
taken size n l long = elim (cases_lt n size) [
  | inl few ↦ (let least : min size n ≡ n = omega (arith, few) in take_all size l (omega (arith, few, long)) ∙ sym (take_all (min size n) l (omega (arith, least, long))))
  | inr many ↦ (let least : min size n ≡ size = omega (arith, many) in ap (λ k. take k l) (sym least))
]

abbrev written : ℕ → List ℕ → Placement
written at text = record { at = at; bytes = text; since = [] }

module _ (size : ℕ) (bytes : List ℕ) (big : 255 < size) where
  -- nothing was written yet
  pub none_copied : (s : State) → s.log.bytes ≡ [] → HasSlots size bytes 0 s
  none_copied s empty = record { log = empty; slots = λ slot below. absurd (omega (arith, below)) }

  -- One more slot is written.
  module _ (at : ℕ) (s : State) (has : HasSlots size bytes at s) (left : at < length bytes) (begins : at % size ≡ 0) where
    abbrev text : List ℕ
    text = take (min size (length bytes - at)) (drop at bytes)

    at_slot : at ≡ (at / size) * size
    at_slot = let parts = div-add-mod at size in let turned = mul_comm (at / size) size in omega (arith, parts, turned, begins)

    -- the slot that begins below its end, and not below it, is this one
    this_slot : (slot : ℕ) → at ≤ slot * size → slot * size < at + min size (length bytes - at) → slot ≡ at / size
    this_slot slot high low = elim (cases_lt slot (at / size)) [
      | inl below ↦ absurd (let up : slot + 1 ≤ at / size = omega (arith, below) in omega (arith, at_slot, high, big, mul-le-mul_right {m = slot + 1} {n = at / size} size up))
      | inr not_below ↦ elim (cases_lt (at / size) slot) [
        | inl above ↦ absurd (let up : at / size + 1 ≤ slot = omega (arith, above) in omega (arith, at_slot, low, mul-le-mul_right {m = at / size + 1} {n = slot} size up))
        | inr not_above ↦ omega (arith, not_below, not_above)
      ]
    ]

    written_slot : (slot : ℕ) → slot ≡ at / size → placed_slot size bytes slot ≡ written at text
    written_slot slot is =
        let there : slot * size ≡ at = ap (λ k. k * size) is ∙ sym at_slot in
        let long : length (drop at bytes) ≡ length bytes - at = length-drop at bytes in
        ap (λ a. written a (take size (drop a bytes))) there ∙ ap (written at) (taken size (length bytes - at) (drop at bytes) long)

    pub more_copied : HasSlots size bytes (at + min size (length bytes - at)) (step (Wrote at text text) s)
    more_copied = record {
      log =
          let long : length (take at bytes) ≡ at = length-take-le at bytes (omega (arith, left)) in
          ap (λ (l : List ℕ). overwritten l at text) has.log ∙ ap (λ n. overwritten (take at bytes) n text) (sym long) ∙ overwritten-end (take at bytes) text
          ∙ sym (take-add at (min size (length bytes - at)) bytes);
      slots = λ slot below. elim (cases_lt (slot * size) at) [
        | inl low ↦ added (written at text) (placed_slot size bytes slot) s.placed (has.slots slot low)
        | inr high ↦ subst (λ (p : Placement). Contains (written at text ∷ s.placed) p) (sym (written_slot slot (this_slot slot high below))) (newest (written at text) s.placed)
      ];
    }

    -- So it is by the call that writes it.
    pub copied_by_write : (count : ℕ) (old new : Trace) → state_of old ≡ s → count ≡ min size (length bytes - at)
        → new ≡ Wrote at (take (at + count - at) (drop at bytes)) (take (at + count - at) (drop at bytes)) ∷ old → HasSlots size bytes (at + count) (state_of new)
    copied_by_write count old new same count_is is =
        let into : at + count - at ≡ min size (length bytes - at) = omega (arith, count_is) in
        let event : new ≡ Wrote at text text ∷ old = is ∙ ap (λ n. Wrote at (take n (drop at bytes)) (take n (drop at bytes)) ∷ old) into in
        subst (λ (t : Trace). HasSlots size bytes (at + count) (state_of t)) (sym event)
        (subst (λ n. HasSlots size bytes (at + n) (step (Wrote at text text) (state_of old))) (sym count_is) (subst (λ (b : State). HasSlots size bytes (at + min size (length bytes - at)) (step (Wrote at text text) b)) (sym same) more_copied))

    -- and where another one begins, it does at such an offset
    pub next_begins : at + min size (length bytes - at) < length bytes → (at + min size (length bytes - at)) % size ≡ 0
    next_begins more =
        let full : min size (length bytes - at) ≡ size = omega (arith, more) in
        let next : at + min size (length bytes - at) ≡ 0 + (at / size + 1) * size = omega (arith, full, at_slot) in
        ap (λ n. n % size) next ∙ add-mul-mod_self_right 0 (at / size + 1) size ∙ zero-mod size

-- All is settled.
module _ (sum : List ℕ → ℕ) (size : ℕ) (bytes : List ℕ) (big : 255 < size) (was : List Placement)
    (slots : (slot : ℕ) → slot * size < length bytes → Contains was (placed_slot size bytes slot)) where
  module _ (slot : ℕ) (lsn mark : ℤ) (is : IsHeader sum (part bytes (slot * size) 20) lsn mark) where
    twenty : length (part bytes (slot * size) 20) ≡ 20
    twenty = ap length is.is ∙ length-short_header sum lsn mark

    low : slot * size < length bytes
    low = let long = length-take 20 (drop (slot * size) bytes) in let rest = length-drop (slot * size) bytes in omega (arith, twenty, long, rest)

    there : Contains (settled_again bytes was) (seen bytes (placed_slot size bytes slot))
    there = seen_again bytes was (placed_slot size bytes slot) (slots slot low)

    stands : part bytes (slot * size) (length (part bytes (slot * size) 20)) ≡ part bytes (slot * size) 20
    stands = ap (λ n. part bytes (slot * size) n) twenty

    header_own : HeaderWasPlaced (settled_again bytes was) (slot * size) (part bytes (slot * size) 20)
    unfolding HeaderWasPlaced
    header_own = (seen bytes (placed_slot size bytes slot), there, refl, take-take 20 size (drop (slot * size) bytes) (omega (arith, big)), one_stood (slot * size) (part bytes (slot * size) 20) bytes stands)

    header_whole : IsWhole (at_rest bytes) (slot * size) (part bytes (slot * size) 20)
    unfolding IsWhole
    header_whole = inl stands

    module _ (number at len : ℕ) (reads : Reads sum size number (part bytes (slot * size) size) 20 at len) where
      slot_long : length (part bytes (slot * size) size) ≡ min size (length bytes - slot * size)
      slot_long = length-take size (drop (slot * size) bytes) ∙ ap (min size) (length-drop (slot * size) bytes)

      long : length (part bytes (slot * size + at) len) ≡ len
      long = let all = length-take len (drop (slot * size + at) bytes) in let rest = length-drop (slot * size + at) bytes in let inside = reads.inside in omega (arith, all, rest, slot_long, inside)

      record_stands : part bytes (slot * size + at) (length (part bytes (slot * size + at) len)) ≡ part bytes (slot * size + at) len
      record_stands = ap (λ n. part bytes (slot * size + at) n) long

      into : slot * size + at - slot * size ≡ at
      into = omega arith

      covers : Covers (slot * size, slot_bytes size bytes slot) (slot * size + at) (part bytes (slot * size + at) len)
      covers = record {
        begins = omega arith;
        ends = let inside = reads.inside in omega (arith, long, inside);
        same = let fits : at + len ≤ size = (let inside = reads.inside in omega (arith, inside, slot_long)) in
            ap (λ n. part (slot_bytes size bytes slot) n (length (part bytes (slot * size + at) len))) into ∙ ap (λ n. part (slot_bytes size bytes slot) at n) long ∙ part_in_slot bytes size (slot * size) at len fits;
      }

      record_own : RecordWasPlaced sum size (settled_again bytes was) number (slot * size + at) (part bytes (slot * size + at) len)
      unfolding RecordWasPlaced
      record_own = (
        seen bytes (placed_slot size bytes slot),
        there,
        covers,
        subst (λ n. IsReached sum size number (slot_bytes size bytes slot) n (slot * size + at - slot * size)) (sym (first_in_slot size slot))
            (subst (λ n. IsReached sum size number (slot_bytes size bytes slot) 20 n) (sym into) (reached sum size number (slot_bytes size bytes slot) at reads.comes)),
        one_stood (slot * size + at) (part bytes (slot * size + at) len) bytes record_stands,
      )

      record_whole : IsWhole (at_rest bytes) (slot * size + at) (part bytes (slot * size + at) len)
      unfolding IsWhole
      record_whole = inl record_stands

  own_copy : NoForeignLog sum size (at_rest bytes) (settled_again bytes was) bytes
  own_copy = record {
    headers = λ slot lsn mark is. (header_own slot lsn mark is, header_whole slot lsn mark is);
    records = λ slot lsn mark at len is reads. (record_own slot (pos lsn) mark is (lsn / size) at len reads, record_whole slot (pos lsn) mark is (lsn / size) at len reads);
  }

-- So it is behind a sync,
pub all_copied : (size : ℕ) (bytes : List ℕ) (big : 255 < size) (old new : Trace) → HasSlots size bytes (length bytes) (state_of old) → new ≡ Synced ∷ old → IsOwnCopy size bytes (state_of new)
all_copied size bytes big old new has is =
    let s : State = state_of old in
    let log_is : s.log.bytes ≡ bytes = has.log ∙ take-length bytes in
    subst (λ (t : Trace). IsOwnCopy size bytes (state_of t)) (sym is)
    (ap at_rest log_is, λ sum. subst (λ (l : List ℕ). NoForeignLog sum size (at_rest l) (settled_again l s.placed) bytes) (sym log_is) (own_copy sum size bytes big s.placed has.slots))

-- and stays so where nothing is asked of the log file.
pub stays_own : (size : ℕ) (bytes : List ℕ) (s t : State) → LogStays s t → IsOwnCopy size bytes s → IsOwnCopy size bytes t
stays_own size bytes s t stays own = (stays.0 ∙ own.0, λ sum. subst (λ (l : LogState). NoForeignLog sum size l t.placed bytes) (sym stays.0) (subst (λ (was : List Placement). NoForeignLog sum size s.log was bytes) (sym stays.1) (own.1 sum)))

-- Names are synced, or that failed.
pub own_behind_names : (size : ℕ) (bytes : List ℕ) (r : Result (Unit {0}) Error) (old new : Trace) → Does NamesSynced r old new → IsOwnCopy size bytes (state_of old) → OnOk r (IsOwnCopy size bytes (state_of new))
own_behind_names size bytes (Ok done) old new does own = subst (λ (t : Trace). IsOwnCopy size bytes (state_of t)) (sym does) own
own_behind_names size bytes (Err e) old new does own = tt

-- A blob is made and settled, or a snapshot written and published: the log file stays.
pub stays_by_blob : (start t u v : Trace) (place : ℤ) (bytes : List ℕ) → LogStays (state_of start) (state_of t) → u ≡ BlobMade place bytes bytes true ∷ t → v ≡ BlobSynced place ∷ u → LogStays (state_of start) (state_of v)
stays_by_blob start t u v place bytes stays made synced =
    subst (λ (w : Trace). LogStays (state_of start) (state_of w)) (sym synced) (subst (λ (w : Trace). LogStays (state_of start) (state_of w)) (sym made) stays)

pub stays_by_snapshot : (start t u v : Trace) (number : ℤ) (bytes : List ℕ) → LogStays (state_of start) (state_of t) → u ≡ SnapshotFilled bytes bytes ∷ t → v ≡ SnapshotPublished number true ∷ u
    → LogStays (state_of start) (state_of v)
stays_by_snapshot start t u v number bytes stays written published =
    subst (λ (w : Trace). LogStays (state_of start) (state_of w)) (sym published) (subst (λ (w : Trace). LogStays (state_of start) (state_of w)) (sym written) stays)
