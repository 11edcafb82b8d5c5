-- A buffer in which all reservations have ended is a path of records of the history, some of them passed over, and nothing comes behind it; where it begins a segment, the header is there, with a mark that no batch crosses.
use Rattle.sled_core.proofs.Reserve.Batches.{batch_cases, batch_rest, batches_between}
use Rattle.std.proofs.Common.{◌≡◌, ◌≢◌, ◌⊎◌, ◌≤◌, ◌<◌, ◌≤ℤ◌, ◌<ℤ◌, ◌+◌, ◌/◌, ◌%◌, ◌^◌, ◌∙◌, ◌-ℤ◌, ℕ, ℤ, zero, suc, pos, negsuc, max, Bool, true, false, nat_lt, if◌then◌else◌, List, [], ◌∷◌, take, get_or, sym, ap, arith, lt→ltb, le→leb, refl, subst, inl, inr, Option, length, is_some}
use Rattle.std.proofs.Math.IntN.{ -ℤ_one}
use Rattle.std.specs.List.{All, Contains}
use Rattle.std.proofs.Math.Nat.{div-le_self}
use Rattle.std.proofs.lemmas.Bool.{cases_lt}
use Rattle.std.proofs.lemmas.Bool.Decides.{nat_tests}
use Rattle.std.proofs.lemmas.Int.{ints}
use Rattle.std.proofs.lemmas.List.Elements.{All-cons, All-contains, All-tail}
use Rattle.sled_codec.specs.Record.{IsHeader}
use Rattle.sled_codec.specs.History.{Message, Batch, History}
use Rattle.sled_store.proofs.Segments.Elements.{in_first}
use Rattle.sled_core.specs.declared.iobuf.ReservationState.{ReservationState}
use Rattle.sled_core.specs.declared.iobuf.ReservationState.TheVariants.{Open, Completed, Canceled, Manifest, Padding}
use Rattle.sled_core.specs.declared.iobuf.Reserved.{Reserved}
use Rattle.sled_core.specs.declared.iobuf.SegmentPosition.{SegmentPosition}
use Rattle.sled_core.specs.declared.iterator.Segment.{Segment}
use Rattle.sled_core.specs.declared.iterator.scan.ScannedRecord.{ScannedRecord}
use Rattle.sled_core.specs.declared.iterator.scan.ScanEnd.{ScanEnd}
use Rattle.sled_core.specs.declared.iterator.scan.ScanEnd.TheVariants.{Full, Capped, Broken}
use Rattle.sled_core.specs.inside.Buffers.{IsChain, batch_in, batches_in, completed_in, with_batch, with_own, NoPadding, Stands}
use Rattle.sled_core.specs.Buffers.{message_in, none_open, item_as, body_in}
use Rattle.sled_core.specs.inside.Reached.{BeginsNext}
use Rattle.sled_core.specs.inside.Fits.{HasMark}
use Rattle.sled_core.specs.inside.Recoverable.{NoBatchBegins, IsOfHistory, IsMarkOf, IsMarkBelow}
use Rattle.sled_core.specs.Scan.{IsPath, IsEnd, EndsThere}
use Rattle.sled_core.proofs.Reached.OpenTickets.{by_first}
use Rattle.sled_core.proofs.Read.PathLemmas.{zeros_empty}
use Rattle.sled_core.proofs.Reserve.Entries.{completed_plain, reserved_in, some_in, some_long, manifest_plain}
use Rattle.sled_core.proofs.Reserve.Ranges.{chain_grows, completed_between, own_cases, own_rest}
use Rattle.sled_core.specs.inside.SealedBuffers.{Agrees}
use Rattle.sled_core.proofs.Reached.BufferStands.{met_as, met_in, one_inline, one_meets, path_in}
use Rattle.sled_core.proofs.Reserve.MarksLemmas.{blobless, kind_of_manifest}
use Rattle.sled_core.specs.declared.iterator.scan.RecordContent.TheVariants.{BatchStart}
use Rattle.sled_codec.specs.Spelling.{low_first}

-- Of a history, these messages and batches begin from one place up to another, and no others.
pub record HasOnly (H : History) (ms : List Message) (bs : List Batch) (from to : ℕ) : Type 0 where
  pub there : (m : Message) → Contains ms m → Contains H.messages m
  pub only : (m : Message) → Contains H.messages m → Contains ms m ⊎ (m.place < from) ⊎ (to ≤ m.place)
  pub noted : (b : Batch) → Contains bs b → Contains H.batches b
  pub begun : (b : Batch) → Contains H.batches b → Contains bs b ⊎ (b.low < from) ⊎ (to ≤ b.low)

-- why the reading ends behind the last record of a buffer: for want of room, or of a record
abbrev pub ending_at : ℕ → ℕ → ScanEnd
ending_at size stop = if nat_lt size (stop + 32) then Full else Broken

pub never_capped : (size stop : ℕ) → ending_at size stop ≢ Capped
never_capped size stop = by_test (nat_lt size (stop + 32)) where
  by_test : (b : Bool) → (if b then Full else Broken) ≢ Capped
  by_test false is = cc
  by_test true is = cc

-- Of a buffer whose bytes a file has up to an end, up to which all has ended.
module _ (sum : List ℕ → ℕ) (size : ℕ) (site : SegmentPosition) (log bytes : List ℕ) (from to : ℕ) (agrees : Agrees log site.slot bytes from to) (short : to ≤ size)
    (place_begins : site.place % size ≡ 0) (slot_begins : site.slot % size ≡ 0) (place_small : site.place + size < 2 ^ 63) (slot_small : site.slot + size < 2 ^ 63) where
  number_small : site.place / size < 2 ^ 63
  number_small = omega (arith, div-le_self site.place size, place_small)

  -- The records are met one behind another.
  pub path_to : (rs : List Reserved) → IsChain (max 20 from) rs to → All (Stands sum size (site.place / size) bytes) rs → All NoPadding rs → none_open rs ≡ true
      → IsPath sum size log site.slot site.place (max 20 from) (met_in site bytes rs) to
  path_to rs chain stand plain closed = path_in sum size site log bytes from to agrees short place_begins slot_begins slot_small number_small (max 20 from) rs (omega arith) chain stand plain closed

  -- And there the reading ends, where a zero is in place of the next kind.
  pub end_at : (to + 32 ≤ size → get_or log (site.slot + to + 4) 0 ≡ 0) → IsEnd sum size log site.slot site.place to (ending_at size to)
  unfolding EndsThere
  end_at no_kind = by_test (nat_lt size (to + 32)) refl where
    by_test : (b : Bool) → nat_lt size (to + 32) ≡ b → IsEnd sum size log site.slot site.place to (if b then Full else Broken)
    by_test true is = grind (arith, nat_tests, is)
    by_test false is = let more : to + 32 ≤ size = grind (arith, nat_tests, is) in (more, zeros_empty sum size log (site.slot + to) (site.place / size) (no_kind more))

  -- Each record is of the history, where this has no others within the buffer.
  module _ (H : History) where
    module _ (at : ℕ) (r : Reserved) (rs : List Reserved) (behind : max 20 from ≤ at) (chain : IsChain at (r ∷ rs) to) (stand : All (Stands sum size (site.place / size) bytes) (r ∷ rs))
        (has : HasOnly H (completed_in site bytes (r ∷ rs)) (batches_in site bytes (r ∷ rs)) (site.place + at) (site.place + to)) where
      abbrev own : Message
      own = message_in site bytes r

      here : r.from ≡ at
      here = chain.0

      grows : at + r.len ≤ to
      grows = chain_grows (at + r.len) to rs chain.1

      some : 0 < r.len
      some = some_in sum size (site.place / size) bytes r (stand 0 r (omega arith))

      -- a later one begins behind it
      later_behind : (n : Message) → Contains (completed_in site bytes rs) n → own.place + own.size ≤ n.place
      later_behind n later =
          let long = some_long sum size (site.place / size) bytes rs (All-tail (Stands sum size (site.place / size) bytes) r rs stand) in
          let between = All-contains (λ x. (site.place + (at + r.len) ≤ x.place) × (x.place < site.place + to) × (x.place + x.size ≤ site.place + to)) (completed_in site bytes rs) n (completed_between site bytes (at + r.len) to rs chain.1 long) later in
          omega (arith, between.0, here)

      later_batch : (b : Batch) → Contains (batches_in site bytes rs) b → own.place + own.size ≤ b.low
      later_batch b later =
          let long = some_long sum size (site.place / size) bytes rs (All-tail (Stands sum size (site.place / size) bytes) r rs stand) in
          let lies = batches_between site bytes (at + r.len) to rs chain.1 long b later in
          omega (arith, lies.0, here)

      -- a message of the history is its own, if it was completed, or lies before it or behind it
      which : (n : Message) → Contains H.messages n → ((r.state ≡ Completed) × (own ≡ n)) ⊎ (n.place < own.place) ⊎ (own.place + own.size ≤ n.place)
      which n there = elim (has.only n there) [
        | inl among ↦ elim (own_cases r.state own (completed_in site bytes rs) n among) [ inl is ↦ inl is | inr later ↦ inr (inr (later_behind n later)) ]
        | inr (inl before) ↦ inr (inl (omega (arith, before, here)))
        | inr (inr after) ↦ inr (inr (omega (arith, after, here, grows)))
      ]

      -- so it is with a batch
      which_batch : (b : Batch) → Contains H.batches b → ((r.state ≡ Manifest) × (batch_in site bytes r ≡ b)) ⊎ (b.low < own.place) ⊎ (own.place + own.size ≤ b.low)
      which_batch b there = elim (has.begun b there) [
        | inl among ↦ elim (batch_cases r.state (batch_in site bytes r) (batches_in site bytes rs) b among) [ inl is ↦ inl is | inr later ↦ inr (inr (later_batch b later)) ]
        | inr (inl before) ↦ inr (inl (omega (arith, before, here)))
        | inr (inr after) ↦ inr (inr (omega (arith, after, here, grows)))
      ]

      no_batch_here : (r.state ≡ Manifest → ⊥) → NoBatchBegins H own.place (own.place + own.size)
      no_batch_here not_one b there = elim (which_batch b there) [ inl is ↦ absurd (not_one is.0) | inr (inl before) ↦ inl before | inr (inr after) ↦ inr after ]

      pub rest_only : HasOnly H (completed_in site bytes rs) (batches_in site bytes rs) (site.place + (at + r.len)) (site.place + to)
      rest_only = record {
        there = λ n later. has.there n (own_rest r.state own (completed_in site bytes rs) n later);
        only = λ n there. elim (has.only n there) [
          | inl among ↦ elim (own_cases r.state own (completed_in site bytes rs) n among) [
            | inl is ↦ inr (inl (omega (arith, ap (λ (x : Message). x.place) is.1, here, some)))
            | inr later ↦ inl later
          ]
          | inr (inl before) ↦ inr (inl (omega (arith, before)))
          | inr (inr after) ↦ inr (inr after)
        ];
        noted = λ b later. has.noted b (batch_rest r.state (batch_in site bytes r) (batches_in site bytes rs) b later);
        begun = λ b there. elim (has.begun b there) [
          | inl among ↦ elim (batch_cases r.state (batch_in site bytes r) (batches_in site bytes rs) b among) [
            | inl is ↦ inr (inl (omega (arith, ap (λ (x : Batch). x.low) is.1, here, some)))
            | inr later ↦ inl later
          ]
          | inr (inl before) ↦ inr (inl (omega (arith, before)))
          | inr (inr after) ↦ inr (inr after)
        ];
      }

      pub one_truth : (s : ReservationState) → r.state ≡ s → (s ≡ Open → ⊥) → s ≢ Padding → IsOfHistory sum size log H (met_as s r.kind own)
      one_truth Open is not_open plain = absurd (not_open refl)
      one_truth Completed is not_open plain =
          let stands = reserved_in sum size (site.place / size) bytes r (completed_plain r.state is) (stand 0 r (omega arith)) in
          let there : Contains (completed_in site bytes (r ∷ rs)) own = subst (λ (s : ReservationState). Contains (with_own s own (completed_in site bytes rs)) own) (sym is) (in_first own (completed_in site bytes rs)) in
          inl (
            own,
            has.there own there,
            one_meets sum size site log bytes from to agrees short place_begins slot_begins slot_small number_small r stands.text (omega (arith, here, behind)) (omega (arith, here, grows)) is,
            one_inline sum size site log bytes from to agrees short place_begins slot_begins slot_small number_small r stands.text (omega (arith, here, behind)) (omega (arith, here, grows)) is stands.room,
            (λ n at_n. elim (which n at_n) [ inl same ↦ inl (omega (arith, ap (λ (x : Message). x.place) same.1)) | inr (inl before) ↦ inl (omega (arith, before)) | inr (inr after) ↦ inr after ]),
            no_batch_here (λ also. let both : Completed ≡ Manifest = sym is ∙ also in cc),
          )
      one_truth Padding is not_open plain = absurd (plain refl)
      one_truth Canceled is not_open plain = inr (inr (
        refl,
        (λ n at_n. elim (which n at_n) [ inl same ↦ absurd (let both : Canceled ≡ Completed = sym is ∙ same.0 in cc) | inr (inl before) ↦ inl before | inr (inr after) ↦ inr after ]),
        no_batch_here (λ also. let both : Canceled ≡ Manifest = sym is ∙ also in cc),
      ))
      one_truth Manifest is not_open plain =
          let there : Contains (batches_in site bytes (r ∷ rs)) (batch_in site bytes r) = subst (λ (s : ReservationState). Contains (with_batch s (batch_in site bytes r) (batches_in site bytes rs)) (batch_in site bytes r)) (sym is) (in_first (batch_in site bytes r) (batches_in site bytes rs)) in
          let stands = reserved_in sum size (site.place / size) bytes r (manifest_plain r.state is) (stand 0 r (omega arith)) in
          let its = kind_of_manifest r.log_kind r.page (is_some r.blob) (length (body_in bytes r)) r.kind stands.text.known (stands.text.manifest is) in
          let whole : item_as r.blob (body_in bytes r) ≡ body_in bytes r = ap (λ (o : Option ℤ). item_as o (body_in bytes r)) (blobless r.blob its.2) in
          inr (inl (
            batch_in site bytes r,
            has.noted (batch_in site bytes r) there,
            refl,
            ap (λ (l : List ℕ). BatchStart (pos (low_first l))) whole,
            (λ n at_n. elim (which n at_n) [ inl same ↦ absurd (let both : Manifest ≡ Completed = sym is ∙ same.0 in cc) | inr (inl before) ↦ inl before | inr (inr after) ↦ inr after ]),
            (λ b at_b. elim (which_batch b at_b) [ inl same ↦ inl (omega (arith, ap (λ (x : Batch). x.low) same.1)) | inr (inl before) ↦ inl (omega (arith, before)) | inr (inr after) ↦ inr after ]),
          ))

    truth_from : (at : ℕ) (rs : List Reserved) → max 20 from ≤ at → IsChain at rs to → All (Stands sum size (site.place / size) bytes) rs → All NoPadding rs → none_open rs ≡ true
        → HasOnly H (completed_in site bytes rs) (batches_in site bytes rs) (site.place + at) (site.place + to) → All (IsOfHistory sum size log H) (met_in site bytes rs)
    truth_from at [] behind chain stand plain closed has = λ k d lt. absurd (omega arith)
    truth_from at (r ∷ rs) behind chain stand plain closed has =
        let ended = by_first r.state rs closed in
        All-cons (IsOfHistory sum size log H) (met_as r.state r.kind (message_in site bytes r)) (met_in site bytes rs)
        (one_truth at r rs behind chain stand has r.state refl ended.0 (plain 0 r (omega arith)))
        (truth_from (at + r.len) rs (omega (arith, behind)) chain.1 (All-tail (Stands sum size (site.place / size) bytes) r rs stand) (All-tail NoPadding r rs plain) ended.1
        (rest_only at r rs behind chain stand has))

    pub truth_to : (rs : List Reserved) → IsChain (max 20 from) rs to → All (Stands sum size (site.place / size) bytes) rs → All NoPadding rs → none_open rs ≡ true
        → HasOnly H (completed_in site bytes rs) (batches_in site bytes rs) (site.place + max 20 from) (site.place + to) → (x : ScannedRecord) → Contains (met_in site bytes rs) x → IsOfHistory sum size log H x
    truth_to rs chain stand plain closed has x there = All-contains (IsOfHistory sum size log H) (met_in site bytes rs) x (truth_from (max 20 from) rs (omega arith) chain stand plain closed has) there

-- The place before a segment is its mark, or minus one where there is none.

mark_is : (m : ℕ) → pos m ≡ pos (suc m) -ℤ pos 1
mark_is m = sym (-ℤ_one (pos (suc m)))

mark_least : (place : ℕ) → (pos 0 -ℤ pos 1) ≤ℤ (pos place -ℤ pos 1)
mark_least zero = omega arith
mark_least (suc m) = subst (λ (z : ℤ). (pos 0 -ℤ pos 1) ≤ℤ z) (mark_is m) (omega arith)

pub mark_lower : (place n : ℕ) → place ≤ n → (pos place -ℤ pos 1) <ℤ pos n
mark_lower zero n le = omega arith
mark_lower (suc m) n le = subst (λ (z : ℤ). z <ℤ pos n) (mark_is m) (omega (arith, lt→ltb, le))

mark_higher : (place n : ℕ) → n < place → pos n ≤ℤ (pos place -ℤ pos 1)
mark_higher zero n lt = absurd (omega (arith, lt))
mark_higher (suc m) n lt = subst (λ (z : ℤ). pos n ≤ℤ z) (mark_is m) (omega (arith, le→leb, lt))

-- The header of a buffer that begins a segment is there.
pub buffer_header : (sum : List ℕ → ℕ) (site : SegmentPosition) (bytes : List ℕ) (H : History) (m : HasMark sum site bytes H) → site.place < 2 ^ 63 → IsHeader sum (take 20 bytes) (pos site.place) m.mark
buffer_header sum site bytes H m small = let least = m.of_history.least in let below = m.of_history.below in record { is = m.is; place_fits = omega (arith, small); mark_fits = omega (arith, ints, least, below, small) }

-- A mark crosses no batch of another history that has the same batches.
pub mark_same : (H H' : History) (s : Segment) → H'.batches ≡ H.batches → IsMarkOf H s → IsMarkOf H' s
mark_same H H' s same is = record { least = is.least; below = is.below; apart = λ b there. is.apart b (subst (λ (bs : List Batch). Contains bs b) same there) }

-- The place before a segment is a mark that crosses no batch, where none is open at the segment.
pub buffer_mark : (H : History) (slot place : ℕ) → ((b : Batch) → Contains H.batches b → b.low < place → b.peg < place) → IsMarkOf H (record { place = place; slot = slot; mark = pos place -ℤ pos 1 })
buffer_mark H slot place ended = record {
  least = mark_least place;
  below = mark_lower place place (omega arith);
  apart = λ b there. elim (cases_lt b.low place) [ inl lower ↦ inr (mark_higher place b.peg (ended b there lower)) | inr higher ↦ inl (mark_lower place b.low (omega (arith, higher))) ];
}

-- And a mark that lies below the segment lies below what was reached, or in front of the segment.
pub buffer_mark_below : (size : ℕ) (H : History) (reach place : ℕ) (mark : ℤ) → (reach ≡ place) ⊎ BeginsNext size H reach place → mark <ℤ pos place → IsMarkBelow size H reach mark
buffer_mark_below size H reach place mark (inl at) below = inl (omega (arith, ints, at, below))
buffer_mark_below size H reach place (negsuc n) (inr g) below = inl (omega arith)
buffer_mark_below size H reach place (pos n) (inr g) below =
    let next = g.next in
    let lower : n < place = omega (arith, ints, below) in
    elim (cases_lt n reach) [
      | inl under ↦ inl (omega (arith, ints, under))
      | inr above ↦ inr (
        n,
        refl,
        omega (arith, next, lower),
        λ m there. elim (g.no_message m there) [ inl low ↦ inl low | inr high ↦ inr (omega (arith, high, lower)) ],
        λ b there. elim (g.no_batch b there) [ inl low ↦ inl low | inr high ↦ inr (omega (arith, high, lower)) ],
        λ b there. elim (g.no_end b there) [ inl low ↦ inl low | inr high ↦ inr (omega (arith, high, lower)) ],
      )
    ]
