-- The manifest of a batch ends with its peg: its segment holds the history with that batch, and the other segments do, in which it doesn't begin.
use Rattle.sled_core.proofs.Reached.Marks.{less_than}
use Rattle.std.proofs.Common.{◌≡◌, ◌⊎◌, ◌≤◌, ◌<◌, ◌<ℤ◌, ◌+◌, ◌/◌, ◌^◌, ◌∙◌, ℕ, suc, pos, max, true, List, [], ◌∷◌, ◌++◌, length, take, drop, set, Option, Some, refl, sym, ap, subst, arith, inl, inr}
use Rattle.std.specs.List.{All, Contains, slice_get}
use Rattle.std.specs.declared.io.Error.{Error as IoError}
use Rattle.std.proofs.lemmas.List.{set_split}
use Rattle.std.proofs.lemmas.Option.{slice_get_within}
use Rattle.std.proofs.lemmas.List.Elements.{Contains-append_cases, Contains-append_left, Contains-append_right}
use Rattle.sled_codec.specs.Written.{written}
use Rattle.sled_codec.specs.History.{Batch, Message}
use Rattle.sled_store.specs.Device.{State}
use Rattle.sled_store.proofs.Segments.Elements.{in_cases, in_first, in_nothing, in_rest}
use Rattle.sled_core.specs.declared.iobuf.ReservationState.TheVariants.{Manifest, Open}
use Rattle.sled_core.specs.declared.iobuf.Reserved.{Reserved}
use Rattle.sled_core.specs.declared.iobuf.Sealed.{Sealed}
use Rattle.sled_core.specs.declared.iobuf.SegmentPosition.{SegmentPosition}
use Rattle.sled_core.specs.declared.iterator.Segment.{Segment}
use Rattle.sled_core.specs.inside.Buffers.{IsChain, Stands, StandsReserved, batches_in, completed_in, ended, marking, records_end}
use Rattle.sled_core.specs.inside.Fits.{HasBatches, HoldsSegment, log_parts}
use Rattle.sled_core.specs.Manifests.{is_manifest}
use Rattle.sled_core.specs.inside.Recoverable.{IsMarkOf, NoBatchEnds}
use Rattle.sled_core.specs.inside.SealedBuffers.{AreSealed, one_ended}
use Rattle.sled_core.proofs.Reserve.Batches.{batches_between}
use Rattle.sled_core.proofs.Reserve.Entries.{open_plain, reserved_in, some_long}
use Rattle.sled_core.proofs.Reserve.MarksLemmas.{batches_marked, batches_unmarked, completed_marked, manifest_long, marked_long, marking_long, stand_marked}
use Rattle.sled_core.proofs.Reserve.Ranges.{all_split, at_there, chain-joined, chain-split, chain_within, part-written_before, there_split}
use Rattle.sled_core.proofs.Reserve.RecordEnds.{records_ended}
use Rattle.sled_core.proofs.Sealed.LaidCalls.{laid_over}

-- the batches with one more
abbrev pub and_batch : List Batch → Batch → List Batch
and_batch bs b = bs ++ b ∷ []

-- each of them is one of those that were, or this one
pub was_or_this : (bs : List Batch) (b c : Batch) → Contains (and_batch bs b) c → Contains bs c ⊎ (b ≡ c)
was_or_this bs b c there = elim (Contains-append_cases bs (b ∷ []) c there) [
  | inl had ↦ inl had
  | inr one ↦ elim (in_cases b c [] one) [ inl same ↦ inr same | inr never ↦ absurd (in_nothing c never) ]
]

-- No batch ends there, where none of those that were does, and this one doesn't.
pub no_end_with : (ms : List Message) (bs : List Batch) (b : Batch) (low high : ℕ) → (b.peg < low) ⊎ (high ≤ b.peg) → NoBatchEnds (record { messages = ms; batches = bs }) low high → NoBatchEnds (record { messages = ms; batches = and_batch bs b }) low high
no_end_with ms bs b low high own none c there = elim (was_or_this bs b c there) [ inl had ↦ none c had | inr same ↦ subst (λ (x : Batch). (x.peg < low) ⊎ (high ≤ x.peg)) same own ]

-- A mark below the batch crosses none.
pub mark_with : (ms ns : List Message) (bs : List Batch) (b : Batch) (s : Segment) → s.mark <ℤ pos b.low → IsMarkOf (record { messages = ms; batches = bs }) s → IsMarkOf (record { messages = ns; batches = and_batch bs b }) s
mark_with ms ns bs b s below is = record {
  least = is.least;
  below = is.below;
  apart = λ c there. elim (was_or_this bs b c there) [ inl had ↦ is.apart c had | inr same ↦ inl (subst (λ (x : Batch). s.mark <ℤ pos x.low) same below) ];
}

-- A segment in whose part that isn't written the batch doesn't begin holds the history with it.
module _ (sum : List ℕ → ℕ) (size : ℕ) (site : SegmentPosition) (device : State) (fault : Option IoError) (bytes : List ℕ) (from : ℕ) (bs : List Sealed) (rs : List Reserved) (ms : List Message) (batches : List Batch) (b : Batch)
    (apart : (b.low < site.place + from) ⊎ (site.place + size ≤ b.low)) (pegged : (b.peg < site.place + records_end rs (length bytes)) ⊎ (site.place + size ≤ b.peg)) where
  batched_with : HasBatches size site from (batches_in site bytes rs) batches → HasBatches size site from (batches_in site bytes rs) (and_batch batches b)
  batched_with has = record {
    noted = λ c own. Contains-append_left batches (b ∷ []) c (has.noted c own);
    begun = λ c there. elim (was_or_this batches b c there) [
      | inl had ↦ has.begun c had
      | inr same ↦ subst (λ (x : Batch). Contains (batches_in site bytes rs) x ⊎ (x.low < site.place + from) ⊎ (site.place + size ≤ x.low)) same (inr apart)
    ];
  }

  pub segment-with : {stays : Message → Type 0} (holds : HoldsSegment sum (log_parts size site device fault bytes from bs rs) stays (record { messages = ms; batches = batches }))
      → ((none : from ≡ 0) → (holds.records.header none).mark <ℤ pos b.low) → HoldsSegment sum (log_parts size site device fault bytes from bs rs) stays (record { messages = ms; batches = and_batch batches b })
  segment-with holds below = record {
    records = record {
      earlier = holds.records.earlier;
      messages = holds.records.messages;
      below = holds.records.below;
      apart = holds.records.apart;
      batched = batched_with holds.records.batched;
      no_end = no_end_with ms batches b (site.place + records_end rs (length bytes)) (site.place + size) pegged holds.records.no_end;
      place_begins = holds.records.place_begins;
      slot_begins = holds.records.slot_begins;
      header = λ none. let m = holds.records.header none in record { mark = m.mark; is = m.is; of_history = mark_with ms ms batches b (record { place = site.place; slot = site.slot; mark = m.mark }) (below none) m.of_history };
      chain = holds.records.chain;
      stand = holds.records.stand;
    };
    written = holds.written;
    laid = holds.laid;
  }

-- The segment of its manifest.
module _ (sum : List ℕ → ℕ) (size : ℕ) (site : SegmentPosition) (device : State) (fault : Option IoError) (bytes : List ℕ) (from : ℕ) (bs : List Sealed) (rs : List Reserved) (ms : List Message) (batches : List Batch) {stays : Message → Type 0}
    (holds : HoldsSegment sum (log_parts size site device fault bytes from bs rs) stays (record { messages = ms; batches = batches })) (i : ℕ) (r : Reserved) (there : slice_get rs i ≡ Some r) (is_open : r.state ≡ Open) (manifest : is_manifest r.log_kind r.page ≡ true)
    (are : AreSealed from rs bs) (peg : ℕ) (small : peg < 2 ^ 63) (pegged : (peg < site.place + records_end rs (length bytes)) ⊎ (site.place + size ≤ peg)) where
  abbrev number : ℕ
  number = site.place / size

  -- the batch
  abbrev pub b : Batch
  b = record { low = site.place + r.from; peg = peg }

  abbrev new : List ℕ
  new = written bytes r.from (marking sum bytes r peg)

  abbrev xs : List Reserved
  xs = take i rs

  abbrev ys : List Reserved
  ys = drop (suc i) rs

  around : rs ≡ xs ++ r ∷ ys
  around = there_split rs i r there

  abbrev now : List Reserved
  now = xs ++ ended Manifest r ∷ ys

  set_is : set rs i (ended Manifest r) ≡ now
  set_is = set_split rs i (ended Manifest r) (slice_get_within rs i r there)

  chain : IsChain (max 20 from) (xs ++ r ∷ ys) (length bytes)
  chain = subst (λ (l : List Reserved). IsChain (max 20 from) l (length bytes)) around holds.records.chain

  stand : All (Stands sum size number bytes) (xs ++ r ∷ ys)
  stand = subst (All (Stands sum size number bytes)) around holds.records.stand

  its : StandsReserved sum size number bytes r
  its = reserved_in sum size number bytes r (open_plain r.state is_open) (at_there (Stands sum size number bytes) rs i r there holds.records.stand)

  lies : (max 20 from ≤ r.from) × (r.from + r.len ≤ length bytes)
  lies = at_there (λ z. (max 20 from ≤ z.from) × (z.from + z.len ≤ length bytes)) rs i r there (chain_within (max 20 from) (length bytes) rs holds.records.chain)

  short : length (marking sum bytes r peg) ≤ r.len
  short =
      let long = manifest_long sum number bytes r lies.1 its.text is_open manifest in
      let is = marking_long sum bytes r peg its.text.headed long lies.1 in
      omega (arith, is)

  -- It begins behind what is written,
  pub marks_behind : site.place + from ≤ b.low
  marks_behind = let low = lies.0 in omega (arith, low)

  -- and in front of the end of the bytes.
  pub marks_within : b.low < site.place + length bytes
  marks_within = let high = lies.1 in let h = its.text.headed in let l = its.text.long in omega (arith, high, h, l)

  -- The bytes are as many.
  pub marks_long : length new ≡ length bytes
  marks_long = marked_long sum number bytes r lies.1 its.text is_open manifest peg

  -- Their header is the same.
  pub marks_head : take 20 new ≡ take 20 bytes
  marks_head = let at = lies.0 in let within = short in let high = lies.1 in part-written_before bytes (marking sum bytes r peg) r.from 0 20 (omega (arith, at)) (omega (arith, within, high))

  messages_new : ms ≡ holds.records.earlier ++ completed_in site new now
  messages_new =
      holds.records.messages
      ∙ ap (λ (l : List Message). holds.records.earlier ++ l) (ap (completed_in site bytes) around ∙ sym (completed_marked sum number bytes r lies.1 its.text is_open manifest peg size (max 20 from) (length bytes) xs ys chain stand site))

  all_old : batches_in site bytes rs ≡ batches_in site bytes xs ++ batches_in site bytes ys
  all_old = ap (batches_in site bytes) around ∙ batches_unmarked sum number bytes r lies.1 its.text is_open manifest peg size (max 20 from) (length bytes) xs ys chain stand site

  -- No batch begins where it does.
  pub marks_alone : length bytes ≤ size → (c : Batch) → Contains batches c → c.low ≡ b.low → ⊥
  marks_alone inside c among same = elim (holds.records.batched.begun c among) [
    | inl own ↦ elim (Contains-append_cases (batches_in site bytes xs) (batches_in site bytes ys) c (subst (λ (l : List Batch). Contains l c) all_old own)) [
      | inl before ↦ (let z = batches_between site bytes (max 20 from) r.from xs chains.0 (some_long sum size number bytes xs stands.0) c before in omega (arith, z.1, same))
      | inr after ↦ (
          let z = batches_between site bytes (r.from + r.len) (length bytes) ys chains.1 (some_long sum size number bytes ys stands.2) c after in
          let h = its.text.headed in
          let l = its.text.long in
          omega (arith, z.0, same, h, l))
    ]
    | inr (inl low) ↦ (let at = marks_behind in omega (arith, low, at, same))
    | inr (inr high) ↦ (let at = marks_within in omega (arith, high, at, same, inside))
  ] where
    chains : IsChain (max 20 from) xs r.from × IsChain (r.from + r.len) ys (length bytes)
    chains = chain-split (max 20 from) (length bytes) xs ys r chain

    stands : All (Stands sum size number bytes) xs × Stands sum size number bytes r × All (Stands sum size number bytes) ys
    stands = all_split (Stands sum size number bytes) xs ys r stand

  batched_new : HasBatches size site from (batches_in site new now) (and_batch batches b)
  batched_new = record {
    noted = λ c own. elim (Contains-append_cases (batches_in site bytes xs) (b ∷ batches_in site bytes ys) c (subst (λ (l : List Batch). Contains l c) all_new own)) [
      | inl before ↦ had c (Contains-append_left (batches_in site bytes xs) (batches_in site bytes ys) c before)
      | inr from_here ↦ elim (in_cases b c (batches_in site bytes ys) from_here) [
        | inl same ↦ Contains-append_right batches (b ∷ []) c (subst (Contains (b ∷ [])) same (in_first b []))
        | inr after ↦ had c (Contains-append_right (batches_in site bytes xs) (batches_in site bytes ys) c after)
      ]
    ];
    begun = λ c among. elim (was_or_this batches b c among) [
      | inl was ↦ elim (holds.records.batched.begun c was) [
        | inl own ↦ inl (still c (subst (λ (l : List Batch). Contains l c) all_old own))
        | inr other ↦ inr other
      ]
      | inr same ↦ inl (subst (λ (l : List Batch). Contains l c) (sym all_new) (Contains-append_right (batches_in site bytes xs) (b ∷ batches_in site bytes ys) c (subst (Contains (b ∷ batches_in site bytes ys)) same (in_first b (batches_in site bytes ys)))))
    ];
  }
    where
      all_new : batches_in site new now ≡ batches_in site bytes xs ++ b ∷ batches_in site bytes ys
      all_new = batches_marked sum number bytes r lies.1 its.text is_open manifest peg size (max 20 from) (length bytes) xs ys chain stand site (omega (arith, small))

      had : (c : Batch) → Contains (batches_in site bytes xs ++ batches_in site bytes ys) c → Contains (and_batch batches b) c
      had c own = Contains-append_left batches (b ∷ []) c (holds.records.batched.noted c (subst (λ (l : List Batch). Contains l c) (sym all_old) own))

      still : (c : Batch) → Contains (batches_in site bytes xs ++ batches_in site bytes ys) c → Contains (batches_in site new now) c
      still c own = subst (λ (l : List Batch). Contains l c) (sym all_new) (elim (Contains-append_cases (batches_in site bytes xs) (batches_in site bytes ys) c own) [
        | inl before ↦ Contains-append_left (batches_in site bytes xs) (b ∷ batches_in site bytes ys) c before
        | inr after ↦ Contains-append_right (batches_in site bytes xs) (b ∷ batches_in site bytes ys) c (in_rest b c (batches_in site bytes ys) after)
      ])

  ends_same : records_end now (length new) ≡ records_end rs (length bytes)
  ends_same = ap (records_end now) marks_long ∙ records_ended xs ys r Manifest (length bytes) is_open (λ is. cc) ∙ ap (λ (l : List Reserved). records_end l (length bytes)) (sym around)

  -- It holds the history with the batch.
  pub segment-marked : HoldsSegment sum (log_parts size site device fault new from (one_ended i bs) (set rs i (ended Manifest r))) stays (record { messages = ms; batches = and_batch batches b })
  segment-marked = subst (λ (l : List Reserved). HoldsSegment sum (log_parts size site device fault new from (one_ended i bs) l) stays (record { messages = ms; batches = and_batch batches b })) (sym set_is) (record {
    records = record {
      earlier = holds.records.earlier;
      messages = messages_new;
      below = holds.records.below;
      apart = holds.records.apart;
      batched = batched_new;
      no_end = subst (λ n. NoBatchEnds (record { messages = ms; batches = and_batch batches b }) (site.place + n) (site.place + size)) (sym ends_same)
          (no_end_with ms batches b (site.place + records_end rs (length bytes)) (site.place + size) pegged holds.records.no_end);
      place_begins = holds.records.place_begins;
      slot_begins = holds.records.slot_begins;
      header = λ none.
          let m = holds.records.header none in
          let low = m.of_history.below in
          record {
            mark = m.mark;
            is = marks_head ∙ m.is;
            of_history = mark_with ms ms batches b (record { place = site.place; slot = site.slot; mark = m.mark }) (less_than m.mark site.place b.low (omega arith) low) m.of_history;
          };
      chain = subst (λ n. IsChain (max 20 from) now n) (sym marks_long) (let parts = chain-split (max 20 from) (length bytes) xs ys r chain in chain-joined (max 20 from) (length bytes) xs ys (ended Manifest r) parts.0 parts.1);
      stand = stand_marked sum number bytes r lies.1 its.text is_open manifest peg size (max 20 from) (length bytes) xs ys chain stand small;
    };
    written = holds.written;
    laid = λ ok. laid_over device.log.bytes site.slot bytes from bs size rs i r (marking sum bytes r peg) Manifest refl there is_open short lies.1 holds.records.chain are (holds.laid ok);
  })
