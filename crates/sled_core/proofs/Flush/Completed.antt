-- Where the messages lie of a segment that holds a history: what was written one behind another, below what was completed since, which is in the buffer.
use Rattle.sled_core.proofs.Reserve.Batches.{batches-append, batches_between}
use Rattle.std.proofs.Common.{◌≡◌, ◌⊎◌, ◌≤◌, ◌<◌, ◌+◌, ◌/◌, ℕ, max, List, [], ◌∷◌, ◌++◌, length, Option, sym, subst, arith, inl, inr, ◌∙◌, take, drop, ap}
use Rattle.std.specs.List.{All, Contains}
use Rattle.std.specs.declared.io.Error.{Error as IoError}
use Rattle.std.proofs.lemmas.List.{take-append-drop}
use Rattle.std.proofs.lemmas.List.Elements.{All-append, All-contains, All-tail, Contains-append_cases, Contains-append_right, Contains-append_left}
use Rattle.sled_codec.specs.History.{Message, Batch, History}
use Rattle.sled_codec.specs.WellFormed.{LieApart}
use Rattle.sled_store.specs.Device.{State}
use Rattle.sled_core.specs.declared.iobuf.ReservationState.TheVariants.{Open, Completed, Canceled, Manifest, Padding}
use Rattle.sled_core.specs.declared.iobuf.Reserved.{Reserved}
use Rattle.sled_core.specs.declared.iobuf.Sealed.{Sealed}
use Rattle.sled_core.specs.declared.iobuf.SegmentPosition.{SegmentPosition}
use Rattle.sled_core.specs.inside.Buffers.{IsChain, batches_in, completed_in, with_own}
use Rattle.sled_core.specs.Buffers.{message_in}
use Rattle.sled_core.specs.inside.Fits.{log_parts, HoldsSegment}
use Rattle.sled_core.specs.Fits.{EndBelow}
use Rattle.sled_core.proofs.Reached.BufferPath.{HasOnly}
use Rattle.sled_core.proofs.Reserve.Ranges.{chain_grows, completed_between, completed-append}
use Rattle.sled_core.proofs.Reserve.Entries.{some_long}

-- messages that lie apart, and below others that do
pub apart_both : (place : ℕ) (xs ys : List Message) → LieApart xs → LieApart ys → All (λ m. m.place + m.size ≤ place) xs → All (λ m. place ≤ m.place) ys → LieApart (xs ++ ys)
apart_both place [] ys first second below above = second
apart_both place (x ∷ xs) ys first second below above =
    let here : x.place + x.size ≤ place = below 0 x (omega arith) in
    let over : All (λ n. x.place + x.size ≤ n.place) ys = λ k d lt. let b = above k d lt in omega (arith, b, here) in
    (first.0, All-append (λ n. x.place + x.size ≤ n.place) xs ys first.1 over, apart_both place xs ys first.2 second (All-tail (λ m. m.place + m.size ≤ place) x xs below) above)

-- what is completed in a chain of reservations lies apart
completed_apart : (site : SegmentPosition) (bytes : List ℕ) (from end : ℕ) (rs : List Reserved) → IsChain from rs end → All (λ r. 0 < r.len) rs → LieApart (completed_in site bytes rs)
completed_apart site bytes from end [] is some = tt
completed_apart site bytes from end (r ∷ rs) is some =
    let here : r.from ≡ from = is.0 in
    let long : 0 < r.len = some 0 r (omega arith) in
    let later = completed_between site bytes (from + r.len) end rs is.1 (All-tail (λ x. 0 < x.len) r rs some) in
    let rest : LieApart (completed_in site bytes rs) = completed_apart site bytes (from + r.len) end rs is.1 (All-tail (λ x. 0 < x.len) r rs some) in
    let over : All (λ n. site.place + r.from + r.len ≤ n.place) (completed_in site bytes rs) = λ k d lt. let b = later k d lt in omega (arith, b.0, here) in
    elim r.state as (λ s. LieApart (with_own s (message_in site bytes r) (completed_in site bytes rs)))
    [ Open ↦ rest | Completed ↦ (long, over, rest) | Canceled ↦ rest | Manifest ↦ rest | Padding ↦ rest ]

module _ (sum : List ℕ → ℕ) (size : ℕ) (site : SegmentPosition) (device : State) (fault : Option IoError) (bytes : List ℕ) (from : ℕ) (bs : List Sealed) (rs : List Reserved) (H : History) {stays : Message → Type 0} (holds : HoldsSegment sum (log_parts size site device fault bytes from bs rs) stays H) where
  abbrev pub done : List Message
  done = completed_in site bytes rs

  long : All (λ r. 0 < r.len) rs
  long = some_long sum size (site.place / size) bytes rs holds.records.stand

  -- the bytes reach as far as what was written
  pub grows : max 20 from ≤ length bytes
  grows = chain_grows (max 20 from) (length bytes) rs holds.records.chain

  between : All (λ m. (site.place + max 20 from ≤ m.place) × (m.place < site.place + length bytes) × (m.place + m.size ≤ site.place + length bytes)) done
  between = completed_between site bytes (max 20 from) (length bytes) rs holds.records.chain long

  below_in : (m : Message) → Contains holds.records.earlier m → (m.place < site.place + from) × (m.place + m.size ≤ site.place + from)
  below_in m there = All-contains (λ x. (x.place < site.place + from) × (x.place + x.size ≤ site.place + from)) holds.records.earlier m holds.records.below there

  -- a message was written, or was completed since
  pub which : (m : Message) → Contains H.messages m → Contains holds.records.earlier m ⊎ Contains done m
  which m there = Contains-append_cases holds.records.earlier done m (subst (λ (ms : List Message). Contains ms m) holds.records.messages there)

  -- All messages end below the next place.
  pub all_below : EndBelow (site.place + length bytes) H.messages
  all_below =
      let Below : Message → Type 0 = λ m. (m.place < site.place + length bytes) × (m.place + m.size ≤ site.place + length bytes) in
      let far = grows in
      let early : All Below holds.records.earlier = λ k d lt. let b = holds.records.below k d lt in (omega (arith, b.0, far), omega (arith, b.1, far)) in
      let late : All Below done = λ k d lt. let b = between k d lt in (b.1, b.2) in
      subst (λ (ms : List Message). All Below ms) (sym holds.records.messages) (All-append Below holds.records.earlier done early late)

  -- They lie one behind another.
  pub all_apart : LieApart H.messages
  all_apart = subst LieApart (sym holds.records.messages)
      (apart_both (site.place + from) holds.records.earlier done holds.records.apart (completed_apart site bytes (max 20 from) (length bytes) rs holds.records.chain long) (λ k d lt. (holds.records.below k d lt).1) (λ k d lt. let b = between k d lt in omega (arith, b.0)))

  -- Of the history they, and the batches of the manifests that have ended, are all that begins in the buffer.
  pub has_only : length bytes ≤ size → HasOnly H done (batches_in site bytes rs) (site.place + max 20 from) (site.place + length bytes)
  has_only inside = record {
    there = λ m late. subst (λ (ms : List Message). Contains ms m) (sym holds.records.messages) (Contains-append_right holds.records.earlier done m late);
    only = λ m there. elim (which m there) [
      | inl early ↦ (let b = below_in m early in inr (inl (omega (arith, b.0))))
      | inr late ↦ inl late
    ];
    noted = holds.records.batched.noted;
    begun = λ b there. elim (holds.records.batched.begun b there) [ inl among ↦ inl among | inr (inl before) ↦ inr (inl (omega (arith, before))) | inr (inr after) ↦ inr (inr (omega (arith, after, inside))) ];
  }

-- Of what begins in a buffer the messages of the reservations at its front are all that begins in their part of it.
pub front_only : (site : SegmentPosition) (bytes : List ℕ) (H : History) (rs : List Reserved) (n low stop end : ℕ) → IsChain stop (drop n rs) end → All (λ r. 0 < r.len) (drop n rs)
    → HasOnly H (completed_in site bytes rs) (batches_in site bytes rs) low (site.place + end) → HasOnly H (completed_in site bytes (take n rs)) (batches_in site bytes (take n rs)) low (site.place + stop)
front_only site bytes H rs n low stop end chain some all =
    let far = chain_grows stop end (drop n rs) chain in
    let mine : List Message = completed_in site bytes (take n rs) in
    let others : List Message = completed_in site bytes (drop n rs) in
    let parts : completed_in site bytes rs ≡ mine ++ others = ap (λ (l : List Reserved). completed_in site bytes l) (sym (take-append-drop n rs)) ∙ completed-append site bytes (take n rs) (drop n rs) in
    let behind = completed_between site bytes stop end (drop n rs) chain some in
    let my_batches : List Batch = batches_in site bytes (take n rs) in
    let other_batches : List Batch = batches_in site bytes (drop n rs) in
    let batch_parts : batches_in site bytes rs ≡ my_batches ++ other_batches = ap (λ (l : List Reserved). batches_in site bytes l) (sym (take-append-drop n rs)) ∙ batches-append site bytes (take n rs) (drop n rs) in
    record {
      there = λ m among. all.there m (subst (λ (ms : List Message). Contains ms m) (sym parts) (Contains-append_left mine others m among));
      only = λ m among. elim (all.only m among) [
        | inl one ↦ elim (Contains-append_cases mine others m (subst (λ (ms : List Message). Contains ms m) parts one)) [
          | inl here ↦ inl here
          | inr later ↦ (let b = All-contains (λ (y : Message). (site.place + stop ≤ y.place) × (y.place < site.place + end) × (y.place + y.size ≤ site.place + end)) others m behind later in inr (inr b.0))
        ]
        | inr (inl before) ↦ inr (inl before)
        | inr (inr after) ↦ inr (inr (omega (arith, after, far)))
      ];
      noted = λ c among. all.noted c (subst (λ (bs : List Batch). Contains bs c) (sym batch_parts) (Contains-append_left my_batches other_batches c among));
      begun = λ c among. elim (all.begun c among) [
        | inl one ↦ elim (Contains-append_cases my_batches other_batches c (subst (λ (bs : List Batch). Contains bs c) batch_parts one)) [
          | inl here ↦ inl here
          | inr later ↦ inr (inr (batches_between site bytes stop end (drop n rs) chain some c later).0)
        ]
        | inr (inl before) ↦ inr (inl before)
        | inr (inr after) ↦ inr (inr (omega (arith, after, far)))
      ];
    }
