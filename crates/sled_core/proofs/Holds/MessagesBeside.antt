-- An open reservation of a segment lies beside the messages and the batches of a history: a message that begins in front of it ends there, and a batch begins there, with it or behind it.
use Rattle.std.proofs.Common.{◌≡◌, ◌⊎◌, ◌∙◌, ◌≤◌, ◌<◌, ◌+◌, ◌/◌, ℕ, suc, max, List, ◌∷◌, ◌++◌, length, take, drop, Option, Some, sym, ap, subst, arith, inl, inr}
use Rattle.std.specs.List.{All, Contains, slice_get}
use Rattle.std.specs.declared.io.Error.{Error as IoError}
use Rattle.std.proofs.lemmas.List.Elements.{All-contains, Contains-append_cases}
use Rattle.sled_codec.specs.History.{Batch, History, Message}
use Rattle.sled_store.specs.Device.{State}
use Rattle.sled_core.specs.declared.iobuf.ReservationState.TheVariants.{Completed, Manifest, Open}
use Rattle.sled_core.specs.declared.iobuf.Reserved.{Reserved}
use Rattle.sled_core.specs.declared.iobuf.Sealed.{Sealed}
use Rattle.sled_core.specs.declared.iobuf.SegmentPosition.{SegmentPosition}
use Rattle.sled_core.specs.inside.Buffers.{IsChain, Stands, batch_in, batches_in, completed_in}
use Rattle.sled_core.specs.Buffers.{message_in}
use Rattle.sled_core.specs.inside.Fits.{HoldsSegment, log_parts}
use Rattle.sled_core.proofs.Reserve.Batches.{batch_cases, batches-append, batches_between}
use Rattle.sled_core.proofs.Reserve.Entries.{some_long}
use Rattle.sled_core.proofs.Reserve.Ranges.{all_split, chain-split, chain_grows, completed-append, completed_between, own_cases, there_split}

module _ (sum : List ℕ → ℕ) (size : ℕ) (site : SegmentPosition) (device : State) (fault : Option IoError) (bytes : List ℕ) (from : ℕ) (bs : List Sealed) (rs : List Reserved) (H : History) {stays : Message → Type 0}
    (holds : HoldsSegment sum (log_parts size site device fault bytes from bs rs) stays H) (i : ℕ) (r : Reserved) (there : slice_get rs i ≡ Some r) (is_open : r.state ≡ Open) where
  -- the reservations in front of it, and those behind it
  abbrev front : List Reserved
  front = take i rs

  abbrev behind : List Reserved
  behind = drop (suc i) rs

  split : rs ≡ front ++ r ∷ behind
  split = there_split rs i r there

  chains : IsChain (max 20 from) front r.from × IsChain (r.from + r.len) behind (length bytes)
  chains = chain-split (max 20 from) (length bytes) front behind r (subst (λ (l : List Reserved). IsChain (max 20 from) l (length bytes)) split holds.records.chain)

  stand : All (Stands sum size (site.place / size) bytes) front × Stands sum size (site.place / size) bytes r × All (Stands sum size (site.place / size) bytes) behind
  stand = all_split (Stands sum size (site.place / size) bytes) front behind r (subst (λ (l : List Reserved). All (Stands sum size (site.place / size) bytes) l) split holds.records.stand)

  not_completed : r.state ≡ Completed → ⊥
  not_completed is = let both : Open ≡ Completed = sym is_open ∙ is in cc

  not_manifest : r.state ≡ Manifest → ⊥
  not_manifest is = let both : Open ≡ Manifest = sym is_open ∙ is in cc

  completed_cases : (m : Message) → Contains (completed_in site bytes rs) m → Contains (completed_in site bytes front) m ⊎ Contains (completed_in site bytes behind) m
  completed_cases m among =
      let parts : completed_in site bytes rs ≡ completed_in site bytes front ++ completed_in site bytes (r ∷ behind) = ap (completed_in site bytes) split ∙ completed-append site bytes front (r ∷ behind) in
      elim (Contains-append_cases (completed_in site bytes front) (completed_in site bytes (r ∷ behind)) m (subst (λ (l : List Message). Contains l m) parts among)) [
        | inl before ↦ inl before
        | inr from_it ↦ elim (own_cases r.state (message_in site bytes r) (completed_in site bytes behind) m from_it) [ inl own ↦ absurd (not_completed own.0) | inr later ↦ inr later ]
      ]

  own_before : (m : Message) → Contains (completed_in site bytes rs) m → m.place < site.place + r.from → m.place + m.size ≤ site.place + r.from
  own_before m among low = elim (completed_cases m among) [
    | inl before ↦ (All-contains (λ (x : Message). (site.place + max 20 from ≤ x.place) × (x.place < site.place + r.from) × (x.place + x.size ≤ site.place + r.from)) (completed_in site bytes front) m
        (completed_between site bytes (max 20 from) r.from front chains.0 (some_long sum size (site.place / size) bytes front stand.0)) before).2
    | inr later ↦ absurd (
        let past = (All-contains (λ (x : Message). (site.place + (r.from + r.len) ≤ x.place) × (x.place < site.place + length bytes) × (x.place + x.size ≤ site.place + length bytes)) (completed_in site bytes behind) m
        (completed_between site bytes (r.from + r.len) (length bytes) behind chains.1 (some_long sum size (site.place / size) bytes behind stand.2)) later).0
        in omega (arith, past, low))
  ]

  pub message_before : (m : Message) → Contains H.messages m → m.place < site.place + r.from → m.place + m.size ≤ site.place + r.from
  message_before m among low = elim (Contains-append_cases holds.records.earlier (completed_in site bytes rs) m (subst (λ (l : List Message). Contains l m) holds.records.messages among)) [
    | inl was ↦ (
        let ends = (All-contains (λ (x : Message). (x.place < site.place + from) × (x.place + x.size ≤ site.place + from)) holds.records.earlier m holds.records.below was).1 in
        let grows = chain_grows (max 20 from) r.from front chains.0 in
        omega (arith, ends, grows))
    | inr own ↦ own_before m own low
  ]

  own_batch : (b : Batch) → Contains (batches_in site bytes rs) b → (b.low ≤ site.place + r.from) ⊎ (site.place + r.from + r.len ≤ b.low)
  own_batch b among =
      let parts : batches_in site bytes rs ≡ batches_in site bytes front ++ batches_in site bytes (r ∷ behind) = ap (batches_in site bytes) split ∙ batches-append site bytes front (r ∷ behind) in
      elim (Contains-append_cases (batches_in site bytes front) (batches_in site bytes (r ∷ behind)) b (subst (λ (l : List Batch). Contains l b) parts among)) [
        | inl before ↦ (let lies = (batches_between site bytes (max 20 from) r.from front chains.0 (some_long sum size (site.place / size) bytes front stand.0) b before).1 in inl (omega (arith, lies)))
        | inr from_it ↦ elim (batch_cases r.state (batch_in site bytes r) (batches_in site bytes behind) b from_it) [
          | inl own ↦ absurd (not_manifest own.0)
          | inr later ↦ (let lies = (batches_between site bytes (r.from + r.len) (length bytes) behind chains.1 (some_long sum size (site.place / size) bytes behind stand.2) b later).0 in inr (omega (arith, lies)))
        ]
      ]

  pub batch_beside : length bytes ≤ size → (b : Batch) → Contains H.batches b → (b.low ≤ site.place + r.from) ⊎ (site.place + r.from + r.len ≤ b.low)
  batch_beside short b among = elim (holds.records.batched.begun b among) [
    | inl own ↦ own_batch b own
    | inr (inl before) ↦ (let grows = chain_grows (max 20 from) r.from front chains.0 in inl (omega (arith, before, grows)))
    | inr (inr after) ↦ (let within = chain_grows (r.from + r.len) (length bytes) behind chains.1 in inr (omega (arith, after, within, short)))
  ]
