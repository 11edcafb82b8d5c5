-- A history that has more than another at one place: a record beside that place is of it too, and a segment that ends below is read to its end as before.
use Rattle.std.proofs.Common.{⊎_elim, ◌≡◌, ◌⊎◌, ◌+◌, ◌%◌, ◌<◌, ◌≤◌, ℕ, List, subst, arith, inl, inr}
use Rattle.std.specs.List.{Contains}
use Rattle.sled_codec.specs.History.{Batch, History, Message}
use Rattle.sled_core.specs.declared.iterator.Segment.{Segment}
use Rattle.sled_core.specs.declared.iterator.scan.ScannedRecord.{ScannedRecord}
use Rattle.sled_core.specs.inside.Recoverable.{IsOfHistory, IsReadOn, NoBatchBegins, NoMessageBegins}
use Rattle.sled_core.proofs.Reached.ReadOn.{met_within, reads_on_in}

-- A history has all messages and batches of another, and others only at this place.
pub record GrowsAt (H H' : History) (at : ℕ) : Type 0 where
  pub message_stays : (x : Message) → Contains H.messages x → Contains H'.messages x
  pub message_was : (x : Message) → Contains H'.messages x → Contains H.messages x ⊎ (at ≡ x.place)
  pub batch_stays : (b : Batch) → Contains H.batches b → Contains H'.batches b
  pub batch_was : (b : Batch) → Contains H'.batches b → Contains H.batches b ⊎ (at ≡ b.low)

-- That place isn't below another one, and so no batch that it has more ends below it.
pub record GrowsAbove (H H' : History) (low : ℕ) : Type 0 where
  pub at : ℕ
  pub grows : GrowsAt H H' at
  pub above : low ≤ at
  pub ends : (b : Batch) → Contains H'.batches b → Contains H.batches b ⊎ (low ≤ b.peg)

module _ (H H' : History) (at : ℕ) (grows : GrowsAt H H' at) where
  -- No message begins where none did, beside that place,
  pub no_message_grown : (low high : ℕ) → (at < low) ⊎ (high ≤ at) → NoMessageBegins H low high → NoMessageBegins H' low high
  no_message_grown low high apart none x there = ⊎_elim (none x) (λ own. subst (λ n. (n < low) ⊎ (high ≤ n)) own apart) (grows.message_was x there)

  -- and no batch.
  pub no_batch_grown : (low high : ℕ) → (at < low) ⊎ (high ≤ at) → NoBatchBegins H low high → NoBatchBegins H' low high
  no_batch_grown low high apart none b there = ⊎_elim (none b) (λ own. subst (λ n. (n < low) ⊎ (high ≤ n)) own apart) (grows.batch_was b there)

  module _ (sum : List ℕ → ℕ) (size : ℕ) (log : List ℕ) where
    -- A record beside it is of the grown history.
    pub beside_grown : (x : ScannedRecord) → ((low : ℕ) → x.place ≤ low → (at < low) ⊎ (x.place + x.len ≤ at)) → IsOfHistory sum size log H x
        → IsOfHistory sum size log H' x
    beside_grown x apart (inl own) =
        inl (
          own.0,
          grows.message_stays own.0 own.1,
          own.2,
          own.3,
          no_message_grown (x.place + 1) (x.place + x.len) (apart (x.place + 1) (omega arith)) own.4,
          no_batch_grown x.place (x.place + x.len) (apart x.place (omega arith)) own.5,
        )
    beside_grown x apart (inr (inl batch)) =
        inr (inl (
          batch.0,
          grows.batch_stays batch.0 batch.1,
          batch.2,
          batch.3,
          no_message_grown x.place (x.place + x.len) (apart x.place (omega arith)) batch.4,
          no_batch_grown (x.place + 1) (x.place + x.len) (apart (x.place + 1) (omega arith)) batch.5,
        ))
    beside_grown x apart (inr (inr given_up)) =
        inr (inr (
          given_up.0,
          no_message_grown x.place (x.place + x.len) (apart x.place (omega arith)) given_up.1,
          no_batch_grown x.place (x.place + x.len) (apart x.place (omega arith)) given_up.2,
        ))

    -- A segment that ends below it is read to its end as before.
    pub reads_grown : 256 ≤ size → (s : Segment) → s.slot % size ≡ 0 → s.place + size ≤ at → IsReadOn sum size log H s → IsReadOn sum size log H' s
    reads_grown some s aligned under on = reads_on_in sum size log H H' s on (λ x met.
        let within = met_within sum size log some H s aligned on x met in
        beside_grown x (λ low up. inr (omega (arith, within, under))))
