-- How a segment of a log goes on holding a history when a place is reserved.
use Rattle.sled_core.proofs.Reserve.Batches.{batches-append, batches-same}
use Rattle.sled_core.proofs.Reserve.RecordEnds.{behind_open, no_end_up, records_more}
use Rattle.std.proofs.Common.{◌≡◌, ◌≤◌, ◌+◌, ◌-◌, ◌/◌, ℕ, zero, suc, max, List, [], ◌∷◌, ◌++◌, length, sym, ◌∙◌, ap, arith, refl, subst, length-append, Option, get_or}
use Rattle.std.specs.List.{All}
use Rattle.std.specs.declared.io.Error.{Error as IoError}
use Rattle.std.proofs.lemmas.List.{append-nil, take-append-le}
use Rattle.std.proofs.lemmas.List.Elements.{All-append}
use Rattle.sled_codec.specs.History.{Message, Batch, History}
use Rattle.sled_store.specs.Device.{State}
use Rattle.sled_core.specs.declared.iobuf.ReservationState.{ReservationState}
use Rattle.sled_core.specs.declared.iobuf.ReservationState.TheVariants.{Completed, Manifest, Open}
use Rattle.sled_core.specs.declared.iobuf.Reserved.{Reserved}
use Rattle.sled_core.specs.declared.iobuf.Sealed.{Sealed}
use Rattle.sled_core.specs.declared.iobuf.SegmentPosition.{SegmentPosition}
use Rattle.sled_core.specs.inside.Buffers.{records_end, batch_in, batches_in, IsChain, completed_in, with_batch, with_own, HasText, Stands}
use Rattle.sled_core.specs.Buffers.{body_in, message_in}
use Rattle.sled_core.specs.inside.Fits.{log_parts, HoldsSegment}
use Rattle.sled_core.proofs.Holds.BatchLemmas.{same_batched}
use Rattle.sled_core.proofs.Sealed.LaidCalls.{laid_append}
use Rattle.sled_core.proofs.Sealed.LaidLemmas.{EndsRise}
use Rattle.sled_core.proofs.Reserve.Entries.{completed_plain, manifest_plain, in_reserved, open_plain, reserved_in, stands-same}
use Rattle.sled_core.proofs.Reserve.Ranges.{part-append, completed-same, completed-append, chain-append}

-- Bytes behind the text leave each reservation in it as it was.

pub body-append : (bytes more : List ℕ) (r : Reserved) → r.from + r.len ≤ length bytes → r.header_len ≤ r.len → body_in (bytes ++ more) r ≡ body_in bytes r
body-append bytes more r within long = part-append bytes more (r.from + r.header_len) (r.len - r.header_len) (omega arith)

pub stands-append : (sum : List ℕ → ℕ) (size number : ℕ) (bytes more : List ℕ) (r : Reserved) → r.from + r.len ≤ length bytes → Stands sum size number bytes r → Stands sum size number (bytes ++ more) r
stands-append sum size number bytes more r within stands =
    stands-same sum size number bytes (bytes ++ more) r (part-append bytes more r.from r.len within) (body-append bytes more r within) stands

-- and so the messages of those that were completed, and the batches of the manifests that have ended
pub completed-behind : (sum : List ℕ → ℕ) (size number : ℕ) (site : SegmentPosition) (bytes more : List ℕ) (rs : List Reserved) → All (λ x. x.from + x.len ≤ length bytes) rs → All (Stands sum size number bytes) rs
    → completed_in site (bytes ++ more) rs ≡ completed_in site bytes rs
completed-behind sum size number site bytes more rs within stand = completed-same site bytes (bytes ++ more) rs bodies where
  bodies : All (λ r. r.state ≡ Completed → body_in (bytes ++ more) r ≡ body_in bytes r) rs
  bodies k d lt done =
      let r : Reserved = get_or rs k d in
      let stands = reserved_in sum size number bytes r (completed_plain r.state done) (stand k d lt) in
      body-append bytes more r (within k d lt) stands.text.long

pub batches-behind : (sum : List ℕ → ℕ) (size number : ℕ) (site : SegmentPosition) (bytes more : List ℕ) (rs : List Reserved) → All (λ x. x.from + x.len ≤ length bytes) rs → All (Stands sum size number bytes) rs
    → batches_in site (bytes ++ more) rs ≡ batches_in site bytes rs
batches-behind sum size number site bytes more rs within stand = batches-same site bytes (bytes ++ more) rs bodies where
  bodies : All (λ r. r.state ≡ Manifest → body_in (bytes ++ more) r ≡ body_in bytes r) rs
  bodies k d lt ended =
      let r : Reserved = get_or rs k d in
      let stands = reserved_in sum size number bytes r (manifest_plain r.state ended) (stand k d lt) in
      body-append bytes more r (within k d lt) stands.text.long

pub one : {X : Type 0} (P : X → Type 0) (x : X) → P x → All P (x ∷ [])
one P x here zero d lt = here
one P x here (suc k) d lt = absurd (omega arith)

-- an open reservation is no message yet, and no batch
pub completed_open : (site : SegmentPosition) (bytes : List ℕ) (r : Reserved) (rs : List Reserved) → r.state ≡ Open → completed_in site bytes (r ∷ rs) ≡ completed_in site bytes rs
completed_open site bytes r rs is = ap (λ (s : ReservationState). with_own s (message_in site bytes r) (completed_in site bytes rs)) is

pub batches_open : (site : SegmentPosition) (bytes : List ℕ) (r : Reserved) (rs : List Reserved) → r.state ≡ Open → batches_in site bytes (r ∷ rs) ≡ batches_in site bytes rs
batches_open site bytes r rs is = ap (λ (s : ReservationState). with_batch s (batch_in site bytes r) (batches_in site bytes rs)) is

module _ (sum : List ℕ → ℕ) (size : ℕ) (site : SegmentPosition) (device : State) (fault : Option IoError) (bytes : List ℕ) (from : ℕ) (bs : List Sealed) (rs : List Reserved) (H : History)
    {stays : Message → Type 0} (holds : HoldsSegment sum (log_parts size site device fault bytes from bs rs) stays H) where
  -- A place is reserved: its placeholder stands behind what is there.
  pub segment-append : (more : List ℕ) (r : Reserved) → 20 ≤ length bytes → All (λ x. x.from + x.len ≤ length bytes) rs
      → r.from ≡ length bytes → r.len ≡ length more → r.state ≡ Open → r.from + 32 ≤ size → EndsRise from bs (length bytes) → HasText sum (site.place / size) (bytes ++ more) r
      → HoldsSegment sum (log_parts size site device fault (bytes ++ more) from bs (rs ++ r ∷ [])) stays H
  segment-append more r begun within at long is_open has_room rise stands =
      let number : ℕ = site.place / size in
      let new : List ℕ = bytes ++ more in
      let none : completed_in site new (r ∷ []) ≡ [] = completed_open site new r [] is_open in
      let end : length bytes + r.len ≡ length new = omega (arith, length-append bytes more) in
      record {
        records = record {
          earlier = holds.records.earlier;
          messages = holds.records.messages ∙ ap (λ (ms : List Message). holds.records.earlier ++ ms) (sym (
              completed-append site new rs (r ∷ []) ∙ ap (λ (ms : List Message). completed_in site new rs ++ ms) none ∙ append-nil (completed_in site new rs) ∙ completed-behind sum size number site bytes more rs within holds.records.stand));
          below = holds.records.below;
          apart = holds.records.apart;
          batched = same_batched size site from (batches_in site bytes rs) (batches_in site new (rs ++ r ∷ [])) H.batches H.batches
              (batches-append site new rs (r ∷ []) ∙ ap (λ (l : List Batch). batches_in site new rs ++ l) (batches_open site new r [] is_open) ∙ append-nil (batches_in site new rs) ∙ batches-behind sum size number site bytes more rs within holds.records.stand) refl holds.records.batched;
          no_end = no_end_up H site.place (records_end rs (length bytes)) (records_end (rs ++ r ∷ []) (length new)) (site.place + size) (records_more rs r (length bytes) (length new) (omega (arith, end)) (behind_open r (length bytes) (length new) is_open (omega (arith, end)))) holds.records.no_end;
          place_begins = holds.records.place_begins;
          slot_begins = holds.records.slot_begins;
          header = λ first. let m = holds.records.header first in record { mark = m.mark; is = take-append-le 20 bytes more begun ∙ m.is; of_history = m.of_history };
          chain = subst (λ (n : ℕ). IsChain (max 20 from) (rs ++ r ∷ []) n) end (chain-append (max 20 from) (length bytes) rs r holds.records.chain at);
          stand = All-append (Stands sum size number new) rs (r ∷ []) (λ k d lt. stands-append sum size number bytes more (get_or rs k d) (within k d lt) (holds.records.stand k d lt))
              (one (Stands sum size number new) r (in_reserved sum size number new r (open_plain r.state is_open) (record { room = has_room; text = stands })));
        };
        written = holds.written;
        laid = λ ok. laid_append device.log.bytes site.slot bytes more from bs size rise (holds.laid ok);
      }

-- The same bytes, from the same offset, and the same reservations hold the same.
pub segment-same : (sum : List ℕ → ℕ) (size : ℕ) (site : SegmentPosition) (device : State) (fault : Option IoError) (bytes bytes' : List ℕ) (from from' : ℕ) (bs bs' : List Sealed) (rs rs' : List Reserved) (H : History)
    → {stays : Message → Type 0} → bytes' ≡ bytes → from' ≡ from → bs' ≡ bs → rs' ≡ rs → HoldsSegment sum (log_parts size site device fault bytes from bs rs) stays H → HoldsSegment sum (log_parts size site device fault bytes' from' bs' rs') stays H
segment-same sum size site device fault bytes bytes' from from' bs bs' rs rs' H {stays} b f e r holds =
    subst (λ (l : List ℕ). HoldsSegment sum (log_parts size site device fault l from' bs' rs') stays H) (sym b)
    (subst (λ n. HoldsSegment sum (log_parts size site device fault bytes n bs' rs') stays H) (sym f)
    (subst (λ (l : List Sealed). HoldsSegment sum (log_parts size site device fault bytes from l rs') stays H) (sym e)
    (subst (λ (l : List Reserved). HoldsSegment sum (log_parts size site device fault bytes from bs l) stays H) (sym r) holds)))
