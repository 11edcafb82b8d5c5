-- A reservation of an item that fits inline: it makes no blob, and what runs the log stays.
use Rattle.std.proofs.Common.{◌≡◌, ◌∙◌, ◌/◌, ◌-◌, ◌+◌, nat_lt, if◌then◌else◌, sym, subst, refl, arith, inl, inr, ℕ, Bool, true, false, List, length, Result, Ok, Err}
use Rattle.std.proofs.lemmas.Bool.Decides.{nat_tests}
use Rattle.sled_codec.specs.declared.result.Error.{Error}
use Rattle.sled_codec.specs.declared.result.Error.TheVariants as error
use Rattle.sled_codec.specs.declared.serialization.message.LogKind.{LogKind}
use Rattle.sled_codec.specs.History.{Message}
use Rattle.sled_store.specs.Device.{Trace}
use Rattle.sled_core.specs.declared.logger.Log.{Log}
use Rattle.sled_core.specs.declared.reservation.Reservation.{Reservation}
use Rattle.sled_core.specs.Fits.{FitsInline, IsUnchanged, KeepsAll, body_length, fault_of, in_blob_of, message_as, segment_size_of}
use Rattle.sled_core.specs.Reserves.{RefusalLeaves, ReservesAs}

-- the message that is reserved next for an item that is in its record
abbrev pub inline_message : {D C : Type 0} → Log D C → LogKind → ℕ → List ℕ → Message
inline_message log kind page item = message_as log kind page false (length item) item

-- it goes to no blob
pub not_in_blob : {D C : Type 0} (log : Log D C) (n : ℕ) → FitsInline (segment_size_of log) n → in_blob_of log n ≡ false
not_in_blob log n fits = let is : nat_lt (segment_size_of log / 4 - 20) (32 + n) ≡ false = grind (arith, nat_tests, fits) in is

-- Where it was refused, the log is as it was.
pub refused_inline : {D C : Type 0} (sum : List ℕ → ℕ) (old new : Log D C) (page n : ℕ) (blob : Bool) → blob ≡ false → (e : Error) → RefusalLeaves {T = Reservation} sum (Err e) blob old new page n → IsUnchanged old new
refused_inline sum old new page n blob is (error.Io x) left = elim left [ inl same ↦ same.1 | inr made ↦ (let clash : false ≡ true = sym is ∙ made.0 in cc) ]
refused_inline sum old new page n blob is error.OutOfMemory left = elim left [ inl same ↦ same | inr made ↦ (let clash : false ≡ true = sym is ∙ made.0 in cc) ]
refused_inline sum old new page n blob is error.PlacesUsedUp left = left
refused_inline sum old new page n blob is (error.Held at) left = left
refused_inline sum old new page n blob is (error.Unsupported text) left = left
refused_inline sum old new page n blob is (error.Corruption at) left = left
refused_inline sum old new page n blob is (error.NotReserved at) left = left
refused_inline sum old new page n blob is (error.CollectionNotFound name) left = left
refused_inline sum old new page n blob is (error.ReportableBug text) left = left

module _ {D C : Type 0} (trace : D → Trace) (faults : D → ℕ) (sum : List ℕ → ℕ) (kind : LogKind) (page : ℕ) (item : List ℕ) (old new : Log D C) where
  -- What such a reservation comes to.
  abbrev pub ReservesInline : Result Reservation Error → Type 0
  ReservesInline result = ReservesAs trace faults sum result kind page item false (length item) old new

  -- So it does by how long the item is.
  pub comes_inline : (result : Result Reservation Error) → FitsInline (segment_size_of old) (length item)
      → ReservesAs trace faults sum result kind page item (in_blob_of old (length item)) (body_length old (length item)) old new → ReservesInline result
  comes_inline result fits came =
      subst (λ (b : Bool). ReservesAs trace faults sum result kind page item b (if b then 8 else length item) old new) (not_in_blob old (length item) fits) came

  -- What runs the log stays, what is written of it, its failure and its pins.
  pub inline_keeps : (result : Result Reservation Error) → ReservesInline result → KeepsAll old new
  inline_keeps result came = record { config = came.device; synced = came.seen.synced; noted = came.seen.noted; kept = came.keeps.kept; fault = fault result came; pins = came.seen.pins; account = came.seen.account } where
    fault : (result : Result Reservation Error) → ReservesInline result → fault_of new ≡ fault_of old
    fault (Ok ticket) came = came.answers.0.1 ∙ sym came.answers.0.0
    fault (Err e) came = (refused_inline sum old new page (length item) false refl e came.left).fault
