use Rattle.std.proofs.Common.{◌≡◌, ℕ, ℤ, List, Option, Result, Ok, Err, inr, subst, to_z, of_z}
use Rattle.std.specs.Int.{w64}
use Rattle.std.specs.Prelude.{IfErr}
use Rattle.std.proofs.lemmas.Int.{to_z-of_z}
use Rattle.sled_store.specs.Blobs.{IsDamagedFor, NamesBlobAt, OnDamage}
use Rattle.sled_store.specs.Device.{Trace, state_of}
use Rattle.sled_codec.specs.Errors.{IsCorruption}
use Rattle.sled_codec.specs.declared.result.DiskPtr.{DiskPtr}
use Rattle.sled_codec.specs.declared.result.Error.{Error}
use Rattle.sled_codec.specs.declared.result.Error.TheVariants.{Corruption, Unsupported, Io, OutOfMemory, Held, NotReserved, PlacesUsedUp, CollectionNotFound, ReportableBug}
use Rattle.sled_core.proofs.Read.ReadingLemmas.{announced_of}
use Rattle.sled_core.proofs.logger.read_message.read_message.Goals as goal

pub returns-in-Ok-DanglingBlob-clause-unreadable : goal.returns-in-Ok-DanglingBlob-clause-unreadable
returns-in-Ok-DanglingBlob-clause-unreadable g c = λ corrupt.
    let header = c.in-Ok-DanglingBlob.header in
    let place = c.in-Ok-DanglingBlob.place in
    let reading = rw c.in-Ok-DanglingBlob.field-0-is at c.in-Ok-DanglingBlob.ensures.reading in
    let same : to_z w64 (of_z w64 place) ≡ place = to_z-of_z w64 place reading.3.in_range in
    inr (record {
      header = header;
      body = reading.0;
      len = c.in-Ok-DanglingBlob.len;
      stands = reading.1;
      kind = reading.2;
      place = place;
      names = reading.3;
      damaged = subst (λ (t : Trace). IsDamagedFor g.C.Checksum.sum_of header.kind ((state_of t).blobs.file place)) c.read_record.ensures.reads.unwritten
          (subst (λ p. IsDamagedFor g.C.Checksum.sum_of header.kind ((state_of (g.D.Device.trace c.read_record.new.config.device)).blobs.file p)) same (c.with_item.ensures.damaged corrupt));
    })

-- Memory is taken for what is announced there.
on_memory : {T : Type 0} (r : Result T Error) (P : Type 0) → P → IfErr r (λ e. e ≡ OutOfMemory → P)
on_memory (Ok x) P is = tt
on_memory (Err e) P is = λ _. is

pub returns-in-Ok-DanglingBlob-clause-memory : goal.returns-in-Ok-DanglingBlob-clause-memory
returns-in-Ok-DanglingBlob-clause-memory g c =
    let reading = rw c.in-Ok-DanglingBlob.field-0-is at c.in-Ok-DanglingBlob.ensures.reading in
    on_memory c.with_item.result _ (announced_of g.C.Checksum.sum_of _ _ _ _ _ _ _ reading.1)

-- damage that has a name, by what is damaged then
damaged_as : {T B : Type 0} {P Q : Option DiskPtr → Type 0} → (r : Result T Error) → (IsCorruption r → B) → (B → (at : Option DiskPtr) → P at → Q at) → OnDamage r P → OnDamage r Q
damaged_as (Ok x) bad f h = tt
damaged_as (Err (Corruption at)) bad f h = f (bad tt) at h
damaged_as (Err (Unsupported text)) bad f h = tt
damaged_as (Err (Io e)) bad f h = tt
damaged_as (Err OutOfMemory) bad f h = tt
damaged_as (Err (Held at)) bad f h = tt
damaged_as (Err (NotReserved at)) bad f h = tt
damaged_as (Err PlacesUsedUp) bad f h = tt
damaged_as (Err (CollectionNotFound name)) bad f h = tt
damaged_as (Err (ReportableBug text)) bad f h = tt

pub returns-in-Ok-DanglingBlob-clause-named : goal.returns-in-Ok-DanglingBlob-clause-named
returns-in-Ok-DanglingBlob-clause-named g c =
    let sum : List ℕ → ℕ = g.C.Checksum.sum_of in
    let blobs : ℤ → Option (List ℕ) = (state_of (g.D.Device.trace c.args.config.now.device)).blobs.file in
    let header = c.in-Ok-DanglingBlob.header in
    let place = c.in-Ok-DanglingBlob.place in
    let reading = rw c.in-Ok-DanglingBlob.field-0-is at c.in-Ok-DanglingBlob.ensures.reading in
    let same : to_z w64 (of_z w64 place) ≡ place = to_z-of_z w64 place reading.3.in_range in
    let with = subst (λ p. IsCorruption c.with_item.result → IsDamagedFor sum header.kind ((state_of (g.D.Device.trace c.read_record.new.config.device)).blobs.file p)) same c.with_item.ensures.damaged in
    let named = subst (λ p. OnDamage c.with_item.result (NamesBlobAt sum (state_of (g.D.Device.trace c.read_record.new.config.device)).blobs.file p)) same c.with_item.ensures.named in
    let damaged : IsCorruption c.with_item.result → IsDamagedFor sum header.kind (blobs place) =
    subst (λ (t : Trace). IsCorruption c.with_item.result → IsDamagedFor sum header.kind ((state_of t).blobs.file place)) c.read_record.ensures.reads.unwritten with in
    let here : OnDamage c.with_item.result (NamesBlobAt sum blobs place) =
    subst (λ (t : Trace). OnDamage c.with_item.result (NamesBlobAt sum (state_of t).blobs.file place)) c.read_record.ensures.reads.unwritten named in
    damaged_as c.with_item.result damaged (λ bad at is. inr (
      record {
        header = header;
        body = reading.0;
        len = c.in-Ok-DanglingBlob.len;
        stands = reading.1;
        kind = reading.2;
        place = place;
        names = reading.3;
        damaged = bad;
      },
      is,
    )) here
