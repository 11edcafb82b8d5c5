-- What damage names, where an answer is handed on.
use Rattle.std.proofs.Common.{◌≡◌, ℕ, ℤ, List, Option, None, sym, subst}
use Rattle.std.specs.Prelude.{Result, Ok, Err, IfErr}
use Rattle.sled_codec.specs.declared.result.DiskPtr.{DiskPtr}
use Rattle.sled_codec.specs.declared.result.Error.{Error}
use Rattle.sled_codec.specs.declared.result.Error.TheVariants.{Corruption, Unsupported, Io, OutOfMemory, Held, NotReserved, PlacesUsedUp, CollectionNotFound, ReportableBug}
use Rattle.sled_codec.specs.Errors.{IsCorruption, IsDecodeError}
use Rattle.sled_store.specs.Blobs.{OnDamage}
use Rattle.sled_store.specs.Causes.{DeviceAnswers}
use Rattle.sled_store.specs.Device.{Trace, state_of}
use Rattle.sled_core.specs.declared.iterator.scan.RecordContent.{RecordContent}
use Rattle.sled_log.specs.Recovery.{HasBadBlob, HasDamage, NamesBlobOf}

-- Of an error, whatever was asked for.
module _ (T U : Type 0) where
  -- what is so of its name is more
  pub damage_as : (e : Error) (P Q : Option DiskPtr → Type 0) → ((at : Option DiskPtr) → P at → Q at) → OnDamage {T = T} (Err e) P → OnDamage {T = U} (Err e) Q
  damage_as (Corruption at) P Q so damage = so at damage
  damage_as (Unsupported text) P Q so damage = tt
  damage_as (Io io) P Q so damage = tt
  damage_as OutOfMemory P Q so damage = tt
  damage_as (Held place) P Q so damage = tt
  damage_as (NotReserved place) P Q so damage = tt
  damage_as PlacesUsedUp P Q so damage = tt
  damage_as (CollectionNotFound name) P Q so damage = tt
  damage_as (ReportableBug text) P Q so damage = tt

  -- where no blob is read it has none
  pub damage_unnamed : (e : Error) (before after : ℕ) (Q : Option DiskPtr → Type 0) → DeviceAnswers {T = T} (Err e) before after → (IsCorruption {T = T} (Err e) → Q None) → OnDamage {T = U} (Err e) Q
  damage_unnamed (Corruption at) before after Q answers so = subst Q (sym answers.1) (so tt)
  damage_unnamed (Unsupported text) before after Q answers so = tt
  damage_unnamed (Io io) before after Q answers so = tt
  damage_unnamed OutOfMemory before after Q answers so = tt
  damage_unnamed (Held place) before after Q answers so = tt
  damage_unnamed (NotReserved place) before after Q answers so = tt
  damage_unnamed PlacesUsedUp before after Q answers so = tt
  damage_unnamed (CollectionNotFound name) before after Q answers so = tt
  damage_unnamed (ReportableBug text) before after Q answers so = tt

  -- and where there is no damage nothing is said of its name
  pub damage_never : (e : Error) (Q : Option DiskPtr → Type 0) → (IsCorruption {T = T} (Err e) → ⊥) → OnDamage {T = U} (Err e) Q
  damage_never (Corruption at) Q never = absurd (never tt)
  damage_never (Unsupported text) Q never = tt
  damage_never (Io io) Q never = tt
  damage_never OutOfMemory Q never = tt
  damage_never (Held place) Q never = tt
  damage_never (NotReserved place) Q never = tt
  damage_never PlacesUsedUp Q never = tt
  damage_never (CollectionNotFound name) Q never = tt
  damage_never (ReportableBug text) Q never = tt

  -- damage of the blob of a record is named so, at another moment between which the device was only read
  pub damage_of_blob : (sum : List ℕ → ℕ) (what : RecordContent) (t u : Trace) (e : Error) → t ≡ u → (IsCorruption {T = T} (Err e) → HasBadBlob sum (state_of t).blobs.file what)
      → OnDamage {T = T} (Err e) (NamesBlobOf sum (state_of t).blobs.file what) → OnDamage {T = U} (Err e) (λ at. HasDamage sum (state_of u).blobs.file at what)
  damage_of_blob sum what t u (Corruption at) same bad named = subst (λ (x : Trace). HasDamage sum (state_of x).blobs.file at what) same (bad tt, named)
  damage_of_blob sum what t u (Unsupported text) same bad named = tt
  damage_of_blob sum what t u (Io io) same bad named = tt
  damage_of_blob sum what t u OutOfMemory same bad named = tt
  damage_of_blob sum what t u (Held place) same bad named = tt
  damage_of_blob sum what t u (NotReserved place) same bad named = tt
  damage_of_blob sum what t u PlacesUsedUp same bad named = tt
  damage_of_blob sum what t u (CollectionNotFound name) same bad named = tt
  damage_of_blob sum what t u (ReportableBug text) same bad named = tt

-- Of an answer.
module _ {T : Type 0} where
  pub damage_so : (r : Result T Error) (P Q : Option DiskPtr → Type 0) → ((at : Option DiskPtr) → P at → Q at) → OnDamage r P → OnDamage r Q
  damage_so (Ok x) P Q so damage = tt
  damage_so (Err e) P Q so damage = damage_as T T e P Q so damage

  -- where there is no damage nothing is said of its name
  pub damage_none : (r : Result T Error) (Q : Option DiskPtr → Type 0) → (IsCorruption r → ⊥) → OnDamage r Q
  damage_none (Ok x) Q never = tt
  damage_none (Err e) Q never = damage_never T T e Q never

  -- that of a decoder names nothing
  pub damage_decoded : (r : Result T Error) (Q : Option DiskPtr → Type 0) → IfErr r IsDecodeError → (IsCorruption r → Q None) → OnDamage r Q
  damage_decoded (Ok x) Q errors so = tt
  damage_decoded (Err (Corruption at)) Q errors so = subst Q (sym errors) (so tt)
  damage_decoded (Err (Unsupported text)) Q errors so = tt
  damage_decoded (Err (Io io)) Q errors so = tt
  damage_decoded (Err OutOfMemory) Q errors so = tt
  damage_decoded (Err (Held place)) Q errors so = tt
  damage_decoded (Err (NotReserved place)) Q errors so = tt
  damage_decoded (Err PlacesUsedUp) Q errors so = tt
  damage_decoded (Err (CollectionNotFound name)) Q errors so = tt
  damage_decoded (Err (ReportableBug text)) Q errors so = tt

  -- what is so whatever it names
  pub damage_met : (r : Result T Error) (P : Option DiskPtr → Type 0) (B : Type 0) → ((at : Option DiskPtr) → P at → B) → OnDamage r P → IsCorruption r → B
  damage_met (Ok x) P B so damage corrupt = absurd corrupt
  damage_met (Err (Corruption at)) P B so damage corrupt = so at damage
  damage_met (Err (Unsupported text)) P B so damage corrupt = absurd corrupt
  damage_met (Err (Io io)) P B so damage corrupt = absurd corrupt
  damage_met (Err OutOfMemory) P B so damage corrupt = absurd corrupt
  damage_met (Err (Held place)) P B so damage corrupt = absurd corrupt
  damage_met (Err (NotReserved place)) P B so damage corrupt = absurd corrupt
  damage_met (Err PlacesUsedUp) P B so damage corrupt = absurd corrupt
  damage_met (Err (CollectionNotFound name)) P B so damage corrupt = absurd corrupt
  damage_met (Err (ReportableBug text)) P B so damage corrupt = absurd corrupt
