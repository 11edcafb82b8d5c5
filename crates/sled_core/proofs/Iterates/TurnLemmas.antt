-- What comes of a record that has its turn, and what an error says.
use Rattle.std.proofs.Common.{◌≡◌, ◌∙◌, ℕ, ℤ, List, Option, Some, None, Result, Ok, Err, OnSome, IfSome, IfNone, refl, sym, ap, subst}
use Rattle.sled_codec.specs.declared.result.DiskPtr.{DiskPtr}
use Rattle.sled_codec.specs.declared.result.Error.{Error}
use Rattle.sled_codec.specs.declared.result.Error.TheVariants as error
use Rattle.sled_codec.specs.Errors.{IsCorrupt}
use Rattle.sled_store.specs.Blobs.{OnDamage}
use Rattle.sled_store.specs.Device.{Trace, state_of}
use Rattle.sled_core.specs.declared.iterator.scan.ScannedRecord.{ScannedRecord}
use Rattle.sled_core.specs.declared.iterator.scan.RecordContent.{RecordContent}
use Rattle.sled_core.specs.declared.iterator.scan.RecordContent.TheVariants.{Gives, NamesBlob, Skipped, BatchStart}
use Rattle.sled_core.specs.Replayed.{HasBadBlob, with_blob, resolved}
use Rattle.sled_core.specs.Iterates.{Item, Damage, items_of, NextGives, SaysDamage}
use Rattle.sled_core.specs.inside.Ahead.{those_of}

-- a record with its blob is the message that it is at its own place
with_place : (m : ScannedRecord) (what w : RecordContent) → items_of (record { place = m.place; len = m.len; what = what }) w ≡ items_of m w
with_place m what (Gives kind page pointer) = refl
with_place m what (NamesBlob kind page lid place) = refl
with_place m what Skipped = refl
with_place m what (BatchStart peg) = refl

-- what was found, with its blob, is what the record gives
module _ (blobs : ℤ → Option (List ℕ)) (m found : ScannedRecord) (is : found ≡ resolved blobs m) (o : Option Item) (gives : items_of found found.what ≡ those_of o) where
  pub found_gives : items_of m (with_blob blobs m.what) ≡ those_of o
  found_gives = sym (with_place m (with_blob blobs m.what) (with_blob blobs m.what)) ∙ ap (λ (x : ScannedRecord). items_of x x.what) (sym is) ∙ gives

-- a record's blob is bad at one moment as at another one between which the device was only read
pub fine_still : (sum : List ℕ → ℕ) (t u : Trace) (w : RecordContent) → t ≡ u → (HasBadBlob sum (state_of t).blobs.file w → ⊥) → HasBadBlob sum (state_of u).blobs.file w → ⊥
fine_still sum t u w same fine bad = fine (subst (λ (x : Trace). HasBadBlob sum (state_of x).blobs.file w) (sym same) bad)

-- an error says of damage what is known of it
pub damage_said : (e : Error) (items : List Item) (damage : Damage) → (IsCorrupt e → SaysDamage e items damage) → SaysDamage e items damage
damage_said (error.Corruption at) items damage bad = bad tt
damage_said (error.Unsupported t) items damage bad = tt
damage_said (error.Io e) items damage bad = tt
damage_said error.OutOfMemory items damage bad = tt
damage_said (error.Held n) items damage bad = tt
damage_said (error.NotReserved n) items damage bad = tt
damage_said error.PlacesUsedUp items damage bad = tt
damage_said (error.CollectionNotFound n) items damage bad = tt
damage_said (error.ReportableBug t) items damage bad = tt

-- so it does of damage that has a name, where that is known to be so
pub said_named : (e : Error) (items : List Item) (damage : Damage) {Bad : Type 0} → (IsCorrupt e → Bad) → (Names : Option DiskPtr → Type 0) → OnDamage {T = Unit {0}} (Err e) Names
    → ((name : Option DiskPtr) → Bad → Names name → SaysDamage (error.Corruption name) items damage) → SaysDamage e items damage
said_named (error.Corruption at) items damage bad Names named says = says at (bad tt) named
said_named (error.Unsupported t) items damage bad Names named says = tt
said_named (error.Io e) items damage bad Names named says = tt
said_named error.OutOfMemory items damage bad Names named says = tt
said_named (error.Held n) items damage bad Names named says = tt
said_named (error.NotReserved n) items damage bad Names named says = tt
said_named error.PlacesUsedUp items damage bad Names named says = tt
said_named (error.CollectionNotFound n) items damage bad Names named says = tt
said_named (error.ReportableBug t) items damage bad Names named says = tt

-- what the next message is, where more is known of what is ahead then
pub next_as : (ahead after : List Item → Damage → Type 0) → ((items : List Item) (damage : Damage) → ahead items damage → after items damage) → (items : List Item) (damage : Damage) (r : Option (Result Item Error)) → NextGives ahead items damage r → NextGives after items damage r
next_as ahead after then items damage None gives = gives
next_as ahead after then items damage (Some (Ok item)) gives = (gives.0, gives.1, then gives.0 damage gives.2)
next_as ahead after then items damage (Some (Err e)) gives = gives

-- what holds where a message or an error came, and where none came
pub some_as : {X : Type 0} (o : Option X) (P Q : Type 0) → (P → Q) → OnSome o P → OnSome o Q
some_as None P Q more holds = tt
some_as (Some x) P Q more holds = more holds

pub some_so : {X : Type 0} (o : Option X) (P : X → Type 0) → ((x : X) → P x) → IfSome o P
some_so None P holds = tt
some_so (Some x) P holds = holds x

pub none_so : {X : Type 0} (o : Option X) (P : Type 0) → P → IfNone o P
none_so None P holds = holds
none_so (Some x) P holds = tt
