-- Why a blob was not made, and what the log keeps of that.
use Rattle.std.proofs.Common.{◌≡◌, ◌⊎◌, ◌∙◌, ap, sym, inl, inr, ℕ, ℤ, List, Option, Some, None, true, false, if◌then◌else◌, Bool, Result, Ok, Err}
use Rattle.std.specs.declared.io.Error.{Error as IoError}
use Rattle.sled_codec.specs.declared.result.Error.{Error}
use Rattle.sled_codec.specs.declared.result.Error.TheVariants as error
use Rattle.sled_store.specs.Answers.{is_fault, is_fault_kind}
use Rattle.std.specs.Prelude.{OnOk}
use Rattle.sled_store.specs.Blobs.{MakeAnswers, UnlessFault, making}
use Rattle.sled_store.specs.Device.{Trace}
use Rattle.sled_store.specs.Script.{after_all}
use Rattle.sled_core.specs.inside.Causes.{fault_in}
use Rattle.sled_core.specs.Reserves.{MadeAnswers}

-- what is kept of an error, by whether the device failed
pub kept_by : (e : IoError) (b : Bool) → is_fault e ≡ b → (if is_fault e then Some e else None) ≡ (if b then Some e else None)
kept_by e b is = ap (λ (x : Bool). if x then Some e else None) is

pub made_answers : (result : Result (Unit {0}) Error) (file : Option (List ℕ)) (new : Option IoError) (before after : ℕ) → new ≡ fault_in result → MakeAnswers result file before after → MadeAnswers result file new before after
made_answers (Ok u) file new before after is made = (is, made.0, made.1)
made_answers (Err (error.Io e)) file new before after is (inl failed) = inl (is ∙ kept_by e true failed.0, failed.0, failed.1)
made_answers (Err (error.Io e)) file new before after is (inr exists) = inr (is ∙ kept_by e false (ap is_fault_kind exists.0), exists.0, exists.1, exists.2)
made_answers (Err error.OutOfMemory) file new before after is made = (is, made)
made_answers (Err (error.Unsupported text)) file new before after is made = absurd made
made_answers (Err error.PlacesUsedUp) file new before after is made = absurd made
made_answers (Err (error.Corruption at)) file new before after is made = absurd made
made_answers (Err (error.NotReserved at)) file new before after is made = absurd made
made_answers (Err (error.CollectionNotFound name)) file new before after is made = absurd made
made_answers (Err (error.ReportableBug text)) file new before after is made = absurd made
made_answers (Err (error.Held at)) file new before after is made = absurd made

-- Where the log keeps no failure the blob was made, or nothing was changed.
pub made_or_same : (result : Result (Unit {0}) Error) (place : ℤ) (bytes : List ℕ) (file : Option (List ℕ)) (new : Option IoError) (before after : ℕ) (old now : Trace) → MadeAnswers result file new before after → UnlessFault result old now
    → OnOk result (now ≡ after_all (making place bytes) old) → new ≡ None → (now ≡ old) ⊎ ((file ≡ None) × (now ≡ after_all (making place bytes) old))
made_or_same (Ok u) place bytes file new before after old now made left done none = inr (made.1, done)
made_or_same (Err (error.Io e)) place bytes file new before after old now (inl failed) left done none = let clash : Some e ≡ None = sym failed.0 ∙ none in cc
made_or_same (Err (error.Io e)) place bytes file new before after old now (inr exists) (inl fault) done none = let clash : true ≡ false = sym fault ∙ ap is_fault_kind exists.1 in cc
made_or_same (Err (error.Io e)) place bytes file new before after old now (inr exists) (inr same) done none = inl same
made_or_same (Err error.OutOfMemory) place bytes file new before after old now made left done none = inl left
made_or_same (Err (error.Unsupported text)) place bytes file new before after old now made left done none = absurd made
made_or_same (Err error.PlacesUsedUp) place bytes file new before after old now made left done none = absurd made
made_or_same (Err (error.Corruption at)) place bytes file new before after old now made left done none = absurd made
made_or_same (Err (error.NotReserved at)) place bytes file new before after old now made left done none = absurd made
made_or_same (Err (error.CollectionNotFound name)) place bytes file new before after old now made left done none = absurd made
made_or_same (Err (error.ReportableBug text)) place bytes file new before after old now made left done none = absurd made
made_or_same (Err (error.Held at)) place bytes file new before after old now made left done none = absurd made
