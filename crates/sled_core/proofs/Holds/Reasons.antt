-- Where a call of a log fails, for which reasons it may: the errors that it never answers are ruled out once.
use Rattle.std.specs.declared.io.Error.{Error as IoError}
use Rattle.std.proofs.Common.{◌≡◌, ◌∙◌, inl, inr, ℕ, ℤ, Option, Some, None, Result, Ok, Err, refl, sym, ap}
use Rattle.std.specs.Prelude.{IfErr}
use Rattle.sled_codec.specs.declared.result.Error.{Error}
use Rattle.sled_codec.specs.declared.result.Error.TheVariants as error
use Rattle.sled_core.specs.Causes.{FaultAnswers, HeldAnswers, ReserveAnswers, ReserveCauses}
use Rattle.sled_core.specs.Reasons.{ReserveFails, TellsOf, WriteFails}

-- One that wants nothing tells of the failure that the log keeps,
pub end_fails : {T : Type 0} (result : Result T Error) (fault : Option IoError) → FaultAnswers result fault → IfErr result (TellsOf fault)
end_fails (Ok v) fault answers = tt
end_fails (Err (error.Io x)) fault answers = (x, refl, answers)
end_fails (Err error.OutOfMemory) fault answers = absurd answers
end_fails (Err error.PlacesUsedUp) fault answers = absurd answers
end_fails (Err (error.Unsupported text)) fault answers = absurd answers
end_fails (Err (error.Held at)) fault answers = absurd answers
end_fails (Err (error.Corruption at)) fault answers = absurd answers
end_fails (Err (error.NotReserved at)) fault answers = absurd answers
end_fails (Err (error.CollectionNotFound name)) fault answers = absurd answers
end_fails (Err (error.ReportableBug text)) fault answers = absurd answers

-- so it doesn't fail where none is kept.
pub end_succeeds : {T : Type 0} (result : Result T Error) (fault : Option IoError) → fault ≡ None → FaultAnswers result fault → IfErr result (λ e. ⊥)
end_succeeds result fault none answers = by result (end_fails result fault answers) where
  clash : (x : IoError) → None ≡ Some x → ⊥
  clash x is = cc

  by : {T : Type 0} (result : Result T Error) → IfErr result (TellsOf fault) → IfErr result (λ e. ⊥)
  by (Ok v) reason = tt
  by (Err e) reason = clash reason.0 (sym none ∙ reason.2)

-- One that writes buffers failed for the device, for want of memory or of places, or was held.
pub write_fails : {T : Type 0} (result : Result T Error) (held : Option ℕ) (used : Type 0) (old new : Option IoError) (before after : ℕ) → HeldAnswers result held used old new before after
    → IfErr result (WriteFails held used old new before after)
write_fails (Ok v) held used old new before after answers = tt
write_fails (Err (error.Io x)) held used old new before after answers = inl (x, refl, answers)
write_fails (Err error.OutOfMemory) held used old new before after answers = inr (inl (refl, answers.0, answers.1, answers.2, answers.3))
write_fails (Err error.PlacesUsedUp) held used old new before after answers = inr (inr (inl (refl, answers.0, answers.1, answers.2, answers.3)))
write_fails (Err (error.Held at)) held used old new before after answers = inr (inr (inr (answers.0.0, ap error.Held answers.0.2, answers.0.1, answers.1, answers.2, answers.3, answers.4)))
write_fails (Err (error.Unsupported text)) held used old new before after answers = absurd answers
write_fails (Err (error.Corruption at)) held used old new before after answers = absurd answers
write_fails (Err (error.NotReserved at)) held used old new before after answers = absurd answers
write_fails (Err (error.CollectionNotFound name)) held used old new before after answers = absurd answers
write_fails (Err (error.ReportableBug text)) held used old new before after answers = absurd answers

-- A reservation failed for what the log keeps or for its blob, for the kind of its message, for want of places or of memory, or as many were open as may be.
pub reserve_fails : {T : Type 0} (result : Result T Error) (used : Type 0) (least : ℤ → Type 0) (at : ReserveCauses) → ReserveAnswers result used least at → IfErr result (ReserveFails used least at)
reserve_fails (Ok v) used least at answers = tt
reserve_fails (Err (error.Io x)) used least at answers = inl (x, refl, answers)
reserve_fails (Err (error.Unsupported text)) used least at answers = inr (inl (answers.2, answers.0, answers.1))
reserve_fails (Err error.PlacesUsedUp) used least at answers = inr (inr (inl (refl, answers.0, answers.1, answers.2)))
reserve_fails (Err (error.Held place)) used least at answers = inr (inr (inr (inl (place, refl, answers.0, answers.1, answers.2, answers.3, answers.4))))
reserve_fails (Err error.OutOfMemory) used least at answers = inr (inr (inr (inr (refl, answers.0, answers.1))))
reserve_fails (Err (error.Corruption place)) used least at answers = absurd answers
reserve_fails (Err (error.NotReserved place)) used least at answers = absurd answers
reserve_fails (Err (error.CollectionNotFound name)) used least at answers = absurd answers
reserve_fails (Err (error.ReportableBug text)) used least at answers = absurd answers
