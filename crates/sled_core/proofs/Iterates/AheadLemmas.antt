-- What is left is ahead of an iterator that has it, of a configuration and of a log.
use Rattle.std.proofs.Common.{◌≡◌, ◌∙◌, ℕ, ℤ, List, [], Bool, true, false, Option, None, Some, IfNone, drop, ap, sym, subst}
use Rattle.std.specs.Borrow.{MutBor}
use Rattle.sled_codec.specs.declared.result.Error.{Error}
use Rattle.sled_store.specs.declared.config.RunningConfig.{RunningConfig}
use Rattle.sled_store.specs.Device.{Trace, state_of}
use Rattle.sled_core.specs.declared.iterator.Segment.{Segment}
use Rattle.sled_core.specs.declared.iterator.log_iter.LogIter.{LogIter}
use Rattle.sled_core.specs.declared.iterator.rest.Rest.{Rest}
use Rattle.sled_core.specs.declared.iterator.scan.ScannedRecord.{ScannedRecord}
use Rattle.sled_core.specs.declared.logger.Log.{Log}
use Rattle.sled_core.specs.inside.Ahead.{IsLeft, LeftBehind}
use Rattle.sled_core.specs.Fits.{config_of, device_of, machine_at, segment_size_of, stable_end}
use Rattle.sled_core.specs.Iterates.{Item, Damage, GivesOf, IsIteration}
use Rattle.sled_core.specs.Iterators.{BorrowsFile, BorrowsLog, GoesOver}
use Rattle.sled_core.specs.invariants.Iterators.{IsAhead}
use Rattle.sled_core.specs.LogSegments.{AreSegments, begins_from}
use Rattle.sled_core.specs.Sources.{config_in}

module _ {D C : Type 0} (trace : D → Trace) (sum : List ℕ → ℕ) (it : LogIter D C) where
  -- what is left of its configuration
  pub left_ahead : (config : RunningConfig D C) (r : Rest) → config_in it.source ≡ config → it.rest ≡ r → (items : List Item) (damage : Damage) → IsLeft trace sum config r items damage → IsAhead trace sum it items damage
  unfolding IsAhead
  left_ahead config r on has items damage left = by it.refusal where
    here : IsLeft trace sum (config_in it.source) it.rest items damage
    here = subst (λ (x : RunningConfig D C). IsLeft trace sum x it.rest items damage) (sym on) (subst (λ (q : Rest). IsLeft trace sum config q items damage) (sym has) left)

    by : (o : Option Error) → IfNone o (IsLeft trace sum (config_in it.source) it.rest items damage)
    by None = here
    by (Some e) = tt

  -- a configuration that it borrows
  pub file_ahead : (entry : MutBor (RunningConfig D C)) (now : RunningConfig D C) → BorrowsFile entry now it → config_in it.source ≡ now
  file_ahead entry now borrows = ap config_in borrows

-- The segments of a log of which none was read are ahead of an iterator that borrows the log.
pub goes_over : {D C : Type 0} (trace : D → Trace) (sum : List ℕ → ℕ) (log : Log D C) (lsn : ℤ) (it : LogIter D C) (ss : List Segment) → AreSegments (segment_size_of log) (machine_at log) (begins_from (segment_size_of log) lsn) (stable_end log) ss
    → (entry : MutBor (Log D C)) → entry.now ≡ log → BorrowsLog entry it → (r : Rest) → it.rest ≡ r → r.strict ≡ true → r.segments.items ≡ ss → r.end ≡ stable_end log → r.read ≡ 0 → r.met.items ≡ [] → r.given ≡ 0 → r.damaged ≡ false → GoesOver trace sum log lsn it
unfolding IsLeft
goes_over {D} {C} trace sum log lsn it ss are entry lent borrows r rest strict segments end read met given undamaged =
    let size : ℕ = segment_size_of log in
    let s = state_of (trace (device_of log)) in
    let On : ℕ → Bool → List Segment → List Item → Damage → Type 0 = λ n b l. IsIteration sum size s.log.bytes s.blobs.file n b l in (
      ss,
      are,
      λ items damage gives.
          let left : IsLeft trace sum (config_of log) r items damage = (
            λ file. absurd (let no : true ≡ false = sym strict ∙ file in cc),
            subst (λ (b : Bool). GivesOf sum s.blobs.file r.end (drop r.given r.met.items) (LeftBehind b (On r.end r.strict (drop r.read r.segments.items))) items damage) (sym undamaged)
                (subst (λ (b : Bool). GivesOf sum s.blobs.file r.end (drop r.given r.met.items) (On r.end b (drop r.read r.segments.items)) items damage) (sym strict)
                (subst (λ n. GivesOf sum s.blobs.file n (drop r.given r.met.items) (On n true (drop r.read r.segments.items)) items damage) (sym end)
                (subst (λ n. GivesOf sum s.blobs.file (stable_end log) (drop n r.met.items) (On (stable_end log) true (drop r.read r.segments.items)) items damage) (sym given)
                (subst (λ (ms : List ScannedRecord). GivesOf sum s.blobs.file (stable_end log) ms (On (stable_end log) true (drop r.read r.segments.items)) items damage) (sym met)
                (subst (λ n. On (stable_end log) true (drop n r.segments.items) items damage) (sym read)
                (subst (λ (l : List Segment). On (stable_end log) true l items damage) (sym segments) gives)))))),
          ) in
          left_ahead trace sum it (config_of log) r (ap config_in borrows ∙ ap config_of lent) rest items damage left,
    )
