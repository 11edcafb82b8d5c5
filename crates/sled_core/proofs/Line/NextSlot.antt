-- The slot that is handed out next has no segment that a table from the stable end on needs, and the mark that joined isn't above that.
use Rattle.std.proofs.Common.{◌≡◌, ◌≢◌, ◌⊎◌, ◌∙◌, ◌≤◌, ◌≤ℤ◌, ℕ, ℤ, pos, List, None, true, false, sym, subst, arith, inl, inr}
use Rattle.std.specs.List.{Contains}
use Rattle.std.proofs.lemmas.Bool.{cases_lt, true≢false}
use Rattle.std.proofs.lemmas.Int.{ints}
use Rattle.sled_codec.specs.History.{Batch, History, Message, table}
use Rattle.sled_codec.specs.Snapshots.{stable_place}
use Rattle.sled_store.specs.Device.{Trace}
use Rattle.sled_store.specs.Marks.{IsIn, IsNeeded, slot_with}
use Rattle.sled_store.specs.SegmentStates.{is_free, next_slot, slot_at}
use Rattle.sled_store.specs.Tracked.{IsNoEntry}
use Rattle.sled_store.proofs.Histories.TableParts.{from_table}
use Rattle.sled_store.proofs.Marks.MarkSteps.{next_free}
use Rattle.sled_core.specs.Account.{account_of}
use Rattle.sled_core.specs.declared.logger.Log.{Log}
use Rattle.sled_core.specs.Fits.{fault_of, held_of, machine_at, noted_in, segment_size_of, stable_end, synced_end}
use Rattle.sled_core.specs.Logged.{logged}
use Rattle.sled_core.specs.OpenBatches.{stable_below}
use Rattle.sled_core.specs.Recoverable.{NoHeaderOfZeros}
use Rattle.sled_core.specs.Unmarked.{without}
use Rattle.sled_core.specs.inside.LogSegments.{held_since}
use Rattle.sled_core.specs.inside.MarksFit.{IsPassed}
use Rattle.sled_core.specs.inside.OpenBatches.{IsOpenBatch}
use Rattle.sled_core.specs.invariants.Running.{Fits}
use Rattle.sled_core.proofs.Holds.FitsBatches.{stable_noted}
use Rattle.sled_core.proofs.Holds.HeldFrom.{held_marked}
use Rattle.sled_core.proofs.Line.StillThere.{entry_placed}
use Rattle.sled_core.proofs.Reached.StableBelow.{stable_is, stable_rises}

-- What lies below a place, and in none of the batches that are open there, lies below the stable place.
not_open : (reach : ℕ) (bs : List Batch) (at : ℤ) → at ≤ℤ pos reach → ((b : Batch) → Contains bs b → IsOpenBatch reach b → at ≤ℤ pos b.low)
    → at ≤ℤ pos (stable_below reach bs)
not_open reach bs at low apart = elim (stable_is reach bs) [
  | inl all ↦ subst (λ n. at ≤ℤ pos n) (sym all) low
  | inr (b, there, is, is_open) ↦ subst (λ n. at ≤ℤ pos n) (sym is) (apart b there is_open)
]

module _ {D C : Type 0} (trace : D → Trace) (sum : List ℕ → ℕ) (log : Log D C) (H : History) (A f : ℕ) (U : List Message)
    (fits : Fits trace sum log H A f U) where
  -- The stable end is that of the history's batches.
  stable_same : stable_below (synced_end log) H.batches ≡ stable_end log
  unfolding Fits
  stable_same = stable_noted (synced_end log) _ (noted_in log) (logged H) fits.shows.batches

  pub mark_stable_end : fault_of log ≡ None → (account_of log).mark ≤ℤ pos (stable_end log)
  unfolding Fits
  mark_stable_end none =
      let begun = fits.shows.parts.holds.begun in
      let began : ℕ = stable_place begun.first.stable in
      let its : IsPassed begun.first (synced_end log) H.batches log.marks.joined = (fits.passed none begun.first begun.begins).joined in
      subst (λ n. log.marks.joined ≤ℤ pos n) stable_same (elim its [
        | inl is ↦ not_open (synced_end log) H.batches log.marks.joined (let reached = begun.reached in omega (arith, ints, is, reached))
            (λ b there is_open. elim (cases_lt b.low began) [
              | inl under ↦ absurd (
                  let ends = begun.fits.batches b there under in
                  let reached = begun.reached in
                  let high = is_open.1 in
                  omega (arith, ends, reached, high))
              | inr above ↦ omega (arith, ints, is, above)
            ])
        | inr (under, apart) ↦ not_open (synced_end log) H.batches log.marks.joined (omega (arith, ints, under))
            (λ b there is_open. elim (apart b there) [
              | inl lower ↦ omega (arith, ints, lower)
              | inr behind ↦ absurd (let high = is_open.1 in omega (arith, ints, under, behind, high))
            ])
      ])

  pub next_not_needed : (cut place : ℕ) → (fault_of log ≡ None) ⊎ NoHeaderOfZeros sum → stable_end log ≤ cut
      → IsNeeded (segment_size_of log) H cut place → (k : ℕ) × IsIn (machine_at log) k place × (k ≢ next_slot (machine_at log))
  unfolding Fits
  next_not_needed cut place so up needed =
      let size : ℕ = segment_size_of log in
      let begun = fits.shows.parts.holds.begun in
      let m : Message = needed.entry in
      let entry : Contains (table H cut m.page) m =
      subst (λ n. Contains (table H cut n) m) (sym (from_table H cut needed.page m needed.there).1) needed.there in
      let held : held_of begun ≤ cut = elim so [
        | inl none ↦ (let low = mark_stable_end none in held_marked log.marks.ordered begun cut (omega (arith, ints, low, up)))
        | inr zeros ↦ (
            let low = (fits.shows.in_slots begun.first begun.begins).not_above zeros in
            let near = stable_rises fits.shows.reach (synced_end log) fits.shows.parts.reached.near H.batches in
            omega (arith, low, near, stable_same, up))
      ] in
      let is = entry_placed trace sum log H A f U fits.shows m cut held entry in
      let base : ℕ = held_since size log.marks fits.shows.account.first in
      let free = next_free size base (without U H) (IsNoEntry (without U H) base) (machine_at log) fits.shows.account.account in (
        slot_with size m,
        record { taken = is.taken; lsn = is.lsn ∙ needed.within },
        λ same. true≢false (sym free ∙ subst (λ (i : ℕ). is_free (slot_at (machine_at log) i).state ≡ false) same is.taken),
      )
