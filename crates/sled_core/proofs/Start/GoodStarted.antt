-- A table that is good stays so while a log starts on it, fills the slots that the table doesn't use with zeros and cuts free ones off, also where a call fails.
use Rattle.std.proofs.Common.{◌≡◌, ◌≢◌, ◌∙◌, ◌≤◌, ◌+◌, ◌-◌, ◌*◌, ◌/◌, ◌%◌, ◌<◌, ℤ, ℕ, zero, suc, Bool, true, false, if◌then◌else◌, List, [], ◌∷◌, ◌++◌, length, take, drop, replicate, map, Option, refl, sym, ap, subst, arith, inl, inr, length-take}
use Rattle.std.specs.List.{All}
use Rattle.std.proofs.Math.Nat.{mod-add-div'}
use Rattle.std.proofs.lemmas.Bool.{cases_lt}
use Rattle.std.proofs.lemmas.List.{length-replicate}
use Rattle.std.proofs.lemmas.List.Elements.{All-tail}
use Rattle.sled_codec.specs.declared.result.DiskPtr.{DiskPtr}
use Rattle.sled_codec.specs.declared.result.DiskPtr.TheVariants.{Inline, Blob}
use Rattle.sled_codec.specs.Places.{part}
use Rattle.sled_codec.specs.Pointers.{lid_of}
use Rattle.sled_codec.specs.History.{Message, History}
use Rattle.sled_codec.specs.Snapshots.{SnapshotModel, stable_place}
use Rattle.sled_store.specs.Begin.{slots_of, is_used, unused, fill, filling}
use Rattle.sled_store.specs.Device.{Event, Trace, State, Wrote, Cut, Synced, state_of, step, content_of, overwritten}
use Rattle.sled_store.specs.Script.{Performs, after_all}
use Rattle.sled_store.specs.inside.Script.{Along}
use Rattle.sled_store.specs.SegmentStates.{SlotState, may_be_cut, left_after, cutting}
use Rattle.sled_store.specs.Started.{found, started}
use Rattle.sled_store.proofs.Accounts.StartNext.{left_below, used_left}
use Rattle.sled_store.proofs.LogFile.LogLemmas.{part_written, part_cut}
use Rattle.sled_store.proofs.LogFile.OverwrittenLemmas.{length-overwritten}
use Rattle.sled_store.proofs.Segments.FilledLemmas.{slot_before, slot_inside, free_below}
use Rattle.sled_store.proofs.Traces.MomentLemmas.{at_last}
use Rattle.sled_store.proofs.Traces.ScriptLemmas.{performs_throughout, along_last}
use Rattle.sled_core.specs.LogFile.{MessageStands}
use Rattle.sled_core.specs.Good.{HasOwnBlob, ReadsAt, IsGood}
use Rattle.sled_core.proofs.Tail.LogFileLemmas.{stands_some}
use Rattle.sled_core.proofs.Start.UsedEntries.{entry_used}
use Rattle.sled_core.proofs.Tail.Moved.{message_moved}
use Rattle.sled_core.proofs.Torn.KeptSlots.{along_both}
use Rattle.sled_core.proofs.Torn.StartedSlots.{UsedIn}

-- a write into one slot leaves what lies in another
other_slot : (size : ℕ) (log : List ℕ) (k : ℕ) (now : List ℕ) (lid n : ℕ) → length now ≤ size → k ≢ lid / size → lid % size + n ≤ size → lid + n ≤ length log → part (overwritten log (k * size) now) lid n ≡ part log lid n
other_slot size log k now lid n short other within there =
    let j : ℕ = lid / size in
    let parts : lid % size + j * size ≡ lid = mod-add-div' lid size in
    let count : lid + n - lid ≡ n = omega arith in
    ap (λ c. take c (drop lid (overwritten log (k * size) now))) (sym count)
    ∙ part_written log (k * size) now lid (lid + n) there (elim (cases_lt k j) [
      | inl before ↦ inr (let ends = slot_before size k j before in omega (arith, ends, parts, short))
      | inr behind ↦ inl (let ends = slot_before size j k (omega (arith, behind, other)) in omega (arith, ends, parts, within))
    ])
    ∙ ap (λ c. take c (drop lid log)) count

module _ (size : ℕ) (s : SnapshotModel) (old : State) where
  -- a slot of the file that is used
  abbrev Uses : ℕ → Type 0
  Uses = UsedIn size (length old.log.bytes) s

  -- The device has what it had in the slots that are used, and its blobs.
  record HasUsed (now : State) : Type 0 where
    there : (lid n : ℕ) → Uses (lid / size) → lid % size + n ≤ size → lid + n ≤ length old.log.bytes → lid + n ≤ length now.log.bytes
    same : (lid n : ℕ) → Uses (lid / size) → lid % size + n ≤ size → lid + n ≤ length old.log.bytes → part now.log.bytes lid n ≡ part old.log.bytes lid n
    blobs : now.blobs.file ≡ old.blobs.file

  written : (now : State) (k : ℕ) (t : List ℕ) → is_used size s k ≡ false → length t ≤ size → HasUsed now → HasUsed (step (Wrote (k * size) (replicate size 0) t) now)
  written now k t free short has = record {
    there = λ lid n used within there. let here = has.there lid n used within there in omega (arith, here, length-overwritten now.log.bytes (k * size) t);
    same = λ lid n used within there.
        other_slot size now.log.bytes k t lid n short (λ at. let both : true ≡ false = sym used.0 ∙ ap (is_used size s) (sym at) ∙ free in cc) within (has.there lid n used within there)
        ∙ has.same lid n used within there;
    blobs = has.blobs;
  }

  fills : (ks : List ℕ) → All (λ k. is_used size s k ≡ false) ks → (now : State) → HasUsed now → Along HasUsed (map (fill size) ks ++ Synced ∷ []) now
  fills [] free now has = (has, (λ torn none. absurd none), record { there = has.there; same = has.same; blobs = has.blobs })
  fills (k ∷ ks) free now has =
      let here : is_used size s k ≡ false = free 0 k (omega arith) in (
        has,
        (λ torn tears. let short = tears.1 in subst (λ (e : Event). HasUsed (step e now)) (sym tears.2) (written now k tears.0 here (omega (arith, short, length-replicate {A = ℕ} size 0)) has)),
        fills ks (All-tail (λ x. is_used size s x ≡ false) k ks free) (step (fill size k) now) (written now k (replicate size 0) here (omega (arith, length-replicate {A = ℕ} size 0)) has),
      )

  all_same : HasUsed old
  all_same = record { there = λ lid n used within there. there; same = λ lid n used within there. refl; blobs = refl }

  filling_has : (ks : List ℕ) → All (λ k. is_used size s k ≡ false) ks → Along HasUsed (filling size ks) old
  filling_has [] free = all_same
  filling_has (k ∷ ks) free = fills (k ∷ ks) free old all_same

  -- slots behind the used ones are cut off
  cut_behind : (now : State) (k to : ℕ) → ((j : ℕ) → Uses j → j < k) → k * size ≤ to → HasUsed now → HasUsed (step (Cut (k * size) to) now)
  cut_behind now k to below far has = record {
    there = λ lid n used within there.
        let here = has.there lid n used within there in
        let low = slot_before size (lid / size) k (below (lid / size) used) in
        omega (arith, here, low, within, far, mod-add-div' lid size, length-take to now.log.bytes);
    same = λ lid n used within there.
        let here = has.there lid n used within there in
        let low = slot_before size (lid / size) k (below (lid / size) used) in
        let count : lid + n - lid ≡ n = omega arith in
        ap (λ c. take c (drop lid (take to now.log.bytes))) (sym count)
        ∙ part_cut now.log.bytes to lid (lid + n) here (omega (arith, low, within, far, mod-add-div' lid size))
        ∙ ap (λ c. take c (drop lid now.log.bytes)) count
        ∙ has.same lid n used within there;
    blobs = has.blobs;
  }

  cutting_has : (xs : List SlotState) (n : ℕ) → ((j : ℕ) → Uses j → j < left_after n xs) → (now : State) → HasUsed now → Along HasUsed (cutting size n xs) now
  cutting_has xs zero below now has = has
  cutting_has xs (suc k) below now has = by (may_be_cut k xs) below (cutting_has xs k)
    where
      by : (b : Bool) → ((j : ℕ) → Uses j → j < (if b then left_after k xs else suc k)) → (((j : ℕ) → Uses j → j < left_after k xs) → (x : State) → HasUsed x → Along HasUsed (cutting size k xs) x)
          → Along HasUsed (if b then Cut (k * size) (k * size) ∷ Synced ∷ cutting size k xs else []) now
      by false below on = has
      by true below on =
          let lower : (j : ℕ) → Uses j → j < k = (λ j used. let low = below j used in omega (arith, low, left_below xs k)) in
          let cut = cut_behind now k (k * size) lower (omega arith) has in (
            has,
            (λ torn tears. subst (λ (e : Event). HasUsed (step e now)) (sym tears.2) (cut_behind now k tears.0 lower tears.1 has)),
            (cut, (λ torn none. absurd none), on below (step Synced (step (Cut (k * size) (k * size)) now)) (record { there = cut.there; same = cut.same; blobs = cut.blobs })),
          )

  -- a record that stands in a slot that is used stands there
  stands_used : (sum : List ℕ → ℕ) → 0 < size → (now : State) → HasUsed now → (lid number : ℕ) (m : Message) → is_used size s (lid / size) ≡ true → MessageStands sum size old.log.bytes lid number m → MessageStands sum size now.log.bytes lid number m
  stands_used sum some now has lid number m used r =
      let grown = stands_some sum size old.log.bytes lid number m r in
      let in_file : lid + m.size ≤ length old.log.bytes = r.stands.in_file in
      let here : Uses (lid / size) = (used, slot_inside size (length old.log.bytes) lid m.size some (omega (arith, grown)) in_file) in
      message_moved sum size old.log.bytes now.log.bytes lid number m (has.same lid m.size here r.stands.in_slot in_file) (has.there lid m.size here r.stands.in_slot in_file) r

  reads_used : (sum : List ℕ → ℕ) → 0 < size → (now : State) → HasUsed now → (m : Message) (p : DiskPtr) → m.pointer ≡ p → is_used size s (lid_of p / size) ≡ true → ReadsAt sum size (content_of old) m p → ReadsAt sum size (content_of now) m p
  reads_used sum some now has m (Inline lid) at used reads = stands_used sum some now has lid (m.place / size) m used reads
  reads_used sum some now has m (Blob lid place) at used reads = subst (λ (f : ℤ → Option (List ℕ)). HasOwnBlob sum (f place) m) (sym has.blobs) reads

  -- Each call of a start leaves the used slots as they were.
  starting_has : (t : Trace) → state_of t ≡ old → Along HasUsed (started size (length old.log.bytes) s).calls old
  starting_has t is =
      let slots : ℕ = slots_of size (length old.log.bytes) in
      let free : List ℕ = unused size slots s in
      let fills : Along HasUsed (filling size free) old = filling_has free (λ k d lt. (free_below (is_used size s) slots k d lt).1) in
      subst (λ (x : State). Along HasUsed (started size (length old.log.bytes) s).calls x) is
      (along_both HasUsed (filling size free) (cutting size slots (found size slots s).slots) t (subst (λ (x : State). Along HasUsed (filling size free) x) (sym is) fills)
      (cutting_has (found size slots s).slots slots (λ j used. used_left size slots s j used.0 used.1) (state_of (after_all (filling size free) t))
      (along_last HasUsed (filling size free) t (subst (λ (x : State). Along HasUsed (filling size free) x) (sym is) fills))))

-- Whatever was done of the calls of a start, the table is good for what is read then.
pub good_started : (sum : List ℕ → ℕ) (size : ℕ) (s : SnapshotModel) (old new : Trace) → 0 < size → Performs (started size (length (state_of old).log.bytes) s).calls old new
    → (H : History) (A f : ℕ) → IsGood sum size (content_of (state_of old)) H A f s → IsGood sum size (content_of (state_of new)) H A f s
good_started sum size s old new some calls H A f good =
    let has = at_last (HasUsed size s (state_of old)) old new
    (performs_throughout (HasUsed size s (state_of old)) (started size (length (state_of old).log.bytes) s).calls old new calls (starting_has size s (state_of old) old refl)) in
    record {
      fits = good.fits;
      passes = good.passes;
      not_below = good.not_below;
      reads = λ page m there. reads_used size s (state_of old) sum some (state_of new) has m m.pointer refl (entry_used size s H (stable_place s.stable) good.table page m there) (good.reads page m there);
      table = good.table;
    }
