-- The first sealed buffer is written, behind what was written of its segment or at the beginning of it: what a crash leaves of it stands as before, and all of it up to the end of those behind it that were written before it. Where the last of these fills the segment, the next one begins.
use Rattle.std.proofs.Common.{◌≢◌, ◌≡◌, ◌≤◌, ◌<◌, ◌+◌, ◌/◌, ◌%◌, ◌^◌, ◌⊎◌, ◌∙◌, ℕ, max, Bool, true, false, nat_lt, if◌then◌else◌, List, ◌∷◌, length, take, sym, ap, subst, arith, inl, inr}
use Rattle.std.specs.List.{All}
use Rattle.std.proofs.lemmas.Bool.{cases_lt}
use Rattle.std.proofs.lemmas.Bool.Decides.{nat_tests}
use Rattle.sled_codec.specs.History.{History}
use Rattle.sled_codec.specs.Snapshots.{SnapshotModel}
use Rattle.sled_store.specs.Device.{overwritten, LeavesLog, Placement}
use Rattle.sled_store.specs.Foreign.{NoForeignLog}
use Rattle.sled_store.proofs.Histories.Ascending.{Ascends}
use Rattle.sled_core.specs.OpenBatches.{stable_below}
use Rattle.sled_core.specs.declared.iobuf.Reserved.{Reserved}
use Rattle.sled_core.specs.declared.iobuf.Sealed.{Sealed}
use Rattle.sled_core.specs.declared.iobuf.SegmentPosition.{SegmentPosition}
use Rattle.sled_core.specs.declared.iterator.scan.ScanEnd.{ScanEnd}
use Rattle.sled_core.specs.declared.iterator.scan.ScanEnd.TheVariants.{Full, Capped, Broken}
use Rattle.sled_core.specs.inside.Caps.{rest_why}
use Rattle.sled_core.specs.inside.Buffers.{batches_in, completed_in, records_end, records_of, NoPadding, Stands}
use Rattle.sled_core.specs.inside.Fits.{HasMark}
use Rattle.sled_core.specs.LogFile.{HasHeader}
use Rattle.sled_core.specs.inside.Reached.{BegunSegment, StandsAmong}
use Rattle.sled_core.specs.inside.Recoverable.{NoBatchEnds}
use Rattle.sled_core.specs.Recoverable.{NoHeaderOfZeros}
use Rattle.sled_core.specs.inside.SealedBuffers.{AreSealed, Laid, run_end, run_count}
use Rattle.sled_core.specs.SealedBuffers.{bytes_between}
use Rattle.sled_core.specs.Tail.{least_place}
use Rattle.sled_core.proofs.Reached.BufferPath.{HasOnly, ending_at}
use Rattle.sled_core.proofs.Reached.BufferStands.{met_in}
use Rattle.sled_core.specs.inside.Full.{StandsFull}
use Rattle.sled_core.proofs.Reached.StandsTo.{StandsTo}
use Rattle.sled_core.proofs.Sealed.HeadWritten.{head_filled, head_written, torn_head}
use Rattle.sled_core.proofs.Sealed.LaidLemmas.{EndsRise}
use Rattle.sled_core.proofs.Sealed.RecordsEnd.{records_why}
pub use Rattle.sled_core.proofs.Sealed.RunPath.{run_below}
use Rattle.sled_core.proofs.Sealed.RunPath.{MeetsRun, front_mark, meets_run, never_broken}
use Rattle.sled_core.proofs.Torn.TornLemmas.{after_write}

-- Where the first buffer isn't written, and a record has room where it begins. The last entry of the segment may be what fills it.
module _ (sum : List ℕ → ℕ) (none : NoHeaderOfZeros sum) (size : ℕ) (some : 256 ≤ size) (file : List ℕ) (site : SegmentPosition)
    (place_begins : site.place % size ≡ 0) (slot_begins : site.slot % size ≡ 0) (place_small : site.place + size < 2 ^ 63) (slot_small : site.slot + size < 2 ^ 63)
    (bytes : List ℕ) (from : ℕ) (begins : (from ≡ 0) ⊎ (20 ≤ from)) (rs : List Reserved) (b : Sealed) (rest : List Sealed)
    (fresh : b.is_written ≡ false) (closed : b.open_count ≡ 0) (are : AreSealed from rs (b ∷ rest)) (rise : EndsRise from (b ∷ rest) size) (inside : b.end ≤ length bytes)
    (stand : All (Stands sum size (site.place / size) bytes) rs) (has_room : from + 32 ≤ size)
    {H : History} (header : from ≡ 0 → HasMark sum site bytes H)
    (laid : Laid file site.slot bytes from (b ∷ rest) size) {others : List BegunSegment} (reach : ℕ) (first : SnapshotModel) {held : ℕ} (alone : StandsAmong sum held size file site from others reach H first) where
  abbrev asked : List ℕ
  asked = bytes_between bytes from b.end

  abbrev new : List ℕ
  new = overwritten file (site.slot + from) asked

  -- where those end that are written now
  abbrev pub stop : ℕ
  stop = run_end b.end rest

  -- and their entries
  abbrev pub done : List Reserved
  done = take (b.count + run_count rest) rs

  -- where the records of these end
  abbrev pub last : ℕ
  last = records_end done stop

  abbrev records : List Reserved
  records = records_of done

  abbrev why : ScanEnd
  why = records_why size done stop

  run : MeetsRun sum size file new site bytes from b.end done stop
  run = meets_run sum size file site place_begins slot_begins place_small slot_small bytes from rs b rest fresh closed are rise inside stand laid

  its_mark : from ≡ 0 → HasMark sum site asked H
  its_mark none_yet = front_mark sum site bytes H from b.end none_yet (run.headed none_yet) (header none_yet)

  module _ (has : HasOnly H (completed_in site bytes done) (batches_in site bytes done) (site.place + max 20 from) (site.place + stop)) (no_end : why ≢ Broken → NoBatchEnds H (site.place + last) (site.place + size)) where
    -- What a crash leaves of it.
    pub torn_head_sealed : (now left : List ℕ) → length now ≤ length asked → LeavesLog (after_write file (site.slot + from) asked now) left → {placed : List Placement}
        → NoForeignLog sum size (after_write file (site.slot + from) asked now) placed left → StandsTo sum size left H (stable_below reach H.batches) first reach
    torn_head_sealed now left no_more leaves {placed} only_own =
        torn_head sum none size some file site from asked b.end run.covers run.reaches run.headed has_room place_begins slot_begins place_small its_mark run.clean
        reach first alone (met_in site bytes records) last why run.clear run.path run.ends (run.truth H has) (run.caps H has no_end) now left no_more leaves {placed = placed} only_own

    -- All of it, where the file reaches up to the slot.
    module _ (ordered : Ascends H.messages) (there : site.slot ≤ length file) (low_enough : least_place size first ≤ site.place) (has_header : HasHeader sum new site) where
      -- Where nothing fills the segment, it goes on behind the buffers that are written now.
      pub head_sealed_written : All NoPadding done → StandsAmong sum held size new site stop others (site.place + stop) H first
      head_sealed_written plain =
          let at : last ≡ stop = elim run.records.last [ inl l ↦ l.1 | inr f ↦ absurd (f.unlike plain) ] in
          let reason : why ≡ ending_at size stop = elim run.records.last [ inl l ↦ l.2 | inr f ↦ absurd (f.unlike plain) ] in
          subst (λ n. StandsAmong sum held size new site n others (site.place + n) H first) at
          (head_written sum none size some file site from asked b.end run.covers run.reaches run.headed has_room place_begins slot_begins place_small its_mark run.clean
          reach first alone (met_in site bytes records) last why run.clear run.path run.ends (run.truth H has) (run.caps H has no_end) ordered there low_enough has_header
          (λ more. let test : nat_lt size (stop + 32) ≡ false = grind (arith, nat_tests, more, at) in reason ∙ ap (λ (o : Bool). if o then Full else Broken) test))

      -- Where the last of them ends with the segment, the reading goes on in the next one: what was reached ends with the records.
      pub head_sealed_filled : stop ≡ size → StandsFull sum held size new (site.place + size) others (site.place + last) H first
      head_sealed_filled full =
          let within : last ≤ size = let end = run.records.low in let low = run.low in omega (arith, end, low) in
          head_filled sum none size some file site from asked b.end run.covers run.reaches run.headed has_room place_begins slot_begins place_small its_mark run.clean
          reach first alone (met_in site bytes records) last why run.clear run.path run.ends (run.truth H has) (run.caps H has no_end) ordered there low_enough has_header
          goes within
          (elim run.records.last [ inl l ↦ λ m at_m. none_between l.1 m.place | inr f ↦ (run.none_filled H has f).0 ])
          (elim run.records.last [ inl l ↦ λ c at_c. none_between l.1 c.low | inr f ↦ (run.none_filled H has f).1 ])
          (no_end goes)
        where
          full_ending : why ≡ ending_at size stop → why ≡ rest_why size stop
          full_ending is = let test : nat_lt size (stop + 32) ≡ true = grind (arith, nat_tests, full) in is ∙ ap (λ (o : Bool). if o then Full else Broken) test ∙ sym (ap (λ (o : Bool). if o then Full else Capped) test)

          goes : why ≢ Broken
          goes = elim run.records.last [ inl l ↦ λ broken. never_broken size stop (sym (full_ending l.2) ∙ broken) | inr f ↦ λ broken. never_broken size last (sym f.reason ∙ broken) ]

          none_between : last ≡ stop → (n : ℕ) → (n < site.place + last) ⊎ (site.place + size ≤ n)
          none_between at n = elim (cases_lt n (site.place + last)) [ inl below ↦ inl below | inr above ↦ inr (omega (arith, above, at, full)) ]
