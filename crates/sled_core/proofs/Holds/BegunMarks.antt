-- A batch that is noted leaves the tables as they were, and no snapshot's place lies within it, where it begins at or behind the newest one's.
use Rattle.std.proofs.Common.{get_or, ◌≤◌, ◌≡◌, ℕ, ℤ, List, Option, Some, sym, ap, subst, arith, inl, inr}
use Rattle.std.specs.List.{Contains}
use Rattle.sled_codec.specs.History.{AddsBatch, Batch, CutFits, History, Message, of_page}
use Rattle.sled_codec.specs.PageTables.{IsTable, page_with}
use Rattle.sled_codec.specs.Snapshots.{Page, SnapshotModel, Uninitialized, stable_place}
use Rattle.sled_store.specs.Device.{NamesState}
use Rattle.sled_core.specs.declared.iobuf.SegmentPosition.{SegmentPosition}
use Rattle.sled_core.specs.Fits.{IsBegunFrom}
use Rattle.sled_core.specs.inside.LogFile.{StaysBelow}
use Rattle.sled_core.specs.LogFile.{StaysFrom}
use Rattle.sled_core.specs.inside.Recoverable.{AreRecoverableBlobs, AreRecoverableSnapshots, IsTableFile}
use Rattle.sled_core.specs.inside.Running.{BlobsFit, KeepsEntries, NamesFit}
use Rattle.sled_core.proofs.Reached.AddedBatch.{entry_was, message_was, same_table, was_or_batch}
use Rattle.sled_core.proofs.Holds.BegunLemmas.{not_above_newest}

module _ (H H' : History) (b : Batch) (adds : AddsBatch H b H') where
  same_page : (cut page : ℕ) → of_page H.messages cut page ≡ of_page H'.messages cut page
  same_page cut page = ap (λ (l : List Message). of_page l cut page) (sym adds.messages)

  -- The pages that were the table below a cut are it still.
  pub table-marks : (pages : List Page) (cut : ℕ) → IsTable pages H cut → IsTable pages H' cut
  table-marks pages cut is = record {
    states = λ page. subst (λ (l : List Message). get_or pages page Uninitialized ≡ page_with l) (sym (same_table H H' b adds cut page)) (is.states page);
    begun = λ page. (
      λ below. let had = (is.begun page).0 below in record { message = had.message; there = subst (λ (l : List Message). Contains l had.message) (same_page cut page) had.there; replaces = had.replaces },
      λ had. (is.begun page).1 (record { message = had.message; there = subst (λ (l : List Message). Contains l had.message) (sym (same_page cut page)) had.there; replaces = had.replaces }),
    );
  }

  -- A cut that split nothing splits nothing still, where the batch begins at or behind it.
  pub cut-marks : (cut : ℕ) → cut ≤ b.low → CutFits H cut → CutFits H' cut
  cut-marks cut past fits = record {
    batches = λ c there low. elim (was_or_batch H H' b adds c there) [
      | inl was ↦ fits.batches c was low
      | inr own ↦ absurd (let same = ap (λ (d : Batch). d.low) own in omega (arith, same, low, past))
    ];
    messages = λ x there low. fits.messages x (message_was H H' b adds x there) low;
  }

  table_file-marks : (sum : List ℕ → ℕ) (n : ℤ) (bytes : List ℕ) → stable_place (Some n) ≤ b.low → IsTableFile sum H n bytes → IsTableFile sum H' n bytes
  table_file-marks sum n bytes past file = record {
    model = file.model;
    file = file.file;
    sound = file.sound;
    named = file.named;
    table = table-marks file.model.pages (stable_place file.model.stable) file.table;
    fits = cut-marks (stable_place file.model.stable) (subst (λ (o : Option ℤ). stable_place o ≤ b.low) (sym file.named) past) file.fits;
  }

  -- The newest snapshot is where it was begun from still.
  abbrev pub begun-marks : (sum : List ℕ → ℕ) (size : ℕ) (snapshots : ℤ → Option (List ℕ)) (site : SegmentPosition) (from : ℕ) {mark durable : ℤ} (begun : IsBegunFrom sum mark durable size snapshots site from H) → stable_place begun.first.stable ≤ b.low → IsBegunFrom sum mark durable size snapshots site from H'
  begun-marks sum size snapshots site from begun past = record {
    first = begun.first;
    begins = begun.begins;
    table = table-marks begun.first.pages (stable_place begun.first.stable) begun.table;
    fits = cut-marks (stable_place begun.first.stable) past begun.fits;
    least = begun.least;
    reached = begun.reached;
    joined = begun.joined;
    written = begun.written;
    marked = begun.marked;
  }

  -- The messages that stay are the same.

  pub stays-marks : (place : ℕ) (x : Message) → StaysFrom H' place x → StaysFrom H place x
  stays-marks place x (inl entry) = inl (entry_was H H' b adds place x.page x entry)
  stays-marks place x (inr (above, there)) = inr (above, message_was H H' b adds x there)

  pub stays_below-marks : (from place : ℕ) (x : Message) → StaysBelow H' from place x → StaysBelow H from place x
  stays_below-marks from place x stays = (stays-marks from x stays.0, stays.1)

  -- Recovery begins from the same snapshot as before, whatever a crash leaves of the names.
  pub names-marks : (sum : List ℕ → ℕ) (size : ℕ) (names : NamesState) (f : ℕ) (first : SnapshotModel) → stable_place first.stable ≤ b.low → NamesFit sum size names H f first → NamesFit sum size names H' f first
  names-marks sum size names f first past fits = λ left leaves only_own.
      let tables : AreRecoverableSnapshots sum size left H f first = fits left leaves only_own in
      record {
        begins = tables.begins;
        listed = λ n bytes there.
            let lower = not_above_newest sum left H first tables.begins tables.listed n bytes there in
            table_file-marks sum n bytes (omega (arith, lower, past)) (tables.listed n bytes there);
        not_below = tables.not_below;
        active = tables.active;
      }

  -- The same blobs are needed, and named.
  pub blobs-marks : (sum : List ℕ → ℕ) (blobs : NamesState) (reach : ℕ) → BlobsFit sum blobs H reach → BlobsFit sum blobs H' reach
  blobs-marks sum blobs reach fits = λ left leaves only_own.
      let are : AreRecoverableBlobs sum left H reach = fits left leaves only_own in
      record { needed = λ page x entry. are.needed page x (entry_was H H' b adds reach page x entry); named = λ x there. are.named x (message_was H H' b adds x there) }

  -- No crash takes the item of an entry, which is the same.
  pub entries-marks : (sum : List ℕ → ℕ) (blobs : NamesState) (reach : ℕ) → KeepsEntries sum blobs H reach → KeepsEntries sum blobs H' reach
  entries-marks sum blobs reach keeps page x entry = keeps page x (entry_was H H' b adds reach page x entry)
