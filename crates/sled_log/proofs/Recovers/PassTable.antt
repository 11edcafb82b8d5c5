-- What a pass over a recoverable log file applies to the table of the snapshot makes the table below the cut.
use Rattle.std.proofs.Common.{◌≡◌, ◌≢◌, ◌∙◌, ◌<◌, ◌≤◌, ◌-◌, ◌^◌, ℕ, ℤ, false, List, ◌∷◌, map, Option, Some, sym, ap, subst, arith}
use Rattle.std.specs.List.{All, Contains}
use Rattle.std.proofs.lemmas.List.Elements.{All-contains}
use Rattle.sled_codec.specs.History.{Message, History, table}
use Rattle.sled_codec.specs.PageTables.{IsTable}
use Rattle.sled_codec.specs.Snapshots.{SnapshotModel, stable_place}
use Rattle.sled_store.proofs.Segments.Elements.{all_from_in}
use Rattle.sled_store.proofs.Segments.TableEntries.{from_table}
use Rattle.sled_core.specs.declared.iterator.scan.ScannedRecord.{ScannedRecord}
use Rattle.sled_core.specs.inside.Recoverable.{IsRecoverableLog, AreRecoverableBlobs, scanned_below}
use Rattle.sled_log.specs.Orderly.{IsOrderly}
use Rattle.sled_log.specs.Recovery.{Scanned, Applied, tail_end, given, resolved, table_of, has_no_table}
use Rattle.sled_store.proofs.Histories.Ascending.{IsSublist, Ascends, apart_ascends}
use Rattle.sled_log.proofs.PageTable.FoldLemmas.{fold}
use Rattle.sled_log.proofs.PageTable.WholeTables.{have_tables}
use Rattle.sled_log.proofs.Recovers.PassCut.{entry_met, passed, stop, cut_bounds, passed_stands, met_below}
use Rattle.sled_log.proofs.Recovers.PassedMessages.{AreMet, messages_met, ascending_sublist}
use Rattle.sled_log.proofs.Recovers.Undamaged.{passed_truth}

module _ (sum : List ℕ → ℕ) (size : ℕ) (log : List ℕ) (some : 256 ≤ size) (blobs : ℤ → Option (List ℕ)) (H : History) (A : ℕ) (first : SnapshotModel) (cut : ℕ × Option ℕ)
    (is : IsRecoverableLog sum size log H A first cut) (are : AreRecoverableBlobs sum blobs H cut.0) (orderly : IsOrderly H) (begins : IsTable first.pages H (stable_place first.stable))
    (end : ℕ) (s : Scanned) (ss : List Scanned) (ends : tail_end is.tail ≡ Some end) (below : scanned_below end is.scanned ≡ s ∷ ss) where
  abbrev low : ℕ
  low = stable_place first.stable

  abbrev records : List ScannedRecord
  records = passed sum size log some H A first cut is end s ss ends below

  abbrev to : ℕ
  to = (stop sum size log some H A first cut is end s ss ends below).1

  ordered : Ascends H.messages
  ordered = apart_ascends H.messages orderly.formed.apart

  -- the messages that the pass meets
  met : (L : List Message) × AreMet sum size log blobs H ordered low s.segment.place records to L
  met = messages_met sum size log blobs H ordered low s.segment.place records to (passed_stands sum size log some H A first cut is end s ss ends below)
      (passed_truth sum size log blobs H A first cut is are end s ss below)

  abbrev L : List Message
  L = met.0

  sub : IsSublist L H.messages
  sub = ascending_sublist L H.messages met.1.ascends ordered (λ m there. (met.1.of m there).0)

  within : All (λ m. (low ≤ m.place) × (m.place < cut.0)) L
  within = all_from_in (λ m. (low ≤ m.place) × (m.place < cut.0)) L (λ m there.
      let of = met.1.of m there in
      let bound = (cut_bounds sum size log some H A first cut is end s ss ends below).0 in
      (of.1, omega (arith, of.3, bound)))

  -- each entry of the table that doesn't lie below the snapshot is one of them
  entries : (page : ℕ) (m : Message) → Contains (table H cut.0 page) m → low ≤ m.place → Contains L m
  entries page m there above =
      let from = from_table H cut.0 page m there in
      let found = entry_met sum size log some H A first cut is m above (is.needed page m there).0 in
      let place = found.4.place in
      let here = met_below sum size log some H A first cut is end s ss ends below found.0 found.2 found.1 found.3 (omega (arith, place, from.2)) in
      met.1.all found.1 m here from.0 found.4 above (are.needed page m there)

  -- What is applied.
  abbrev pub applied_all : List Applied
  applied_all = given low (map (resolved blobs) records)

  pub table_made : IsTable (table_of first.pages applied_all) H cut.0
  table_made = subst (λ (l : List Applied). IsTable (table_of first.pages l) H cut.0) (sym met.1.is) (fold H low cut.0 first.pages L orderly.formed is.not_below begins sub within entries)

  -- no message is of the page that no table has
  pub pages_fit : has_no_table applied_all ≡ false
  pages_fit = ap has_no_table met.1.is
      ∙ have_tables L (all_from_in (λ m. m.page ≢ 2 ^ 64 - 1) L (λ m there. All-contains (λ x. x.page ≢ 2 ^ 64 - 1) H.messages m orderly.formed.pages (met.1.of m there).0))
