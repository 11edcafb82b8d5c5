-- A message that is completed leaves the tables as they were below the snapshots' places and below what was written, and needs no blob.
use Rattle.std.proofs.Common.{◌≡◌, ◌∙◌, ◌<◌, ◌≤◌, ◌≤ℤ◌, ◌+◌, ℕ, ℤ, pos, negsuc, List, Option, Some, IsSome, refl, sym, ap, subst, arith, inl, inr}
use Rattle.std.proofs.Math.Dec.{leb→le}
use Rattle.std.specs.List.{Contains}
use Rattle.sled_codec.specs.declared.result.DiskPtr.{DiskPtr}
use Rattle.sled_codec.specs.declared.result.DiskPtr.TheVariants.{Inline, Blob}
use Rattle.sled_codec.specs.declared.serialization.message.MessageKind.{MessageKind}
use Rattle.sled_codec.specs.History.{Message, History, AddsMessage, table}
use Rattle.sled_codec.specs.Snapshots.{SnapshotModel, stable_place}
use Rattle.sled_codec.proofs.Histories.{table_stays, table-adds, fits-adds}
use Rattle.sled_store.specs.Blobs.{IsBlob}
use Rattle.sled_store.specs.Device.{LeavesName, NamesState}
use Rattle.sled_store.specs.SnapshotFiles.{BeginsFrom}
use Rattle.sled_store.proofs.Names.Trailers.{one_snapshot}
use Rattle.sled_core.specs.declared.iobuf.SegmentPosition.{SegmentPosition}
use Rattle.sled_core.specs.inside.Recoverable.{AreRecoverableSnapshots, AreRecoverableBlobs, IsTableFile, PassesIfThere}
use Rattle.sled_core.specs.Fits.{IsBegunFrom}
use Rattle.sled_core.specs.LogFile.{StaysFrom}
use Rattle.sled_core.specs.inside.Running.{KeepsEntries, NamesFit, BlobsFit}
use Rattle.sled_core.specs.Running.{KeepsItem}
use Rattle.sled_core.proofs.Holds.Added.{was_or_added}

-- All snapshots that are listed.

stable_grows : (a b : ℤ) → a ≤ℤ b → stable_place (Some a) ≤ stable_place (Some b)
stable_grows (pos a) (pos b) le = leb→le a b le.le
stable_grows (pos a) (negsuc b) le = absurd le.le
stable_grows (negsuc a) b le = omega arith

-- none has a stable place above that of the newest one
pub not_above_newest : (sum : List ℕ → ℕ) (snapshots : ℤ → Option (List ℕ)) (H : History) (first : SnapshotModel) → BeginsFrom sum snapshots first
    → (listed : (n : ℤ) (bytes : List ℕ) → snapshots n ≡ Some bytes → IsTableFile sum H n bytes)
    → (n : ℤ) (bytes : List ℕ) (there : snapshots n ≡ Some bytes) → stable_place (Some n) ≤ stable_place first.stable
not_above_newest sum snapshots H first (inl none) listed n bytes there = let is = none.0 n in cc
not_above_newest sum snapshots H first (inr newest) listed n bytes there =
    let number : ℤ = newest.0 in
    let own = listed number newest.1 newest.2.there in
    let named : first.stable ≡ Some number = ap (λ (s : SnapshotModel). s.stable) (sym (one_snapshot sum newest.1 own.model first own.file newest.3)) ∙ own.named in
    let le : n ≤ℤ number = newest.2.greatest n (subst (λ (o : Option (List ℕ)). IsSome o) (sym there) refl) in
    subst (λ (o : Option ℤ). stable_place (Some n) ≤ stable_place o) (sym named) (stable_grows n number le)

table_file-adds : (sum : List ℕ → ℕ) (H H' : History) (m : Message) (n : ℤ) (bytes : List ℕ) → AddsMessage H m H' → stable_place (Some n) ≤ m.place → IsTableFile sum H n bytes → IsTableFile sum H' n bytes
table_file-adds sum H H' m n bytes adds past file =
    let past' : stable_place file.model.stable ≤ m.place = subst (λ (o : Option ℤ). stable_place o ≤ m.place) (sym file.named) past in
    record {
      model = file.model;
      file = file.file;
      sound = file.sound;
      named = file.named;
      table = table-adds file.model.pages H H' m (stable_place file.model.stable) adds past' file.table;
      fits = fits-adds H H' m (stable_place file.model.stable) adds past' file.fits;
    }

-- a blob that no crash takes, and that has the item of its message, passes for it
passes_kept : (sum : List ℕ → ℕ) (blobs : NamesState) (m : Message) (left : ℤ → Option (List ℕ)) → ((n : ℤ) → LeavesName blobs n (left n)) → (p : DiskPtr) → KeepsItem sum blobs m p → PassesIfThere sum left m p
passes_kept sum blobs m left leaves (Inline lid) stored = tt
passes_kept sum blobs m left leaves (Blob lid place) stored = λ k known damaged.
    let has = stored (left place) (leaves place) in
    let one : Some has.kind ≡ Some k = sym has.known ∙ known in
    let kind : has.kind ≡ k = cc in
    let two : Some has.file ≡ Some damaged.0 = sym has.there ∙ damaged.1 in
    let file : has.file ≡ damaged.0 = cc in
    damaged.2 (m.bytes, subst (λ (l : List ℕ). IsBlob sum l k m.bytes) file (subst (λ (q : MessageKind). IsBlob sum has.file q m.bytes) kind has.is))

module _ (H H' : History) (m : Message) (adds : AddsMessage H m H') where
  -- an entry of the table below a place that the message doesn't lie below was one
  pub entry_stays : (cut page : ℕ) → cut ≤ m.place → (x : Message) → Contains (table H' cut page) x → Contains (table H cut page) x
  entry_stays cut page past x there = subst (λ (l : List Message). Contains l x) (table_stays H H' m cut page adds past) there

  -- The newest snapshot is where it was begun from still.
  abbrev pub begun-adds : (sum : List ℕ → ℕ) (size : ℕ) (snapshots : ℤ → Option (List ℕ)) (site : SegmentPosition) (from : ℕ) → site.place + from ≤ m.place → {mark durable : ℤ} → IsBegunFrom sum mark durable size snapshots site from H → IsBegunFrom sum mark durable size snapshots site from H'
  begun-adds sum size snapshots site from above begun =
      let reached = begun.reached in
      let past : stable_place begun.first.stable ≤ m.place = omega (arith, above, reached) in
      record {
        first = begun.first;
        begins = begun.begins;
        table = table-adds begun.first.pages H H' m (stable_place begun.first.stable) adds past begun.table;
        fits = fits-adds H H' m (stable_place begun.first.stable) adds past begun.fits;
        least = begun.least;
        reached = begun.reached;
        joined = begun.joined;
        written = begun.written;
        marked = begun.marked;
      }

  -- a message that stays, and lies below the new one, stayed before
  pub stays_adds : (place : ℕ) → place ≤ m.place → (x : Message) → x.place < m.place → StaysFrom H' place x → StaysFrom H place x
  stays_adds place past x low (inl entry) = inl (entry_stays place x.page past x entry)
  stays_adds place past x low (inr (above, there)) = elim (was_or_added H H' m adds x there) [
    | inl was ↦ inr (above, was)
    | inr own ↦ absurd (let same = ap (λ (y : Message). y.place) own in omega (arith, same, low))
  ]

  -- Recovery begins from the same snapshot as before, whatever a crash leaves of the names.
  pub names-adds : (sum : List ℕ → ℕ) (size : ℕ) (names : NamesState) (f : ℕ) (first : SnapshotModel) → stable_place first.stable ≤ m.place → NamesFit sum size names H f first → NamesFit sum size names H' f first
  names-adds sum size names f first past fits = λ left leaves only_own.
      let tables : AreRecoverableSnapshots sum size left H f first = fits left leaves only_own in
      record {
        begins = tables.begins;
        listed = λ n bytes there.
            let lower = not_above_newest sum left H first tables.begins tables.listed n bytes there in
            table_file-adds sum H H' m n bytes adds (omega (arith, lower, past)) (tables.listed n bytes there);
        not_below = tables.not_below;
        active = tables.active;
      }

  -- Whatever a crash leaves of the blobs, each is there that the table needs below what was written.
  pub blobs-adds : (sum : List ℕ → ℕ) (blobs : NamesState) (reach : ℕ) → reach ≤ m.place → KeepsItem sum blobs m m.pointer → BlobsFit sum blobs H reach → BlobsFit sum blobs H' reach
  blobs-adds sum blobs reach past stored fits = λ left leaves only_own.
      let are : AreRecoverableBlobs sum left H reach = fits left leaves only_own in
      record {
        needed = λ page x entry. are.needed page x (entry_stays reach page past x entry);
        named = λ x there. elim (was_or_added H H' m adds x there) [
          | inl was ↦ are.named x was
          | inr own ↦ subst (λ (y : Message). PassesIfThere sum left y y.pointer) own (passes_kept sum blobs m left leaves m.pointer stored)
        ];
      }

  -- No crash takes the item of an entry of the table below that.
  pub entries-adds : (sum : List ℕ → ℕ) (blobs : NamesState) (reach : ℕ) → reach ≤ m.place → KeepsEntries sum blobs H reach → KeepsEntries sum blobs H' reach
  entries-adds sum blobs reach past keeps page x entry = keeps page x (entry_stays reach page past x entry)
