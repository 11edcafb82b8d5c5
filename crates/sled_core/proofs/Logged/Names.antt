-- Snapshots and batches that fit a history fit each one that is alike, and what is ready for the one is ready for the other.
use Rattle.std.proofs.Common.{◌≡◌, ◌∙◌, ◌*◌, ◌/◌, ◌%◌, ◌≤◌, ◌<◌, ℕ, ℤ, List, Option, Some, None, sym, ap, subst}
use Rattle.sled_codec.specs.History.{Message, History}
use Rattle.sled_codec.specs.Snapshots.{SnapshotModel, stable_place}
use Rattle.sled_store.specs.Device.{NamesState, State}
use Rattle.sled_core.specs.Fits.{CloseBelow}
use Rattle.sled_core.specs.LogFile.{StandsHere}
use Rattle.sled_core.specs.Logged.{logged}
use Rattle.sled_core.specs.Ready.{HasActive, HasFile, HasNoActive, HaveRecords, IsReady, StandsUsed, active_site}
use Rattle.sled_core.specs.inside.Recoverable.{AreRecoverableSnapshots, IsTableFile}
use Rattle.sled_core.specs.inside.Running.{NamesFit}
use Rattle.sled_core.proofs.Logged.Alike.{alike_apart, alike_batches, alike_below, alike_there, cut_alike, entry_alike, table_alike}
use Rattle.sled_core.proofs.Logged.Messages.{inline_alike}

module _ (H R : History) (same : logged H ≡ logged R) where
  -- Batches.

  -- those of the one begin and end below a place where those of the other do
  pub close_alike : (place : ℕ) → CloseBelow place H.batches → CloseBelow place R.batches
  close_alike place close = subst (CloseBelow place) (alike_batches H R same) close

  module _ (sum : List ℕ → ℕ) where
    -- Snapshots.

    -- a file is a table of the one where it is one of the other
    pub table_file_alike : (number : ℤ) (bytes : List ℕ) → IsTableFile sum H number bytes → IsTableFile sum R number bytes
    table_file_alike number bytes is = record {
      model = is.model;
      file = is.file;
      sound = is.sound;
      named = is.named;
      table = table_alike H R same is.model.pages (stable_place is.model.stable) is.table;
      fits = cut_alike H R same (stable_place is.model.stable) is.fits;
    }

    module _ (size : ℕ) where
      -- the snapshots that are listed
      pub snapshots_alike : (snapshots : ℤ → Option (List ℕ)) (f : ℕ) (first : SnapshotModel) → AreRecoverableSnapshots sum size snapshots H f first → AreRecoverableSnapshots sum size snapshots R f first
      snapshots_alike snapshots f first are = record {
        begins = are.begins;
        listed = λ n bytes there. table_file_alike n bytes (are.listed n bytes there);
        not_below = are.not_below;
        active = are.active;
      }

      -- whatever a crash leaves of them
      pub names_alike : (names : NamesState) (f : ℕ) (first : SnapshotModel) → NamesFit sum size names H f first → NamesFit sum size names R f first
      names_alike names f first fits left leaves own = snapshots_alike left f first (fits left leaves own)

      -- What is ready: the records are those of messages that have their items there, which both histories have.

      -- the entries have their records
      pub have_records_alike : (log : List ℕ) (s : SnapshotModel) (below : ℕ) → HaveRecords sum size log s H below → HaveRecords sum size log s R below
      have_records_alike log s below have page m entry low lid inline =
          let other = entry_alike R H (sym same) (stable_place s.stable) page m entry in
          let stands = have page other.0 other.1 (subst (λ (x : Message). x.place < below) (sym other.2) low) lid (ap (λ (x : Message). x.pointer) other.2 ∙ inline) in
          subst (StandsUsed sum size log s lid) (inline_alike m other.0 lid other.2 inline) stands

      -- where a new segment is begun
      pub has_no_active_alike : (log : List ℕ) (s : SnapshotModel) → HasNoActive sum size log s H → HasNoActive sum size log s R
      has_no_active_alike log s has = record { begins = has.begins; older = have_records_alike log s (stable_place s.stable) has.older }

      -- where one goes on
      pub has_active_alike : (log : List ℕ) (s : SnapshotModel) (active : ℕ) → HasActive sum size log s active H → HasActive sum size log s active R
      has_active_alike log s active has = record {
        inside = has.inside;
        header = has.header;
        own = λ m there above lid inline.
            let other = alike_there R H (sym same) m there in
            let stands = has.own other.0 other.1 (subst (λ (x : Message). stable_place s.stable / size * size ≤ x.place) (sym other.2) above) lid (ap (λ (x : Message). x.pointer) other.2 ∙ inline) in
            subst (StandsHere sum size log (active_site size (stable_place s.stable) active) (stable_place s.stable % size) lid) (inline_alike m other.0 lid other.2 inline) stands;
        older = have_records_alike log s (stable_place s.stable / size * size) has.older;
        clean = has.clean;
      }

      -- the log file in both cases
      pub has_file_alike : (log : List ℕ) (s : SnapshotModel) (active : Option ℕ) → HasFile sum size log s active H → HasFile sum size log s active R
      has_file_alike log s None has = has_no_active_alike log s has
      has_file_alike log s (Some active) has = has_active_alike log s active has

      -- Snapshot and device are ready for a log that holds the other one.
      unfoldable pub ready_alike : (device : State) (s : SnapshotModel) → IsReady sum size device s H → IsReady sum size device s R
      ready_alike device s ready = record {
        log = ready.log;
        settled = ready.settled;
        first = ready.first;
        begins = ready.begins;
        same_place = ready.same_place;
        same_pages = ready.same_pages;
        table = table_alike H R same s.pages (stable_place s.stable) ready.table;
        below = alike_below H R same (stable_place s.stable) ready.below;
        apart = alike_apart H R same ready.apart;
        batches = close_alike (stable_place s.stable) ready.batches;
        file = has_file_alike ready.log s s.active ready.file;
      }
