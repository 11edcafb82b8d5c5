-- Behind a recovery each content that a crash leaves can be read back for what lies below the cut, with the cut for the floor, over any number of segments.
use Rattle.std.proofs.Common.{◌≡◌, ◌∙◌, ◌≤◌, ℕ, true, false, List, ◌∷◌, sym, subst, arith, inr}
use Rattle.sled_codec.specs.History.{History, below}
use Rattle.sled_codec.specs.Snapshots.{SnapshotModel, stable_place}
use Rattle.sled_store.specs.Device.{Synced, NamesSynced, LogState, NamesState, Content, Trace, state_of, content_of, names_synced, LeavesLog}
use Rattle.sled_store.proofs.LogFile.LogLemmas.{at_rest_left}
use Rattle.sled_store.proofs.Traces.ScriptLemmas.{ends_in}
use Rattle.sled_core.specs.inside.Recoverable.{IsRecoverableLog}
use Rattle.sled_core.specs.Recoverable.{ReadsOnlyOwn}
use Rattle.sled_core.proofs.Blobs.ItemsStay.{entries_synced}
use Rattle.sled_log.proofs.Recovers.Readable.{CanRead}
use Rattle.sled_log.specs.Recovery.{RecoveryResult, Recovered, Recovers}
use Rattle.sled_log.specs.WritesBack.{writing_back, FitsIfNew, HasWrittenBack}
use Rattle.sled_log.proofs.Afterwards.EndsBelow.{recoverable_below}
use Rattle.sled_log.proofs.Afterwards.ForgottenSlots.{zeroed_rests}
use Rattle.sled_log.proofs.Afterwards.LastNames.{NamesEnd, writing_end}
use Rattle.sled_log.proofs.Afterwards.LeftGood.{left_log, log_is, stops_left, nothing_above}
use Rattle.sled_log.proofs.Afterwards.OrderlyBelow.{orderly_below}
use Rattle.sled_log.proofs.Moments.ForgottenAbove.{blobs_forget}
use Rattle.sled_log.proofs.Moments.LogAlong.{LeavesReadable, NamesBegin, parts_readable}
use Rattle.sled_log.proofs.Moments.OneCut.{stand_synced}
use Rattle.sled_log.proofs.Moments.RecoveryAlong.{can_read, cut_fits, concluded, settled_names, apart_others, all_above}
use Rattle.sled_log.proofs.Moments.SnapshotNames.{synced_twice}
use Rattle.sled_log.proofs.PageTable.BelowLemmas.{file_below}
use Rattle.sled_log.proofs.Recovers.RecoversGood.{RecoversWell, well_of}
use Rattle.sled_log.proofs.SnapshotFile.PublishLemmas.{listed_below}
use Rattle.sled_log.proofs.WriteBack.WriteLemmas.{written_as}

-- Snapshots of which recovery begins from one with the cut for its place are those of what lies below the cut, and that one isn't below the floor.
pub begin_below : (sum : List ℕ → ℕ) (size : ℕ) (H : History) (f cut : ℕ) (Allowed : SnapshotModel → Type 0) → ((t : SnapshotModel) → Allowed t → stable_place t.stable ≡ cut) → (names : NamesState)
    → NamesBegin sum size H f Allowed names → NamesBegin sum size (below H cut) cut Allowed names
begin_below sum size H f cut Allowed places names begin left leaves own =
    let first = begin left leaves own in
    let tables = first.1 in
    let at = places first.0 first.2 in (
      first.0,
      record {
        begins = tables.begins;
        listed = λ n bytes there. file_below sum H cut n bytes (listed_below sum size left H f first.0 tables cut (omega (arith, at)) n bytes there) (tables.listed n bytes there);
        not_below = omega (arith, at);
        active = tables.active;
      },
      first.2,
    )

module _ (sum : List ℕ → ℕ) (size : ℕ) (H : History) (A f : ℕ) (some : 256 ≤ size) (old : Trace) (readable : LeavesReadable sum size H A f (state_of old)) (own : ReadsOnlyOwn sum size (state_of old))
    (x : RecoveryResult) (recovers : Recovers sum size (content_of (state_of old)) (Recovered x)) (spelled : FitsIfNew x) (new : Trace) (has : HasWrittenBack sum size x (NamesSynced ∷ Synced ∷ old) new) where
  abbrev content : Content
  content = content_of (state_of old)

  abbrev can : CanRead sum size content H A f
  can = can_read sum size H A f some old readable own

  abbrev cut : ℕ
  cut = can.cut.0

  well : RecoversWell sum size content H A f some can.orderly can.first can.cut can.snapshots can.log can.blobs x
  well = well_of sum size content H A f some can x recovers

  -- The names, of which recovery begins from the snapshot that was published, or from the one that was there where none was.
  module _ (Allowed : SnapshotModel → Type 0) (made : x.is_new ≡ true → Allowed x.model) (kept : x.is_new ≡ false → Allowed can.first) where
    pub names_end : NamesEnd sum size H f cut Allowed (state_of new)
    names_end = by has where
      by : HasWrittenBack sum size x (NamesSynced ∷ Synced ∷ old) new → NamesEnd sum size H f cut Allowed (state_of new)
      by (ns, are, places, from, came) =
          let is = concluded sum size content H A f some can x well spelled in
          subst (λ (h : Trace). NamesEnd sum size H f cut Allowed (state_of h)) (sym came) (ends_in (NamesEnd sum size H f cut Allowed) (writing_back sum size x ns places) (NamesSynced ∷ Synced ∷ old)
          (writing_end sum size H f cut Allowed (names_synced (state_of old).blobs) (names_synced (state_of old).snapshots) (stand_synced sum size H A f old readable own can)
          (entries_synced sum (state_of old).blobs H cut (stand_synced sum size H A f old readable own can)) (synced_twice (state_of old).blobs)
          (settled_names sum size H A f some old readable own) can.first can.snapshots can.log.placed can.log.not_below x is.made made kept
          ns (λ is_new. apart_others sum size H A f some old readable own can x well spelled ns (λ n there. (((are is_new).each n).0 there).1) is_new)
          places (all_above sum size H A f some old readable own can x well places (inr from)) _ _ _))

  -- the log file
  log_end : (left : List ℕ) → LeavesLog (state_of new).log left → left ≡ (left_log sum size content H A f some can x well own.zeros).bytes
  log_end left leaves =
      let written = written_as sum size x (NamesSynced ∷ Synced ∷ old) new has in
      let last : LogState = left_log sum size content H A f some can x well own.zeros in
      let is : (state_of new).log ≡ last = log_is sum size content H A f some can x well own.zeros (state_of new).log written.log in
      at_rest_left last.bytes left (subst (λ (s : LogState). LeavesLog s left) (is ∙ zeroed_rests size x.unread _) leaves)

  -- What a crash leaves can be read back below the cut.
  pub below_cut : LeavesReadable sum size (below H cut) A cut (state_of new)
  below_cut =
      let fits = cut_fits sum size content H A f some can x well in
      let last : List ℕ = (left_log sum size content H A f some can x well own.zeros).bytes in
      let stops = stops_left sum size content H A f some can x well own.zeros in
      let nothing = nothing_above sum size content H A f some can x well own.zeros in
      let at_cut : SnapshotModel → Type 0 = λ t. stable_place t.stable ≡ cut in
      let names = names_end at_cut (λ is_new. well.place) (concluded sum size content H A f some can x well spelled).kept in
      parts_readable sum size (below H cut) A cut (orderly_below H cut can.orderly) can.cut (λ t. stable_place t.stable ≡ cut) (state_of new)
      (λ left leaves own_left t active at.
      subst (λ (l : List ℕ). IsRecoverableLog sum size l (below H cut) A t can.cut) (sym (log_end left leaves)) (recoverable_below sum size last some H A can.cut stops nothing fits t at active))
      (begin_below sum size H f cut at_cut (λ t at. at) (state_of new).snapshots names.begin)
      (λ left leaves own_left. blobs_forget sum left H cut (names.stand left leaves own_left))
