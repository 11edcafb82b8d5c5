-- A message whose item is a blob, and that is in the table of all that is stable, is read: a record may begin at its offset, and its blob is there, has its item, and lies below the stable end.
use Rattle.std.proofs.Common.{◌≡◌, ◌∙◌, ◌<◌, ◌≤◌, ◌++◌, ◌∷◌, ℕ, ℤ, List, length, map, Option, None, Some, Result, Ok, Err, sym, ap, subst, arith, inl, inr, ◌<ℤ◌, pos}
use Rattle.std.specs.Prelude.{IfErr, IfOk}
use Rattle.std.specs.List.{Contains}
use Rattle.std.specs.declared.io.Error.{Error as IoError}
use Rattle.std.proofs.Common.{length-append}
use Rattle.std.proofs.lemmas.Bool.{cases_lt}
use Rattle.std.proofs.lemmas.Int.{ints}
use Rattle.sled_codec.specs.declared.result.DiskPtr.{DiskPtr}
use Rattle.sled_codec.specs.declared.result.DiskPtr.TheVariants as ptr
use Rattle.sled_codec.specs.declared.result.Error.{Error}
use Rattle.sled_codec.specs.declared.result.Error.TheVariants as error
use Rattle.sled_codec.specs.declared.serialization.message.MessageKind.{MessageKind}
use Rattle.sled_codec.specs.HeaderLaws.{kind_of-code_of}
use Rattle.sled_codec.specs.History.{Message, History, table}
use Rattle.sled_codec.specs.Kinds.{code_of, kind_of}
use Rattle.sled_codec.specs.Places.{MayBegin}
use Rattle.sled_codec.specs.Pointers.{lid_of}
use Rattle.sled_codec.specs.Spelling.{low_bytes}
use Rattle.sled_codec.specs.SpellingLaws.{length-low_bytes, same_fronts, same_rests}
use Rattle.sled_store.specs.Blobs.{HoldsItem, IsBlob, IsDamagedBlob}
use Rattle.sled_store.specs.Device.{NamesState, State, Trace}
use Rattle.sled_store.proofs.Crashes.SettledLemmas.{name_read_left}
use Rattle.sled_store.proofs.Histories.EarlierEntries.{entry_earlier}
use Rattle.sled_store.proofs.Segments.TableEntries.{from_table}
use Rattle.sled_core.specs.inside.Shown.{shown_of}
use Rattle.sled_core.specs.declared.logger.Log.{Log}
use Rattle.sled_core.specs.declared.logger.read_message.LogRead.{LogRead}
use Rattle.sled_core.specs.declared.logger.read_message.LogRead.TheVariants as read
use Rattle.sled_core.specs.inside.Begun.{line_end}
use Rattle.sled_core.specs.Begun.{segment_view}
use Rattle.sled_core.specs.inside.Reached.{StandsAmong, StandsTo}
use Rattle.sled_core.specs.inside.Fits.{begun_segment, parts_in}
use Rattle.sled_core.specs.Fits.{fault_of, line_of, machine_at, noted_in, segment_size_of, stable_end, synced_end}
use Rattle.sled_core.specs.Logged.{in_log, logged}
use Rattle.sled_core.specs.OpenBatches.{stable_below}
use Rattle.sled_core.specs.Causes.{IsFault}
use Rattle.sled_core.specs.inside.Causes.{RecordAnswers}
use Rattle.sled_core.specs.Reading.{GivesMessage, IsInline}
use Rattle.sled_core.specs.ReadPointer.{GivesBlob, IsBlobDamage, IsBlobRead, IsReadOf, IsStableBlob, place_read}
use Rattle.sled_core.specs.inside.ReadPointer.{IsDamageOf}
use Rattle.sled_core.specs.Reading.{BlobIsBelow}
use Rattle.sled_core.specs.inside.Recoverable.{HasItem, IsSegmentOf}
use Rattle.sled_core.specs.Recoverable.{NoHeaderOfZeros}
use Rattle.sled_core.specs.invariants.Running.{Fits}
use Rattle.sled_core.specs.inside.Running.{FitsWith}
use Rattle.sled_core.specs.Running.{IsStored, KeepsItem}
use Rattle.sled_core.proofs.Holds.FitsBatches.{stable_noted}
use Rattle.sled_core.proofs.Holds.WholeHistory.{whole_ascends}
use Rattle.sled_core.proofs.Line.Reads.{fault_missed}
use Rattle.sled_core.proofs.Logged.Messages.{logged_ascends, logged_there, logged_twice}
use Rattle.sled_core.proofs.Logged.Stands.{among_alike}
use Rattle.sled_core.proofs.Reached.MetWritten.{reached_begins}
use Rattle.sled_core.proofs.Reached.StableBelow.{stable_is, stable_low, stable_open}
use Rattle.sled_core.specs.inside.LogSegments.{held_since}

-- Behind two sums the same follows.
behind_sums : (a b : ℕ) (xs ys : List ℕ) → low_bytes 4 a ++ xs ≡ low_bytes 4 b ++ ys → xs ≡ ys
behind_sums a b xs ys is = same_rests (low_bytes 4 a) (low_bytes 4 b) xs ys (same_fronts (low_bytes 4 a) (low_bytes 4 b) xs ys (length-low_bytes 4 a (omega arith) ∙ sym (length-low_bytes 4 b (omega arith))) is) is

-- A blob holds one kind and one item, and isn't damaged.
module _ (sum : List ℕ → ℕ) (bytes : List ℕ) (kind : MessageKind) (item : List ℕ) (is : IsBlob sum bytes kind item) where
  pub holds_own : (k : MessageKind) (x : List ℕ) → HoldsItem sum bytes k x → (kind ≡ k) × (x ≡ item)
  holds_own k x holds =
      let rest : code_of kind ∷ item ≡ holds.code ∷ x = behind_sums _ _ _ _ (sym is ∙ holds.is) in
      let code : code_of kind ≡ holds.code = cc in
      let same : item ≡ x = cc in
      (sym (kind_of-code_of kind) ∙ ap kind_of code ∙ sym holds.kind_is, sym same)

  pub undamaged : IsDamagedBlob sum bytes → ⊥
  undamaged damaged = damaged (code_of kind) item is

  pub some_long : 5 ≤ length bytes
  some_long =
      let whole = ap length is in
      let front = length-low_bytes 4 (sum (code_of kind ∷ item)) (omega arith) in
      omega (arith, whole, front, length-append (low_bytes 4 (sum (code_of kind ∷ item))) (code_of kind ∷ item))

-- bytes that are there are those that are
one_file : (file : Option (List ℕ)) (a b : List ℕ) → file ≡ Some a → file ≡ Some b → a ≡ b
one_file file a b x y = let both : Some a ≡ Some b = sym x ∙ y in cc

-- What is read of a blob that has the item of a message gives that message; it isn't missing, nor damaged.
module _ (sum : List ℕ → ℕ) (blobs : ℤ → Option (List ℕ)) (m : Message) (lid : ℕ) (place : ℤ) (pointer : m.pointer ≡ ptr.Blob lid place) (has : HasItem sum blobs m (ptr.Blob lid place)) where
  pub gives_blob : (page number : ℕ) → m.page ≡ page → (r : LogRead) → IsBlobRead sum blobs page number place r → GivesMessage m r
  gives_blob page number of (read.Blob h bytes at len) reads =
      let file : has.file ≡ reads.3 = one_file (blobs place) has.file reads.3 has.there reads.4 in
      let own = holds_own sum has.file has.kind m.bytes has.is h.kind bytes.items (subst (λ (b : List ℕ). HoldsItem sum b h.kind bytes.items) (sym file) reads.5) in (
        has.known ∙ ap (λ (k : MessageKind). Some k) own.0,
        reads.0.paged ∙ sym of,
        own.1,
        (lid, pointer ∙ ap (ptr.Blob lid) (sym reads.1)),
      )
  gives_blob page number of (read.Inline h bytes len) reads = absurd reads
  gives_blob page number of (read.Canceled len) reads = absurd reads
  gives_blob page number of (read.Cap segment) reads = absurd reads
  gives_blob page number of read.Corrupted reads = absurd reads
  gives_blob page number of (read.DanglingBlob h at len) reads = absurd reads
  gives_blob page number of (read.BatchManifest peg len) reads = absurd reads

  pub blob_whole : (at : Option DiskPtr) → IsBlobDamage sum (blobs place) place at → ⊥
  blob_whole None (bytes, there, short) = let same = ap length (one_file (blobs place) has.file bytes has.there there) in let long = some_long sum has.file has.kind m.bytes has.is in omega (arith, same, long, short)
  blob_whole (Some (ptr.Blob l p)) (none, at, bytes, there, long, damaged) = undamaged sum has.file has.kind m.bytes has.is (subst (IsDamagedBlob sum) (sym (one_file (blobs place) has.file bytes has.there there)) damaged)
  blob_whole (Some (ptr.Inline l)) damage = damage

  pub blob_there : blobs place ≡ None → ⊥
  blob_there none = let both : None ≡ Some has.file = sym none ∙ has.there in cc

-- So it is of a pointer to it.
pub gives_read : (sum : List ℕ → ℕ) (size : ℕ) (s : State) (m : Message) (page number : ℕ) (p : DiskPtr) (kept : Option IoError) (r : Result LogRead Error) (old now : Option IoError) (before after : ℕ)
    → (IsInline p → ⊥) → m.pointer ≡ p → m.page ≡ page → HasItem sum s.blobs.file m p → old ≡ None
    → IfOk r (IsReadOf sum size s page number p) → IfErr r (IsDamageOf sum size s number p) → RecordAnswers sum s.blobs.file p r old now before after → GivesBlob m kept r
gives_read sum size s m page number (ptr.Inline lid) kept r old now before after beside pointer of has none reads damage answers = absurd (beside tt)
gives_read sum size s m page number (ptr.Blob lid place) kept (Ok x) old now before after beside pointer of has none reads damage answers = gives_blob sum s.blobs.file m lid place pointer has page number of x reads
gives_read sum size s m page number (ptr.Blob lid place) kept (Err (error.Corruption at)) old now before after beside pointer of has none reads damage answers = absurd (blob_whole sum s.blobs.file m lid place pointer has at damage)
gives_read sum size s m page number (ptr.Blob lid place) kept (Err (error.Io e)) old now before after beside pointer of has none reads damage answers = λ _ missed. elim answers [
  | inl fault ↦ fault_missed e now before after (subst (λ (o : Option IoError). IsFault e o now before after) none fault) missed
  | inr missing ↦ blob_there sum s.blobs.file m lid place pointer has missing.1
]
gives_read sum size s m page number (ptr.Blob lid place) kept (Err error.OutOfMemory) old now before after beside pointer of has none reads damage answers = tt
gives_read sum size s m page number (ptr.Blob lid place) kept (Err _) old now before after beside pointer of has none reads damage answers = absurd answers

-- What no crash takes is there.
pub item_read : (sum : List ℕ → ℕ) (blobs : NamesState) (m : Message) (p : DiskPtr) → KeepsItem sum blobs m p → HasItem sum blobs.file m p
item_read sum blobs m (ptr.Inline lid) is = tt
item_read sum blobs m (ptr.Blob lid place) is = is (blobs.file place) (name_read_left blobs place)

-- Of a log that fits a history, and keeps no failure.
module _ {D C : Type 0} (trace : D → Trace) (sum : List ℕ → ℕ) (log : Log D C) (H : History) (A f : ℕ) (U : List Message) where
  abbrev size : ℕ
  size = log.config.config.segment_size

  abbrev state : State
  state = shown_of trace log

  -- A reader finds in the log file what is written of the history, as far as he comes.
  pub among : (fits : FitsWith sum log.marks (noted_in log) size state log.fault.kept (line_of log) (machine_at log) log.pins H A f U) → log.fault.kept ≡ None → NoHeaderOfZeros sum
      → StandsAmong sum (held_since size log.marks fits.parts.holds.begun.first) size state.log.bytes log.segments.first.site log.segments.first.buffer.written_len (map begun_segment (map parts_in (map segment_view log.segments.behind.items))) fits.reach H fits.parts.holds.begun.first
  among fits none zeros = among_alike (logged H) H (logged_twice H) sum size state.log.bytes log.segments.first.site log.segments.first.buffer.written_len (map begun_segment (map parts_in (map segment_view log.segments.behind.items))) fits.reach fits.parts.holds.begun.first (fits.parts.among none zeros)

  module _ (fits : FitsWith sum log.marks (noted_in log) size state log.fault.kept (line_of log) (machine_at log) log.pins H A f U) (m : Message) (entry : Contains (table H (stable_end log) m.page) m) where
    abbrev cut : ℕ
    cut = stable_below fits.reach H.batches

    there : Contains H.messages m
    there = (from_table H (stable_end log) m.page m entry).0

    stable : m.place < synced_end log
    stable = let low = stable_low (synced_end log) (noted_in log) in let under = (from_table H (stable_end log) m.page m entry).2 in omega (arith, low, under)

    same_end : stable_below (synced_end log) H.batches ≡ stable_end log
    same_end = stable_noted (synced_end log) (line_end size (line_of log)) (noted_in log) (logged H) fits.batches

    -- nothing of the history begins between where a reader stops and the stable end
    under_cut : m.place < cut
    under_cut = elim (stable_is fits.reach H.batches) [
      | inl all ↦ (let low = (fits.parts.reached.ends (in_log m) (logged_there H m there) stable).0 in omega (arith, all, low))
      | inr (b, known, at, is_open) ↦ (
          let near = fits.parts.reached.near in
          let low = is_open.0 in
          let high = is_open.1 in
          let under = (from_table H (stable_end log) m.page m entry).2 in
          elim (fits.parts.reached.no_end b known) [
            | inl ended ↦ absurd (omega (arith, ended, high))
            | inr beyond ↦ (let at_most = stable_open (synced_end log) H.batches b known (omega (arith, low, near), beyond) in omega (arith, at_most, same_end, under, at))
          ])
    ]

    cut_low : cut ≤ stable_end log
    cut_low = elim (stable_is (synced_end log) H.batches) [
      | inl all ↦ (let low = stable_low fits.reach H.batches in let near = fits.parts.reached.near in omega (arith, all, low, near, same_end))
      | inr (b, known, at, is_open) ↦ elim (cases_lt b.low fits.reach) [
        | inl lower ↦ (let near = fits.parts.reached.near in let high = is_open.1 in let at_most = stable_open fits.reach H.batches b known (lower, omega (arith, near, high)) in omega (arith, at_most, at, same_end))
        | inr above ↦ (let low = stable_low fits.reach H.batches in omega (arith, low, above, at, same_end))
      ]
    ]

    early : Contains (table H cut m.page) m
    early = entry_earlier H (logged_ascends H (whole_ascends sum size log.segments.first.site state log.fault.kept log.segments.first.buffer.bytes.items log.segments.first.buffer.written_len log.segments.first.buffer.sealed.items log.segments.first.buffer.reserved.items (logged H) fits.parts.holds log.line.lies.in_segment)) cut (stable_end log) m.page cut_low m under_cut entry

    -- so that no crash takes its item
    stored : IsStored trace sum log m
    stored = record { below = fits.parts.items.below m there; item = fits.parts.items.entries m.page m early }

    module _ (none : log.fault.kept ≡ None) (zeros : NoHeaderOfZeros sum) where
      file_stands : StandsTo sum size state.log.bytes H cut fits.parts.holds.begun.first fits.reach
      file_stands = (among fits none zeros).stands

      segment : IsSegmentOf sum size state.log.bytes H cut m
      segment = (file_stands.needed cut file_stands.from_high file_stands.passes m.page m early).0

      begins : MayBegin size (lid_of m.pointer)
      begins = reached_begins sum size state.log.bytes segment.segment m segment.found.slot segment.reached

      below : BlobIsBelow m m.pointer
      below = (file_stands.placed m there).blob

-- The same, of a log that fits the history.
pub stable_stored : {D C : Type 0} (trace : D → Trace) (sum : List ℕ → ℕ) (log : Log D C) (H : History) (A f : ℕ) (U : List Message) → Fits trace sum log H A f U
    → (m : Message) → Contains (table H (stable_end log) m.page) m → IsStored trace sum log m
unfolding Fits
stable_stored trace sum log H A f U fits m entry = stored trace sum log H A f U fits.shows m entry

pub stable_begins : {D C : Type 0} (trace : D → Trace) (sum : List ℕ → ℕ) (log : Log D C) (H : History) (A f : ℕ) (U : List Message) → Fits trace sum log H A f U → fault_of log ≡ None
    → NoHeaderOfZeros sum → (m : Message) → Contains (table H (stable_end log) m.page) m → MayBegin (segment_size_of log) (lid_of m.pointer)
unfolding Fits
stable_begins trace sum log H A f U fits none zeros m entry = begins trace sum log H A f U fits.shows m entry none zeros

-- and the place that is read is stable
low_place : (stable : ℕ) (lsn : ℤ) (m : Message) (p : DiskPtr) → pos m.place ≡ lsn → m.place < stable → BlobIsBelow m p → place_read lsn p <ℤ pos stable
low_place stable lsn m (ptr.Inline lid) at below low = omega (arith, ints, at, below)
low_place stable lsn m (ptr.Blob lid place) at below low = omega (arith, ints, below, low)

pub reads_stable : {D C : Type 0} (trace : D → Trace) (sum : List ℕ → ℕ) (log : Log D C) (H : History) (A f : ℕ) (U : List Message) → Fits trace sum log H A f U → fault_of log ≡ None → NoHeaderOfZeros sum
    → (m : Message) (page : ℕ) (lsn : ℤ) (p : DiskPtr) → IsStableBlob log H m page lsn p → place_read lsn p <ℤ pos (synced_end log)
unfolding Fits
reads_stable trace sum log H A f U fits none zeros m page lsn p is =
    low_place (synced_end log) lsn m p is.place (stable trace sum log H A f U fits.shows m is.entry) (subst (BlobIsBelow m) is.pointer (below trace sum log H A f U fits.shows m is.entry none zeros))
