-- What stands for a bound in a log file: a read of its pointer finds the record of that, and damage is where there is none.
use Rattle.std.proofs.Common.{◌≡◌, ◌∙◌, ◌⊎◌, inl, inr, ◌/◌, ◌++◌, ◌∷◌, [], ℕ, ℤ, true, None, Some, List, length, take, drop, map, Result, Ok, Err, refl, sym, ap, subst}
use Rattle.std.specs.Prelude.{IfOk, OnErr, unsigned_abs}
use Rattle.std.specs.List.{slice_get}
use Rattle.std.proofs.Math.Seq.{take-append_seam}
use Rattle.std.proofs.lemmas.List.{append_assoc, append_cancel_left, take-append-drop}
use Rattle.std.proofs.lemmas.Option.{same_Some}
use Rattle.sled_codec.specs.declared.result.DiskPtr.{DiskPtr}
use Rattle.sled_codec.specs.declared.result.DiskPtr.TheVariants as ptr
use Rattle.sled_codec.specs.declared.result.Error.{Error}
use Rattle.sled_codec.specs.declared.result.Error.TheVariants as error
use Rattle.sled_codec.specs.declared.serialization.message.MessageHeader.{MessageHeader}
use Rattle.sled_codec.specs.declared.serialization.message.MessageKind.{MessageKind}
use Rattle.sled_codec.specs.declared.serialization.message.MessageKind.TheVariants as kind
use Rattle.sled_codec.specs.declared.serialization.snapshot.PageState.{PageState}
use Rattle.sled_codec.specs.declared.serialization.snapshot.PageState.TheVariants as state
use Rattle.sled_codec.specs.Errors.{IsCorrupt}
use Rattle.sled_codec.specs.HeaderLaws.{no_front-header, one_value-header}
use Rattle.sled_codec.specs.Snapshots.{page_of}
use Rattle.sled_codec.specs.Spelling.{SpellsMessageHeader}
use Rattle.sled_store.specs.Device.{State}
use Rattle.sled_core.specs.declared.logger.read_message.LogRead.{LogRead}
use Rattle.sled_core.specs.declared.logger.read_message.LogRead.TheVariants as read
use Rattle.sled_core.specs.ReadPointer.{IsDamageAt}
use Rattle.sled_core.specs.Reading.{IsNoPlace, IsReading, IsUnreadable, StandsAt, is_blob, is_inline}
use Rattle.ids.specs.Readings.{AnswersBound, BeginsWith, IsBoundAt, IsBoundIn, IsBoundRead, IsNumberIn}

-- At one offset one record stands.
module _ (sum : List ℕ → ℕ) (size : ℕ) (file : List ℕ) (lid number : ℕ) where
  begins_with : (h : MessageHeader) (body : List ℕ) (len : ℕ) (a : StandsAt sum size file lid number h body len) → drop lid file ≡ a.header ++ (body ++ drop len (drop lid file))
  begins_with h body len a =
      sym (take-append-drop len (drop lid file)) ∙ ap (λ (l : List ℕ). l ++ drop len (drop lid file)) a.is ∙ append_assoc a.header body (drop len (drop lid file))

  module _ (h g : MessageHeader) (body other : List ℕ) (len long : ℕ) (a : StandsAt sum size file lid number h body len) (b : StandsAt sum size file lid number g other long) where
    abbrev behind : List ℕ
    behind = body ++ drop len (drop lid file)

    abbrev beyond : List ℕ
    beyond = other ++ drop long (drop lid file)

    fronts : a.header ++ behind ≡ b.header ++ beyond
    fronts = sym (begins_with h body len a) ∙ begins_with g other long b

    heads : a.header ≡ b.header
    heads = no_front-header a.header b.header behind beyond h g a.spelled b.spelled fronts

    one_header : h ≡ g
    one_header = one_value-header b.header h g (subst (λ (t : List ℕ). SpellsMessageHeader t h) heads a.spelled) b.spelled

    one_item : body ≡ other
    one_item =
        let counted : length body ≡ length other = sym a.counted ∙ ap (λ (x : MessageHeader). x.len) one_header ∙ b.counted in
        let rest : behind ≡ beyond = append_cancel_left a.header behind beyond (fronts ∙ ap (λ (l : List ℕ). l ++ beyond) (sym heads)) in
        sym (take-append_seam body (drop len (drop lid file))) ∙ ap (take (length body)) rest ∙ ap (λ (n : ℕ). take n beyond) counted ∙ take-append_seam other (drop long (drop lid file))

-- A kind is of one sort.
blob_apart : (k : MessageKind) → is_blob k ≡ true → is_inline k ≡ true → ⊥
blob_apart kind.BlobMeta blob inline = cc
blob_apart kind.BlobNode blob inline = cc
blob_apart kind.BlobLink blob inline = cc
blob_apart _ blob inline = cc

not_inline : (k other : MessageKind) → is_inline k ≡ true → (is_inline other ≡ true → ⊥) → k ≡ other → ⊥
not_inline k other inline not is = not (subst (λ (x : MessageKind). is_inline x ≡ true) is inline)

no_manifest : is_inline kind.BatchManifest ≡ true → ⊥
no_manifest is = cc

no_cap : is_inline kind.Cap ≡ true → ⊥
no_cap is = cc

no_canceled : is_inline kind.Canceled ≡ true → ⊥
no_canceled is = cc

module _ (sum : List ℕ → ℕ) (size : ℕ) (s : State) (place : ℤ) (lid : ℕ) where
  abbrev number : ℕ
  number = unsigned_abs place / size

  abbrev Reads : LogRead → Type 0
  Reads r = IsReading sum size s.log.bytes s.blobs.file lid number r

  abbrev IsBound : ℕ → Type 0
  IsBound n = IsBoundAt sum size s.log.bytes place lid n

  -- The item that was read is that of the record which stands there,
  number_stands : (r : LogRead) (n : ℕ) → Reads r → (IsNoPlace size place lid → ⊥) → IsNumberIn r n → IsBound n
  number_stands (read.Inline h item len) n reads begins is = record { begins = begins; header = h; item = item.items; len = len; stands = reads.0; inline = reads.1; spells = is }
  number_stands (read.Blob h item at len) n reads begins is = absurd is
  number_stands (read.Canceled len) n reads begins is = absurd is
  number_stands (read.Cap segment) n reads begins is = absurd is
  number_stands read.Corrupted n reads begins is = absurd is
  number_stands (read.DanglingBlob h at len) n reads begins is = absurd is
  number_stands (read.BatchManifest peg len) n reads begins is = absurd is

  -- and where one stands its item is read.
  module _ (n : ℕ) (b : IsBound n) where
    same_kind : (h : MessageHeader) (body : List ℕ) (len : ℕ) → StandsAt sum size s.log.bytes lid number h body len → is_inline h.kind ≡ true
    same_kind h body len stands = subst (λ (x : MessageHeader). is_inline x.kind ≡ true) (one_header sum size s.log.bytes lid number b.header h b.item body b.len len b.stands stands) b.inline

    stands_read : (r : LogRead) → Reads r → IsNumberIn r n
    stands_read (read.Inline h item len) reads = subst (λ (t : List ℕ). BeginsWith t n) (one_item sum size s.log.bytes lid number b.header h b.item item.items b.len len b.stands reads.0) b.spells
    stands_read (read.Blob h item at len) reads = absurd (blob_apart h.kind reads.2 (same_kind h reads.0 len reads.1))
    stands_read (read.Canceled len) reads = absurd (not_inline reads.0.kind kind.Canceled (same_kind reads.0 reads.1 len reads.2) no_canceled reads.3)
    stands_read (read.Cap segment) reads = absurd (not_inline reads.0.kind kind.Cap (same_kind reads.0 reads.1 reads.2 reads.3) no_cap reads.4)
    stands_read read.Corrupted reads = absurd (reads b.header b.item b.len b.stands)
    stands_read (read.DanglingBlob h at len) reads = absurd (blob_apart h.kind reads.2 (same_kind h reads.0 len reads.1))
    stands_read (read.BatchManifest peg len) reads = absurd (not_inline reads.0.kind kind.BatchManifest (same_kind reads.0 reads.1 len reads.2) no_manifest reads.3)

    -- Then it can be read,
    readable : IsUnreadable sum size s.log.bytes s.blobs.file lid number → ⊥
    readable damage = elim damage [
      | inl bad ↦ elim bad.kind [
        | inl blob ↦ blob_apart bad.header.kind blob (same_kind bad.header bad.body bad.len bad.stands)
        | inr manifest ↦ not_inline bad.header.kind kind.BatchManifest (same_kind bad.header bad.body bad.len bad.stands) no_manifest manifest
      ]
      | inr bad ↦ blob_apart bad.header.kind bad.kind (same_kind bad.header bad.body bad.len bad.stands)
    ]

    -- so that no damage is answered.
    undamaged : (e : Error) → IsDamageAt sum size s place (ptr.Inline lid) e → IsCorrupt e → ⊥
    undamaged (error.Corruption at) damage corrupt = elim damage [
      | inl none ↦ b.begins none.0
      | inr bad ↦ readable (elim bad [ inl bytes ↦ inl bytes.0 | inr blob ↦ inr blob.0 ])
    ]
    undamaged (error.Io e) damage corrupt = absurd corrupt
    undamaged error.OutOfMemory damage corrupt = absurd corrupt
    undamaged error.PlacesUsedUp damage corrupt = absurd corrupt
    undamaged (error.Unsupported text) damage corrupt = absurd corrupt
    undamaged (error.Held at) damage corrupt = absurd corrupt
    undamaged (error.NotReserved at) damage corrupt = absurd corrupt
    undamaged (error.CollectionNotFound name) damage corrupt = absurd corrupt
    undamaged (error.ReportableBug text) damage corrupt = absurd corrupt

  -- The number of what was read is answered, or that it has none;
  pub answers_read : (r : LogRead) (result : Result ℕ Error) → Reads r → (IsNoPlace size place lid → ⊥) → IfOk result (IsNumberIn r) → OnErr result ((n : ℕ) → IsNumberIn r n → ⊥) → AnswersBound result IsBound
  answers_read r (Ok n) reads begins spelled none = number_stands r n reads begins spelled
  answers_read r (Err e) reads begins spelled none = λ corrupt n b. none n (stands_read n b r reads)

  -- or why nothing was.
  pub answers_none : (e : Error) → IsDamageAt sum size s place (ptr.Inline lid) e → AnswersBound (Err e) IsBound
  answers_none e damage = λ corrupt n b. undamaged n b e damage corrupt

-- The bound of a table is that of its first page.
module _ (sum : List ℕ → ℕ) (size : ℕ) (file : List ℕ) where
  pub answers_first : (pages : List PageState) (page : PageState) → Some page ≡ slice_get pages 0 → (result : Result ℕ Error) → AnswersBound result (IsBoundIn sum size file (page_of page))
      → AnswersBound result (IsBoundRead sum size file (map page_of pages))
  answers_first [] page is result answers = cc
  answers_first (p ∷ ps) page is result answers = subst (λ (q : PageState). AnswersBound result (IsBoundIn sum size file (page_of q))) (same_Some page p is) answers

  pub answers_zero : (pages : List PageState) → None ≡ slice_get pages 0 → IsBoundRead sum size file (map page_of pages) 0
  answers_zero [] is = refl
  answers_zero (p ∷ ps) is = cc

  -- A page that is given back has none.
  pub answers_free : (page : PageState) (e : Error) → ((place : ℤ) × (pointer : DiskPtr) × (page ≡ state.Free place pointer)) ⊎ (page ≡ state.Uninitialized) → AnswersBound (Err e) (IsBoundIn sum size file (page_of page))
  answers_free page e is = λ corrupt n b. elim is [
    | inl free ↦ subst (λ (p : PageState). IsBoundIn sum size file (page_of p) n) free.2 b
    | inr none ↦ subst (λ (p : PageState). IsBoundIn sum size file (page_of p) n) none b
  ]
