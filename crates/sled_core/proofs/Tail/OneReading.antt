-- What is read of given bytes is one: of two paths from one offset, the shorter begins the longer, and all that is met in a segment is met in one way.
use Rattle.std.proofs.Common.{◌≡◌, ◌≢◌, ◌⊎◌, ◌∙◌, ◌+◌, ◌/◌, ◌≤◌, ℕ, ℤ, true, List, [], ◌∷◌, ◌++◌, length, refl, sym, ap, subst, arith, inl, inr}
use Rattle.std.specs.Int.{w64, cast_signed}
use Rattle.std.specs.List.{Contains}
use Rattle.std.proofs.lemmas.Int.{to_z-of_z}
use Rattle.std.proofs.lemmas.List.{append-nil}
use Rattle.std.proofs.lemmas.List.Elements.{Contains-append_left, Contains-push}
use Rattle.sled_codec.specs.declared.serialization.message.MessageHeader.{MessageHeader}
use Rattle.sled_codec.specs.declared.serialization.message.MessageKind.TheVariants as kind
use Rattle.sled_codec.specs.Spelling.{SpellsSigned}
use Rattle.sled_core.specs.declared.iterator.Segment.{Segment}
use Rattle.sled_core.specs.declared.iterator.scan.ScannedRecord.{ScannedRecord}
use Rattle.sled_core.specs.declared.iterator.scan.RecordContent.{RecordContent}
use Rattle.sled_core.specs.declared.iterator.scan.RecordContent.TheVariants.{Gives, NamesBlob, Skipped, BatchStart}
use Rattle.sled_core.specs.declared.iterator.scan.ScanEnd.{ScanEnd}
use Rattle.sled_core.specs.declared.iterator.scan.ScanEnd.TheVariants.{Full, Capped, Broken}
use Rattle.sled_core.specs.Reading.{IsMalformed, is_blob}
use Rattle.sled_core.specs.Scan.{Says, IsMet, IsPath, IsEnd, EndsThere, IsScan, IsDamagedIn}
use Rattle.sled_core.proofs.Read.GivesLemmas.{one_header, one_body, one_len, blob_apart}
use Rattle.sled_core.proofs.Read.PathLemmas.{not_inline}
use Rattle.sled_core.proofs.Read.ScanLemmas.{one_more}
use Rattle.sled_core.specs.Tail.{Scanned, IsScanned}

-- eight bytes spell one number
one_signed : (text : List ℕ) (x y : ℤ) → SpellsSigned text x → SpellsSigned text y → x ≡ y
one_signed text x y a b =
    let bits = a.unsigned.value ∙ sym b.unsigned.value in
    sym (to_z-of_z w64 x a.in_range) ∙ ap (cast_signed w64) bits ∙ to_z-of_z w64 y b.in_range

-- A record says one thing.
one_said : (h : MessageHeader) (body : List ℕ) (lid : ℕ) (x y : RecordContent) → Says h body lid x → Says h body lid y → x ≡ y
one_said h body lid (Gives d page pointer) (Gives d' page' pointer') a b =
    let does : d ≡ d' = a.0 ∙ sym b.0 in
    let pages : page ≡ page' = a.1 ∙ sym b.1 in
    let pointers : pointer ≡ pointer' = a.3 ∙ sym b.3 in
    λ i. Gives (does i) (pages i) (pointers i)
one_said h body lid (Gives d page pointer) (NamesBlob k page' at place) a b = absurd (blob_apart h.kind b.3 a.2)
one_said h body lid (Gives d page pointer) Skipped a b = absurd (not_inline h.kind kind.Canceled a.2 refl b)
one_said h body lid (Gives d page pointer) (BatchStart peg) a b = absurd (not_inline h.kind kind.BatchManifest a.2 refl b.0)
one_said h body lid (NamesBlob k page at place) (Gives d page' pointer) a b = absurd (blob_apart h.kind a.3 b.2)
one_said h body lid (NamesBlob k page at place) (NamesBlob k' page' at' place') a b =
    let kinds : k ≡ k' = a.0 ∙ sym b.0 in
    let pages : page ≡ page' = a.1 ∙ sym b.1 in
    let lids : at ≡ at' = a.2 ∙ sym b.2 in
    let places : place ≡ place' = one_signed body place place' a.4 b.4 in
    λ i. NamesBlob (kinds i) (pages i) (lids i) (places i)
one_said h body lid (NamesBlob k page at place) Skipped a b = let no : is_blob kind.Canceled ≡ true = ap is_blob (sym b) ∙ a.3 in cc
one_said h body lid (NamesBlob k page at place) (BatchStart peg) a b = let no : is_blob kind.BatchManifest ≡ true = ap is_blob (sym b.0) ∙ a.3 in cc
one_said h body lid Skipped (Gives d page pointer) a b = absurd (not_inline h.kind kind.Canceled b.2 refl a)
one_said h body lid Skipped (NamesBlob k page at place) a b = let no : is_blob kind.Canceled ≡ true = ap is_blob (sym a) ∙ b.3 in cc
one_said h body lid Skipped Skipped a b = refl
one_said h body lid Skipped (BatchStart peg) a b = let no : kind.Canceled ≡ kind.BatchManifest = sym a ∙ b.0 in cc
one_said h body lid (BatchStart peg) (Gives d page pointer) a b = absurd (not_inline h.kind kind.BatchManifest b.2 refl a.0)
one_said h body lid (BatchStart peg) (NamesBlob k page at place) a b = let no : is_blob kind.BatchManifest ≡ true = ap is_blob (sym a.0) ∙ b.3 in cc
one_said h body lid (BatchStart peg) Skipped a b = let no : kind.Canceled ≡ kind.BatchManifest = sym b ∙ a.0 in cc
one_said h body lid (BatchStart peg) (BatchStart peg') a b = ap BatchStart (one_signed body peg peg' a.1 b.1)

-- a record that is met is no Cap
said_no_cap : (h : MessageHeader) (body : List ℕ) (lid : ℕ) (what : RecordContent) → Says h body lid what → h.kind ≡ kind.Cap → ⊥
said_no_cap h body lid (Gives d page pointer) said cap = not_inline h.kind kind.Cap said.2 refl cap
said_no_cap h body lid (NamesBlob k page at place) said cap = let no : is_blob kind.Cap ≡ true = ap is_blob (sym cap) ∙ said.3 in cc
said_no_cap h body lid Skipped said cap = let no : kind.Canceled ≡ kind.Cap = sym said ∙ cap in cc
said_no_cap h body lid (BatchStart peg) said cap = let no : kind.BatchManifest ≡ kind.Cap = sym said.0 ∙ cap in cc

-- and where its body has to be a place, that has eight bytes
said_formed : (h : MessageHeader) (body : List ℕ) (lid : ℕ) (what : RecordContent) → Says h body lid what → (is_blob h.kind ≡ true) ⊎ (h.kind ≡ kind.BatchManifest) → length body ≢ 8 → ⊥
said_formed h body lid (Gives d page pointer) said needs other = elim needs [ inl blob ↦ blob_apart h.kind blob said.2 | inr manifest ↦ not_inline h.kind kind.BatchManifest said.2 refl manifest ]
said_formed h body lid (NamesBlob k page at place) said needs other = other said.4.unsigned.long
said_formed h body lid Skipped said needs other = elim needs [
  | inl blob ↦ (let no : is_blob kind.Canceled ≡ true = ap is_blob (sym said) ∙ blob in cc)
  | inr manifest ↦ (let no : kind.Canceled ≡ kind.BatchManifest = sym said ∙ manifest in cc)
]
said_formed h body lid (BatchStart peg) said needs other = other said.1.unsigned.long

module _ (sum : List ℕ → ℕ) (size : ℕ) (log : List ℕ) where
  -- At one offset one record is met.
  module _ (lid number : ℕ) (x : ScannedRecord) (a : IsMet sum size log lid number x) where
    pub one_met : (y : ScannedRecord) → IsMet sum size log lid number y → x.place ≡ y.place → x ≡ y
    unfolding IsMet
    one_met y b places =
        let header : a.0 ≡ b.0 = one_header sum size log lid number a.0 b.0 a.1 b.1 x.len y.len a.2 b.2 in
        let body : a.1 ≡ b.1 = one_body sum size log lid number a.0 b.0 a.1 b.1 x.len y.len a.2 b.2 in
        let len : x.len ≡ y.len = one_len sum size log lid number a.0 b.0 a.1 b.1 x.len y.len a.2 b.2 in
        let said : Says b.0 b.1 lid x.what = subst (λ (h : MessageHeader). Says h b.1 lid x.what) header (subst (λ (t : List ℕ). Says a.0 t lid x.what) body a.3) in
        let what : x.what ≡ y.what = one_said b.0 b.1 lid x.what y.what said b.3 in
        λ i. record { place = places i; len = len i; what = what i }

    -- the reading doesn't end there
    met_no_end : (why : ScanEnd) → EndsThere sum size log lid number why → ⊥
    unfolding IsMet EndsThere
    met_no_end Full ends = ends
    met_no_end Capped ends =
        let header : a.0 ≡ ends.0 = one_header sum size log lid number a.0 ends.0 a.1 ends.1 x.len ends.2 a.2 ends.3 in
        said_no_cap a.0 a.1 lid x.what a.3 (ap (λ (h : MessageHeader). h.kind) header ∙ ends.4)
    met_no_end Broken ends = ends a.0 a.1 x.len a.2

    -- and no damaged record stands there
    pub met_formed : IsMalformed sum size log lid number → ⊥
    unfolding IsMet
    met_formed bad =
        let header : bad.header ≡ a.0 = one_header sum size log lid number bad.header a.0 bad.body a.1 bad.len x.len bad.stands a.2 in
        let body : bad.body ≡ a.1 = one_body sum size log lid number bad.header a.0 bad.body a.1 bad.len x.len bad.stands a.2 in
        said_formed a.0 a.1 lid x.what a.3
        (subst (λ (h : MessageHeader). (is_blob h.kind ≡ true) ⊎ (h.kind ≡ kind.BatchManifest)) header bad.kind)
        (subst (λ (t : List ℕ). length t ≢ 8) body bad.not_eight)

  -- What is read of one segment.
  module _ (slot place : ℕ) where
    abbrev Path : ℕ → List ScannedRecord → ℕ → Type 0
    Path at ms next = IsPath sum size log slot place at ms next

    abbrev End : ℕ → ScanEnd → Type 0
    End at why = IsEnd sum size log slot place at why

    -- where a record is met the reading doesn't end
    pub no_end_at : (at : ℕ) (x : ScannedRecord) (why : ScanEnd) → at + 32 ≤ size → IsMet sum size log (slot + at) (place / size) x → End at why → ⊥
    no_end_at at x Full room met end = omega (arith, room, end)
    no_end_at at x Capped room met end = met_no_end (slot + at) (place / size) x met Capped end.1
    no_end_at at x Broken room met end = met_no_end (slot + at) (place / size) x met Broken end.1

    -- nor does a damaged record stand where it ends
    pub end_formed : (at : ℕ) (why : ScanEnd) → at + 32 ≤ size → End at why → IsMalformed sum size log (slot + at) (place / size) → ⊥
    unfolding EndsThere
    end_formed at Full room end bad = omega (arith, room, end)
    end_formed at Capped room end bad =
        let ends = end.1 in
        let header : bad.header ≡ ends.0 = one_header sum size log (slot + at) (place / size) bad.header ends.0 bad.body ends.1 bad.len ends.2 bad.stands ends.3 in
        let cap : bad.header.kind ≡ kind.Cap = ap (λ (h : MessageHeader). h.kind) header ∙ ends.4 in
        elim bad.kind [
          | inl blob ↦ (let no : is_blob kind.Cap ≡ true = ap is_blob (sym cap) ∙ blob in cc)
          | inr manifest ↦ (let no : kind.Cap ≡ kind.BatchManifest = sym cap ∙ manifest in cc)
        ]
    end_formed at Broken room end bad = end.1 bad.header bad.body bad.len bad.stands

    -- the reading ends in one way
    one_end : (at : ℕ) (why other : ScanEnd) → End at why → End at other → why ≡ other
    unfolding EndsThere
    one_end at Full Full a b = refl
    one_end at Full Capped a b = absurd (omega (arith, a, b.0))
    one_end at Full Broken a b = absurd (omega (arith, a, b.0))
    one_end at Capped Full a b = absurd (omega (arith, a.0, b))
    one_end at Capped Capped a b = refl
    one_end at Capped Broken a b = let ends = a.1 in absurd (b.1 ends.0 ends.1 ends.2 ends.3)
    one_end at Broken Full a b = absurd (omega (arith, a.0, b))
    one_end at Broken Capped a b = let ends = b.1 in absurd (a.1 ends.0 ends.1 ends.2 ends.3)
    one_end at Broken Broken a b = refl

    -- A path is the beginning of one that goes on to where the reading ends.
    pub path_begins : (at : ℕ) (ms : List ScannedRecord) (next : ℕ) (ns : List ScannedRecord) (stop : ℕ) (why : ScanEnd) → Path at ms next → Path at ns stop → End stop why
        → (rest : List ScannedRecord) × (ns ≡ ms ++ rest) × Path next rest stop
    path_begins at [] next ns stop why path whole end = (ns, refl, subst (λ n. Path n ns stop) (sym path) whole)
    path_begins at (m ∷ ms) next [] stop why path whole end = absurd (no_end_at at m why path.0 path.2 (subst (λ n. End n why) whole end))
    path_begins at (m ∷ ms) next (n ∷ ns) stop why path whole end =
        let same : n ≡ m = one_met (slot + at) (place / size) n whole.2 m path.2 (whole.1 ∙ sym path.1) in
        let len : at + n.len ≡ at + m.len = ap (λ (y : ScannedRecord). at + y.len) same in
        let rest = path_begins (at + m.len) ms next ns stop why path.3 (subst (λ k. Path k ns stop) len whole.3) end in
        (rest.0, λ i. same i ∷ rest.1 i, rest.2)

    -- where the reading ends nothing more is met
    pub ends_path : (at : ℕ) (ms : List ScannedRecord) (stop : ℕ) (why : ScanEnd) → Path at ms stop → End at why → (ms ≡ []) × (stop ≡ at)
    ends_path at [] stop why path end = (refl, path)
    ends_path at (m ∷ ms) stop why path end = absurd (no_end_at at m why path.0 path.2 end)

    -- What is met at the end of a path is met in the segment.
    pub met_there : (before : List ScannedRecord) (at : ℕ) (x : ScannedRecord) (ns : List ScannedRecord) (stop : ℕ) (why : ScanEnd) → Path 20 before at → at + 32 ≤ size → x.place ≡ place + at
        → IsMet sum size log (slot + at) (place / size) x → IsScan sum size log slot place ns stop why → Contains ns x
    unfolding IsScan
    met_there before at x ns stop why path room is met scan =
        let more = one_more sum size log slot place 20 before at x path room is met in
        let begins = path_begins 20 (before ++ x ∷ []) (at + x.len) ns stop why more scan.0 scan.1 in
        subst (λ (l : List ScannedRecord). Contains l x) (sym begins.1) (Contains-append_left (before ++ x ∷ []) begins.0 x (Contains-push before x))

    -- No damaged record is met in a segment that is read to its end.
    pub scan_undamaged : (ns : List ScannedRecord) (stop : ℕ) (why : ScanEnd) → IsScan sum size log slot place ns stop why → IsDamagedIn sum size log slot place → ⊥
    unfolding IsScan IsDamagedIn
    scan_undamaged ns stop why scan damaged =
        let begins = path_begins 20 damaged.0 damaged.1 ns stop why damaged.2 scan.0 scan.1 in
        by begins.0 begins.2
      where
        by : (rest : List ScannedRecord) → Path damaged.1 rest stop → ⊥
        by [] path = end_formed damaged.1 why damaged.3 (subst (λ n. End n why) path scan.1) damaged.4
        by (x ∷ rest) path = met_formed (slot + damaged.1) (place / size) x path.2 damaged.4

-- All that is met in a segment is met in one way.
pub one_scan : (sum : List ℕ → ℕ) (size : ℕ) (log : List ℕ) (s t : Scanned) → s.segment ≡ t.segment → IsScanned sum size log s → IsScanned sum size log t → s ≡ t
unfolding IsScan
one_scan sum size log s t same scan also =
    let there = subst (λ (x : Segment). IsScan sum size log x.slot x.place s.met s.stop s.why) same scan in
    let slot : ℕ = t.segment.slot in
    let place : ℕ = t.segment.place in
    let begins = path_begins sum size log slot place 20 s.met s.stop t.met t.stop t.why there.0 also.0 also.1 in
    let ends = ends_path sum size log slot place s.stop begins.0 t.stop s.why begins.2 there.1 in
    let met : s.met ≡ t.met = sym (append-nil s.met) ∙ ap (λ (l : List ScannedRecord). s.met ++ l) (sym ends.0) ∙ sym begins.1 in
    let why : s.why ≡ t.why = one_end sum size log slot place t.stop s.why t.why (subst (λ n. IsEnd sum size log slot place n s.why) (sym ends.1) there.1) also.1 in
    λ i. record { segment = same i; met = met i; stop = sym ends.1 i; why = why i }
