-- In a file of bytes each segment is read in some way: none is left that isn't. So what can be tested of what is given is so, whichever way that is.
use Rattle.std.proofs.Common.{◌≡◌, ◌⊎◌, ◌∙◌, ◌+◌, ◌/◌, ◌^◌, ◌≤◌, ◌<◌, ◌++◌, ℕ, zero, suc, ℤ, pos, negsuc, true, Bool, List, [], ◌∷◌, length, get_or, drop, Option, Some, None, IfNone, refl, sym, ap, subst, arith, inl, inr}
use Rattle.std.specs.Int.{w64, cast_signed}
use Rattle.std.specs.List.{All, Contains}
use Rattle.std.proofs.lemmas.Bool.{cases_eq, cases_lt}
use Rattle.std.proofs.lemmas.List.{get_or_past}
use Rattle.std.proofs.lemmas.List.Elements.{All-drop, All-get_or, All-take}
use Rattle.std.proofs.Math.Seq.{drop-append_seam}
use Rattle.sled_codec.specs.declared.result.DiskPtr.TheVariants as ptr
use Rattle.sled_codec.specs.declared.serialization.message.MessageHeader.{MessageHeader}
use Rattle.sled_codec.specs.declared.serialization.message.MessageKind.{MessageKind}
use Rattle.sled_codec.specs.declared.serialization.message.MessageKind.TheVariants as kind
use Rattle.sled_codec.specs.Kinds.{log_kind_of}
use Rattle.sled_codec.specs.Spelling.{SpellsSigned, low_first}
use Rattle.sled_codec.proofs.Fronts.{spells_read}
use Rattle.sled_store.proofs.Segments.Elements.{in_cases, in_nothing}
use Rattle.sled_core.specs.declared.iterator.Segment.{Segment}
use Rattle.sled_core.specs.declared.iterator.scan.RecordContent.{RecordContent}
use Rattle.sled_core.specs.declared.iterator.scan.RecordContent.TheVariants.{Gives, NamesBlob, Skipped, BatchStart}
use Rattle.sled_core.specs.declared.iterator.scan.ScanEnd.{ScanEnd}
use Rattle.sled_core.specs.declared.iterator.scan.ScanEnd.TheVariants.{Full, Capped, Broken}
use Rattle.sled_core.specs.declared.iterator.scan.ScannedRecord.{ScannedRecord}
use Rattle.sled_core.specs.Iterates.{Damage, IsIteration, Item}
use Rattle.sled_core.specs.Reading.{IsMalformed, StandsAt, is_blob, is_inline}
use Rattle.sled_core.specs.Rising.{FollowFrom, IsReadBy, RiseFrom}
use Rattle.sled_core.specs.Scan.{EndsThere, IsEnd, IsMet, IsPath, Says}
use Rattle.sled_core.specs.Tail.{open_at}
use Rattle.sled_core.proofs.Iterated.Rising.{iteration_rises}
use Rattle.sled_core.proofs.Read.ScanLemmas.{met_fits}

-- Eight bytes are a number that fits a word.
small_number : (bs : List ℕ) → ((i : ℕ) → get_or bs i 0 < 256) → low_first bs < 2 ^ 64
small_number bs each =
    let a = each 0 in let b = each 1 in let c = each 2 in let d = each 3 in let e = each 4 in let f = each 5 in let g = each 6 in let h = each 7 in
    omega arith

-- a list of bytes
abbrev AreBytes : List ℕ → Type 0
AreBytes = All (λ b. b < 256)

each_byte : (bs : List ℕ) → AreBytes bs → (i : ℕ) → get_or bs i 0 < 256
each_byte bs are i = elim (cases_lt i (length bs)) [
  | inl inside ↦ All-get_or (λ b. b < 256) bs i 0 inside are
  | inr past ↦ (let none = get_or_past bs i 0 past in omega (arith, none))
]

module _ (sum : List ℕ → ℕ) (size : ℕ) (log : List ℕ) (bytes : AreBytes log) where
  -- What stands at an offset is a Cap, or is met, or is malformed.
  module _ (lid number : ℕ) (h : MessageHeader) (body : List ℕ) (len : ℕ) (stands : StandsAt sum size log lid number h body len) where
    body_bytes : AreBytes body
    body_bytes =
        subst AreBytes (drop-append_seam stands.header body) (All-drop (λ b. b < 256) (length stands.header) (stands.header ++ body)
        (subst AreBytes stands.is (All-take (λ b. b < 256) len (drop lid log) (All-drop (λ b. b < 256) lid log bytes))))

    abbrev Known : Type 0
    Known = IsMalformed sum size log lid number ⊎ (h.kind ≡ kind.Cap) ⊎ ((what : RecordContent) × Says h body lid what)

    -- where its body is to be a number
    with_number : (is_blob h.kind ≡ true) ⊎ (h.kind ≡ kind.BatchManifest) → ((z : ℤ) → SpellsSigned body z → (what : RecordContent) × Says h body lid what) → Known
    with_number needs says = elim (cases_eq (length body) 8) [
      | inl eight ↦ inr (inr (says (cast_signed w64 (low_first body))
          (spells_read body (low_first body) (cast_signed w64 (low_first body)) eight refl (small_number body (each_byte body body_bytes)) refl)))
      | inr other ↦ inl (record { header = h; body = body; len = len; stands = stands; kind = needs; not_eight = other })
    ]

    gives : is_inline h.kind ≡ true → Known
    gives inline = inr (inr (Gives (log_kind_of h.kind) h.pid (ptr.Inline lid), (refl, refl, inline, refl)))

    names : is_blob h.kind ≡ true → Known
    names blob = with_number (inl blob) (λ z spelled. (NamesBlob h.kind h.pid lid z, (refl, refl, refl, blob, spelled)))

    known : Known
    known = by h.kind refl where
      by : (k : MessageKind) → h.kind ≡ k → Known
      by kind.Corrupted is = absurd (stands.valid is)
      by kind.Canceled is = inr (inr (Skipped, is))
      by kind.Cap is = inr (inl is)
      by kind.BatchManifest is = with_number (inr is) (λ z spelled. (BatchStart z, (is, spelled)))
      by kind.Free is = gives (ap is_inline is)
      by kind.Counter is = gives (ap is_inline is)
      by kind.InlineMeta is = gives (ap is_inline is)
      by kind.InlineNode is = gives (ap is_inline is)
      by kind.InlineLink is = gives (ap is_inline is)
      by kind.BlobMeta is = names (ap is_blob is)
      by kind.BlobNode is = names (ap is_blob is)
      by kind.BlobLink is = names (ap is_blob is)

  module _ (slot place : ℕ) where
    -- A segment is read from an offset on, to its end or up to a malformed record.
    record ReadsFrom (at : ℕ) : Type 0 where
      met : List ScannedRecord
      stop : ℕ
      path : IsPath sum size log slot place at met stop
      ends : ((why : ScanEnd) × IsEnd sum size log slot place stop why) ⊎ ((stop + 32 ≤ size) × IsMalformed sum size log (slot + stop) (place / size))

    -- there is no other way
    no_other : (fuel at : ℕ) → size < at + 32 + fuel → (ReadsFrom at → ⊥) → ⊥
    unfolding IsMet EndsThere
    no_other zero at far none = none (record { met = []; stop = at; path = refl; ends = inl (Full, omega (arith, far)) })
    no_other (suc fuel) at far none = elim (cases_lt size (at + 32)) [
      | inl full ↦ none (record { met = []; stop = at; path = refl; ends = inl (Full, full) })
      | inr room ↦ none (record {
        met = [];
        stop = at;
        path = refl;
        ends = inl (
          Broken,
          (
            room,
            λ h body len stands. elim (known (slot + at) (place / size) h body len stands) [
              | inl bad ↦ none (record { met = []; stop = at; path = refl; ends = inr (room, bad) })
              | inr (inl cap) ↦ none (record { met = []; stop = at; path = refl; ends = inl (Capped, (room, (h, body, len, stands, cap))) })
              | inr (inr (what, says)) ↦ (
                  let m : ScannedRecord = record { place = place + at; len = len; what = what } in
                  let met : IsMet sum size log (slot + at) (place / size) m = (h, body, stands, says) in
                  let fits = met_fits sum size log (slot + at) (place / size) m met in
                  no_other fuel (at + len) (omega (arith, far, fits.0)) (λ r. none (record {
                    met = m ∷ r.met;
                    stop = r.stop;
                    path = (room, refl, met, r.path);
                    ends = r.ends;
                  })))
            ],
          ),
        );
      })
    ]

  -- So a segment is read by a pass, up to an open batch, if there is one.
  module _ (end : ℕ) where
    read_by : (s : Segment) → ReadsFrom s.slot s.place 20 → IsReadBy sum size log end s
    read_by s r = by (open_at end r.met) refl r.ends where
      by : (o : Option ℕ) → open_at end r.met ≡ o
          → ((why : ScanEnd) × IsEnd sum size log s.slot s.place r.stop why) ⊎ ((r.stop + 32 ≤ size) × IsMalformed sum size log (s.slot + r.stop) (s.place / size))
          → IsReadBy sum size log end s
      by None is (inr (room, bad)) =
          inl (record { met = r.met; next = r.stop; path = r.path; not_open = is; room = room; damaged = bad })
      by None is (inl (why, ends)) =
          inr (record { segment = s; met = r.met; stop = r.stop; why = why }, refl, (r.path, subst (λ (o : Option ℕ). IfNone o (IsEnd sum size log s.slot s.place r.stop why)) (sym is) ends))
      by (Some at) is ends =
          inr (record { segment = s; met = r.met; stop = r.stop; why = Full }, refl, (r.path, subst (λ (o : Option ℕ). IfNone o (IsEnd sum size log s.slot s.place r.stop Full)) (sym is) tt))

    all_read : (ss : List Segment) → (((s : Segment) → Contains ss s → IsReadBy sum size log end s) → ⊥) → ⊥
    all_read [] none = none (λ s there. absurd (in_nothing s there))
    all_read (s ∷ ss) none =
        no_other s.slot s.place (suc size) 20 (omega arith) (λ r. all_read ss (λ rest. none (λ t there. elim (in_cases s t ss there) [
          | inl same ↦ subst (IsReadBy sum size log end) same (read_by s r)
          | inr later ↦ rest t later
        ])))

-- Whether messages rise can be tested.
rise_test : (low : ℕ) (items : List Item) → RiseFrom low items ⊎ (RiseFrom low items → ⊥)
rise_test low [] = inl tt
rise_test low (item ∷ items) = by item.2 refl (λ n. rise_test (suc n) items) where
  by : (z : ℤ) → item.2 ≡ z → ((n : ℕ) → RiseFrom (suc n) items ⊎ (RiseFrom (suc n) items → ⊥)) → RiseFrom low (item ∷ items) ⊎ (RiseFrom low (item ∷ items) → ⊥)
  by (negsuc n) is rest = inr (λ r. (let both : negsuc n ≡ pos r.0 = sym is ∙ r.1 in cc))
  by (pos n) is rest = elim (cases_lt n low) [
    | inl under ↦ inr (λ r. (let both : pos n ≡ pos r.0 = sym is ∙ r.1 in let same : n ≡ r.0 = cc in let up = r.2 in omega (arith, under, same, up)))
    | inr above ↦ elim (rest n) [
      | inl later ↦ inl (n, is, omega (arith, above), later)
      | inr never ↦ inr (λ r. (let both : pos n ≡ pos r.0 = sym is ∙ r.1 in let same : r.0 ≡ n = cc in never (subst (λ k. RiseFrom (suc k) items) same r.3)))
    ]
  ]

pub bytes_rise : (sum : List ℕ → ℕ) (size : ℕ) (log : List ℕ) (blobs : ℤ → Option (List ℕ)) (end : ℕ) (strict : Bool) (low : ℕ) (ss : List Segment)
    (items : List Item) (damage : Damage) → All (λ b. b < 256) log → FollowFrom size low ss → IsIteration sum size log blobs end strict ss items damage
    → RiseFrom low items
bytes_rise sum size log blobs end strict low ss items damage bytes follow gives = elim (rise_test low items) [
  | inl rise ↦ rise
  | inr never ↦ absurd (all_read sum size log bytes end ss (λ read. never (iteration_rises sum size log blobs end strict low ss items damage follow read gives)))
]
