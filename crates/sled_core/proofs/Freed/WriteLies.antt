-- How a write lies in the slot of a segment that is begun: at the end of what is written of the segment, or behind a gap.
use Rattle.std.proofs.Common.{◌≡◌, ◌⊎◌, ◌∙◌, ◌<◌, ◌+◌, ◌*◌, ◌≤◌, ℕ, ℤ, pos, max, List, take, refl, sym, subst, arith, inl, inr}
use Rattle.std.specs.List.{Contains}
use Rattle.std.proofs.lemmas.Bool.{cases_lt}
use Rattle.sled_codec.specs.Places.{part}
use Rattle.sled_codec.specs.Record.{IsHeader}
use Rattle.sled_store.specs.Device.{overwritten}
use Rattle.sled_core.specs.declared.iobuf.SegmentPosition.{SegmentPosition}
use Rattle.sled_core.specs.declared.iterator.Segment.{Segment}
use Rattle.sled_core.specs.declared.iterator.scan.ScannedRecord.{ScannedRecord}
use Rattle.sled_core.specs.declared.iterator.scan.ScanEnd.{ScanEnd}
use Rattle.sled_core.specs.declared.iterator.scan.ScanEnd.TheVariants.{Full, Capped, Broken}
use Rattle.sled_core.specs.Scan.{IsEnd, IsScan}
use Rattle.sled_core.specs.Tail.{IsScanned, Scanned, AreScanned, IsOrdering}
use Rattle.sled_core.specs.inside.Reached.{IsReadTo, IsSoFar, StandsIn}
use Rattle.sled_core.specs.inside.Scan.{IsFoundSegment}
use Rattle.sled_core.proofs.Freed.WriteSlots.{LiesIn, ReadsFrom}
use Rattle.sled_core.proofs.Tail.OneTail.{segment_there}
use Rattle.sled_core.proofs.Torn.WrittenParts.{path_rises}

-- What is written of a segment is read in its slot, up to its end, for want of a record or of room.
pub record ReadsUpTo (sum : List ℕ → ℕ) (size : ℕ) (file : List ℕ) (slot place to : ℕ) : Type 0 where
  pub mark : ℤ
  pub header : IsHeader sum (part file (slot * size) 20) (pos place) mark
  pub met : List ScannedRecord
  pub why : ScanEnd
  pub scan : IsScan sum size file (slot * size) place met to why
  pub broken : to + 32 ≤ size → why ≡ Broken

module _ (sum : List ℕ → ℕ) (size : ℕ) (shown : List ℕ) (least : ℕ) (ordering : List Segment) (numbers : IsOrdering sum size shown least ordering)
    (scanned : List Scanned) (reads : AreScanned sum size shown ordering scanned) (site : SegmentPosition) (slot : ℕ) (its_slot : site.slot ≡ slot * size)
    (written records : ℕ) (stands : StandsIn sum size shown least scanned site written records) (short : written < size) where
  abbrev UpTo : Type 0
  UpTo = ReadsUpTo sum size shown slot site.place written

  pub up_to : 0 < written → UpTo
  unfolding IsScan
  up_to more = by (stands.read more) where
    by : (stop : ℕ) × (why : ScanEnd) × IsReadTo scanned site.slot site.place stop why × IsSoFar size written stop why × (written ≡ size → records ≤ stop)
        → UpTo
    by (stop, why, r, inr (full, goes), rest) = absurd (omega (arith, full, short))
    by (stop, why, r, inl (ends, broken), rest) =
        let z : Scanned = r.scan in
        let its : Contains ordering z.segment × IsScanned sum size shown z = segment_there sum size shown ordering scanned reads z r.there in
        let found : IsFoundSegment sum size shown least z.segment = (numbers.found z.segment).0 its.0 in
        let here : z.segment.slot ≡ slot * size = r.in_slot ∙ its_slot in
        let header = subst (λ n. IsHeader sum (part shown n 20) (pos z.segment.place) z.segment.mark) here found.header in
        let scan = subst (λ n. IsScan sum size shown n z.segment.place z.met z.stop z.why) here its.1 in
        let there = subst (λ n. IsScan sum size shown (slot * size) n z.met z.stop z.why) r.at_place scan in
        record {
          mark = z.segment.mark;
          header = subst (λ n. IsHeader sum (part shown (slot * size) 20) (pos n) z.segment.mark) r.at_place header;
          met = z.met;
          why = z.why;
          scan = subst (λ n. IsScan sum size shown (slot * size) site.place z.met n z.why) (r.ended ∙ ends) there;
          broken = λ room. r.ends ∙ broken room;
        }

  behind_header : (u : UpTo) → 20 ≤ written
  unfolding IsScan
  behind_header u = path_rises sum size shown (slot * size) site.place 20 u.met written u.scan.0

  -- At the end of what is written: the write begins the segment, or goes on there.
  pub lies_next : (asked : List ℕ) (until : ℕ) → (written ≡ 0 → (mark : ℤ) × IsHeader sum (take 20 asked) (pos site.place) mark)
      → ReadsFrom sum size (overwritten shown (slot * size + written) asked) slot site.place (max 20 written) until
      → LiesIn sum size shown slot written asked site.place until
  unfolding IsScan
  lies_next asked until header on = elim (cases_lt 0 written) [
    | inl more ↦ (
        let u = up_to more in
        let low = behind_header u in
        let begins : max 20 written ≡ written = omega (arith, low) in
        inr (inl (record {
          behind = low;
          mark = u.mark;
          header = u.header;
          met = u.met;
          before = u.scan.0;
          on = subst (λ n. ReadsFrom sum size (overwritten shown (slot * size + written) asked) slot site.place n until) begins on;
        })))
    | inr fresh ↦ (
        let none : written ≡ 0 = omega (arith, fresh) in
        let its = header none in
        let begins : max 20 written ≡ 20 = omega (arith, none) in
        inl (record {
          begins = none;
          mark = its.0;
          header = its.1;
          on = subst (λ n. ReadsFrom sum size (overwritten shown (slot * size + written) asked) slot site.place n until) begins on;
        }))
  ]

  -- Behind a gap, or where no record has room any more.
  pub lies_behind : (at : ℕ) (asked : List ℕ) (until : ℕ) → 20 ≤ at → (written < at) ⊎ ((written ≡ at) × (size < written + 32))
      → (written ≡ 0 → (lsn mark : ℤ) → IsHeader sum (part shown (slot * size) 20) lsn mark → ⊥) → LiesIn sum size shown slot at asked site.place until
  unfolding IsScan
  lies_behind at asked until far behind none = elim (cases_lt 0 written) [
    | inr fresh ↦ inr (inr (inr (record { behind = far; none = none (omega (arith, fresh)) })))
    | inl more ↦ (
        let u = up_to more in
        inr (inr (inl (record {
          behind = far;
          mark = u.mark;
          header = u.header;
          met = u.met;
          low = written;
          why = u.why;
          scan = u.scan;
          before = elim behind [ inl less ↦ omega (arith, less) | inr (same, full) ↦ omega (arith, same) ];
          stops = stops u u.why refl u.scan.1;
        }))))
  ] where
    stops : (u : UpTo) (o : ScanEnd) → u.why ≡ o → IsEnd sum size shown (slot * size) site.place written o
        → ((u.why ≡ Broken) × (written < at)) ⊎ (u.why ≡ Full)
    stops u Full is end = inr is
    stops u Capped is end = absurd (let never : Capped ≡ Broken = sym is ∙ u.broken end.0 in cc)
    stops u Broken is end = elim behind [ inl less ↦ inl (is, less) | inr (same, full) ↦ absurd (let room = end.0 in omega (arith, room, full)) ]
