-- A log file at rest in which nothing is foreign reads as what is shown of it, but for segments that are gone.
use Rattle.std.proofs.Common.{◌≡◌, ◌⊎◌, ◌∙◌, ◌+◌, ◌*◌, ◌/◌, ◌≤◌, ℕ, ℤ, pos, List, [], ◌∷◌, drop, length-take, refl, sym, ap, subst, arith, inl, inr}
use Rattle.std.proofs.Math.Nat.{mul-mod_left}
use Rattle.sled_codec.specs.declared.serialization.message.MessageHeader.{MessageHeader}
use Rattle.sled_codec.specs.History.{History}
use Rattle.sled_codec.specs.Places.{part}
use Rattle.sled_codec.specs.Record.{IsHeader, IsRecord}
use Rattle.sled_store.specs.Device.{State}
use Rattle.sled_store.specs.Foreign.{HeaderWasPlaced, RecordWasPlaced}
use Rattle.sled_store.specs.Readers.{at_start}
use Rattle.sled_store.specs.SegmentStates.{Machine}
use Rattle.sled_core.specs.declared.iterator.scan.ScannedRecord.{ScannedRecord}
use Rattle.sled_core.specs.declared.iterator.scan.ScanEnd.{ScanEnd}
use Rattle.sled_core.specs.declared.iterator.scan.ScanEnd.TheVariants.{Full, Capped, Broken}
use Rattle.sled_core.specs.Begun.{SegmentView}
use Rattle.sled_core.specs.Reading.{StandsAt}
use Rattle.sled_core.specs.Scan.{EndsThere, IsEnd, IsMet, IsPath, IsScan}
use Rattle.sled_core.specs.inside.Cleared.{cleared}
use Rattle.sled_core.specs.inside.Hides.{Hides, IsGoneSegment, IsOwnHeader, ReadsOwnIn, ReadsShown}
use Rattle.sled_core.specs.inside.OwnLog.{ReadsOwn, ReadsPlaced}
use Rattle.sled_core.specs.inside.Slots.{marked_at}
use Rattle.sled_core.proofs.Freed.Gone.{ReadsAs}
use Rattle.sled_core.proofs.Numbers.Hides.{gone_in}
use Rattle.sled_core.proofs.Freed.ReadsAlike.{ReadsAlike, ReadsSame, reads_as, same_along}
use Rattle.sled_core.proofs.OwnLog.Kept.{part_in}
use Rattle.sled_core.proofs.Tail.LogFileLemmas.{record_moved}
use Rattle.sled_core.proofs.Torn.AlikeSlots.{SameIn}
use Rattle.sled_core.proofs.Torn.TornRecords.{long_enough, record_read, says_plain}
use Rattle.sled_core.proofs.Torn.WrittenParts.{ComesTo, all_there, comes_behind, in_segment, in_this_file}
use Rattle.sled_core.proofs.Torn.WrittenRecords.{AlikeAlong}

-- where a reader of a segment comes in one file, a record of it that stands there stands in another one too
abbrev pub StandsRead : (List ℕ → ℕ) → ℕ → List ℕ → List ℕ → ℕ → ℕ → Type 0
StandsRead sum size old new slot place =
    (from : ℕ) → ComesTo sum size old (slot * size) place from → from + 32 ≤ size → (h : MessageHeader) (body : List ℕ) (len : ℕ)
    → StandsAt sum size old (slot * size + from) (place / size) h body len → StandsAt sum size new (slot * size + from) (place / size) h body len

-- So in two files that have the same of what a reader of either reads all is met alike.
module _ (sum : List ℕ → ℕ) (size : ℕ) (old new : List ℕ) (slot place : ℕ) (on : StandsRead sum size old new slot place)
    (back : StandsRead sum size new old slot place) where
  abbrev Comes : List ℕ → ℕ → Type 0
  Comes log from = ComesTo sum size log (slot * size) place from

  scan_from : (from : ℕ) → Comes old from → Comes new from → (ms : List ScannedRecord) (next : ℕ) (why : ScanEnd)
      → IsPath sum size old (slot * size) place from ms next → IsEnd sum size old (slot * size) place next why
      → IsPath sum size new (slot * size) place from ms next × IsEnd sum size new (slot * size) place next why
  unfolding IsMet EndsThere
  scan_from from here there [] next why path end = (path, by why (subst (λ n. IsEnd sum size old (slot * size) place n why) path end)) where
    at_end : (o : ScanEnd) → IsEnd sum size old (slot * size) place from o → IsEnd sum size new (slot * size) place from o
    at_end Full full = full
    at_end Capped (room, (h, body, len, s, is_cap)) = (room, (h, body, len, on from here room h body len s, is_cap))
    at_end Broken (room, none) = (room, λ h body len s. none h body len (back from there room h body len s))

    by : (o : ScanEnd) → IsEnd sum size old (slot * size) place from o → IsEnd sum size new (slot * size) place next o
    by o is = subst (λ n. IsEnd sum size new (slot * size) place n o) (sym path) (at_end o is)
  scan_from from here there (m ∷ ms) next why (room, at_place, (h, body, stands, says), path) end =
      let still = on from here room h body m.len stands in
      let plain = says_plain h body (slot * size + from) m.what says in
      let rest = scan_from (from + m.len) (comes_behind sum size old (slot * size) (mul-mod_left slot size) place from h body m.len room plain stands here)
      (comes_behind sum size new (slot * size) (mul-mod_left slot size) place from h body m.len room plain still there) ms next why path end in
      ((room, at_place, (h, body, still, says), rest.0), rest.1)

  pub scan_read : (met : List ScannedRecord) (stop : ℕ) (why : ScanEnd) → IsScan sum size old (slot * size) place met stop why
      → IsScan sum size new (slot * size) place met stop why
  unfolding IsScan
  scan_read met stop why (path, end) = scan_from 20 at_start at_start met stop why path end

-- So it is where each record that a reader of either comes to has the same bytes in the other.
stands_of : (sum : List ℕ → ℕ) (size : ℕ) (a b : List ℕ) (slot place : ℕ) → ReadsSame sum size a b slot place → StandsRead sum size a b slot place
stands_of sum size a b slot place same from comes room h body len stands =
    let lid : ℕ = slot * size + from in
    let alike = same from room comes h body len stands in
    let eight = long_enough sum size a lid (place / size) h body len stands in
    let whole = all_there sum size a lid (place / size) h body len stands in
    record_moved sum size a b lid (place / size) h body len alike (in_this_file sum size b a lid len (omega (arith, eight)) whole alike) stands

pub both_alike : (sum : List ℕ → ℕ) (size : ℕ) (a b : List ℕ) (slot place : ℕ) → part b (slot * size) 20 ≡ part a (slot * size) 20
    → ReadsSame sum size a b slot place → ReadsSame sum size b a slot place → ReadsAlike sum size a b slot place
both_alike sum size a b slot place header on back = record {
  header = header;
  scans = scan_read sum size a b slot place (stands_of sum size a b slot place on) (stands_of sum size b a slot place back);
  bytes = λ ms next path. same_along sum size a b slot place on 20 at_start ms next path;
}

-- A file in which a reader reads nothing but what is own: each header that stands there is own, and so is each record of its number that is read.
module _ (sum : List ℕ → ℕ) (size : ℕ) (s : State) (log : List ℕ)
    (own : (slot : ℕ) → ReadsOwn sum size (HeaderWasPlaced s.placed) (RecordWasPlaced sum size s.placed) log slot) where
  pub own_header : (k place : ℕ) (mark : ℤ) → IsHeader sum (part log (k * size) 20) (pos place) mark → IsOwnHeader sum size s k place mark
  own_header k place mark header = record { text = part log (k * size) 20; is = header; placed = (own k).header (pos place) mark header }

  pub own_record : (k place : ℕ) (mark : ℤ) → IsHeader sum (part log (k * size) 20) (pos place) mark → ReadsOwnIn sum size s k (place / size) log
  own_record k place mark header at len r =
      let inside = r.inside in record {
        kind = r.kind;
        page = r.page;
        body = r.body;
        is = subst (λ (l : List ℕ). IsRecord sum l r.kind r.page (place / size) r.body)
            (part_in size log (k * size) at len (omega (arith, inside, length-take size (drop (k * size) log)))) r.is;
        placed = (own k).records place mark at len header r;
      }

-- A record that a reader of a segment comes to in what is shown stands in each file that has the bytes of its slot.
module _ (sum : List ℕ → ℕ) (size : ℕ) (m : Machine) (shown log : List ℕ) (reads : ReadsShown sum size m shown log) (k place : ℕ) (mark : ℤ)
    (header : IsHeader sum (part shown (k * size) 20) (pos place) mark) where
  pub shown_kept : (left : List ℕ) → SameIn size log left k → ReadsSame sum size shown left k place
  shown_kept left same from room comes h body len stands =
      let lid : ℕ = k * size + from in
      let in_log = reads.records k place mark from len header
      (record_read sum size shown (record { place = place; slot = k * size }) (mul-mod_left k size) (place / size) 20 from h body len room stands comes) in
      let eight = long_enough sum size shown lid (place / size) h body len stands in
      let whole = all_there sum size shown lid (place / size) h body len stands in
      let fits = in_segment sum size shown (k * size) (mul-mod_left k size) from (place / size) h body len (omega (arith, room)) stands in
      let there = in_this_file sum size log shown lid len (omega (arith, eight)) whole in_log in
      same lid len (omega arith) (omega (arith, whole, fits)) there ∙ in_log

  -- So it does in the log file.
  in_itself : SameIn size log log k
  in_itself lid len low high there = refl

  pub shown_there : ReadsSame sum size shown log k place
  shown_there = shown_kept log in_itself

  pub alike_there : (ms : List ScannedRecord) (next : ℕ) → IsPath sum size shown (k * size) place 20 ms next → AlikeAlong shown log (k * size) 20 ms
  alike_there ms next path = same_along sum size shown log k place shown_there 20 at_start ms next path

module _ (sum : List ℕ → ℕ) (size : ℕ) (s : State) (m : Machine) (line : List SegmentView) (least base : ℕ) (H : History)
    (hides : Hides sum size s m line least base H) where
  abbrev log : List ℕ
  log = s.log.bytes

  abbrev shown : List ℕ
  shown = cleared size m line log

  module _ (reads : ReadsShown sum size m shown log) where
    -- Where all that a reader reads in a file of the segment of a header that is shown is own, it is shown.
    pub own_same : (k place : ℕ) (mark : ℤ) → IsHeader sum (part shown (k * size) 20) (pos place) mark → (left : List ℕ)
        → ReadsOwnIn sum size s k (place / size) left → ReadsSame sum size left shown k place
    own_same k place mark header left own from room comes h body len stands =
        let lid : ℕ = k * size + from in
        let text : List ℕ = part left lid len in
        let whole = all_there sum size left lid (place / size) h body len stands in
        let fits = in_segment sum size left (k * size) (mul-mod_left k size) from (place / size) h body len (omega (arith, room)) stands in
        let its = reads.slots k place mark header in
        let owned = own from len
        (record_read sum size left (record { place = place; slot = k * size }) (mul-mod_left k size) (place / size) 20 from h body len room stands comes) in
        ap (part shown lid) (sym whole)
        ∙ (hides.taken k (place / size) lid text its.0 (omega arith, omega (arith, whole, fits)) owned).1 (ap (λ n. n / size) (sym its.1))

    -- Nothing is foreign in the file.
    module _ (own : ReadsPlaced sum size s) where
      -- Each segment that is shown is read in it as it is shown,
      pub rest_alike : (k place : ℕ) (mark : ℤ) → IsHeader sum (part shown (k * size) 20) (pos place) mark → ReadsAlike sum size shown log k place
      rest_alike k place mark header =
          let there = reads.headers k place mark header in
          both_alike sum size shown log k place there (shown_there sum size m shown log reads k place mark header)
          (own_same k place mark header log
          (own_record sum size s log own k place mark (subst (λ (l : List ℕ). IsHeader sum l (pos place) mark) (sym there) header)))

      -- and one that is found in it from the snapshot's on is shown, or gone.
      shown_or_gone : (k place : ℕ) (mark : ℤ) → least ≤ place → IsHeader sum (part log (k * size) 20) (pos place) mark
          → IsHeader sum (part shown (k * size) 20) (pos place) mark ⊎ IsGoneSegment sum size log H base (marked_at (k * size) place mark)
      shown_or_gone k place mark low header = elim (hides.headers k place mark low (own_header sum size s log own k place mark header)) [
        | inl is ↦ inl is
        | inr gone ↦ inr (gone_in sum size s m base H k place mark gone log (own_record sum size s log own k place mark header))
      ]

      -- So the file reads as what is shown of it, but for segments that are gone.
      pub reads_as_shown : ReadsAs sum size least H base shown log
      reads_as_shown = reads_as sum size least H base shown log rest_alike shown_or_gone
