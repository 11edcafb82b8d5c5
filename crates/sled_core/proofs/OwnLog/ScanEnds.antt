-- Where a segment is read to its end, for want of room or for a Cap, nothing is read behind it, also with zeros behind the end of the file.
use Rattle.std.proofs.Common.{◌≡◌, ◌≢◌, ◌∙◌, ◌≤◌, ◌<◌, ◌+◌, ◌*◌, ◌/◌, ℕ, ℤ, pos, List, length, drop, get_or, sym, ap, refl, subst, arith, length-take, length-drop}
use Rattle.std.proofs.Math.Nat.{mul-mod_left}
use Rattle.sled_codec.specs.Kinds.{kind_of}
use Rattle.sled_codec.specs.Places.{part}
use Rattle.sled_codec.specs.Record.{IsHeader, IsRecord}
use Rattle.sled_codec.proofs.Segments.{length-short_header}
use Rattle.sled_store.specs.Readers.{ReadsTo, at_start, reads_past}
use Rattle.sled_store.proofs.Own.NoRecord.{kind_is}
use Rattle.sled_store.proofs.Own.ReachedLemmas.{begins, same_len, same_record}
use Rattle.sled_core.specs.declared.iterator.scan.ScannedRecord.{ScannedRecord}
use Rattle.sled_core.specs.declared.iterator.scan.ScanEnd.{ScanEnd}
use Rattle.sled_core.specs.declared.iterator.scan.ScanEnd.TheVariants.{Full, Capped, Broken}
use Rattle.sled_core.specs.inside.OwnLog.{HasOwnSlot, ReadsOwn}
use Rattle.sled_core.specs.Scan.{EndsThere, IsScan}
use Rattle.sled_core.proofs.OwnLog.Kept.{part_in}
use Rattle.sled_core.proofs.OwnLog.Paths.{path_reads}
use Rattle.sled_core.proofs.OwnLog.SlotEnds.{EndsAt, ends_full, longer, more, own_to_end, same, slot_has}
use Rattle.sled_core.proofs.Read.ScanLemmas.{aligned_offset}
use Rattle.sled_core.proofs.Torn.TornRecords.{record_of_stands}

-- What a reader comes to lies in the text.
pub reads_inside : (sum : List ℕ → ℕ) (size number first at : ℕ) (text : List ℕ) → ReadsTo sum size number text first at → first ≤ length text → at ≤ length text
reads_inside sum size number first at text at_start low = low
reads_inside sum size number first at text (reads_past mid len k page body comes room plain fits is) low = fits

module _ (sum : List ℕ → ℕ) (size : ℕ) (Header : ℕ → List ℕ → Type 0) (Own : ℕ → ℕ → List ℕ → Type 0) (log : List ℕ) (slot place : ℕ) (some : 0 < size) where
  pub scan_reads : (ms : List ScannedRecord) (stop : ℕ) (why : ScanEnd) → IsScan sum size log (slot * size) place ms stop why → ReadsTo sum size (place / size) (part log (slot * size) size) 20 stop
  unfolding IsScan
  scan_reads ms stop why scan = path_reads sum size log (slot * size) place 20 ms stop (mul-mod_left slot size) scan.0

  pub scan_ends : (ms : List ScannedRecord) (stop : ℕ) (why : ScanEnd) → why ≢ Broken → IsScan sum size log (slot * size) place ms stop why → EndsAt sum size Header Own log slot (place / size) stop
  unfolding IsScan EndsThere
  scan_ends ms stop Full goes scan = ends_full sum size Header Own log slot (place / size) stop scan.1
  scan_ends ms stop Broken goes scan = absurd (goes refl)
  scan_ends ms stop Capped goes scan = λ to len r.
      let room = scan.1.0 in
      let (h, body, l, s, cap) = scan.1.1 in
      let inside = s.in_slot in
      let there = s.in_file in
      let text : List ℕ = part log (slot * size) size in
      let fits : stop + l ≤ size = omega (arith, inside, aligned_offset (slot * size) stop size (mul-mod_left slot size) (omega (arith, room))) in
      let in_text : stop + l ≤ length text = omega (arith, fits, there, length-take size (drop (slot * size) log), length-drop (slot * size) log) in
      let longer_is = longer sum size Header Own log slot to in
      let stands : part (more sum size Header Own log slot to) stop l ≡ part log (slot * size + stop) l = same sum size Header Own log slot to stop l in_text ∙ part_in size log (slot * size) stop l fits in
      let is : IsRecord sum (part (more sum size Header Own log slot to) stop l) h.kind h.pid (place / size) body =
      subst (λ (t : List ℕ). IsRecord sum t h.kind h.pid (place / size) body) (sym stands) (record_of_stands sum size log (slot * size + stop) (place / size) h body l s) in
      let one = same_record sum size (place / size) (more sum size Header Own log slot to) stop len l r.kind r.page r.body h.kind h.pid body r.is is in
      let long = same_len sum size (place / size) (more sum size Header Own log slot to) stop len l
      (begins sum size (place / size) (more sum size Header Own log slot to) stop len r.kind r.page r.body r.inside r.is)
      (begins sum size (place / size) (more sum size Header Own log slot to) stop l h.kind h.pid body (omega (arith, in_text, longer_is)) is) in (
        kind_is sum (part (more sum size Header Own log slot to) stop len) r.kind r.page (place / size) r.body r.is
            ∙ ap (λ (t : List ℕ). kind_of (get_or t 4 0)) one
            ∙ sym (kind_is sum (part (more sum size Header Own log slot to) stop l) h.kind h.pid (place / size) body is) ∙ cap,
        omega (arith, in_text, long),
      )

  -- So the slot is own of a segment that is read to its end, where what is read of it in the file is.
  pub slot_read_to_end : (mark : ℤ) → IsHeader sum (part log (slot * size) 20) (pos place) mark → 20 ≤ size → (ms : List ScannedRecord) (stop : ℕ) (why : ScanEnd) → why ≢ Broken → IsScan sum size log (slot * size) place ms stop why
      → ReadsOwn sum size Header Own log slot → HasOwnSlot sum size Header Own log slot
  slot_read_to_end mark header big ms stop why goes scan own =
      let text : List ℕ = part log (slot * size) size in
      let twenty : length (part log (slot * size) 20) ≡ 20 = ap length header.is ∙ length-short_header sum (pos place) mark in
      let long : 20 ≤ length text = omega (arith, twenty, big, length-take 20 (drop (slot * size) log), length-take size (drop (slot * size) log)) in
      let comes = scan_reads ms stop why scan in
      slot_has sum size Header Own log slot place mark header (own.header (pos place) mark header)
      (own_to_end sum size Header Own log slot (place / size) stop (λ at len low r.
      let inside = r.inside in
      let fits : at + len ≤ size = omega (arith, inside, length-take size (drop (slot * size) log)) in
      subst (Own (place / size) (slot * size + at)) (sym (part_in size log (slot * size) at len fits)) (own.records place mark at len header r))
      (reads_inside sum size (place / size) 20 stop text comes long) comes (scan_ends ms stop why goes scan))
