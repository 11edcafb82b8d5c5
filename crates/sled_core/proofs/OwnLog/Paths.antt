-- Along the records that are met in a segment a reader reads from the first one to the end of the last one.
use Rattle.std.proofs.Common.{◌≡◌, ◌≤◌, ◌+◌, ◌/◌, ◌%◌, ℕ, List, [], ◌∷◌, drop, sym, subst, arith, length-take, length-drop}
use Rattle.sled_codec.specs.Places.{part}
use Rattle.sled_codec.specs.Record.{IsRecord}
use Rattle.sled_store.specs.Readers.{ReadsTo, at_start, reads_past}
use Rattle.sled_store.proofs.Own.ReaderLemmas.{reads_on}
use Rattle.sled_core.specs.declared.iterator.scan.ScannedRecord.{ScannedRecord}
use Rattle.sled_core.specs.Scan.{IsMet, IsPath}
use Rattle.sled_core.proofs.OwnLog.Kept.{part_in}
use Rattle.sled_core.proofs.Read.ScanLemmas.{aligned_offset}
use Rattle.sled_core.proofs.Torn.TornRecords.{record_of_stands, says_plain}

pub path_reads : (sum : List ℕ → ℕ) (size : ℕ) (log : List ℕ) (slot place at : ℕ) (ms : List ScannedRecord) (next : ℕ) → slot % size ≡ 0 → IsPath sum size log slot place at ms next → ReadsTo sum size (place / size) (part log slot size) at next
unfolding IsMet
path_reads sum size log slot place at [] next aligned path = subst (λ n. ReadsTo sum size (place / size) (part log slot size) at n) (sym path) at_start
path_reads sum size log slot place at (m ∷ ms) next aligned path =
    let room = path.0 in
    let (h, body, s, says) = path.2 in
    let inside = s.in_slot in
    let there = s.in_file in
    let fits : at + m.len ≤ size = omega (arith, inside, aligned_offset slot at size aligned (omega (arith, room))) in
    reads_on sum size (place / size) (part log slot size) at (at + m.len) next
    (reads_past at m.len h.kind h.pid body at_start room (says_plain h body (slot + at) m.what says)
    (omega (arith, fits, there, length-take size (drop slot log), length-drop slot log))
    (subst (λ (l : List ℕ). IsRecord sum l h.kind h.pid (place / size) body) (sym (part_in size log slot at m.len fits)) (record_of_stands sum size log (slot + at) (place / size) h body m.len s)))
    (path_reads sum size log slot place (at + m.len) ms next aligned path.3)
