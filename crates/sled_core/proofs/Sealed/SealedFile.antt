-- A log file has all messages that it had, and those of the buffers at the front that are written now, once a sealed buffer is.
use Rattle.std.proofs.Common.{◌≡◌, ◌≤◌, ◌<◌, ◌+◌, ◌/◌, ◌%◌, ◌^◌, ◌⊎◌, ℕ, max, false, List, [], ◌∷◌, ◌++◌, length, take, drop, arith, subst}
use Rattle.std.specs.List.{All}
use Rattle.std.proofs.Math.Nat.{div-le_self}
use Rattle.std.proofs.lemmas.List.{append-nil}
use Rattle.std.proofs.lemmas.List.Elements.{All-take}
use Rattle.sled_codec.specs.History.{Message, History}
use Rattle.sled_store.specs.Device.{overwritten}
use Rattle.sled_core.specs.declared.iobuf.Reserved.{Reserved}
use Rattle.sled_core.specs.declared.iobuf.Sealed.{Sealed}
use Rattle.sled_core.specs.declared.iobuf.SegmentPosition.{SegmentPosition}
use Rattle.sled_core.specs.inside.Buffers.{IsChain, completed_in, Stands}
use Rattle.sled_core.specs.inside.Fits.{HasMark}
use Rattle.sled_core.specs.LogFile.{IsLogFile}
use Rattle.sled_core.specs.inside.SealedBuffers.{Agrees, AreSealed, Laid, now_written, run_end, run_count}
use Rattle.sled_core.specs.SealedBuffers.{bytes_between}
use Rattle.sled_core.proofs.Tail.LogFileLemmas.{header_kept}
use Rattle.sled_core.proofs.Flush.WrittenFile.{file_more}
use Rattle.sled_core.proofs.Reached.BufferStands.{StandsOwn, own_in}
use Rattle.sled_core.proofs.Reserve.Ranges.{chain_grows}
use Rattle.sled_core.proofs.Sealed.HeadSealed.{run_below}
use Rattle.sled_core.proofs.Sealed.LaidLemmas.{EndsRise}
use Rattle.sled_core.proofs.Sealed.OneWritten.{laid_new, long, sealed_written}
use Rattle.sled_core.proofs.Sealed.Runs.{IsRun, run_of, run_there}
use Rattle.sled_core.proofs.Sealed.SealedCalls.{first_header}

-- A write further behind changes nothing of it.
pub file_beside : (sum : List ℕ → ℕ) (size : ℕ) (site : SegmentPosition) (old : List ℕ) (at : ℕ) (xs : List ℕ) (from : ℕ) (earlier : List Message) (stays : Message → Type 0) → IsLogFile sum size old site from earlier stays
    → from ≤ at → at + length xs ≤ size → IsLogFile sum size (overwritten old (site.slot + at) xs) site from earlier stays
file_beside sum size site old at xs from earlier stays file behind inside =
    subst (λ (ms : List Message). IsLogFile sum size (overwritten old (site.slot + at) xs) site from ms stays) (append-nil earlier)
    (file_more sum size site old at xs from from earlier [] stays file behind inside (omega arith) file.begun
    (λ some. header_kept sum size old (site.slot + at) xs site (let far = file.begun some in omega (arith, far, behind)) (file.header some)) (λ k d lt. absurd (omega arith)))

-- The first sealed buffer is written: with those behind it that were written before it, its reservations are a chain up to where they end.
module _ (from : ℕ) (rs : List Reserved) (b : Sealed) (rest : List Sealed) (closed : b.open_count ≡ 0) (are : AreSealed from rs (b ∷ rest)) where
  abbrev stop : ℕ
  stop = run_end b.end rest

  abbrev count : ℕ
  count = b.count + run_count rest

  are_new : AreSealed from rs (now_written b ∷ rest)
  are_new = sealed_written from rs [] b rest closed are

  run_now : IsRun from rs (now_written b ∷ rest)
  run_now = run_of from rs (now_written b ∷ rest) are_new

  -- That is behind the header, no lower than what was written, and no lower than its own end.
  pub stop_up : (from ≤ stop) × (20 ≤ stop) × (b.end ≤ stop)
  stop_up =
      let later = run_of b.end (drop b.count rs) rest are.1 in
      let grows = chain_grows (max 20 from) b.end (take b.count rs) are.0.chain in
      let up = are.0.rises in let far = later.rises in (omega (arith, up, far), omega (arith, grows, far), far)

  pub chain_done : IsChain (max 20 from) (take count rs) stop
  chain_done = let up = stop_up in let same : max 20 stop ≡ stop = omega (arith, up.1) in subst (λ n. IsChain (max 20 from) (take count rs) n) same run_now.chain

  -- and the file has their bytes
  pub agrees_now : (old : List ℕ) (slot : ℕ) (bytes : List ℕ) (to : ℕ) → EndsRise from (b ∷ rest) to → b.end ≤ length bytes → Laid old slot bytes from (b ∷ rest) to → Agrees (overwritten old (slot + from) (bytes_between bytes from b.end)) slot bytes from stop
  agrees_now old slot bytes to rise inside laid =
      let up = rise.0 in let far = stop_up.2 in
      run_there (overwritten old (slot + from) (bytes_between bytes from b.end)) slot bytes from rs (now_written b ∷ rest) to are_new (laid_new old slot bytes from [] b rest to rise inside laid) (omega (arith, up, far))

module _ (sum : List ℕ → ℕ) (size : ℕ) (some : 256 ≤ size) (old : List ℕ) (site : SegmentPosition)
    (place_begins : site.place % size ≡ 0) (slot_begins : site.slot % size ≡ 0) (place_small : site.place + size < 2 ^ 63) (slot_small : site.slot + size < 2 ^ 63)
    (bytes : List ℕ) (from : ℕ) (begins : (from ≡ 0) ⊎ (20 ≤ from)) (rs : List Reserved) (b : Sealed) (rest : List Sealed) (fresh : b.is_written ≡ false) (closed : b.open_count ≡ 0) (are : AreSealed from rs (b ∷ rest))
    (rise : EndsRise from (b ∷ rest) size) (inside : b.end ≤ length bytes)
    (stand : All (Stands sum size (site.place / size) bytes) rs) {H : History} (header : from ≡ 0 → HasMark sum site bytes H)
    (laid : Laid old site.slot bytes from (b ∷ rest) size) (earlier : List Message) (stays : Message → Type 0) (file : IsLogFile sum size old site from earlier stays) where
  abbrev end_now : ℕ
  end_now = run_end b.end rest

  abbrev done : List Reserved
  done = take (b.count + run_count rest) rs

  abbrev asked : List ℕ
  asked = bytes_between bytes from b.end

  abbrev new : List ℕ
  new = overwritten old (site.slot + from) asked

  low : end_now ≤ size
  low = run_below b.end rest size rise.1

  up : (from ≤ end_now) × (20 ≤ end_now) × (b.end ≤ end_now)
  up = stop_up from rs b rest closed are

  covers : from + length asked ≤ size
  covers = let l = long old site.slot bytes from [] b rest size rise inside in let far = up.2 in let under = low in omega (arith, l, far, under)

  -- its messages and theirs stand there
  done_stand : All (StandsOwn sum size new site end_now) (completed_in site bytes done)
  done_stand = own_in sum size site new bytes from end_now (agrees_now from rs b rest closed are old site.slot bytes size rise inside laid) low place_begins slot_begins slot_small
      (omega (arith, div-le_self site.place size, place_small)) (max 20 from) done (omega arith) (chain_done from rs b rest closed are)
      (All-take (Stands sum size (site.place / size) bytes) (b.count + run_count rest) rs stand)

  -- So the log file has all messages up to that end.
  pub first_file : IsLogFile sum size new site end_now (earlier ++ completed_in site bytes done) stays
  first_file = file_more sum size site old from asked from end_now earlier (completed_in site bytes done) stays file (omega arith) covers up.0 (λ more. up.1)
      (λ more. first_header sum size some old site place_begins slot_begins place_small slot_small bytes from begins rs b rest fresh closed are rise inside header file.header laid) done_stand
