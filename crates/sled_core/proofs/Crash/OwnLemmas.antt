-- Nothing is foreign on an empty device, nor in what is read after the first write; and a sync or a crash makes nothing foreign.
use Rattle.std.proofs.Common.{◌≡◌, ◌≤◌, ◌<◌, ◌+◌, ◌-◌, ◌*◌, ◌/◌, ◌^◌, ◌∙◌, ℕ, zero, suc, ℤ, pos, nat_lt, if◌then◌else◌, List, [], ◌∷◌, ◌++◌, length, take, drop, replicate, None, refl, sym, ap, subst, arith, inr, length-take, length-drop}
use Rattle.std.specs.List.{Contains}
use Rattle.std.proofs.lemmas.List.Elements.{All-nil}
use Rattle.std.proofs.Math.Nat.{zero-mod}
use Rattle.sled_codec.specs.Places.{part}
use Rattle.sled_codec.specs.Record.{IsHeader, short_header, header_places}
use Rattle.sled_codec.specs.Spelling.{low_bytes, low_first}
use Rattle.sled_codec.specs.SpellingLaws.{low_first-low_bytes, length-low_bytes}
use Rattle.sled_codec.specs.Sums.{flipped, place_sum}
use Rattle.std.proofs.Math.Seq.{take-append_seam, drop-append_seam}
use Rattle.sled_codec.proofs.Segments.{length-short_header}
use Rattle.sled_store.specs.Device.{State, LogState, Wrote, Synced, Settled, fresh, step, state_of, content_of, content_left, overwritten, names_at_rest, Placement}
use Rattle.sled_store.specs.Readers.{Reads}
use Rattle.sled_store.specs.Foreign.{IsReached, first_record, Covers, IsWhole, HeaderWasPlaced, RecordWasPlaced, NoForeignLog, NoForeignNames}
use Rattle.sled_store.proofs.Crashes.ForeignLemmas.{take_again, own_log_at_rest}
use Rattle.sled_store.proofs.Own.ReaderLemmas.{reads_reached}
use Rattle.sled_store.proofs.LogFile.OverwrittenLemmas.{overwritten-end}
use Rattle.sled_core.specs.Recoverable.{NoForeign, NoHeaderOfZeros}

-- Zeros pass as no header, where the sum of sixteen of them isn't all ones.
pub zeros_no_header : (sum : List ℕ → ℕ) → sum (replicate 16 0) < 2 ^ 32 - 1 → NoHeaderOfZeros sum
unfolding short_header
zeros_no_header sum less lsn mark h =
    let places : List ℕ = header_places lsn mark in
    let f : ℕ = flipped (sum places) in
    let low : List ℕ = low_bytes 4 f in
    let four : length low ≡ 4 = length-low_bytes 4 f (omega arith) in
    let rest : replicate 16 0 ≡ places = ap (drop 4) h.is ∙ ap (λ n. drop n (low ++ places)) (sym four) ∙ drop-append_seam low places in
    let front : replicate 4 0 ≡ low = ap (take 4) h.is ∙ ap (λ n. take n (low ++ places)) (sym four) ∙ take-append_seam low places in
    let none : f ≡ 0 = sym (low_first-low_bytes 4 f (omega arith) (omega arith)) ∙ ap low_first (sym front) in
    let small : sum places < 2 ^ 32 - 1 = subst (λ (l : List ℕ). sum l < 2 ^ 32 - 1) rest less in
    absurd (omega (arith, none, small))

pub zeros_by_place : NoHeaderOfZeros place_sum
unfolding place_sum
zeros_by_place = zeros_no_header place_sum (omega arith)

-- where there are no names, nothing is under one
pub no_names_own : (passes : List ℕ → Type 0) → NoForeignNames passes (names_at_rest (λ _. None)) (λ _. None)
no_names_own passes = record { own = λ n bytes there is. cc }

-- The header of the first slot is the log's own, and so is each record of its number that a reader reads.
pub record FirstOwn (sum : List ℕ → ℕ) (size : ℕ) (past : LogState) (placed : List Placement) (log : List ℕ) : Type 0 where
  pub headers : (lsn mark : ℤ) → IsHeader sum (part log 0 20) lsn mark → HeaderWasPlaced placed 0 (part log 0 20) × IsWhole past 0 (part log 0 20)
  pub records : (lsn : ℕ) (mark : ℤ) (at len : ℕ) → IsHeader sum (part log 0 20) (pos lsn) mark → Reads sum size (lsn / size) log 20 at len
      → RecordWasPlaced sum size placed (lsn / size) at (part log at len) × IsWhole past at (part log at len)

-- A log file of one slot at most, with a header at its beginning alone.
module _ (sum : List ℕ → ℕ) (size : ℕ) (log : List ℕ) (short : length log ≤ size) where
  pub header_first : (slot : ℕ) (lsn mark : ℤ) → IsHeader sum (part log (slot * size) 20) lsn mark → slot * size ≡ 0
  header_first zero lsn mark is = omega arith
  header_first (suc n) lsn mark is =
      let long : length (part log (suc n * size) 20) ≡ 20 = ap length is.is ∙ length-short_header sum lsn mark in
      absurd (omega (arith, long, short, length-take 20 (drop (suc n * size) log), length-drop (suc n * size) log))

  pub slot_whole : part log 0 size ≡ log
  slot_whole = take_short size log short
    where
      take_short : (n : ℕ) (xs : List ℕ) → length xs ≤ n → take n xs ≡ xs
      take_short zero [] le = refl
      take_short zero (x ∷ xs) le = absurd (omega (arith, le))
      take_short (suc n) [] le = refl
      take_short (suc n) (x ∷ xs) le = ap (λ (l : List ℕ). x ∷ l) (take_short n xs (omega (arith, le)))

  -- Nothing is foreign in it, where its header is the log's own, and each record that a reader reads.
  pub first_own : (past : LogState) (placed : List Placement) → FirstOwn sum size past placed log → NoForeignLog sum size past placed log
  first_own past placed own = record {
    headers = λ slot lsn mark is.
        let at = header_first slot lsn mark is in
        subst (λ n. HeaderWasPlaced placed n (part log n 20) × IsWhole past n (part log n 20)) (sym at) (own.headers lsn mark (subst (λ n. IsHeader sum (part log n 20) lsn mark) at is));
    records = λ slot lsn mark at len is r.
        let first = header_first slot (pos lsn) mark is in
        let here : slot * size + at ≡ at = omega (arith, first) in
        subst (λ n. RecordWasPlaced sum size placed (lsn / size) n (part log n len) × IsWhole past n (part log n len)) (sym here)
        (own.records lsn mark at len
        (subst (λ n. IsHeader sum (part log n 20) (pos lsn) mark) first is)
        (subst (λ (l : List ℕ). Reads sum size (lsn / size) l 20 at len) slot_whole (subst (λ n. Reads sum size (lsn / size) (part log n size) 20 at len) first r)));
  }

  -- And so they are, where nothing is foreign in it.
  pub own_first : (past : LogState) (placed : List Placement) → NoForeignLog sum size past placed log → FirstOwn sum size past placed log
  own_first past placed own =
      let first : 0 * size ≡ 0 = omega arith in
      record {
        headers = λ lsn mark is.
            subst (λ n. HeaderWasPlaced placed n (part log n 20) × IsWhole past n (part log n 20)) first (own.headers 0 lsn mark (subst (λ n. IsHeader sum (part log n 20) lsn mark) (sym first) is));
        records = λ lsn mark at len is r.
            let here : 0 * size + at ≡ at = omega arith in
            subst (λ n. RecordWasPlaced sum size placed (lsn / size) n (part log n len) × IsWhole past n (part log n len)) here
            (own.records 0 lsn mark at len
            (subst (λ n. IsHeader sum (part log n 20) (pos lsn) mark) (sym first) is)
            (subst (λ n. Reads sum size (lsn / size) (part log n size) 20 at len) (sym first) (subst (λ (l : List ℕ). Reads sum size (lsn / size) l 20 at len) (sym slot_whole) r)));
      }

-- a write from the beginning of the file on covers each part of it
covers_part : (text : List ℕ) (at n : ℕ) → at ≤ length text → Covers (0, text) at (part text at n)
covers_part text at n there =
    let same : at - 0 ≡ at = omega arith in
    record {
      begins = omega arith;
      ends = omega (arith, there, length-take n (drop at text), length-drop at text);
      same = ap (λ j. part text j (length (part text at n))) same ∙ take_again n (drop at text);
    }

-- a part of some length begins within
pub part_within : (text : List ℕ) (k n : ℕ) → 0 < length (part text k n) → k ≤ length text
part_within text k n some = omega (arith, some, length-take n (drop k text), length-drop k text)

pub first_of_slot : (size : ℕ) → first_record size 0 ≡ 20
first_of_slot size = ap (λ n. if nat_lt 0 n then 0 else 20) (zero-mod size)

-- a write from the beginning of the file on, behind which nothing was synced yet
abbrev first_write : List ℕ → Placement
first_write text = record { at = 0; bytes = text; since = [] }

-- What was written first, from the beginning on, is all of the log file.
module _ (sum : List ℕ → ℕ) (size : ℕ) (text : List ℕ) (short : length text ≤ size) (past : LogState) (placed : List Placement) (there : Contains placed (first_write text)) where
  first_write_own : ((at : ℕ) (t : List ℕ) → Covers (0, text) at t → IsWhole past at t) → NoForeignLog sum size past placed text
  unfolding HeaderWasPlaced RecordWasPlaced
  first_write_own whole =
      first_own sum size text short past placed (record {
        headers = λ lsn mark is. ((first_write text, there, refl, refl, All-nil _), whole 0 (part text 0 20) (covers_part text 0 20 (omega arith)));
        records = λ lsn mark at len is r.
            let inside = r.inside in
            let covers : Covers (0, text) at (part text at len) = covers_part text at len (omega (arith, inside)) in
            let same : at - 0 ≡ at = omega arith in
            let reached = reads_reached sum size (lsn / size) text 20 at r.comes in
            let here = subst (λ n. IsReached sum size (lsn / size) text n (at - 0)) (sym (first_of_slot size)) (subst (λ n. IsReached sum size (lsn / size) text 20 n) (sym same) reached) in
            ((first_write text, there, covers, here, All-nil _), whole at (part text at len) covers);
      })

module _ (sum : List ℕ → ℕ) (size : ℕ) (zeros : NoHeaderOfZeros sum) where
  -- an empty log file, whatever was before
  empty_own : (past : LogState) (placed : List Placement) → NoForeignLog sum size past placed []
  empty_own past placed = record {
    headers = λ slot lsn mark is. absurd (none slot lsn mark is);
    records = λ slot lsn mark at len is r. absurd (none slot (pos lsn) mark is);
  }
    where
      none : (slot : ℕ) (lsn mark : ℤ) → IsHeader sum (part [] (slot * size) 20) lsn mark → ⊥
      none slot lsn mark is =
          let none_there : List ℕ = [] in
          let long : length (part none_there (slot * size) 20) ≡ 20 = ap length is.is ∙ length-short_header sum lsn mark in
          absurd (omega (arith, long, length-take 20 (drop (slot * size) none_there), length-drop (slot * size) none_there))

  -- An empty device.
  pub nothing_own : NoForeign sum size fresh (content_of fresh)
  nothing_own = record { log = empty_own fresh.log fresh.placed; blobs = no_names_own _; snapshots = no_names_own _; zeros = zeros }

  module _ (text : List ℕ) where
    abbrev written : State
    written = state_of (Wrote 0 text text ∷ [])

    -- The write was lost.
    pub lost_own : NoForeign sum size written (content_left (Settled []) written)
    lost_own = record { log = empty_own written.log written.placed; blobs = no_names_own _; snapshots = no_names_own _; zeros = zeros }

    read : overwritten [] 0 text ≡ text
    read = overwritten-end [] text

    only : {X : Type 0} (x : X) → Contains (x ∷ []) x
    only x = (0, omega arith, refl)

    since : (at : ℕ) (t : List ℕ) → Covers (0, text) at t → IsWhole written.log at t
    unfolding IsWhole
    since at t covers = inr ((0, text), only (0, text), covers)

    -- It is read.
    pub written_own : length text ≤ size → NoForeign sum size written (content_of written)
    written_own short = record {
      log = subst (λ (l : List ℕ). NoForeignLog sum size written.log written.placed l) (sym read) (first_write_own sum size text short written.log written.placed (only (first_write text)) since);
      blobs = no_names_own _;
      snapshots = no_names_own _;
      zeros = zeros;
    }

-- What is read stays the log's own behind a sync.
pub synced_own : (sum : List ℕ → ℕ) (size : ℕ) (s : State) → NoForeign sum size s (content_of s) → NoForeign sum size (step Synced s) (content_of (step Synced s))
synced_own sum size s own = record { log = own_log_at_rest sum size s.log s.placed s.log.bytes own.log; blobs = own.blobs; snapshots = own.snapshots; zeros = own.zeros }
