-- What was placed is so behind a write that is synced, where it stands then; and so is what the write itself laid down.
use Rattle.std.proofs.Common.{◌≡◌, ◌⊎◌, ◌∙◌, ◌≤◌, ◌<◌, ◌+◌, ◌-◌, ◌%◌, ℕ, max, List, [], ◌∷◌, length, take, drop, sym, ap, refl, subst, arith}
use Rattle.std.proofs.lemmas.List.Elements.{All-nil}
use Rattle.sled_codec.specs.Places.{part}
use Rattle.sled_store.specs.Device.{Placement, State, Synced, Wrote, overwritten, step}
use Rattle.sled_store.specs.Foreign.{Covers, HeaderWasPlaced, RecordWasPlaced}
use Rattle.sled_store.specs.Readers.{Reads}
use Rattle.sled_store.proofs.Crashes.ForeignLemmas.{take_again}
use Rattle.sled_store.proofs.Crashes.StoodLemmas.{header_settled, record_settled}
use Rattle.sled_store.proofs.Own.ReaderLemmas.{no_lower}
use Rattle.sled_store.proofs.Segments.Elements.{in_first, in_rest}
use Rattle.sled_core.proofs.Tail.LogFileLemmas.{part_laid}
use Rattle.sled_core.proofs.OwnLog.Kept.{HeadersStay, RecordsStay}
use Rattle.sled_core.proofs.OwnLog.Written.{covered, reached_there}

-- the write, before anything is synced
abbrev pub asked_now : ℕ → List ℕ → Placement
asked_now at xs = record { at = at; bytes = xs; since = [] }

module _ (sum : List ℕ → ℕ) (size : ℕ) (s : State) (at : ℕ) (xs : List ℕ) where
  abbrev new : List ℕ
  new = overwritten s.log.bytes at xs

  -- the device behind the write and a sync
  abbrev pub synced : State
  synced = step Synced (step (Wrote at xs xs) s)

  pub header_among : (slot : ℕ) (text : List ℕ) → HeaderWasPlaced s.placed slot text → HeaderWasPlaced (asked_now at xs ∷ s.placed) slot text
  unfolding HeaderWasPlaced
  header_among slot text laid = (laid.0, in_rest (asked_now at xs) laid.0 s.placed laid.1, laid.2, laid.3, laid.4)

  pub record_among : (number lid : ℕ) (text : List ℕ) → RecordWasPlaced sum size s.placed number lid text → RecordWasPlaced sum size (asked_now at xs ∷ s.placed) number lid text
  unfolding RecordWasPlaced
  record_among number lid text laid = (laid.0, in_rest (asked_now at xs) laid.0 s.placed laid.1, laid.2, laid.3, laid.4)

  -- a text of some length stands as long as it is
  pub stands_long : (lid n : ℕ) (text : List ℕ) → part new lid n ≡ text → part new lid (length text) ≡ text
  stands_long lid n text is = ap (λ (t : List ℕ). part new lid (length t)) (sym is) ∙ take_again n (drop lid new) ∙ is

  module _ (some : 0 < length xs) (big : 20 ≤ size) where
    pub headers_stay : HeadersStay sum size (HeaderWasPlaced s.placed) (HeaderWasPlaced synced.placed) (RecordWasPlaced sum size s.placed) (RecordWasPlaced sum size synced.placed) s.log.bytes at xs some big
    headers_stay slot text is laid = header_settled new (asked_now at xs ∷ s.placed) slot text (header_among slot text laid) (stands_long slot 20 text is)

    pub records_stay : RecordsStay sum size (HeaderWasPlaced s.placed) (HeaderWasPlaced synced.placed) (RecordWasPlaced sum size s.placed) (RecordWasPlaced sum size synced.placed) s.log.bytes at xs some big
    records_stay number lid len text is laid = record_settled sum size new (asked_now at xs ∷ s.placed) number lid text (record_among number lid text laid) (stands_long lid len text is)

-- What a write covers stands in each file that it is written over.
pub stands_covered : (sum : List ℕ → ℕ) (size : ℕ) (file : List ℕ) (at : ℕ) (xs : List ℕ) (lid : ℕ) (text : List ℕ) → Covers (at, xs) lid text
    → part (overwritten file at xs) lid (length text) ≡ text
stands_covered sum size file at xs lid text c =
    let low = c.begins in
    let high = c.ends in
    let off : at + (lid - at) ≡ lid = omega (arith, low) in
    ap (λ i. part (overwritten file at xs) i (length text)) (sym off)
    ∙ part_laid sum size file at xs (lid - at) (length text) (omega (arith, low, high))
    ∙ c.same

-- A buffer of a segment.
module _ (sum : List ℕ → ℕ) (size : ℕ) (s : State) (slot from : ℕ) (xs : List ℕ) (some : 0 < length xs) (fits : from + length xs ≤ size) where
  abbrev there : List ℕ
  there = overwritten s.log.bytes (slot + from) xs

  abbrev behind : State
  behind = synced sum size s (slot + from) xs

  -- its header, where it begins with that
  header_laid_now : from ≡ 0 → HeaderWasPlaced (asked_now (slot + from) xs ∷ s.placed) slot (take 20 xs)
  unfolding HeaderWasPlaced
  header_laid_now none = (asked_now (slot + from) xs, in_first (asked_now (slot + from) xs) s.placed, omega (arith, none), refl, All-nil _)

  pub header_laid : 20 ≤ length xs → from ≡ 0 → HeaderWasPlaced behind.placed slot (take 20 xs)
  header_laid long none =
      let at : slot + from + 0 ≡ slot = omega (arith, none) in
      let stands : part there slot 20 ≡ take 20 xs = ap (λ n. part there n 20) (sym at) ∙ part_laid sum size s.log.bytes (slot + from) xs 0 20 (omega (arith, long)) in
      header_settled there (asked_now (slot + from) xs ∷ s.placed) slot (take 20 xs) (header_laid_now none) (stands_long sum size s (slot + from) xs slot 20 (take 20 xs) stands)

  -- and its records
  module _ (number at len : ℕ) (aligned : slot % size ≡ 0) (below : from < size) (begins : (from ≡ 0) ⊎ (20 ≤ from)) (r : Reads sum size number (part there slot size) (max 20 from) at len) (high : at + len ≤ from + length xs) where
    low : from ≤ at
    low = let up = no_lower sum size number (part there slot size) (max 20 from) at r.comes in omega (arith, up)

    covers : Covers (slot + from, xs) (slot + at) (part (part there slot size) at len)
    covers = covered sum size s.log.bytes slot from xs some fits at len low high

    record_laid_now : RecordWasPlaced sum size (asked_now (slot + from) xs ∷ s.placed) number (slot + at) (part (part there slot size) at len)
    unfolding RecordWasPlaced
    record_laid_now = (
      asked_now (slot + from) xs,
      in_first (asked_now (slot + from) xs) s.placed,
      covers,
      reached_there sum size s.log.bytes slot from xs some fits number at len aligned below begins r high,
      All-nil _,
    )

    -- (also on another device on which the same was placed before)
    pub record_laid : (real : State) → s.placed ≡ real.placed
        → RecordWasPlaced sum size (synced sum size real (slot + from) xs).placed number (slot + at) (part (part there slot size) at len)
    record_laid real same =
        let text : List ℕ = part (part there slot size) at len in
        record_settled sum size (overwritten real.log.bytes (slot + from) xs) (asked_now (slot + from) xs ∷ real.placed) number (slot + at) text
        (subst (λ (ps : List Placement). RecordWasPlaced sum size (asked_now (slot + from) xs ∷ ps) number (slot + at) text) same record_laid_now)
        (stands_covered sum size real.log.bytes (slot + from) xs (slot + at) text covers)
