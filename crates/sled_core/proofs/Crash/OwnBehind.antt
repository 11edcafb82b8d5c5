-- A write at the end of the records of the first segment makes nothing foreign.
use Rattle.std.proofs.Common.{◌≡◌, ◌⊎◌, ◌≤◌, ◌<◌, ◌+◌, ◌-◌, ◌/◌, ◌∙◌, ℕ, zero, suc, ℤ, pos, List, [], ◌∷◌, ◌++◌, length, take, drop, refl, sym, ap, subst, arith, inl, inr, length-append, length-take, length-drop}
use Rattle.std.specs.List.{Contains}
use Rattle.std.proofs.lemmas.List.Elements.{All-nil}
use Rattle.std.proofs.lemmas.Bool.{cases_lt}
use Rattle.std.proofs.lemmas.List.{take-append-le, drop-append-le}
use Rattle.sled_codec.specs.declared.serialization.message.MessageKind.{MessageKind}
use Rattle.sled_codec.specs.Places.{part}
use Rattle.sled_codec.specs.Record.{IsRecord, IsHeader}
use Rattle.sled_store.specs.Device.{LogState, State, Wrote, Synced, Settled, step, content_of, content_left, at_rest, settled_again, Placement}
use Rattle.sled_store.specs.Foreign.{IsReached, at_first, behind, first_record, Covers, IsWhole, HeaderWasPlaced, RecordWasPlaced, NoForeignLog}
use Rattle.sled_store.proofs.Crashes.ForeignLemmas.{Knows, LogKnows, before_knows, own_log, own_log_at_rest, take_again}
use Rattle.sled_store.proofs.Crashes.LeavesLemmas.{write}
use Rattle.sled_store.specs.Readers.{BeginsAt, Reads}
use Rattle.sled_store.proofs.Own.ReaderLemmas.{read_begins, read_same, reads_reached}
use Rattle.sled_store.proofs.Own.ReachedLemmas.{record_some, begins, same_len, first_step, goes_on}
use Rattle.sled_store.proofs.LogFile.OverwrittenLemmas.{overwritten-end}
use Rattle.sled_core.specs.Own.{IsReachedToEnd}
use Rattle.sled_core.specs.Recoverable.{NoForeign}
use Rattle.sled_core.proofs.Crash.OwnLemmas.{FirstOwn, first_own, own_first, part_within}
use Rattle.sled_core.proofs.Crash.OwnRecords.{begins_inside}

-- Text is appended: what was there reads as before, and the rest as the text.
module _ (old text : List ℕ) where
  in_old : (at len : ℕ) → at + len ≤ length old → part (old ++ text) at len ≡ part old at len
  in_old at len fits =
      ap (take len) (drop-append-le at old text (omega (arith, fits))) ∙ take-append-le len (drop at old) text (omega (arith, fits, length-drop at old))

  in_text : (at len : ℕ) → length old ≤ at → part (old ++ text) at len ≡ part text (at - length old) len
  in_text at len past = ap (take len) (drop_past at old text past)
    where
      drop_past : (n : ℕ) (xs ys : List ℕ) → length xs ≤ n → drop n (xs ++ ys) ≡ drop (n - length xs) ys
      drop_past n [] ys le = let same : n - 0 ≡ n = omega arith in ap (λ (k : ℕ). drop k ys) (sym same)
      drop_past zero (x ∷ xs) ys le = absurd (omega (arith, le))
      drop_past (suc n) (x ∷ xs) ys le = let same : suc n - length (x ∷ xs) ≡ n - length xs = omega arith in drop_past n xs ys (omega (arith, le)) ∙ ap (λ (k : ℕ). drop k ys) (sym same)

module _ (sum : List ℕ → ℕ) (size number : ℕ) where
  -- What was read ends where a reader comes to, and more follows.
  module _ (old text : List ℕ) (twenty : 20 ≤ length old) (end : IsReached sum size number old 20 (length old)) where
    abbrev new : List ℕ
    new = old ++ text

    -- below the end a reader comes to what it came to before
    pub old_record : (at : ℕ) → IsReached sum size number old 20 at → at < length old → (len : ℕ) × BeginsAt sum number old at len × (at + len ≤ length old)
    old_record at reached below = first_step sum size number old at (length old) (goes_on sum size number (suc (at + length old)) old 20 at (length old) (omega arith) reached end (omega (arith, below))) below

    -- from there on to what a reader of the text comes to
    abbrev Splits : ℕ → Type 0
    Splits at = (IsReached sum size number old 20 at × (at < length old)) ⊎ (IsReached sum size number text 0 (at - length old) × (length old ≤ at))

    split : (at : ℕ) → IsReached sum size number old 20 at → at ≤ length old → Splits at
    split at reached le = elim (cases_lt at (length old)) [
      | inl below ↦ inl (reached, below)
      | inr last ↦ (let none : at - length old ≡ 0 = omega (arith, le) in inr (subst (λ n. IsReached sum size number text 0 n) (sym none) at_first, last))
    ]

    pub splits : (at : ℕ) → IsReached sum size number new 20 at → Splits at
    splits at at_first = split 20 at_first twenty
    splits at (behind from len kind page body reached fits rec) = elim (splits from reached) [
      | inl (before, below) ↦ (
          let found = old_record from before below in
          let there = found.1 in
          let len' : ℕ = found.0 in
          let inside : from + len' ≤ length old = found.2 in
          let old_is : IsRecord sum (part new from len') there.kind there.page number there.body = subst (λ (l : List ℕ). IsRecord sum l there.kind there.page number there.body) (sym (in_old old text from len' inside)) there.is in
          let longer : from + len' ≤ length new = omega (arith, inside, length-append old text) in
          let same : len ≡ len' = same_len sum size number new from len len' (begins sum size number new from len kind page body fits rec) (begins sum size number new from len' there.kind there.page there.body longer old_is) in
          split (from + len) (subst (λ n. IsReached sum size number old 20 (from + n)) (sym same) (behind from len' there.kind there.page there.body before inside there.is)) (omega (arith, same, inside)))
      | inr (after, past) ↦ (
          let there : from - length old + len ≡ from + len - length old = omega (arith, past) in
          inr (
            subst (λ n. IsReached sum size number text 0 n) there
                (behind (from - length old) len kind page body after (omega (arith, past, fits, length-append old text)) (subst (λ (l : List ℕ). IsRecord sum l kind page number body) (in_text old text from len past) rec)),
            omega (arith, past),
          ))
    ]

-- The write at the end of the log file.
module _ (sum : List ℕ → ℕ) (size : ℕ) (before after : LogState) (placed : List Placement) (old text : List ℕ) (twenty : 20 ≤ length old) (short : length old + length text ≤ size) (end : IsReachedToEnd sum size old)
    (own : NoForeignLog sum size before placed old) (knows : LogKnows before after) (asked : Contains after.asked (length old, text)) where
  abbrev writes : List Placement
  writes = record { at = length old; bytes = text; since = [] } ∷ placed

  -- what was there is still the log's own
  was_own : FirstOwn sum size after writes old
  was_own = own_first sum size old (omega (arith, short)) after writes (own_log sum size before after placed writes old knows (λ w there. (suc there.0, let le = there.1 in omega (arith, le), there.2)) own)

  header_same : part (old ++ text) 0 20 ≡ part old 0 20
  header_same = in_old old text 0 20 (omega (arith, twenty))

  -- and so is what was written
  text_own : (number at len : ℕ) (kind : MessageKind) (page : ℕ) (body : List ℕ) → IsReached sum size number text 0 (at - length old) → length old ≤ at → IsRecord sum (part text (at - length old) len) kind page number body
      → RecordWasPlaced sum size writes number at (part text (at - length old) len) × IsWhole after at (part text (at - length old) len)
  unfolding RecordWasPlaced IsWhole
  text_own number at len kind page body reached past rec =
      let some = record_some sum (part text (at - length old) len) kind page number body rec in
      let within = part_within text (at - length old) len (omega (arith, some)) in
      let covers : Covers (length old, text) at (part text (at - length old) len) = record {
        begins = past;
        ends = omega (arith, past, within, length-take len (drop (at - length old) text), length-drop (at - length old) text);
        same = take_again len (drop (at - length old) text);
      } in
      let room : length old < size = omega (arith, short, some, length-take len (drop (at - length old) text), length-drop (at - length old) text) in
      let none : first_record size (length old) ≡ 0 = begins_inside size (length old) (omega (arith, twenty)) room in
      ((record { at = length old; bytes = text; since = [] }, (0, omega arith, refl), covers, subst (λ n. IsReached sum size number text n (at - length old)) (sym none) reached, All-nil _), inr ((length old, text), asked, covers))

  behind_own : NoForeignLog sum size after writes (old ++ text)
  behind_own = first_own sum size (old ++ text) (omega (arith, short, length-append old text)) after writes (record {
    headers = λ lsn mark is.
        subst (λ (l : List ℕ). HeaderWasPlaced writes 0 l × IsWhole after 0 l) (sym header_same) (was_own.headers lsn mark (subst (λ (l : List ℕ). IsHeader sum l lsn mark) header_same is));
    records = λ lsn mark at len is r.
        let header : IsHeader sum (part old 0 20) (pos lsn) mark = subst (λ (l : List ℕ). IsHeader sum l (pos lsn) mark) header_same is in
        elim (splits sum size (lsn / size) old text twenty (end lsn mark header) at (reads_reached sum size (lsn / size) (old ++ text) 20 at r.comes)) [
          | inl (reached_old, below) ↦ old_own lsn mark at len header reached_old below r
          | inr (reached_text, past) ↦ (
              let moved : part (old ++ text) at len ≡ part text (at - length old) len = in_text old text at len past in
              subst (λ (l : List ℕ). RecordWasPlaced sum size writes (lsn / size) at l × IsWhole after at l) (sym moved)
              (text_own (lsn / size) at len r.kind r.page r.body reached_text past (subst (λ (l : List ℕ). IsRecord sum l r.kind r.page (lsn / size) r.body) moved r.is)))
        ];
  })
    where
      old_own : (lsn : ℕ) (mark : ℤ) (at len : ℕ) → IsHeader sum (part old 0 20) (pos lsn) mark → IsReached sum size (lsn / size) old 20 at → at < length old → Reads sum size (lsn / size) (old ++ text) 20 at len
          → RecordWasPlaced sum size writes (lsn / size) at (part (old ++ text) at len) × IsWhole after at (part (old ++ text) at len)
      old_own lsn mark at len header reached below r =
          let found = old_record sum size (lsn / size) old text twenty (end lsn mark header) at reached below in
          let there = found.1 in
          let inside : at + found.0 ≤ length old = found.2 in
          let kept : part (old ++ text) at found.0 ≡ part old at found.0 = in_old old text at found.0 inside in
          let longer : at + found.0 ≤ length (old ++ text) = omega (arith, inside, length-append old text) in
          let same : len ≡ found.0 =
          same_len sum size (lsn / size) (old ++ text) at len found.0 (read_begins sum size (lsn / size) (old ++ text) 20 at len r)
          (begins sum size (lsn / size) (old ++ text) at found.0 there.kind there.page there.body longer (subst (λ (l : List ℕ). IsRecord sum l there.kind there.page (lsn / size) there.body) (sym kept) there.is)) in
          let fits : at + len ≤ length old = omega (arith, inside, same) in
          let read = read_same sum size (lsn / size) (old ++ text) old 20 (length old) 20 at len (λ i n low high. sym (in_old old text i n high)) (omega arith) (omega arith) fits r in
          subst (λ (l : List ℕ). RecordWasPlaced sum size writes (lsn / size) at l × IsWhole after at l) (sym (in_old old text at len fits)) (was_own.records lsn mark at len header read)

-- So nothing is foreign in what is read behind it.
pub read_own : (sum : List ℕ → ℕ) (size : ℕ) (s : State) (text : List ℕ) → NoForeign sum size s (content_of s) → 20 ≤ length s.log.bytes → length s.log.bytes + length text ≤ size → IsReachedToEnd sum size s.log.bytes
    → NoForeign sum size (step (Wrote (length s.log.bytes) text text) s) (content_of (step (Wrote (length s.log.bytes) text text) s))
read_own sum size s text own twenty short end =
    let t : State = step (Wrote (length s.log.bytes) text text) s in
    let knows : Knows s t = before_knows (Wrote (length s.log.bytes) text text) s (write (length s.log.bytes) text) in
    record {
      log = subst (λ (l : List ℕ). NoForeignLog sum size t.log t.placed l) (sym (overwritten-end s.log.bytes text)) (behind_own sum size s.log t.log s.placed s.log.bytes text twenty short end own.log knows.log (0, omega arith, refl));
      blobs = own.blobs;
      snapshots = own.snapshots;
      zeros = own.zeros;
    }

-- Nor where a write was lost that followed a sync.
pub lost_behind : (sum : List ℕ → ℕ) (size : ℕ) (s : State) (at : ℕ) (asked now : List ℕ) → NoForeign sum size s (content_of s)
    → NoForeign sum size (step (Wrote at asked now) (step Synced s)) (content_left (Settled []) (step (Wrote at asked now) (step Synced s)))
lost_behind sum size s at asked now own =
    let t : State = step (Wrote at asked now) (step Synced s) in
    record {
      log = own_log sum size (at_rest s.log.bytes) t.log (settled_again s.log.bytes s.placed) t.placed s.log.bytes
          (record { settled = refl; asked = λ w none. (suc none.0, let le = none.1 in omega (arith, le), none.2) })
          (λ w there. (suc there.0, let le = there.1 in omega (arith, le), there.2))
          (own_log_at_rest sum size s.log s.placed s.log.bytes own.log);
      blobs = record { own = λ n bytes there is. inl there };
      snapshots = record { own = λ n bytes there is. inl there };
      zeros = own.zeros;
    }
