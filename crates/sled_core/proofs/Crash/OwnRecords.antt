-- Where a record was written before the one in front of it nothing is foreign, in what is read before that one is synced.
use Rattle.std.proofs.Common.{◌≡◌, ◌⊎◌, ◌≤◌, ◌<◌, ◌+◌, ◌-◌, ◌/◌, ◌∙◌, ℕ, List, [], ◌∷◌, ◌++◌, length, take, drop, refl, sym, ap, subst, arith, inl, inr, length-append, length-take, length-drop}
use Rattle.std.specs.List.{All, Contains}
use Rattle.std.proofs.lemmas.List.Elements.{All-nil, All-cons}
use Rattle.std.proofs.Math.Nat.{mod-eq_of_lt}
use Rattle.std.proofs.Math.Seq.{take-append_seam, drop-append_seam}
use Rattle.std.proofs.lemmas.List.{take-append-drop}
use Rattle.std.proofs.lemmas.Bool.Decides.{nat_tests}
use Rattle.sled_codec.specs.declared.serialization.message.MessageKind.{MessageKind}
use Rattle.sled_codec.specs.Places.{part}
use Rattle.sled_codec.specs.Record.{IsRecord}
use Rattle.sled_codec.proofs.Records.{one_record}
use Rattle.sled_store.specs.Device.{State, state_of, content_of, overwritten, Placement}
use Rattle.sled_store.specs.Foreign.{IsReached, at_first, behind, first_record, Covers, IsWhole, HeaderWasPlaced, RecordWasPlaced}
use Rattle.sled_store.proofs.LogFile.LooseLemmas.{end_of-some}
use Rattle.sled_store.proofs.Own.ReachedLemmas.{record_some}
use Rattle.sled_store.proofs.Own.ReaderLemmas.{reads_reached}
use Rattle.sled_store.proofs.LogFile.OverwrittenLemmas.{length-overwritten, overwritten-end, overwritten-part}
use Rattle.sled_core.specs.Own.{IsSomeRecord, written_out_of_order}
use Rattle.sled_core.specs.Recoverable.{NoForeign, NoHeaderOfZeros}
use Rattle.sled_core.proofs.Tail.LogFileLemmas.{part_kept}
use Rattle.sled_core.proofs.Crash.OwnLemmas.{no_names_own, first_own, first_of_slot}

-- where a record stands no other one does
one_there : (sum : List ℕ → ℕ) (log : List ℕ) (at len : ℕ) (r : List ℕ) (kind : MessageKind) (page number : ℕ) (body : List ℕ) → part log at (length r) ≡ r → IsSomeRecord sum r → IsRecord sum (part log at len) kind page number body
    → part log at len ≡ r
one_there sum log at len r kind page number body stands (k, p, n, b, is) rec =
    one_record sum (part log at len) r (drop len (drop at log)) (drop (length r) (drop at log)) kind k page p number n body b rec is
    (take-append-drop len (drop at log) ∙ sym (take-append-drop (length r) (drop at log)) ∙ ap (λ (l : List ℕ). l ++ drop (length r) (drop at log)) stands)

some_length : (sum : List ℕ → ℕ) (r : List ℕ) → IsSomeRecord sum r → 8 ≤ length r
some_length sum r (k, p, n, b, is) = record_some sum r k p n b is

take_all : (xs : List ℕ) → take (length xs) xs ≡ xs
take_all [] = refl
take_all (x ∷ xs) = ap (λ (l : List ℕ). x ∷ l) (take_all xs)

-- a write covers all of itself
covers_all : (at : ℕ) (r : List ℕ) → Covers (at, r) at r
covers_all at r = let none : at - at ≡ 0 = omega arith in record { begins = omega arith; ends = omega arith; same = ap (λ n. part r n (length r)) none ∙ take_all r }

-- in a write that begins within a slot the first record is at its beginning
pub begins_inside : (size at : ℕ) → 0 < at → at < size → first_record size at ≡ 0
begins_inside size at some inside = let offset = mod-eq_of_lt inside in grind (arith, nat_tests, offset, some)

-- Three records, one behind another up to the end of a log file.
module _ (sum : List ℕ → ℕ) (size : ℕ) (first second third : List ℕ) (a : IsSomeRecord sum first) (b : IsSomeRecord sum second) (c : IsSomeRecord sum third) where
  abbrev to_second : ℕ
  to_second = 20 + length first

  abbrev to_third : ℕ
  to_third = to_second + length second

  abbrev end : ℕ
  end = to_third + length third

  module _ (log : List ℕ) (long : length log ≡ end) (one : part log 20 (length first) ≡ first) (two : part log to_second (length second) ≡ second) (three : part log to_third (length third) ≡ third) where
    -- a reader comes to their beginnings and to the end
    abbrev IsBoundary : ℕ → Type 0
    IsBoundary at = (at ≡ 20) ⊎ (at ≡ to_second) ⊎ (at ≡ to_third) ⊎ (at ≡ end)

    -- and finds one of them there
    abbrev IsOneOf : ℕ → List ℕ → Type 0
    IsOneOf at text = ((at ≡ 20) × (text ≡ first)) ⊎ ((at ≡ to_second) × (text ≡ second)) ⊎ ((at ≡ to_third) × (text ≡ third))

    found_at : (at len : ℕ) (kind : MessageKind) (page number : ℕ) (body : List ℕ) → IsBoundary at → IsRecord sum (part log at len) kind page number body → IsOneOf at (part log at len)
    found_at at len kind page number body (inl here) rec =
        inl (here, one_there sum log at len first kind page number body (subst (λ n. part log n (length first) ≡ first) (sym here) one) a rec)
    found_at at len kind page number body (inr (inl here)) rec =
        inr (inl (here, one_there sum log at len second kind page number body (subst (λ n. part log n (length second) ≡ second) (sym here) two) b rec))
    found_at at len kind page number body (inr (inr (inl here))) rec =
        inr (inr (here, one_there sum log at len third kind page number body (subst (λ n. part log n (length third) ≡ third) (sym here) three) c rec))
    found_at at len kind page number body (inr (inr (inr here))) rec =
        let some = record_some sum (part log at len) kind page number body rec in
        absurd (omega (arith, some, here, long, length-take len (drop at log), length-drop at log))

    whole_part : (at len : ℕ) → at + len ≤ length log → length (part log at len) ≡ len
    whole_part at len fits = omega (arith, fits, length-take len (drop at log), length-drop at log)

    next : (at len : ℕ) → at + len ≤ length log → IsOneOf at (part log at len) → IsBoundary (at + len)
    next at len fits (inl (here, is)) = inr (inl (omega (arith, here, whole_part at len fits, ap length is)))
    next at len fits (inr (inl (here, is))) = inr (inr (inl (omega (arith, here, whole_part at len fits, ap length is))))
    next at len fits (inr (inr (here, is))) = inr (inr (inr (omega (arith, here, whole_part at len fits, ap length is))))

    boundary : (number at : ℕ) → IsReached sum size number log 20 at → IsBoundary at
    boundary number at at_first = inl refl
    boundary number at (behind from len kind page body reached fits rec) = next from len fits (found_at from len kind page number body (boundary number from reached) rec)

    -- what a reader comes to is one of them
    pub found_one : (number at len : ℕ) (kind : MessageKind) (page : ℕ) (body : List ℕ) → IsReached sum size number log 20 at → IsRecord sum (part log at len) kind page number body → IsOneOf at (part log at len)
    found_one number at len kind page body reached rec = found_at at len kind page number body (boundary number at reached) rec

  -- They were written out of order, behind a header.
  module _ (zeros : NoHeaderOfZeros sum) (header : List ℕ) (twenty : length header ≡ 20) (short : end ≤ size) where
    abbrev state : State
    state = state_of (written_out_of_order header first second third)

    abbrev front : List ℕ
    front = header ++ first

    -- what is settled, and what is read
    abbrev one_write : List ℕ
    one_write = overwritten [] 0 front

    abbrev settled : List ℕ
    settled = overwritten one_write to_third third

    abbrev log : List ℕ
    log = overwritten settled to_second second

    first_read : one_write ≡ front
    first_read = overwritten-end [] front

    long_front : length one_write ≡ to_second
    long_front = omega (arith, ap length first_read, length-append header first, twenty)

    long_settled : length settled ≡ end
    long_settled = let some = some_length sum third c in omega (arith, long_front, length-overwritten one_write to_third third, end_of-some to_third (length third) (omega (arith, some)))

    long_log : length log ≡ end
    long_log = let some = some_length sum second b in omega (arith, long_settled, length-overwritten settled to_second second, end_of-some to_second (length second) (omega (arith, some)))

    header_read : part one_write 0 20 ≡ header
    header_read = ap (λ (l : List ℕ). part l 0 20) first_read ∙ ap (λ n. take n front) (sym twenty) ∙ take-append_seam header first

    header_settled : part settled 0 20 ≡ header
    header_settled = part_kept sum size one_write to_third third 0 20 (omega (arith, long_front)) (inl (omega arith)) ∙ header_read

    first_there : part one_write 20 (length first) ≡ first
    first_there =
        ap (λ (l : List ℕ). part l 20 (length first)) first_read ∙ ap (λ n. take (length first) (drop n front)) (sym twenty)
        ∙ ap (take (length first)) (drop-append_seam header first) ∙ take_all first

    first_settled : part settled 20 (length first) ≡ first
    first_settled = part_kept sum size one_write to_third third 20 (length first) (omega (arith, long_front)) (inl (omega arith)) ∙ first_there

    third_settled : part settled to_third (length third) ≡ third
    third_settled = overwritten-part one_write to_third third

    kept : (at n : ℕ) → at + n ≤ end → (at + n ≤ to_second) ⊎ (to_third ≤ at) → part log at n ≡ part settled at n
    kept at n there apart = part_kept sum size settled to_second second at n (omega (arith, there, long_settled)) apart

    abbrev writes : List Placement
    writes =
        record { at = to_second; bytes = second; since = [] } ∷ record { at = to_third; bytes = third; since = settled ∷ [] } ∷ record { at = 0; bytes = front; since = settled ∷ one_write ∷ [] } ∷ []

    -- a text stood in both files that were synced
    stood_twice : (at : ℕ) (text : List ℕ) → part settled at (length text) ≡ text → part one_write at (length text) ≡ text → All (λ (l : List ℕ). part l at (length text) ≡ text) (settled ∷ one_write ∷ [])
    stood_twice at text then before =
        let Stands : List ℕ → Type 0 = λ l. part l at (length text) ≡ text in
        All-cons Stands settled (one_write ∷ []) then (All-cons Stands one_write [] before (All-nil Stands))

    -- the log itself placed a record and it stands whole
    abbrev IsOwn : ℕ → ℕ → List ℕ → Type 0
    IsOwn number at text = RecordWasPlaced sum size writes number at text × IsWhole state.log at text

    settled_whole : (at : ℕ) (text : List ℕ) → part settled at (length text) ≡ text → IsWhole state.log at text
    unfolding IsWhole
    settled_whole at text is = inl is

    second_whole : IsWhole state.log to_second second
    unfolding IsWhole
    second_whole = inr ((to_second, second), (0, omega arith, refl), covers_all to_second second)

    -- a record that is all of a write
    alone : (number at : ℕ) (r : List ℕ) (since : List (List ℕ)) → 0 < at → at < size → Contains writes (record { at = at; bytes = r; since = since }) → All (λ (l : List ℕ). part l at (length r) ≡ r) since
        → RecordWasPlaced sum size writes number at r
    unfolding RecordWasPlaced
    alone number at r since some inside there stood =
        let none : at - at ≡ 0 = omega arith in (
          record { at = at; bytes = r; since = since },
          there,
          covers_all at r,
          subst (λ n. IsReached sum size number r n (at - at)) (sym (begins_inside size at some inside)) (subst (λ n. IsReached sum size number r 0 n) (sym none) at_first),
          stood,
        )

    first_placed : (number : ℕ) → RecordWasPlaced sum size writes number 20 first
    unfolding RecordWasPlaced
    first_placed number = (
      record { at = 0; bytes = front; since = settled ∷ one_write ∷ [] },
      (2, omega arith, refl),
      record {
        begins = omega arith;
        ends = omega (arith, length-append header first, twenty);
        same = ap (λ n. take (length first) (drop n front)) (sym twenty) ∙ ap (take (length first)) (drop-append_seam header first) ∙ take_all first;
      },
      subst (λ n. IsReached sum size number front n 20) (sym (first_of_slot size)) at_first,
      stood_twice 20 first first_settled first_there,
    )

    header_own : HeaderWasPlaced writes 0 (part log 0 20) × IsWhole state.log 0 (part log 0 20)
    unfolding HeaderWasPlaced
    header_own =
        let is : part log 0 20 ≡ header = kept 0 20 (omega arith) (inl (omega arith)) ∙ header_settled in
        let begins : take 20 front ≡ header = ap (λ n. take n front) (sym twenty) ∙ take-append_seam header first in
        subst (λ (l : List ℕ). HeaderWasPlaced writes 0 l × IsWhole state.log 0 l) (sym is) (
          (record { at = 0; bytes = front; since = settled ∷ one_write ∷ [] }, (2, omega arith, refl), refl, begins, stood_twice 0 header (ap (part settled 0) twenty ∙ header_settled) (ap (part one_write 0) twenty ∙ header_read)),
          settled_whole 0 header (ap (part settled 0) twenty ∙ header_settled),
        )

    put : (number at from : ℕ) (text r : List ℕ) → at ≡ from → text ≡ r → IsOwn number from r → IsOwn number at text
    put number at from text r here is own = subst (λ n. IsOwn number n text) (sym here) (subst (λ (l : List ℕ). IsOwn number from l) (sym is) own)

    record_own : (number at len : ℕ) (kind : MessageKind) (page : ℕ) (body : List ℕ) → IsReached sum size number log 20 at → IsRecord sum (part log at len) kind page number body → IsOwn number at (part log at len)
    record_own number at len kind page body reached rec =
        let some_first = some_length sum first a in
        let some_second = some_length sum second b in
        let some_third = some_length sum third c in
        elim (found_one log long_log
        (kept 20 (length first) (omega arith) (inl (omega arith)) ∙ first_settled)
        (overwritten-part settled to_second second)
        (kept to_third (length third) (omega arith) (inr (omega arith)) ∙ third_settled)
        number at len kind page body reached rec) [
          | inl (here, is) ↦ put number at 20 (part log at len) first here is (first_placed number, settled_whole 20 first first_settled)
          | inr (inl (here, is)) ↦ put number at to_second (part log at len) second here is (alone number to_second second [] (omega arith) (omega (arith, short, some_second)) (0, omega arith, refl) (All-nil _), second_whole)
          | inr (inr (here, is)) ↦ put number at to_third (part log at len) third here is (alone number to_third third (settled ∷ []) (omega arith) (omega (arith, short, some_third)) (1, omega arith, refl) (All-cons (λ (l : List ℕ). part l to_third (length third) ≡ third) settled [] third_settled (All-nil _)), settled_whole to_third third third_settled)
        ]

    -- So nothing is foreign.
    pub out_of_order_own : NoForeign sum size state (content_of state)
    out_of_order_own = record {
      log = first_own sum size log (omega (arith, long_log, short)) state.log state.placed
          (record { headers = λ lsn mark is. header_own; records = λ lsn mark at len is r. record_own (lsn / size) at len r.kind r.page r.body (reads_reached sum size (lsn / size) log 20 at r.comes) r.is });
      blobs = no_names_own _;
      snapshots = no_names_own _;
      zeros = zeros;
    }
