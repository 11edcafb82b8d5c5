-- How the cleared file moves: it is written over as the file is; a slot that becomes free is zeros; a cut leaves zeros out; all else leaves it.
use Rattle.std.proofs.Common.{◌≡◌, ◌≢◌, ◌⊎◌, ◌∙◌, ◌+◌, ◌-◌, ◌*◌, ◌/◌, ◌%◌, ◌≤◌, ◌<◌, ◌&&◌, ◌||◌, ◌==◌, min, ℕ, zero, suc, Some, Bool, true, false, not, nat_lt, if◌then◌else◌, List, [], ◌∷◌, ◌++◌, length, take, drop, set, get_or, refl, sym, ap, arith, subst, inl, inr, length-take, length-drop}
use Rattle.std.specs.List.{slice_get}
use Rattle.std.proofs.Math.Nat.{mul-mod_left}
use Rattle.std.proofs.lemmas.Bool.{and_right, cases_eq, cases_lt, or_from, or_left, or_right}
use Rattle.std.proofs.lemmas.Bool.Decides.{nat_tests}
use Rattle.std.proofs.lemmas.List.{ext_get_or, get_or-drop, get_or-take}
use Rattle.sled_codec.specs.Places.{part}
use Rattle.sled_store.specs.Device.{overwritten}
use Rattle.sled_store.specs.SegmentStates.{Machine, is_free, slot_at}
use Rattle.sled_store.proofs.LogFile.OverwrittenLemmas.{length-overwritten}
use Rattle.sled_core.specs.declared.iobuf.Sealed.{Sealed}
use Rattle.sled_core.specs.Begun.{SegmentView}
use Rattle.sled_core.specs.SealedBuffers.{sealed_end}
use Rattle.sled_core.specs.Waiting.{at_last, last_of}
use Rattle.sled_core.specs.inside.Cleared.{cleared, is_between, is_stale, is_unwritten, is_unwritten_in, is_unwritten_of, zeroed}
use Rattle.sled_core.specs.inside.FreeSlots.{HasSlot}
use Rattle.sled_core.specs.inside.LogFile.{padded}
use Rattle.sled_core.specs.inside.SealedBuffers.{behind_run, one_ended, one_fewer, run_end, written_at}
use Rattle.sled_core.specs.inside.Turned.{promoted, written_now}
use Rattle.sled_core.proofs.Cleared.Offsets.{LineRises, OthersBeside, between_is, between_not, cleared_same, in_own, line_none, slot_is, unwritten_high, unwritten_low, zeroed_beside, zeroed_get, zeroed_long, zeroed_same, zeroed_there}
use Rattle.sled_core.proofs.Cleared.Emptied.{IsEmptied}
use Rattle.sled_core.proofs.Reserve.Ranges.{there_split}
use Rattle.sled_core.proofs.Sealed.LaidLemmas.{EndsRise}
use Rattle.sled_core.proofs.Sealed.OneWritten.{overwritten_beside, overwritten_inside, rises_at}
use Rattle.sled_core.proofs.Sealed.Padded.{length-padded, padded_get}
use Rattle.sled_core.proofs.Tail.Multiples.{apart}

-- A file with zeros where a test says so.

-- Bytes are written that all count behind it, and beside them the test says the same.
zeroed_written : (before after : ℕ → Bool) (log : List ℕ) (at : ℕ) (xs : List ℕ) → ((i : ℕ) → at ≤ i → i < at + length xs → after i ≡ false)
    → ((i : ℕ) → (i < at) ⊎ (at + length xs ≤ i) → after i ≡ before i) → zeroed after (overwritten log at xs) ≡ overwritten (zeroed before log) at xs
zeroed_written before after log at [] inside beside =
    zeroed_same after before log (λ i lt. beside i (elim (cases_lt i at) [ inl low ↦ inl low | inr high ↦ inr (omega (arith, high)) ]))
zeroed_written before after log at (x ∷ xs) inside beside = ext_get_or 0 (zeroed after new) (overwritten (zeroed before log) at ys) long (λ i lt. each i) where
  ys : List ℕ
  ys = x ∷ xs

  new : List ℕ
  new = overwritten log at ys

  long : length (zeroed after new) ≡ length (overwritten (zeroed before log) at ys)
  long = omega (arith, zeroed_long after new, length-overwritten log at ys, length-overwritten (zeroed before log) at ys, zeroed_long before log)

  outside : (i : ℕ) → (i < at) ⊎ (at + length ys ≤ i) → get_or (zeroed after new) i 0 ≡ get_or (overwritten (zeroed before log) at ys) i 0
  outside i how =
      zeroed_get after new i
      ∙ ap (λ (o : Bool). if o then 0 else get_or new i 0) (beside i how)
      ∙ ap (λ (n : ℕ). if before i then 0 else n) (overwritten_beside log at ys i (omega arith) how)
      ∙ sym (zeroed_get before log i)
      ∙ sym (overwritten_beside (zeroed before log) at ys i (omega arith) how)

  within : (i : ℕ) → at ≤ i → i < at + length ys → get_or (zeroed after new) i 0 ≡ get_or (overwritten (zeroed before log) at ys) i 0
  within i low high =
      let there : at + (i - at) ≡ i = omega (arith, low) in
      let below : i - at < length ys = omega (arith, low, high) in
      zeroed_beside after new i (inside i low high)
      ∙ ap (λ n. get_or new n 0) (sym there) ∙ overwritten_inside log at ys (i - at) below
      ∙ sym (overwritten_inside (zeroed before log) at ys (i - at) below) ∙ ap (λ n. get_or (overwritten (zeroed before log) at ys) n 0) there

  each : (i : ℕ) → get_or (zeroed after new) i 0 ≡ get_or (overwritten (zeroed before log) at ys) i 0
  each i = elim (cases_lt i at) [
    | inl low ↦ outside i (inl low)
    | inr high ↦ elim (cases_lt i (at + length ys)) [ inl below ↦ within i high below | inr past ↦ outside i (inr past) ]
  ]

-- the same bytes in a range make the same part
pub part_same : (old new : List ℕ) (lid len : ℕ) → length new ≡ length old → ((i : ℕ) → lid ≤ i → i < lid + len → get_or new i 0 ≡ get_or old i 0)
    → part new lid len ≡ part old lid len
part_same old new lid len long same = ext_get_or 0 (part new lid len) (part old lid len) same_long
    (λ i lt. each i (omega (arith, lt, length-take len (drop lid new)))) where
      same_long : length (part new lid len) ≡ length (part old lid len)
      same_long =
          length-take len (drop lid new)
          ∙ ap (λ n. min len n) (length-drop lid new ∙ ap (λ n. n - lid) long ∙ sym (length-drop lid old))
          ∙ sym (length-take len (drop lid old))

      each : (i : ℕ) → i < len → get_or (part new lid len) i 0 ≡ get_or (part old lid len) i 0
      each i below =
          get_or-take len (drop lid new) i 0 below ∙ get_or-drop lid new i 0
          ∙ same (lid + i) (omega arith) (omega (arith, below))
          ∙ sym (get_or-drop lid old i 0) ∙ sym (get_or-take len (drop lid old) i 0 below)

-- Nothing counts in a slot any more, and beside it the test says the same.
zeroed_emptied : (before after : ℕ → Bool) (size k : ℕ) (log : List ℕ) → ((i : ℕ) → k * size ≤ i → i < k * size + size → after i ≡ true)
    → ((j i : ℕ) → j ≢ k → j * size ≤ i → i < j * size + size → after i ≡ before i) → IsEmptied size k (zeroed before log) (zeroed after log)
zeroed_emptied before after size k log gone same = record {
  others = λ j other lid len low high there. part_same (zeroed before log) (zeroed after log) lid len long
      (λ i above below. one j i other (omega (arith, low, above)) (omega (arith, high, below)));
  back = λ j other lid len low high there. part_same (zeroed after log) (zeroed before log) lid len (sym long)
      (λ i above below. sym (one j i other (omega (arith, low, above)) (omega (arith, high, below))));
  zeros = λ i low high. zeroed_there after log i (gone i low high);
} where
  long : length (zeroed after log) ≡ length (zeroed before log)
  long = zeroed_long after log ∙ sym (zeroed_long before log)

  one : (j i : ℕ) → j ≢ k → j * size ≤ i → i < j * size + size → get_or (zeroed after log) i 0 ≡ get_or (zeroed before log) i 0
  one j i other low high = zeroed_get after log i ∙ ap (λ (o : Bool). if o then 0 else get_or log i 0) (same j i other low high) ∙ sym (zeroed_get before log i)

-- The file is cut where nothing counts from there on.
zeroed_cut : (test : ℕ → Bool) (log : List ℕ) (to : ℕ) → to ≤ length log → ((i : ℕ) → to ≤ i → test i ≡ true)
    → padded (length log) (zeroed test (take to log)) ≡ zeroed test log
zeroed_cut test log to inside gone = ext_get_or 0 (padded (length log) short) (zeroed test log) long
    (λ i lt. padded_get (length log) short i ∙ zeroed_get test (take to log) i ∙ each i ∙ sym (zeroed_get test log i)) where
      short : List ℕ
      short = zeroed test (take to log)

      long : length (padded (length log) short) ≡ length (zeroed test log)
      long = omega (arith, length-padded (length log) short, zeroed_long test (take to log), length-take to log, inside, zeroed_long test log)

      each : (i : ℕ) → (if test i then 0 else get_or (take to log) i 0) ≡ (if test i then 0 else get_or log i 0)
      each i = elim (cases_lt i to) [
        | inl below ↦ ap (λ (n : ℕ). if test i then 0 else n) (get_or-take to log i 0 below)
        | inr past ↦
            ap (λ (o : Bool). if o then 0 else get_or (take to log) i 0) (gone i past)
            ∙ sym (ap (λ (o : Bool). if o then 0 else get_or log i 0) (gone i past))
      ]

-- What isn't written of a segment.

-- a reservation of one of its buffers ends
pub unwritten_ended : (slot from i : ℕ) (bs : List Sealed) (to o : ℕ) → is_unwritten_in slot from (one_ended i bs) to o ≡ is_unwritten_in slot from bs to o
unwritten_ended slot from i [] to o = refl
unwritten_ended slot from i (b ∷ bs) to o = by_test (unwritten_ended slot b.end (i - b.count) bs to o) (nat_lt i b.count) where
  by_test : is_unwritten_in slot b.end (one_ended (i - b.count) bs) to o ≡ is_unwritten_in slot b.end bs to o → (t : Bool)
      → is_unwritten_in slot from (if t then one_fewer b ∷ bs else b ∷ one_ended (i - b.count) bs) to o
      ≡ is_unwritten_in slot from (b ∷ bs) to o
  by_test rest true = refl
  by_test rest false = ap (λ (t : Bool). (not b.is_written && is_between (slot + from) (slot + b.end) o) || t) rest

-- a buffer is sealed behind them
pub unwritten_sealed : (slot from : ℕ) (bs : List Sealed) (b : Sealed) (to i : ℕ) → b.is_written ≡ false → sealed_end from bs ≤ b.end → b.end ≤ to
    → is_unwritten_in slot from (bs ++ b ∷ []) to i ≡ is_unwritten_in slot from bs to i
unwritten_sealed slot from [] b to i fresh rises inside =
    ap (λ (t : Bool). (not t && is_between (slot + from) (slot + b.end) i) || is_between (slot + b.end) (slot + to) i) fresh ∙ joined where
      joined : (is_between (slot + from) (slot + b.end) i || is_between (slot + b.end) (slot + to) i) ≡ is_between (slot + from) (slot + to) i
      joined = grind (arith, nat_tests, rises, inside)
unwritten_sealed slot from (x ∷ xs) b to i fresh rises inside =
    ap (λ (t : Bool). (not x.is_written && is_between (slot + from) (slot + x.end) i) || t) (unwritten_sealed slot x.end xs b to i fresh rises inside)

-- its buffers at the front that are written go
unwritten_run : (slot from : ℕ) (bs : List Sealed) (to i : ℕ) → is_unwritten_in slot (run_end from bs) (behind_run bs) to i ≡ is_unwritten_in slot from bs to i
unwritten_run slot from [] to i = refl
unwritten_run slot from (b ∷ bs) to i = by_test b.is_written refl (unwritten_run slot b.end bs to i) where
  by_test : (t : Bool) → b.is_written ≡ t → is_unwritten_in slot (run_end b.end bs) (behind_run bs) to i ≡ is_unwritten_in slot b.end bs to i
      → is_unwritten_in slot (if t then run_end b.end bs else from) (if t then behind_run bs else b ∷ bs) to i ≡ is_unwritten_in slot from (b ∷ bs) to i
  by_test true is rest = rest ∙ sym (ap (λ (t : Bool). (not t && is_between (slot + from) (slot + b.end) i) || is_unwritten_in slot b.end bs to i) is)
  by_test false is rest = refl

-- one of its buffers is written: in it nothing is unwritten any more,
written_within : (slot from : ℕ) (bs : List Sealed) (k : ℕ) (b : Sealed) (to i : ℕ) → slice_get bs k ≡ Some b → EndsRise from bs to
    → slot + sealed_end from (take k bs) ≤ i → i < slot + b.end
    → is_unwritten_in slot from (written_at k bs) to i ≡ false
written_within slot from [] k b to i there rise low high = cc
written_within slot from (x ∷ xs) zero b to i there rise low high =
    let same : x ≡ b = cc in
    let ends : x.end ≡ b.end = ap (λ (y : Sealed). y.end) same in
    unwritten_low slot x.end xs to i rise.1 (omega (arith, high, ends))
written_within slot from (x ∷ xs) (suc k) b to i there rise low high =
    let up = (rises_at x.end (take k xs) b (drop (suc k) xs) to (subst (λ (cs : List Sealed). EndsRise x.end cs to) (there_split xs k b there) rise.1)).0 in
    or_from (not x.is_written && is_between (slot + from) (slot + x.end) i) (is_unwritten_in slot x.end (written_at k xs) to i)
    (and_right (not x.is_written) (is_between (slot + from) (slot + x.end) i) (between_not (slot + from) (slot + x.end) i (inr (omega (arith, up, low)))))
    (written_within slot x.end xs k b to i there rise.1 low high)

-- and beside it all is as it was
written_beside : (slot from : ℕ) (bs : List Sealed) (k : ℕ) (b : Sealed) (to i : ℕ) → slice_get bs k ≡ Some b
    → (i < slot + sealed_end from (take k bs)) ⊎ (slot + b.end ≤ i)
    → is_unwritten_in slot from (written_at k bs) to i ≡ is_unwritten_in slot from bs to i
written_beside slot from [] k b to i there how = refl
written_beside slot from (x ∷ xs) zero b to i there how =
    let same : b ≡ x = cc in
    let ends : b.end ≡ x.end = ap (λ (y : Sealed). y.end) same in
    let none = and_right (not x.is_written) (is_between (slot + from) (slot + x.end) i)
    (between_not (slot + from) (slot + x.end) i (elim how [ inl low ↦ inl low | inr high ↦ inr (omega (arith, high, ends)) ])) in
    sym (ap (λ (t : Bool). t || is_unwritten_in slot x.end xs to i) none)
written_beside slot from (x ∷ xs) (suc k) b to i there how =
    ap (λ (t : Bool). (not x.is_written && is_between (slot + from) (slot + x.end) i) || t) (written_beside slot x.end xs k b to i there how)

-- Of segments.

-- one of them is replaced by one of which the same isn't written,
pub line_set : (size : ℕ) (line : List SegmentView) (n : ℕ) (v w : SegmentView) (i : ℕ) → slice_get line n ≡ Some v
    → is_unwritten_of size w.parts i ≡ is_unwritten_of size v.parts i
    → is_unwritten size (set line n w) i ≡ is_unwritten size line i
line_set size [] n v w i there same = refl
line_set size (x ∷ xs) zero v w i there same =
    let is : v ≡ x = cc in
    ap (λ (t : Bool). t || is_unwritten size xs i) (same ∙ ap (λ (y : SegmentView). is_unwritten_of size y.parts i) is)
line_set size (x ∷ xs) (suc n) v w i there same = ap (λ (t : Bool). is_unwritten_of size x.parts i || t) (line_set size xs n v w i there same)

-- or of which something is written now, and of no other one
line_set_none : (size : ℕ) (line : List SegmentView) (n : ℕ) (w : SegmentView) (i : ℕ) → is_unwritten_of size w.parts i ≡ false
    → ((j : ℕ) (u : SegmentView) → slice_get line j ≡ Some u → j ≢ n → is_unwritten_of size u.parts i ≡ false) → is_unwritten size (set line n w) i ≡ false
line_set_none size [] n w i here others = refl
line_set_none size (x ∷ xs) zero w i here others =
    or_from (is_unwritten_of size w.parts i) (is_unwritten size xs i) here
    (line_none size xs i (λ j u there. others (suc j) u there (λ same. absurd (omega (arith, same)))))
line_set_none size (x ∷ xs) (suc n) w i here others =
    or_from (is_unwritten_of size x.parts i) (is_unwritten size (set xs n w) i) (others 0 x refl (λ same. absurd (omega (arith, same))))
    (line_set_none size xs n w i here (λ j u there differs. others (suc j) u there (λ same. differs (omega (arith, same)))))

-- the last one is changed
pub line_last : (size : ℕ) (f : SegmentView → SegmentView) (v : SegmentView) (vs : List SegmentView) (i : ℕ)
    → is_unwritten_of size (f (last_of v vs)).parts i ≡ is_unwritten_of size (last_of v vs).parts i
    → is_unwritten size (at_last f (v ∷ vs)) i ≡ is_unwritten size (v ∷ vs) i
line_last size f v [] i same = ap (λ (t : Bool). t || false) same
line_last size f v (w ∷ ws) i same = ap (λ (t : Bool). is_unwritten_of size v.parts i || t) (line_last size f w ws i same)

-- one is put behind them
line_put : (size : ℕ) (line : List SegmentView) (v : SegmentView) (i : ℕ) → is_unwritten_of size v.parts i ≡ true → is_unwritten size (line ++ v ∷ []) i ≡ true
line_put size [] v i is = or_left (is_unwritten_of size v.parts i) false is
line_put size (x ∷ xs) v i is = or_right (is_unwritten_of size x.parts i) (is_unwritten size (xs ++ v ∷ []) i) (line_put size xs v i is)

line_put_none : (size : ℕ) (line : List SegmentView) (v : SegmentView) (i : ℕ) → is_unwritten_of size v.parts i ≡ false
    → is_unwritten size (line ++ v ∷ []) i ≡ is_unwritten size line i
line_put_none size [] v i none = or_from (is_unwritten_of size v.parts i) false none refl
line_put_none size (x ∷ xs) v i none = ap (λ (t : Bool). is_unwritten_of size x.parts i || t) (line_put_none size xs v i none)

-- of one that is wholly written nothing isn't
full_none : (slot from : ℕ) (bs : List Sealed) (to i : ℕ) → EndsRise from bs to → from ≡ to → is_unwritten_in slot from bs to i ≡ false
full_none slot from bs to i rise full = elim (cases_lt i (slot + from)) [
  | inl low ↦ unwritten_low slot from bs to i rise low
  | inr high ↦ unwritten_high slot from bs to i rise (omega (arith, high, full))
]

line_promoted : (size : ℕ) (line : List SegmentView) (i : ℕ)
    → LineRises size line
    → is_unwritten size (promoted size line) i ≡ is_unwritten size line i
line_promoted size [] i rises = refl
line_promoted size (v ∷ []) i rises = refl
line_promoted size (v ∷ w ∷ ws) i rises = by_test (v.parts.written_len == size) refl (line_promoted size (w ∷ ws) i (λ j u there. rises (suc j) u there)) where
  by_test : (t : Bool) → (v.parts.written_len == size) ≡ t → is_unwritten size (promoted size (w ∷ ws)) i ≡ is_unwritten size (w ∷ ws) i
      → is_unwritten size (if t then promoted size (w ∷ ws) else v ∷ w ∷ ws) i ≡ is_unwritten size (v ∷ w ∷ ws) i
  by_test true is rest =
      let full : v.parts.written_len ≡ size = grind (arith, nat_tests, is) in
      let none : is_unwritten_of size v.parts i ≡ false = full_none v.parts.site.slot v.parts.written_len v.parts.sealed size i (rises 0 v refl) full in
      rest ∙ sym (ap (λ (t : Bool). t || is_unwritten size (w ∷ ws) i) none)
  by_test false is rest = refl

-- Calls that leave the cleared file.

-- Reserve, complete, abort, seal, mark, pin, read: the same slots are free, and the same isn't written.
pub cleared_line : (size : ℕ) (m m' : Machine) (line line' : List SegmentView) (log : List ℕ)
    → ((k : ℕ) → is_free (slot_at m' k).state ≡ is_free (slot_at m k).state)
    → ((i : ℕ) → is_unwritten size line' i ≡ is_unwritten size line i) → cleared size m' line' log ≡ cleared size m line log
cleared_line size m m' line line' log free same = cleared_same size m' m line' line log (λ i lt.
    ap (λ (t : Bool). t || is_unwritten size line' i) (free (i / size)) ∙ ap (λ (t : Bool). is_free (slot_at m (i / size)).state || t) (same i))

-- The segments at the front that are wholly written leave.
pub cleared_promoted : (size : ℕ) (m : Machine) (line : List SegmentView) (log : List ℕ)
    → LineRises size line
    → cleared size m (promoted size line) log ≡ cleared size m line log
cleared_promoted size m line log rises = cleared_line size m m line (promoted size line) log (λ k. refl) (λ i. line_promoted size line i rises)

-- A segment is begun in a free slot: before nothing counts there, and behind nothing is written.
pub cleared_begun : (size : ℕ) → 0 < size → (m m' : Machine) (line : List SegmentView) (v : SegmentView) (k : ℕ) (log : List ℕ)
    → v.parts.site.slot ≡ k * size → v.parts.written_len ≡ 0 → v.parts.sealed ≡ []
    → is_free (slot_at m k).state ≡ true → ((j : ℕ) → j ≢ k → is_free (slot_at m' j).state ≡ is_free (slot_at m j).state)
    → cleared size m' (line ++ v ∷ []) log ≡ cleared size m line log
cleared_begun size some m m' line v k log lies unwritten unsealed free others = cleared_same size m' m (line ++ v ∷ []) line log (λ i lt. each i) where
  its : (i : ℕ) → is_unwritten_of size v.parts i ≡ is_between (k * size + 0) (k * size + size) i
  its i =
      ap (λ (bs : List Sealed). is_unwritten_in v.parts.site.slot v.parts.written_len bs size i) unsealed
      ∙ ap (λ n. is_between (v.parts.site.slot + n) (v.parts.site.slot + size) i) unwritten
      ∙ ap (λ n. is_between (n + 0) (n + size) i) lies

  beside : (i : ℕ) → i / size ≢ k → (i < k * size + 0) ⊎ (k * size + size ≤ i)
  beside i other = elim (cases_lt i (k * size)) [
    | inl low ↦ inl (omega (arith, low))
    | inr above ↦ elim (cases_lt i (k * size + size)) [ inl below ↦ absurd (other (slot_is size k i above below)) | inr high ↦ inr high ]
  ]

  each : (i : ℕ) → is_stale size m' (line ++ v ∷ []) i ≡ is_stale size m line i
  each i = elim (cases_eq (i / size) k) [
    | inl same ↦ (
        let own = in_own size i some in
        let start = ap (λ n. n * size) same in
        or_right (is_free (slot_at m' (i / size)).state) (is_unwritten size (line ++ v ∷ []) i)
        (line_put size line v i (its i ∙ between_is (k * size + 0) (k * size + size) i (omega (arith, own.0, start)) (omega (arith, own.1, start))))
        ∙ sym (or_left (is_free (slot_at m (i / size)).state) (is_unwritten size line i) (ap (λ n. is_free (slot_at m n).state) same ∙ free)))
    | inr other ↦
        ap (λ (t : Bool). t || is_unwritten size (line ++ v ∷ []) i) (others (i / size) other)
        ∙ ap (λ (t : Bool). is_free (slot_at m (i / size)).state || t)
        (line_put_none size line v i (its i ∙ between_not (k * size + 0) (k * size + size) i (beside i other)))
  ]

-- A buffer is written.

module _ (size : ℕ) (m : Machine) (line : List SegmentView) (log : List ℕ) (n : ℕ) (v : SegmentView) (among : slice_get line n ≡ Some v)
    (k : ℕ) (b : Sealed) (there : slice_get v.parts.sealed k ≡ Some b)
    (has : HasSlot size m v) (rises : LineRises size line)
    (beside : OthersBeside size line n v) where
  -- where it begins
  abbrev begin : ℕ
  begin = sealed_end v.parts.written_len (take k v.parts.sealed)

  -- it lies behind what is written without a gap, and within the segment
  pub within : (v.parts.written_len ≤ begin) × (begin < b.end) × (b.end ≤ size)
  within = rises_at v.parts.written_len (take k v.parts.sealed) b (drop (suc k) v.parts.sealed) size
      (subst (λ (cs : List Sealed). EndsRise v.parts.written_len cs size) (there_split v.parts.sealed k b there) (rises n v among))

  -- it and those in front of it that are written go
  now_is : (i : ℕ) → is_unwritten_of size (written_now k v).parts i ≡ is_unwritten_in v.parts.site.slot v.parts.written_len (written_at k v.parts.sealed) size i
  now_is i = unwritten_run v.parts.site.slot v.parts.written_len (written_at k v.parts.sealed) size i

  -- No other segment has anything in its slot.
  others : (i : ℕ) → v.parts.site.slot ≤ i → i < v.parts.site.slot + size → (j : ℕ) (u : SegmentView) → slice_get line j ≡ Some u → j ≢ n
      → is_unwritten_of size u.parts i ≡ false
  others i low high j u at differs = elim (beside j u at differs) [
    | inl before ↦ unwritten_high u.parts.site.slot u.parts.written_len u.parts.sealed size i (rises j u at) (omega (arith, before, low))
    | inr behind ↦ unwritten_low u.parts.site.slot u.parts.written_len u.parts.sealed size i (rises j u at) (omega (arith, behind, high))
  ]

  -- So the cleared file is written over as the file is.
  pub cleared_written : (xs : List ℕ) → begin + length xs ≡ b.end
      → cleared size m (set line n (written_now k v)) (overwritten log (v.parts.site.slot + begin) xs)
      ≡ overwritten (cleared size m line log) (v.parts.site.slot + begin) xs
  cleared_written xs long = zeroed_written (is_stale size m line) (is_stale size m (set line n (written_now k v))) log
      (v.parts.site.slot + begin) xs inside outside where
        inside : (i : ℕ) → v.parts.site.slot + begin ≤ i → i < v.parts.site.slot + begin + length xs → is_stale size m (set line n (written_now k v)) i ≡ false
        inside i low high =
            let ends = within.2 in
            let lies = has.lies in
            or_from (is_free (slot_at m (i / size)).state) (is_unwritten size (set line n (written_now k v)) i)
            (ap (λ j. is_free (slot_at m j).state) (slot_is size has.number i (omega (arith, low, lies)) (omega (arith, high, long, ends, lies))) ∙ has.taken)
            (line_set_none size line n (written_now k v) i
            (now_is i ∙ written_within v.parts.site.slot v.parts.written_len v.parts.sealed k b size i there (rises n v among) low (omega (arith, high, long)))
            (others i (omega (arith, low)) (omega (arith, high, long, ends))))

        outside : (i : ℕ) → (i < v.parts.site.slot + begin) ⊎ (v.parts.site.slot + begin + length xs ≤ i)
            → is_stale size m (set line n (written_now k v)) i ≡ is_stale size m line i
        outside i how = ap (λ (t : Bool). is_free (slot_at m (i / size)).state || t) (line_set size line n v (written_now k v) i among
            (now_is i ∙ written_beside v.parts.site.slot v.parts.written_len v.parts.sealed k b size i there
            (elim how [ inl low ↦ inl low | inr high ↦ inr (omega (arith, high, long)) ])))

-- Slots go.

module _ (size : ℕ) (some : 0 < size) (m : Machine) (line : List SegmentView) (log : List ℕ) where
  -- A slot becomes free: the cleared file has zeros in it, and is as it was in each other.
  pub cleared_emptied : (m' : Machine) (k : ℕ) → is_free (slot_at m' k).state ≡ true
      → ((j : ℕ) → j ≢ k → is_free (slot_at m' j).state ≡ is_free (slot_at m j).state)
      → IsEmptied size k (cleared size m line log) (cleared size m' line log)
  cleared_emptied m' k free others = zeroed_emptied (is_stale size m line) (is_stale size m' line) size k log
      (λ i low high. or_left (is_free (slot_at m' (i / size)).state) (is_unwritten size line i)
      (ap (λ n. is_free (slot_at m' n).state) (slot_is size k i low high) ∙ free))
      (λ j i other low high. ap (λ (t : Bool). t || is_unwritten size line i) (others (i / size) (λ same. other (sym (slot_is size j i low high) ∙ same))))

  -- The file is cut where all slots are free: the cleared file is shorter by zeros.
  pub cleared_cut : (to : ℕ) → to % size ≡ 0 → to ≤ length log → ((k : ℕ) → to ≤ k * size → is_free (slot_at m k).state ≡ true)
      → padded (length log) (cleared size m line (take to log)) ≡ cleared size m line log
  cleared_cut to whole inside free = zeroed_cut (is_stale size m line) log to inside
      (λ i past. or_left (is_free (slot_at m (i / size)).state) (is_unwritten size line i) (free (i / size) (start i past))) where
        start : (i : ℕ) → to ≤ i → to ≤ i / size * size
        start i past = elim (cases_lt (i / size * size) to) [
          | inl low ↦ absurd (
              let own = in_own size i some in
              let end = apart size some (i / size * size) to (mul-mod_left (i / size) size) whole low in
              omega (arith, own.1, end, past))
          | inr high ↦ high
        ]
