-- What is left to write of buffers, and what holds that up, once the first of them is written.
use Rattle.std.proofs.Common.{◌≡◌, ◌∙◌, ◌≤◌, ◌<◌, ◌+◌, ◌-◌, ◌==◌, nat_lt, ℕ, zero, suc, Bool, true, false, if◌then◌else◌, max, List, [], ◌∷◌, ◌++◌, length, take, drop, None, Some, refl, sym, ap, arith}
use Rattle.std.specs.List.{slice_get}
use Rattle.std.proofs.lemmas.Bool.Decides.{nat_tests}
use Rattle.std.proofs.lemmas.List.{append-nil, drop-drop, take_all}
use Rattle.sled_store.specs.Device.{Event}
use Rattle.sled_core.specs.declared.iobuf.Reserved.{Reserved}
use Rattle.sled_core.specs.declared.iobuf.Sealed.{Sealed}
use Rattle.sled_core.specs.Buffers.{first_open_in, none_open, open_in, open_state}
use Rattle.sled_core.specs.inside.SealedBuffers.{AreSealed, behind_run, current_buffer, first_ready, is_ready, now_written, ready_count, ready_marked, ready_write, ready_writes, reserved_below, run_count, run_end, written_at}
use Rattle.sled_core.specs.SealedBuffers.{bytes_between, seal_at, sealed_count, sealed_end, writing}
use Rattle.sled_core.proofs.Reserve.OpenCounts.{none_open_count}
use Rattle.sled_core.proofs.Reserve.Ranges.{chain_grows}
use Rattle.sled_core.proofs.Sealed.EndedParts.{ended_behind, ended_front}
use Rattle.sled_core.proofs.Sealed.OneWritten.{sealed_written}
use Rattle.sled_core.proofs.Sealed.Runs.{run_of, written_ended}

-- one more buffer ends the list where it ends
pub end_last : (from : ℕ) (bs : List Sealed) (b : Sealed) → sealed_end from (bs ++ b ∷ []) ≡ b.end
end_last from [] b = refl
end_last from (x ∷ bs) b = end_last x.end bs b

-- the reservations of all are those of the run at the front, and of the others
pub run_counts : (bs : List Sealed) → sealed_count bs ≡ run_count bs + sealed_count (behind_run bs)
run_counts [] = refl
run_counts (b ∷ bs) = by_test b.is_written (run_counts bs) where
  by_test : (o : Bool) → sealed_count bs ≡ run_count bs + sealed_count (behind_run bs)
      → b.count + sealed_count bs ≡ (if o then b.count + run_count bs else 0) + sealed_count (if o then behind_run bs else b ∷ bs)
  by_test true rest = omega (arith, rest)
  by_test false rest = omega arith

-- a buffer that can be written isn't, and has no open reservation
pub ready_parts : (b : Sealed) → is_ready b ≡ true → (b.is_written ≡ false) × (b.open_count ≡ 0)
ready_parts b ready = by_test b.is_written refl ready where
  by_test : (o : Bool) → b.is_written ≡ o → (if o then false else (b.open_count == 0)) ≡ true → (b.is_written ≡ false) × (b.open_count ≡ 0)
  by_test true is ready = cc
  by_test false is ready = (is, grind (arith, nat_tests, ready))

module _ (slot : ℕ) (bytes : List ℕ) (to : ℕ) where
  -- Those at the front that are written are not written again.
  pub writes_behind : (from : ℕ) (bs more : List Sealed) → ready_writes slot bytes to from (bs ++ more) ≡ ready_writes slot bytes to (run_end from bs) (behind_run bs ++ more)
  writes_behind from [] more = refl
  writes_behind from (b ∷ bs) more = by_test b.is_written refl (writes_behind b.end bs more) where
    by_test : (o : Bool) → b.is_written ≡ o → ready_writes slot bytes to b.end (bs ++ more) ≡ ready_writes slot bytes to (run_end b.end bs) (behind_run bs ++ more)
        → ready_writes slot bytes to from (b ∷ bs ++ more) ≡ ready_writes slot bytes to (if o then run_end b.end bs else from) ((if o then behind_run bs else b ∷ bs) ++ more)
    by_test true is rest =
        ap (λ (w : Bool). if w then ready_writes slot bytes to b.end (bs ++ more)
        else (if nat_lt from to then (if b.open_count == 0 then writing (slot + from) (bytes_between bytes from b.end) (ready_writes slot bytes to b.end (bs ++ more)) else []) else [])) is
        ∙ rest
    by_test false is rest = refl

  -- The first one is written, and then the others.
  pub writes_first : (from : ℕ) (b : Sealed) (bs more : List Sealed) → is_ready b ≡ true → nat_lt from to ≡ true
      → ready_writes slot bytes to from (b ∷ bs ++ more) ≡ writing (slot + from) (bytes_between bytes from b.end) (ready_writes slot bytes to (run_end b.end bs) (behind_run bs ++ more))
  writes_first from b bs more ready below =
      let parts = ready_parts b ready in
      let rest : List Event = ready_writes slot bytes to b.end (bs ++ more) in
      let none : (b.open_count == 0) ≡ true = grind (arith, nat_tests, parts.1) in
      ap (λ (w : Bool). if w then rest else (if nat_lt from to then (if b.open_count == 0 then writing (slot + from) (bytes_between bytes from b.end) rest else []) else [])) parts.0
      ∙ ap (λ (o : Bool). if o then (if b.open_count == 0 then writing (slot + from) (bytes_between bytes from b.end) rest else []) else []) below
      ∙ ap (λ (o : Bool). if o then writing (slot + from) (bytes_between bytes from b.end) rest else []) none
      ∙ ap (λ (es : List Event). writing (slot + from) (bytes_between bytes from b.end) es) (writes_behind b.end bs more)

  -- Nothing is, where the first one that isn't written begins no lower, or has an open reservation.
  pub writes_none : (from : ℕ) (b : Sealed) (bs : List Sealed) → b.is_written ≡ false → (if nat_lt from to then is_ready b else false) ≡ false → ready_writes slot bytes to from (b ∷ bs) ≡ []
  writes_none from b bs fresh stuck = by_test (nat_lt from to) (b.open_count == 0) refl refl where
    none : (o p : Bool) (es : List Event) → (if o then p else false) ≡ false → (if o then (if p then es else []) else []) ≡ []
    none true true es is = cc
    none true false es is = refl
    none false p es is = refl

    by_test : (o p : Bool) → nat_lt from to ≡ o → (b.open_count == 0) ≡ p → ready_writes slot bytes to from (b ∷ bs) ≡ []
    by_test o p is own =
        ap (λ (w : Bool). if w then ready_writes slot bytes to b.end bs
        else (if nat_lt from to then (if b.open_count == 0 then writing (slot + from) (bytes_between bytes from b.end) (ready_writes slot bytes to b.end bs) else []) else [])) fresh
        ∙ (λ i. if is i then (if own i then writing (slot + from) (bytes_between bytes from b.end) (ready_writes slot bytes to b.end bs) else []) else [])
        ∙ none o p (writing (slot + from) (bytes_between bytes from b.end) (ready_writes slot bytes to b.end bs)) (sym (λ i. if is i then (if fresh i then false else own i) else false) ∙ stuck)

-- The current buffer is the same one, with those at the front that are written gone.
pub current_behind : (end : ℕ) (bs : List Sealed) (rs : List Reserved) → current_buffer end (drop (sealed_count bs) rs) ≡ current_buffer end (drop (sealed_count (behind_run bs)) (drop (run_count bs) rs))
current_behind end bs rs = ap (current_buffer end) (ap (λ n. drop n rs) (run_counts bs) ∙ sym (drop-drop (sealed_count (behind_run bs)) (run_count bs) rs))

-- What holds a write up.

-- nothing, of buffers that begin no lower
pub below_none : (to from : ℕ) (bs : List Sealed) (rs : List Reserved) → nat_lt from to ≡ false → reserved_below to from bs rs ≡ []
below_none to from [] rs past = ap (λ (o : Bool). if o then rs else []) past
below_none to from (b ∷ bs) rs past = ap (λ (o : Bool). if o then take b.count rs ++ reserved_below to b.end bs (drop b.count rs) else []) past

-- reservations that have ended don't
pub first_behind : (xs ys : List Reserved) → none_open xs ≡ true → first_open_in (xs ++ ys) ≡ first_open_in ys
first_behind [] ys ended = refl
first_behind (x ∷ xs) ys ended = by_state (open_state x.state) ended (first_behind xs ys) where
  by_state : (o : Bool) → (if o then false else none_open xs) ≡ true → (none_open xs ≡ true → first_open_in (xs ++ ys) ≡ first_open_in ys) → (if o then Some x.from else first_open_in (xs ++ ys)) ≡ first_open_in ys
  by_state true ended rest = cc
  by_state false ended rest = rest ended

-- Those at the front that are written don't.
pub held_behind : (to from : ℕ) (bs : List Sealed) (rs : List Reserved) → AreSealed from rs bs
    → first_open_in (reserved_below to from bs rs) ≡ first_open_in (reserved_below to (run_end from bs) (behind_run bs) (drop (run_count bs) rs))
held_behind to from [] rs are = refl
held_behind to from (b ∷ bs) rs are = by_written b.is_written refl (λ is. further is (nat_lt from to) refl (held_behind to b.end bs (drop b.count rs) are.1)) where
  further : b.is_written ≡ true → (o : Bool) → nat_lt from to ≡ o
      → first_open_in (reserved_below to b.end bs (drop b.count rs)) ≡ first_open_in (reserved_below to (run_end b.end bs) (behind_run bs) (drop (run_count bs) (drop b.count rs)))
      → first_open_in (reserved_below to from (b ∷ bs) rs) ≡ first_open_in (reserved_below to (run_end b.end bs) (behind_run bs) (drop (b.count + run_count bs) rs))
  further is true below rest =
      ap (λ (o : Bool). first_open_in (if o then take b.count rs ++ reserved_below to b.end bs (drop b.count rs) else [])) below
      ∙ first_behind (take b.count rs) (reserved_below to b.end bs (drop b.count rs)) (written_ended from (take b.count rs) b are.0 is)
      ∙ rest ∙ ap (λ (l : List Reserved). first_open_in (reserved_below to (run_end b.end bs) (behind_run bs) l)) (drop-drop (run_count bs) b.count rs)
  further is false past rest =
      let up = are.0.rises in
      let far = (run_of b.end (drop b.count rs) bs are.1).rises in
      let beyond : nat_lt (run_end b.end bs) to ≡ false = grind (arith, nat_tests, past, up, far) in
      ap (λ (o : Bool). first_open_in (if o then take b.count rs ++ reserved_below to b.end bs (drop b.count rs) else [])) past
      ∙ ap first_open_in (sym (below_none to (run_end b.end bs) (behind_run bs) (drop (b.count + run_count bs) rs) beyond))

  by_written : (o : Bool) → b.is_written ≡ o
      → (b.is_written ≡ true → first_open_in (reserved_below to from (b ∷ bs) rs) ≡ first_open_in (reserved_below to (run_end b.end bs) (behind_run bs) (drop (b.count + run_count bs) rs)))
      → first_open_in (reserved_below to from (b ∷ bs) rs) ≡ first_open_in (reserved_below to (if o then run_end b.end bs else from) (if o then behind_run bs else b ∷ bs) (drop (if o then b.count + run_count bs else 0) rs))
  by_written true is step = step is
  by_written false is step = refl

-- The first one doesn't, once it is written.
pub held_first : (to from : ℕ) (b : Sealed) (bs : List Sealed) (rs : List Reserved) → AreSealed from rs (b ∷ bs) → b.open_count ≡ 0
    → first_open_in (reserved_below to from (b ∷ bs) rs) ≡ first_open_in (reserved_below to (run_end b.end bs) (behind_run bs) (drop (b.count + run_count bs) rs))
held_first to from b bs rs are closed = held_behind to from (now_written b ∷ bs) rs (sealed_written from rs [] b bs closed are)

-- What one write of the first buffer, which can be written, changes of what is left to write, and of what holds that up.
pub record IsStep (slot : ℕ) (bytes : List ℕ) (to from : ℕ) (bs now : List Sealed) (rs : List Reserved) : Type 0 where
  pub writes : ready_writes slot bytes to from (bs ++ current_buffer (length bytes) (drop (sealed_count bs) rs))
      ≡ writing (slot + sealed_end from (take 0 bs)) (bytes_between bytes (sealed_end from (take 0 bs)) (sealed_end from (take 1 bs)))
      (ready_writes slot bytes to (run_end from now) (behind_run now ++ current_buffer (length bytes) (drop (sealed_count (behind_run now)) (drop (run_count now) rs))))
  pub held : first_open_in (reserved_below to from bs rs) ≡ first_open_in (reserved_below to (run_end from now) (behind_run now) (drop (run_count now) rs))
  pub header : 20 ≤ run_end from now

pub first_step : (slot : ℕ) (bytes : List ℕ) (to from : ℕ) (bs : List Sealed) (rs : List Reserved) → AreSealed from rs bs → (if nat_lt from to then first_ready bs else false) ≡ true → IsStep slot bytes to from bs (written_at 0 bs) rs
first_step slot bytes to from [] rs are ready = by_test (nat_lt from to) ready where
  by_test : (o : Bool) → (if o then false else false) ≡ true → IsStep slot bytes to from [] [] rs
  by_test true is = cc
  by_test false is = cc
first_step slot bytes to from (b ∷ bs) rs are ready = by_test (nat_lt from to) refl ready where
  by_test : (o : Bool) → nat_lt from to ≡ o → (if o then is_ready b else false) ≡ true → IsStep slot bytes to from (b ∷ bs) (now_written b ∷ bs) rs
  by_test false is own = cc
  by_test true is own =
      let parts = ready_parts b own in
      let grows = chain_grows (max 20 from) b.end (take b.count rs) are.0.chain in
      let far = (run_of b.end (drop b.count rs) bs are.1).rises in
      record {
        writes = writes_first slot bytes to from b bs (current_buffer (length bytes) (drop (b.count + sealed_count bs) rs)) own is
            ∙ ap (λ (l : List Sealed). writing (slot + from) (bytes_between bytes from b.end) (ready_writes slot bytes to (run_end b.end bs) (behind_run bs ++ l))) (current_behind (length bytes) (now_written b ∷ bs) rs);
        held = held_first to from b bs rs are parts.1;
        header = omega (arith, grows, far);
      }

-- Where the first buffer can't be written, and begins below the offset, or there is none.

-- reservations in front that have an open one have the first one
pub first_front : (xs ys : List Reserved) → 0 < open_in xs → first_open_in (xs ++ ys) ≡ first_open_in xs
first_front [] ys some = absurd (omega (arith, some))
first_front (x ∷ xs) ys some = by_state (open_state x.state) some (first_front xs ys) where
  by_state : (o : Bool) → 0 < (if o then suc (open_in xs) else open_in xs) → (0 < open_in xs → first_open_in (xs ++ ys) ≡ first_open_in xs)
      → (if o then Some x.from else first_open_in (xs ++ ys)) ≡ (if o then Some x.from else first_open_in xs)
  by_state true some rest = refl
  by_state false some rest = rest some

pub open_front : (xs ys : List Reserved) → open_in xs ≤ open_in (xs ++ ys)
open_front [] ys = omega arith
open_front (x ∷ xs) ys = by_state (open_state x.state) (open_front xs ys) where
  by_state : (o : Bool) → open_in xs ≤ open_in (xs ++ ys) → (if o then suc (open_in xs) else open_in xs) ≤ (if o then suc (open_in (xs ++ ys)) else open_in (xs ++ ys))
  by_state true le = omega (arith, le)
  by_state false le = le

-- One of its reservations is open, and the first one that is holds the write up.
pub record IsHeldUp (to from : ℕ) (bs : List Sealed) (rs : List Reserved) : Type 0 where
  pub some : 0 < open_in rs
  pub first : first_open_in (reserved_below to from bs rs) ≡ first_open_in rs

-- The current buffer alone is written whole.
pub current_writes : (slot : ℕ) (bytes : List ℕ) (to from : ℕ) (rs : List Reserved) → 0 < length rs → none_open rs ≡ true → nat_lt from to ≡ true
    → ready_writes slot bytes to from ([] ++ current_buffer (length bytes) (drop 0 rs)) ≡ writing (slot + from) (drop from bytes) []
current_writes slot bytes to from [] some ended below = absurd (omega (arith, some))
current_writes slot bytes to from (r ∷ rs) some ended below =
    let own : Sealed = seal_at (length bytes) (r ∷ rs) in
    let none : open_in (r ∷ rs) ≡ 0 = none_open_count (r ∷ rs) ended in
    writes_first slot bytes to from own [] [] (grind (arith, nat_tests, none)) below
    ∙ ap (λ (l : List ℕ). writing (slot + from) (drop from l) []) (take_all (length bytes) bytes (omega arith))

-- nothing holds that up
pub current_free : (to from : ℕ) (rs : List Reserved) → none_open rs ≡ true → first_open_in (reserved_below to from [] rs) ≡ None
current_free to from rs ended = by_test (nat_lt from to) where
  free : (rs : List Reserved) → none_open rs ≡ true → first_open_in rs ≡ None
  free rs ended = ap first_open_in (sym (append-nil rs)) ∙ first_behind rs [] ended

  by_test : (o : Bool) → first_open_in (if o then rs else []) ≡ None
  by_test true = free rs ended
  by_test false = refl

-- nor any buffer, where no reservation is open
pub below_free : (to from : ℕ) (bs : List Sealed) (rs : List Reserved) → none_open rs ≡ true → first_open_in (reserved_below to from bs rs) ≡ None
below_free to from [] rs ended = current_free to from rs ended
below_free to from (b ∷ bs) rs ended = by_test (nat_lt from to) (below_free to b.end bs (drop b.count rs) (ended_behind b.count rs ended)) where
  by_test : (o : Bool) → first_open_in (reserved_below to b.end bs (drop b.count rs)) ≡ None → first_open_in (if o then take b.count rs ++ reserved_below to b.end bs (drop b.count rs) else []) ≡ None
  by_test true rest = first_behind (take b.count rs) (reserved_below to b.end bs (drop b.count rs)) (ended_front b.count rs ended) ∙ rest
  by_test false rest = refl

-- The i-th of those that can be written, by its index.
pub pending_write : (slot : ℕ) (bytes : List ℕ) (from : ℕ) (bs : List Sealed) (k i : ℕ) → ((b : Sealed) → slice_get bs k ≡ Some b → is_ready b ≡ true) → k < length bs → ready_count (take k bs) ≡ i
    → ready_write slot bytes from i bs ≡ writing (slot + sealed_end from (take k bs)) (bytes_between bytes (sealed_end from (take k bs)) (sealed_end from (take (k + 1) bs))) []
pending_write slot bytes from [] k i ready within place = absurd (omega (arith, within))
pending_write slot bytes from (b ∷ bs) zero i ready within place =
    ap (λ (o : Bool). if o then (if i == 0 then writing (slot + from) (bytes_between bytes from b.end) [] else ready_write slot bytes b.end (i - 1) bs) else ready_write slot bytes b.end i bs) (ready b refl)
    ∙ ap (λ n. if n == 0 then writing (slot + from) (bytes_between bytes from b.end) [] else ready_write slot bytes b.end (n - 1) bs) (sym place)
pending_write slot bytes from (b ∷ bs) (suc k) i ready within place =
    by_test (is_ready b) refl place (λ j at. pending_write slot bytes b.end bs k j ready (omega (arith, within)) at)
    ∙ ap (λ n. writing (slot + sealed_end b.end (take k bs)) (bytes_between bytes (sealed_end b.end (take k bs)) (sealed_end from (take n (b ∷ bs)))) []) (let same : suc (k + 1) ≡ suc k + 1 = omega arith in same)
  where
    by_test : (o : Bool) → is_ready b ≡ o → (if is_ready b then suc (ready_count (take k bs)) else ready_count (take k bs)) ≡ i
        → ((j : ℕ) → ready_count (take k bs) ≡ j → ready_write slot bytes b.end j bs ≡ writing (slot + sealed_end b.end (take k bs)) (bytes_between bytes (sealed_end b.end (take k bs)) (sealed_end b.end (take (k + 1) bs))) [])
        → ready_write slot bytes from i (b ∷ bs) ≡ writing (slot + sealed_end b.end (take k bs)) (bytes_between bytes (sealed_end b.end (take k bs)) (sealed_end b.end (take (k + 1) bs))) []
    by_test true is at later =
        let count : suc (ready_count (take k bs)) ≡ i = sym (ap (λ (o : Bool). if o then suc (ready_count (take k bs)) else ready_count (take k bs)) is) ∙ at in
        let more : (i == 0) ≡ false = grind (arith, nat_tests, count) in
        ap (λ (o : Bool). if o then (if i == 0 then writing (slot + from) (bytes_between bytes from b.end) [] else ready_write slot bytes b.end (i - 1) bs) else ready_write slot bytes b.end i bs) is
        ∙ ap (λ (o : Bool). if o then writing (slot + from) (bytes_between bytes from b.end) [] else ready_write slot bytes b.end (i - 1) bs) more
        ∙ later (i - 1) (omega (arith, count))
    by_test false is at later =
        let count : ready_count (take k bs) ≡ i = sym (ap (λ (o : Bool). if o then suc (ready_count (take k bs)) else ready_count (take k bs)) is) ∙ at in
        ap (λ (o : Bool). if o then (if i == 0 then writing (slot + from) (bytes_between bytes from b.end) [] else ready_write slot bytes b.end (i - 1) bs) else ready_write slot bytes b.end i bs) is
        ∙ later i count

-- One fewer can be written once it is.

-- those at the front that are written can't be
ready_behind : (bs : List Sealed) → ready_count (behind_run bs) ≡ ready_count bs
ready_behind [] = refl
ready_behind (b ∷ bs) = by_test b.is_written refl (ready_behind bs) where
  by_test : (o : Bool) → b.is_written ≡ o → ready_count (behind_run bs) ≡ ready_count bs → ready_count (if o then behind_run bs else b ∷ bs) ≡ ready_count (b ∷ bs)
  by_test true is rest = rest ∙ sym (ap (λ (w : Bool). if (if w then false else (b.open_count == 0)) then suc (ready_count bs) else ready_count bs) is)
  by_test false is rest = refl

-- The i-th of those that can be written, by its index, once it is.
pub pending_marked : (bs : List Sealed) (k i : ℕ) → ((b : Sealed) → slice_get bs k ≡ Some b → is_ready b ≡ true) → k < length bs → ready_count (take k bs) ≡ i → ready_marked i bs ≡ written_at k bs
pending_marked [] k i ready within place = absurd (omega (arith, within))
pending_marked (b ∷ bs) zero i ready within place =
    ap (λ (o : Bool). if o then (if i == 0 then now_written b ∷ bs else b ∷ ready_marked (i - 1) bs) else b ∷ ready_marked i bs) (ready b refl)
    ∙ ap (λ n. if n == 0 then now_written b ∷ bs else b ∷ ready_marked (n - 1) bs) (sym place)
pending_marked (b ∷ bs) (suc k) i ready within place = by_test (is_ready b) refl place (λ j at. pending_marked bs k j ready (omega (arith, within)) at) where
  by_test : (o : Bool) → is_ready b ≡ o → (if is_ready b then suc (ready_count (take k bs)) else ready_count (take k bs)) ≡ i → ((j : ℕ) → ready_count (take k bs) ≡ j → ready_marked j bs ≡ written_at k bs)
      → ready_marked i (b ∷ bs) ≡ b ∷ written_at k bs
  by_test true is at later =
      let count : suc (ready_count (take k bs)) ≡ i = sym (ap (λ (o : Bool). if o then suc (ready_count (take k bs)) else ready_count (take k bs)) is) ∙ at in
      let more : (i == 0) ≡ false = grind (arith, nat_tests, count) in
      ap (λ (o : Bool). if o then (if i == 0 then now_written b ∷ bs else b ∷ ready_marked (i - 1) bs) else b ∷ ready_marked i bs) is
      ∙ ap (λ (o : Bool). if o then now_written b ∷ bs else b ∷ ready_marked (i - 1) bs) more
      ∙ ap (λ (l : List Sealed). b ∷ l) (later (i - 1) (omega (arith, count)))
  by_test false is at later =
      let count : ready_count (take k bs) ≡ i = sym (ap (λ (o : Bool). if o then suc (ready_count (take k bs)) else ready_count (take k bs)) is) ∙ at in
      ap (λ (o : Bool). if o then (if i == 0 then now_written b ∷ bs else b ∷ ready_marked (i - 1) bs) else b ∷ ready_marked i bs) is
      ∙ ap (λ (l : List Sealed). b ∷ l) (later i count)
