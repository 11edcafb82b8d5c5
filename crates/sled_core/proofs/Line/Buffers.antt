-- The buffers of a line that aren't on the device: how many of them can be written, which one is the i-th of these, and which are left once it is written.
use Rattle.std.proofs.Common.{◌≡◌, ◌∙◌, ◌<◌, ◌≤◌, ◌+◌, ◌-◌, ◌==◌, ap, sym, refl, arith, subst, ℕ, zero, suc, Bool, true, false, if◌then◌else◌, List, [], ◌∷◌, ◌++◌, length, take, drop, map, set, Option, Some, ℤ}
use Rattle.std.specs.List.{slice_get}
use Rattle.std.proofs.lemmas.Bool.Decides.{nat_tests}
use Rattle.std.proofs.lemmas.List.{drop-drop, length-map}
use Rattle.sled_store.specs.Device.{Event}
use Rattle.sled_core.specs.inside.Begun.{AreFilled}
use Rattle.sled_core.specs.Begun.{SegmentView, begin_of, segment_view}
use Rattle.sled_core.specs.Buffers.{first_open_in, open_in, open_state}
use Rattle.sled_core.specs.declared.iobuf.Reserved.{Reserved}
use Rattle.sled_core.specs.declared.iobuf.Sealed.{Sealed}
use Rattle.sled_core.specs.declared.iobuf.SegmentPosition.{SegmentPosition}
use Rattle.sled_core.specs.declared.logger.Log.{Log}
use Rattle.sled_core.specs.Fits.{FirstWaits, current_begin, start_of, synced_end, waiting_of}
use Rattle.sled_core.specs.inside.SealedBuffers.{AreSealed, FirstUnwritten, behind_run, is_ready, now_written, ready_count, ready_marked, ready_write, run_count, run_end, written_at}
use Rattle.sled_core.specs.SealedBuffers.{bytes_between, sealed_end, writing}
use Rattle.sled_core.specs.Stable.{first_begin}
use Rattle.sled_core.specs.Freeing.{Ledger}
use Rattle.sled_core.specs.Ledger.{writings, written_step}
use Rattle.sled_core.specs.inside.Turned.{IsReadyIn, begin_at, mark_of, promoted, write_in, write_of, writing_in, writing_of, written_now}
use Rattle.sled_core.specs.Waiting.{BufferAt, buffer_at, is_unheld, last_of, one_pending, pending_in, placed, unwritten, unwritten_in, unwritten_of, without_pending, write_pending}
use Rattle.sled_core.proofs.Holds.Facts.{IsSegment}
use Rattle.sled_core.proofs.Line.LedgerBehind.{writings_one}
use Rattle.sled_core.proofs.Line.PinnedWrites.{pending_plainly, plainly}
use Rattle.sled_core.proofs.Line.Segments.{AreSegments, by_front, full_unsealed}
use Rattle.sled_core.proofs.Sealed.Progress.{pending_marked, pending_write, ready_parts}
use Rattle.sled_core.specs.HeaderMark.{mark_at}
use Rattle.sled_core.proofs.Sealed.Slices.{end_to}

-- Lists of buffers in two parts.

pub pending_on : (xs ys : List BufferAt) → pending_in (xs ++ ys) ≡ pending_in xs + pending_in ys
pending_on [] ys = omega arith
pending_on (x ∷ xs) ys = by_test (is_unheld x.held) (pending_on xs ys) where
  by_test : (o : Bool) → pending_in (xs ++ ys) ≡ pending_in xs + pending_in ys → (if o then suc (pending_in (xs ++ ys)) else pending_in (xs ++ ys)) ≡ (if o then suc (pending_in xs) else pending_in xs) + pending_in ys
  by_test true rest = omega (arith, rest)
  by_test false rest = rest

-- the i-th of the first part, and what is left
pub write_front : (i : ℕ) (xs ys : List BufferAt) → i < pending_in xs → write_pending i (xs ++ ys) ≡ write_pending i xs
write_front i [] ys low = absurd (omega (arith, low))
write_front i (x ∷ xs) ys low = by_test (is_unheld x.held) (i == 0) refl low (write_front (i - 1) xs ys) (write_front i xs ys) where
  by_test : (o p : Bool) → (i == 0) ≡ p → i < (if o then suc (pending_in xs) else pending_in xs) → (i - 1 < pending_in xs → write_pending (i - 1) (xs ++ ys) ≡ write_pending (i - 1) xs) → (i < pending_in xs → write_pending i (xs ++ ys) ≡ write_pending i xs)
      → (if o then (if p then writing x.lid x.bytes [] else write_pending (i - 1) (xs ++ ys)) else write_pending i (xs ++ ys)) ≡ (if o then (if p then writing x.lid x.bytes [] else write_pending (i - 1) xs) else write_pending i xs)
  by_test true true is below one all = refl
  by_test true false is below one all = one (let more : 0 < i = grind (arith, nat_tests, is) in omega (arith, below, more))
  by_test false p is below one all = all below

pub left_front : (i : ℕ) (xs ys : List BufferAt) → i < pending_in xs → without_pending i (xs ++ ys) ≡ without_pending i xs ++ ys
left_front i [] ys low = absurd (omega (arith, low))
left_front i (x ∷ xs) ys low = by_test (is_unheld x.held) (i == 0) refl low (left_front (i - 1) xs ys) (left_front i xs ys) where
  by_test : (o p : Bool) → (i == 0) ≡ p → i < (if o then suc (pending_in xs) else pending_in xs) → (i - 1 < pending_in xs → without_pending (i - 1) (xs ++ ys) ≡ without_pending (i - 1) xs ++ ys) → (i < pending_in xs → without_pending i (xs ++ ys) ≡ without_pending i xs ++ ys)
      → (if o then (if p then xs ++ ys else x ∷ without_pending (i - 1) (xs ++ ys)) else x ∷ without_pending i (xs ++ ys)) ≡ (if o then (if p then xs else x ∷ without_pending (i - 1) xs) else x ∷ without_pending i xs) ++ ys
  by_test true true is below one all = refl
  by_test true false is below one all = ap (λ l. x ∷ l) (one (let more : 0 < i = grind (arith, nat_tests, is) in omega (arith, below, more)))
  by_test false p is below one all = ap (λ l. x ∷ l) (all below)

-- the i-th of the second part, and what is left
pub write_behind : (i : ℕ) (xs ys : List BufferAt) → pending_in xs ≤ i → write_pending i (xs ++ ys) ≡ write_pending (i - pending_in xs) ys
write_behind i [] ys high = ap (λ n. write_pending n ys) (let same : i ≡ i - 0 = omega arith in same)
write_behind i (x ∷ xs) ys high = by_test (is_unheld x.held) (i == 0) refl high (write_behind (i - 1) xs ys) (write_behind i xs ys) where
  by_test : (o p : Bool) → (i == 0) ≡ p → (if o then suc (pending_in xs) else pending_in xs) ≤ i → (pending_in xs ≤ i - 1 → write_pending (i - 1) (xs ++ ys) ≡ write_pending (i - 1 - pending_in xs) ys)
      → (pending_in xs ≤ i → write_pending i (xs ++ ys) ≡ write_pending (i - pending_in xs) ys)
      → (if o then (if p then writing x.lid x.bytes [] else write_pending (i - 1) (xs ++ ys)) else write_pending i (xs ++ ys)) ≡ write_pending (i - (if o then suc (pending_in xs) else pending_in xs)) ys
  by_test true true is above one all = absurd (let none : i ≡ 0 = grind (arith, nat_tests, is) in omega (arith, above, none))
  by_test true false is above one all = one (omega (arith, above)) ∙ ap (λ n. write_pending n ys) (let same : i - 1 - pending_in xs ≡ i - suc (pending_in xs) = omega arith in same)
  by_test false p is above one all = all above

-- the i-th itself
one_front : (i : ℕ) (xs ys : List BufferAt) → i < pending_in xs → one_pending i (xs ++ ys) ≡ one_pending i xs
one_front i [] ys low = absurd (omega (arith, low))
one_front i (x ∷ xs) ys low = by_test (is_unheld x.held) (i == 0) refl low (one_front (i - 1) xs ys) (one_front i xs ys) where
  by_test : (o p : Bool) → (i == 0) ≡ p → i < (if o then suc (pending_in xs) else pending_in xs) → (i - 1 < pending_in xs → one_pending (i - 1) (xs ++ ys) ≡ one_pending (i - 1) xs) → (i < pending_in xs → one_pending i (xs ++ ys) ≡ one_pending i xs)
      → (if o then (if p then x ∷ [] else one_pending (i - 1) (xs ++ ys)) else one_pending i (xs ++ ys)) ≡ (if o then (if p then x ∷ [] else one_pending (i - 1) xs) else one_pending i xs)
  by_test true true is below one all = refl
  by_test true false is below one all = one (let more : 0 < i = grind (arith, nat_tests, is) in omega (arith, below, more))
  by_test false p is below one all = all below

one_behind : (i : ℕ) (xs ys : List BufferAt) → pending_in xs ≤ i → one_pending i (xs ++ ys) ≡ one_pending (i - pending_in xs) ys
one_behind i [] ys high = ap (λ n. one_pending n ys) (let same : i ≡ i - 0 = omega arith in same)
one_behind i (x ∷ xs) ys high = by_test (is_unheld x.held) (i == 0) refl high (one_behind (i - 1) xs ys) (one_behind i xs ys) where
  by_test : (o p : Bool) → (i == 0) ≡ p → (if o then suc (pending_in xs) else pending_in xs) ≤ i → (pending_in xs ≤ i - 1 → one_pending (i - 1) (xs ++ ys) ≡ one_pending (i - 1 - pending_in xs) ys)
      → (pending_in xs ≤ i → one_pending i (xs ++ ys) ≡ one_pending (i - pending_in xs) ys)
      → (if o then (if p then x ∷ [] else one_pending (i - 1) (xs ++ ys)) else one_pending i (xs ++ ys)) ≡ one_pending (i - (if o then suc (pending_in xs) else pending_in xs)) ys
  by_test true true is above one all = absurd (let none : i ≡ 0 = grind (arith, nat_tests, is) in omega (arith, above, none))
  by_test true false is above one all = one (omega (arith, above)) ∙ ap (λ n. one_pending n ys) (let same : i - 1 - pending_in xs ≡ i - suc (pending_in xs) = omega arith in same)
  by_test false p is above one all = all above

pub left_behind : (i : ℕ) (xs ys : List BufferAt) → pending_in xs ≤ i → without_pending i (xs ++ ys) ≡ xs ++ without_pending (i - pending_in xs) ys
left_behind i [] ys high = ap (λ n. without_pending n ys) (let same : i ≡ i - 0 = omega arith in same)
left_behind i (x ∷ xs) ys high = by_test (is_unheld x.held) (i == 0) refl high (left_behind (i - 1) xs ys) (left_behind i xs ys) where
  by_test : (o p : Bool) → (i == 0) ≡ p → (if o then suc (pending_in xs) else pending_in xs) ≤ i → (pending_in xs ≤ i - 1 → without_pending (i - 1) (xs ++ ys) ≡ xs ++ without_pending (i - 1 - pending_in xs) ys)
      → (pending_in xs ≤ i → without_pending i (xs ++ ys) ≡ xs ++ without_pending (i - pending_in xs) ys)
      → (if o then (if p then xs ++ ys else x ∷ without_pending (i - 1) (xs ++ ys)) else x ∷ without_pending i (xs ++ ys)) ≡ x ∷ (xs ++ without_pending (i - (if o then suc (pending_in xs) else pending_in xs)) ys)
  by_test true true is above one all = absurd (let none : i ≡ 0 = grind (arith, nat_tests, is) in omega (arith, above, none))
  by_test true false is above one all = ap (λ l. x ∷ l) (one (omega (arith, above)) ∙ ap (λ n. xs ++ without_pending n ys) (let same : i - 1 - pending_in xs ≡ i - suc (pending_in xs) = omega arith in same))
  by_test false p is above one all = ap (λ l. x ∷ l) (all above)

-- The buffers of one segment.

-- one can be written where none of its reservations is open
pub unheld_is : (base : ℕ) (own : List Reserved) → is_unheld (placed base (first_open_in own)) ≡ (open_in own == 0)
unheld_is base [] = refl
unheld_is base (r ∷ rs) = by_state (open_state r.state) (unheld_is base rs) where
  by_state : (o : Bool) → is_unheld (placed base (first_open_in rs)) ≡ (open_in rs == 0) → is_unheld (placed base (if o then Some r.from else first_open_in rs)) ≡ ((if o then suc (open_in rs) else open_in rs) == 0)
  by_state true rest = (let never : (suc (open_in rs) == 0) ≡ false = grind (arith, nat_tests) in sym never)
  by_state false rest = rest

module _ (site : SegmentPosition) (bytes : List ℕ) where
  pub pending_sealed : (from : ℕ) (bs : List Sealed) (rs : List Reserved) → AreSealed from rs bs → pending_in (unwritten_in site bytes from bs rs) ≡ ready_count bs
  pending_sealed from [] rs are = refl
  pending_sealed from (b ∷ bs) rs are = by_test b.is_written (pending_sealed b.end bs (drop b.count rs) are.1) (unheld_is site.place (take b.count rs) ∙ ap (λ n. n == 0) (sym are.0.still_open)) where
    by_test : (o : Bool) → pending_in (unwritten_in site bytes b.end bs (drop b.count rs)) ≡ ready_count bs → is_unheld (placed site.place (first_open_in (take b.count rs))) ≡ (b.open_count == 0)
        → pending_in (if o then unwritten_in site bytes b.end bs (drop b.count rs) else buffer_at site bytes from b.end (take b.count rs) ∷ unwritten_in site bytes b.end bs (drop b.count rs))
        ≡ (if (if o then false else b.open_count == 0) then suc (ready_count bs) else ready_count bs)
    by_test true rest own = rest
    by_test false rest own = λ i. if own i then suc (rest i) else rest i

  pub write_sealed : (i from : ℕ) (bs : List Sealed) (rs : List Reserved) → AreSealed from rs bs → write_pending i (unwritten_in site bytes from bs rs) ≡ ready_write site.slot bytes from i bs
  write_sealed i from [] rs are = refl
  write_sealed i from (b ∷ bs) rs are =
      by_test b.is_written (λ j. write_sealed j b.end bs (drop b.count rs) are.1) (unheld_is site.place (take b.count rs) ∙ ap (λ n. n == 0) (sym are.0.still_open))
    where
      by_test : (o : Bool) → ((j : ℕ) → write_pending j (unwritten_in site bytes b.end bs (drop b.count rs)) ≡ ready_write site.slot bytes b.end j bs) → is_unheld (placed site.place (first_open_in (take b.count rs))) ≡ (b.open_count == 0)
          → write_pending i (if o then unwritten_in site bytes b.end bs (drop b.count rs) else buffer_at site bytes from b.end (take b.count rs) ∷ unwritten_in site bytes b.end bs (drop b.count rs))
          ≡ (if (if o then false else b.open_count == 0) then (if i == 0 then writing (site.slot + from) (bytes_between bytes from b.end) [] else ready_write site.slot bytes b.end (i - 1) bs) else ready_write site.slot bytes b.end i bs)
      by_test true rest own = rest i
      by_test false rest own = λ j. if own j then (if i == 0 then writing (site.slot + from) (bytes_between bytes from b.end) [] else rest (i - 1) j) else rest i j

  -- the list with this buffer in front, and its buffers that aren't written
  abbrev with_one : ℕ → Sealed → List Reserved → List BufferAt → List BufferAt
  with_one from b rs more = buffer_at site bytes from b.end (take b.count rs) ∷ more

  fresh_one : (from : ℕ) (b : Sealed) (bs : List Sealed) (rs : List Reserved) → b.is_written ≡ false → unwritten_in site bytes from (b ∷ bs) rs ≡ with_one from b rs (unwritten_in site bytes b.end bs (drop b.count rs))
  fresh_one from b bs rs is = ap (λ (w : Bool). if w then unwritten_in site bytes b.end bs (drop b.count rs) else with_one from b rs (unwritten_in site bytes b.end bs (drop b.count rs))) is

  written_one : (from : ℕ) (b : Sealed) (bs : List Sealed) (rs : List Reserved) → b.is_written ≡ true → unwritten_in site bytes from (b ∷ bs) rs ≡ unwritten_in site bytes b.end bs (drop b.count rs)
  written_one from b bs rs is = ap (λ (w : Bool). if w then unwritten_in site bytes b.end bs (drop b.count rs) else with_one from b rs (unwritten_in site bytes b.end bs (drop b.count rs))) is

  pub left_sealed : (i from : ℕ) (bs : List Sealed) (rs : List Reserved) → AreSealed from rs bs → unwritten_in site bytes from (ready_marked i bs) rs ≡ without_pending i (unwritten_in site bytes from bs rs)
  left_sealed i from [] rs are = refl
  left_sealed i from (b ∷ bs) rs are =
      by_test b.is_written refl (λ j. left_sealed j b.end bs (drop b.count rs) are.1) (unheld_is site.place (take b.count rs) ∙ ap (λ n. n == 0) (sym are.0.still_open))
    where
      by_ready : (p q : Bool) → b.is_written ≡ false → ((j : ℕ) → unwritten_in site bytes b.end (ready_marked j bs) (drop b.count rs) ≡ without_pending j (unwritten_in site bytes b.end bs (drop b.count rs)))
          → unwritten_in site bytes from (if p then (if q then now_written b ∷ bs else b ∷ ready_marked (i - 1) bs) else b ∷ ready_marked i bs) rs
          ≡ (if p then (if q then unwritten_in site bytes b.end bs (drop b.count rs) else with_one from b rs (without_pending (i - 1) (unwritten_in site bytes b.end bs (drop b.count rs)))) else with_one from b rs (without_pending i (unwritten_in site bytes b.end bs (drop b.count rs))))
      by_ready true true is rest = refl
      by_ready true false is rest = fresh_one from b (ready_marked (i - 1) bs) rs is ∙ ap (with_one from b rs) (rest (i - 1))
      by_ready false q is rest = fresh_one from b (ready_marked i bs) rs is ∙ ap (with_one from b rs) (rest i)

      by_test : (o : Bool) → b.is_written ≡ o → ((j : ℕ) → unwritten_in site bytes b.end (ready_marked j bs) (drop b.count rs) ≡ without_pending j (unwritten_in site bytes b.end bs (drop b.count rs)))
          → is_unheld (placed site.place (first_open_in (take b.count rs))) ≡ (b.open_count == 0)
          → unwritten_in site bytes from (if (if o then false else b.open_count == 0) then (if i == 0 then now_written b ∷ bs else b ∷ ready_marked (i - 1) bs) else b ∷ ready_marked i bs) rs
          ≡ without_pending i (if o then unwritten_in site bytes b.end bs (drop b.count rs) else with_one from b rs (unwritten_in site bytes b.end bs (drop b.count rs)))
      by_test true is rest own = written_one from b (ready_marked i bs) rs is ∙ rest i
      by_test false is rest own =
          by_ready (b.open_count == 0) (i == 0) is rest
          ∙ (λ j. if sym own j then (if i == 0 then unwritten_in site bytes b.end bs (drop b.count rs) else with_one from b rs (without_pending (i - 1) (unwritten_in site bytes b.end bs (drop b.count rs)))) else with_one from b rs (without_pending i (unwritten_in site bytes b.end bs (drop b.count rs))))

  -- The i-th of those that can be written is this one.
  one_sealed : (k i from : ℕ) (bs : List Sealed) (rs : List Reserved) (b : Sealed) → AreSealed from rs bs → slice_get bs k ≡ Some b → is_ready b ≡ true → ready_count (take k bs) ≡ i
      → (own : List Reserved) × (one_pending i (unwritten_in site bytes from bs rs) ≡ buffer_at site bytes (sealed_end from (take k bs)) b.end own ∷ [])
  one_sealed k i from [] rs b are there ready at = cc
  one_sealed zero i from (c ∷ cs) rs b are there ready at =
      let same : c ≡ b = cc in
      let parts = ready_parts b ready in
      let own : List Reserved = take c.count rs in
      let x : BufferAt = buffer_at site bytes from c.end own in
      let rest : List BufferAt = unwritten_in site bytes c.end cs (drop c.count rs) in
      let fresh : c.is_written ≡ false = ap (λ (d : Sealed). d.is_written) same ∙ parts.0 in
      let open_yet = are.0.still_open in
      let closed : c.open_count ≡ 0 = ap (λ (d : Sealed). d.open_count) same ∙ parts.1 in
      let free : is_unheld x.held ≡ true = unheld_is site.place own ∙ (let is : (open_in own == 0) ≡ true = grind (arith, nat_tests, open_yet, closed) in is) in
      let none : (i == 0) ≡ true = grind (arith, nat_tests, at) in (
        own,
        ap (λ (o : Bool). one_pending i (if o then rest else x ∷ rest)) fresh
            ∙ ap (λ (o : Bool). if o then (if i == 0 then x ∷ [] else one_pending (i - 1) rest) else one_pending i rest) free
            ∙ ap (λ (o : Bool). if o then x ∷ [] else one_pending (i - 1) rest) none
            ∙ ap (λ (d : Sealed). buffer_at site bytes from d.end own ∷ []) same,
      )
  one_sealed (suc k) i from (c ∷ cs) rs b are there ready at =
      by (λ j count. one_sealed k j c.end cs (drop c.count rs) b are.1 there ready count) c.is_written refl (c.open_count == 0) refl
    where
      x : BufferAt
      x = buffer_at site bytes from c.end (take c.count rs)

      rest : List BufferAt
      rest = unwritten_in site bytes c.end cs (drop c.count rs)

      unheld : is_unheld x.held ≡ (c.open_count == 0)
      unheld = unheld_is site.place (take c.count rs) ∙ ap (λ n. n == 0) (sym are.0.still_open)

      counted : (w o : Bool) → c.is_written ≡ w → (c.open_count == 0) ≡ o → (if (if w then false else o) then suc (ready_count (take k cs)) else ready_count (take k cs)) ≡ i
      counted w o is is_o = sym (λ j. if (if is j then false else is_o j) then suc (ready_count (take k cs)) else ready_count (take k cs)) ∙ at

      by : ((j : ℕ) → ready_count (take k cs) ≡ j → (own : List Reserved) × (one_pending j rest ≡ buffer_at site bytes (sealed_end c.end (take k cs)) b.end own ∷ []))
          → (w : Bool) → c.is_written ≡ w → (o : Bool) → (c.open_count == 0) ≡ o
          → (own : List Reserved) × (one_pending i (if c.is_written then rest else x ∷ rest) ≡ buffer_at site bytes (sealed_end c.end (take k cs)) b.end own ∷ [])
      by again true is o is_o =
          let found = again i (counted true o is is_o) in
          (found.0, ap (λ (w : Bool). one_pending i (if w then rest else x ∷ rest)) is ∙ found.1)
      by again false is true is_o =
          let count = counted false true is is_o in
          let found = again (i - 1) (omega (arith, count)) in
          let more : (i == 0) ≡ false = grind (arith, nat_tests, count) in (
            found.0,
            ap (λ (w : Bool). one_pending i (if w then rest else x ∷ rest)) is
                ∙ ap (λ (o : Bool). if o then (if i == 0 then x ∷ [] else one_pending (i - 1) rest) else one_pending i rest) (unheld ∙ is_o)
                ∙ ap (λ (o : Bool). if o then x ∷ [] else one_pending (i - 1) rest) more
                ∙ found.1,
          )
      by again false is false is_o =
          let found = again i (counted false false is is_o) in (
            found.0,
            ap (λ (w : Bool). one_pending i (if w then rest else x ∷ rest)) is
                ∙ ap (λ (o : Bool). if o then (if i == 0 then x ∷ [] else one_pending (i - 1) rest) else one_pending i rest) (unheld ∙ is_o) ∙ found.1,
          )

  -- those at the front that are written aren't among them
  pub unwritten_run : (from : ℕ) (bs : List Sealed) (rs : List Reserved) → unwritten_in site bytes (run_end from bs) (behind_run bs) (drop (run_count bs) rs) ≡ unwritten_in site bytes from bs rs
  unwritten_run from [] rs = refl
  unwritten_run from (b ∷ bs) rs = by_test b.is_written refl (unwritten_run b.end bs (drop b.count rs)) where
    by_test : (o : Bool) → b.is_written ≡ o → unwritten_in site bytes (run_end b.end bs) (behind_run bs) (drop (run_count bs) (drop b.count rs)) ≡ unwritten_in site bytes b.end bs (drop b.count rs)
        → unwritten_in site bytes (if o then run_end b.end bs else from) (if o then behind_run bs else b ∷ bs) (drop (if o then b.count + run_count bs else 0) rs)
        ≡ (if b.is_written then unwritten_in site bytes b.end bs (drop b.count rs) else buffer_at site bytes from b.end (take b.count rs) ∷ unwritten_in site bytes b.end bs (drop b.count rs))
    by_test true is rest =
        ap (unwritten_in site bytes (run_end b.end bs) (behind_run bs)) (sym (drop-drop (run_count bs) b.count rs)) ∙ rest
        ∙ sym (ap (λ (w : Bool). if w then unwritten_in site bytes b.end bs (drop b.count rs) else buffer_at site bytes from b.end (take b.count rs) ∷ unwritten_in site bytes b.end bs (drop b.count rs)) is)
    by_test false is rest = refl

-- as many as its sealed buffers that can be written
pub pending_segment : (size place : ℕ) (v : SegmentView) → IsSegment size place v → pending_in (unwritten_of v.parts) ≡ ready_count v.parts.sealed
pending_segment size place v is = pending_sealed v.parts.site v.parts.bytes v.parts.written_len v.parts.sealed v.parts.reserved is.are

pub pending_first : (size place : ℕ) (v : SegmentView) (vs : List SegmentView) → IsSegment size place v → pending_in (unwritten (v ∷ vs)) ≡ ready_count v.parts.sealed + pending_in (unwritten vs)
pending_first size place v vs is = pending_on (unwritten_of v.parts) (unwritten vs) ∙ ap (λ n. n + pending_in (unwritten vs)) (pending_segment size place v is)

-- It has the mark of its segment, where it begins with the header of that.
abbrev pub IsOnePending : ℕ → List SegmentView → ℕ → SegmentView → Type 0
IsOnePending i line k v = (b : BufferAt) × (one_pending i (unwritten line) ≡ b ∷ []) × (b.mark ≡ mark_of k v)

-- The i-th buffer of a line that can be written is this one of this segment.
pub record Finds (line : List SegmentView) (i n k : ℕ) : Type 0 where
  pub ready : IsReadyIn line n k
  pub writes : write_in line n k ≡ write_pending i (unwritten line)
  pub left : (v : SegmentView) → slice_get line n ≡ Some v → unwritten (set line n (written_now k v)) ≡ without_pending i (unwritten line)
  pub one : (v : SegmentView) → slice_get line n ≡ Some v → IsOnePending i line k v

-- So the calls for it are those of that buffer, with the accountant's behind them.
pub calls_pending : (size : ℕ) (l : Ledger) (line : List SegmentView) (i n k : ℕ) (v : SegmentView) → slice_get line n ≡ Some v → (b : BufferAt) → one_pending i (unwritten line) ≡ b ∷ [] → b.mark ≡ mark_of k v
    → write_in line n k ≡ write_pending i (unwritten line) → writing_in size l line n k ≡ writings size (one_pending i (unwritten line)) l
calls_pending size l line i n k v among b one mark writes =
    let write : write_in line n k ≡ writing b.lid b.bytes [] = writes ∙ pending_plainly i (unwritten line) ∙ ap plainly one in
    ap (writing_of size l k) among
    ∙ ap (λ (es : List Event). es ++ (written_step size (mark_of k v) l).calls) (sym (ap (write_of k) among) ∙ write)
    ∙ ap (λ (m : Option ℤ). writing b.lid b.bytes [] ++ (written_step size m l).calls) (sym mark)
    ∙ sym (writings_one size b l)
    ∙ ap (λ (bs : List BufferAt). writings size bs l) (sym one)

-- one that is there
ready_own : (bs : List Sealed) (k : ℕ) → k < length bs → ((b : Sealed) → slice_get bs k ≡ Some b → is_ready b ≡ true) → (b : Sealed) × (slice_get bs k ≡ Some b) × (is_ready b ≡ true)
ready_own [] k inside able = absurd (omega (arith, inside))
ready_own (c ∷ cs) zero inside able = (c, refl, able c refl)
ready_own (c ∷ cs) (suc k) inside able = ready_own cs k (omega (arith, inside)) able

pub finds_first : (size place : ℕ) (v : SegmentView) (vs : List SegmentView) (i k : ℕ) → IsSegment size place v → i < ready_count v.parts.sealed → k < length v.parts.sealed → ((b : Sealed) → slice_get v.parts.sealed k ≡ Some b → is_ready b ≡ true)
    → ready_count (take k v.parts.sealed) ≡ i → Finds (v ∷ vs) i 0 k
finds_first size place v vs i k is low within ready at =
    let bs : List Sealed = v.parts.sealed in
    let xs : List BufferAt = unwritten_of v.parts in
    let few : i < pending_in xs = let same = pending_segment size place v is in omega (arith, same, low) in
    record {
      ready = its bs within ready refl;
      writes = sym (write_front i xs (unwritten vs) few ∙ write_sealed v.parts.site v.parts.bytes i v.parts.written_len bs v.parts.reserved is.are ∙ pending_write v.parts.site.slot v.parts.bytes v.parts.written_len bs k i ready within at);
      left = λ u among.
          let same : v ≡ u = cc in
          subst (λ (w : SegmentView). unwritten (written_now k w ∷ vs) ≡ without_pending i (unwritten (v ∷ vs))) same
          (ap (λ (l : List BufferAt). l ++ unwritten vs)
          (unwritten_run v.parts.site v.parts.bytes v.parts.written_len (written_at k bs) v.parts.reserved
          ∙ ap (λ (cs : List Sealed). unwritten_in v.parts.site v.parts.bytes v.parts.written_len cs v.parts.reserved) (sym (pending_marked bs k i ready within at))
          ∙ left_sealed v.parts.site v.parts.bytes i v.parts.written_len bs v.parts.reserved is.are)
          ∙ sym (left_front i xs (unwritten vs) few));
      one = λ u among.
          let same : v ≡ u = cc in
          let own = ready_own bs k within ready in
          let found = one_sealed v.parts.site v.parts.bytes k i v.parts.written_len bs v.parts.reserved own.0 is.are own.1 own.2 at in
          subst (λ (w : SegmentView). IsOnePending i (v ∷ vs) k w) same (
            buffer_at v.parts.site v.parts.bytes (begin_at v k) own.0.end found.0,
            one_front i xs (unwritten vs) few ∙ found.1,
            ap (λ e. mark_at (begin_at v k) (bytes_between v.parts.bytes (begin_at v k) e)) (sym (end_to v.parts.written_len bs k own.0 own.1)),
          );
    }
  where
    its : (bs : List Sealed) → k < length bs → ((b : Sealed) → slice_get bs k ≡ Some b → is_ready b ≡ true) → v.parts.sealed ≡ bs → IsReadyIn (v ∷ vs) 0 k
    its bs inside able same = found bs k inside able (ap (λ (l : List Sealed). slice_get l k) same) where
      found : (cs : List Sealed) (j : ℕ) → j < length cs → ((b : Sealed) → slice_get cs j ≡ Some b → is_ready b ≡ true) → slice_get v.parts.sealed k ≡ slice_get cs j → IsReadyIn (v ∷ vs) 0 k
      found [] j inside able same = absurd (omega (arith, inside))
      found (c ∷ cs) zero inside able same = record { segment = v; among = refl; buffer = c; there = same; ready = able c refl }
      found (c ∷ cs) (suc j) inside able same = found cs j (omega (arith, inside)) able same

pub finds_behind : (size place : ℕ) (v : SegmentView) (vs : List SegmentView) (i n k : ℕ) → IsSegment size place v → ready_count v.parts.sealed ≤ i → Finds vs (i - ready_count v.parts.sealed) n k → Finds (v ∷ vs) i (suc n) k
finds_behind size place v vs i n k is high found =
    let xs : List BufferAt = unwritten_of v.parts in
    let count = pending_segment size place v is in
    let past : pending_in xs ≤ i = omega (arith, count, high) in
    let r = found.ready in
    record {
      ready = record { segment = r.segment; among = r.among; buffer = r.buffer; there = r.there; ready = r.ready };
      writes = found.writes ∙ ap (λ m. write_pending (i - m) (unwritten vs)) (sym count) ∙ sym (write_behind i xs (unwritten vs) past);
      left = λ u among. ap (λ (l : List BufferAt). xs ++ l) (found.left u among ∙ ap (λ m. without_pending (i - m) (unwritten vs)) (sym count)) ∙ sym (left_behind i xs (unwritten vs) past);
      one = λ u among.
          let its = found.one u among in
          (its.0, one_behind i xs (unwritten vs) past ∙ ap (λ m. one_pending (i - m) (unwritten vs)) count ∙ its.1, its.2);
    }

-- The segments that go have none.
pub unwritten_promoted : (size place : ℕ) (vs : List SegmentView) → AreSegments size place vs → unwritten (promoted size vs) ≡ unwritten vs
unwritten_promoted size place vs are =
    (by_front size (λ l. ((p : ℕ) × AreSegments size p l) × (unwritten l ≡ unwritten vs))
    (λ v w ws full has. (
      (has.0.0 + size, has.0.1.1),
      sym (ap (λ (bs : List Sealed). unwritten_in v.parts.site v.parts.bytes v.parts.written_len bs v.parts.reserved ++ unwritten (w ∷ ws)) (full_unsealed size has.0.0 v has.0.1.0 full)) ∙ has.1,
    ))
    vs ((place, are), refl)).1

-- All before the stable end is on the device, and what begins there isn't: the first of these buffers, or the current one.
pub first_waits : {D C : Type 0} (log : Log D C) → FirstWaits (synced_end log) (current_begin log) (waiting_of log)
first_waits log = by log.segments.first.buffer.sealed.items log.segments.first.buffer.head (map segment_view log.segments.behind.items) log.line.filled
    (λ some. log.line.lies.waits (omega (arith, some, length-map log.segments.behind.items segment_view))) refl
  where
    by : (bs : List Sealed) → FirstUnwritten bs → (ws : List SegmentView) → AreFilled log.config.config.segment_size log.reserved_to (segment_view log.segments.first ∷ ws) → (0 < length ws → log.segments.first.buffer.written_len < log.config.config.segment_size) → log.segments.first.buffer.sealed.items ≡ bs
        → FirstWaits (synced_end log) ((last_of (segment_view log.segments.first) ws).parts.site.place + begin_of (last_of (segment_view log.segments.first) ws)) (unwritten (segment_view log.segments.first ∷ ws))
    by [] fresh ws filled waits is =
        subst (λ (l : List BufferAt). FirstWaits (synced_end log) ((last_of (segment_view log.segments.first) ws).parts.site.place + begin_of (last_of (segment_view log.segments.first) ws)) (l ++ unwritten ws))
        (sym (ap (λ (l : List Sealed). unwritten_in log.segments.first.site log.segments.first.buffer.bytes.items log.segments.first.buffer.written_len l log.segments.first.buffer.reserved.items) is))
        (alone ws filled waits (ap (sealed_end log.segments.first.buffer.written_len) is))
      where
        alone : (us : List SegmentView) → AreFilled log.config.config.segment_size log.reserved_to (segment_view log.segments.first ∷ us) → (0 < length us → log.segments.first.buffer.written_len < log.config.config.segment_size) → begin_of (segment_view log.segments.first) ≡ log.segments.first.buffer.written_len
            → FirstWaits (synced_end log) ((last_of (segment_view log.segments.first) us).parts.site.place + begin_of (last_of (segment_view log.segments.first) us)) (unwritten us)
        alone [] filled waits at = omega (arith, at)
        alone (w ∷ us) filled waits at = absurd (let low = waits (omega arith) in let full = filled.0 in omega (arith, low, full, at))
    by (b ∷ bs) fresh ws filled waits is =
        subst (λ (l : List BufferAt). FirstWaits (synced_end log) ((last_of (segment_view log.segments.first) ws).parts.site.place + begin_of (last_of (segment_view log.segments.first) ws)) (l ++ unwritten ws))
        (sym (ap (λ (l : List Sealed). unwritten_in log.segments.first.site log.segments.first.buffer.bytes.items log.segments.first.buffer.written_len l log.segments.first.buffer.reserved.items) is ∙ fresh_one log.segments.first.site log.segments.first.buffer.bytes.items log.segments.first.buffer.written_len b bs log.segments.first.buffer.reserved.items fresh))
        refl

-- So what is on the device ends where the first of them begins, or else the current one.
pub first_left : {D C : Type 0} (log : Log D C) → synced_end log ≡ first_begin (waiting_of log) (start_of log)
first_left log = by_first (waiting_of log) (first_waits log) where
  by_first : (bs : List BufferAt) → FirstWaits (synced_end log) (current_begin log) bs → synced_end log ≡ first_begin bs (start_of log)
  by_first [] is = is
  by_first (b ∷ bs) is = is
