-- An open reservation lies within one buffer that isn't written, sealed or current; and there it stands once it has ended.
use Rattle.std.proofs.Common.{◌≡◌, ◌∙◌, ◌≤◌, ◌<◌, ◌+◌, ◌-◌, ℕ, max, Bool, true, false, nat_lt, if◌then◌else◌, List, [], ◌∷◌, ◌++◌, take, drop, sym, ap, arith, refl, subst, Some}
use Rattle.std.specs.List.{Contains, slice_get}
use Rattle.std.proofs.lemmas.Bool.Decides.{nat_tests}
use Rattle.std.proofs.lemmas.List.{drop-drop, drop-take, take-take}
use Rattle.std.proofs.lemmas.List.Elements.{Contains-append_left, Contains-append_right}
use Rattle.sled_codec.specs.Places.{part}
use Rattle.sled_store.proofs.Segments.Elements.{in_first}
use Rattle.sled_core.specs.declared.iobuf.ReservationState.TheVariants.{Open}
use Rattle.sled_core.specs.declared.iobuf.Reserved.{Reserved}
use Rattle.sled_core.specs.declared.iobuf.Sealed.{Sealed}
use Rattle.sled_core.specs.declared.iobuf.SegmentPosition.{SegmentPosition}
use Rattle.sled_core.specs.inside.SealedBuffers.{IsSealed, AreSealed, one_ended, one_fewer}
use Rattle.sled_core.specs.SealedBuffers.{bytes_between, sealed_count, sealed_end}
use Rattle.sled_core.specs.Waiting.{BufferAt, buffer_at, unwritten_in}
use Rattle.sled_core.proofs.Sealed.Ended.{get_behind, get_front, lies_in}
use Rattle.sled_core.proofs.Sealed.InBuffer.{own_open}

-- a part of the bytes of a buffer is that part of the segment's
pub part-between : (bytes : List ℕ) (at end from n : ℕ) → at ≤ from → from + n ≤ end → part (bytes_between bytes at end) (from - at) n ≡ part bytes from n
part-between bytes at end from n begins ends =
    let up : at + (from - at) ≡ from = omega (arith, begins) in
    let far : from + (end - from) ≡ end = omega (arith, ends) in
    ap (take n) (
    drop-drop (from - at) at (take end bytes)
    ∙ (λ i. drop (up i) (take (sym far i) bytes))
    ∙ drop-take from (end - from) bytes)
    ∙ take-take n (end - from) (drop from bytes) (omega (arith, ends))

-- One of these buffers has this text at an offset of a segment.
pub record StandsIn (site : SegmentPosition) (from len : ℕ) (text : List ℕ) (bs : List BufferAt) : Type 0 where
  pub buffer : BufferAt
  pub there : Contains bs buffer
  pub begins : buffer.place ≤ site.place + from
  pub ends : site.place + from + len ≤ buffer.end
  pub behind : buffer.lid ≤ site.slot + from
  pub whole : part buffer.bytes (site.slot + from - buffer.lid) len ≡ text

pub stands_left : (site : SegmentPosition) (from len : ℕ) (text : List ℕ) (bs cs : List BufferAt) → StandsIn site from len text bs → StandsIn site from len text (bs ++ cs)
stands_left site from len text bs cs is = record { buffer = is.buffer; there = Contains-append_left bs cs is.buffer is.there; begins = is.begins; ends = is.ends; behind = is.behind; whole = is.whole }

pub stands_right : (site : SegmentPosition) (from len : ℕ) (text : List ℕ) (bs cs : List BufferAt) → StandsIn site from len text cs → StandsIn site from len text (bs ++ cs)
stands_right site from len text bs cs is = record { buffer = is.buffer; there = Contains-append_right bs cs is.buffer is.there; begins = is.begins; ends = is.ends; behind = is.behind; whole = is.whole }

-- A buffer between two offsets has what lies between them.
stands_at : (site : SegmentPosition) (bytes : List ℕ) (at end : ℕ) (own : List Reserved) (from len : ℕ) (text : List ℕ) → at ≤ from → from + len ≤ end → part bytes from len ≡ text → (bs : List BufferAt) → Contains bs (buffer_at site bytes at end own) → StandsIn site from len text bs
stands_at site bytes at end own from len text begins ends is bs there =
    let count : site.slot + from - (site.slot + at) ≡ from - at = omega arith in
    record {
      buffer = buffer_at site bytes at end own;
      there = there;
      begins = omega (arith, begins);
      ends = omega (arith, ends);
      behind = omega (arith, begins);
      whole = ap (λ n. part (bytes_between bytes at end) n len) count ∙ part-between bytes at end from len begins ends ∙ is;
    }

-- a buffer that has an open one isn't written
unwritten : (from : ℕ) (own : List Reserved) (b : Sealed) (i : ℕ) (r : Reserved) → IsSealed from own b → slice_get own i ≡ Some r → r.state ≡ Open → b.is_written ≡ false
unwritten from own b i r is there open_yet = by_test b.is_written refl where
  by_test : (o : Bool) → b.is_written ≡ o → b.is_written ≡ false
  by_test false w = w
  by_test true w = absurd (let none = is.ended w in let some = own_open from own b i r is there open_yet in omega (arith, none, some))

-- one of the others has it
stands_later : (site : SegmentPosition) (from len : ℕ) (text : List ℕ) (o : Bool) (x : BufferAt) (bs : List BufferAt) → StandsIn site from len text bs → StandsIn site from len text (if o then bs else x ∷ bs)
stands_later site from len text true x bs is = is
stands_later site from len text false x bs is = stands_right site from len text (x ∷ []) bs is

-- Where these bytes have a text at a reservation that was open, a buffer has it: the sealed one that the reservation is of, whatever is sealed behind it,
pub sealed_stands : (site : SegmentPosition) (bytes : List ℕ) (r : Reserved) (text : List ℕ) → part bytes r.from r.len ≡ text → r.state ≡ Open → (from i : ℕ) (rs : List Reserved) (bs : List Sealed) → AreSealed from rs bs → slice_get rs i ≡ Some r → i < sealed_count bs
    → (more : List Sealed) (now : List Reserved) → StandsIn site r.from r.len text (unwritten_in site bytes from (one_ended i bs ++ more) now)
sealed_stands site bytes r text is open_yet from i rs [] are there theirs more now = absurd (omega (arith, theirs))
sealed_stands site bytes r text is open_yet from i rs (b ∷ bs) are there theirs more now =
    by_test (λ above. sealed_stands site bytes r text is open_yet b.end (i - b.count) (drop b.count rs) bs are.1 (get_behind rs b.count i r above there) (omega (arith, theirs, above)) more (drop b.count now)) (nat_lt i b.count) refl
  where
    by_test : (b.count ≤ i → StandsIn site r.from r.len text (unwritten_in site bytes b.end (one_ended (i - b.count) bs ++ more) (drop b.count now))) → (o : Bool) → nat_lt i b.count ≡ o
        → StandsIn site r.from r.len text (unwritten_in site bytes from ((if o then one_fewer b ∷ bs else b ∷ one_ended (i - b.count) bs) ++ more) now)
    by_test later true test =
        let below : i < b.count = grind (arith, nat_tests, test) in
        let mine = get_front rs b.count i r below there in
        let lies = lies_in (max 20 from) b.end (take b.count rs) i r are.0.chain mine in
        let low = lies.0 in
        let one : BufferAt = buffer_at site bytes from b.end (take b.count now) in
        let others : List BufferAt = unwritten_in site bytes b.end (bs ++ more) (drop b.count now) in
        subst (λ (o : Bool). StandsIn site r.from r.len text (if o then others else one ∷ others)) (sym (unwritten from (take b.count rs) b i r are.0 mine open_yet))
        (stands_at site bytes from b.end (take b.count now) r.from r.len text (omega (arith, low)) lies.1 is (one ∷ others) (in_first one others))
    by_test later false test =
        let above : b.count ≤ i = grind (arith, nat_tests, test) in
        stands_later site r.from r.len text b.is_written (buffer_at site bytes from b.end (take b.count now)) (unwritten_in site bytes b.end (one_ended (i - b.count) bs ++ more) (drop b.count now)) (later above)

-- or the one that is sealed last, where it lies in that.
pub last_stands : (site : SegmentPosition) (bytes : List ℕ) (at len : ℕ) (text : List ℕ) → part bytes at len ≡ text → (from : ℕ) (bs : List Sealed) (c : Sealed) → c.is_written ≡ false → sealed_end from bs ≤ at → at + len ≤ c.end
    → (now : List Reserved) → StandsIn site at len text (unwritten_in site bytes from (bs ++ c ∷ []) now)
last_stands site bytes at len text is from [] c fresh low high now =
    let one : BufferAt = buffer_at site bytes from c.end (take c.count now) in
    subst (λ (o : Bool). StandsIn site at len text (if o then [] else one ∷ [])) (sym fresh) (stands_at site bytes from c.end (take c.count now) at len text low high is (one ∷ []) (in_first one []))
last_stands site bytes at len text is from (b ∷ bs) c fresh low high now =
    stands_later site at len text b.is_written (buffer_at site bytes from b.end (take b.count now)) (unwritten_in site bytes b.end (bs ++ c ∷ []) (drop b.count now)) (last_stands site bytes at len text is b.end bs c fresh low high (drop b.count now))
