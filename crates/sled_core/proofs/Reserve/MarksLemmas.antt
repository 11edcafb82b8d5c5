-- The manifest of a batch that ends has its record at its place, with the peg as its body, and no other reservation is touched.
use Rattle.std.proofs.Common.{◌≡◌, ◌≤◌, ◌<◌, ◌+◌, ◌-◌, ◌^◌, ◌==◌, ℕ, Bool, true, false, if◌then◌else◌, None, Some, List, [], ◌∷◌, ◌++◌, length, drop, sym, ◌∙◌, ap, arith, refl, subst, rules, append_assoc, length-append, length-take, length-drop, not, Option, is_some, ℤ, ◌&&◌}
use Rattle.std.specs.List.{All}
use Rattle.std.proofs.lemmas.Bool.Decides.{nat_tests}
use Rattle.std.proofs.lemmas.List.{append-nil, drop_all, same_lists, places}
use Rattle.sled_codec.specs.declared.serialization.message.LogKind.{LogKind}
use Rattle.sled_codec.specs.declared.serialization.message.MessageKind.{MessageKind}
use Rattle.sled_codec.specs.declared.serialization.message.MessageKind.TheVariants as kind
use Rattle.sled_codec.specs.History.{Batch, Message}
use Rattle.sled_codec.specs.Kinds.{code_of, kind_written}
use Rattle.sled_codec.specs.Written.{written, written_twice}
use Rattle.sled_codec.specs.Places.{part}
use Rattle.sled_codec.specs.Record.{record_sum, short_record}
use Rattle.sled_codec.specs.Spelling.{low_bytes, low_first, short_header_tail}
use Rattle.sled_codec.specs.SpellingLaws.{length-low_bytes, low_first-low_bytes}
use Rattle.sled_codec.specs.Sums.{flipped}
use Rattle.sled_core.specs.declared.iobuf.ReservationState.{ReservationState}
use Rattle.sled_core.specs.declared.iobuf.ReservationState.TheVariants.{Open, Manifest}
use Rattle.sled_core.specs.declared.iobuf.Reserved.{Reserved}
use Rattle.sled_core.specs.declared.iobuf.SegmentPosition.{SegmentPosition}
use Rattle.sled_core.specs.inside.Buffers.{HasText, IsChain, Stands, StandsAs, batches_in, completed_in, ended, ending, ending_as, marking, text_in, with_own, SpellsBlob}
use Rattle.sled_core.specs.Buffers.{body_in, message_in}
use Rattle.sled_core.specs.Manifests.{is_manifest, kind_for}
use Rattle.sled_core.proofs.Reserve.Batches.{batches-append, batches_without}
use Rattle.sled_core.proofs.Reserve.CompletesLemmas.{tail_there}
use Rattle.sled_core.proofs.Reserve.Entries.{open_plain, reserved_in}
use Rattle.sled_core.proofs.Reserve.Ranges.{all_joined, all_split, completed-append, length-written, part-written_before, part-written_at}
use Rattle.sled_core.proofs.Reserve.WrittenOver.{batches_before, batches_behind, completed_before, completed_behind, stand_before, stand_behind}

-- what is written is there
part-written_own : (buf xs : List ℕ) (k n : ℕ) → length xs ≡ n → k + n ≤ length buf → part (written buf k xs) k n ≡ xs
part-written_own buf xs k n long fits =
    let none : drop (length xs) (part buf k n) ≡ [] = drop_all (length xs) (part buf k n) (omega (arith, long, length-take n (drop k buf))) in
    part-written_at buf xs k n (omega (arith, long)) fits ∙ ap (λ (l : List ℕ). xs ++ l) none ∙ append-nil xs

part-written_end : (buf xs ys : List ℕ) (k j n : ℕ) → j ≡ k + length xs → length ys ≡ n → j + n ≤ length buf → part (written buf k (xs ++ ys)) j n ≡ ys
part-written_end buf xs ys k j n at long fits =
    let room : k + length xs ≤ length buf = omega (arith, at, fits) in
    ap (λ (l : List ℕ). part l j n) (sym (written_twice buf k xs room ys j at))
    ∙ part-written_own (written buf k xs) ys j n long (let same = length-written buf xs k room in omega (arith, same, fits))

-- what is written at the end of a range, and then at its beginning, is as if it were written once with what lies between
written-around : (buf xs ys : List ℕ) (k n : ℕ) → length xs ≤ n → k + n + length ys ≤ length buf
    → written (written buf (k + n) ys) k xs ≡ written buf k (xs ++ part buf (k + length xs) (n - length xs) ++ ys)
written-around buf xs ys k n front fits =
    same_lists _ _ (search (rules, places)) (λ i d h. grind (arith, places))

length-part : (buf : List ℕ) (k n : ℕ) → k + n ≤ length buf → length (part buf k n) ≡ n
length-part buf k n fits = omega (arith, fits, length-take n (drop k buf), length-drop k buf)

-- The record of a reservation with another body.
module _ (sum : List ℕ → ℕ) (bytes : List ℕ) (r : Reserved) (body : List ℕ) where
  -- what stands between its kind and its body
  abbrev between : List ℕ
  between = part bytes (r.from + 5) (r.header_len - 5)

  abbrev word : ℕ
  word = sum (body ++ code_of r.kind ∷ between)

  abbrev whole : List ℕ
  whole = ending word r.kind ++ between ++ body

  module _ (headed : 5 ≤ r.header_len) (long : r.len ≡ r.header_len + length body) (within : r.from + r.len ≤ length bytes) where
    abbrev front : List ℕ
    front = ending word r.kind ++ between

    front_long : length front ≡ r.header_len
    front_long =
        let le = length-part bytes (r.from + 5) (r.header_len - 5) (omega (arith, headed, long, within)) in
        omega (arith, headed, le, length-append (ending word r.kind) between)

    whole_long : length whole ≡ r.len
    whole_long =
        let le = front_long in
        omega (arith, long, le, length-append front body)

    body_written : body_in (written bytes r.from whole) r ≡ body
    body_written =
        let size : length body ≡ r.len - r.header_len = omega (arith, long) in
        part-written_end bytes front body r.from (r.from + r.header_len) (r.len - r.header_len) (ap (λ n. r.from + n) (sym front_long)) size (omega (arith, size, long, within))

    -- the body is put there, and then the sum and the kind of that record over its beginning
    ends_with : written (written bytes (r.from + r.header_len) body) r.from (ending_as sum (written bytes (r.from + r.header_len) body) r r.kind) ≡ written bytes r.from whole
    ends_with =
        let put : List ℕ = written bytes (r.from + r.header_len) body in
        let size : r.len - r.header_len ≡ length body = omega (arith, long) in
        let own : body_in put r ≡ body = ap (part put (r.from + r.header_len)) size ∙ part-written_own bytes body (r.from + r.header_len) (length body) refl (omega (arith, long, within)) in
        let same : part put (r.from + 5) (r.header_len - 5) ≡ between =
        part-written_before bytes body (r.from + r.header_len) (r.from + 5) (r.header_len - 5) (let le : r.from + 5 + (r.header_len - 5) ≤ r.from + r.header_len = omega (arith, headed) in le) (let fits : r.from + r.header_len + length body ≤ length bytes = omega (arith, long, within) in fits) in
        let to : r.from + r.header_len + length body ≤ length bytes = omega (arith, long, within) in
        (λ i. written put r.from (ending (sum (own i ++ code_of r.kind ∷ same i)) r.kind)) ∙ written-around bytes (ending word r.kind) body r.from r.header_len headed to

pub marking_long : (sum : List ℕ → ℕ) (bytes : List ℕ) (r : Reserved) (peg : ℕ) → 5 ≤ r.header_len → r.len ≡ r.header_len + 8 → r.from + r.len ≤ length bytes → length (marking sum bytes r peg) ≡ r.len
marking_long sum bytes r peg headed long within = whole_long sum bytes r (low_bytes 8 peg) headed long within

-- the peg is put over the body, and then the sum and the kind of that record over its beginning
pub marks : (sum : List ℕ → ℕ) (bytes : List ℕ) (r : Reserved) (peg : ℕ) → 5 ≤ r.header_len → r.len ≡ r.header_len + 8 → r.from + r.len ≤ length bytes
    → written (written bytes (r.from + r.header_len) (low_bytes 8 peg)) r.from (ending_as sum (written bytes (r.from + r.header_len) (low_bytes 8 peg)) r r.kind) ≡ written bytes r.from (marking sum bytes r peg)
marks sum bytes r peg headed long within = ends_with sum bytes r (low_bytes 8 peg) headed long within

-- the record of a manifest is of one kind, and has a body of 8 bytes
pub kind_of_manifest : (does : LogKind) (page : ℕ) (blob : Bool) (n : ℕ) (k : MessageKind) → kind_for does page blob n ≡ Some k → is_manifest does page ≡ true → (n ≡ 8) × (k ≡ kind.BatchManifest) × (blob ≡ false)
kind_of_manifest does page blob n k is manifest =
    by blob (n == 8) refl (sym (ap (λ (o : Bool). if o then (if not blob && n == 8 then Some kind.BatchManifest else None) else kind_written does page blob) manifest) ∙ is) where
      by : (b e : Bool) → (n == 8) ≡ e → (if not b && e then Some kind.BatchManifest else None) ≡ Some k → (n ≡ 8) × (k ≡ kind.BatchManifest) × (b ≡ false)
      by false true eight same = (grind (arith, nat_tests, eight), cc, refl)
      by false false eight same = cc
      by true e eight same = cc

-- what has no blob has no place of one
pub blobless : (blob : Option ℤ) → is_some blob ≡ false → blob ≡ None
blobless None is = refl
blobless (Some place) is = cc

-- A manifest that is open.
module _ (sum : List ℕ → ℕ) (number : ℕ) (bytes : List ℕ) (r : Reserved) (within : r.from + r.len ≤ length bytes) (stands : HasText sum number bytes r) (is_open : r.state ≡ Open) (manifest : is_manifest r.log_kind r.page ≡ true) where
  eight : length (body_in bytes r) ≡ 8
  eight = (kind_of_manifest r.log_kind r.page (is_some r.blob) (length (body_in bytes r)) r.kind stands.known manifest).0

  -- It has a header, and 8 bytes behind that.
  pub manifest_long : r.len ≡ r.header_len + 8
  manifest_long =
      let long = stands.long in
      let body = length-part bytes (r.from + r.header_len) (r.len - r.header_len) (omega (arith, within, long)) in
      omega (arith, eight, body, long)

  -- It ends with another body of 8 bytes.
  module _ (body : List ℕ) (as_long : length body ≡ 8) where
    abbrev new : List ℕ
    new = written bytes r.from (whole sum bytes r body)

    long : r.len ≡ r.header_len + length body
    long = manifest_long ∙ ap (λ n. r.header_len + n) (sym as_long)

    filled : length (whole sum bytes r body) ≡ r.len
    filled = whole_long sum bytes r body stands.headed long within

    same_long : length (body_in bytes r) ≡ length body
    same_long = eight ∙ sym as_long

    -- its header says how long the body is, whatever that is
    tail : code_of r.kind ∷ between sum bytes r body ≡ short_header_tail r.kind (length body) number r.page
    tail = tail_there sum number bytes r within stands is_open r.kind ∙ ap (λ n. short_header_tail r.kind n number r.page) same_long

    record_is : whole sum bytes r body ≡ short_record sum r.kind r.page number body
    unfolding short_record record_sum
    record_is =
        let low : List ℕ = low_bytes 4 (flipped (word sum bytes r body)) in
        ap (λ (l : List ℕ). l ++ body) (sym (append_assoc low (code_of r.kind ∷ []) (between sum bytes r body)))
        ∙ (λ i. low_bytes 4 (flipped (sum (body ++ tail i))) ++ tail i ++ body)

    text_ends : text_in new r ≡ short_record sum r.kind r.page number body
    text_ends = part-written_own bytes (whole sum bytes r body) r.from r.len filled within ∙ record_is

    body_ends : body_in new r ≡ body
    body_ends = body_written sum bytes r body stands.headed long within

    ends_stands : low_first body < 2 ^ 63 → HasText sum number new (ended Manifest r)
    ends_stands small =
        let as_new : StandsAs sum number (text_in new r) body (ended Manifest r) = record {
          headed = stands.headed;
          long = stands.long;
          known = ap (kind_for r.log_kind r.page (is_some r.blob)) (sym same_long) ∙ stands.known;
          names = subst (λ (o : Option ℤ). SpellsBlob o body) (sym (blobless r.blob (kind_of_manifest r.log_kind r.page (is_some r.blob) (length (body_in bytes r)) r.kind stands.known manifest).2)) tt;
          whole = λ is. cc;
          manifest = λ is. manifest;
          pegged = λ is. small;
          valid = stands.valid;
          page = stands.page;
          summed = λ is. cc;
          counted = stands.counted ∙ ap (λ n. 4 + length (short_header_tail r.kind n number r.page)) same_long;
          is = text_ends;
        } in
        subst (λ (b : List ℕ). StandsAs sum number (text_in new r) b (ended Manifest r)) (sym body_ends) as_new

  -- It ends with the peg of its batch.
  module _ (peg : ℕ) where
    abbrev marked : List ℕ
    marked = written bytes r.from (marking sum bytes r peg)

    low_long : length (low_bytes 8 peg) ≡ 8
    low_long = length-low_bytes 8 peg (omega arith)

    marks_short : length (marking sum bytes r peg) ≤ r.len
    marks_short = let is = filled (low_bytes 8 peg) low_long in omega (arith, is)

    pub marked_long : length marked ≡ length bytes
    marked_long = let le = marks_short in length-written bytes (marking sum bytes r peg) r.from (omega (arith, le, within))

    pub body_marked : body_in marked r ≡ low_bytes 8 peg
    body_marked = body_ends (low_bytes 8 peg) low_long

    -- the peg is read back
    pub peg_marked : peg < 2 ^ 64 → low_first (body_in marked r) ≡ peg
    peg_marked small = ap low_first body_marked ∙ low_first-low_bytes 8 peg (omega arith) (omega (arith, small))

    -- What stands in it is the record of a manifest that has ended.
    pub marked_stands : peg < 2 ^ 63 → HasText sum number marked (ended Manifest r)
    marked_stands small = ends_stands (low_bytes 8 peg) low_long (let is = low_first-low_bytes 8 peg (omega arith) (omega (arith, small)) in omega (arith, is, small))

    -- It lies among others.
    module _ (size from end : ℕ) (xs ys : List Reserved) (chain : IsChain from (xs ++ r ∷ ys) end) (stand : All (Stands sum size number bytes) (xs ++ r ∷ ys)) where
      its_room : r.from + 32 ≤ size
      its_room = (reserved_in sum size number bytes r (open_plain r.state is_open) (all_split (Stands sum size number bytes) xs ys r stand).1).room

      -- Each of them stands as it has to.
      pub stand_marked : peg < 2 ^ 63 → All (Stands sum size number marked) (xs ++ ended Manifest r ∷ ys)
      stand_marked small = all_joined (Stands sum size number marked) xs ys (ended Manifest r)
          (stand_before sum number bytes (marking sum bytes r peg) r marks_short within size from end xs ys chain stand)
          (record { room = its_room; text = marked_stands small })
          (stand_behind sum number bytes (marking sum bytes r peg) r marks_short within size from end xs ys chain stand)

      module _ (site : SegmentPosition) where
        -- The messages are the same.
        pub completed_marked : completed_in site marked (xs ++ ended Manifest r ∷ ys) ≡ completed_in site bytes (xs ++ r ∷ ys)
        completed_marked =
            let front = completed_before sum number bytes (marking sum bytes r peg) r marks_short within size from end xs ys chain stand site in
            let back = completed_behind sum number bytes (marking sum bytes r peg) r marks_short within size from end xs ys chain stand site in
            let none : completed_in site bytes (r ∷ ys) ≡ completed_in site bytes ys = ap (λ (s : ReservationState). with_own s (message_in site bytes r) (completed_in site bytes ys)) is_open in
            completed-append site marked xs (ended Manifest r ∷ ys) ∙ (λ i. front i ++ back i)
            ∙ sym (completed-append site bytes xs (r ∷ ys) ∙ ap (λ (ms : List Message). completed_in site bytes xs ++ ms) none)

        -- There is one batch more, between those of the others.
        pub batches_marked : peg < 2 ^ 64 → batches_in site marked (xs ++ ended Manifest r ∷ ys) ≡ batches_in site bytes xs ++ record { low = site.place + r.from; peg = peg } ∷ batches_in site bytes ys
        batches_marked small =
            let front = batches_before sum number bytes (marking sum bytes r peg) r marks_short within size from end xs ys chain stand site in
            let back = batches_behind sum number bytes (marking sum bytes r peg) r marks_short within size from end xs ys chain stand site in
            let own = peg_marked small in
            batches-append site marked xs (ended Manifest r ∷ ys) ∙ (λ i. front i ++ record { low = site.place + r.from; peg = own i } ∷ back i)

        -- those of the others are all that there were
        pub batches_unmarked : batches_in site bytes (xs ++ r ∷ ys) ≡ batches_in site bytes xs ++ batches_in site bytes ys
        batches_unmarked =
            batches-append site bytes xs (r ∷ ys)
            ∙ ap (λ (bs : List Batch). batches_in site bytes xs ++ bs) (batches_without site bytes r ys (λ is. let both : Open ≡ Manifest = sym is_open ∙ is in cc))
