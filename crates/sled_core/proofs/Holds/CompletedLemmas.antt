-- A reservation that is completed becomes a message of the history that a log holds, at its place; one that is aborted leaves the history as it was. No other one is touched.
use Rattle.sled_core.proofs.Reserve.WrittenOver as over
use Rattle.sled_core.proofs.Reserve.WrittenOver.{batches_ended}
use Rattle.sled_core.specs.inside.Recoverable.{NoBatchEnds}
use Rattle.sled_core.proofs.Reserve.RecordEnds.{no_end_in, records_ended}
use Rattle.std.proofs.Common.{◌≡◌, ◌≢◌, ◌≤◌, ◌<◌, ◌+◌, ◌/◌, inl, inr, ℕ, suc, max, List, ◌∷◌, ◌++◌, length, take, drop, set, sym, ◌∙◌, ap, arith, refl, subst, false, append_assoc, Option, None, Some, get_or, ◌-◌, is_some}
use Rattle.std.specs.List.{All, Contains, slice_get}
use Rattle.std.specs.declared.io.Error.{Error as IoError}
use Rattle.std.proofs.lemmas.List.{set_split}
use Rattle.std.proofs.lemmas.Option.{slice_get_within}
use Rattle.std.proofs.lemmas.List.Elements.{Contains-append_cases, All-contains}
use Rattle.sled_codec.specs.Written.{written}
use Rattle.sled_codec.specs.declared.serialization.message.MessageKind.{MessageKind}
use Rattle.sled_codec.specs.declared.serialization.message.MessageKind.TheVariants as kind
use Rattle.sled_codec.specs.History.{Message, History, AddsMessage}
use Rattle.sled_codec.specs.Kinds.{code_of}
use Rattle.sled_codec.specs.Places.{part}
use Rattle.sled_store.specs.Device.{LogState, State}
use Rattle.sled_core.specs.declared.iobuf.ReservationState.{ReservationState}
use Rattle.sled_core.specs.declared.iobuf.ReservationState.TheVariants.{Open, Completed, Canceled, Manifest, Padding}
use Rattle.sled_core.specs.declared.iobuf.Reserved.{Reserved}
use Rattle.sled_core.specs.declared.iobuf.Sealed.{Sealed}
use Rattle.sled_core.specs.declared.iobuf.SegmentPosition.{SegmentPosition}
use Rattle.sled_core.specs.inside.Buffers.{records_end, batches_in, IsChain, completed_in, with_own, ending, completing, canceling, ended, HasText, Stands, StandsReserved}
use Rattle.sled_core.specs.Buffers.{body_in, message_in, open_state, item_as}
use Rattle.sled_core.specs.inside.Fits.{log_parts, HoldsSegment}
use Rattle.sled_core.specs.Fits.{IsOnDevice}
use Rattle.sled_core.proofs.Reached.BufferPath.{mark_same}
use Rattle.sled_core.proofs.Reserve.Ranges.{part-written_before, length-written, completed-same, completed-append, completed_between, chain-split, chain-joined, chain_grows, chain_within, there_split, all_split, all_joined, at_there, there-set_other, chain_apart}
use Rattle.sled_core.specs.Manifests.{is_manifest}
use Rattle.sled_core.proofs.Reserve.CompletesLemmas.{changes_page, kind_of_message, body_before, same_before, body_behind, same_behind, body_own, completed_stands, canceled_stands, fits}
use Rattle.sled_core.proofs.Reserve.Entries.{completed_plain, in_reserved, open_plain, reserved_in, some_long}
use Rattle.sled_core.proofs.Holds.HoldsLemmas.{completed_open}
use Rattle.sled_core.proofs.Holds.BatchLemmas.{same_batched}
use Rattle.sled_core.specs.inside.SealedBuffers.{AreSealed, Laid, one_ended}
use Rattle.sled_core.proofs.Sealed.LaidCalls.{laid_over}

module _ (sum : List ℕ → ℕ) (size : ℕ) (site : SegmentPosition) (device : State) (fault : Option IoError) (bytes : List ℕ) (from : ℕ) (bs : List Sealed) (xs ys : List Reserved) (r : Reserved) (H : History)
    {stays : Message → Type 0} (holds : HoldsSegment sum (log_parts size site device fault bytes from bs (xs ++ r ∷ ys)) stays H) (is_open : r.state ≡ Open) (behind : from ≤ length bytes) where
  abbrev number : ℕ
  number = site.place / size

  stand_all : All (Stands sum size number bytes) xs × Stands sum size number bytes r × All (Stands sum size number bytes) ys
  stand_all = all_split (Stands sum size number bytes) xs ys r holds.records.stand

  its : StandsReserved sum size number bytes r
  its = reserved_in sum size number bytes r (open_plain r.state is_open) stand_all.1

  chains : IsChain (max 20 from) xs r.from × IsChain (r.from + r.len) ys (length bytes)
  chains = chain-split (max 20 from) (length bytes) xs ys r holds.records.chain

  in_front : All (λ x. (max 20 from ≤ x.from) × (x.from + x.len ≤ r.from)) xs
  in_front = chain_within (max 20 from) r.from xs chains.0

  after_it : All (λ x. (r.from + r.len ≤ x.from) × (x.from + x.len ≤ length bytes)) ys
  after_it = chain_within (r.from + r.len) (length bytes) ys chains.1

  begins : max 20 from ≤ r.from
  begins = chain_grows (max 20 from) r.from xs chains.0

  ends : r.from + r.len ≤ length bytes
  ends = chain_grows (r.from + r.len) (length bytes) ys chains.1

  old_messages : H.messages ≡ holds.records.earlier ++ (completed_in site bytes xs ++ completed_in site bytes ys)
  old_messages =
      holds.records.messages
      ∙ ap (λ (ms : List Message). holds.records.earlier ++ ms) (completed-append site bytes xs (r ∷ ys) ∙ ap (λ (ms : List Message). completed_in site bytes xs ++ ms) (completed_open site bytes r ys is_open))

  -- It has ended with a sum and a kind.
  module _ (word : ℕ) (k : MessageKind) (state : ReservationState) (plain : state ≢ Padding) (own : HasText sum number (written bytes r.from (ending word k)) (ended state r)) where
    abbrev new : List ℕ
    new = written bytes r.from (ending word k)

    stand_new : All (Stands sum size number new) (xs ++ ended state r ∷ ys)
    stand_new = all_joined (Stands sum size number new) xs ys (ended state r)
        (λ j d lt. let b = in_front j d lt in same_before sum number bytes r ends its.text word k size (get_or xs j d) b.1 (stand_all.0 j d lt))
        (in_reserved sum size number new (ended state r) plain (record { room = its.room; text = own }))
        (λ j d lt. let b = after_it j d lt in same_behind sum number bytes r ends its.text word k size (get_or ys j d) b.0 (stand_all.2 j d lt))

    -- a message before it stands in the same bytes
    front_same : (j : ℕ) (d : Reserved) → j < length xs → (get_or xs j d).state ≡ Completed → body_in new (get_or xs j d) ≡ body_in bytes (get_or xs j d)
    front_same j d lt done =
        let x : Reserved = get_or xs j d in
        let b = in_front j d lt in
        let stands = reserved_in sum size number bytes x (completed_plain x.state done) (stand_all.0 j d lt) in
        body_before sum number bytes r ends its.text word k x b.1 stands.text.long

    -- the messages of the others are as they were
    messages_new : completed_in site new (xs ++ ended state r ∷ ys) ≡ completed_in site bytes xs ++ with_own state (message_in site bytes r) (completed_in site bytes ys)
    messages_new =
        let front : completed_in site new xs ≡ completed_in site bytes xs = completed-same site bytes new xs front_same in
        let back : completed_in site new ys ≡ completed_in site bytes ys = completed-same site bytes new ys (λ j d lt done. let b = after_it j d lt in body_behind sum number bytes r ends its.text word k (get_or ys j d) b.0) in
        let own_is : message_in site new (ended state r) ≡ message_in site bytes r = ap (λ (l : List ℕ). record (message_in site bytes r) { bytes = item_as r.blob l }) (body_own sum number bytes r ends its.text word k) in
        completed-append site new xs (ended state r ∷ ys) ∙ (λ i. front i ++ with_own state (own_is i) (back i))

    -- A history is held that has them, and its own message where it was completed.
    holds_new : (bs' : List Sealed) (H' : History) → H'.messages ≡ holds.records.earlier ++ (completed_in site bytes xs ++ with_own state (message_in site bytes r) (completed_in site bytes ys)) → H'.batches ≡ H.batches → (state ≡ Manifest → ⊥)
        → {stays' : Message → Type 0} → (fault ≡ None → IsOnDevice sum size device.log site from holds.records.earlier stays')
        → (fault ≡ None → Laid device.log.bytes site.slot new from bs' size) → HoldsSegment sum (log_parts size site device fault new from bs' (xs ++ ended state r ∷ ys)) stays' H'
    holds_new bs' H' messages same no_batch on_device laid =
        let fit = fits sum number bytes r ends its.text word k in
        let long : length new ≡ length bytes = length-written bytes (ending word k) r.from fit in
        let short_end : length (ending word k) ≤ r.len = (let h = its.text.headed in let l = its.text.long in omega (arith, h, l)) in
        record {
          records = record {
            earlier = holds.records.earlier;
            messages = messages ∙ ap (λ (ms : List Message). holds.records.earlier ++ ms) (sym messages_new);
            below = holds.records.below;
            apart = holds.records.apart;
            batched = same_batched size site from (batches_in site bytes (xs ++ r ∷ ys)) (batches_in site new (xs ++ ended state r ∷ ys)) H.batches H'.batches
                (batches_ended sum number bytes (ending word k) r short_end ends size (max 20 from) (length bytes) xs ys holds.records.chain holds.records.stand site state (λ was. let both : Open ≡ Manifest = sym is_open ∙ was in cc) no_batch) same holds.records.batched;
            no_end = no_end_in H H' (site.place + records_end (xs ++ ended state r ∷ ys) (length new)) (site.place + size) same
                (subst (λ n. NoBatchEnds H (site.place + n) (site.place + size)) (sym (ap (records_end (xs ++ ended state r ∷ ys)) long ∙ records_ended xs ys r state (length bytes) is_open plain)) holds.records.no_end);
            place_begins = holds.records.place_begins;
            slot_begins = holds.records.slot_begins;
            header = λ first. let m = holds.records.header first in record { mark = m.mark; is = part-written_before bytes (ending word k) r.from 0 20 (omega (arith, begins)) fit ∙ m.is; of_history = mark_same H H' (record { place = site.place; slot = site.slot; mark = m.mark }) same m.of_history };
            chain = subst (λ n. IsChain (max 20 from) (xs ++ ended state r ∷ ys) n) (sym long) (chain-joined (max 20 from) (length bytes) xs ys (ended state r) chains.0 chains.1);
            stand = stand_new;
          };
          written = on_device;
          laid = laid;
        }

  -- Completed, its message is added.

  abbrev history : History
  history = record { messages = (holds.records.earlier ++ completed_in site bytes xs) ++ message_in site bytes r ∷ completed_in site bytes ys; batches = H.batches }

  lower : (x : Message) → Contains (holds.records.earlier ++ completed_in site bytes xs) x → x.place < site.place + r.from
  lower x there = elim (Contains-append_cases holds.records.earlier (completed_in site bytes xs) x there) [
    | inl early ↦ (let b = All-contains (λ m. (m.place < site.place + from) × (m.place + m.size ≤ site.place + from)) holds.records.earlier x holds.records.below early in omega (arith, b.0, begins))
    | inr late ↦ (All-contains (λ m. (site.place + max 20 from ≤ m.place) × (m.place < site.place + r.from) × (m.place + m.size ≤ site.place + r.from)) (completed_in site bytes xs) x (completed_between site bytes (max 20 from) r.from xs chains.0 (some_long sum size number bytes xs stand_all.0)) late).1
  ]

  higher : (x : Message) → Contains (completed_in site bytes ys) x → site.place + r.from < x.place
  higher x there =
      let b = All-contains (λ m. (site.place + (r.from + r.len) ≤ m.place) × (m.place < site.place + length bytes) × (m.place + m.size ≤ site.place + length bytes)) (completed_in site bytes ys) x (completed_between site bytes (r.from + r.len) (length bytes) ys chains.1 (some_long sum size number bytes ys stand_all.2)) there in
      let at_r = its.text in let h = at_r.headed in let l = at_r.long in
      omega (arith, b.0, h, l)

  adds : is_manifest r.log_kind r.page ≡ false → AddsMessage H (message_in site bytes r) history
  adds none = record {
    changes = changes_page r.log_kind r.page (is_some r.blob) r.kind (kind_of_message r.log_kind r.page (is_some r.blob) (length (body_in bytes r)) r.kind its.text.known none);
    before = holds.records.earlier ++ completed_in site bytes xs;
    after = completed_in site bytes ys;
    old = old_messages ∙ sym (append_assoc holds.records.earlier (completed_in site bytes xs) (completed_in site bytes ys));
    new = refl;
    lower = lower;
    higher = higher;
    batches = refl;
  }

  holds_completed : is_manifest r.log_kind r.page ≡ false → (bs' : List Sealed) → (fault ≡ None → Laid device.log.bytes site.slot (written bytes r.from (completing r)) from bs' size)
      → (stays' : Message → Type 0) → (fault ≡ None → IsOnDevice sum size device.log site from holds.records.earlier stays')
      → HoldsSegment sum (log_parts size site device fault (written bytes r.from (completing r)) from bs' (xs ++ ended Completed r ∷ ys)) stays' history
  holds_completed none bs' laid stays' on = holds_new r.sum r.kind Completed (λ same. cc) (completed_stands sum number bytes r ends its.text is_open none) bs' history
      (append_assoc holds.records.earlier (completed_in site bytes xs) (message_in site bytes r ∷ completed_in site bytes ys)) refl (λ is. cc) on laid

  -- Aborted, nothing is.

  canceled_there : HasText sum number (written bytes r.from (canceling sum bytes r)) (ended Canceled r)
  canceled_there = canceled_stands sum number bytes r ends its.text is_open

  holds_canceled : (bs' : List Sealed) → (fault ≡ None → Laid device.log.bytes site.slot (written bytes r.from (canceling sum bytes r)) from bs' size)
      → HoldsSegment sum (log_parts size site device fault (written bytes r.from (canceling sum bytes r)) from bs' (xs ++ ended Canceled r ∷ ys)) stays H
  holds_canceled bs' laid = holds_new (sum (body_in bytes r ++ code_of kind.Canceled ∷ part bytes (r.from + 5) (r.header_len - 5))) kind.Canceled Canceled (λ same. cc) canceled_there bs' H old_messages refl (λ is. cc) holds.written laid

-- What is on the device stands there beside messages of earlier segments of which each stayed before.
fewer_stay : (sum : List ℕ → ℕ) (size : ℕ) (device : LogState) (site : SegmentPosition) (from : ℕ) (earlier : List Message) (stays stays' : Message → Type 0) → ((x : Message) → x.place < site.place → stays' x → stays x)
    → IsOnDevice sum size device site from earlier stays → IsOnDevice sum size device site from earlier stays'
fewer_stay sum size device site from earlier stays stays' fewer on = record {
  log = on.log;
  settled = on.settled;
  file = record { own = on.file.own; elsewhere = λ x there low. on.file.elsewhere x (fewer x low there) low; begun = on.file.begun; header = on.file.header };
}

-- A segment holds what it held beside fewer of them.
pub segment-fewer : (sum : List ℕ → ℕ) (size : ℕ) (site : SegmentPosition) (device : State) (fault : Option IoError) (bytes : List ℕ) (from : ℕ) (bs : List Sealed) (rs : List Reserved) (H : History) (stays stays' : Message → Type 0)
    → ((x : Message) → x.place < site.place → stays' x → stays x) → HoldsSegment sum (log_parts size site device fault bytes from bs rs) stays H → HoldsSegment sum (log_parts size site device fault bytes from bs rs) stays' H
segment-fewer sum size site device fault bytes from bs rs H stays stays' fewer holds = record {
  records = holds.records;
  written = λ ok. fewer_stay sum size device.log site from holds.records.earlier stays stays' fewer (holds.written ok);
  laid = holds.laid;
}

-- Once an open reservation has ended, the log file has of the sealed buffers what it had.
laid_ends : (sum : List ℕ → ℕ) (size : ℕ) (site : SegmentPosition) (device : State) (fault : Option IoError) (bytes : List ℕ) (from : ℕ) (bs : List Sealed) (rs : List Reserved) (i : ℕ) (r : Reserved) (H : History)
    → {stays : Message → Type 0} → HoldsSegment sum (log_parts size site device fault bytes from bs rs) stays H → slice_get rs i ≡ Some r → r.state ≡ Open → AreSealed from rs bs → (word : ℕ) (k : MessageKind) (state : ReservationState) → open_state state ≡ false
    → Laid device.log.bytes site.slot bytes from bs size → Laid device.log.bytes site.slot (written bytes r.from (ending word k)) from (one_ended i bs) size
laid_ends sum size site device fault bytes from bs rs i r H holds there is_open are word k state closed laid =
    let stands : HasText sum (site.place / size) bytes r = (reserved_in sum size (site.place / size) bytes r (open_plain r.state is_open) (at_there (Stands sum size (site.place / size) bytes) rs i r there holds.records.stand)).text in
    let inside = at_there (λ z. (max 20 from ≤ z.from) × (z.from + z.len ≤ length bytes)) rs i r there (chain_within (max 20 from) (length bytes) rs holds.records.chain) in
    let headed = stands.headed in let long = stands.long in
    laid_over device.log.bytes site.slot bytes from bs size rs i r (ending word k) state closed there is_open (omega (arith, headed, long)) inside.1 holds.records.chain are laid

-- The message of a reservation lies behind what was written.
pub behind_written : (sum : List ℕ → ℕ) (size : ℕ) (site : SegmentPosition) (device : State) (fault : Option IoError) (bytes : List ℕ) (from : ℕ) (bs : List Sealed) (rs : List Reserved) (i : ℕ) (r : Reserved) (H : History)
    → {stays : Message → Type 0} → HoldsSegment sum (log_parts size site device fault bytes from bs rs) stays H → slice_get rs i ≡ Some r → site.place + from ≤ (message_in site bytes r).place
behind_written sum size site device fault bytes from bs rs i r H holds there =
    let inside = at_there (λ z. (max 20 from ≤ z.from) × (z.from + z.len ≤ length bytes)) rs i r there (chain_within (max 20 from) (length bytes) rs holds.records.chain) in
    omega (arith, inside.0)

-- It lies behind the header of its segment.
pub behind_head : (sum : List ℕ → ℕ) (size : ℕ) (site : SegmentPosition) (device : State) (fault : Option IoError) (bytes : List ℕ) (from : ℕ) (bs : List Sealed) (rs : List Reserved) (i : ℕ) (r : Reserved) (H : History)
    → {stays : Message → Type 0} → HoldsSegment sum (log_parts size site device fault bytes from bs rs) stays H → slice_get rs i ≡ Some r → site.place + 20 ≤ (message_in site bytes r).place
behind_head sum size site device fault bytes from bs rs i r H holds there =
    let inside = at_there (λ z. (max 20 from ≤ z.from) × (z.from + z.len ≤ length bytes)) rs i r there (chain_within (max 20 from) (length bytes) rs holds.records.chain) in
    omega (arith, inside.0)

-- And it begins in front of the end of the bytes.
pub ends_within : (sum : List ℕ → ℕ) (size : ℕ) (site : SegmentPosition) (device : State) (fault : Option IoError) (bytes : List ℕ) (from : ℕ) (bs : List Sealed) (rs : List Reserved) (i : ℕ) (r : Reserved) (H : History)
    → {stays : Message → Type 0} → HoldsSegment sum (log_parts size site device fault bytes from bs rs) stays H → slice_get rs i ≡ Some r → r.state ≡ Open → (message_in site bytes r).place < site.place + length bytes
ends_within sum size site device fault bytes from bs rs i r H holds there is_open =
    let inside = at_there (λ z. (max 20 from ≤ z.from) × (z.from + z.len ≤ length bytes)) rs i r there (chain_within (max 20 from) (length bytes) rs holds.records.chain) in
    let stands : HasText sum (site.place / size) bytes r = (reserved_in sum size (site.place / size) bytes r (open_plain r.state is_open) (at_there (Stands sum size (site.place / size) bytes) rs i r there holds.records.stand)).text in
    let headed = stands.headed in let long = stands.long in
    omega (arith, inside.1, headed, long)

-- The message of an open reservation is added at its place, and the segment holds that, beside messages of earlier segments of which each stayed before.
pub segment-complete : (sum : List ℕ → ℕ) (size : ℕ) (site : SegmentPosition) (device : State) (fault : Option IoError) (bytes : List ℕ) (from : ℕ) (bs : List Sealed) (rs : List Reserved) (i : ℕ) (r : Reserved) (H : History)
    → {stays : Message → Type 0} → HoldsSegment sum (log_parts size site device fault bytes from bs rs) stays H → slice_get rs i ≡ Some r → r.state ≡ Open → from ≤ length bytes → AreSealed from rs bs → is_manifest r.log_kind r.page ≡ false
    → (H' : History) × AddsMessage H (message_in site bytes r) H' × ((stays' : Message → Type 0) → ((x : Message) → x.place < site.place → stays' x → stays x)
    → HoldsSegment sum (log_parts size site device fault (written bytes r.from (completing r)) from (one_ended i bs) (set rs i (ended Completed r))) stays' H')
segment-complete sum size site device fault bytes from bs rs i r H {stays} holds there is_open behind are none =
    let xs : List Reserved = take i rs in
    let ys : List Reserved = drop (suc i) rs in
    let around : rs ≡ xs ++ r ∷ ys = there_split rs i r there in
    let holds' : HoldsSegment sum (log_parts size site device fault bytes from bs (xs ++ r ∷ ys)) stays H = subst (λ (l : List Reserved). HoldsSegment sum (log_parts size site device fault bytes from bs l) stays H) around holds in
    let set_is : set rs i (ended Completed r) ≡ xs ++ ended Completed r ∷ ys = set_split rs i (ended Completed r) (slice_get_within rs i r there) in (
      history sum size site device fault bytes from bs xs ys r H holds' is_open behind,
      adds sum size site device fault bytes from bs xs ys r H holds' is_open behind none,
      λ stays' fewer. subst (λ (l : List Reserved). HoldsSegment sum (log_parts size site device fault (written bytes r.from (completing r)) from (one_ended i bs) l) stays' (history sum size site device fault bytes from bs xs ys r H holds' is_open behind)) (sym set_is)
          (holds_completed sum size site device fault bytes from bs xs ys r H holds' is_open behind none (one_ended i bs)
          (λ ok. laid_ends sum size site device fault bytes from bs rs i r H holds there is_open are r.sum r.kind Completed refl (holds.laid ok))
          stays' (λ ok. fewer_stay sum size device.log site from holds'.records.earlier stays stays' fewer (holds'.written ok))),
    )

-- An open reservation that is aborted leaves the history as it was, and the segment holds that.
pub segment-cancel : (sum : List ℕ → ℕ) (size : ℕ) (site : SegmentPosition) (device : State) (fault : Option IoError) (bytes : List ℕ) (from : ℕ) (bs : List Sealed) (rs : List Reserved) (i : ℕ) (r : Reserved) (H : History)
    → {stays : Message → Type 0} → HoldsSegment sum (log_parts size site device fault bytes from bs rs) stays H → slice_get rs i ≡ Some r → r.state ≡ Open → from ≤ length bytes → AreSealed from rs bs
    → HoldsSegment sum (log_parts size site device fault (written bytes r.from (canceling sum bytes r)) from (one_ended i bs) (set rs i (ended Canceled r))) stays H
segment-cancel sum size site device fault bytes from bs rs i r H {stays} holds there is_open behind are =
    let xs : List Reserved = take i rs in
    let ys : List Reserved = drop (suc i) rs in
    let around : rs ≡ xs ++ r ∷ ys = there_split rs i r there in
    let holds' : HoldsSegment sum (log_parts size site device fault bytes from bs (xs ++ r ∷ ys)) stays H = subst (λ (l : List Reserved). HoldsSegment sum (log_parts size site device fault bytes from bs l) stays H) around holds in
    let set_is : set rs i (ended Canceled r) ≡ xs ++ ended Canceled r ∷ ys = set_split rs i (ended Canceled r) (slice_get_within rs i r there) in
    subst (λ (l : List Reserved). HoldsSegment sum (log_parts size site device fault (written bytes r.from (canceling sum bytes r)) from (one_ended i bs) l) stays H) (sym set_is) (holds_canceled sum size site device fault bytes from bs xs ys r H holds' is_open behind (one_ended i bs)
    (λ ok. laid_ends sum size site device fault bytes from bs rs i r H holds there is_open are (sum (body_in bytes r ++ code_of kind.Canceled ∷ part bytes (r.from + 5) (r.header_len - 5))) kind.Canceled Canceled refl (holds.laid ok)))

-- Every other reservation stays where it is, for the same message.
pub others_stay : (sum : List ℕ → ℕ) (size : ℕ) (site : SegmentPosition) (device : State) (fault : Option IoError) (bytes : List ℕ) (from : ℕ) (bs : List Sealed) (rs : List Reserved) (i j : ℕ) (r x : Reserved) (H : History) (text : List ℕ) (state : ReservationState) → length text ≤ r.len
    → {stays : Message → Type 0} → HoldsSegment sum (log_parts size site device fault bytes from bs rs) stays H → slice_get rs i ≡ Some r → r.state ≡ Open → slice_get rs j ≡ Some x → x.state ≡ Open → (x.from ≡ r.from → ⊥)
    → (slice_get (set rs i (ended state r)) j ≡ Some x) × (message_in site (written bytes r.from text) x ≡ message_in site bytes x)
others_stay sum size site device fault bytes from bs rs i j r x H text state short holds at_i is_open at_j x_open apart =
    let number : ℕ = site.place / size in
    let at_x : HasText sum number bytes x = (reserved_in sum size number bytes x (open_plain x.state x_open) (at_there (Stands sum size number bytes) rs j x at_j holds.records.stand)).text in
    let inside = at_there (λ z. (max 20 from ≤ z.from) × (z.from + z.len ≤ length bytes)) rs i r at_i (chain_within (max 20 from) (length bytes) rs holds.records.chain) in
    let body : body_in (written bytes r.from text) x ≡ body_in bytes x =
    elim (chain_apart (max 20 from) (length bytes) rs i j r x holds.records.chain at_i at_j apart) [
      | inl before ↦ over.body_before sum number bytes text r short inside.1 x before at_x.long
      | inr behind ↦ over.body_behind sum number bytes text r short inside.1 x behind
    ] in (
      there-set_other rs i j r x (ended state r) at_i at_j (λ same. apart (sym (ap (λ (z : Reserved). z.from) same))),
      ap (λ (l : List ℕ). record (message_in site bytes x) { bytes = item_as x.blob l }) body,
    )
