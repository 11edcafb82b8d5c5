-- A reservation that ends has its record, or one that is passed over, at its place, and no other one is touched.
use Rattle.std.proofs.Common.{◌≡◌, ◌≤◌, ◌+◌, ◌-◌, inl, inr, ℕ, List, [], ◌∷◌, ◌++◌, length, take, drop, sym, ◌∙◌, ap, arith, refl, subst, Bool, false, if◌then◌else◌, ◌==◌, None, Some, not, ◌&&◌}
use Rattle.std.proofs.lemmas.List.{drop-drop, take-take, take_at}
use Rattle.sled_codec.specs.Written.{written}
use Rattle.sled_codec.specs.Places.{part}
use Rattle.sled_codec.specs.Spelling.{short_number, short_header_tail}
use Rattle.sled_codec.specs.Record.{record_sum, short_record}
use Rattle.sled_codec.specs.Sums.{flipped}
use Rattle.sled_codec.specs.declared.serialization.message.LogKind.{LogKind}
use Rattle.sled_codec.specs.declared.serialization.message.LogKind.TheVariants.{Replace, Link, Free, Skip, Corrupted}
use Rattle.sled_codec.specs.declared.serialization.message.MessageKind.{MessageKind}
use Rattle.sled_codec.specs.declared.serialization.message.MessageKind.TheVariants as kind
use Rattle.sled_codec.specs.Kinds.{kind_written, code_of}
use Rattle.sled_codec.specs.History.{ChangesPage}
use Rattle.sled_core.specs.declared.iobuf.ReservationState.{ReservationState}
use Rattle.sled_core.specs.declared.iobuf.ReservationState.TheVariants.{Open, Completed, Canceled, Manifest}
use Rattle.sled_core.specs.declared.iobuf.Reserved.{Reserved}
use Rattle.sled_core.specs.Manifests.{is_manifest, kind_for}
use Rattle.sled_core.specs.inside.Buffers.{text_in, text_as, placeholder, ending, completing, canceling, ended, HasText, Stands, StandsAs}
use Rattle.sled_core.specs.Buffers.{body_in}
use Rattle.sled_core.proofs.Reserve.Parts.{mid_is}
use Rattle.sled_core.proofs.Reserve.Ranges.{part-written_behind, part-written_at}
use Rattle.sled_core.proofs.Reserve.WrittenOver as over

-- what is no manifest is written under the kind of its message
pub kind_of_message : (does : LogKind) (page : ℕ) (blob : Bool) (n : ℕ) (k : MessageKind) → kind_for does page blob n ≡ Some k → is_manifest does page ≡ false → kind_written does page blob ≡ Some k
kind_of_message does page blob n k is none = sym (ap (λ (o : Bool). if o then (if not blob && n == 8 then Some kind.BatchManifest else None) else kind_written does page blob) none) ∙ is

-- a message that has a kind to be written under changes a page
pub changes_page : (does : LogKind) (page : ℕ) (blob : Bool) (kind : MessageKind) → kind_written does page blob ≡ Some kind → ChangesPage does
changes_page Replace page blob kind is = inl refl
changes_page Link page blob kind is = inr (inl refl)
changes_page Free page blob kind is = inr (inr refl)
changes_page Skip page blob kind is = cc
changes_page Corrupted page blob kind is = cc

-- a sum and a kind, in front of what else stands in a placeholder, make the record of that kind
record_is : (sum : List ℕ → ℕ) (number page word : ℕ) (own k : MessageKind) (body : List ℕ) → flipped word ≡ record_sum sum k page number body
    → ending word k ++ drop 5 (placeholder (short_record sum own page number body)) ≡ short_record sum k page number body
unfolding short_record short_header_tail
record_is sum number page word own k body is = rw is refl

-- what is summed of a record in which a kind stands: its body, and its header behind the sum
pub summed_around : (bytes : List ℕ) (r : Reserved) (code : ℕ) → 5 ≤ r.header_len → r.header_len ≤ r.len → r.from + r.len ≤ length bytes
    → part (written bytes (r.from + 4) (code ∷ [])) (r.from + r.header_len) (r.len - r.header_len) ++ part (written bytes (r.from + 4) (code ∷ [])) (r.from + 4) (r.header_len - 4)
    ≡ body_in bytes r ++ code ∷ part bytes (r.from + 5) (r.header_len - 5)
summed_around bytes r code headed long within =
    let new : List ℕ = written bytes (r.from + 4) (code ∷ []) in
    let behind : List ℕ = drop (r.from + 4) bytes in
    let body : part new (r.from + r.header_len) (r.len - r.header_len) ≡ body_in bytes r =
    part-written_behind bytes (code ∷ []) (r.from + 4) (r.from + r.header_len) (r.len - r.header_len) (omega arith) (omega arith) in
    let tail : part new (r.from + 4) (r.header_len - 4) ≡ code ∷ part bytes (r.from + 5) (r.header_len - 5) =
    part-written_at bytes (code ∷ []) (r.from + 4) (r.header_len - 4) (omega arith) (omega arith)
    ∙ ap (λ (l : List ℕ). code ∷ l) (
    sym (mid_is behind 1 (r.header_len - 4) (omega arith)) ∙ ap (take (r.header_len - 4 - 1)) (drop-drop 1 (r.from + 4) bytes)
    ∙ ap (λ i. part bytes i (r.header_len - 4 - 1)) (let at : r.from + 4 + 1 ≡ r.from + 5 = omega arith in at) ∙ ap (part bytes (r.from + 5)) (let count : r.header_len - 4 - 1 ≡ r.header_len - 5 = omega arith in count)) in
    λ i. body i ++ tail i

-- A sum and a kind are written over the beginning of what stands in a reservation.
module _ (sum : List ℕ → ℕ) (number : ℕ) (bytes : List ℕ) (r : Reserved) (within : r.from + r.len ≤ length bytes) (stands : HasText sum number bytes r) where
  abbrev body : List ℕ
  body = body_in bytes r

  module _ (word : ℕ) (k : MessageKind) where
    abbrev new : List ℕ
    new = written bytes r.from (ending word k)

    short : length (ending word k) ≤ r.len
    short = let a = stands.headed in let b = stands.long in omega (arith, a, b)

    pub fits : r.from + length (ending word k) ≤ length bytes
    fits = let le = short in omega (arith, le, within)

    -- one before it
    pub body_before : (x : Reserved) → x.from + x.len ≤ r.from → x.header_len ≤ x.len → body_in new x ≡ body_in bytes x
    body_before = over.body_before sum number bytes (ending word k) r short within

    pub same_before : (size : ℕ) (x : Reserved) → x.from + x.len ≤ r.from → Stands sum size number bytes x → Stands sum size number new x
    same_before = over.same_before sum number bytes (ending word k) r short within

    -- one behind it
    pub body_behind : (x : Reserved) → r.from + r.len ≤ x.from → body_in new x ≡ body_in bytes x
    body_behind = over.body_behind sum number bytes (ending word k) r short within

    pub same_behind : (size : ℕ) (x : Reserved) → r.from + r.len ≤ x.from → Stands sum size number bytes x → Stands sum size number new x
    same_behind = over.same_behind sum number bytes (ending word k) r short within

    -- its own body
    pub body_own : body_in new r ≡ body
    body_own = let a = stands.headed in part-written_behind bytes (ending word k) r.from (r.from + r.header_len) (r.len - r.header_len) (omega (arith, a)) fits

  module _ (is_open : r.state ≡ Open) where
    placeholder_is : text_in bytes r ≡ placeholder (short_record sum r.kind r.page number body)
    placeholder_is = stands.is ∙ ap (text_as sum r.kind r.page number body) is_open

    -- with the sum of a record of a kind, that record stands in it
    text_own : (word : ℕ) (k : MessageKind) → flipped word ≡ record_sum sum k r.page number body → text_in (written bytes r.from (ending word k)) r ≡ short_record sum k r.page number body
    text_own word k summed =
        let a = stands.headed in let b = stands.long in
        part-written_at bytes (ending word k) r.from r.len (omega (arith, a, b)) within
        ∙ ap (λ (l : List ℕ). ending word k ++ drop 5 l) placeholder_is
        ∙ record_is sum number r.page word r.kind k body summed

    ended_stands : (word : ℕ) (k : MessageKind) (state : ReservationState) → (state ≡ Completed → is_manifest r.log_kind r.page ≡ false) → (state ≡ Manifest → ⊥) → text_in (written bytes r.from (ending word k)) r ≡ text_as sum r.kind r.page number body state
        → HasText sum number (written bytes r.from (ending word k)) (ended state r)
    ended_stands word k state whole not_manifest text =
        let completed : List ℕ = written bytes r.from (ending word k) in
        let as_new : StandsAs sum number (text_in completed r) body (ended state r) = record {
          headed = stands.headed;
          long = stands.long;
          known = stands.known;
          names = stands.names;
          whole = whole;
          manifest = λ is. absurd (not_manifest is);
          pegged = λ is. absurd (not_manifest is);
          valid = stands.valid;
          page = stands.page;
          summed = λ _. stands.summed is_open;
          counted = stands.counted;
          is = text;
        } in
        subst (λ (b : List ℕ). StandsAs sum number (text_in completed r) b (ended state r)) (sym (body_own word k)) as_new

    -- What stands in it once it is completed is its record.
    pub completed_stands : is_manifest r.log_kind r.page ≡ false → HasText sum number (written bytes r.from (completing r)) (ended Completed r)
    completed_stands none = ended_stands r.sum r.kind Completed (λ is. none) (λ is. cc) (text_own r.sum r.kind (stands.summed is_open))

    -- between its kind and its body stands what the header has there, whatever its kind
    pub tail_there : (k : MessageKind) → code_of k ∷ part bytes (r.from + 5) (r.header_len - 5) ≡ short_header_tail k (length body) number r.page
    unfolding short_record short_header_tail
    tail_there k =
        let rest : List ℕ = short_number (length body) ++ short_number number ++ short_number r.page in
        let a = stands.headed in let b = stands.long in
        let count : r.header_len - 5 ≡ length rest = let is = stands.counted in omega (arith, is) in
        let behind : List ℕ = drop r.from bytes in
        ap (λ (l : List ℕ). code_of k ∷ l) (
        ap (take (r.header_len - 5)) (sym (drop-drop 5 r.from bytes))
        ∙ sym (take-take (r.header_len - 5) (r.len - 5) (drop 5 behind) (omega (arith, b)))
        ∙ ap (take (r.header_len - 5)) (mid_is behind 5 r.len (omega (arith, a, b)))
        ∙ ap (λ (l : List ℕ). take (r.header_len - 5) (drop 5 l)) placeholder_is
        ∙ ap (λ n. take n (rest ++ body)) count
        ∙ take_at rest body (length rest) refl)

    pub text_canceled : text_in (written bytes r.from (canceling sum bytes r)) r ≡ short_record sum kind.Canceled r.page number body
    unfolding record_sum
    text_canceled = text_own (sum (body ++ code_of kind.Canceled ∷ part bytes (r.from + 5) (r.header_len - 5))) kind.Canceled (ap (λ (l : List ℕ). flipped (sum (body ++ l))) (tail_there kind.Canceled))

    -- And once it is aborted it is one that is passed over.
    pub canceled_stands : HasText sum number (written bytes r.from (canceling sum bytes r)) (ended Canceled r)
    canceled_stands = ended_stands (sum (body ++ code_of kind.Canceled ∷ part bytes (r.from + 5) (r.header_len - 5))) kind.Canceled Canceled (λ is. cc) (λ is. cc) text_canceled
