-- Where the record of a message stands a reader meets it, and where a zero is in place of a kind he meets none.
use Rattle.std.proofs.Common.{◌≡◌, ◌≤◌, ◌+◌, ◌∙◌, ℕ, Bool, true, false, ◌==◌, if◌then◌else◌, ℤ, Option, List, ◌∷◌, ◌++◌, length, drop, get_or, Some, sym, ap, arith, refl, inl, inr, length-append, length-take, length-drop, append_assoc}
use Rattle.std.proofs.lemmas.List.{get_or-drop, get_or-take, get_or-append-add, get_or_append_left}
use Rattle.sled_codec.specs.declared.result.DiskPtr.TheVariants as ptr
use Rattle.sled_codec.specs.declared.serialization.message.LogKind.{LogKind}
use Rattle.sled_codec.specs.declared.serialization.message.LogKind.TheVariants as does
use Rattle.sled_codec.specs.declared.serialization.message.MessageKind.{MessageKind}
use Rattle.sled_codec.specs.declared.serialization.message.MessageKind.TheVariants as kind
use Rattle.sled_codec.specs.declared.serialization.message.MessageHeader.{MessageHeader}
use Rattle.sled_codec.specs.Kinds.{kind_written, kind_of, log_kind_of}
use Rattle.sled_codec.specs.Places.{part}
use Rattle.sled_codec.specs.History.{Message}
use Rattle.sled_core.specs.declared.iterator.scan.ScannedRecord.{ScannedRecord}
use Rattle.sled_core.specs.declared.iterator.scan.RecordContent.TheVariants.{Gives}
use Rattle.sled_core.specs.Reading.{StandsAt, IsMalformed, IsUnreadable, is_inline}
use Rattle.sled_core.specs.Scan.{IsMet}
use Rattle.sled_core.specs.LogFile.{MessageStands}
use Rattle.sled_core.proofs.Read.GivesLemmas.{one_header, kind_inline, blob_apart}

-- no record stands at an offset
abbrev pub IsEmpty : (List ℕ → ℕ) → ℕ → List ℕ → ℕ → ℕ → Type 0
IsEmpty sum size log lid number = (h : MessageHeader) (body : List ℕ) (len : ℕ) → StandsAt sum size log lid number h body len → ⊥

-- a message as a reader meets it
abbrev pub met_of : Message → ScannedRecord
met_of m = record { place = m.place; len = m.size; what = Gives m.kind m.page m.pointer }

-- Where a zero is in place of the kind no record stands.
pub zeros_empty : (sum : List ℕ → ℕ) (size : ℕ) (log : List ℕ) (lid number : ℕ) → get_or log (lid + 4) 0 ≡ 0 → IsEmpty sum size log lid number
zeros_empty sum size log lid number zero h body len s =
    let spelled = s.spelled in
    let n : ℕ = length s.header + length body in
    let long : 5 ≤ length s.header = let b = spelled.summed.long in omega (arith, b, ap length spelled.is, length-append ((spelled.sum ++ (spelled.code ∷ spelled.len)) ++ spelled.number) spelled.page, length-append (spelled.sum ++ (spelled.code ∷ spelled.len)) spelled.number, length-append spelled.sum (spelled.code ∷ spelled.len)) in
    let within : 5 ≤ len = let whole = ap length s.is in let there = s.in_file in omega (arith, long, whole, there, length-append s.header body, length-take len (drop lid log), length-drop lid log) in
    let at : get_or (part log lid len) 4 0 ≡ 0 = get_or-take len (drop lid log) 4 0 (omega (arith, within)) ∙ get_or-drop lid log 4 0 ∙ zero in
    let front : spelled.sum ++ (spelled.code ∷ (spelled.len ++ (spelled.number ++ spelled.page))) ≡ s.header = sym (spelled.is ∙ simp append_assoc) in
    let four : length spelled.sum + 0 ≡ 4 = let b = spelled.summed.long in omega (arith, b) in
    let code : spelled.code ≡ 0 =
    sym (ap (λ k. get_or (spelled.sum ++ (spelled.code ∷ (spelled.len ++ (spelled.number ++ spelled.page)))) k 0) (sym four) ∙ get_or-append-add spelled.sum (spelled.code ∷ (spelled.len ++ (spelled.number ++ spelled.page))) 0 0)
    ∙ ap (λ (l : List ℕ). get_or l 4 0) front
    ∙ sym (get_or_append_left s.header body 0 4 (omega (arith, long)))
    ∙ ap (λ (l : List ℕ). get_or l 4 0) (sym s.is)
    ∙ at in
    s.valid (spelled.kind ∙ ap kind_of code)

-- the kind that a message is written under says what it does

pub back_if : (b c : Bool) (x y z k : MessageKind) (d : LogKind) → log_kind_of x ≡ d → log_kind_of y ≡ d → log_kind_of z ≡ d → (if b then Some x else if c then Some y else Some z) ≡ Some k → log_kind_of k ≡ d
back_if true c x y z k d ix iy iz is = let same : x ≡ k = cc in sym (ap log_kind_of same) ∙ ix
back_if false true x y z k d ix iy iz is = let same : y ≡ k = cc in sym (ap log_kind_of same) ∙ iy
back_if false false x y z k d ix iy iz is = let same : z ≡ k = cc in sym (ap log_kind_of same) ∙ iz

log_kind_back : (does_it : LogKind) (page : ℕ) (k : MessageKind) → kind_written does_it page false ≡ Some k → log_kind_of k ≡ does_it
log_kind_back does.Replace page k is = back_if (page == 1) (page == 0) _ _ _ k does.Replace refl refl refl is
log_kind_back does.Link page k is = let same : kind.InlineLink ≡ k = cc in sym (ap log_kind_of same)
log_kind_back does.Free page k is = let same : kind.Free ≡ k = cc in sym (ap log_kind_of same)
log_kind_back does.Skip page k is = cc
log_kind_back does.Corrupted page k is = cc

-- where a kind holds its item, it is none of these
pub not_inline : (k other : MessageKind) → is_inline k ≡ true → is_inline other ≡ false → k ≡ other → ⊥
not_inline k other is not_so same = let both : true ≡ false = sym is ∙ ap is_inline same ∙ not_so in cc

module _ (sum : List ℕ → ℕ) (size : ℕ) (log : List ℕ) (lid number : ℕ) (m : Message) (stands : MessageStands sum size log lid number m) where
  holds_item : (h : MessageHeader) (body : List ℕ) (len : ℕ) → StandsAt sum size log lid number h body len → is_inline h.kind ≡ true
  holds_item h body len also =
      let same : stands.header ≡ h = one_header sum size log lid number stands.header h m.bytes body m.size len stands.stands also in
      ap (λ (x : MessageHeader). is_inline x.kind) (sym same) ∙ kind_inline m.kind m.page stands.header.kind stands.known

  -- the record of a message has a body that needs no eight bytes
  pub stands_formed : IsMalformed sum size log lid number → ⊥
  stands_formed bad =
      let holds = holds_item bad.header bad.body bad.len bad.stands in
      elim bad.kind [ inl blob ↦ blob_apart bad.header.kind blob holds | inr manifest ↦ not_inline bad.header.kind kind.BatchManifest holds refl manifest ]

  -- and names no blob
  pub stands_readable : (blobs : ℤ → Option (List ℕ)) → IsUnreadable sum size log blobs lid number → ⊥
  stands_readable blobs (inl bad) = stands_formed bad
  stands_readable blobs (inr bad) = blob_apart bad.header.kind bad.kind (holds_item bad.header bad.body bad.len bad.stands)

module _ (sum : List ℕ → ℕ) (size : ℕ) (log : List ℕ) (lid number : ℕ) (m : Message) (stands : MessageStands sum size log lid number m) (pointer : m.pointer ≡ ptr.Inline lid) where
  pub inline : is_inline stands.header.kind ≡ true
  inline = kind_inline m.kind m.page stands.header.kind stands.known

  -- the message is met there
  pub is_met : IsMet sum size log lid number (met_of m)
  unfolding IsMet
  is_met =
      let kinds : m.kind ≡ log_kind_of stands.header.kind = sym (log_kind_back m.kind m.page stands.header.kind stands.known) in
      (stands.header, m.bytes, stands.stands, (kinds, sym stands.page, inline, pointer))
