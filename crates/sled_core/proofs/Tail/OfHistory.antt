-- What a record that is of a history says of the messages and the batches that begin within it.
use Rattle.std.proofs.Common.{⊎_elim, ◌≡◌, ◌∙◌, ◌+◌, ◌<◌, ◌≤◌, ℕ, pos, true, false, int_le, List, sym, ap, subst, arith, inl, inr}
use Rattle.std.specs.List.{Contains}
use Rattle.std.proofs.lemmas.Bool.Decides.{nat_tests}
use Rattle.sled_codec.specs.History.{Message, Batch, History}
use Rattle.sled_core.specs.declared.iterator.scan.ScannedRecord.{ScannedRecord}
use Rattle.sled_core.specs.declared.iterator.scan.RecordContent.{RecordContent}
use Rattle.sled_core.specs.declared.iterator.scan.RecordContent.TheVariants.{BatchStart}
use Rattle.sled_core.specs.inside.Recoverable.{MeetsMessage, StandsInline, IsOfHistory}
use Rattle.sled_core.specs.Tail.{opens}
use Rattle.sled_store.proofs.Histories.Ascending.{Ascends, one_at_place}

-- a batch that is open is one
open_is : (end : ℕ) (what : RecordContent) (peg : ℕ) → opens end what ≡ true → what ≡ BatchStart (pos peg) → end ≤ peg
open_is end what peg is at =
    let test : int_le (pos end) (pos peg) ≡ true = ap (opens end) (sym at) ∙ is in
    grind (arith, nat_tests, test)

pub closed_is : (end : ℕ) (what : RecordContent) (peg : ℕ) → opens end what ≡ false → what ≡ BatchStart (pos peg) → peg < end
closed_is end what peg is at =
    let test : int_le (pos end) (pos peg) ≡ false = ap (opens end) (sym at) ∙ is in
    grind (arith, nat_tests, test)

module _ (sum : List ℕ → ℕ) (size : ℕ) (log : List ℕ) (H : History) where
  -- a record with which a batch begins that is open
  pub opened_of : (end : ℕ) (x : ScannedRecord) → IsOfHistory sum size log H x → opens end x.what ≡ true → (c : Batch) × Contains H.batches c × (x.place ≡ c.low) × (end ≤ c.peg)
  opened_of end x (inl (n, there, meets, stands, alone, apart)) opened = elim meets.what [
    | inl gives ↦ (let no : false ≡ true = sym (ap (opens end) gives) ∙ opened in cc)
    | inr names ↦ (let no : false ≡ true = sym (ap (opens end) names.5) ∙ opened in cc)
  ]
  opened_of end x (inr (inl (c, there, place, what, alone, apart))) opened = (c, there, place, open_is end x.what c.peg opened what)
  opened_of end x (inr (inr (what, alone, apart))) opened = let no : false ≡ true = sym (ap (opens end) what) ∙ opened in cc

  -- Where a batch begins within a record, that is its beginning.
  pub batch_of : (x : ScannedRecord) → IsOfHistory sum size log H x → (b : Batch) → Contains H.batches b → x.place ≤ b.low → b.low < x.place + x.len
      → (c : Batch) × Contains H.batches c × (c.low ≡ b.low) × (x.place ≡ b.low) × (x.what ≡ BatchStart (pos c.peg))
  batch_of x (inl (n, there, meets, stands, alone, apart)) b known above under = ⊎_elim (λ at. absurd (omega (arith, at, above))) (λ behind. absurd (omega (arith, behind, under))) (apart b known)
  batch_of x (inr (inl (c, there, place, what, alone, apart))) b known above under = ⊎_elim
      (λ at. (c, there, omega (arith, at, above, place), omega (arith, at, above), what))
      (λ behind. absurd (omega (arith, behind, under)))
      (apart b known)
  batch_of x (inr (inr (what, alone, apart))) b known above under = ⊎_elim (λ at. absurd (omega (arith, at, above))) (λ behind. absurd (omega (arith, behind, under))) (apart b known)

  module _ (ordered : Ascends H.messages) where
    -- Where a message begins within a record, that is its record, which stands at its pointer.
    pub message_of : (x : ScannedRecord) → IsOfHistory sum size log H x → (m : Message) → Contains H.messages m → x.place ≤ m.place → m.place < x.place + x.len → MeetsMessage x m × StandsInline sum size log m m.pointer
    message_of x (inl (n, there, meets, stands, alone, apart)) m known above under = ⊎_elim
        (λ at.
        let place = meets.place in
        let same : n ≡ m = one_at_place H.messages n m ordered there known (omega (arith, at, above, place)) in
        subst (λ (y : Message). MeetsMessage x y × StandsInline sum size log y y.pointer) same (meets, stands))
        (λ behind. absurd (omega (arith, behind, under)))
        (alone m known)
    message_of x (inr (inl (b, there, place, what, alone, apart))) m known above under = ⊎_elim (λ at. absurd (omega (arith, at, above))) (λ behind. absurd (omega (arith, behind, under))) (alone m known)
    message_of x (inr (inr (what, alone, apart))) m known above under = ⊎_elim (λ at. absurd (omega (arith, at, above))) (λ behind. absurd (omega (arith, behind, under))) (alone m known)
