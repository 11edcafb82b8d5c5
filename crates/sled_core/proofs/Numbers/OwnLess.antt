-- What is the log's own in one state is its own in another: by a sync, by a crash, by a cut and by zeros it only gets less.
use Rattle.std.proofs.Common.{◌≡◌, ◌∙◌, ◌+◌, ◌-◌, ◌*◌, ℕ, ℤ, pos, List, [], length, take, drop, replicate, get_or, sym, ap, subst, arith, inl, inr}
use Rattle.std.proofs.lemmas.Bool.{cases_lt}
use Rattle.std.proofs.lemmas.List.{get_or-drop, get_or-replicate, get_or-take, get_or_past, length-replicate}
use Rattle.sled_codec.specs.Record.{IsHeader}
use Rattle.sled_codec.proofs.Segments.{length-short_header}
use Rattle.sled_store.specs.Device.{Crashed, Cut, Left, Placement, State, Synced, Wrote, log_left, step}
use Rattle.sled_store.specs.Foreign.{HeaderWasPlaced, RecordWasPlaced}
use Rattle.sled_store.proofs.Crashes.StoodLemmas.{header_before, record_before}
use Rattle.sled_store.proofs.Own.NoRecord.{no_kind}
use Rattle.sled_store.proofs.Own.ReachedLemmas.{record_some}
use Rattle.sled_store.proofs.Segments.Elements.{in_cases}
use Rattle.sled_core.specs.Recoverable.{NoHeaderOfZeros}
use Rattle.sled_core.specs.inside.Hides.{IsOwnHeader, IsOwnRecord}
use Rattle.sled_core.proofs.Torn.WrittenBegun.{part_zeros}

module _ (sum : List ℕ → ℕ) (size : ℕ) where
  -- what is the log's own in one state is its own in another
  pub record OwnLess (t s : State) : Type 0 where
    pub records : (number at : ℕ) (text : List ℕ) → IsOwnRecord sum size t number at text → IsOwnRecord sum size s number at text
    pub headers : (k place : ℕ) (mark : ℤ) → IsOwnHeader sum size t k place mark → IsOwnHeader sum size s k place mark

  -- where it was placed there too
  less_placed : (t s : State) →
      ((number at : ℕ) (text : List ℕ) → RecordWasPlaced sum size t.placed number at text → RecordWasPlaced sum size s.placed number at text)
      → ((at : ℕ) (text : List ℕ) → HeaderWasPlaced t.placed at text → HeaderWasPlaced s.placed at text) → OwnLess t s
  less_placed t s records headers = record {
    records = λ number at text r. record { kind = r.kind; page = r.page; body = r.body; is = r.is; placed = records number at text r.placed };
    headers = λ k place mark h. record { text = h.text; is = h.is; placed = headers (k * size) h.text h.placed };
  }

  -- So it is behind a sync, a crash and a cut,
  pub less_synced : (s : State) → OwnLess (step Synced s) s
  less_synced s = less_placed (step Synced s) s (record_before sum size s.log.bytes s.placed) (header_before s.log.bytes s.placed)

  pub less_crashed : (left : Left) (s : State) → OwnLess (step (Crashed left) s) s
  less_crashed left s =
      less_placed (step (Crashed left) s) s (record_before sum size (log_left left s.log) s.placed) (header_before (log_left left s.log) s.placed)

  pub less_cut : (asked now : ℕ) (s : State) → OwnLess (step (Cut asked now) s) s
  less_cut asked now s = less_placed (step (Cut asked now) s) s (λ number at text placed. placed) (λ at text placed. placed)

  -- and behind zeros: they are no record and no header.
  abbrev zeros_of : ℕ → List ℕ
  zeros_of n = replicate n 0

  zero_at : (n i : ℕ) → ◌≡◌ {A = ℕ} (get_or (zeros_of n) i 0) 0
  zero_at n i = elim (cases_lt i n) [
    | inl low ↦ get_or-replicate n i 0 0 low
    | inr past ↦ get_or_past (zeros_of n) i 0 (omega (arith, past, length-replicate {A = ℕ} n 0))
  ]

  pub less_zeros : NoHeaderOfZeros sum → (at n : ℕ) (now : List ℕ) (s : State) → OwnLess (step (Wrote at (replicate n 0) now) s) s
  unfolding HeaderWasPlaced RecordWasPlaced
  less_zeros none at n now s = record {
    records = λ number lid text r.
        let laid = r.placed in
        elim (in_cases new laid.0 s.placed laid.1) [
          | inl same ↦ absurd (
              let zeros = ap (λ (w : Placement). w.bytes) (sym same) in
              let some = record_some sum text r.kind r.page number r.body r.is in
              no_kind sum text r.kind r.page number r.body r.is
              (ap (λ (l : List ℕ). get_or l 4 0) (sym laid.2.same)
              ∙ get_or-take (length text) (drop (lid - laid.0.at) laid.0.bytes) 4 0 (omega (arith, some))
              ∙ get_or-drop (lid - laid.0.at) laid.0.bytes 4 0
              ∙ ap (λ (l : List ℕ). get_or l (lid - laid.0.at + 4) 0) zeros ∙ zero_at n (lid - laid.0.at + 4)))
          | inr before ↦ record { kind = r.kind; page = r.page; body = r.body; is = r.is; placed = (laid.0, before, laid.2, laid.3, laid.4) }
        ];
    headers = λ k place mark h.
        let laid = h.placed in
        elim (in_cases new laid.0 s.placed laid.1) [
          | inl same ↦ absurd (
              let is : take 20 (zeros_of n) ≡ h.text = ap (λ (w : Placement). take 20 w.bytes) same ∙ laid.3 in
              let long : length (take 20 (zeros_of n)) ≡ 20 = ap length is ∙ ap length h.is.is ∙ length-short_header sum (pos place) mark in
              none (pos place) mark (subst (λ (l : List ℕ). IsHeader sum l (pos place) mark)
              (sym is ∙ part_zeros (zeros_of n) 0 20 long (λ i low high. zero_at n i)) h.is))
          | inr before ↦ record { text = h.text; is = h.is; placed = (laid.0, before, laid.2, laid.3, laid.4) }
        ];
  } where
    new : Placement
    new = record { at = at; bytes = zeros_of n; since = [] }

  -- where the same was placed
  pub less_same : (t s : State) → t.placed ≡ s.placed → OwnLess t s
  less_same t s same =
      less_placed t s (λ number at text. subst (λ (l : List Placement). RecordWasPlaced sum size l number at text) same)
      (λ at text. subst (λ (l : List Placement). HeaderWasPlaced l at text) same)

  -- and where it is its own in a third state between the two
  pub less_then : (u t s : State) → OwnLess u t → OwnLess t s → OwnLess u s
  less_then u t s first then = record {
    records = λ number at text own. then.records number at text (first.records number at text own);
    headers = λ k place mark own. then.headers k place mark (first.headers k place mark own);
  }
