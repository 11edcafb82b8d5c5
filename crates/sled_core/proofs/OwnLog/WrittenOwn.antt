-- What is the log's own behind a write: it was own before, or the write placed it. And behind a sync all that is own stands in the file.
use Rattle.std.proofs.Common.{◌≡◌, ◌⊎◌, ◌∙◌, ◌*◌, ℕ, ℤ, List, [], ◌∷◌, length, take, sym, ap, subst, inl, inr}
use Rattle.sled_codec.specs.Places.{part}
use Rattle.sled_store.specs.Device.{Placement, State, Synced, Wrote, step}
use Rattle.sled_store.specs.Foreign.{Covers, HeaderWasPlaced, RecordWasPlaced}
use Rattle.sled_store.proofs.Crashes.StoodLemmas.{header_stands, record_stands}
use Rattle.sled_store.proofs.Segments.Elements.{in_cases, in_first, in_nothing}
use Rattle.sled_core.specs.inside.Hides.{IsOwnHeader, IsOwnRecord}
use Rattle.std.specs.List.{Contains}

-- What one write placed is a part of it, or its first bytes.
pub placed_covers : (sum : List ℕ → ℕ) (size : ℕ) (p : Placement) (number lid : ℕ) (text : List ℕ) → RecordWasPlaced sum size (p ∷ []) number lid text
    → Covers (p.at, p.bytes) lid text
unfolding RecordWasPlaced
placed_covers sum size p number lid text laid = elim (in_cases p laid.0 [] laid.1) [
  | inl same ↦ subst (λ (w : Placement). Covers (w.at, w.bytes) lid text) (sym same) laid.2
  | inr none ↦ absurd (in_nothing laid.0 none)
]

pub placed_first : (p : Placement) (lid : ℕ) (text : List ℕ) → HeaderWasPlaced (p ∷ []) lid text → (p.at ≡ lid) × (take 20 p.bytes ≡ text)
unfolding HeaderWasPlaced
placed_first p lid text laid = elim (in_cases p laid.0 [] laid.1) [
  | inl same ↦ (ap (λ (w : Placement). w.at) same ∙ laid.2, ap (λ (w : Placement). take 20 w.bytes) same ∙ laid.3)
  | inr none ↦ absurd (in_nothing laid.0 none)
]

module _ (sum : List ℕ → ℕ) (size : ℕ) (s : State) where
  -- Behind a write it was own before, or the write placed it.
  module _ (at : ℕ) (asked now : List ℕ) where
    abbrev pub new : Placement
    new = record { at = at; bytes = asked; since = [] }

    -- the write is the only one of a list of it
    in_new : (w : Placement) → new ≡ w → Contains (new ∷ []) w
    in_new w same = subst (Contains (new ∷ [])) same (in_first new [])

    pub record_or_written : (number lid : ℕ) (text : List ℕ) → IsOwnRecord sum size (step (Wrote at asked now) s) number lid text
        → IsOwnRecord sum size s number lid text ⊎ RecordWasPlaced sum size (new ∷ []) number lid text
    unfolding RecordWasPlaced
    record_or_written number lid text r =
        let laid = r.placed in
        elim (in_cases new laid.0 s.placed laid.1) [
          | inl same ↦ inr (laid.0, in_new laid.0 same, laid.2, laid.3, laid.4)
          | inr before ↦ inl (record { kind = r.kind; page = r.page; body = r.body; is = r.is; placed = (laid.0, before, laid.2, laid.3, laid.4) })
        ]

    pub header_or_written : (k place : ℕ) (mark : ℤ) → (h : IsOwnHeader sum size (step (Wrote at asked now) s) k place mark)
        → IsOwnHeader sum size s k place mark ⊎ HeaderWasPlaced (new ∷ []) (k * size) h.text
    unfolding HeaderWasPlaced
    header_or_written k place mark h =
        let laid = h.placed in
        elim (in_cases new laid.0 s.placed laid.1) [
          | inl same ↦ inr (laid.0, in_new laid.0 same, laid.2, laid.3, laid.4)
          | inr before ↦ inl (record { text = h.text; is = h.is; placed = (laid.0, before, laid.2, laid.3, laid.4) })
        ]

  -- Behind a sync it stands in the file.
  pub record_synced : (number at : ℕ) (text : List ℕ) → IsOwnRecord sum size (step Synced s) number at text → part s.log.bytes at (length text) ≡ text
  record_synced number at text r = record_stands sum size s.log.bytes s.placed number at text r.placed

  pub header_synced : (k place : ℕ) (mark : ℤ) (h : IsOwnHeader sum size (step Synced s) k place mark)
      → part s.log.bytes (k * size) (length h.text) ≡ h.text
  header_synced k place mark h = header_stands s.log.bytes s.placed (k * size) h.text h.placed
