-- What is the log's own in a log file that is at rest stands in it: all that was ever asked is whole in what was settled last, or was asked since.
use Rattle.std.proofs.Common.{◌≡◌, ◌⊎◌, ◌∙◌, ◌*◌, ℕ, ℤ, pos, List, [], ◌∷◌, length, sym, ap, subst, inl, inr}
use Rattle.std.specs.List.{Contains}
use Rattle.std.proofs.lemmas.List.Elements.{All-head}
use Rattle.sled_codec.specs.Places.{part}
use Rattle.sled_codec.specs.Record.{IsHeader}
use Rattle.sled_codec.proofs.Segments.{length-short_header}
use Rattle.sled_store.specs.Device.{BlobMade, BlobRemoved, BlobSynced, Crashed, Cut, LogState, NamesSynced, Placement, SnapshotFilled, SnapshotPublished}
use Rattle.sled_store.specs.Device.{SnapshotRemoved, StopAsked, Synced, Trace, Wrote, at_rest, log_left, state_of}
use Rattle.sled_store.specs.Foreign.{HasStood, HeaderWasPlaced, RecordWasPlaced}
use Rattle.sled_store.proofs.Crashes.StoodLemmas.{StandsIn, seen_before}
use Rattle.sled_store.proofs.Segments.Elements.{in_cases, in_first, in_nothing, in_rest}
use Rattle.sled_core.specs.inside.Hides.{IsOwnHeader, IsOwnRecord}

-- A write was asked since the log file was settled last, or has seen that.
abbrev HasSettled : LogState → Placement → Type 0
HasSettled log p = Contains log.asked (p.at, p.bytes) ⊎ ((before : List (List ℕ)) × (p.since ≡ log.settled ∷ before))

has_settled : (t : Trace) (p : Placement) → Contains (state_of t).placed p → HasSettled (state_of t).log p
has_settled [] p there = absurd (in_nothing p there)
has_settled (Wrote at asked now ∷ t) p there =
    let first : Placement = record { at = at; bytes = asked; since = [] } in
    elim (in_cases first p (state_of t).placed there) [
      | inl same ↦ inl
          (subst (λ (q : Placement). Contains ((at, asked) ∷ (state_of t).log.asked) (q.at, q.bytes)) same (in_first (at, asked) (state_of t).log.asked))
      | inr before ↦ elim (has_settled t p before) [
        | inl since ↦ inl (in_rest (at, asked) (p.at, p.bytes) (state_of t).log.asked since)
        | inr seen ↦ inr seen
      ]
    ]
has_settled (Synced ∷ t) p there =
    let before = seen_before (state_of t).log.bytes (state_of t).placed p there in inr (before.0.since, ap (λ (q : Placement). q.since) before.2)
has_settled (Crashed left ∷ t) p there =
    let before = seen_before (log_left left (state_of t).log) (state_of t).placed p there in
    inr (before.0.since, ap (λ (q : Placement). q.since) before.2)
has_settled (Cut asked now ∷ t) p there = has_settled t p there
has_settled (BlobMade place asked now done ∷ t) p there = has_settled t p there
has_settled (BlobSynced place ∷ t) p there = has_settled t p there
has_settled (BlobRemoved place done ∷ t) p there = has_settled t p there
has_settled (SnapshotFilled asked now ∷ t) p there = has_settled t p there
has_settled (SnapshotPublished number done ∷ t) p there = has_settled t p there
has_settled (SnapshotRemoved number done ∷ t) p there = has_settled t p there
has_settled (NamesSynced ∷ t) p there = has_settled t p there
has_settled (StopAsked n ∷ t) p there = has_settled t p there

-- A log file at rest.
module _ (sum : List ℕ → ℕ) (size : ℕ) (t : Trace) (bytes : List ℕ) (rests : (state_of t).log ≡ at_rest bytes) where
  -- what has stood since a write stands now
  stands_now : (p : Placement) → Contains (state_of t).placed p → (at : ℕ) (text : List ℕ) → HasStood p at text → StandsIn at text bytes
  stands_now p there at text stood = elim (has_settled t p there) [
    | inl asked ↦ absurd (in_nothing (p.at, p.bytes) (subst (λ (l : LogState). Contains l.asked (p.at, p.bytes)) rests asked))
    | inr seen ↦ subst (StandsIn at text) (ap (λ (l : LogState). l.settled) rests)
        (All-head (StandsIn at text) (state_of t).log.settled seen.0 (subst (λ (l : List (List ℕ)). HasStood
        (record { at = p.at; bytes = p.bytes; since = l }) at text) seen.1 stood))
  ]

  -- So a record that was placed stands in it, and has stood since,
  pub record_stood : (number at : ℕ) (text : List ℕ) → RecordWasPlaced sum size (state_of t).placed number at text → StandsIn at text bytes
  unfolding RecordWasPlaced
  record_stood number at text laid = stands_now laid.0 laid.1 at text laid.4

  pub own_record_stands : (number at : ℕ) (text : List ℕ) → IsOwnRecord sum size (state_of t) number at text → StandsIn at text bytes
  own_record_stands number at text own = record_stood number at text own.placed

  -- and a header.
  pub header_stood : (at : ℕ) (text : List ℕ) → HeaderWasPlaced (state_of t).placed at text → StandsIn at text bytes
  unfolding HeaderWasPlaced
  header_stood at text laid = stands_now laid.0 laid.1 at text laid.4

  pub own_header_stands : (k place : ℕ) (mark : ℤ) → IsOwnHeader sum size (state_of t) k place mark → IsHeader sum (part bytes (k * size) 20) (pos place) mark
  own_header_stands k place mark own =
      let stands = header_stood (k * size) own.text own.placed in
      let long : length own.text ≡ 20 = ap length own.is.is ∙ length-short_header sum (pos place) mark in
      subst (λ (l : List ℕ). IsHeader sum l (pos place) mark) (sym (ap (λ n. part bytes (k * size) n) (sym long) ∙ stands)) own.is
