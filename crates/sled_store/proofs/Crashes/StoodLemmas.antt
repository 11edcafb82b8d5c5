-- What a write laid down counts as placed behind a sync or a crash just where it counted before and stands in what was settled.
use Rattle.std.proofs.Common.{◌≡◌, ◌-◌, ℕ, zero, suc, List, [], ◌∷◌, length, take, refl, sym, ap, subst, arith}
use Rattle.std.specs.List.{Contains}
use Rattle.std.proofs.lemmas.List.Elements.{All-cons, All-head, All-tail}
use Rattle.sled_codec.specs.Places.{part}
use Rattle.sled_store.specs.Device.{Placement, settled_again}
use Rattle.sled_store.specs.Foreign.{Covers, IsReached, HasStood, HeaderWasPlaced, RecordWasPlaced, first_record}

-- a write that has seen the log file settle once more
abbrev pub seen : List ℕ → Placement → Placement
seen log p = record p { since = log ∷ p.since }

pub seen_again : (log : List ℕ) (was : List Placement) (p : Placement) → Contains was p → Contains (settled_again log was) (seen log p)
seen_again log [] p (k, below, is) = absurd (omega (arith, below))
seen_again log (q ∷ was) p (zero, below, is) = (zero, omega arith, ap (seen log) is)
seen_again log (q ∷ was) p (suc k, below, is) =
    let there = seen_again log was p (k, omega (arith, below), is) in
    let lt = there.1 in
    (suc there.0, omega (arith, lt), there.2)

pub seen_before : (log : List ℕ) (was : List Placement) (q : Placement) → Contains (settled_again log was) q → (p : Placement) × Contains was p × (q ≡ seen log p)
seen_before log [] q (k, below, is) = absurd (omega (arith, below))
seen_before log (p ∷ was) q (zero, below, is) = (p, (zero, omega arith, refl), sym is)
seen_before log (p ∷ was) q (suc k, below, is) =
    let there = seen_before log was q (k, omega (arith, below), is) in
    let at = there.1 in
    let lt = at.1 in
    (there.0, (suc at.0, omega (arith, lt), at.2), there.2)

-- a text stands in a log file
abbrev pub StandsIn : ℕ → List ℕ → List ℕ → Type 0
StandsIn at text log = part log at (length text) ≡ text

-- A header.
module _ (log : List ℕ) (was : List Placement) (at : ℕ) (text : List ℕ) where
  pub header_settled : HeaderWasPlaced was at text → StandsIn at text log → HeaderWasPlaced (settled_again log was) at text
  unfolding HeaderWasPlaced
  header_settled laid stands = (seen log laid.0, seen_again log was laid.0 laid.1, laid.2, laid.3, All-cons (StandsIn at text) log laid.0.since stands laid.4)

  pub header_before : HeaderWasPlaced (settled_again log was) at text → HeaderWasPlaced was at text
  unfolding HeaderWasPlaced
  header_before laid =
      let before = seen_before log was laid.0 laid.1 in
      let p : Placement = before.0 in (
        p,
        before.1,
        subst (λ (w : Placement). w.at ≡ at) before.2 laid.2,
        subst (λ (w : Placement). take 20 w.bytes ≡ text) before.2 laid.3,
        All-tail (StandsIn at text) log p.since (subst (λ (w : Placement). HasStood w at text) before.2 laid.4),
      )

  pub header_stands : HeaderWasPlaced (settled_again log was) at text → StandsIn at text log
  unfolding HeaderWasPlaced
  header_stands laid =
      let before = seen_before log was laid.0 laid.1 in
      let p : Placement = before.0 in
      All-head (StandsIn at text) log p.since (subst (λ (w : Placement). HasStood w at text) before.2 laid.4)

-- A record.
module _ (sum : List ℕ → ℕ) (size : ℕ) (log : List ℕ) (was : List Placement) (number at : ℕ) (text : List ℕ) where
  pub record_settled : RecordWasPlaced sum size was number at text → StandsIn at text log → RecordWasPlaced sum size (settled_again log was) number at text
  unfolding RecordWasPlaced
  record_settled laid stands = (seen log laid.0, seen_again log was laid.0 laid.1, laid.2, laid.3, All-cons (StandsIn at text) log laid.0.since stands laid.4)

  pub record_before : RecordWasPlaced sum size (settled_again log was) number at text → RecordWasPlaced sum size was number at text
  unfolding RecordWasPlaced
  record_before laid =
      let before = seen_before log was laid.0 laid.1 in
      let p : Placement = before.0 in (
        p,
        before.1,
        subst (λ (w : Placement). Covers (w.at, w.bytes) at text) before.2 laid.2,
        subst (λ (w : Placement). IsReached sum size number w.bytes (first_record size w.at) (at - w.at)) before.2 laid.3,
        All-tail (StandsIn at text) log p.since (subst (λ (w : Placement). HasStood w at text) before.2 laid.4),
      )

  pub record_stands : RecordWasPlaced sum size (settled_again log was) number at text → StandsIn at text log
  unfolding RecordWasPlaced
  record_stands laid =
      let before = seen_before log was laid.0 laid.1 in
      let p : Placement = before.0 in
      All-head (StandsIn at text) log p.since (subst (λ (w : Placement). HasStood w at text) before.2 laid.4)
