-- A log begins: what its file has besides what is shown is what its numbers and its slots leave, as long as all of the file is shown.
use Rattle.std.proofs.Common.{◌≡◌, ◌∙◌, ◌*◌, ◌≤◌, ℕ, pos, List, length, arith, sym, subst, inl}
use Rattle.sled_codec.specs.History.{History}
use Rattle.sled_codec.specs.Places.{part}
use Rattle.sled_codec.specs.Record.{IsHeader}
use Rattle.sled_store.specs.Device.{Trace, at_rest, state_of}
use Rattle.sled_store.specs.SegmentStates.{Machine}
use Rattle.sled_core.specs.Begun.{SegmentView}
use Rattle.sled_core.specs.inside.Begun.{line_end}
use Rattle.sled_core.specs.inside.Cleared.{cleared}
use Rattle.sled_core.specs.inside.FreeSlots.{HaveOwn}
use Rattle.sled_core.specs.inside.Hides.{Hides, IsOwnRecord}
use Rattle.sled_core.specs.inside.Numbers.{HasNumbers}
use Rattle.sled_core.proofs.Numbers.Stood.{own_header_stands, own_record_stands}

module _ {from : ℕ} (sum : List ℕ → ℕ) (size : ℕ) (t : Trace) (m : Machine) (line : List SegmentView)
    (same : cleared size m line (state_of t).log.bytes ≡ (state_of t).log.bytes) (rests : (state_of t).log ≡ at_rest (state_of t).log.bytes)
    (has : HasNumbers sum size from (state_of t) m (line_end size line)) (own : HaveOwn size (line_end size line) m) where
  -- What is own stands in the file, and so it is shown.
  pub hides_at_rest : (least base : ℕ) (H : History) → from ≤ least → Hides sum size (state_of t) m line least base H
  hides_at_rest least base H above = record {
    to_come = has.to_come;
    taken = λ k number at text used inside r. (
      (has.taken k used).greatest number at text inside r,
      λ is. subst (λ (l : List ℕ). part l at (length text) ≡ text) (sym same) (own_record_stands sum size t (state_of t).log.bytes rests number at text r),
    );
    free = λ k number at text inside r j used is.
        sym ((has.taken j used).only k at text inside (subst (λ n. IsOwnRecord sum size (state_of t) n at text) is r));
    headers = λ k place mark low h. inl
        (subst (λ (l : List ℕ). IsHeader sum (part l (k * size) 20) (pos place) mark) (sym same)
        (own_header_stands sum size t (state_of t).log.bytes rests k place mark h));
    alone = λ j k place mark other low g h.
        let first = has.headers j place mark (omega (arith, above, low)) g in
        let second = has.headers k place other (omega (arith, above, low)) h in
        own.one j k first.0 second.0 (first.1 ∙ sym second.1);
  }
