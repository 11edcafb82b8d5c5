-- Which batches of a history begin behind what is written of a segment, and that they are the same ones where nothing becomes of its manifests.
use Rattle.std.proofs.Common.{◌≡◌, ◌≤◌, ◌<◌, ◌+◌, ℕ, List, [], ◌++◌, sym, subst, arith, inl, inr}
use Rattle.std.specs.List.{Contains}
use Rattle.std.proofs.lemmas.List.Elements.{All-contains, Contains-append_cases, Contains-append_right}
use Rattle.sled_codec.specs.History.{Batch}
use Rattle.sled_store.proofs.Segments.Elements.{in_nothing}
use Rattle.sled_core.specs.declared.iobuf.SegmentPosition.{SegmentPosition}
use Rattle.sled_core.specs.Fits.{CloseBelow}
use Rattle.sled_core.specs.inside.Fits.{HasBatches}

-- Both are the same.
pub same_batched : (size : ℕ) (site : SegmentPosition) (from : ℕ) (own own' bs bs' : List Batch) → own' ≡ own → bs' ≡ bs → HasBatches size site from own bs → HasBatches size site from own' bs'
same_batched size site from own own' bs bs' mine all has =
    subst (λ (l : List Batch). HasBatches size site from l bs') (sym mine) (subst (λ (l : List Batch). HasBatches size site from own l) (sym all) has)

-- Where all begin below what is written, none does behind it.
pub none_batched : (size : ℕ) (site : SegmentPosition) (from : ℕ) (bs : List Batch) → CloseBelow (site.place + from) bs → HasBatches size site from [] bs
none_batched size site from bs closed = record {
  noted = λ b there. absurd (in_nothing b there);
  begun = λ b there. inr (inl (All-contains (λ (x : Batch). (x.low < site.place + from) × (x.peg < site.place + from)) bs b closed there).0);
}

-- Once those of the first buffers are written, the others are left.
pub written_batched : (size : ℕ) (site : SegmentPosition) (from stop : ℕ) (done others bs : List Batch) → from ≤ stop → ((b : Batch) → Contains done b → b.low < site.place + stop)
    → HasBatches size site from (done ++ others) bs → HasBatches size site stop others bs
written_batched size site from stop done others bs up below has = record {
  noted = λ b there. has.noted b (Contains-append_right done others b there);
  begun = λ b there. elim (has.begun b there) [
    | inl own ↦ elim (Contains-append_cases done others b own) [ inl now ↦ inr (inl (below b now)) | inr later ↦ inl later ]
    | inr (inl before) ↦ inr (inl (omega (arith, before, up)))
    | inr (inr after) ↦ inr (inr after)
  ];
}

-- What closes below a place closes below a higher one.
pub closed_up : (low high : ℕ) (bs : List Batch) → low ≤ high → CloseBelow low bs → CloseBelow high bs
closed_up low high bs up closed k d lt = let its = closed k d lt in (omega (arith, its.0, up), omega (arith, its.1, up))
