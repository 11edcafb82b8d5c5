-- What lies below a cut, and the snapshots of that, where they were those of a whole history.
use Rattle.std.proofs.Common.{◌≡◌, ◌∙◌, ◌≤◌, ◌≤ℤ◌, ℕ, ℤ, pos, negsuc, Bool, cond, nat_lt, List, [], ◌∷◌, Option, Some, refl, ap, arith, leb→le}
use Rattle.std.specs.List.{All, filter}
use Rattle.std.proofs.lemmas.Bool.{le-ltb}
use Rattle.std.proofs.lemmas.List.Elements.{All-tail}
use Rattle.sled_codec.specs.History.{Message, History, CutFits, below}
use Rattle.sled_codec.specs.Snapshots.{stable_place}
use Rattle.sled_core.specs.inside.Recoverable.{IsTableFile}
use Rattle.sled_store.proofs.Histories.Ascending.{from_filter}
use Rattle.sled_log.proofs.PageTable.TableCuts.{table_below_place}

-- Messages.

pub drops_high : (cut : ℕ) (ms : List Message) → All (λ m. cut ≤ m.place) ms → filter (λ m. nat_lt m.place cut) ms ≡ []
drops_high cut [] all = refl
drops_high cut (m ∷ ms) all =
    ap (λ (b : Bool). cond b (m ∷ filter (λ n. nat_lt n.place cut) ms) (filter (λ n. nat_lt n.place cut) ms)) (le-ltb m.place cut (all 0 m (omega arith)))
    ∙ drops_high cut ms (All-tail (λ n. cut ≤ n.place) m ms all)

-- a cut that splits nothing of all splits nothing of what lies below a place
pub fits_below : (H : History) (bound cut : ℕ) → CutFits H cut → CutFits (below H bound) cut
unfolding below
fits_below H bound cut fits = record {
  batches = λ b there low. fits.batches b (from_filter (λ x. nat_lt x.low bound) H.batches b there).0 low;
  messages = λ m there low. fits.messages m (from_filter (λ x. nat_lt x.place bound) H.messages m there).0 low;
}

-- Snapshots.

place_below : (stable : Option ℤ) (number : ℤ) (cut : ℕ) → stable ≡ Some number → number ≤ℤ pos cut → stable_place stable ≤ cut
place_below stable (pos k) cut is le = let place : stable_place stable ≡ k = ap stable_place is in omega (arith, place, leb→le k cut le.le)
place_below stable (negsuc k) cut is le = let place : stable_place stable ≡ 0 = ap stable_place is in omega (arith, place)

-- a table of no greater number than the cut
pub file_below : (sum : List ℕ → ℕ) (H : History) (cut : ℕ) (number : ℤ) (bytes : List ℕ) → number ≤ℤ pos cut → IsTableFile sum H number bytes → IsTableFile sum (below H cut) number bytes
file_below sum H cut number bytes le t = record {
  model = t.model;
  file = t.file;
  sound = t.sound;
  named = t.named;
  table = (table_below_place H cut (stable_place t.model.stable) t.model.pages (place_below t.model.stable number cut t.named le)).1 t.table;
  fits = fits_below H cut (stable_place t.model.stable) t.fits;
}
