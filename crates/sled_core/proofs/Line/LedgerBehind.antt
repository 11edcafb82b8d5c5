-- The calls that write buffers one behind another, with the accountant's step behind each, and the slots and marks behind them.
use Rattle.std.proofs.Common.{◌≡◌, ◌∙◌, ap, sym, refl, ℕ, suc, List, [], ◌∷◌, ◌++◌, take, drop, append_assoc}
use Rattle.std.proofs.lemmas.List.{append-nil}
use Rattle.sled_store.specs.Device.{Event, Trace, Synced, Wrote}
use Rattle.sled_store.specs.Script.{after_all}
use Rattle.sled_store.proofs.Traces.ScriptLemmas.{after_joined}
use Rattle.sled_core.specs.Freeing.{Ledger}
use Rattle.sled_core.specs.Fronts.{synced_writes}
use Rattle.sled_core.specs.Ledger.{ledger_behind, writings, written_ledger, written_step}
use Rattle.sled_core.specs.SealedBuffers.{writing}
use Rattle.sled_core.specs.Waiting.{BufferAt}
use Rattle.sled_core.proofs.Line.AccountBehind.{take_one}
use Rattle.sled_core.proofs.Line.FreeingStep.{step_counts}

module _ (size : ℕ) where
  -- Writes one behind another are those of the one list, and then those of the other.
  pub ledger_joined : (xs ys : List BufferAt) (l : Ledger) → ledger_behind size (xs ++ ys) l ≡ ledger_behind size ys (ledger_behind size xs l)
  ledger_joined [] ys l = refl
  ledger_joined (x ∷ xs) ys l = ledger_joined xs ys (written_ledger size x.mark l)

  pub writings_joined : (xs ys : List BufferAt) (l : Ledger) → writings size (xs ++ ys) l ≡ writings size xs l ++ writings size ys (ledger_behind size xs l)
  writings_joined [] ys l = refl
  writings_joined (x ∷ xs) ys l =
      let next : Ledger = written_ledger size x.mark l in
      let calls : List Event = (written_step size x.mark l).calls in
      ap (λ (es : List Event). writing x.lid x.bytes (calls ++ es)) (writings_joined xs ys next)
      ∙ ap (λ (es : List Event). writing x.lid x.bytes es) (sym (append_assoc calls (writings size xs next) (writings size ys (ledger_behind size xs next))))

  -- That of one is a write and a sync, and then the accountant's calls.
  pub writings_one : (b : BufferAt) (l : Ledger) → writings size (b ∷ []) l ≡ writing b.lid b.bytes [] ++ (written_step size b.mark l).calls
  writings_one b l = ap (λ (es : List Event). writing b.lid b.bytes es) (append-nil (written_step size b.mark l).calls)

  -- It is one write that is synced.
  pub one_counted : (b : BufferAt) (l : Ledger) (t : Trace) → synced_writes (after_all (writings size (b ∷ []) l) t) ≡ suc (synced_writes t)
  one_counted b l t =
      ap (λ (es : List Event). synced_writes (after_all es (Synced ∷ Wrote b.lid b.bytes b.bytes ∷ t))) (append-nil (written_step size b.mark l).calls)
      ∙ step_counts size b.mark l (Wrote b.lid b.bytes b.bytes ∷ t)

  -- So many at the front were written, and of those that are left one more is.
  module _ (n : ℕ) (old mid new : List BufferAt) (b : BufferAt) (gone : mid ≡ drop n old) (is : mid ≡ b ∷ new) (l : Ledger) where
    taken : take (suc n) old ≡ take n old ++ b ∷ []
    taken = take_one n old b new (sym gone ∙ is)

    pub ledger_further : ledger_behind size (b ∷ []) (ledger_behind size (take n old) l) ≡ ledger_behind size (take (suc n) old) l
    ledger_further = sym (ledger_joined (take n old) (b ∷ []) l) ∙ ap (λ (bs : List BufferAt). ledger_behind size bs l) (sym taken)

    pub writings_further : (t : Trace) → after_all (writings size (b ∷ []) (ledger_behind size (take n old) l)) (after_all (writings size (take n old) l) t) ≡ after_all (writings size (take (suc n) old) l) t
    writings_further t =
        sym (after_joined (writings size (take n old) l) (writings size (b ∷ []) (ledger_behind size (take n old) l)) t)
        ∙ ap (λ (es : List Event). after_all es t) (sym (writings_joined (take n old) (b ∷ []) l))
        ∙ ap (λ (bs : List BufferAt). after_all (writings size bs l) t) (sym taken)
