-- An iterator of a log only reads it, call by call, and gives it back.
use Rattle.std.proofs.Common.{◌≡◌, ◌∙◌, ℕ, List, Option, Some, None, unwrap_or, Result, Err, IfNone, IfSome, refl, ap, sym, subst}
use Rattle.std.specs.Borrow.{MutBor}
use Rattle.sled_codec.specs.declared.result.Error.{Error}
use Rattle.sled_store.specs.Device.{Trace}
use Rattle.sled_core.specs.declared.iterator.log_iter.LogIter.{LogIter}
use Rattle.sled_core.specs.declared.iterator.log_iter.Source.{Source}
use Rattle.sled_core.specs.declared.iterator.log_iter.Source.TheVariants as source
use Rattle.sled_core.specs.declared.logger.Log.{Log}
use Rattle.sled_core.specs.Iterates.{Item}
use Rattle.sled_core.specs.Iterators.{BorrowsLog, IsLogOf, IsNext, IsOnlyRead, IsOverLog, LogIsReadFor}
use Rattle.sled_core.specs.Sources.{BorrowSame, log_in}
use Rattle.sled_core.proofs.Line.KeptCalls.{kept_further, kept_still}

none_some : {A : Type 0} (a : A) → None ≡ Some a → ⊥
none_some a is = cc

-- where two are there that are equal, they are equal
some_one : {A : Type 0} (a b : A) → Some a ≡ Some b → a ≡ b
some_one a b is = ap (λ o. unwrap_or o a) is

module _ {D C : Type 0} (trace : D → Trace) (sum : List ℕ → ℕ) where
  -- nothing was read
  read_still : (log : Log D C) → IsOnlyRead trace sum log log
  read_still log = record {
    keeps = kept_still trace sum log;
    tickets = record { awaits = λ ticket m awaits. awaits; opens = refl; given_up = λ m there. there };
    position = record { position = refl; reserved = refl; pins = refl; joined = refl; size = refl };
    buffers = record { waiting = refl; start = refl };
    heads = λ h there. there;
    fillings = λ f there. there;
    machine = refl;
    pooled = refl;
    account = refl;
  }

  -- it was read again
  read_further : (old mid new : Log D C) → IsOnlyRead trace sum old mid → IsOnlyRead trace sum mid new → IsOnlyRead trace sum old new
  read_further old mid new first so = record {
    keeps = kept_further trace sum old mid new first.keeps so.keeps;
    tickets = record {
      awaits = λ ticket m awaits. so.tickets.awaits ticket m (first.tickets.awaits ticket m awaits);
      opens = so.tickets.opens ∙ first.tickets.opens;
      given_up = λ m there. first.tickets.given_up m (so.tickets.given_up m there);
    };
    position = record {
      position = so.position.position ∙ first.position.position;
      reserved = so.position.reserved ∙ first.position.reserved;
      pins = so.position.pins ∙ first.position.pins;
      joined = so.position.joined ∙ first.position.joined;
      size = so.position.size ∙ first.position.size;
    };
    buffers = record { waiting = so.buffers.waiting ∙ first.buffers.waiting; start = so.buffers.start ∙ first.buffers.start };
    heads = λ h there. first.heads h (so.heads h there);
    fillings = λ f there. first.fillings f (so.fillings f there);
    machine = so.machine ∙ first.machine;
    pooled = so.pooled ∙ first.pooled;
    account = so.account ∙ first.account;
  }

  -- An iterator begins over a log,
  pub over_begun : (entry : MutBor (Log D C)) (it : LogIter D C) → BorrowsLog entry it → IsOverLog trace sum entry it
  over_begun entry it borrows = (entry, ap log_in borrows, refl, read_still entry.now)

  -- goes on over it,
  pub over_next : (faults : D → ℕ) (entry : MutBor (Log D C)) (old : LogIter D C) (item : Option (Result Item Error)) (new : LogIter D C) → IsNext trace faults sum old item new → IsOverLog trace sum entry old → IsOverLog trace sum entry new
  over_next faults entry old item new next over = by old.refusal next.refused next.log where
    read : (a b : Source D C) → BorrowSame a b → LogIsReadFor trace sum item a b → (r : MutBor (Log D C)) → log_in a ≡ Some r → r.ghost_name ≡ entry.ghost_name → IsOnlyRead trace sum entry.now r.now
        → (s : MutBor (Log D C)) × (log_in b ≡ Some s) × (s.ghost_name ≡ entry.ghost_name) × IsOnlyRead trace sum entry.now s.now
    read (source.File x) b same was r is name had = absurd (none_some r is)
    read (source.Log x) (source.File y) same was r is name had = absurd same
    read (source.Log x) (source.Log y) same was r is name had =
        let one : x ≡ r = some_one x r is in
        (y, refl, same ∙ ap (λ (z : MutBor (Log D C)). z.ghost_name) one ∙ name, read_further entry.now x.now y.now (subst (λ (z : MutBor (Log D C)). IsOnlyRead trace sum entry.now z.now) (sym one) had) was.read)

    by : (o : Option Error) → IfSome o (λ e. (item ≡ Some (Err e)) × (new.source ≡ old.source)) → IfNone o (LogIsReadFor trace sum item old.source new.source) → IsOverLog trace sum entry new
    by None refused was = read old.source new.source next.same_reference was over.0 over.1 over.2 over.3
    by (Some e) refused was = (over.0, ap log_in refused.1 ∙ over.1, over.2, over.3)

  -- and gives it back.
  pub over_back : (entry : MutBor (Log D C)) (it : LogIter D C) (result : Option (MutBor (Log D C))) → IsOverLog trace sum entry it → IsLogOf it result
      → (r : MutBor (Log D C)) × (result ≡ Some r) × (r.ghost_name ≡ entry.ghost_name) × IsOnlyRead trace sum entry.now r.now
  over_back entry it result over is = (over.0, is ∙ over.1, over.2, over.3)
