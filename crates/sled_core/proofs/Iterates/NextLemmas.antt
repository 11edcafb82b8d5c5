-- What a call of an iterator gives: its refusal, or what its rest gives over what it borrows.
use Rattle.std.proofs.Common.{◌≡◌, ◌∙◌, ◌+◌, ◌<◌, ℕ, List, Option, Some, None, Result, Ok, Err, IfNone, IfSome, OnSome, refl, ap, sym, subst, arith}
use Rattle.std.specs.Borrow.{MutBor}
use Rattle.sled_codec.specs.declared.result.Error.{Error}
use Rattle.sled_codec.specs.Errors.{IsCorrupt}
use Rattle.sled_store.specs.declared.config.RunningConfig.{RunningConfig}
use Rattle.sled_store.specs.Device.{Trace, state_of}
use Rattle.sled_core.specs.declared.iterator.log_iter.LogIter.{LogIter}
use Rattle.sled_core.specs.declared.iterator.log_iter.Source.{Source}
use Rattle.sled_core.specs.declared.iterator.log_iter.Source.TheVariants as source
use Rattle.sled_core.specs.declared.logger.Log.{Log}
use Rattle.sled_core.specs.inside.Ahead.{IsLeft, IsSpent, most_left}
use Rattle.sled_core.specs.Iterates.{Item, Damage, NextGives, NextAnswers, BehindLast}
use Rattle.sled_core.specs.invariants.Iterators.{IsAhead, IsOver}
use Rattle.sled_core.specs.Iterators.{IsNext, IsReadFor, LogIsReadFor}
use Rattle.sled_core.specs.inside.Iterators.{items_for, most_ahead}
use Rattle.sled_core.specs.Keeps.{OnlyReads}
use Rattle.sled_core.specs.Sources.{BorrowSame, config_in}
use Rattle.sled_core.proofs.Iterates.LeftLemmas.{left_still}
use Rattle.sled_core.proofs.Iterates.TurnLemmas.{damage_said, next_as}

-- what is borrowed is the same as itself
same_borrow : {D C : Type 0} (s : Source D C) → BorrowSame s s
same_borrow (source.File r) = refl
same_borrow (source.Log r) = refl

module _ {D C : Type 0} (trace : D → Trace) (faults : D → ℕ) (sum : List ℕ → ℕ) (old : LogIter D C) (new : LogIter D C) where
  -- Its refusal is its one item.
  module _ (e : Error) (is : old.refusal ≡ Some e) (given : new.refusal ≡ None) (rest : new.rest ≡ old.rest) (here : new.source ≡ old.source) where
    fine : IsCorrupt e → ⊥
    fine = subst (λ (o : Option Error). IfSome o (λ x. IsCorrupt x → ⊥)) is old.undamaged

    spent : IsSpent new.rest
    spent = subst IsSpent (sym rest) (subst (λ (o : Option Error). IfSome o (λ x. IsSpent old.rest)) is old.spent)

    same_config : config_in new.source ≡ config_in old.source
    same_config = ap config_in here

    pub next_refused : IsNext trace faults sum old (Some (Err e)) new
    unfolding IsOver
    next_refused = record {
      gives = λ items damage ahead. damage_said e items damage (λ corrupt. absurd (fine corrupt));
      ended = (given, spent);
      over = λ over. (let both : None ≡ Some e = sym over.0 ∙ is in cc);
      refused = subst (λ (o : Option Error). IfSome o (λ x. (◌≡◌ {A = Option (Result Item Error)} (Some (Err e)) (Some (Err x))) × (new.source ≡ old.source))) (sym is) (refl, here);
      answers = subst (λ (o : Option Error). IfNone o (NextAnswers sum (state_of (trace (config_in old.source).device)).blobs.file (Some (Err e)) (faults (config_in old.source).device) (faults (config_in new.source).device))) (sym is) tt;
      reads = record {
        config = ap (λ (x : RunningConfig D C). x.config) same_config;
        checksum = ap (λ (x : RunningConfig D C). x.checksum) same_config;
        unwritten = ap (λ (x : RunningConfig D C). trace x.device) same_config;
      };
      log = subst (λ (o : Option Error). IfNone o (LogIsReadFor trace sum (Some (Err e)) old.source new.source)) (sym is) tt;
      same_reference = subst (BorrowSame old.source) (sym here) (same_borrow old.source);
    }

    pub refusal_goes : most_ahead new < most_ahead old
    unfolding most_ahead
    refusal_goes = omega (arith, ap most_left rest, ap items_for is, ap items_for given)

  -- What is left gives the next item.
  module _ (none : old.refusal ≡ None) (still : new.refusal ≡ None) (item : Option (Result Item Error)) where
    ahead_left : (it : LogIter D C) → it.refusal ≡ None → (items : List Item) (damage : Damage) → IsAhead trace sum it items damage → IsLeft trace sum (config_in it.source) it.rest items damage
    unfolding IsAhead
    ahead_left it none_there items damage = subst (λ (o : Option Error). IfNone o (IsLeft trace sum (config_in it.source) it.rest items damage)) none_there

    left_ahead : (it : LogIter D C) → it.refusal ≡ None → (items : List Item) (damage : Damage) → IsLeft trace sum (config_in it.source) it.rest items damage → IsAhead trace sum it items damage
    unfolding IsAhead
    left_ahead it none_there items damage = subst (λ (o : Option Error). IfNone o (IsLeft trace sum (config_in it.source) it.rest items damage)) (sym none_there)

    behind_as : (x : Option (Result Item Error)) (P Q : Type 0) → (P → Q) → BehindLast x P → BehindLast x Q
    behind_as (Some (Ok y)) P Q so holds = tt
    behind_as None P Q so holds = so holds
    behind_as (Some (Err y)) P Q so holds = so holds

    pub next_left : ((items : List Item) (damage : Damage) → IsLeft trace sum (config_in old.source) old.rest items damage → NextGives (IsLeft trace sum (config_in old.source) new.rest) items damage item)
        → BehindLast item (IsSpent new.rest) → (IsSpent old.rest → item ≡ None)
        → NextAnswers sum (state_of (trace (config_in old.source).device)).blobs.file item (faults (config_in old.source).device) (faults (config_in new.source).device)
        → OnlyReads trace (config_in old.source) (config_in new.source) → LogIsReadFor trace sum item old.source new.source → BorrowSame old.source new.source → IsNext trace faults sum old item new
    unfolding IsOver
    next_left gives ended over answers reads log same = record {
      gives = λ items damage ahead. next_as (IsLeft trace sum (config_in old.source) new.rest) (IsAhead trace sum new)
          (λ rest more left. left_ahead new still rest more (left_still trace sum (config_in old.source) (config_in new.source) new.rest rest more reads left))
          items damage item (gives items damage (ahead_left old none items damage ahead));
      ended = behind_as item (IsSpent new.rest) ((new.refusal ≡ None) × IsSpent new.rest) (λ so. (still, so)) ended;
      over = λ is. over is.1;
      refused = subst (λ (o : Option Error). IfSome o (λ x. (item ≡ Some (Err x)) × (new.source ≡ old.source))) (sym none) tt;
      answers = subst (λ (o : Option Error). IfNone o (NextAnswers sum (state_of (trace (config_in old.source).device)).blobs.file item (faults (config_in old.source).device) (faults (config_in new.source).device))) (sym none) answers;
      reads = reads;
      log = subst (λ (o : Option Error). IfNone o (LogIsReadFor trace sum item old.source new.source)) (sym none) log;
      same_reference = same;
    }

    pub left_goes : OnSome item (most_left new.rest < most_left old.rest) → OnSome item (most_ahead new < most_ahead old)
    unfolding most_ahead
    left_goes fewer = by item fewer where
      by : (x : Option (Result Item Error)) → OnSome x (most_left new.rest < most_left old.rest) → OnSome x (most_left new.rest + items_for new.refusal < most_left old.rest + items_for old.refusal)
      by None less = tt
      by (Some y) less = omega (arith, less, ap items_for none, ap items_for still)

    -- over what a log file is on
    pub next_of_file : (r s : MutBor (RunningConfig D C)) → old.source ≡ source.File r → new.source ≡ source.File s → s.ghost_name ≡ r.ghost_name
        → ((items : List Item) (damage : Damage) → IsLeft trace sum r.now old.rest items damage → NextGives (IsLeft trace sum r.now new.rest) items damage item)
        → BehindLast item (IsSpent new.rest) → (IsSpent old.rest → item ≡ None) → NextAnswers sum (state_of (trace r.now.device)).blobs.file item (faults r.now.device) (faults s.now.device) → OnlyReads trace r.now s.now → IsNext trace faults sum old item new
    next_of_file r s from to same gives ended over answers reads =
        let was : config_in old.source ≡ r.now = ap config_in from in
        let is : config_in new.source ≡ s.now = ap config_in to in
        next_left
        (subst (λ (x : RunningConfig D C). (items : List Item) (damage : Damage) → IsLeft trace sum x old.rest items damage → NextGives (IsLeft trace sum x new.rest) items damage item) (sym was) gives)
        ended over
        (subst (λ (x : RunningConfig D C). NextAnswers sum (state_of (trace x.device)).blobs.file item (faults x.device) (faults (config_in new.source).device)) (sym was)
        (subst (λ (y : RunningConfig D C). NextAnswers sum (state_of (trace r.now.device)).blobs.file item (faults r.now.device) (faults y.device)) (sym is) answers))
        (subst (λ (x : RunningConfig D C). OnlyReads trace x (config_in new.source)) (sym was) (subst (λ (y : RunningConfig D C). OnlyReads trace r.now y) (sym is) reads))
        (subst (λ (x : Source D C). LogIsReadFor trace sum item x new.source) (sym from) (subst (λ (y : Source D C). LogIsReadFor trace sum item (source.File r) y) (sym to) tt))
        (subst (λ (x : Source D C). BorrowSame x new.source) (sym from) (subst (λ (y : Source D C). BorrowSame (source.File r) y) (sym to) same))

    -- over a log
    pub next_of_log : (r s : MutBor (Log D C)) → old.source ≡ source.Log r → new.source ≡ source.Log s → s.ghost_name ≡ r.ghost_name
        → ((items : List Item) (damage : Damage) → IsLeft trace sum r.now.config old.rest items damage → NextGives (IsLeft trace sum r.now.config new.rest) items damage item)
        → BehindLast item (IsSpent new.rest) → (IsSpent old.rest → item ≡ None) → NextAnswers sum (state_of (trace r.now.config.device)).blobs.file item (faults r.now.config.device) (faults s.now.config.device)
        → OnlyReads trace r.now.config s.now.config → IsReadFor trace sum item r.now s.now → IsNext trace faults sum old item new
    next_of_log r s from to same gives ended over answers reads log =
        let was : config_in old.source ≡ r.now.config = ap config_in from in
        let is : config_in new.source ≡ s.now.config = ap config_in to in
        next_left
        (subst (λ (x : RunningConfig D C). (items : List Item) (damage : Damage) → IsLeft trace sum x old.rest items damage → NextGives (IsLeft trace sum x new.rest) items damage item) (sym was) gives)
        ended over
        (subst (λ (x : RunningConfig D C). NextAnswers sum (state_of (trace x.device)).blobs.file item (faults x.device) (faults (config_in new.source).device)) (sym was)
        (subst (λ (y : RunningConfig D C). NextAnswers sum (state_of (trace r.now.config.device)).blobs.file item (faults r.now.config.device) (faults y.device)) (sym is) answers))
        (subst (λ (x : RunningConfig D C). OnlyReads trace x (config_in new.source)) (sym was) (subst (λ (y : RunningConfig D C). OnlyReads trace r.now.config y) (sym is) reads))
        (subst (λ (x : Source D C). LogIsReadFor trace sum item x new.source) (sym from) (subst (λ (y : Source D C). LogIsReadFor trace sum item (source.Log r) y) (sym to) log))
        (subst (λ (x : Source D C). BorrowSame x new.source) (sym from) (subst (λ (y : Source D C). BorrowSame (source.Log r) y) (sym to) same))
