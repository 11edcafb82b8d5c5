-- What a command of a run comes to in its phase.
use Rattle.std.proofs.Common.{◌≡◌, ◌∙◌, inl, inr, ◌≤◌, ◌<◌, ◌+◌, ◌∷◌, [], ◌↔◌, ℕ, Bool, false, List, Option, None, Some, Ok, Err, max, refl, sym, ap, subst, arith}
use Rattle.std.specs.Prelude.{IsSome, IsTrue}
use Rattle.std.specs.Int.NonZero.{non_zero_u64_get}
use Rattle.std.specs.declared.num.NonZeroU64.{NonZeroU64}
use Rattle.std.specs.declared.io.Error.{Error as IoError}
use Rattle.std.proofs.lemmas.Bool.{cases_lt}
use Rattle.sled_codec.specs.declared.result.Error.{Error}
use Rattle.sled_codec.specs.declared.result.Error.TheVariants as error
use Rattle.sled_store.specs.declared.device.choice.Choice.{Choice}
use Rattle.sled_store.specs.declared.config.RunningConfig.{RunningConfig}
use Rattle.sled_store.specs.Chosen.{MayBeChosen}
use Rattle.sled_store.specs.Device.{Crashed, Left, Trace, content_left, state_of}
use Rattle.sled_store.specs.Moments.{IsLater, Throughout}
use Rattle.sled_store.specs.Noted.{left_of}
use Rattle.sled_store.proofs.PublicLaws.{at_last, later_same}
use Rattle.sled_core.specs.Fits.{config_of, fault_of, position_of}
use Rattle.sled_core.specs.Keeps.{ConfigKept}
use Rattle.sled_core.specs.Recoverable.{NoForeign, ReadsOnlyOwn}
use Rattle.sled_log.specs.RunPhases.{traces}
use Rattle.sled_log.specs.RunStates.{DeviceView}
use Rattle.sled_log.proofs.PublicLaws.{asked_later, asked_state, may_be_left}
use Rattle.ids.specs.declared.generator.IdGenerator.{IdGenerator}
use Rattle.ids.specs.declared.run.Command.{Command}
use Rattle.ids.specs.declared.run.Command.TheVariants as told
use Rattle.ids.specs.declared.run.Reply.{Reply}
use Rattle.ids.specs.declared.run.Reply.TheVariants as reply
use Rattle.ids.specs.declared.run.step.Phase.{Phase}
use Rattle.ids.specs.declared.run.step.Phase.TheVariants.{Closed, Open}
use Rattle.ids.specs.Bounds.{GivesFrom}
use Rattle.ids.specs.Generators.{CanOpen, Generates, IsUsedUp, MayHaveAsked, NextFails, WritesBuffers, asked_of, block_of, bound_of, kept_fault, log_of, next_bound, next_of, next_position, running, size_of}
use Rattle.ids.specs.IdDevices.{CrashShows, Leaves, Shows}
use Rattle.ids.specs.IdPhases.{CarriesOut, EndsAt, IsOver, SomeStands, SomeUsedUp, StandsAt, running_in, seen, seen_in, size_in}
use Rattle.ids.specs.IdRuns.{Acts, CrashActs, CrashStep, GeneratorView, HasGiven, HasNotGiven, IdState, IsOwnLeft, IsStep, begun_view, left_by, stands_at, to_stop, with_block}
use Rattle.ids.specs.Openings.{HasOpened, HasStarted, OpenFails}
use Rattle.ids.specs.Readings.{CountsError, IsOpenError}
use Rattle.ids.proofs.PublicLaws.{generates_gives, gives_behind, gives_less}

-- Behind a crash a generator goes on from what the device gave from before.
pub gives_crashed : (sum : List ℕ → ℕ) (size n most : ℕ) (old : Trace) (choice : Choice) (taken : Bool) → (IsTrue taken → MayBeChosen choice (state_of old)) → GivesFrom sum size n most (state_of old)
    → NoForeign sum size (state_of old) (content_left (left_by (left_of choice) taken) (state_of old)) → GivesFrom sum size n most (state_of (Crashed (left_by (left_of choice) taken) ∷ old))
gives_crashed sum size n most old choice taken may gives own = gives_behind sum size n most old (left_by (left_of choice) taken) gives (may_be_left old choice taken may) own

-- A further reason for used up places is one.
fails_at : (e : Error) (used so : Type 0) (old new : Option IoError) (before now : ℕ) → (used → so) → NextFails e used old new before now → NextFails e so old new before now
fails_at (error.Io e) used so old new before now up fails = fails
fails_at error.OutOfMemory used so old new before now up fails = fails
fails_at error.PlacesUsedUp used so old new before now up fails = (up fails.0, fails.1, fails.2)
fails_at (error.Unsupported text) used so old new before now up fails = fails
fails_at (error.Held at) used so old new before now up fails = fails
fails_at (error.Corruption at) used so old new before now up fails = fails
fails_at (error.NotReserved at) used so old new before now up fails = fails
fails_at (error.CollectionNotFound name) used so old new before now up fails = fails
fails_at (error.ReportableBug text) used so old new before now up fails = fails

module _ {D C : Type 0} (view : D → DeviceView) (sum : List ℕ → ℕ) where
  -- A command with which nothing is done.
  pub stays : (phase : Phase D C) (c : Command) (r : Reply) → ((a : IdState) → StandsAt view sum phase a → Acts sum (size_in phase) a.device a.generator c r a.device)
      → ((a : IdState) → StandsAt view sum phase a → IsStep sum (SomeUsedUp D C view sum (size_in phase)) (size_in phase) a a.generator c r a.device a)
      → Acts sum (size_in phase) (view (running_in phase).device) (seen_in phase) c r (view (running_in phase).device)
      → Shows sum (size_in phase) (view (running_in phase).device) (seen_in phase) c r (view (running_in phase).device) (seen_in phase) → CarriesOut view sum phase c (phase, r)
  stays phase c r acts step here shows = record {
    step = λ a at. record { new = a.device; later = later_same a.device.trace; acts = acts a at; step = λ own. (a, step a at, at) };
    device = record { new = view (running_in phase).device; now = seen_in phase; later = later_same (traces view (running_in phase).device); acts = here; shows = shows; leads = (refl, refl) };
    kept = record { config = refl; checksum = refl };
  }

  -- A crash that takes a copy of what was chosen.
  pub crashes_as : (phase : Phase D C) (copy choice : Choice) (result : Phase D C × Reply) → left_of copy ≡ left_of choice → CarriesOut view sum phase (told.Crash copy) result → CarriesOut view sum phase (told.Crash choice) result
  crashes_as phase copy choice result same carries = record {
    step = λ a at.
        let done = carries.step a at in
        record {
          new = done.new;
          later = done.later;
          acts = subst (λ (l : Left). CrashActs l a.device result.1 done.new) same done.acts;
          step = subst (λ (l : Left). IsOwnLeft sum (size_in phase) (state_of a.device.trace) l result.1 → (b : IdState) × CrashStep a result.1 done.new b × StandsAt view sum result.0 b) same done.step;
        };
    device =
        let did = carries.device in
        record { new = did.new; now = did.now; later = did.later; acts = subst (λ (l : Left). CrashActs l (view (running_in phase).device) result.1 did.new) same did.acts; shows = did.shows; leads = did.leads };
    kept = carries.kept;
  }

  -- while no generator is open
  module _ (config : RunningConfig D C) where
    pub stays_closed : (c : Command) (r : Reply) → ((d : DeviceView) → Acts sum config.config.segment_size d None c r d) → ((a : IdState) → IsStep sum (SomeUsedUp D C view sum config.config.segment_size) config.config.segment_size a None c r a.device a)
        → Shows sum config.config.segment_size (view config.device) None c r (view config.device) None → CarriesOut view sum (Closed config) c (Closed config, r)
    stays_closed c r acts step shows = stays (Closed config) c r
        (λ a at. subst (λ (o : Option GeneratorView). Acts sum config.config.segment_size a.device o c r a.device) (sym at.shut) (acts a.device))
        (λ a at. subst (λ (o : Option GeneratorView). IsStep sum (SomeUsedUp D C view sum config.config.segment_size) config.config.segment_size a o c r a.device a) (sym at.shut) (step a)) (acts (view config.device)) shows

    -- The device is asked to stop.
    pub arms_closed : (new : RunningConfig D C) (n : ℕ) → ConfigKept config new → view new.device ≡ to_stop n (view config.device) → CarriesOut view sum (Closed config) (told.Stop n) (Closed new, reply.Armed)
    arms_closed new n kept stops = record {
      step = λ a at. record {
        new = view new.device;
        later = asked_later a.device.is_stopped n _ _ (ap (λ (d : DeviceView). d.trace) (stops ∙ ap (to_stop n) (sym at.device)));
        acts = (refl, stops ∙ ap (to_stop n) (sym at.device));
        step = λ own. (
          stands_at a (view new.device) a.generator,
          refl,
          record {
            device = refl;
            shut = at.shut;
            gives = subst (GivesFrom sum new.config.segment_size a.next a.most) (sym (asked_state (view config.device).is_stopped n _ _ (ap (λ (d : DeviceView). d.trace) stops)))
                (subst (λ k. GivesFrom sum k a.next a.most (state_of (traces view config.device))) (sym (ap (λ x. x.segment_size) kept.config)) at.gives);
          },
        );
      };
      device = record {
        new = view new.device;
        now = None;
        later = asked_later (view config.device).is_stopped n _ _ (ap (λ (d : DeviceView). d.trace) stops);
        acts = (refl, stops);
        shows = refl;
        leads = (refl, refl);
      };
      kept = kept;
    }

    -- The device crashes.
    pub crashes : (new : RunningConfig D C) (choice : Choice) (taken : Bool) → ConfigKept config new → (IsTrue taken ↔ MayBeChosen choice (state_of (traces view config.device)))
        → view new.device ≡ record { trace = Crashed (left_by (left_of choice) taken) ∷ traces view config.device; failures = (view config.device).failures; is_stopped = false }
        → CarriesOut view sum (Closed config) (told.Crash choice) (Closed new, reply.Crashed taken)
    crashes new choice taken kept may left = record {
      step = λ a at. record {
        new = view new.device;
        later = (Crashed (left_by (left_of choice) taken) ∷ [], ap (λ (d : DeviceView). d.trace) left ∙ ap (λ (d : DeviceView). Crashed (left_by (left_of choice) taken) ∷ d.trace) (sym at.device));
        acts = (
          subst (λ (d : DeviceView). IsTrue taken ↔ MayBeChosen choice (state_of d.trace)) (sym at.device) may,
          left ∙ ap (λ (d : DeviceView). record { trace = Crashed (left_by (left_of choice) taken) ∷ d.trace; failures = d.failures; is_stopped = false }) (sym at.device),
        );
        step = λ own. (
          stands_at a (view new.device) None,
          refl,
          record {
            device = refl;
            shut = refl;
            gives = subst (λ (t : Trace). GivesFrom sum new.config.segment_size a.next a.most (state_of t)) (sym (ap (λ (d : DeviceView). d.trace) left))
                (subst (λ k. GivesFrom sum k a.next a.most (state_of (Crashed (left_by (left_of choice) taken) ∷ traces view config.device))) (sym (ap (λ x. x.segment_size) kept.config))
                (gives_crashed sum config.config.segment_size a.next a.most (traces view config.device) choice taken may.0 at.gives
                (subst (λ (d : DeviceView). NoForeign sum config.config.segment_size (state_of d.trace) (content_left (left_by (left_of choice) taken) (state_of d.trace))) at.device own)));
          },
        );
      };
      device = record {
        new = view new.device;
        now = None;
        later = (Crashed (left_by (left_of choice) taken) ∷ [], ap (λ (d : DeviceView). d.trace) left);
        acts = (may, left);
        shows = refl;
        leads = (refl, refl);
      };
      kept = kept;
    }

    -- A generator can be opened where only the log's own is read.
    pub can_open : (a : IdState) → StandsAt view sum (Closed config) a → ReadsOnlyOwn sum config.config.segment_size (state_of a.device.trace)
        → CanOpen sum config.config.segment_size a.next a.most (state_of (traces view config.device))
    can_open a at own = record {
      gives = at.gives;
      own = subst (λ (d : DeviceView). ReadsOnlyOwn sum config.config.segment_size (state_of d.trace)) at.device own;
    }

    -- One that begins is seen so.
    begun : (g : IdGenerator D C) → bound_of g ≡ next_of g → asked_of g ≡ next_of g → block_of g ≡ 100 → kept_fault g ≡ None → seen g ≡ begun_view (next_of g) (position_of (log_of g))
    begun g bound asked block free = λ i. record { next = next_of g; bound = bound i; asked = asked i; block = block i; fault = free i; position = position_of (log_of g) }

    -- One was opened.
    pub opens : (g : IdGenerator D C) → ConfigKept config (running g)
        → ((n most : ℕ) → CanOpen sum config.config.segment_size n most (state_of (traces view config.device)) → Generates (traces view) sum g × (n ≤ next_of g) × (next_of g ≤ most))
        → IsLater (traces view config.device) (traces view (running g).device) → HasOpened sum config.config.segment_size (next_of g) (position_of (log_of g)) (traces view config.device) (traces view (running g).device)
        → bound_of g ≡ next_of g → asked_of g ≡ next_of g → block_of g ≡ 100 → kept_fault g ≡ None → (view (running g).device).failures ≡ (view config.device).failures
        → CarriesOut view sum (Closed config) told.Open (Open g, reply.Opened)
    opens g kept opened later started bound asked block free counted = record {
      step = λ a at. record {
        new = view (running g).device;
        later = subst (λ (d : DeviceView). IsLater d.trace (traces view (running g).device)) (sym at.device) later;
        acts = subst (λ (o : Option GeneratorView). Acts sum config.config.segment_size a.device o told.Open reply.Opened (view (running g).device)) (sym at.shut) (
          subst (λ (d : DeviceView). HasStarted sum config.config.segment_size d.trace (traces view (running g).device)) (sym at.device) started.started,
          counted ∙ ap (λ (d : DeviceView). d.failures) (sym at.device),
        );
        step = λ own.
            let goes = opened a.next a.most (can_open a at own) in
            let b : IdState = stands_at a (view (running g).device) (Some (seen g)) in (
              b,
              subst (λ (o : Option GeneratorView). IsStep sum (SomeUsedUp D C view sum config.config.segment_size) config.config.segment_size a o told.Open reply.Opened (view (running g).device) b) (sym at.shut)
                  (next_of g, position_of (log_of g), subst (λ (d : DeviceView). HasOpened sum config.config.segment_size (next_of g) (position_of (log_of g)) d.trace (traces view (running g).device)) (sym at.device) started, goes.1, goes.2, ap (λ (v : GeneratorView). stands_at a (view (running g).device) (Some v)) (begun g bound asked block free)),
              record {
                device = refl;
                seen = refl;
                generates = goes.0;
                next = goes.1;
                most = (let up = goes.2 in omega (arith, up, asked));
              },
            );
      };
      device = record {
        new = view (running g).device;
        now = Some (seen g);
        later = later;
        acts = (started.started, counted);
        shows = (next_of g, position_of (log_of g), started, ap (λ (v : GeneratorView). Some v) (begun g bound asked block free));
        leads = (refl, refl);
      };
      kept = kept;
    }

    -- None was.
    pub opens_not : (new : RunningConfig D C) (e : Error) → ConfigKept config new
        → ((n most : ℕ) → CanOpen sum config.config.segment_size n most (state_of (traces view config.device)) → Throughout (GivesFrom sum config.config.segment_size n most) (traces view config.device) (traces view new.device))
        → ((n most : ℕ) → CanOpen sum config.config.segment_size n most (state_of (traces view config.device)) → IsOpenError e)
        → IsLater (traces view config.device) (traces view new.device)
        → OpenFails sum config.config.segment_size e (traces view config.device) (traces view new.device) (view config.device).failures (view new.device).failures
        → CountsError e (view config.device).failures (view new.device).failures → CarriesOut view sum (Closed config) told.Open (Closed new, reply.Failed e)
    opens_not new e kept keeps fails later acts counts = record {
      step = λ a at. record {
        new = view new.device;
        later = subst (λ (d : DeviceView). IsLater d.trace (traces view new.device)) (sym at.device) later;
        acts = subst (λ (o : Option GeneratorView). Acts sum config.config.segment_size a.device o told.Open (reply.Failed e) (view new.device)) (sym at.shut)
            (subst (λ (d : DeviceView). OpenFails sum config.config.segment_size e d.trace (traces view new.device) d.failures (view new.device).failures) (sym at.device) acts);
        step = λ own.
            let can = can_open a at own in
            let b : IdState = stands_at a (view new.device) None in (
              b,
              subst (λ (o : Option GeneratorView). IsStep sum (SomeUsedUp D C view sum config.config.segment_size) config.config.segment_size a o told.Open (reply.Failed e) (view new.device) b) (sym at.shut)
                  (fails a.next a.most can, subst (λ (d : DeviceView). CountsError e d.failures (view new.device).failures) (sym at.device) counts, refl),
              record {
                device = refl;
                shut = refl;
                gives = subst (λ k. GivesFrom sum k a.next a.most (state_of (traces view new.device))) (sym (ap (λ x. x.segment_size) kept.config))
                    (at_last (GivesFrom sum config.config.segment_size a.next a.most) (traces view config.device) (traces view new.device) (keeps a.next a.most can));
              },
            );
      };
      device = record { new = view new.device; now = None; later = later; acts = acts; shows = refl; leads = (refl, refl) };
      kept = kept;
    }

  -- While one is open.
  module _ (g : IdGenerator D C) where
    pub stays_open : (c : Command) (r : Reply) → ((d : DeviceView) (v : GeneratorView) → Acts sum (size_of g) d (Some v) c r d) → ((a : IdState) (v : GeneratorView) → IsStep sum (SomeUsedUp D C view sum (size_of g)) (size_of g) a (Some v) c r a.device a)
        → Shows sum (size_of g) (view (running g).device) (Some (seen g)) c r (view (running g).device) (Some (seen g)) → CarriesOut view sum (Open g) c (Open g, r)
    stays_open c r acts step shows = stays (Open g) c r
        (λ a at. subst (λ (o : Option GeneratorView). Acts sum (size_of g) a.device o c r a.device) (sym at.seen) (acts a.device (seen g)))
        (λ a at. subst (λ (o : Option GeneratorView). IsStep sum (SomeUsedUp D C view sum (size_of g)) (size_of g) a o c r a.device a) (sym at.seen) (step a (seen g))) (acts (view (running g).device) (seen g)) shows

    -- What its device gives from now, as a run has it.
    pub gives_here : (a : IdState) → StandsAt view sum (Open g) a → GivesFrom sum (size_of g) a.next a.most (state_of (traces view (running g).device))
    gives_here a at =
        let low = at.next in
        let high = at.most in
        gives_less sum (size_of g) (bound_of g) a.next (asked_of g) a.most (state_of (traces view (running g).device)) (let up = g.ordered in omega (arith, low, up)) high
        (generates_gives (traces view) sum g at.generates)

    -- where no generator is open over its device then
    shut_here : (a : IdState) → StandsAt view sum (Open g) a → (new : RunningConfig D C) → new ≡ running g → StandsAt view sum (Closed new) (stands_at a a.device None)
    shut_here a at new is = record {
      device = at.device ∙ ap (λ x. view x.device) (sym is);
      shut = refl;
      gives = subst (λ (x : RunningConfig D C). GivesFrom sum x.config.segment_size a.next a.most (state_of (traces view x.device))) (sym is) (gives_here a at);
    }

    -- It is closed.
    pub closes : (new : RunningConfig D C) → new ≡ running g → CarriesOut view sum (Open g) told.Close (Closed new, reply.Closed)
    closes new is = record {
      step = λ a at. record {
        new = a.device;
        later = later_same a.device.trace;
        acts = subst (λ (o : Option GeneratorView). Acts sum (size_of g) a.device o told.Close reply.Closed a.device) (sym at.seen) (refl, refl);
        step = λ own. (
          stands_at a a.device None,
          subst (λ (o : Option GeneratorView). IsStep sum (SomeUsedUp D C view sum (size_of g)) (size_of g) a o told.Close reply.Closed a.device (stands_at a a.device None)) (sym at.seen) refl,
          shut_here a at new is,
        );
      };
      device = record {
        new = view (running g).device;
        now = None;
        later = later_same (traces view (running g).device);
        acts = (refl, refl);
        shows = refl;
        leads = (refl, ap (λ (x : RunningConfig D C). view x.device) (sym is));
      };
      kept = record { config = ap (λ (x : RunningConfig D C). x.config) is; checksum = ap (λ (x : RunningConfig D C). x.checksum) is };
    }

    -- The device is asked to stop.
    pub arms_open : (new : IdGenerator D C) (n : ℕ) → (Generates (traces view) sum g → Generates (traces view) sum new) → seen new ≡ seen g → ConfigKept (running g) (running new)
        → view (running new).device ≡ to_stop n (view (running g).device) → CarriesOut view sum (Open g) (told.Stop n) (Open new, reply.Armed)
    arms_open new n generates same kept stops = record {
      step = λ a at. record {
        new = view (running new).device;
        later = asked_later a.device.is_stopped n _ _ (ap (λ (d : DeviceView). d.trace) (stops ∙ ap (to_stop n) (sym at.device)));
        acts = (refl, stops ∙ ap (to_stop n) (sym at.device));
        step = λ own. (
          stands_at a (view (running new).device) a.generator,
          refl,
          record {
            device = refl;
            seen = at.seen ∙ ap (λ (v : GeneratorView). Some v) (sym same);
            generates = generates at.generates;
            next = (let low = at.next in let is = ap (λ (v : GeneratorView). v.next) same in omega (arith, low, is));
            most = (let high = at.most in let is = ap (λ (v : GeneratorView). v.asked) same in omega (arith, high, is));
          },
        );
      };
      device = record {
        new = view (running new).device;
        now = Some (seen new);
        later = asked_later (view (running g).device).is_stopped n _ _ (ap (λ (d : DeviceView). d.trace) stops);
        acts = (refl, stops);
        shows = ap (λ (v : GeneratorView). Some v) same;
        leads = (refl, refl);
      };
      kept = kept;
    }

    -- Its further blocks have so many identifiers.
    pub sets_block : (new : IdGenerator D C) (block : NonZeroU64) → (Generates (traces view) sum g → Generates (traces view) sum new) → next_of new ≡ next_of g → bound_of new ≡ bound_of g → asked_of new ≡ asked_of g
        → block_of new ≡ non_zero_u64_get block → log_of new ≡ log_of g → CarriesOut view sum (Open g) (told.SetBlock block) (Open new, reply.Set)
    sets_block new block generates next bound asked is same =
        let set : seen new ≡ with_block (non_zero_u64_get block) (seen g) =
        λ i. record { next = next i; bound = bound i; asked = asked i; block = is i; fault = fault_of (same i); position = position_of (same i) } in
        record {
          step = λ a at.
              let b : IdState = stands_at a a.device (Some (with_block (non_zero_u64_get block) (seen g))) in
              record {
                new = a.device;
                later = later_same a.device.trace;
                acts = subst (λ (o : Option GeneratorView). Acts sum (size_of g) a.device o (told.SetBlock block) reply.Set a.device) (sym at.seen) (refl, refl);
                step = λ own. (
                  b,
                  subst (λ (o : Option GeneratorView). IsStep sum (SomeUsedUp D C view sum (size_of g)) (size_of g) a o (told.SetBlock block) reply.Set a.device b) (sym at.seen) refl,
                  record {
                    device = at.device ∙ ap (λ x. view (config_of x).device) (sym same);
                    seen = ap (λ (v : GeneratorView). Some v) (sym set);
                    generates = generates at.generates;
                    next = (let low = at.next in omega (arith, low, next));
                    most = (let high = at.most in omega (arith, high, asked));
                  },
                );
              };
          device = record {
            new = view (running g).device;
            now = Some (seen new);
            later = later_same (traces view (running g).device);
            acts = (refl, refl);
            shows = ap (λ (v : GeneratorView). Some v) set;
            leads = (refl, ap (λ x. view (config_of x).device) (sym same));
          };
          kept = record { config = ap (λ x. (config_of x).config) same; checksum = ap (λ x. (config_of x).checksum) same };
        }

    -- It is closed, and its device crashes.
    pub crashes_open : (config : RunningConfig D C) (choice : Choice) (taken : Bool) (result : Phase D C × Reply) → config ≡ running g → result.1 ≡ reply.Crashed taken
        → CarriesOut view sum (Closed config) (told.Crash choice) result → CarriesOut view sum (Open g) (told.Crash choice) result
    crashes_open config choice taken result is crashed carries = record {
      step = λ a at.
          let b : IdState = stands_at a a.device None in
          let done = carries.step b (shut_here a at config is) in
          record {
            new = done.new;
            later = done.later;
            acts = done.acts;
            step = λ own.
                let led = done.step (subst (λ n. IsOwnLeft sum n (state_of a.device.trace) (left_of choice) result.1) (sym (ap (λ x. x.config.segment_size) is)) own) in
                (led.0, subst (λ r. CrashStep a r done.new led.0) (sym crashed) (subst (λ r. CrashStep b r done.new led.0) crashed led.1), led.2);
          };
      device =
          let did = carries.device in
          let from : view config.device ≡ view (running g).device = ap (λ (x : RunningConfig D C). view x.device) is in
          record {
            new = did.new;
            now = did.now;
            later = subst (λ (d : DeviceView). IsLater d.trace did.new.trace) from did.later;
            acts = subst (λ (d : DeviceView). CrashActs (left_of choice) d result.1 did.new) from did.acts;
            shows = subst (λ r. CrashShows (Some (seen g)) r did.now) (sym crashed) (subst (λ r. CrashShows None r did.now) crashed did.shows);
            leads = did.leads;
          };
      kept = record {
        config = carries.kept.config ∙ ap (λ (x : RunningConfig D C). x.config) is;
        checksum = carries.kept.checksum ∙ ap (λ (x : RunningConfig D C). x.checksum) is;
      };
    }

    -- It was asked for an identifier.
    module _ (new : IdGenerator D C) (generates : Generates (traces view) sum g → Generates (traces view) sum new) (kept : ConfigKept (running g) (running new)) (later : IsLater (traces view (running g).device) (traces view (running new).device)) (block : block_of new ≡ block_of g)
        (asked : asked_of new ≤ asked_of g + block_of g)
        (keeps : Generates (traces view) sum g → Throughout (GivesFrom sum (size_of g) (bound_of g) (asked_of g + block_of g)) (traces view (running g).device) (traces view (running new).device)) where
      later_here : (a : IdState) (at : StandsAt view sum (Open g) a) → IsLater a.device.trace (traces view (running new).device)
      later_here a at = subst (λ (d : DeviceView). IsLater d.trace (traces view (running new).device)) (sym at.device) later

      given : (id : ℕ) → id ≡ next_of g → next_of new ≡ id + 1 → bound_of new ≡ next_bound g → asked_of new ≡ max (asked_of g) (next_bound g) → kept_fault new ≡ kept_fault g → position_of (log_of new) ≡ next_position g
          → HasGiven (size_of g) (seen g) (seen new)
      given id is next bound most fault position = record { next = next ∙ ap (λ n. n + 1) is; bound = bound; asked = most; block = block; fault = fault; position = position }

      not_given : next_of new ≡ next_of g → bound_of new ≡ bound_of g → MayHaveAsked g new → HasNotGiven (size_of g) (seen g) (seen new)
      not_given next bound once = record { next = next; bound = bound; asked = asked; once = once; block = block }

      pub gives_next : (id : ℕ) → id ≡ next_of g → next_of new ≡ id + 1 → bound_of new ≡ next_bound g → asked_of new ≡ max (asked_of g) (next_bound g) → kept_fault new ≡ kept_fault g → position_of (log_of new) ≡ next_position g
          → (view (running new).device).failures ≡ (view (running g).device).failures → WritesBuffers {T = ℕ} (Ok id) (traces view (running g).device) (traces view (running new).device)
          → (next_of g < bound_of g → log_of new ≡ log_of g) → CarriesOut view sum (Open g) told.Next (Open new, reply.Given id)
      gives_next id is next bound most fault position counted writes within = record {
        step = λ a at. record {
          new = view (running new).device;
          later = later_here a at;
          acts = subst (λ (o : Option GeneratorView). Acts sum (size_of g) a.device o told.Next (reply.Given id) (view (running new).device)) (sym at.seen) (
            subst (λ (d : DeviceView). WritesBuffers {T = ℕ} (Ok id) d.trace (traces view (running new).device)) (sym at.device) writes,
            counted ∙ ap (λ (d : DeviceView). d.failures) (sym at.device),
            λ less. ap (λ x. view (config_of x).device) (within less) ∙ sym at.device,
          );
          step = λ own.
              let b : IdState = record { device = view (running new).device; next = id + 1; most = a.most + block_of g; generator = Some (seen new) } in
              let low = at.next in
              let high = at.most in
              let up = g.ordered in
              let ahead = g.ahead in (
                b,
                subst (λ (o : Option GeneratorView). IsStep sum (SomeUsedUp D C view sum (size_of g)) (size_of g) a o told.Next (reply.Given id) (view (running new).device) b) (sym at.seen) (
                  is,
                  omega (arith, low, is),
                  omega (arith, is, up, ahead, high),
                  seen new,
                  given id is next bound most fault position,
                  refl,
                ),
                record {
                  device = refl;
                  seen = refl;
                  generates = generates at.generates;
                  next = omega (arith, next);
                  most = omega (arith, asked, high);
                },
              );
        };
        device = record {
          new = view (running new).device;
          now = Some (seen new);
          later = later;
          acts = (writes, counted, λ less. ap (λ x. view (config_of x).device) (within less));
          shows = (is, seen new, given id is next bound most fault position, refl);
          leads = (refl, refl);
        };
        kept = kept;
      }

      pub gives_none : (e : Error) → next_of new ≡ next_of g → bound_of new ≡ bound_of g → MayHaveAsked g new → NextFails e (IsUsedUp g) (kept_fault g) (kept_fault new) (view (running g).device).failures (view (running new).device).failures
          → WritesBuffers {T = ℕ} (Err e) (traces view (running g).device) (traces view (running new).device) → (next_of g < bound_of g → ⊥) → (IsSome (kept_fault g) → running new ≡ running g)
          → CarriesOut view sum (Open g) told.Next (Open new, reply.Failed e)
      gives_none e next bound once fails writes none faulty = record {
        step = λ a at. record {
          new = view (running new).device;
          later = later_here a at;
          acts = subst (λ (o : Option GeneratorView). Acts sum (size_of g) a.device o told.Next (reply.Failed e) (view (running new).device)) (sym at.seen) (
            subst (λ (d : DeviceView). WritesBuffers {T = ℕ} (Err e) d.trace (traces view (running new).device)) (sym at.device) writes,
            elim (cases_lt (next_of g) (bound_of g)) [ inl less ↦ absurd (none less) | inr up ↦ omega (arith, up) ],
            λ some. ap (λ x. view x.device) (faulty some) ∙ sym at.device,
          );
          step = λ own.
              let b : IdState = record { device = view (running new).device; next = a.next; most = a.most + block_of g; generator = Some (seen new) } in
              let low = at.next in
              let high = at.most in (
                b,
                subst (λ (o : Option GeneratorView). IsStep sum (SomeUsedUp D C view sum (size_of g)) (size_of g) a o told.Next (reply.Failed e) (view (running new).device) b) (sym at.seen) (
                  seen new,
                  not_given next bound once,
                  fails_at e (IsUsedUp g) (SomeUsedUp D C view sum (size_of g) a) (kept_fault g) (kept_fault new) a.device.failures (view (running new).device).failures (λ used. (g, refl, at, used)) (subst (λ (d : DeviceView). NextFails e (IsUsedUp g) (kept_fault g) (kept_fault new) d.failures (view (running new).device).failures) (sym at.device) fails),
                  refl,
                ),
                record {
                  device = refl;
                  seen = refl;
                  generates = generates at.generates;
                  next = omega (arith, next, low);
                  most = omega (arith, asked, high);
                },
              );
        };
        device = record {
          new = view (running new).device;
          now = Some (seen new);
          later = later;
          acts = (writes, elim (cases_lt (next_of g) (bound_of g)) [ inl less ↦ absurd (none less) | inr up ↦ omega (arith, up) ], λ some. ap (λ x. view x.device) (faulty some));
          shows = (
            seen new,
            not_given next bound once,
            fails_at e (IsUsedUp g) (Unit {0}) (kept_fault g) (kept_fault new) (view (running g).device).failures (view (running new).device).failures (λ used. tt) fails,
            refl,
          );
          leads = (refl, refl);
        };
        kept = kept;
      }

  -- What a command does goes on from a phase that is seen so.
  pub left_in : (phase next : Phase D C) (c : Command) (r : Reply) (size : ℕ) → size_in phase ≡ size → CarriesOut view sum phase c (next, r)
      → (g : Option GeneratorView) (device : DeviceView) → IsOver view phase g device → Leaves sum size g device c r (IsOver view next)
  left_in phase next c r size same carries g device over =
      subst (λ (n : ℕ). Leaves sum n g device c r (IsOver view next)) same
      (subst (λ (o : Option GeneratorView). Leaves sum (size_in phase) o device c r (IsOver view next)) (sym over.0)
      (subst (λ (d : DeviceView). Leaves sum (size_in phase) (seen_in phase) d c r (IsOver view next)) (sym over.1) carries.device))

  -- Where a phase is some generator or device stands.
  pub some_stands : (phase : Phase D C) (size : ℕ) → size_in phase ≡ size → (a : IdState) → StandsAt view sum phase a → SomeStands D C view sum size a
  some_stands (Closed config) size same a at = inl (config, same, at)
  some_stands (Open g) size same a at = inr (g, same, at)

  -- Where a run ends, its generator is closed.
  pub ends : (phase : Phase D C) (new : RunningConfig D C) (size : ℕ) → new ≡ running_in phase → size_in phase ≡ size → (a : IdState) → StandsAt view sum phase a → EndsAt sum size (view new.device) a
  ends (Closed config) new size is same a at = record {
    at = at.device ∙ ap (λ x. view x.device) (sym is);
    gives = subst (λ (x : RunningConfig D C). GivesFrom sum size a.next a.most (state_of (traces view x.device))) (sym is)
        (subst (λ k. GivesFrom sum k a.next a.most (state_of (traces view config.device))) same at.gives);
  }
  ends (Open g) new size is same a at = record {
    at = at.device ∙ ap (λ x. view x.device) (sym is);
    gives = subst (λ (x : RunningConfig D C). GivesFrom sum size a.next a.most (state_of (traces view x.device))) (sym is)
        (subst (λ k. GivesFrom sum k a.next a.most (state_of (traces view (running g).device))) same (gives_here g a at));
  }
