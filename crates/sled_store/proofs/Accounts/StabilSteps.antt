-- Steps of the machine that are made one after another, and what was asked of the device where one of them fails.
use Rattle.std.proofs.Common.{Result, ◌≡◌, ◌≢◌, ◌∙◌, ℕ, ℤ, ◌+◌, ◌<◌, true, List, [], ◌∷◌, ◌++◌, ◌⊎◌, length, get_or, take, drop, refl, sym, ap, subst, add-one, drop-cons}
use Rattle.std.proofs.lemmas.List.{take-append-drop, take_more, map-append}
use Rattle.sled_store.specs.Answers.{Tears}
use Rattle.sled_store.specs.Blobs.{removing_blobs}
use Rattle.sled_store.specs.Device.{Event, Trace, BlobRemoved}
use Rattle.sled_store.specs.Script.{Performs, after_all}
use Rattle.sled_store.specs.inside.Stabilizing.{MakesStep}
use Rattle.sled_store.specs.declared.segment.accountant.SegmentAccountant.{SegmentAccountant}
use Rattle.sled_codec.specs.declared.result.Error.{Error}
use Rattle.sled_store.specs.SegmentStates.{Machine, Step, followed_by, without_calls, in_turn}
use Rattle.sled_store.proofs.Traces.ScriptLemmas.{after_joined, performs_more, performs_behind, stop_call}

-- Of some calls at least one was due, and they were made in order, all of them or up to one that failed.
pub record IsBegun (es : List Event) (old new : Trace) : Type 0 where
  pub calls : Performs es old new
  pub due : es ≢ []

-- behind one that was begun there may be others,
begun_first : (es fs : List Event) (old new : Trace) → IsBegun es old new → IsBegun (es ++ fs) old new
begun_first es fs old new begun = record { calls = performs_more es fs old new begun.calls; due = some es begun.due } where
  some : (ds : List Event) → ds ≢ [] → ds ++ fs ≢ []
  some [] due = λ is. due refl
  some (d ∷ ds) due = λ is. cc

-- and before it others that were all made
begun_behind : (es fs : List Event) (old mid new : Trace) → mid ≡ after_all es old → IsBegun fs mid new → IsBegun (es ++ fs) old new
begun_behind es fs old mid new came begun = record { calls = performs_behind es fs old mid new came begun.calls; due = some es } where
  some : (ds : List Event) → ds ++ fs ≢ []
  some [] = begun.due
  some (d ∷ ds) = λ is. cc

-- a step was made, and all of its calls
pub record IsMade (step : Step) (old : Trace) (m : Machine) (new : Trace) : Type 0 where
  pub machine : m ≡ step.machine
  pub trace : new ≡ after_all step.calls old

module _ (step : Step) (more : Machine → Step) (old mid new : Trace) (m : Machine) where
  pub made_next : (n : Machine) → IsMade step old m mid → IsMade (more m) mid n new → IsMade (followed_by step more) old n new
  made_next n first then = record {
    machine = then.machine ∙ ap (λ (k : Machine). (more k).machine) first.machine;
    trace =
        then.trace ∙ ap (λ (k : Machine). after_all (more k).calls mid) first.machine ∙ ap (after_all (more step.machine).calls) first.trace
        ∙ sym (after_joined step.calls (more step.machine).calls old);
  }

  pub failed_next : IsMade step old m mid → IsBegun (more m).calls mid new → IsBegun (followed_by step more).calls old new
  failed_next first then =
      begun_behind step.calls (more step.machine).calls old mid new first.trace (subst (λ (k : Machine). IsBegun (more k).calls mid new) first.machine then)

pub failed_first : (step : Step) (more : Machine → Step) (old new : Trace) → IsBegun step.calls old new → IsBegun (followed_by step more).calls old new
failed_first step more old new = begun_first step.calls (more step.machine).calls old new

-- the same step, of the same size
pub step_is : {T : Type 0} {result : Result T Error} {old new : Trace} {faults faults_then : ℕ} {a : SegmentAccountant} {size other : ℕ} {step now : Step} → other ≡ size → step ≡ now
    → MakesStep other step result old new faults faults_then a → MakesStep size now result old new faults faults_then a
step_is {result = result} {old = old} {new = new} {faults = faults} {faults_then = faults_then} {a = a} {other = other} {now = now} same is makes =
    subst (λ n. MakesStep n now result old new faults faults_then a) same (subst (λ (s : Step). MakesStep other s result old new faults faults_then a) is makes)

-- What is left of a step, from a trace on, ends where the whole step does.
pub record LeadsTo (rest : Step) (mid : Trace) (whole : Step) (old : Trace) : Type 0 where
  pub machine : rest.machine ≡ whole.machine
  pub made : after_all rest.calls mid ≡ after_all whole.calls old
  pub begun : (new : Trace) → IsBegun rest.calls mid new → IsBegun whole.calls old new

pub leads_itself : (step : Step) (old : Trace) → LeadsTo step old step old
leads_itself step old = record { machine = refl; made = refl; begun = λ new came. came }

pub leads_from : (rest mid_step whole : Step) (mid between old : Trace) → LeadsTo rest mid mid_step between → LeadsTo mid_step between whole old → LeadsTo rest mid whole old
leads_from rest mid_step whole mid between old near far = record {
  machine = near.machine ∙ far.machine;
  made = near.made ∙ far.made;
  begun = λ new came. far.begun new (near.begun new came);
}

pub leads_next : (step : Step) (more : Machine → Step) (old mid : Trace) (m : Machine) → IsMade step old m mid → LeadsTo (more m) mid (followed_by step more) old
leads_next step more old mid m first = record {
  machine = ap (λ (k : Machine). (more k).machine) first.machine;
  made =
      ap (λ (k : Machine). after_all (more k).calls mid) first.machine ∙ ap (after_all (more step.machine).calls) first.trace
      ∙ sym (after_joined step.calls (more step.machine).calls old);
  begun = λ new came. failed_next step more old mid new m first came;
}

-- nothing is left to be done
pub leads_end : (m : Machine) (mid old : Trace) (whole : Step) → LeadsTo (without_calls m) mid whole old → IsMade whole old m mid
leads_end m mid old whole leads = record { machine = leads.machine; trace = leads.made }

-- the same step, of the same size
pub made_same : (step : ℕ → Step) (size other : ℕ) (old : Trace) (m : Machine) (new : Trace) → other ≡ size → m ≡ (step other).machine → new ≡ after_all (step other).calls old → IsMade (step size) old m new
made_same step size other old m new same machine trace = record {
  machine = subst (λ n. m ≡ (step n).machine) same machine;
  trace = subst (λ n. new ≡ after_all (step n).calls old) same trace;
}

pub begun_same : (step : ℕ → Step) (size other : ℕ) (old new : Trace) → other ≡ size → IsBegun (step other).calls old new → IsBegun (step size).calls old new
begun_same step size other old new same came = subst (λ n. IsBegun (step n).calls old new) same came

-- What is left of a list of steps, each of which is made in turn.
module _ {X : Type 0} (step : X → Machine → Step) (now : List X) (m : Machine) (mid : Trace) (whole : Step) (old : Trace) (leads : LeadsTo (in_turn step now m) mid whole old) where
  pub turn_on : (x : X) (rest left : List X) (n : Machine) (new : Trace) → now ≡ x ∷ rest → IsMade (step x m) mid n new → left ≡ rest → LeadsTo (in_turn step left n) new whole old
  turn_on x rest left n new is made same =
      leads_from (in_turn step left n) (in_turn step now m) whole new mid old
      (subst (λ (s : Step). LeadsTo (in_turn step left n) new s mid) (sym (ap (λ l. in_turn step l m) is))
      (subst (λ l. LeadsTo (in_turn step l n) new (in_turn step (x ∷ rest) m) mid) (sym same) (leads_next (step x m) (in_turn step rest) mid new n made)))
      leads

  pub turn_failed : (x : X) (rest : List X) (new : Trace) → now ≡ x ∷ rest → IsBegun (step x m).calls mid new → IsBegun whole.calls old new
  turn_failed x rest new is came =
      leads.begun new (subst (λ (s : Step). IsBegun s.calls mid new) (sym (ap (λ l. in_turn step l m) is)) (failed_first (step x m) (in_turn step rest) mid new came))

  pub turns_done : now ≡ [] → IsMade whole old m mid
  turns_done is = leads_end m mid old whole (subst (λ l. LeadsTo (in_turn step l m) mid whole old) is leads)

-- Blobs that are removed one after another.
module _ (ps : List ℤ) (i : ℕ) (d p : ℤ) (below : i < length ps) (is : p ≡ get_or ps i d) (old mid new : Trace) (came : mid ≡ after_all (removing_blobs (take i ps)) old) where
  more : removing_blobs (take (i + 1) ps) ≡ removing_blobs (take i ps) ++ BlobRemoved p true ∷ []
  more = ap removing_blobs (take_more ps i d below) ∙ map-append (λ (q : ℤ). BlobRemoved q true) (take i ps) (get_or ps i d ∷ []) ∙ ap (λ (q : ℤ). removing_blobs (take i ps) ++ BlobRemoved q true ∷ []) (sym is)

  rest : drop i ps ≡ get_or ps i d ∷ drop (i + 1) ps
  rest = rw add-one (drop-cons ps i d below)

  all : removing_blobs ps ≡ removing_blobs (take i ps) ++ BlobRemoved p true ∷ removing_blobs (drop (i + 1) ps)
  all =
      ap removing_blobs (sym (take-append-drop i ps) ∙ ap (λ (l : List ℤ). take i ps ++ l) rest) ∙ map-append (λ (q : ℤ). BlobRemoved q true) (take i ps) (get_or ps i d ∷ drop (i + 1) ps)
      ∙ ap (λ (q : ℤ). removing_blobs (take i ps) ++ BlobRemoved q true ∷ removing_blobs (drop (i + 1) ps)) (sym is)

  pub removed_more : new ≡ BlobRemoved p true ∷ mid → new ≡ after_all (removing_blobs (take (i + 1) ps)) old
  removed_more one =
      one ∙ ap (λ (h : Trace). BlobRemoved p true ∷ h) came
      ∙ sym (after_joined (removing_blobs (take i ps)) (BlobRemoved p true ∷ []) old)
      ∙ ap (λ (es : List Event). after_all es old) (sym more)

  -- where the removal of one failed, the list was begun
  pub removals_begun : {fault : Type 0} → (new ≡ mid) ⊎ (fault × ((torn : Event) × Tears (BlobRemoved p true) torn × (new ≡ torn ∷ mid))) → IsBegun (removing_blobs ps) old new
  removals_begun left =
      subst (λ (es : List Event). IsBegun es old new) (sym all)
      (begun_behind (removing_blobs (take i ps)) (BlobRemoved p true ∷ removing_blobs (drop (i + 1) ps)) old mid new came
      (record { calls = stop_call (BlobRemoved p true) (removing_blobs (drop (i + 1) ps)) mid new left; due = λ is. cc }))
