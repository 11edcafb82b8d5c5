-- What a recovery gives shows the segment in which a log goes on: none where its place is the end of one, else the slot of a segment that is found, and a place in it where a record can begin.
use Rattle.std.proofs.Common.{◌≡◌, ◌≤◌, ◌%◌, ℕ, List, Option, Some, None, sym, subst}
use Rattle.sled_codec.specs.History.{History}
use Rattle.sled_codec.specs.Snapshots.{stable_place}
use Rattle.sled_store.specs.Device.{Content}
use Rattle.sled_core.specs.inside.Recoverable.{ActiveFits}
use Rattle.sled_log.proofs.Recovers.Readable.{CanRead}
use Rattle.sled_log.specs.Recovery.{RecoveryResult, Recovered, Recovers}
use Rattle.sled_log.specs.RunStates.{ShowsActive}
use Rattle.sled_log.proofs.Recovers.RecoversGood.{well_of}

-- a place that fits its slot shows it where the slot is one
shown : (size place : ℕ) (active : Option ℕ) → ActiveFits size place active → ((slot : ℕ) → active ≡ Some slot → slot % size ≡ 0) → ShowsActive size place active
shown size place None fits begins = fits
shown size place (Some slot) fits begins = (begins slot (λ i. Some slot), fits.0, fits.1)

-- What is recovered of a content that can be read back.
pub shows_active : (sum : List ℕ → ℕ) (size : ℕ) (content : Content) (H : History) (A f : ℕ) → 256 ≤ size → CanRead sum size content H A f → (x : RecoveryResult) → Recovers sum size content (Recovered x)
    → ShowsActive size (stable_place x.model.stable) x.model.active
shows_active sum size content H A f some can x recovers =
    let well = well_of sum size content H A f some can x recovers in
    let at_cut : ShowsActive size can.cut.0 can.cut.1 = shown size can.cut.0 can.cut.1 well.is_active.fits (λ slot at.
    let there = well.is_active.there slot at in
    subst (λ n. n % size ≡ 0) there.2 ((can.log.numbers.found there.0).0 there.1).slot) in
    subst (λ (o : Option ℕ). ShowsActive size (stable_place x.model.stable) o) (sym well.active) (subst (λ n. ShowsActive size n can.cut.1) (sym well.place) at_cut)
