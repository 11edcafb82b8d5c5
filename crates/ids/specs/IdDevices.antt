-- What a run does to its device, and what is seen of the generator over that, whatever the device has: also behind damage, and where what is
-- foreign was read, of which `IdRuns` claims no step.
use Rattle.std.specs.Prelude.{◌≡◌, ◌∷◌, ℕ, List, [], Option, None, Some}
use Rattle.std.specs.Int.NonZero.{non_zero_u64_get}
use Rattle.sled_core.specs.Positions.{Position}
use Rattle.sled_store.specs.Moments.{IsLater}
use Rattle.sled_log.specs.RunStates.{DeviceView}
use Rattle.ids.specs.declared.run.Command.{Command}
use Rattle.ids.specs.declared.run.Command.TheVariants as command
use Rattle.ids.specs.declared.run.Reply.{Reply}
use Rattle.ids.specs.declared.run.Reply.TheVariants as reply
use Rattle.ids.specs.Generators.{NextFails}
use Rattle.ids.specs.IdRuns.{Acts, GeneratorView, HasGiven, HasNotGiven, begun_view, with_block}
use Rattle.ids.specs.Openings.{HasOpened}

-- none is open behind a crash
abbrev pub CrashShows : Option GeneratorView → Reply → Option GeneratorView → Type 0
CrashShows g (reply.Crashed taken) now = now ≡ None
CrashShows g r now = now ≡ g

-- Which generator is open behind a command: one that was opened begins with the bound that stands in the log file, where a log
-- begins on what was recovered; one that was asked gave the identifier that came next, or none for an error of these kinds.
abbrev pub Shows : (List ℕ → ℕ) → ℕ → DeviceView → Option GeneratorView → Command → Reply → DeviceView → Option GeneratorView → Type 0
Shows sum size old g (command.Crash choice) r new now = CrashShows g r now
Shows sum size old g (command.Stop n) r new now = now ≡ g
Shows sum size old None command.Open reply.Opened new now =
    (n : ℕ) × (position : Position) × HasOpened sum size n position old.trace new.trace × (now ≡ Some (begun_view n position))
Shows sum size old (Some v) command.Next (reply.Given id) new now = (id ≡ v.next) × (w : GeneratorView) × HasGiven size v w × (now ≡ Some w)
Shows sum size old (Some v) command.Next (reply.Failed e) new now =
    (w : GeneratorView) × HasNotGiven size v w × NextFails e (Unit {0}) v.fault w.fault old.failures new.failures × (now ≡ Some w)
Shows sum size old (Some v) command.Close r new now = now ≡ None
Shows sum size old (Some v) (command.SetBlock block) r new now = now ≡ Some (with_block (non_zero_u64_get block) v)
Shows sum size old g c r new now = now ≡ g

-- A command that is answered so did this to the device, to whose trace its calls are added, and this generator is open then; and what is claimed of
-- where that leads holds. While none is open, just an opening, a stop and a crash do anything to the device: a recovery that meets damage has synced it,
-- and wrote nothing.
pub record Leaves (sum : List ℕ → ℕ) (size : ℕ) (g : Option GeneratorView) (old : DeviceView) (c : Command) (r : Reply)
    (Leads : Option GeneratorView → DeviceView → Type 0) : Type 0 where
  pub new : DeviceView
  pub now : Option GeneratorView
  pub later : IsLater old.trace new.trace
  pub acts : Acts sum size old g c r new
  pub shows : Shows sum size old g c r new now
  pub leads : Leads now new

-- These commands are answered by these replies, one for each, and this is what they do to the device, one behind another.
unfoldable pub Devices : (List ℕ → ℕ) → ℕ → Option GeneratorView → DeviceView → List Command → List Reply
    → (Option GeneratorView → DeviceView → Type 0) → Type 0
Devices sum size g old [] [] Ends = Ends g old
Devices sum size g old (c ∷ cs) (r ∷ rs) Ends = Leaves sum size g old c r (λ now new. Devices sum size now new cs rs Ends)
Devices sum size g old [] (r ∷ rs) Ends = ⊥
Devices sum size g old (c ∷ cs) [] Ends = ⊥
