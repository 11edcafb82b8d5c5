-- What a note adds to a trace, and what a choice asks a crash to leave.
use Rattle.std.specs.Prelude.{ℕ, ℤ, Vec, List, map}
use Rattle.std.specs.declared.alloc.Global.{Global}
use Rattle.sled_store.specs.Device.{Left, Settled, Latest, Given}
use Rattle.sled_store.specs.declared.device.choice.Offer.{Offer}
use Rattle.sled_store.specs.declared.device.choice.Choice.{Choice}
use Rattle.sled_store.specs.declared.device.choice.Choice.TheVariants as choice

-- files under names, each with its bytes
abbrev pub files_of : List (ℤ × Vec ℕ Global) → List (ℤ × List ℕ)
files_of files = map (λ f. (f.0, f.1.items)) files

abbrev pub offered : Offer → Left
offered offer = Given offer.bytes.items (files_of offer.blobs.items) (files_of offer.snapshots.items)

-- what a crash leaves that takes a choice
abbrev pub left_of : Choice → Left
left_of (choice.Old patch) = Settled patch.items
left_of (choice.New patch) = Latest patch.items
left_of (choice.Whole offer) = offered offer
