-- What is met in a segment can be given, and the segments that were found can be read.
use Rattle.std.proofs.Common.{◌≡◌, ◌+◌, ◌^◌, ◌<◌, ◌≤◌, ℕ, List, length, get_or, refl, arith}
use Rattle.std.specs.List.{All, Contains}
use Rattle.std.proofs.lemmas.List.Elements.{Contains-get_or}
use Rattle.sled_core.specs.declared.iterator.Segment.{Segment}
use Rattle.sled_core.specs.declared.iterator.scan.ScannedRecord.{ScannedRecord}
use Rattle.sled_core.specs.declared.iterator.scan.RecordContent.{RecordContent}
use Rattle.sled_core.specs.declared.iterator.scan.RecordContent.TheVariants.{Gives, NamesBlob, Skipped, BatchStart}
use Rattle.sled_core.specs.Ahead.{CanBeGiven, HasEnds, KnowsKind}
use Rattle.sled_core.specs.Replayed.{NamesKind, CanBeRead}

-- a kind is known, in one way of saying it and in the other
pub knows : (what : RecordContent) → NamesKind what → KnowsKind what
knows (Gives k p pointer) known = λ kind page lid place is. cc
knows (NamesBlob k p at b) known = λ kind page lid place is no.
    let same : k ≡ kind = cc in
    known (let e = no in cc)
knows Skipped known = λ kind page lid place is. cc
knows (BatchStart peg) known = λ kind page lid place is. cc

pub known : (what : RecordContent) → KnowsKind what → NamesKind what
known (Gives k p pointer) knows = tt
known (NamesBlob k p at b) knows = knows k p at b refl
known Skipped knows = tt
known (BatchStart peg) knows = tt

-- what is met in a segment that ends below the last place
pub met_given : (size : ℕ) (s : Segment) (ms : List ScannedRecord) → s.place + size < 2 ^ 63 → All (λ m. m.place < s.place + size) ms → All (λ m. NamesKind m.what) ms → All CanBeGiven ms
met_given size s ms ends places kinds = λ k d lt. let below = places k d lt in (omega (arith, below, ends), knows (get_or ms k d).what (kinds k d lt))

-- a segment that lies in the file can be read
pub read_there : (size : ℕ) (log : List ℕ) (s : Segment) → HasEnds size s → s.slot ≤ length log → CanBeRead size log s
read_there size log s ends inside = record { aligned = ends.0; inside = inside; slot = ends.1; place = ends.2 }

-- those that can be read have their ends, and lie in the file
pub ends_of_all : (size : ℕ) (log : List ℕ) (ss : List Segment) → ((s : Segment) → Contains ss s → CanBeRead size log s) → All (HasEnds size) ss
ends_of_all size log ss ready = λ k d lt.
    let can = ready (get_or ss k d) (Contains-get_or ss k d lt) in
    (can.aligned, can.slot, can.place)
