-- One more note is read.
use Rattle.std.proofs.Common.{◌≡◌, ◌<◌, ◌≤◌, ◌↔◌, ℕ, IsTrue, List, length, take, get_or, sym, subst, take_all}
use Rattle.sled_oracle.specs.declared.foreign.LogNote.{LogNote}
use Rattle.sled_store.specs.Foreign.{RecordWasPlaced}
use Rattle.sled_oracle.specs.OwnParts.{KnownPast, all_noted, nothing_known}
use Rattle.sled_oracle.proofs.Walks.NoteLemmas.{noted_more, record_nowhere}
use Rattle.sled_oracle.proofs.foreign.record_was_placed.Goals as goal

pub loop-note-init : goal.loop-note-init
loop-note-init g c = (λ t. absurd (cc), λ laid. absurd (record_nowhere g.C.Checksum.sum_of c.args.size c.args.number.0 c.args.at c.args.text.now laid))

pub loop-note-preserved : goal.loop-note-preserved
loop-note-preserved g c =
    let notes : List LogNote = c.args.past.now.notes.items in
    let i : ℕ = c.loop-note.note-index in
    let same = c.deref-note-items.ensures.value in
    let there : i < length notes = subst (λ (l : List LogNote). i < length l) same c.loop-note-test.true in
    let is : c.note-item.result ≡ get_or notes i c.note-item.result = subst (λ (l : List LogNote). c.note-item.result ≡ get_or l i c.note-item.result) same c.note-item.is in
    subst (λ (k : KnownPast). IsTrue c.in_ok-placed.placed ↔ RecordWasPlaced g.C.Checksum.sum_of c.args.size k.placed c.args.number.0 c.args.at c.args.text.now) (sym (noted_more notes i c.note-item.result nothing_known there is))
    (c.in_ok-placed.ensures.placed (all_noted (take i notes) nothing_known) c.loop-note.invariant)

pub returns-clause-placed : goal.returns-clause-placed
returns-clause-placed g c =
    let notes : List LogNote = c.args.past.now.notes.items in
    let i : ℕ = c.loop-note.note-index in
    let end : length notes ≤ i = subst (λ (l : List LogNote). length l ≤ i) c.deref-note-items.ensures.value c.loop-note-test.false in
    subst (λ (l : List LogNote). IsTrue c.loop-note.placed ↔ RecordWasPlaced g.C.Checksum.sum_of c.args.size (all_noted l nothing_known).placed c.args.number.0 c.args.at c.args.text.now) (take_all i notes end) c.loop-note.invariant
