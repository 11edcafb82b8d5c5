-- One more note is read.
use Rattle.std.proofs.Common.{◌≡◌, ◌<◌, ◌≤◌, ◌↔◌, ℕ, IsTrue, List, length, take, get_or, sym, subst, take_all, ◌∙◌, ap}
use Rattle.std.proofs.lemmas.Bool.Decides.{Decides-eqb}
use Rattle.sled_oracle.specs.declared.foreign.LogNote.{LogNote}
use Rattle.sled_store.specs.Foreign.{IsWhole}
use Rattle.sled_oracle.specs.OwnParts.{KnownPast, all_noted, nothing_known, log_of}
use Rattle.sled_oracle.proofs.Walks.NoteLemmas.{noted_more, whole_nowhere, no_bytes}
use Rattle.sled_oracle.proofs.foreign.is_whole.Goals as goal

pub loop-note-init : goal.loop-note-init
loop-note-init c =
    let means = whole_nowhere c.args.at c.args.text.now in
    let tested = Decides-eqb (length c.args.text.now) 0 in
    (λ t. means.0 (no_bytes c.args.text.now (tested.0 (sym c.is_empty-whole.ensures ∙ t))), λ h. c.is_empty-whole.ensures ∙ tested.1 (ap length (means.1 h)))

pub loop-note-preserved : goal.loop-note-preserved
loop-note-preserved c =
    let notes : List LogNote = c.args.past.now.notes.items in
    let i : ℕ = c.loop-note.note-index in
    let same = c.deref-note-items.ensures.value in
    let there : i < length notes = subst (λ (l : List LogNote). i < length l) same c.loop-note-test.true in
    let is : c.note-item.result ≡ get_or notes i c.note-item.result = subst (λ (l : List LogNote). c.note-item.result ≡ get_or l i c.note-item.result) same c.note-item.is in
    subst (λ (k : KnownPast). IsTrue c.keeps_whole-whole.result ↔ IsWhole (log_of k) c.args.at c.args.text.now) (sym (noted_more notes i c.note-item.result nothing_known there is))
    (c.keeps_whole-whole.ensures (all_noted (take i notes) nothing_known) c.loop-note.invariant)

pub returns : goal.returns
returns c =
    let notes : List LogNote = c.args.past.now.notes.items in
    let i : ℕ = c.loop-note.note-index in
    let end : length notes ≤ i = subst (λ (l : List LogNote). length l ≤ i) c.deref-note-items.ensures.value c.loop-note-test.false in
    subst (λ (l : List LogNote). IsTrue c.loop-note.whole ↔ IsWhole (log_of (all_noted l nothing_known)) c.args.at c.args.text.now) (take_all i notes end) c.loop-note.invariant
